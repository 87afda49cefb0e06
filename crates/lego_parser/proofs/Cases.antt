-- Which scan prevails where both stopped at n, by the mode of the scan of contexts alone: `context_bound` of Balance inside a
-- binding, and here where it stands in front of a first binding or behind one. Behind an end, `not_both` of Apart.
use Rattle.std.proofs.Common.{◌≡◌, ◌⊎◌, inl, inr, ℕ, suc, List, [], ◌∷◌, ◌++◌, false, Option, Some, None, map, take, refl, sym, ap, ◌∙◌, subst}
use Rattle.lego_base.specs.declared.place.Place.{Place}
use Rattle.lego_lexer.specs.Tokens.{OfSymbol}
use Rattle.lego_lexer.specs.declared.token.TokenKind.TheVariants as Token
use Rattle.lego_lexer.specs.declared.token.Symbol.TheVariants.{Semicolon}
use Rattle.lego_grammar.specs.Written.{WrittenBinding, WrittenAct}
use Rattle.lego_grammar.specs.Grammar.{Names, Nested, Item, item, ReadsBindings}
use Rattle.lego_grammar.specs.private.Machine.{Frame, Mode, Start, Between, Done, State, state, move}
use Rattle.lego_grammar.specs.private.Runs.{goes}
use Rattle.lego_parser.specs.private.Scanning.{Begin, Prevailing}
use Rattle.lego_grammar.proofs.Complete.{kept_binding}
use Rattle.lego_grammar.proofs.Sound.{Holds}
use Rattle.lego_grammar.proofs.Moving.{move_from}
use Rattle.lego_grammar.proofs.Beginnings.{ran, texts, known_texts, holds}
use Rattle.lego_parser.proofs.Depths.{the}
use Rattle.lego_parser.proofs.Scans.{holds_at, goes_append}
use Rattle.lego_parser.proofs.Prevailing.{Over, end, ends, context_inside, other_outside}
use Rattle.lego_parser.proofs.Scanning.{goes_nil}

none_some : {X : Type 0} {x : X} → ◌≡◌ {A = Option X} None (Some x) → ⊥
none_some e = cc

some_bindings : {names : Names} {ts : List Nested} {bs : List WrittenBinding} → ReadsBindings names ts bs → bs ≡ [] → ⊥
some_bindings (ReadsBindings.one r) e = cc
some_bindings (ReadsBindings.more r rs) e = cc

no_items : (bs : List WrittenBinding) → [] ≡ map (kept_binding false) bs → bs ≡ []
no_items [] e = refl
no_items (b ∷ bs) e = cc

no_tokens : (names : Names) (fs : List Frame) (all : List Nested) → Holds names false (Between []) fs all → all ≡ []
no_tokens names (f ∷ fs) all h = absurd h
no_tokens names [] all h = pick h.reads
  where
    pick : ReadsBindings names all h.items ⊎ ((all ≡ []) × (h.items ≡ [])) → all ≡ []
    pick (inl r) = absurd (some_bindings r (no_items h.items h.kept))
    pick (inr e) = e.0

-- a scan of contexts that stands in front of a first binding went over nothing
nothing : (is : List Item) {st : State} → goes is (Some (state (Between []) [])) ≡ Some st → st.mode ≡ Between [] → is ≡ []
nothing is {st} e m =
    let r = ran (texts is) is (Between []) [] (known_texts is) e in
    let h = holds (texts is) false [] (holds_at Begin.context (texts is)) r.runs in
    let empty : r.nested ≡ [] = no_tokens (texts is) st.frames r.nested (subst (λ k. Holds (texts is) false k st.frames r.nested) m h) in
    sym r.same ∙ ap (λ l. map item l) empty

-- IN FRONT. The code hands: both scans stopped at n, and the scan of contexts is in `Between` without a binding (so n is 0, which
-- it need not know).
pub context_nothing : (tokens : List Item) (n : ℕ) {st : State} → goes (take n tokens) (Some (state (Between []) [])) ≡ Some st
    → goes (take (suc n) tokens) (Some (state (Between []) [])) ≡ None → goes (take (suc n) tokens) (Some (state Start [])) ≡ None
    → st.mode ≡ Between [] → Prevailing tokens n (Between []) st
context_nothing tokens n {st} e f h m =
    let none : take n tokens ≡ [] = nothing (take n tokens) e m in
    let here : state (Between []) [] ≡ st = the (ap (λ l. goes l (Some (state (Between []) []))) (sym none) ∙ e) in
    context_inside tokens n {so = state Start []} e f (ap (λ l. goes l (Some (state Start []))) none) h
    (λ p. subst (λ s. move false (Token.Symbol Semicolon) p 0 s ≡ None) here refl) (λ p. refl)

-- BEHIND A BINDING, by the mode. The code hands: both scans stopped at n, and the scan of contexts is in `Between` with a binding.
pub other_behind : (tokens : List Item) (n : ℕ) {st sc : State} {b : WrittenBinding} {bs : List WrittenBinding} → goes (take n tokens) (Some (state Start [])) ≡ Some st
    → goes (take (suc n) tokens) (Some (state Start [])) ≡ None
    → goes (take n tokens) (Some (state (Between []) [])) ≡ Some sc → goes (take (suc n) tokens) (Some (state (Between []) [])) ≡ None
    → sc.mode ≡ Between (b ∷ bs) → Prevailing tokens n Start st
other_behind tokens n {st} {sc} {b} {bs} e f g h m =
    let p : Place = record { line = 1; column = 1 } in
    other_outside tokens n e f g h p (inr (ap (λ k. move false (Token.Symbol Semicolon) p 0 (state k sc.frames)) m))

-- Tokens that end with a `;` and are gone over, end a command: so such tokens are read, or one of them has no reading.
pub ends_done : (is : List Item) (p : Place) (m : Mode) {s : State} → goes (is ++ end p ∷ []) (Some (state m [])) ≡ Some s → (d : WrittenAct) × (s.mode ≡ Done d)
ends_done is p m {s} e = go (goes is start) refl
  where
    start : Option State
    start = Some (state m [])

    over : (k : Mode) → Over k → (d : WrittenAct) × (k ≡ Done d)
    over (Done d) o = (d, refl)
    over _ o = absurd o

    go : (o : Option State) → goes is start ≡ o → (d : WrittenAct) × (s.mode ≡ Done d)
    go None k = absurd (none_some (sym (ap (λ z. goes (end p ∷ []) z) k) ∙ (sym (goes_append is (end p ∷ []) start) ∙ e)))
    go (Some s0) k =
        let one : move false (Token.Symbol Semicolon) p 0 s0 ≡ Some s =
        sym (goes_nil (move false (Token.Symbol Semicolon) p 0 s0)) ∙ (sym (ap (λ z. goes (end p ∷ []) z) k) ∙ (sym (goes_append is (end p ∷ []) start) ∙ e)) in
        let x = move_from false (OfSymbol Semicolon) p 0 s0.mode s0.frames one in
        over s.mode (ends x.1 refl)
