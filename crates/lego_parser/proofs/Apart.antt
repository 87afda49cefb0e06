-- Where the scan of contexts has ended a command, the other scan is no more; and where it has gone over nothing.
use Rattle.std.proofs.Common.{◌≡◌, ◌⊎◌, inl, inr, ℕ, List, [], ◌∷◌, ◌++◌, false, Option, Some, None, map, refl, sym, ap, ◌∙◌, subst}
use Rattle.lego_base.specs.declared.place.Place.{Place}
use Rattle.lego_lexer.specs.Tokens.{Lexeme, OfSymbol}
use Rattle.lego_lexer.specs.declared.token.Symbol.TheVariants.{CloseSquare, Semicolon}
use Rattle.lego_grammar.specs.Written.{WrittenBinding, WrittenAct, WrittenCommand}
use Rattle.lego_grammar.specs.Grammar.{Names, Nested, Item, item, symbol, ReadsCommand, IsContext}
use Rattle.lego_grammar.specs.private.Machine.{Frame, Mode, Start, Want, Between, Done, State, state, move}
use Rattle.lego_grammar.specs.private.Runs.{class, goes}
use Rattle.lego_parser.specs.private.Scanning.{Begin}
use Rattle.lego_grammar.proofs.Transitions.{Move}
use Rattle.lego_grammar.proofs.Moving.{move_from}
use Rattle.lego_grammar.proofs.Unique.{behind_square, context_ends}
use Rattle.lego_grammar.proofs.Beginnings.{ran, texts, known_texts, map-both}
use Rattle.lego_parser.proofs.Sides.{Elsewhere, run_elsewhere}
use Rattle.lego_parser.proofs.Scans.{finished, goes_append}
use Rattle.lego_parser.proofs.Prevailing.{end, begins_context, operand_end}
use Rattle.lego_parser.proofs.Deciding.{none_behind, append_nil}
use Rattle.lego_parser.proofs.Scanning.{goes_nil}

none_some : {X : Type 0} {x : X} → ◌≡◌ {A = Option X} None (Some x) → ⊥
none_some e = cc

want_end : {fs gs : List Frame} {t : Nested} {n : ℕ} {m : Mode} → Move false Want fs t n m gs → t.lexeme ≡ OfSymbol Semicolon → ⊥
want_end (Move.want o) e = operand_end o e

-- the other scan does not go over a `]` and a `;` behind it
not_over : (us : List Item) (x : Lexeme) (q p : Place) {so : State} → x ≡ OfSymbol CloseSquare → (o : Option State) → goes us (Some (state Start [])) ≡ o
    → goes ((us ++ record { lexeme = x; place = q } ∷ []) ++ end p ∷ []) (Some (state Start [])) ≡ Some so → ⊥
not_over us x q p {so} l o e g = go o (sym e) (second (goes (us ++ last) (Some (state Start []))) refl)
  where
    last : List Item
    last = record { lexeme = x; place = q } ∷ []

    start : Option State
    start = Some (state Start [])

    second : (o : Option State) → goes (us ++ last) start ≡ o → (s : State) × (goes (us ++ last) start ≡ Some s) × (move false (class (OfSymbol Semicolon)) p 0 s ≡ Some so)
    second None k = absurd (none_some (sym (ap (λ z. goes (end p ∷ []) z) k) ∙ (sym (goes_append (us ++ last) (end p ∷ []) start) ∙ g)))
    second (Some s) k =
        (s, k, sym (goes_nil (move false (class (OfSymbol Semicolon)) p 0 s)) ∙ (sym (ap (λ z. goes (end p ∷ []) z) k) ∙ (sym (goes_append (us ++ last) (end p ∷ []) start) ∙ g)))

    go : (o : Option State) → o ≡ goes us start → (s : State) × (goes (us ++ last) start ≡ Some s) × (move false (class (OfSymbol Semicolon)) p 0 s ≡ Some so) → ⊥
    go None k y = none_some (ap (λ z. goes last z) k ∙ (sym (goes_append us last start) ∙ y.1))
    go (Some s0) k y =
        let one : move false (class x) q 0 s0 ≡ Some y.0 = sym (goes_nil (move false (class x) q 0 s0)) ∙ (ap (λ z. goes last z) k ∙ (sym (goes_append us last start) ∙ y.1)) in
        let a = move_from false x q 0 s0.mode s0.frames one in
        let b = move_from false (OfSymbol Semicolon) p 0 y.0.mode y.0.frames y.2 in
        let r = ran (texts (us ++ last)) (us ++ last) Start [] (known_texts (us ++ last)) y.1 in
        pick y.0 b.0 b.1 (run_elsewhere false r.runs tt) (behind_square false a.1 l)
      where
        pick : (s : State) (d : ℕ) → Move false s.mode s.frames (record { nesting = d; place = p; lexeme = OfSymbol Semicolon }) 0 so.mode so.frames → Elsewhere s.mode s.frames
            → (s.mode ≡ Want) ⊎ ((bs : List WrittenBinding) × (s.mode ≡ Between bs)) → ⊥
        pick s d b w (inl h) = want_end (subst (λ m. Move false m s.frames (record { nesting = d; place = p; lexeme = OfSymbol Semicolon }) 0 so.mode so.frames) h b) refl
        pick s d b w (inr h) = subst (λ m. Elsewhere m s.frames) h.1 w

-- NOT BOTH. The code hands: both scans went over the same tokens, and that of contexts is in `Done`. This cannot be.
pub not_both : (is : List Item) {st so : State} (d : WrittenAct) → goes is (Some (state (Between []) [])) ≡ Some st → st.mode ≡ Done d → goes is (Some (state Start [])) ≡ Some so → ⊥
not_both is {st} {so} d e m g =
    let f = finished is Begin.context e in
    let n : f.rest ≡ [] = none_behind f.behind m in
    go f.nested f.command (subst (λ l. ReadsCommand f.names l f.command) (append_nil f.nested f.rest n) f.reads) (begins_context f.command.act f.start) f.same
  where
    go : {names : Names} (nested : List Nested) (c : WrittenCommand) → ReadsCommand names nested c → IsContext c.act → map item nested ≡ is → ⊥
    go nested c (ReadsCommand.command {t} {ts} p r) k same =
        let y = context_ends r k in
        let items : (map item y.0 ++ item y.1 ∷ []) ++ end p ∷ [] ≡ is =
        ap (λ l. l ++ end p ∷ []) (sym (map-both y.0 (y.1 ∷ []))) ∙ (ap (λ l. map item l ++ end p ∷ []) (sym y.2) ∙ (sym (map-both (t ∷ ts) (symbol 0 p Semicolon ∷ [])) ∙ same)) in
        not_over (map item y.0) y.1.lexeme y.1.place p y.3 (goes (map item y.0) (Some (state Start []))) refl (ap (λ l. goes l (Some (state Start []))) items ∙ g)
