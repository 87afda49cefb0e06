-- Which of the two scans says how tokens are nested, where token n is the first one without a reading.
use Rattle.std.proofs.Common.{◌≡◌, ◌⊎◌, inl, inr, ℕ, suc, ◌≤◌, List, [], ◌∷◌, ◌++◌, false, Some, None, map, take, refl, sym, ap, ◌∙◌, subst, arith}
use Rattle.lego_base.specs.declared.place.Place.{Place}
use Rattle.lego_term.specs.declared.binder.Mark.TheVariants.{Plain, Implicit}
use Rattle.lego_lexer.specs.Tokens.{OfSymbol}
use Rattle.lego_lexer.specs.declared.token.TokenKind.TheVariants as Token
use Rattle.lego_lexer.specs.declared.token.Symbol.TheVariants.{Semicolon}
use Rattle.lego_grammar.specs.declared.surface.Kind.TheVariants.{Lambda, Pi, Sigma}
use Rattle.lego_grammar.specs.Written.{Written, WrittenAct, WrittenCommand}
use Rattle.lego_grammar.specs.Grammar.{Names, Nested, Item, item, ReadsCommand, Parses, IsContext}
use Rattle.lego_grammar.specs.Refusals.{EndsInBinding, Prevails}
use Rattle.lego_grammar.specs.private.Machine.{Frame, Mode, Start, Between, Done, State, state, move}
use Rattle.lego_grammar.specs.private.Runs.{goes, start_of}
use Rattle.lego_parser.specs.private.Scanning.{Begin, Prevailing}
use Rattle.lego_grammar.proofs.Transitions.{Closes, Operand, Move}
use Rattle.lego_grammar.proofs.Sound.{Holds}
use Rattle.lego_grammar.proofs.Moving.{move_from}
use Rattle.lego_grammar.proofs.Beginnings.{ran, texts, known_texts, holds, unexpected_at}
use Rattle.lego_parser.proofs.Scans.{holds_at, kind, finished, begun, goes_append, begins_not, none_on}

-- a `;`
abbrev pub end : Place → Item
end p = record { lexeme = OfSymbol Semicolon; place = p }

less : (n : ℕ) → n ≤ suc n
less n = omega arith

not_start : {A : Type 0} → Start ≡ Between [] → A
not_start e = cc

pub begins_context : (d : WrittenAct) → start_of d ≡ Between [] → IsContext d
begins_context d e = pick (kind d)
  where
    pick : (IsContext d × (start_of d ≡ Between [])) ⊎ ((IsContext d → ⊥) × (start_of d ≡ Start)) → IsContext d
    pick (inl h) = h.0
    pick (inr h) = not_start (sym h.1 ∙ e)

pub begins_other : (d : WrittenAct) → start_of d ≡ Start → IsContext d → ⊥
begins_other d e k = pick (kind d)
  where
    pick : (IsContext d × (start_of d ≡ Between [])) ⊎ ((IsContext d → ⊥) × (start_of d ≡ Start)) → ⊥
    pick (inl h) = not_start (sym e ∙ h.1)
    pick (inr h) = h.0 k

-- CONTEXT ALONE. The code hands: the scan of contexts stopped at n, and the other one before n (by `none_on`, from its stop).
pub context_alone : (tokens : List Item) (n : ℕ) {st : State} → goes (take n tokens) (Some (state (Between []) [])) ≡ Some st
    → goes (take (suc n) tokens) (Some (state (Between []) [])) ≡ None → goes (take n tokens) (Some (state Start [])) ≡ None
    → Prevailing tokens n (Between []) st
context_alone tokens n {st} e f g = record {
  begin = Begin.context;
  there = e;
  unexpected = unexpected_at tokens n (Between []) (holds_at Begin.context (texts (take n tokens))) e (none_on tokens (Some (state Start [])) n (suc n) (less n) g) f;
  prevails = λ act s. Prevails.alone (begins_context act s) all;
  only = λ names more c p v. pick names more c p (kind c.act);
}
  where
    all : (names : Names) (more : List Item) (c : WrittenCommand) → Parses names (take n tokens ++ more) c → IsContext c.act
    all names more c p = choose (kind c.act)
      where
        choose : (IsContext c.act × (start_of c.act ≡ Between [])) ⊎ ((IsContext c.act → ⊥) × (start_of c.act ≡ Start)) → IsContext c.act
        choose (inl h) = h.0
        choose (inr h) = absurd (begins_not (take n tokens) more c Start p h.1 g)

    pick : (names : Names) (more : List Item) (c : WrittenCommand) → Parses names (take n tokens ++ more) c
        → (IsContext c.act × (start_of c.act ≡ Between [])) ⊎ ((IsContext c.act → ⊥) × (start_of c.act ≡ Start)) → start_of c.act ≡ Between []
    pick names more c p (inl h) = h.1
    pick names more c p (inr h) = absurd (begins_not (take n tokens) more c Start p h.1 g)

-- OTHER ALONE. The code hands: the other scan stopped at n, and the scan of contexts before n (by `none_on`, from its stop).
pub other_alone : (tokens : List Item) (n : ℕ) {st : State} → goes (take n tokens) (Some (state Start [])) ≡ Some st
    → goes (take (suc n) tokens) (Some (state Start [])) ≡ None → goes (take n tokens) (Some (state (Between []) [])) ≡ None
    → Prevailing tokens n Start st
other_alone tokens n {st} e f g = record {
  begin = Begin.other;
  there = e;
  unexpected = unexpected_at tokens n Start (holds_at Begin.other (texts (take n tokens))) e f (none_on tokens (Some (state (Between []) [])) n (suc n) (less n) g);
  prevails = λ act s. Prevails.other (begins_other act s) outside;
  only = λ names more c p v. pick names more c p (kind c.act);
}
  where
    pick : (names : Names) (more : List Item) (c : WrittenCommand) → Parses names (take n tokens ++ more) c
        → (IsContext c.act × (start_of c.act ≡ Between [])) ⊎ ((IsContext c.act → ⊥) × (start_of c.act ≡ Start)) → start_of c.act ≡ Start
    pick names more c p (inl h) = absurd (begins_not (take n tokens) more c (Between []) p h.1 g)
    pick names more c p (inr h) = h.1

    outside : EndsInBinding (take n tokens) → ⊥
    outside x = not_start (sym (pick x.names x.more x.command x.begins (kind x.command.act)) ∙ context_start x.command.act x.is_context)
      where
        context_start : (d : WrittenAct) → IsContext d → start_of d ≡ Between []
        context_start d k = choose (kind d)
          where
            choose : (IsContext d × (start_of d ≡ Between [])) ⊎ ((IsContext d → ⊥) × (start_of d ≡ Start)) → start_of d ≡ Between []
            choose (inl h) = h.1
            choose (inr h) = absurd (h.0 k)

-- a `;` without a move ends no command
stop_at : {names : Names} (is : List Item) (p : Place) (c : WrittenCommand) (m : Mode) (st : State) → Parses names (is ++ end p ∷ []) c → start_of c.act ≡ m → goes is (Some (state m [])) ≡ Some st
    → move false (Token.Symbol Semicolon) p 0 st ≡ None → ⊥
stop_at {names} is p c m st x s e k = begins_not (is ++ end p ∷ []) [] c m (subst (λ l. Parses names l c) (sym (nil (is ++ end p ∷ []))) x) s
    (goes_append is (end p ∷ []) (Some (state m [])) ∙ (ap (λ o. goes (end p ∷ []) o) e ∙ ap (λ o. goes [] o) k))
  where
    nil : (xs : List Item) → xs ++ [] ≡ xs
    nil [] = refl
    nil (y ∷ ys) = ap (λ l. y ∷ l) (nil ys)

-- IN A BINDING. The code hands: both scans stopped at n, and in neither of the two states a `;` has a move.
pub context_inside : (tokens : List Item) (n : ℕ) {st so : State} → goes (take n tokens) (Some (state (Between []) [])) ≡ Some st
    → goes (take (suc n) tokens) (Some (state (Between []) [])) ≡ None
    → goes (take n tokens) (Some (state Start [])) ≡ Some so → goes (take (suc n) tokens) (Some (state Start [])) ≡ None
    → ((p : Place) → move false (Token.Symbol Semicolon) p 0 st ≡ None) → ((p : Place) → move false (Token.Symbol Semicolon) p 0 so ≡ None)
    → Prevailing tokens n (Between []) st
context_inside tokens n {st} {so} e f g h no_end no_end' = record {
  begin = Begin.context;
  there = e;
  unexpected = unexpected_at tokens n (Between []) (holds_at Begin.context (texts (take n tokens))) e h f;
  prevails = λ act s. Prevails.in_binding (begins_context act s) inside;
  only = λ names more c p v. pick c.act v (kind c.act);
}
  where
    no_command : (ns : Names) (p : Place) (c : WrittenCommand) → Parses ns (take n tokens ++ end p ∷ []) c → ⊥
    no_command ns p c x = choose (kind c.act)
      where
        choose : (IsContext c.act × (start_of c.act ≡ Between [])) ⊎ ((IsContext c.act → ⊥) × (start_of c.act ≡ Start)) → ⊥
        choose (inl k) = stop_at (take n tokens) p c (Between []) st x k.1 e (no_end p)
        choose (inr k) = stop_at (take n tokens) p c Start so x k.1 g (no_end' p)

    inside : EndsInBinding (take n tokens)
    inside =
        let y = finished (take n tokens) Begin.context e in
        record { names = y.names; more = map item y.rest; command = y.command; is_context = begins_context y.command.act y.start; begins = begun y; inside = no_command }

    pick : (d : WrittenAct) → Prevails (take n tokens) d → (IsContext d × (start_of d ≡ Between [])) ⊎ ((IsContext d → ⊥) × (start_of d ≡ Start)) → start_of d ≡ Between []
    pick d v (inl k) = k.1
    pick d (Prevails.in_binding c x) (inr k) = absurd (k.0 c)
    pick d (Prevails.alone c x) (inr k) = absurd (k.0 c)
    pick d (Prevails.other c x) (inr k) = absurd (x inside)

-- where a `;` has a move, a command ends there
pub operand_end : {fs gs : List Frame} {t : Nested} {n : ℕ} {m : Mode} → Operand false fs t n m gs → t.lexeme ≡ OfSymbol Semicolon → ⊥
operand_end (Operand.binder Lambda) e = cc
operand_end (Operand.binder Pi) e = cc
operand_end (Operand.binder Sigma) e = cc
operand_end _ e = cc

-- the mode of a command that has ended
abbrev pub Over : Mode → Type 0
Over (Done d) = Unit {0}
Over _ = ⊥

closes_end : {f : Frame} {v : Written} {fs gs : List Frame} {t : Nested} {m : Mode} → Closes false f v fs t m gs → t.lexeme ≡ OfSymbol Semicolon → Over m
closes_end (Closes.domain {k = Lambda}) e = cc
closes_end (Closes.domain {k = Pi}) e = cc
closes_end (Closes.domain {k = Sigma}) e = cc
closes_end Closes.whole e = tt
closes_end _ e = cc

pub ends : {m m' : Mode} {fs gs : List Frame} {t : Nested} {n : ℕ} → Move false m fs t n m' gs → t.lexeme ≡ OfSymbol Semicolon → Over m'
ends (Move.want o) e = absurd (operand_end o e)
ends (Move.level_operand o) e = absurd (operand_end o e)
ends (Move.apply a o) e = absurd (operand_end o e)
ends (Move.show o) e = absurd (operand_end o e)
ends (Move.goal_term a o) e = absurd (operand_end o e)
ends (Move.close c x) e = closes_end x e
ends (Move.goal_behind x) e = ends x e
ends (Move.signed {mark = Plain} a) e = cc
ends (Move.signed {mark = Implicit} a) e = cc
ends Move.context e = tt
ends Move.intros_end e = tt
ends Move.save e = tt
ends Move.end e = tt
ends _ e = cc

-- a `;` that has a move ends a command
pub ends_command : (is : List Item) (p : Place) (m : Mode) {st s : State} → Begin m → goes is (Some (state m [])) ≡ Some st → move false (Token.Symbol Semicolon) p 0 st ≡ Some s
    → (names : Names) × (c : WrittenCommand) × Parses names (is ++ end p ∷ []) c
ends_command is p m {st} {s} begin e k =
    let whole : goes (is ++ end p ∷ []) (Some (state m [])) ≡ Some s = goes_append is (end p ∷ []) (Some (state m [])) ∙ (ap (λ o. goes (end p ∷ []) o) e ∙ ap (λ o. goes [] o) k) in
    let r = ran (texts (is ++ end p ∷ [])) (is ++ end p ∷ []) m [] (known_texts (is ++ end p ∷ [])) whole in
    let h = holds (texts (is ++ end p ∷ [])) false [] (holds_at begin (texts (is ++ end p ∷ []))) r.runs in
    let x = move_from false (OfSymbol Semicolon) p 0 st.mode st.frames k in
    let y = command s.mode s.frames r.nested (ends x.1 refl) h in
    (texts (is ++ end p ∷ []), y.0, record { nested = r.nested; same = r.same; reads = y.1 })
  where
    command : (mode : Mode) (fs : List Frame) (all : List Nested) → Over mode → Holds (texts (is ++ end p ∷ [])) false mode fs all → (c : WrittenCommand) × ReadsCommand (texts (is ++ end p ∷ [])) all c
    command (Done d) fs all o h = (h.0, h.1)
    command _ fs all o h = absurd o

-- BEHIND A BINDING. The code hands: both scans stopped at n, and in the state of one of them a `;` has a move.
pub other_outside : (tokens : List Item) (n : ℕ) {st sc : State} → goes (take n tokens) (Some (state Start [])) ≡ Some st
    → goes (take (suc n) tokens) (Some (state Start [])) ≡ None
    → goes (take n tokens) (Some (state (Between []) [])) ≡ Some sc → goes (take (suc n) tokens) (Some (state (Between []) [])) ≡ None
    → (p : Place) {s : State} → (move false (Token.Symbol Semicolon) p 0 st ≡ Some s) ⊎ (move false (Token.Symbol Semicolon) p 0 sc ≡ Some s)
    → Prevailing tokens n Start st
other_outside tokens n {st} {sc} e f g h p {s} moves = record {
  begin = Begin.other;
  there = e;
  unexpected = unexpected_at tokens n Start (holds_at Begin.other (texts (take n tokens))) e f h;
  prevails = λ act q. Prevails.other (begins_other act q) outside;
  only = λ names more c q v. pick c.act v (kind c.act);
}
  where
    outside : EndsInBinding (take n tokens) → ⊥
    outside x = go moves
      where
        go : (move false (Token.Symbol Semicolon) p 0 st ≡ Some s) ⊎ (move false (Token.Symbol Semicolon) p 0 sc ≡ Some s) → ⊥
        go (inl k) = let y = ends_command (take n tokens) p Start Begin.other e k in x.inside y.0 p y.1 y.2
        go (inr k) = let y = ends_command (take n tokens) p (Between []) Begin.context g k in x.inside y.0 p y.1 y.2

    pick : (d : WrittenAct) → Prevails (take n tokens) d → (IsContext d × (start_of d ≡ Between [])) ⊎ ((IsContext d → ⊥) × (start_of d ≡ Start)) → start_of d ≡ Start
    pick d v (inr k) = k.1
    pick d (Prevails.in_binding c x) (inl k) = absurd (outside x)
    pick d (Prevails.alone c x) (inl k) =
        let y = finished (take n tokens) Begin.other e in absurd (begins_other y.command.act y.start (x y.names (map item y.rest) y.command (begun y)))
    pick d (Prevails.other c x) (inl k) = absurd (c k.0)
