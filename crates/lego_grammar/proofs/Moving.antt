-- The machine's function and its moves are the same.
use Rattle.std.proofs.Common.{◌≡◌, ℕ, suc, List, [], ◌∷◌, Bool, true, false, Option, Some, None, refl, sym, ap, ◌∙◌, subst, arith}
use mathlib.Core.Bool.{true≢false}
use Rattle.std.specs.Prelude.{nat_eq}
use Rattle.std.proofs.lemmas.Bool.Decides.{nat_tests}
use Rattle.lego_base.specs.declared.place.Place.{Place}
use Rattle.lego_term.specs.declared.binder.Mark.TheVariants.{Plain, Implicit}
use Rattle.lego_lexer.specs.Tokens.{Lexeme, Name, Number, OfWord, OfSymbol}
use Rattle.lego_lexer.specs.declared.token.TokenKind.TheVariants as Token
use Rattle.lego_lexer.specs.declared.token.Word.{Word}
use Rattle.lego_lexer.specs.declared.token.Symbol.TheVariants.{OpenSquare, CloseSquare, OpenBrace, CloseBrace, OpenAngle, CloseAngle, OpenParen, CloseParen, Colon, Semicolon, Comma, Equals, Dot, Hash, Question, Arrow, Bar}
use Rattle.lego_grammar.specs.declared.surface.Kind.{Kind}
use Rattle.lego_grammar.specs.declared.surface.Kind.TheVariants.{Lambda, Pi, Sigma}
use Rattle.lego_grammar.specs.declared.surface.Part.TheVariants.{First, Second}
use Rattle.lego_grammar.specs.Written.{Written, Named, Project, WrittenBinding}
use Rattle.lego_grammar.specs.Grammar.{Nested, token, MayBind}
use Rattle.lego_grammar.specs.private.Machine.{Site, InTerm, InContext, Use, ToShow, ToGoal, Frame, ApplyTo, Parens, SecondOf, TypeOf, DomainOf, ValueOf, StatedFor, Whole, Mode, Start, Want, WantLevel, CloseLevel, Behind, WantPart, WantGoal, WantName, BehindName, Between, BehindGoal, BehindGoalName, WantIntros, WantNext, WantUndo, WantForget, WantDischarge, BehindSave, WantEnd, Done, State, state, moves, keep, height, settled, summed, closed, operand, closes, closes_top, behind, behind_paren, behind_name, starts, acts, part, between, level_closes, goal_numbered, names_one, move}
use Rattle.lego_grammar.specs.private.Runs.{class}
use Rattle.lego_grammar.proofs.Transitions.{Applies, Operand, Closes, Move, TermWord, WaitingWord, kind_of}
use Rattle.lego_grammar.proofs.Complete.{height-settled}

eq_of : (i j : ℕ) → nat_eq i j ≡ true → i ≡ j
eq_of i j h = grind (arith, nat_tests)

module _ (b : Bool) where
  operand_to : {fs gs : List Frame} {n : ℕ} {t : Nested} {m : Mode} → Operand b fs t n m gs → operand b (class t.lexeme) t.place n fs ≡ Some (state m gs)
  operand_to Operand.name = refl
  operand_to Operand.prop = refl
  operand_to Operand.any_type = refl
  operand_to Operand.goal = refl
  operand_to Operand.parens = refl
  operand_to (Operand.binder Lambda) = refl
  operand_to (Operand.binder Pi) = refl
  operand_to (Operand.binder Sigma) = refl

  apply_to : (l : Bool) (v : Written) (fs : List Frame) {gs : List Frame} {n : ℕ} {t : Nested} {m : Mode} → Applies l t.lexeme
      → Operand b (ApplyTo Plain (settled b v fs).0 ∷ (settled b v fs).1) t n m gs → behind b (class t.lexeme) t.place n l v fs ≡ Some (state m gs)
  apply_to l v fs a Operand.name = refl
  apply_to l v fs a Operand.prop = refl
  apply_to l v fs a Operand.any_type = refl
  apply_to l v fs a Operand.goal = refl
  apply_to false v fs a Operand.parens = refl
  apply_to true v fs a Operand.parens = absurd a
  apply_to l v fs a (Operand.binder Lambda) = refl
  apply_to l v fs a (Operand.binder Pi) = refl
  apply_to l v fs a (Operand.binder Sigma) = refl

  paren_to : (v : Written) (fs : List Frame) {gs : List Frame} {n : ℕ} {t : Nested} {m : Mode}
      → Operand b (Parens ∷ ApplyTo Plain (settled b v fs).0 ∷ (settled b v fs).1) t n m gs
      → behind_paren b (class t.lexeme) t.place n v fs ≡ Some (state m gs)
  paren_to v fs Operand.name = refl
  paren_to v fs Operand.prop = refl
  paren_to v fs Operand.any_type = refl
  paren_to v fs Operand.goal = refl
  paren_to v fs Operand.parens = refl
  paren_to v fs (Operand.binder Lambda) = refl
  paren_to v fs (Operand.binder Pi) = refl
  paren_to v fs (Operand.binder Sigma) = refl

  close_to : (l : Bool) (v : Written) (fs : List Frame) (n : ℕ) {w : Written} {f : Frame} {gs hs : List Frame} {t : Nested} {m : Mode}
      → closed b v fs ≡ (w, f ∷ gs) → Closes b f w gs t m hs → behind b (class t.lexeme) t.place n l v fs ≡ Some (state m hs)
  close_to l v fs n e Closes.parens = ap (λ y. closes_top b y (Token.Symbol CloseParen)) e
  close_to l v fs n e Closes.comma = ap (λ y. closes_top b y (Token.Symbol Comma)) e
  close_to l v fs n e Closes.colon = ap (λ y. closes_top b y (Token.Symbol Colon)) e
  close_to l v fs n e Closes.pair = ap (λ y. closes_top b y (Token.Symbol CloseParen)) e
  close_to l v fs n e (Closes.domain {k = Lambda}) = ap (λ y. closes_top b y (Token.Symbol CloseSquare)) e
  close_to l v fs n e (Closes.domain {k = Pi}) = ap (λ y. closes_top b y (Token.Symbol CloseBrace)) e
  close_to l v fs n e (Closes.domain {k = Sigma}) = ap (λ y. closes_top b y (Token.Symbol CloseAngle)) e
  close_to l v fs n e Closes.assumption = ap (λ y. closes_top b y (Token.Symbol CloseSquare)) e
  close_to l v fs n e Closes.value = ap (λ y. closes_top b y (Token.Symbol CloseSquare)) e
  close_to l v fs n e Closes.definition = ap (λ y. closes_top b y (Token.Symbol CloseSquare)) e
  close_to l v fs n e Closes.typed = ap (λ y. closes_top b y (Token.Symbol Colon)) e
  close_to l v fs n e Closes.stated = ap (λ y. closes_top b y (Token.Symbol CloseSquare)) e
  close_to l v fs n e Closes.whole = ap (λ y. closes_top b y (Token.Symbol Semicolon)) e

  show_to : {fs gs : List Frame} {n : ℕ} {t : Nested} {m : Mode} → Operand b (Whole ToShow ∷ fs) t n m gs
      → starts b (class t.lexeme) t.place n fs ≡ Some (state m gs)
  show_to Operand.name = refl
  show_to Operand.prop = refl
  show_to Operand.any_type = refl
  show_to Operand.goal = refl
  show_to Operand.parens = refl
  show_to (Operand.binder Lambda) = refl
  show_to (Operand.binder Pi) = refl
  show_to (Operand.binder Sigma) = refl

  goal_to : {fs gs : List Frame} {n : ℕ} {t : Nested} {m : Mode} → (class t.lexeme ≡ Token.Name → ⊥) → Operand b (Whole (ToGoal None) ∷ fs) t n m gs
      → acts b (class t.lexeme) t.place n BehindGoal fs ≡ Some (state m gs)
  goal_to a Operand.name = absurd (a refl)
  goal_to a Operand.prop = refl
  goal_to a Operand.any_type = refl
  goal_to a Operand.goal = refl
  goal_to a Operand.parens = refl
  goal_to a (Operand.binder Lambda) = refl
  goal_to a (Operand.binder Pi) = refl
  goal_to a (Operand.binder Sigma) = refl

  term_word_to : {w : Word} {u : Use} (p : Place) (n : ℕ) (fs : List Frame) → TermWord w u → starts b (Token.Word w) p n fs ≡ Some (state Want (Whole u ∷ fs))
  term_word_to p n fs TermWord.refine = refl
  term_word_to p n fs TermWord.claim = refl
  term_word_to p n fs TermWord.equiv = refl
  term_word_to p n fs TermWord.hnf = refl
  term_word_to p n fs TermWord.normal = refl

  waiting_to : {w : Word} {m : Mode} (p : Place) (n : ℕ) (fs : List Frame) → WaitingWord w m → starts b (Token.Word w) p n fs ≡ Some (state m fs)
  waiting_to p n fs WaitingWord.goal = refl
  waiting_to p n fs WaitingWord.intros = refl
  waiting_to p n fs WaitingWord.next = refl
  waiting_to p n fs WaitingWord.undo = refl
  waiting_to p n fs WaitingWord.forget = refl
  waiting_to p n fs WaitingWord.discharge = refl
  waiting_to p n fs WaitingWord.save = refl
  waiting_to p n fs WaitingWord.assumption = refl
  waiting_to p n fs WaitingWord.kill = refl
  waiting_to p n fs WaitingWord.prf = refl
  waiting_to p n fs WaitingWord.ctxt = refl
  waiting_to p n fs WaitingWord.explicit = refl
  waiting_to p n fs WaitingWord.implicit = refl

  -- A name of a goal goes on as an operand, but at a `:`, where no term of a goal ends.
  named_apply_to : (q : Place) (i : ℕ) (fs : List Frame) {gs : List Frame} {n : ℕ} {t : Nested} {m : Mode}
      → Operand b (ApplyTo Plain (keep b (Named q i)) ∷ Whole (ToGoal None) ∷ fs) t n m gs
      → acts b (class t.lexeme) t.place n (BehindGoalName q i) fs ≡ Some (state m gs)
  named_apply_to q i fs Operand.name = refl
  named_apply_to q i fs Operand.prop = refl
  named_apply_to q i fs Operand.any_type = refl
  named_apply_to q i fs Operand.goal = refl
  named_apply_to q i fs Operand.parens = refl
  named_apply_to q i fs (Operand.binder Lambda) = refl
  named_apply_to q i fs (Operand.binder Pi) = refl
  named_apply_to q i fs (Operand.binder Sigma) = refl

  is_whole : Frame → Bool
  is_whole (Whole u) = true
  is_whole _ = false

  top_is : (d : Bool) → List Frame → Bool
  top_is d (f ∷ fs) = is_whole f
  top_is d [] = d

  named_close_to : (q : Place) (i n : ℕ) (fs : List Frame) {w : Written} {f : Frame} {gs hs : List Frame} {t : Nested} {m : Mode}
      → closed b (keep b (Named q i)) (Whole (ToGoal None) ∷ fs) ≡ (w, f ∷ gs) → Closes b f w gs t m hs
      → acts b (class t.lexeme) t.place n (BehindGoalName q i) fs ≡ Some (state m hs)
  unfolding is_whole top_is
  named_close_to q i n fs e Closes.colon = absurd (true≢false (ap (λ (y : Written × List Frame). top_is true y.1) e))
  named_close_to q i n fs e Closes.typed = absurd (true≢false (ap (λ (y : Written × List Frame). top_is true y.1) e))
  named_close_to q i n fs e Closes.parens = ap (λ y. closes_top b y (Token.Symbol CloseParen)) e
  named_close_to q i n fs e Closes.comma = ap (λ y. closes_top b y (Token.Symbol Comma)) e
  named_close_to q i n fs e Closes.pair = ap (λ y. closes_top b y (Token.Symbol CloseParen)) e
  named_close_to q i n fs e (Closes.domain {k = Lambda}) = ap (λ y. closes_top b y (Token.Symbol CloseSquare)) e
  named_close_to q i n fs e (Closes.domain {k = Pi}) = ap (λ y. closes_top b y (Token.Symbol CloseBrace)) e
  named_close_to q i n fs e (Closes.domain {k = Sigma}) = ap (λ y. closes_top b y (Token.Symbol CloseAngle)) e
  named_close_to q i n fs e Closes.assumption = ap (λ y. closes_top b y (Token.Symbol CloseSquare)) e
  named_close_to q i n fs e Closes.value = ap (λ y. closes_top b y (Token.Symbol CloseSquare)) e
  named_close_to q i n fs e Closes.definition = ap (λ y. closes_top b y (Token.Symbol CloseSquare)) e
  named_close_to q i n fs e Closes.stated = ap (λ y. closes_top b y (Token.Symbol CloseSquare)) e
  named_close_to q i n fs e Closes.whole = ap (λ y. closes_top b y (Token.Symbol Semicolon)) e

  named_goal_to : (q : Place) (i : ℕ) (fs : List Frame) {n : ℕ} {t : Nested} {m : Mode} {gs : List Frame}
      → Move b (Behind false (keep b (Named q i))) (Whole (ToGoal None) ∷ fs) t n m gs
      → acts b (class t.lexeme) t.place n (BehindGoalName q i) fs ≡ Some (state m gs)
  named_goal_to q i fs (Move.apply a o) = named_apply_to q i fs o
  named_goal_to q i fs Move.bar = refl
  named_goal_to q i fs Move.dot = refl
  named_goal_to q i fs Move.hash = refl
  named_goal_to q i fs Move.arrow = refl
  named_goal_to q i fs {n = n} (Move.close e x) = named_close_to q i n fs e x

  pub move_to : {m m' : Mode} {fs gs : List Frame} {n : ℕ} {t : Nested} → Move b m fs t n m' gs → move b (class t.lexeme) t.place n (state m fs) ≡ Some (state m' gs)
  move_to (Move.want o) = operand_to o
  move_to (Move.level_operand {v = v} {fs = fs} o) = paren_to v fs o
  move_to (Move.apply {l = l} {v = v} {fs = fs} a o) = apply_to l v fs a o
  move_to (Move.close {l = l} {v = v} {fs = fs} {n = n} e x) = close_to l v fs n e x
  move_to (Move.signed {site = InTerm Lambda} {mark = Plain} a) = refl
  move_to (Move.signed {site = InTerm Lambda} {mark = Implicit} a) = refl
  move_to (Move.signed {site = InTerm Pi} {mark = Plain} a) = refl
  move_to (Move.signed {site = InTerm Pi} {mark = Implicit} a) = refl
  move_to (Move.signed {site = InTerm Sigma} {mark = Plain} a) = refl
  move_to (Move.signed {site = InTerm Sigma} {mark = Implicit} a) = absurd a
  move_to (Move.signed {site = InContext p bs} {mark = Plain} a) = refl
  move_to (Move.signed {site = InContext p bs} {mark = Implicit} a) = refl
  move_to (Move.equals {site = InTerm Lambda} e) = refl
  move_to (Move.equals {site = InTerm Pi} e) = cc
  move_to (Move.equals {site = InTerm Sigma} e) = cc
  move_to (Move.equals {site = InContext p bs} e) = refl
  move_to (Move.show o) = show_to o
  move_to (Move.term_word {fs = fs} {p = p} {n = n} w) = term_word_to p n fs w
  move_to (Move.waiting_word {fs = fs} {p = p} {n = n} w) = waiting_to p n fs w
  move_to (Move.goal_term a o) = goal_to a o
  move_to (Move.goal_behind {fs = fs} {q = q} {i = i} x) = named_goal_to q i fs x
  move_to _ = refl

  some : {x y : State} → Some x ≡ Some y → x ≡ y
  some {x} e = ap (λ o. get o) e
    where
      get : Option State → State
      get (Some z) = z
      get None = x

  operand_from : (x : Lexeme) {p : Place} {n : ℕ} {fs : List Frame} {st : State} → operand b (class x) p n fs ≡ Some st → Operand b fs (token (height fs) p x) n st.mode st.frames
  operand_from (Name text) {p} {n} {fs} e = subst (λ s. Operand b fs (token (height fs) p (Name text)) n s.mode s.frames) (some e) Operand.name
  operand_from (OfWord Word.Prop) {p} {n} {fs} e = subst (λ s. Operand b fs (token (height fs) p (OfWord Word.Prop)) n s.mode s.frames) (some e) Operand.prop
  operand_from (OfWord Word.AnyType) {p} {n} {fs} e = subst (λ s. Operand b fs (token (height fs) p (OfWord Word.AnyType)) n s.mode s.frames) (some e) Operand.any_type
  operand_from (OfSymbol Question) {p} {n} {fs} e = subst (λ s. Operand b fs (token (height fs) p (OfSymbol Question)) n s.mode s.frames) (some e) Operand.goal
  operand_from (OfSymbol OpenParen) {p} {n} {fs} e = subst (λ s. Operand b fs (token (height fs) p (OfSymbol OpenParen)) n s.mode s.frames) (some e) Operand.parens
  operand_from (OfSymbol OpenSquare) {p} {n} {fs} e = subst (λ s. Operand b fs (token (height fs) p (OfSymbol OpenSquare)) n s.mode s.frames) (some e) (Operand.binder Lambda)
  operand_from (OfSymbol OpenBrace) {p} {n} {fs} e = subst (λ s. Operand b fs (token (height fs) p (OfSymbol OpenBrace)) n s.mode s.frames) (some e) (Operand.binder Pi)
  operand_from (OfSymbol OpenAngle) {p} {n} {fs} e = subst (λ s. Operand b fs (token (height fs) p (OfSymbol OpenAngle)) n s.mode s.frames) (some e) (Operand.binder Sigma)
  operand_from _ e = cc

  -- a token with some nesting
  abbrev pub Moved : Mode → List Frame → Lexeme → Place → ℕ → State → Type 0
  Moved m fs x p n st = (d : ℕ) × Move b m fs (token d p x) n st.mode st.frames

  closes_from : (f : Frame) (x : Lexeme) (p : Place) {v : Written} {gs : List Frame} {st : State} → closes b f v gs (class x) ≡ Some st
      → (d : ℕ) × Closes b f v gs (token d p x) st.mode st.frames
  closes_from Parens (OfSymbol CloseParen) p {v} {gs} e = (height gs, subst (λ s. Closes b Parens v gs (token (height gs) p (OfSymbol CloseParen)) s.mode s.frames) (some e) Closes.parens)
  closes_from Parens (OfSymbol Comma) p {v} {gs} e = (suc (height gs), subst (λ s. Closes b Parens v gs (token (suc (height gs)) p (OfSymbol Comma)) s.mode s.frames) (some e) Closes.comma)
  closes_from (SecondOf m) (OfSymbol Colon) p {v} {gs} e = (suc (height gs), subst (λ s. Closes b (SecondOf m) v gs (token (suc (height gs)) p (OfSymbol Colon)) s.mode s.frames) (some e) Closes.colon)
  closes_from (TypeOf m k) (OfSymbol CloseParen) p {v} {gs} e = (height gs, subst (λ s. Closes b (TypeOf m k) v gs (token (height gs) p (OfSymbol CloseParen)) s.mode s.frames) (some e) Closes.pair)
  closes_from (DomainOf (InTerm Lambda) m ps ns) (OfSymbol CloseSquare) p {v} {gs} e = (height gs, subst (λ s. Closes b (DomainOf (InTerm Lambda) m ps ns) v gs (token (height gs) p (OfSymbol CloseSquare)) s.mode s.frames) (some e) Closes.domain)
  closes_from (DomainOf (InTerm Pi) m ps ns) (OfSymbol CloseBrace) p {v} {gs} e = (height gs, subst (λ s. Closes b (DomainOf (InTerm Pi) m ps ns) v gs (token (height gs) p (OfSymbol CloseBrace)) s.mode s.frames) (some e) Closes.domain)
  closes_from (DomainOf (InTerm Sigma) m ps ns) (OfSymbol CloseAngle) p {v} {gs} e = (height gs, subst (λ s. Closes b (DomainOf (InTerm Sigma) m ps ns) v gs (token (height gs) p (OfSymbol CloseAngle)) s.mode s.frames) (some e) Closes.domain)
  closes_from (DomainOf (InContext q bs) m ps ns) (OfSymbol CloseSquare) p {v} {gs} e = (height gs, subst (λ s. Closes b (DomainOf (InContext q bs) m ps ns) v gs (token (height gs) p (OfSymbol CloseSquare)) s.mode s.frames) (some e) Closes.assumption)
  closes_from (ValueOf (InTerm k) q i) (OfSymbol CloseSquare) p {v} {gs} e = (height gs, subst (λ s. Closes b (ValueOf (InTerm k) q i) v gs (token (height gs) p (OfSymbol CloseSquare)) s.mode s.frames) (some e) Closes.value)
  closes_from (ValueOf (InContext r bs) q i) (OfSymbol CloseSquare) p {v} {gs} e = (height gs, subst (λ s. Closes b (ValueOf (InContext r bs) q i) v gs (token (height gs) p (OfSymbol CloseSquare)) s.mode s.frames) (some e) Closes.definition)
  closes_from (ValueOf (InContext r bs) q i) (OfSymbol Colon) p {v} {gs} e = (suc (height gs), subst (λ s. Closes b (ValueOf (InContext r bs) q i) v gs (token (suc (height gs)) p (OfSymbol Colon)) s.mode s.frames) (some e) Closes.typed)
  closes_from (StatedFor r bs q i m) (OfSymbol CloseSquare) p {v} {gs} e = (height gs, subst (λ s. Closes b (StatedFor r bs q i m) v gs (token (height gs) p (OfSymbol CloseSquare)) s.mode s.frames) (some e) Closes.stated)
  closes_from (Whole u) (OfSymbol Semicolon) p {v} {gs} e = (height gs, subst (λ s. Closes b (Whole u) v gs (token (height gs) p (OfSymbol Semicolon)) s.mode s.frames) (some e) Closes.whole)
  closes_from _ _ p e = cc

  ends_from : (l : Bool) (v : Written) (fs : List Frame) (x : Lexeme) (p : Place) (n : ℕ) {st : State} (y : Written × List Frame)
      → closed b v fs ≡ y → closes_top b y (class x) ≡ Some st → Moved (Behind l v) fs x p n st
  ends_from l v fs x p n (w, f ∷ gs) c e = let y = closes_from f x p e in (y.0, Move.close c y.1)
  ends_from l v fs x p n (w, []) c e = cc

  behind_from : (l : Bool) (x : Lexeme) (p : Place) (n : ℕ) (v : Written) (fs : List Frame) {st : State} → behind b (class x) p n l v fs ≡ Some st → Moved (Behind l v) fs x p n st
  behind_from l (OfSymbol Dot) p n v fs e = (height fs, subst (λ s. Move b (Behind l v) fs (token (height fs) p (OfSymbol Dot)) n s.mode s.frames) (some e) Move.dot)
  behind_from l (OfSymbol Bar) p n v fs e = (height fs, subst (λ s. Move b (Behind l v) fs (token (height fs) p (OfSymbol Bar)) n s.mode s.frames) (some e) Move.bar)
  behind_from l (OfSymbol Hash) p n v fs e = (height fs, subst (λ s. Move b (Behind l v) fs (token (height fs) p (OfSymbol Hash)) n s.mode s.frames) (some e) Move.hash)
  behind_from l (OfSymbol Arrow) p n v fs e =
      (height (summed b v fs).1, subst (λ s. Move b (Behind l v) fs (token (height (summed b v fs).1) p (OfSymbol Arrow)) n s.mode s.frames) (some e) Move.arrow)
  behind_from l (OfSymbol CloseSquare) p n v fs e = ends_from l v fs (OfSymbol CloseSquare) p n (closed b v fs) refl e
  behind_from l (OfSymbol CloseBrace) p n v fs e = ends_from l v fs (OfSymbol CloseBrace) p n (closed b v fs) refl e
  behind_from l (OfSymbol CloseAngle) p n v fs e = ends_from l v fs (OfSymbol CloseAngle) p n (closed b v fs) refl e
  behind_from l (OfSymbol CloseParen) p n v fs e = ends_from l v fs (OfSymbol CloseParen) p n (closed b v fs) refl e
  behind_from l (OfSymbol Comma) p n v fs e = ends_from l v fs (OfSymbol Comma) p n (closed b v fs) refl e
  behind_from l (OfSymbol Colon) p n v fs e = ends_from l v fs (OfSymbol Colon) p n (closed b v fs) refl e
  behind_from l (OfSymbol Semicolon) p n v fs e = ends_from l v fs (OfSymbol Semicolon) p n (closed b v fs) refl e
  behind_from true (OfSymbol OpenParen) p n v fs e = (height fs, subst (λ s. Move b (Behind true v) fs (token (height fs) p (OfSymbol OpenParen)) n s.mode s.frames) (some e) Move.open_level)
  behind_from false x p n v fs e = (_, Move.apply tt (operand_from x e))
  behind_from true x p n v fs e = (_, Move.apply tt (operand_from x e))

  paren_from : (x : Lexeme) (p : Place) (n : ℕ) (v : Written) (fs : List Frame) {st : State} → behind_paren b (class x) p n v fs ≡ Some st → Moved (WantLevel v) fs x p n st
  paren_from (Number i) p n v fs e = (suc (height fs), subst (λ s. Move b (WantLevel v) fs (token (suc (height fs)) p (Number i)) n s.mode s.frames) (some e) Move.level_number)
  paren_from x p n v fs e = (_, Move.level_operand (operand_from x e))

  name_from : (x : Lexeme) (p : Place) (n : ℕ) (site : Site) (ps : List Place) (ns : List ℕ) (fs : List Frame) {st : State}
      → behind_name (class x) site ps ns fs ≡ Some st → Moved (BehindName site ps ns) fs x p n st
  name_from (OfSymbol Comma) p n site ps ns fs e = (suc (height fs), subst (λ s. Move b (BehindName site ps ns) fs (token (suc (height fs)) p (OfSymbol Comma)) n s.mode s.frames) (some e) Move.comma)
  name_from (OfSymbol Colon) p n site ps ns fs e =
      (suc (height fs), subst (λ s. Move b (BehindName site ps ns) fs (token (suc (height fs)) p (OfSymbol Colon)) n s.mode s.frames) (some e) (Move.signed {mark = Plain} (plain (kind_of site))))
    where
      plain : (k : Kind) → MayBind k Plain
      plain Lambda = tt
      plain Pi = tt
      plain Sigma = tt
  name_from (OfSymbol Bar) p n (InTerm Sigma) ps ns fs e = cc
  name_from (OfSymbol Bar) p n (InTerm Lambda) ps ns fs e =
      (suc (height fs), subst (λ s. Move b (BehindName (InTerm Lambda) ps ns) fs (token (suc (height fs)) p (OfSymbol Bar)) n s.mode s.frames) (some e) (Move.signed {mark = Implicit} tt))
  name_from (OfSymbol Bar) p n (InTerm Pi) ps ns fs e =
      (suc (height fs), subst (λ s. Move b (BehindName (InTerm Pi) ps ns) fs (token (suc (height fs)) p (OfSymbol Bar)) n s.mode s.frames) (some e) (Move.signed {mark = Implicit} tt))
  name_from (OfSymbol Bar) p n (InContext q bs) ps ns fs e =
      (suc (height fs), subst (λ s. Move b (BehindName (InContext q bs) ps ns) fs (token (suc (height fs)) p (OfSymbol Bar)) n s.mode s.frames) (some e) (Move.signed {mark = Implicit} tt))
  name_from (OfSymbol Equals) p n (InTerm Lambda) (q ∷ []) (i ∷ []) fs e =
      (suc (height fs), subst (λ s. Move b (BehindName (InTerm Lambda) (q ∷ []) (i ∷ [])) fs (token (suc (height fs)) p (OfSymbol Equals)) n s.mode s.frames) (some e) (Move.equals refl))
  name_from (OfSymbol Equals) p n (InContext r bs) (q ∷ []) (i ∷ []) fs e =
      (suc (height fs), subst (λ s. Move b (BehindName (InContext r bs) (q ∷ []) (i ∷ [])) fs (token (suc (height fs)) p (OfSymbol Equals)) n s.mode s.frames) (some e) (Move.equals refl))
  name_from _ p n _ _ _ fs e = cc

  part_from : (i : ℕ) (p : Place) (n : ℕ) (v : Written) (fs : List Frame) {st : State} → part b (Token.Number i) v fs ≡ Some st → Moved (WantPart v) fs (Number i) p n st
  part_from i p n v fs {st} e = first (nat_eq i 1) refl
    where
      second : (t : Bool) → nat_eq i 2 ≡ t → nat_eq i 1 ≡ false → Moved (WantPart v) fs (Number i) p n st
      second true h k =
          let q : part b (Token.Number i) v fs ≡ moves (Behind false (keep b (Project Second v))) fs = rw (k, h) refl in
          subst (λ j. Moved (WantPart v) fs (Number j) p n st) (sym (eq_of i 2 h))
          (height fs, subst (λ s. Move b (WantPart v) fs (token (height fs) p (Number 2)) n s.mode s.frames) (some (sym q ∙ e)) Move.second)
      second false h k = let q : part b (Token.Number i) v fs ≡ None = rw (k, h) refl in let z = sym q ∙ e in cc

      first : (t : Bool) → nat_eq i 1 ≡ t → Moved (WantPart v) fs (Number i) p n st
      first true h =
          let q : part b (Token.Number i) v fs ≡ moves (Behind false (keep b (Project First v))) fs = rw h refl in
          subst (λ j. Moved (WantPart v) fs (Number j) p n st) (sym (eq_of i 1 h))
          (height fs, subst (λ s. Move b (WantPart v) fs (token (height fs) p (Number 1)) n s.mode s.frames) (some (sym q ∙ e)) Move.first)
      first false h = second (nat_eq i 2) refl h

  starts_from : (x : Lexeme) (p : Place) (n : ℕ) (fs : List Frame) {st : State} → starts b (class x) p n fs ≡ Some st → Moved Start fs x p n st
  starts_from (OfWord Word.Goal) p n fs e = (height fs, subst (λ s. Move b Start fs (token (height fs) p (OfWord Word.Goal)) n s.mode s.frames) (some e) (Move.waiting_word WaitingWord.goal))
  starts_from (OfWord Word.Intros) p n fs e = (height fs, subst (λ s. Move b Start fs (token (height fs) p (OfWord Word.Intros)) n s.mode s.frames) (some e) (Move.waiting_word WaitingWord.intros))
  starts_from (OfWord Word.Refine) p n fs e = (height fs, subst (λ s. Move b Start fs (token (height fs) p (OfWord Word.Refine)) n s.mode s.frames) (some e) (Move.term_word TermWord.refine))
  starts_from (OfWord Word.Claim) p n fs e = (height fs, subst (λ s. Move b Start fs (token (height fs) p (OfWord Word.Claim)) n s.mode s.frames) (some e) (Move.term_word TermWord.claim))
  starts_from (OfWord Word.Equiv) p n fs e = (height fs, subst (λ s. Move b Start fs (token (height fs) p (OfWord Word.Equiv)) n s.mode s.frames) (some e) (Move.term_word TermWord.equiv))
  starts_from (OfWord Word.Hnf) p n fs e = (height fs, subst (λ s. Move b Start fs (token (height fs) p (OfWord Word.Hnf)) n s.mode s.frames) (some e) (Move.term_word TermWord.hnf))
  starts_from (OfWord Word.Normal) p n fs e = (height fs, subst (λ s. Move b Start fs (token (height fs) p (OfWord Word.Normal)) n s.mode s.frames) (some e) (Move.term_word TermWord.normal))
  starts_from (OfWord Word.Next) p n fs e = (height fs, subst (λ s. Move b Start fs (token (height fs) p (OfWord Word.Next)) n s.mode s.frames) (some e) (Move.waiting_word WaitingWord.next))
  starts_from (OfWord Word.Undo) p n fs e = (height fs, subst (λ s. Move b Start fs (token (height fs) p (OfWord Word.Undo)) n s.mode s.frames) (some e) (Move.waiting_word WaitingWord.undo))
  starts_from (OfWord Word.Forget) p n fs e = (height fs, subst (λ s. Move b Start fs (token (height fs) p (OfWord Word.Forget)) n s.mode s.frames) (some e) (Move.waiting_word WaitingWord.forget))
  starts_from (OfWord Word.Discharge) p n fs e = (height fs, subst (λ s. Move b Start fs (token (height fs) p (OfWord Word.Discharge)) n s.mode s.frames) (some e) (Move.waiting_word WaitingWord.discharge))
  starts_from (OfWord Word.Save) p n fs e = (height fs, subst (λ s. Move b Start fs (token (height fs) p (OfWord Word.Save)) n s.mode s.frames) (some e) (Move.waiting_word WaitingWord.save))
  starts_from (OfWord Word.Assumption) p n fs e = (height fs, subst (λ s. Move b Start fs (token (height fs) p (OfWord Word.Assumption)) n s.mode s.frames) (some e) (Move.waiting_word WaitingWord.assumption))
  starts_from (OfWord Word.KillRef) p n fs e = (height fs, subst (λ s. Move b Start fs (token (height fs) p (OfWord Word.KillRef)) n s.mode s.frames) (some e) (Move.waiting_word WaitingWord.kill))
  starts_from (OfWord Word.Prf) p n fs e = (height fs, subst (λ s. Move b Start fs (token (height fs) p (OfWord Word.Prf)) n s.mode s.frames) (some e) (Move.waiting_word WaitingWord.prf))
  starts_from (OfWord Word.Ctxt) p n fs e = (height fs, subst (λ s. Move b Start fs (token (height fs) p (OfWord Word.Ctxt)) n s.mode s.frames) (some e) (Move.waiting_word WaitingWord.ctxt))
  starts_from (OfWord Word.Explicit) p n fs e = (height fs, subst (λ s. Move b Start fs (token (height fs) p (OfWord Word.Explicit)) n s.mode s.frames) (some e) (Move.waiting_word WaitingWord.explicit))
  starts_from (OfWord Word.Implicit) p n fs e = (height fs, subst (λ s. Move b Start fs (token (height fs) p (OfWord Word.Implicit)) n s.mode s.frames) (some e) (Move.waiting_word WaitingWord.implicit))
  starts_from x p n fs e = (_, Move.show (operand_from x e))

  between_from : (x : Lexeme) (p : Place) (n : ℕ) (bs : List WrittenBinding) (fs : List Frame) {st : State} → between (class x) p bs fs ≡ Some st → Moved (Between bs) fs x p n st
  between_from (OfSymbol OpenSquare) p n bs fs e = (height fs, subst (λ s. Move b (Between bs) fs (token (height fs) p (OfSymbol OpenSquare)) n s.mode s.frames) (some e) Move.binding)
  between_from (OfSymbol Semicolon) p n (y ∷ bs) fs e = (height fs, subst (λ s. Move b (Between (y ∷ bs)) fs (token (height fs) p (OfSymbol Semicolon)) n s.mode s.frames) (some e) Move.context)
  between_from _ p n _ fs e = cc

  acts_from : (x : Lexeme) (p : Place) (n : ℕ) (m : Mode) (fs : List Frame) {st : State} → acts b (class x) p n m fs ≡ Some st → Moved m fs x p n st
  acts_from (Name text) p n BehindGoal fs e = (height fs, subst (λ s. Move b BehindGoal fs (token (height fs) p (Name text)) n s.mode s.frames) (some e) Move.goal_name)
  acts_from (Number i) p n BehindGoal fs e = cc
  acts_from (OfWord w) p n BehindGoal fs e = (_, Move.goal_term (λ h. cc) (operand_from (OfWord w) e))
  acts_from (OfSymbol s) p n BehindGoal fs e = (_, Move.goal_term (λ h. cc) (operand_from (OfSymbol s) e))
  acts_from (OfSymbol Colon) p n (BehindGoalName q i) fs e = (height fs, subst (λ s. Move b (BehindGoalName q i) fs (token (height fs) p (OfSymbol Colon)) n s.mode s.frames) (some e) Move.goal_named)
  acts_from x p n (BehindGoalName q i) fs e = let y = behind_from false x p n (keep b (Named q i)) (Whole (ToGoal None) ∷ fs) e in (y.0, Move.goal_behind y.1)
  acts_from (Name text) p n (WantIntros ps ns) fs e = (height fs, subst (λ s. Move b (WantIntros ps ns) fs (token (height fs) p (Name text)) n s.mode s.frames) (some e) Move.intros_name)
  acts_from (OfSymbol Semicolon) p n (WantIntros ps (i ∷ ns)) fs e = (height fs, subst (λ s. Move b (WantIntros ps (i ∷ ns)) fs (token (height fs) p (OfSymbol Semicolon)) n s.mode s.frames) (some e) Move.intros_end)
  acts_from (Number i) p n WantNext fs e = (height fs, subst (λ s. Move b WantNext fs (token (height fs) p (Number i)) n s.mode s.frames) (some e) Move.next)
  acts_from (Number i) p n WantUndo fs e = (height fs, subst (λ s. Move b WantUndo fs (token (height fs) p (Number i)) n s.mode s.frames) (some e) Move.undo)
  acts_from (Name text) p n WantForget fs e = (height fs, subst (λ s. Move b WantForget fs (token (height fs) p (Name text)) n s.mode s.frames) (some e) Move.forget)
  acts_from (Name text) p n WantDischarge fs e = (height fs, subst (λ s. Move b WantDischarge fs (token (height fs) p (Name text)) n s.mode s.frames) (some e) Move.discharge)
  acts_from (Name text) p n BehindSave fs e = (height fs, subst (λ s. Move b BehindSave fs (token (height fs) p (Name text)) n s.mode s.frames) (some e) Move.save_name)
  acts_from (OfSymbol Semicolon) p n BehindSave fs e = (height fs, subst (λ s. Move b BehindSave fs (token (height fs) p (OfSymbol Semicolon)) n s.mode s.frames) (some e) Move.save)
  acts_from (OfSymbol Semicolon) p n (WantEnd act) fs e = (height fs, subst (λ s. Move b (WantEnd act) fs (token (height fs) p (OfSymbol Semicolon)) n s.mode s.frames) (some e) Move.end)
  acts_from _ p n _ fs e = cc

  close_level_from : (x : Lexeme) (p : Place) (n i : ℕ) (fs : List Frame) {st : State} → level_closes b (class x) i fs ≡ Some st → Moved (CloseLevel i) fs x p n st
  close_level_from (OfSymbol CloseParen) p n i fs e = (height fs, subst (λ s. Move b (CloseLevel i) fs (token (height fs) p (OfSymbol CloseParen)) n s.mode s.frames) (some e) Move.level_close)
  close_level_from _ p n i fs e = cc

  goal_number_from : (x : Lexeme) (p : Place) (n : ℕ) (q : Place) (fs : List Frame) {st : State} → goal_numbered b (class x) q fs ≡ Some st → Moved (WantGoal q) fs x p n st
  goal_number_from (Number i) p n q fs e = (height fs, subst (λ s. Move b (WantGoal q) fs (token (height fs) p (Number i)) n s.mode s.frames) (some e) Move.goal_number)
  goal_number_from _ p n q fs e = cc

  bound_from : (x : Lexeme) (p : Place) (n : ℕ) (site : Site) (ps : List Place) (ns : List ℕ) (fs : List Frame) {st : State} → names_one (class x) p n site ps ns fs ≡ Some st
      → Moved (WantName site ps ns) fs x p n st
  bound_from (Name text) p n site ps ns fs e =
      (suc (height fs), subst (λ s. Move b (WantName site ps ns) fs (token (suc (height fs)) p (Name text)) n s.mode s.frames) (some e) Move.bound_name)
  bound_from _ p n site ps ns fs e = cc

  pub move_from : (x : Lexeme) (p : Place) (n : ℕ) (m : Mode) (fs : List Frame) {st : State} → move b (class x) p n (state m fs) ≡ Some st → Moved m fs x p n st
  move_from x p n Start fs e = starts_from x p n fs e
  move_from x p n Want fs e = (_, Move.want (operand_from x e))
  move_from x p n (WantLevel v) fs e = paren_from x p n v fs e
  move_from x p n (CloseLevel i) fs e = close_level_from x p n i fs e
  move_from x p n (Behind l v) fs e = behind_from l x p n v fs e
  move_from (Number i) p n (WantPart v) fs e = part_from i p n v fs e
  move_from (Name text) p n (WantPart v) fs e = cc
  move_from (OfWord w) p n (WantPart v) fs e = cc
  move_from (OfSymbol s) p n (WantPart v) fs e = cc
  move_from x p n (WantGoal q) fs e = goal_number_from x p n q fs e
  move_from x p n (WantName site ps ns) fs e = bound_from x p n site ps ns fs e
  move_from x p n (BehindName site ps ns) fs e = name_from x p n site ps ns fs e
  move_from x p n (Between bs) fs e = between_from x p n bs fs e
  move_from x p n BehindGoal fs e = acts_from x p n BehindGoal fs e
  move_from x p n (BehindGoalName q i) fs e = acts_from x p n (BehindGoalName q i) fs e
  move_from x p n (WantIntros ps ns) fs e = acts_from x p n (WantIntros ps ns) fs e
  move_from x p n WantNext fs e = acts_from x p n WantNext fs e
  move_from x p n WantUndo fs e = acts_from x p n WantUndo fs e
  move_from x p n WantForget fs e = acts_from x p n WantForget fs e
  move_from x p n WantDischarge fs e = acts_from x p n WantDischarge fs e
  move_from x p n BehindSave fs e = acts_from x p n BehindSave fs e
  move_from x p n (WantEnd act) fs e = acts_from x p n (WantEnd act) fs e
  move_from x p n (Done act) fs e = acts_from x p n (Done act) fs e

  -- how deep a token is nested where it moves the machine
  abbrev inside : List Frame → ℕ
  inside [] = 0
  inside (f ∷ fs) = suc (height fs)

  abbrev outside : List Frame → ℕ
  outside [] = 0
  outside (f ∷ fs) = height fs

  abbrev nest_behind : Written → List Frame → Lexeme → ℕ
  nest_behind v fs (OfSymbol Arrow) = height (summed b v fs).1
  nest_behind v fs (OfSymbol Comma) = inside (closed b v fs).1
  nest_behind v fs (OfSymbol Colon) = inside (closed b v fs).1
  nest_behind v fs (OfSymbol CloseSquare) = outside (closed b v fs).1
  nest_behind v fs (OfSymbol CloseBrace) = outside (closed b v fs).1
  nest_behind v fs (OfSymbol CloseAngle) = outside (closed b v fs).1
  nest_behind v fs (OfSymbol CloseParen) = outside (closed b v fs).1
  nest_behind v fs (OfSymbol Semicolon) = outside (closed b v fs).1
  nest_behind v fs _ = height fs

  abbrev pub nest : Mode → List Frame → Lexeme → ℕ
  nest (Behind l v) fs x = nest_behind v fs x
  nest (WantLevel v) fs x = suc (height fs)
  nest (WantName site ps ns) fs x = suc (height fs)
  nest (BehindName site ps ns) fs x = suc (height fs)
  nest (BehindGoalName q i) fs (OfSymbol Colon) = height fs
  nest (BehindGoalName q i) fs x = nest_behind (keep b (Named q i)) (Whole (ToGoal None) ∷ fs) x
  nest m fs x = height fs

  operand_nest : {fs gs : List Frame} {n : ℕ} {t : Nested} {m : Mode} → Operand b fs t n m gs → t.nesting ≡ height fs
  operand_nest Operand.name = refl
  operand_nest Operand.prop = refl
  operand_nest Operand.any_type = refl
  operand_nest Operand.goal = refl
  operand_nest Operand.parens = refl
  operand_nest (Operand.binder k) = refl

  apply_nest : (v : Written) (fs : List Frame) {gs hs : List Frame} {n : ℕ} {t : Nested} {m : Mode} → height gs ≡ height fs → Operand b gs t n m hs → t.nesting ≡ nest_behind v fs t.lexeme
  apply_nest v fs h Operand.name = h
  apply_nest v fs h Operand.prop = h
  apply_nest v fs h Operand.any_type = h
  apply_nest v fs h Operand.goal = h
  apply_nest v fs h Operand.parens = h
  apply_nest v fs h (Operand.binder Lambda) = h
  apply_nest v fs h (Operand.binder Pi) = h
  apply_nest v fs h (Operand.binder Sigma) = h

  close_nest : (v : Written) (fs : List Frame) {w : Written} {f : Frame} {gs hs : List Frame} {t : Nested} {m : Mode}
      → closed b v fs ≡ (w, f ∷ gs) → Closes b f w gs t m hs → t.nesting ≡ nest_behind v fs t.lexeme
  close_nest v fs e Closes.parens = ap (λ (y : Written × List Frame). outside y.1) (sym e)
  close_nest v fs e Closes.comma = ap (λ (y : Written × List Frame). inside y.1) (sym e)
  close_nest v fs e Closes.colon = ap (λ (y : Written × List Frame). inside y.1) (sym e)
  close_nest v fs e Closes.pair = ap (λ (y : Written × List Frame). outside y.1) (sym e)
  close_nest v fs e (Closes.domain {k = Lambda}) = ap (λ (y : Written × List Frame). outside y.1) (sym e)
  close_nest v fs e (Closes.domain {k = Pi}) = ap (λ (y : Written × List Frame). outside y.1) (sym e)
  close_nest v fs e (Closes.domain {k = Sigma}) = ap (λ (y : Written × List Frame). outside y.1) (sym e)
  close_nest v fs e Closes.assumption = ap (λ (y : Written × List Frame). outside y.1) (sym e)
  close_nest v fs e Closes.value = ap (λ (y : Written × List Frame). outside y.1) (sym e)
  close_nest v fs e Closes.definition = ap (λ (y : Written × List Frame). outside y.1) (sym e)
  close_nest v fs e Closes.typed = ap (λ (y : Written × List Frame). inside y.1) (sym e)
  close_nest v fs e Closes.stated = ap (λ (y : Written × List Frame). outside y.1) (sym e)
  close_nest v fs e Closes.whole = ap (λ (y : Written × List Frame). outside y.1) (sym e)

  -- what a name of a goal is behind never ends at a `:`
  behind_nest : {l : Bool} {v : Written} {fs gs : List Frame} {n : ℕ} {t : Nested} {m : Mode} → Move b (Behind l v) fs t n m gs → t.nesting ≡ nest_behind v fs t.lexeme
  behind_nest (Move.apply {v = v} {fs = fs} a o) = apply_nest v fs (height-settled b v fs) o
  behind_nest Move.open_level = refl
  behind_nest Move.bar = refl
  behind_nest Move.dot = refl
  behind_nest Move.hash = refl
  behind_nest Move.arrow = refl
  behind_nest (Move.close {v = v} {fs = fs} e x) = close_nest v fs e x

  -- no term of a goal ends at a `:`
  behind_colon : (q p : Place) (i n : ℕ) (fs : List Frame) {st : State} → behind b (Token.Symbol Colon) p n false (keep b (Named q i)) (Whole (ToGoal None) ∷ fs) ≡ Some st → ⊥
  behind_colon q p i n fs e = cc

  named_nest : (q : Place) (i : ℕ) (fs : List Frame) {n : ℕ} (x : Lexeme) {m : Mode} {gs : List Frame} {d : ℕ} {p : Place}
      → Move b (Behind false (keep b (Named q i))) (Whole (ToGoal None) ∷ fs) (token d p x) n m gs → d ≡ nest_behind (keep b (Named q i)) (Whole (ToGoal None) ∷ fs) x
      → d ≡ nest (BehindGoalName q i) fs x
  named_nest q i fs {n} (OfSymbol Colon) {p = p} y e = absurd (behind_colon q p i n fs (move_to y))
  named_nest q i fs x y e = e

  pub nest_is : {m m' : Mode} {fs gs : List Frame} {n : ℕ} {t : Nested} → Move b m fs t n m' gs → t.nesting ≡ nest m fs t.lexeme
  nest_is {m = Behind l v} x = behind_nest x
  nest_is (Move.want o) = operand_nest o
  nest_is (Move.level_operand {v = v} {fs = fs} o) = operand_nest o ∙ ap suc (height-settled b v fs)
  nest_is (Move.show o) = operand_nest o
  nest_is (Move.goal_term a o) = operand_nest o
  nest_is (Move.goal_behind {fs = fs} {q = q} {i = i} {t = t} x) = named_nest q i fs t.lexeme x (behind_nest x)
  nest_is _ = refl
