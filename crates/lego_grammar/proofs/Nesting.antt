-- How deep the tokens of the moves are nested.
use Rattle.std.proofs.Common.{◌≡◌, ℕ, suc, ◌≤◌, ◌⊎◌, inl, inr, List, [], ◌∷◌, Bool, refl, ap, arith}
use Rattle.lego_lexer.specs.declared.token.Word.{Word}
use Rattle.lego_grammar.specs.Written.{Written}
use Rattle.lego_grammar.specs.Grammar.{Nested}
use Rattle.lego_grammar.specs.private.Machine.{Frame, ApplyTo, HashFrom, ArrowFrom, BodyOf, BodyWith, Mode, Want, WantLevel, WantName, state, level, height, summed, closed, wrapped}
use Rattle.lego_grammar.proofs.Transitions.{Operand, Closes, Move, WaitingWord}
use Rattle.lego_grammar.proofs.Complete.{height-settled}

-- the modes behind which each token stands at their own level
abbrev pub Opens : Mode → Type 0
Opens Want = Unit {0}
Opens (WantLevel _) = Unit {0}
Opens (WantName _ _ _) = Unit {0}
Opens _ = ⊥

-- what follows a token is no deeper than the token, or one level deeper in a mode that opens
abbrev pub Follows : ℕ → Mode → List Frame → Type 0
Follows d m fs = (level (state m fs) ≤ d) ⊎ ((level (state m fs) ≡ suc d) × Opens m)

module _ (b : Bool) where
  height-summed : (v : Written) (fs : List Frame) → height (summed b v fs).1 ≤ height fs
  height-summed v [] = omega arith
  height-summed v (ApplyTo m f ∷ fs) = height-summed (wrapped b (ApplyTo m f) v) fs
  height-summed v (HashFrom a ∷ fs) = let h = height-summed (wrapped b (HashFrom a) v) fs in omega (arith, h)
  height-summed v (f ∷ fs) = omega arith

  height-closed : (v : Written) (fs : List Frame) → height (closed b v fs).1 ≤ height fs
  height-closed v [] = omega arith
  height-closed v (ApplyTo m f ∷ fs) = height-closed (wrapped b (ApplyTo m f) v) fs
  height-closed v (HashFrom a ∷ fs) = let h = height-closed (wrapped b (HashFrom a) v) fs in omega (arith, h)
  height-closed v (ArrowFrom a ∷ fs) = let h = height-closed (wrapped b (ArrowFrom a) v) fs in omega (arith, h)
  height-closed v (BodyOf k m ns a ∷ fs) = let h = height-closed (wrapped b (BodyOf k m ns a) v) fs in omega (arith, h)
  height-closed v (BodyWith n a ∷ fs) = let h = height-closed (wrapped b (BodyWith n a) v) fs in omega (arith, h)
  height-closed v (f ∷ fs) = omega arith

  operand_at : {fs gs : List Frame} {t : Nested} {n : ℕ} {m : Mode} → Operand b fs t n m gs → t.nesting ≡ height fs
  operand_at Operand.name = refl
  operand_at Operand.prop = refl
  operand_at Operand.any_type = refl
  operand_at Operand.goal = refl
  operand_at Operand.parens = refl
  operand_at (Operand.binder k) = refl

  operand_follows : {fs gs : List Frame} {t : Nested} {n : ℕ} {m : Mode} → Operand b fs t n m gs → Follows t.nesting m gs
  operand_follows Operand.name = inl (omega arith)
  operand_follows Operand.prop = inl (omega arith)
  operand_follows Operand.any_type = inl (omega arith)
  operand_follows Operand.goal = inl (omega arith)
  operand_follows Operand.parens = inr (refl, tt)
  operand_follows (Operand.binder k) = inr (refl, tt)

  closes_below : {f : Frame} {v : Written} {fs gs : List Frame} {t : Nested} {m : Mode} → Closes b f v fs t m gs → t.nesting ≤ height (f ∷ fs)
  closes_below Closes.parens = omega arith
  closes_below Closes.comma = omega arith
  closes_below Closes.colon = omega arith
  closes_below Closes.pair = omega arith
  closes_below Closes.domain = omega arith
  closes_below Closes.assumption = omega arith
  closes_below Closes.value = omega arith
  closes_below Closes.definition = omega arith
  closes_below Closes.typed = omega arith
  closes_below Closes.stated = omega arith
  closes_below Closes.whole = omega arith

  closes_follows : {f : Frame} {v : Written} {fs gs : List Frame} {t : Nested} {m : Mode} → Closes b f v fs t m gs → Follows t.nesting m gs
  closes_follows Closes.parens = inl (omega arith)
  closes_follows Closes.comma = inl (omega arith)
  closes_follows Closes.colon = inl (omega arith)
  closes_follows Closes.pair = inl (omega arith)
  closes_follows Closes.domain = inr (refl, tt)
  closes_follows Closes.assumption = inl (omega arith)
  closes_follows Closes.value = inr (refl, tt)
  closes_follows Closes.definition = inl (omega arith)
  closes_follows Closes.typed = inl (omega arith)
  closes_follows Closes.stated = inl (omega arith)
  closes_follows Closes.whole = inl (omega arith)

  pub at_level : {m m' : Mode} {fs gs : List Frame} {t : Nested} {n : ℕ} → Opens m → Move b m fs t n m' gs → t.nesting ≡ level (state m fs)
  at_level o (Move.want x) = operand_at x
  at_level o (Move.level_operand {v = v} {fs = fs} x) = let e = operand_at x in let h = height-settled b v fs in omega (arith, e, h)
  at_level o Move.level_number = refl
  at_level o Move.bound_name = refl
  at_level o _ = absurd o

  pub is_below : {m m' : Mode} {fs gs : List Frame} {t : Nested} {n : ℕ} → Move b m fs t n m' gs → t.nesting ≤ level (state m fs)
  is_below (Move.want x) = let e = operand_at x in omega (arith, e)
  is_below (Move.level_operand {v = v} {fs = fs} x) = let e = operand_at x in let h = height-settled b v fs in omega (arith, e, h)
  is_below (Move.apply {v = v} {fs = fs} a x) = let e = operand_at x in let h = height-settled b v fs in omega (arith, e, h)
  is_below (Move.arrow {v = v} {fs = fs}) = height-summed v fs
  is_below (Move.close {v = v} {fs = fs} e x) =
      let h = height-closed v fs in let k = closes_below x in let q = ap (λ (y : Written × List Frame). height y.1) e in omega (arith, h, k, q)
  is_below (Move.show x) = let e = operand_at x in omega (arith, e)
  is_below (Move.goal_term a x) = let e = operand_at x in omega (arith, e)
  is_below (Move.goal_behind x) = is_below x
  is_below _ = omega arith

  pub follows : {m m' : Mode} {fs gs : List Frame} {t : Nested} {n : ℕ} → Move b m fs t n m' gs → Follows t.nesting m' gs
  follows (Move.want x) = operand_follows x
  follows (Move.level_operand x) = operand_follows x
  follows (Move.apply a x) = operand_follows x
  follows (Move.show x) = operand_follows x
  follows (Move.goal_term a x) = operand_follows x
  follows (Move.close e x) = closes_follows x
  follows (Move.goal_behind x) = follows x
  follows Move.open_level = inr (refl, tt)
  follows (Move.bar {v = v} {fs = fs}) = let h = height-settled b v fs in inl (omega (arith, h))
  follows (Move.hash {v = v} {fs = fs}) = let h = height-settled b v fs in inr (ap suc h, tt)
  follows Move.arrow = inr (refl, tt)
  follows Move.binding = inr (refl, tt)
  follows (Move.waiting_word {fs = fs} w) = waiting w
    where
      waiting : {w : Word} {m : Mode} → WaitingWord w m → Follows (height fs) m fs
      waiting WaitingWord.goal = inl (omega arith)
      waiting WaitingWord.intros = inl (omega arith)
      waiting WaitingWord.next = inl (omega arith)
      waiting WaitingWord.undo = inl (omega arith)
      waiting WaitingWord.forget = inl (omega arith)
      waiting WaitingWord.discharge = inl (omega arith)
      waiting WaitingWord.save = inl (omega arith)
      waiting WaitingWord.assumption = inl (omega arith)
      waiting WaitingWord.kill = inl (omega arith)
      waiting WaitingWord.prf = inl (omega arith)
      waiting WaitingWord.ctxt = inl (omega arith)
      waiting WaitingWord.explicit = inl (omega arith)
      waiting WaitingWord.implicit = inl (omega arith)
  follows _ = inl (omega arith)
