-- The steps of a scan, for the loop of the code.
use Rattle.std.proofs.Common.{◌≡◌, ◌⊎◌, inl, inr, ℕ, zero, suc, ◌≤◌, ◌<◌, List, [], ◌∷◌, false, Option, Some, None, slice_get, take, length, refl, sym, ap, ◌∙◌, arith}
use Rattle.std.proofs.Math.Nat.{eq-or-lt_of_le}
use Rattle.lego_grammar.specs.Grammar.{Item}
use Rattle.lego_grammar.specs.private.Machine.{Frame, Mode, State, state, move, level}
use Rattle.lego_grammar.specs.private.Runs.{class, goes}
use Rattle.lego_parser.specs.private.Scanning.{Shallow}
use Rattle.lego_grammar.proofs.Beginnings.{goes_none}
use Rattle.lego_parser.proofs.Depths.{the}

none_some : {X : Type 0} {x : X} {A : Type 0} → ◌≡◌ {A = Option X} None (Some x) → A
none_some e = cc

pub goes_nil : (o : Option State) → goes [] o ≡ o
goes_nil None = refl
goes_nil (Some s) = refl

-- One step: the code hands the state before token i and the token; what it is told is the state behind it, or that there is none.
pub goes_step : (tokens : List Item) (i : ℕ) (t : Item) (o : Option State) {st : State} → slice_get tokens i ≡ Some t → goes (take i tokens) o ≡ Some st
    → goes (take (suc i) tokens) o ≡ move false (class t.lexeme) t.place 0 st
goes_step tokens i t None g e = none_some (sym (goes_none (take i tokens)) ∙ e)
goes_step [] i t (Some s) g e = none_some g
goes_step (x ∷ xs) zero t (Some s) g e =
    let same = the g in goes_nil (move false (class x.lexeme) x.place 0 s)
    ∙ (ap (λ (y : Item). move false (class y.lexeme) y.place 0 s) same ∙ ap (λ st. move false (class t.lexeme) t.place 0 st) (the e))
goes_step (x ∷ xs) (suc i) t (Some s) g e = goes_step xs i t (move false (class x.lexeme) x.place 0 s) g e

-- All tokens: the scan of `take (length tokens) tokens` is that of the tokens.
pub take_all : (tokens : List Item) → take (length tokens) tokens ≡ tokens
take_all [] = refl
take_all (x ∷ xs) = ap (λ l. x ∷ l) (take_all xs)

pub goes_all : (tokens : List Item) (o : Option State) → goes tokens o ≡ goes (take (length tokens) tokens) o
goes_all tokens o = ap (λ l. goes l o) (sym (take_all tokens))

-- Before the first token nothing is to be shown.
pub shallow_none : (m : Mode) (fs : List Frame) (tokens : List Item) → Shallow m fs tokens 0
shallow_none m fs tokens = λ j s h e. absurd (omega (arith, h))

-- A state within the limit keeps the scan within it.
pub shallow_more : (m : Mode) (fs : List Frame) (tokens : List Item) (i : ℕ) {st : State} → Shallow m fs tokens i → goes (take i tokens) (Some (state m fs)) ≡ Some st → level st ≤ 500
    → Shallow m fs tokens (suc i)
shallow_more m fs tokens i {st} sh e l = λ j s h g. pick j s g (eq-or-lt_of_le (at_most j h))
  where
    at_most : (j : ℕ) → j < suc i → j ≤ i
    at_most j h = omega (arith, h)

    pick : (j : ℕ) (s : State) → goes (take j tokens) (Some (state m fs)) ≡ Some s → (j ≡ i) ⊎ (j < i) → level s ≤ 500
    pick j s g (inl q) =
        let same = the (sym e ∙ (ap (λ k. goes (take k tokens) (Some (state m fs))) (sym q) ∙ g)) in
        let levels = ap (λ (z : State). level z) same in omega (arith, l, levels)
    pick j s g (inr q) = sh j s q g
