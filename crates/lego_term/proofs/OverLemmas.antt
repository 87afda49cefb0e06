-- No part of a tree that fits passes a limit.
use Rattle.std.proofs.Common.{◌≡◌, ℕ, ◌≤◌, ◌<◌, Bool, true, false, ◌&&◌, nat_le, refl, sym, ap, ◌∙◌, inl, inr, arith, None, Some, IfOk, IfErr, Result, Ok, Err}
use Rattle.std.proofs.lemmas.Bool.Decides.{nat_tests}
use Rattle.lego_term.specs.Trees.{Core, Var, Const, Prop, Univ, Pi, Lam, App, Sigma, Pair, Fst, Snd, Let, size, depth}
use Rattle.lego_term.specs.Made.{Fits, Passes, Makes, over, first_over, Rebuilds}
use Rattle.lego_term.specs.declared.binder.Binder.{Binder}
use Rattle.lego_term.specs.declared.fault.TermFault.{TermFault}
use Rattle.lego_term.specs.declared.fault.TermFault.TheVariants.{TooLarge, Memory}

le_true : (a b : ℕ) → a ≤ b → nat_le a b ≡ true
le_true a b h = grind (arith, nat_tests)

pub at_most : (a b : ℕ) → nat_le a b ≡ true → a ≤ b
at_most a b h = grind (arith, nat_tests)

over-fits : (t : Core) → size t ≤ 1048576 → depth t ≤ 2000 → over t ≡ None
over-fits t s d = rw (le_true (size t) 1048576 s, le_true (depth t) 2000 d) refl

pub first_over-fits : (t : Core) → size t ≤ 1048576 → depth t ≤ 2000 → first_over t ≡ None
first_over-fits (Var i) s d = refl
first_over-fits (Const k) s d = refl
first_over-fits Prop s d = refl
first_over-fits (Univ l) s d = refl
first_over-fits (Pi x a b) s d = rw (first_over-fits a (omega arith) (omega arith), first_over-fits b (omega arith) (omega arith)) (over-fits (Pi x a b) s d)
first_over-fits (Lam x a b) s d = rw (first_over-fits a (omega arith) (omega arith), first_over-fits b (omega arith) (omega arith)) (over-fits (Lam x a b) s d)
first_over-fits (App k m n) s d = rw (first_over-fits m (omega arith) (omega arith), first_over-fits n (omega arith) (omega arith)) (over-fits (App k m n) s d)
first_over-fits (Sigma x a b) s d = rw (first_over-fits a (omega arith) (omega arith), first_over-fits b (omega arith) (omega arith)) (over-fits (Sigma x a b) s d)
first_over-fits (Pair x a b m n) s d = rw (first_over-fits a (omega arith) (omega arith), first_over-fits b (omega arith) (omega arith), first_over-fits m (omega arith) (omega arith), first_over-fits n (omega arith) (omega arith)) (over-fits (Pair x a b m n) s d)
first_over-fits (Fst m) s d = rw (first_over-fits m (omega arith) (omega arith)) (over-fits (Fst m) s d)
first_over-fits (Snd m) s d = rw (first_over-fits m (omega arith) (omega arith)) (over-fits (Snd m) s d)
first_over-fits (Let x m n) s d = rw (first_over-fits m (omega arith) (omega arith), first_over-fits n (omega arith) (omega arith)) (over-fits (Let x m n) s d)

none_is_some : (p : ℕ × ℕ) → None ≡ Some p → ⊥
none_is_some p e = cc

-- what is built again is the tree
pub rebuilt_tree : (u : Core) (r : Result Core TermFault) → Rebuilds u r → IfOk r (λ made. made ≡ u)
rebuilt_tree u (Ok made) h = h.0
rebuilt_tree u (Err Memory) h = tt
rebuilt_tree u (Err (TooLarge nodes levels)) h = tt

-- where a tree that fits is built again with its size and depth, no limit is met
pub rebuilt_fault : (t u : Core) (r : Result Core TermFault) → size u ≡ size t → depth u ≡ depth t → Fits t → Rebuilds u r
    → IfErr r (λ fault. fault ≡ Memory)
rebuilt_fault t u (Ok made) s d f h = tt
rebuilt_fault t u (Err Memory) s d f h = refl
rebuilt_fault t u (Err (TooLarge nodes levels)) s d f h =
    let none : first_over u ≡ None = first_over-fits u (omega (arith, f.0)) (omega (arith, f.1)) in
    absurd (none_is_some (nodes, levels) (sym none ∙ h))

le_false : (a b : ℕ) → b < a → nat_le a b ≡ false
le_false a b h = grind (arith, nat_tests)

and_false : (b : Bool) → (b && false) ≡ false
and_false true = refl
and_false false = refl

over-passes : (t : Core) → Passes t → over t ≡ Some (size t, depth t)
over-passes t (inl p) = rw (le_false (size t) 1048576 p) refl
over-passes t (inr p) = rw (le_false (depth t) 2000 p, and_false (nat_le (size t) 1048576)) refl

-- a pair that is made of parts that were built again is built again
pub pair_rebuilds : (x : Binder) (a b m n a' b' m' n' whole : Core) (r : Result Core TermFault) → whole ≡ Pair x a b m n
    → (a' ≡ a) × (first_over a ≡ None) → (b' ≡ b) × (first_over b ≡ None) → (m' ≡ m) × (first_over m ≡ None) → (n' ≡ n) × (first_over n ≡ None)
    → Makes (Pair x a' b' m' n') r → Rebuilds whole r
pair_rebuilds x a b m n a' b' m' n' whole (Ok made) e ha hb hm hn h =
    let same : Pair x a' b' m' n' ≡ Pair x a b m n = λ i. Pair x (ha.0 i) (hb.0 i) (hm.0 i) (hn.0 i) in
    let fits : over (Pair x a b m n) ≡ None = ap over (sym same) ∙ over-fits (Pair x a' b' m' n') h.1.0 h.1.1 in
    let none : first_over (Pair x a b m n) ≡ None = rw (ha.1, hb.1, hm.1, hn.1) fits in
    (h.0 ∙ (same ∙ sym e), ap first_over e ∙ none)
pair_rebuilds x a b m n a' b' m' n' whole (Err Memory) e ha hb hm hn h = tt
pair_rebuilds x a b m n a' b' m' n' whole (Err (TooLarge nodes levels)) e ha hb hm hn h =
    let same : Pair x a' b' m' n' ≡ Pair x a b m n = λ i. Pair x (ha.0 i) (hb.0 i) (hm.0 i) (hn.0 i) in
    let passes : over (Pair x a b m n) ≡ Some (nodes, levels) =
    ap over (sym same) ∙ (over-passes (Pair x a' b' m' n') h.2 ∙ λ i. Some (sym h.0 i, sym h.1 i)) in
    let some : first_over (Pair x a b m n) ≡ Some (nodes, levels) = rw (ha.1, hb.1, hm.1, hn.1) passes in
    ap first_over e ∙ some
