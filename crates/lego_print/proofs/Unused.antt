-- A variable at or above the bound on the loose variables is not used.
use Rattle.std.proofs.Common.{◌≡◌, ℕ, suc, pred, max, ◌≤◌, Bool, false, ◌||◌, nat_eq, refl, arith}
use Rattle.std.proofs.lemmas.Bool.Decides.{nat_tests}
use Rattle.lego_term.specs.Trees.{Core, Var, Const, Prop, Univ, Pi, Lam, App, Sigma, Pair, Fst, Snd, Let, loose, uses_variable}

neither : (a b : Bool) → a ≡ false → b ≡ false → (a || b) ≡ false
neither a b p q = rw (p, q) refl

below_left : (m n k : ℕ) → max m n ≤ k → m ≤ k
below_left m n k h = omega arith

below_right : (m n k : ℕ) → max m n ≤ k → n ≤ k
below_right m n k h = omega arith

under : (m n k : ℕ) → max m (pred n) ≤ k → n ≤ suc k
under m n k h = omega arith

other : (i j : ℕ) → suc j ≤ i → nat_eq i j ≡ false
other i j h = grind (arith, nat_tests)

pub loose_unused : (i : ℕ) (t : Core) → loose t ≤ i → uses_variable i t ≡ false
loose_unused i (Var j) h = other i j h
loose_unused i (Const k) h = refl
loose_unused i Prop h = refl
loose_unused i (Univ l) h = refl
loose_unused i (Pi x a b) h = neither _ _ (loose_unused i a (below_left _ _ i h)) (loose_unused (suc i) b (under (loose a) (loose b) i h))
loose_unused i (Lam x a b) h = neither _ _ (loose_unused i a (below_left _ _ i h)) (loose_unused (suc i) b (under (loose a) (loose b) i h))
loose_unused i (App k m n) h = neither _ _ (loose_unused i m (below_left _ _ i h)) (loose_unused i n (below_right (loose m) (loose n) i h))
loose_unused i (Sigma x a b) h = neither _ _ (loose_unused i a (below_left _ _ i h)) (loose_unused (suc i) b (under (loose a) (loose b) i h))
loose_unused i (Pair x a b m n) h =
    let front = below_left (max (loose a) (pred (loose b))) (max (loose m) (loose n)) i h in
    let back = below_right (max (loose a) (pred (loose b))) (max (loose m) (loose n)) i h in
    neither _ _
    (neither _ _ (neither _ _ (loose_unused i a (below_left (loose a) (pred (loose b)) i front)) (loose_unused (suc i) b (under (loose a) (loose b) i front)))
    (loose_unused i m (below_left (loose m) (loose n) i back))) (loose_unused i n (below_right (loose m) (loose n) i back))
loose_unused i (Fst m) h = loose_unused i m h
loose_unused i (Snd m) h = loose_unused i m h
loose_unused i (Let x a b) h = neither _ _ (loose_unused i a (below_left _ _ i h)) (loose_unused (suc i) b (under (loose a) (loose b) i h))
