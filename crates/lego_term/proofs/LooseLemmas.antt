-- Lifting and substitution raise the bound on the loose variables by no more than what is put.
use Rattle.std.proofs.Common.{◌≡◌, ℕ, suc, pred, max, ◌+◌, ◌-◌, ◌<◌, ◌≤◌, nat_lt, nat_eq, if◌then◌else◌, true, false, refl, arith}
use Rattle.std.proofs.lemmas.Bool.Decides.{nat_tests}
use Rattle.lego_term.specs.Trees.{Core, Var, Const, Prop, Univ, Pi, Lam, App, Sigma, Pair, Fst, Snd, Let, loose, lift, put, put_var, instantiate}

lifted_index : (from by n : ℕ) → suc (if nat_lt n from then n else n + by) ≤ suc n + by
lifted_index from by n = grind (arith, nat_tests)

pub loose-lift : (from by : ℕ) (t : Core) → loose (lift from by t) ≤ loose t + by
loose-lift from by (Var n) = lifted_index from by n
loose-lift from by (Const k) = omega arith
loose-lift from by Prop = omega arith
loose-lift from by (Univ l) = omega arith
loose-lift from by (Pi x a b) = omega (arith, loose-lift from by a, loose-lift (suc from) by b)
loose-lift from by (Lam x a m) = omega (arith, loose-lift from by a, loose-lift (suc from) by m)
loose-lift from by (App k m n) = omega (arith, loose-lift from by m, loose-lift from by n)
loose-lift from by (Sigma x a b) = omega (arith, loose-lift from by a, loose-lift (suc from) by b)
loose-lift from by (Pair x a b m n) = omega (arith, loose-lift from by a, loose-lift (suc from) by b, loose-lift from by m, loose-lift from by n)
loose-lift from by (Fst m) = omega (arith, loose-lift from by m)
loose-lift from by (Snd m) = omega (arith, loose-lift from by m)
loose-lift from by (Let x m n) = omega (arith, loose-lift from by m, loose-lift (suc from) by n)

put_index : (d n : ℕ) (v : Core) → loose (put_var d v n) ≤ max (d + loose v) n
put_index d n v =
    elim (nat_lt n d) as (λ b. nat_lt n d ≡ b → loose (if b then Var n else if nat_eq n d then lift 0 d v else Var (n - 1)) ≤ max (d + loose v) n) [
      | true ↦ λ e. (let below : n < d = grind (arith, nat_tests) in omega arith)
      | false ↦ λ e.
          elim (nat_eq n d) as (λ b. nat_eq n d ≡ b → loose (if b then lift 0 d v else Var (n - 1)) ≤ max (d + loose v) n) [
            | true ↦ λ f. omega (arith, loose-lift 0 d v)
            | false ↦ λ f. (let above : d < n = grind (arith, nat_tests) in omega arith)
          ] refl
    ] refl

pub loose-put : (d : ℕ) (v t : Core) → loose (put d v t) ≤ max (d + loose v) (pred (loose t))
loose-put d v (Var n) = put_index d n v
loose-put d v (Const k) = omega arith
loose-put d v Prop = omega arith
loose-put d v (Univ l) = omega arith
loose-put d v (Pi x a b) = omega (arith, loose-put d v a, loose-put (suc d) v b)
loose-put d v (Lam x a m) = omega (arith, loose-put d v a, loose-put (suc d) v m)
loose-put d v (App k m n) = omega (arith, loose-put d v m, loose-put d v n)
loose-put d v (Sigma x a b) = omega (arith, loose-put d v a, loose-put (suc d) v b)
loose-put d v (Pair x a b m n) = omega (arith, loose-put d v a, loose-put (suc d) v b, loose-put d v m, loose-put d v n)
loose-put d v (Fst m) = omega (arith, loose-put d v m)
loose-put d v (Snd m) = omega (arith, loose-put d v m)
loose-put d v (Let x m n) = omega (arith, loose-put d v m, loose-put (suc d) v n)

pub loose-instantiate : (m n : Core) → loose (instantiate m n) ≤ max (loose n) (pred (loose m))
unfolding instantiate
loose-instantiate m n = omega (arith, loose-put 0 n m)
