-- A tree whose loose variables are all below the place stays as it is; at the place stands the value.
use Rattle.std.proofs.Common.{◌≡◌, ℕ, suc, ◌≤◌, nat_lt, nat_eq, true, false, refl, ap, sym, ◌∙◌, arith, IfOk, IfErr, Result, Ok, Err}
use Rattle.std.proofs.lemmas.Bool.Decides.{nat_tests}
use Rattle.lego_term.specs.Trees.{Core, Var, Const, Prop, Univ, Pi, Lam, App, Sigma, Pair, Fst, Snd, Let, size, depth, loose, lift, put}
use Rattle.lego_term.specs.Made.{Fits, first_over, Rebuilds}
use Rattle.lego_term.specs.declared.fault.TermFault.{TermFault}
use Rattle.lego_term.specs.declared.fault.TermFault.TheVariants.{TooLarge, Memory}
use Rattle.lego_term.proofs.LiftLemmas.{size-lift, depth-lift}
use Rattle.lego_term.proofs.OverLemmas.{first_over-fits}

lt_true : (a b : ℕ) → suc a ≤ b → nat_lt a b ≡ true
lt_true a b h = grind (arith, nat_tests)

var_stays : (at n : ℕ) (v : Core) → suc n ≤ at → put at v (Var n) ≡ Var n
var_stays at n v h = rw (lt_true n at h) refl

pub put-low : (at : ℕ) (v t : Core) → loose t ≤ at → put at v t ≡ t
put-low at v (Var n) h i = var_stays at n v h i
put-low at v (Const k) h i = Const k
put-low at v Prop h i = Prop
put-low at v (Univ l) h i = Univ l
put-low at v (Pi x a b) h i = Pi x (put-low at v a (omega arith) i) (put-low (suc at) v b (omega arith) i)
put-low at v (Lam x a b) h i = Lam x (put-low at v a (omega arith) i) (put-low (suc at) v b (omega arith) i)
put-low at v (App k m n) h i = App k (put-low at v m (omega arith) i) (put-low at v n (omega arith) i)
put-low at v (Sigma x a b) h i = Sigma x (put-low at v a (omega arith) i) (put-low (suc at) v b (omega arith) i)
put-low at v (Pair x a b m n) h i = Pair x (put-low at v a (omega arith) i) (put-low (suc at) v b (omega arith) i) (put-low at v m (omega arith) i) (put-low at v n (omega arith) i)
put-low at v (Fst m) h i = Fst (put-low at v m h i)
put-low at v (Snd m) h i = Snd (put-low at v m h i)
put-low at v (Let x m n) h i = Let x (put-low at v m (omega arith) i) (put-low (suc at) v n (omega arith) i)

lt_false : (a b : ℕ) → a ≡ b → nat_lt a b ≡ false
lt_false a b e = grind (arith, nat_tests)

eq_true : (a b : ℕ) → a ≡ b → nat_eq a b ≡ true
eq_true a b e = grind (arith, nat_tests)

pub put-here : (at i : ℕ) (v : Core) → i ≡ at → put at v (Var i) ≡ lift 0 at v
put-here at i v e = rw (lt_false i at e, eq_true i at e) refl

-- where the value stands lifted, lifting it answers for the whole
pub lift_rebuilds : (at : ℕ) (v t : Core) (r : Result Core TermFault) → put at v t ≡ lift 0 at v → Fits v
    → IfOk r (λ u. u ≡ lift 0 at v) → IfErr r (λ fault. fault ≡ Memory) → Rebuilds (put at v t) r
lift_rebuilds at v t (Ok u) e f h n =
    let s : size (lift 0 at v) ≤ 1048576 = omega (arith, f.0, size-lift 0 at v) in
    let d : depth (lift 0 at v) ≤ 2000 = omega (arith, f.1, depth-lift 0 at v) in
    (h ∙ sym e, ap first_over e ∙ first_over-fits (lift 0 at v) s d)
lift_rebuilds at v t (Err Memory) e f h n = tt
lift_rebuilds at v t (Err (TooLarge nodes levels)) e f h n = cc
