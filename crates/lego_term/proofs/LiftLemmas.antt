-- What lifting leaves: the size, the depth, and a tree whose loose variables are all below the bound.
use Rattle.std.proofs.Common.{◌≡◌, ℕ, suc, ◌+◌, ◌≤◌, nat_lt, if◌then◌else◌, refl, ap, ◌∙◌, inl, inr, arith, IfErr, Result, Ok, Err}
use Rattle.std.proofs.lemmas.Bool.Decides.{nat_tests}
use Rattle.lego_term.specs.Trees.{Core, Var, Const, Prop, Univ, Pi, Lam, App, Sigma, Pair, Fst, Snd, Let, size, depth, loose, lift}
use Rattle.lego_term.specs.Made.{Makes, Fits}
use Rattle.lego_term.specs.declared.fault.TermFault.{TermFault}
use Rattle.lego_term.specs.declared.fault.TermFault.TheVariants.{TooLarge, Memory}

pub size-lift : (from by : ℕ) (t : Core) → size (lift from by t) ≡ size t
size-lift from by (Var i) = refl
size-lift from by (Const k) = refl
size-lift from by Prop = refl
size-lift from by (Univ l) = refl
size-lift from by (Pi x a b) = omega (arith, size-lift from by a, size-lift (suc from) by b)
size-lift from by (Lam x a b) = omega (arith, size-lift from by a, size-lift (suc from) by b)
size-lift from by (App k m n) = omega (arith, size-lift from by m, size-lift from by n)
size-lift from by (Sigma x a b) = omega (arith, size-lift from by a, size-lift (suc from) by b)
size-lift from by (Pair x a b m n) = omega (arith, size-lift from by a, size-lift (suc from) by b, size-lift from by m, size-lift from by n)
size-lift from by (Fst m) = omega (arith, size-lift from by m)
size-lift from by (Snd m) = omega (arith, size-lift from by m)
size-lift from by (Let x m n) = omega (arith, size-lift from by m, size-lift (suc from) by n)

pub depth-lift : (from by : ℕ) (t : Core) → depth (lift from by t) ≡ depth t
depth-lift from by (Var i) = refl
depth-lift from by (Const k) = refl
depth-lift from by Prop = refl
depth-lift from by (Univ l) = refl
depth-lift from by (Pi x a b) = omega (arith, depth-lift from by a, depth-lift (suc from) by b)
depth-lift from by (Lam x a b) = omega (arith, depth-lift from by a, depth-lift (suc from) by b)
depth-lift from by (App k m n) = omega (arith, depth-lift from by m, depth-lift from by n)
depth-lift from by (Sigma x a b) = omega (arith, depth-lift from by a, depth-lift (suc from) by b)
depth-lift from by (Pair x a b m n) = omega (arith, depth-lift from by a, depth-lift (suc from) by b, depth-lift from by m, depth-lift from by n)
depth-lift from by (Fst m) = omega (arith, depth-lift from by m)
depth-lift from by (Snd m) = omega (arith, depth-lift from by m)
depth-lift from by (Let x m n) = omega (arith, depth-lift from by m, depth-lift (suc from) by n)

index_stays : (from by n : ℕ) → suc n ≤ from → (if nat_lt n from then n else n + by) ≡ n
index_stays from by n h = grind (arith, nat_tests)

pub lift-low : (from by : ℕ) (t : Core) → loose t ≤ from → lift from by t ≡ t
lift-low from by (Var n) h i = Var (index_stays from by n h i)
lift-low from by (Const k) h i = Const k
lift-low from by Prop h i = Prop
lift-low from by (Univ l) h i = Univ l
lift-low from by (Pi x a b) h i = Pi x (lift-low from by a (omega arith) i) (lift-low (suc from) by b (omega arith) i)
lift-low from by (Lam x a b) h i = Lam x (lift-low from by a (omega arith) i) (lift-low (suc from) by b (omega arith) i)
lift-low from by (App k m n) h i = App k (lift-low from by m (omega arith) i) (lift-low from by n (omega arith) i)
lift-low from by (Sigma x a b) h i = Sigma x (lift-low from by a (omega arith) i) (lift-low (suc from) by b (omega arith) i)
lift-low from by (Pair x a b m n) h i = Pair x (lift-low from by a (omega arith) i) (lift-low (suc from) by b (omega arith) i) (lift-low from by m (omega arith) i) (lift-low from by n (omega arith) i)
lift-low from by (Fst m) h i = Fst (lift-low from by m h i)
lift-low from by (Snd m) h i = Snd (lift-low from by m h i)
lift-low from by (Let x m n) h i = Let x (lift-low from by m (omega arith) i) (lift-low (suc from) by n (omega arith) i)
