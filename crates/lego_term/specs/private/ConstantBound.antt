-- Which constants a term, a list or a map of bodies can have.
use Rattle.std.specs.Prelude.{◌≡◌, ℕ, suc, max, ◌<◌, Option, None}
use Rattle.lego_term.specs.Trees.{Core, Var, Const, Prop, Univ, Pi, Lam, App, Sigma, Pair, Fst, Snd, Let}

-- the bound on the constants: each is below it
abbrev pub constant_bound : Core → ℕ
constant_bound (Var i) = 0
constant_bound (Const k) = suc k
constant_bound Prop = 0
constant_bound (Univ l) = 0
constant_bound (Pi x a b) = max (constant_bound a) (constant_bound b)
constant_bound (Lam x a m) = max (constant_bound a) (constant_bound m)
constant_bound (App k m n) = max (constant_bound m) (constant_bound n)
constant_bound (Sigma x a b) = max (constant_bound a) (constant_bound b)
constant_bound (Pair x a b m n) = max (max (constant_bound a) (constant_bound b)) (max (constant_bound m) (constant_bound n))
constant_bound (Fst m) = constant_bound m
constant_bound (Snd m) = constant_bound m
constant_bound (Let x m n) = max (constant_bound m) (constant_bound n)

-- no constant below the number is known to the map
abbrev pub NoneBelow : {X : Type 0} → ℕ → (ℕ → Option X) → Type 0
NoneBelow least known = (k : ℕ) → k < least → known k ≡ None
