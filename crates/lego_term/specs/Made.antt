-- What a call that makes a term answers.
use Rattle.std.specs.Prelude.{◌≡◌, ℕ, ◌≤◌, ◌<◌, ◌⊎◌, ◌&&◌, nat_le, if◌then◌else◌, Option, Some, None, Result, Ok, Err}
use Rattle.lego_term.specs.Trees.{Core, Var, Const, Prop, Univ, Pi, Lam, App, Sigma, Pair, Fst, Snd, Let, size, depth}
use Rattle.lego_term.specs.declared.fault.TermFault.{TermFault}
use Rattle.lego_term.specs.declared.fault.TermFault.TheVariants.{TooLarge, Memory}

-- the tree passes no limit
abbrev pub Fits : Core → Type 0
Fits t = (size t ≤ 1048576) × (depth t ≤ 2000)

-- the tree passes a limit
abbrev pub Passes : Core → Type 0
Passes t = (1048576 < size t) ⊎ (2000 < depth t)

-- the answer is the tree, or its size and depth exactly where it passes a limit, unless memory ran out
abbrev pub Makes : Core → Result Core TermFault → Type 0
Makes t (Ok made) = (made ≡ t) × Fits t
Makes t (Err (TooLarge nodes levels)) = (nodes ≡ size t) × (levels ≡ depth t) × Passes t
Makes t (Err Memory) = Unit {0}

-- the first of two
abbrev pub either_of : Option (ℕ × ℕ) → Option (ℕ × ℕ) → Option (ℕ × ℕ)
either_of None later = later
either_of (Some p) later = Some p

-- the size and depth of the tree, where it passes a limit
abbrev pub over : Core → Option (ℕ × ℕ)
over t = if nat_le (size t) 1048576 && nat_le (depth t) 2000 then None else Some (size t, depth t)

-- The size and depth of the first subtree that passes a limit, in the order in which the tree is built: its parts,
-- left to right, and then itself.
abbrev pub first_over : Core → Option (ℕ × ℕ)
first_over (Var i) = None
first_over (Const k) = None
first_over Prop = None
first_over (Univ l) = None
first_over (Pi x a b) = either_of (first_over a) (either_of (first_over b) (over (Pi x a b)))
first_over (Lam x a m) = either_of (first_over a) (either_of (first_over m) (over (Lam x a m)))
first_over (App k m n) = either_of (first_over m) (either_of (first_over n) (over (App k m n)))
first_over (Sigma x a b) = either_of (first_over a) (either_of (first_over b) (over (Sigma x a b)))
first_over (Pair x a b m n) =
    either_of (first_over a) (either_of (first_over b) (either_of (first_over m) (either_of (first_over n) (over (Pair x a b m n)))))
first_over (Fst m) = either_of (first_over m) (over (Fst m))
first_over (Snd m) = either_of (first_over m) (over (Snd m))
first_over (Let x m n) = either_of (first_over m) (either_of (first_over n) (over (Let x m n)))

-- the answer is the tree, or the numbers of its first subtree that passes a limit, unless memory ran out
abbrev pub Rebuilds : Core → Result Core TermFault → Type 0
Rebuilds t (Ok made) = (made ≡ t) × (first_over t ≡ None)
Rebuilds t (Err (TooLarge nodes levels)) = first_over t ≡ Some (nodes, levels)
Rebuilds t (Err Memory) = Unit {0}
