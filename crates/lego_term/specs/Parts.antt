-- The form of a term, its parts and its subtrees.
use Rattle.std.specs.Prelude.{◌≡◌, ℕ, suc, ◌+◌, List, [], ◌∷◌, nat_eq, if◌then◌else◌, Option, Some, None, option_and_then, slice_get, ◌<◌, ◌⊎◌}
use Rattle.lego_term.specs.Trees.{Core, Var, Const, Pi, Lam, App, Sigma, Pair, Fst, Snd, Let, size, depth}
use Rattle.lego_term.specs.declared.binder.Binder.{Binder}

-- the forms with parts
pub data Shape : Type 0 where
  APi ALam AnApp ASigma APair AFst ASnd ALet : Shape

abbrev pub shape_of : Core → Option Shape
shape_of (Pi x a b) = Some APi
shape_of (Lam x a m) = Some ALam
shape_of (App k m n) = Some AnApp
shape_of (Sigma x a b) = Some ASigma
shape_of (Pair x a b m n) = Some APair
shape_of (Fst m) = Some AFst
shape_of (Snd m) = Some ASnd
shape_of (Let x m n) = Some ALet
shape_of _ = None

-- a part, and the binder under which it stands, if any
pub record Branch : Type 0 where
  pub under : Option Binder
  pub term : Core

abbrev pub plain_part : Core → Branch
plain_part m = record { under = None; term = m }

abbrev pub bound_part : Binder → Core → Branch
bound_part x m = record { under = Some x; term = m }

-- the parts, left to right
abbrev pub parts_of : Core → List Branch
parts_of (Pi x a b) = plain_part a ∷ bound_part x b ∷ []
parts_of (Lam x a m) = plain_part a ∷ bound_part x m ∷ []
parts_of (App k m n) = plain_part m ∷ plain_part n ∷ []
parts_of (Sigma x a b) = plain_part a ∷ bound_part x b ∷ []
parts_of (Pair x a b m n) = plain_part a ∷ bound_part x b ∷ plain_part m ∷ plain_part n ∷ []
parts_of (Fst m) = plain_part m ∷ []
parts_of (Snd m) = plain_part m ∷ []
parts_of (Let x m n) = plain_part m ∷ bound_part x n ∷ []
parts_of _ = []

-- how many of the outermost locals, in order, a constant is applied to, where the term is that
abbrev pub own_arguments : ℕ → Core → Option ℕ
own_arguments depth (Const k) = Some 0
own_arguments depth (App mark m (Var i)) =
    option_and_then (λ n. if nat_eq (suc (i + n)) depth then Some (suc n) else None) (own_arguments depth m)
own_arguments depth _ = None

-- the constant below applications and projections, where one is there
abbrev pub head_constant : Core → Option ℕ
head_constant (Const k) = Some k
head_constant (App mark m n) = head_constant m
head_constant (Fst m) = head_constant m
head_constant (Snd m) = head_constant m
head_constant _ = None

-- u is a subtree of t
pub data Subtree : Core → Core → Type 0 where
  whole : {t : Core} → Subtree t t
  part : {u t : Core} {b : Branch} (i : ℕ) → slice_get (parts_of t) i ≡ Some b → Subtree u b.term → Subtree u t

-- size and depth are those of a subtree, and one is over its limit
pub data IsTooLarge (u : Core) : ℕ → ℕ → Type 0 where
  subtree : {v : Core} → Subtree v u → (1_048_576 < size v) ⊎ (2_000 < depth v) → IsTooLarge u (size v) (depth v)

-- the same of a term that a sequence reaches, where also a path may have more than 2,000 parts
pub data IsTooLargeOnTheWay (u : Core) : ℕ → ℕ → Type 0 where
  tree : {i j : ℕ} → IsTooLarge u i j → IsTooLargeOnTheWay u i j
  path : 2_001 < depth u → IsTooLargeOnTheWay u 1_048_577 2_001
