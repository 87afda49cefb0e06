-- What a term's root stands for, and what the numbers that a term keeps say.
use Rattle.std.specs.Prelude.{◌≡◌, ℕ, ◌≤◌}
use Rattle.lego_term.specs.Trees.{Core, size, depth, loose}
use Rattle.lego_term.specs.Trees as tree
use Rattle.lego_term.specs.private.ConstantBound.{constant_bound}
use Rattle.lego_term.specs.private.Digest.{digest}
use Rattle.lego_term.specs.declared.term.Form.{Form}
use Rattle.lego_term.specs.declared.term.Form.TheVariants.{Var, Const, Prop, Univ, Pi, Lam, App, Sigma, Pair, Fst, Snd, Local}

abbrev pub tree_of : Form → Core
tree_of (Var i) = tree.Var i
tree_of (Const k) = tree.Const k
tree_of Prop = tree.Prop
tree_of (Univ l) = tree.Univ l
tree_of (Pi x a b) = tree.Pi x a b
tree_of (Lam x a m) = tree.Lam x a m
tree_of (App k m n) = tree.App k m n
tree_of (Sigma x a b) = tree.Sigma x a b
tree_of (Pair x a b m n) = tree.Pair x a b m n
tree_of (Fst m) = tree.Fst m
tree_of (Snd m) = tree.Snd m
tree_of (Local x m n) = tree.Let x m n

-- the numbers are those of the tree, and within the limits
pub record HasNumbers (t : Core) (nodes levels bound constants code : ℕ) : Type 0 where
  pub nodes_are : nodes ≡ size t
  pub levels_are : levels ≡ depth t
  pub bound_is : bound ≡ loose t
  pub constants_are : constants ≡ constant_bound t
  pub code_is : code ≡ digest t
  pub nodes_fit : nodes ≤ 1048576
  pub levels_fit : levels ≤ 2000
