-- The height and the weight of a term: its depth and its size where each local definition is its value put for its
-- variable, and the value by itself.
use Rattle.std.specs.Prelude.{◌≡◌, ℕ, zero, suc, ◌+◌, ◌≤◌, ◌<◌, ◌⊎◌, max, Result, Ok, Err}
use Rattle.lego_term.specs.Trees.{Tree, Core, Var, Const, Prop, Univ, Pi, Lam, App, Sigma, Pair, Fst, Snd, Let, instantiate}
use Rattle.lego_term.specs.declared.binder.Binder.{Binder}
use Rattle.lego_term.specs.declared.binder.Mark.{Mark}
use Rattle.lego_term.specs.declared.level.Level.{Level}
use Rattle.lego_term.specs.declared.weight.Extent.{Extent}
use Rattle.lego_term.specs.declared.fault.TermFault.{TermFault}
use Rattle.lego_term.specs.declared.fault.TermFault.TheVariants.{TooLarge, Memory}

-- How nodes are counted: a variable, a constant or `Prop` as `leaf`, a universe as `universe`, a product or a type of
-- pairs as `product`, and any other node as `node`, beside its parts' counts, which `join` puts together.
pub record Counting : Type 0 where
  pub leaf : ℕ
  pub universe : ℕ
  pub product : ℕ
  pub node : ℕ
  pub join : ℕ → ℕ → ℕ

-- what variables count, by their indices: variable 0 as the number, and the others as before
abbrev pub bound : ℕ → (ℕ → ℕ) → ℕ → ℕ
bound n scope zero = n
bound n scope (suc i) = scope i

-- the count of a term whose variables count as the scope says
abbrev pub count : {B M L : Type 0} → Counting → (ℕ → ℕ) → Tree B M L → ℕ
count c scope (Var i) = scope i
count c scope (Const k) = c.leaf
count c scope Prop = c.leaf
count c scope (Univ l) = c.universe
count c scope (Pi x a b) = c.product + c.join (count c scope a) (count c (bound c.leaf scope) b)
count c scope (Lam x a m) = c.node + c.join (count c scope a) (count c (bound c.leaf scope) m)
count c scope (App k m n) = c.node + c.join (count c scope m) (count c scope n)
count c scope (Sigma x a b) = c.product + c.join (count c scope a) (count c (bound c.leaf scope) b)
count c scope (Pair x a b m n) =
    c.node + c.join (c.join (count c scope a) (count c (bound c.leaf scope) b)) (c.join (count c scope m) (count c scope n))
count c scope (Fst m) = c.node + count c scope m
count c scope (Snd m) = c.node + count c scope m
count c scope (Let x m n) = c.node + c.join (count c scope m) (count c (bound (count c scope m) scope) n)

-- each variable is a leaf, but for those of local definitions within the term
abbrev pub count_of : {B M L : Type 0} → Counting → Tree B M L → ℕ
count_of c = count c (λ i. c.leaf)

abbrev pub heights : Counting
heights = record { leaf = 1; universe = 1; product = 1; node = 1; join = max }

abbrev pub weights : Counting
weights = record { leaf = 1; universe = 1; product = 1; node = 1; join = λ m n. m + n }

abbrev pub height : {B M L : Type 0} → Tree B M L → ℕ
height = count_of heights

abbrev pub weight : {B M L : Type 0} → Tree B M L → ℕ
weight = count_of weights

-- f counts each term by its parts, and `Let M N` by M and N[M]
pub record CountsBy {B M L : Type 0} (c : Counting) (f : Tree B M L → ℕ) : Type 0 where
  pub variable : (i : ℕ) → f (Var i) ≡ c.leaf
  pub constant : (k : ℕ) → f (Const k) ≡ c.leaf
  pub prop : f Prop ≡ c.leaf
  pub universe : (l : L) → f (Univ l) ≡ c.universe
  pub pi : (x : B) (a b : Tree B M L) → f (Pi x a b) ≡ c.product + c.join (f a) (f b)
  pub lam : (x : B) (a m : Tree B M L) → f (Lam x a m) ≡ c.node + c.join (f a) (f m)
  pub app : (k : M) (m n : Tree B M L) → f (App k m n) ≡ c.node + c.join (f m) (f n)
  pub sigma : (x : B) (a b : Tree B M L) → f (Sigma x a b) ≡ c.product + c.join (f a) (f b)
  pub pair : (x : B) (a b m n : Tree B M L) → f (Pair x a b m n) ≡ c.node + c.join (c.join (f a) (f b)) (c.join (f m) (f n))
  pub fst : (m : Tree B M L) → f (Fst m) ≡ c.node + f m
  pub snd : (m : Tree B M L) → f (Snd m) ≡ c.node + f m
  pub local : (x : B) (m n : Tree B M L) → f (Let x m n) ≡ c.node + c.join (f m) (f (instantiate n m))

-- counting by scopes counts N[M] for `Let M N`
abbrev pub LocalsCountInstances : Type 0
LocalsCountInstances = (c : Counting) → CountsBy {B = Binder} {M = Mark} {L = Level} c (count_of c)

-- the answer is height and weight; or one of them passes its limit, the height 2,000 or the weight 1,048,576, and the
-- numbers are one more than the limits of size and depth; unless memory ran out
abbrev pub IsMeasured : Core → Result Extent TermFault → Type 0
IsMeasured t (Ok x) = (x.height ≡ height t) × (x.weight ≡ weight t) × (height t ≤ 2000) × (weight t ≤ 1048576)
IsMeasured t (Err (TooLarge size depth)) = (size ≡ 1048577) × (depth ≡ 2001) × ((2000 < height t) ⊎ (1048576 < weight t))
IsMeasured t (Err Memory) = Unit {0}
