-- Terms as plain trees, lifting and substitution.
use Rattle.std.specs.Prelude.{◌≡◌, ℕ, suc, pred, max, ◌+◌, ◌-◌, nat_lt, nat_eq, if◌then◌else◌, Option, Some, None, unwrap_or, option_map, List, [], ◌∷◌, ◌++◌, length, Bool, false, ◌||◌}
use Rattle.std.specs.List.{list_any}
use Rattle.lego_term.specs.Levels.{Assignment, level_value}
use Rattle.lego_term.specs.declared.binder.Binder.{Binder}
use Rattle.lego_term.specs.declared.binder.Mark.{Mark}
use Rattle.lego_term.specs.declared.level.Level.{Level}

-- A tree whose binders carry a B, whose applications carry an M, and whose universes have a level in L.
-- `Var i` counts the binders between itself and its own, from 0. `Pair x A B M N` is (M, N : <x : A> B), and
-- `Let x M N` is [x = M] N, which binds x in N.
pub data Tree (B M L : Type 0) : Type 0 where
  Var : ℕ → Tree B M L
  Const : ℕ → Tree B M L
  Prop : Tree B M L
  Univ : L → Tree B M L
  Pi : B → Tree B M L → Tree B M L → Tree B M L
  Lam : B → Tree B M L → Tree B M L → Tree B M L
  App : M → Tree B M L → Tree B M L → Tree B M L
  Sigma : B → Tree B M L → Tree B M L → Tree B M L
  Pair : B → Tree B M L → Tree B M L → Tree B M L → Tree B M L → Tree B M L
  Fst : Tree B M L → Tree B M L
  Snd : Tree B M L → Tree B M L
  Let : B → Tree B M L → Tree B M L → Tree B M L

-- a term as the program keeps it: with names and marks, and levels that may be variables
abbrev pub Core : Type 0
Core = Tree Binder Mark Level

-- a term at fixed numbers, without names and marks
abbrev pub Term : Type 0
Term = Tree (Unit {0}) (Unit {0}) ℕ

-- the tree with each decoration replaced
abbrev pub map_tree : {B B' M M' L L' : Type 0} → (B → B') → (M → M') → (L → L') → Tree B M L → Tree B' M' L'
map_tree f g h (Var i) = Var i
map_tree f g h (Const k) = Const k
map_tree f g h Prop = Prop
map_tree f g h (Univ l) = Univ (h l)
map_tree f g h (Pi x a b) = Pi (f x) (map_tree f g h a) (map_tree f g h b)
map_tree f g h (Lam x a m) = Lam (f x) (map_tree f g h a) (map_tree f g h m)
map_tree f g h (App k m n) = App (g k) (map_tree f g h m) (map_tree f g h n)
map_tree f g h (Sigma x a b) = Sigma (f x) (map_tree f g h a) (map_tree f g h b)
map_tree f g h (Pair x a b m n) = Pair (f x) (map_tree f g h a) (map_tree f g h b) (map_tree f g h m) (map_tree f g h n)
map_tree f g h (Fst m) = Fst (map_tree f g h m)
map_tree f g h (Snd m) = Snd (map_tree f g h m)
map_tree f g h (Let x m n) = Let (f x) (map_tree f g h m) (map_tree f g h n)

-- the term with each level replaced by its value, and without names and marks
abbrev pub at : Assignment → Core → Term
at v = map_tree (λ x. tt) (λ k. tt) (level_value v)

-- the term with every level, fixed ones too, put to 0, and without names and marks
abbrev pub at_zero : Core → Term
at_zero = map_tree (λ x. tt) (λ k. tt) (λ l. 0)

-- equal trees, names and marks aside
abbrev pub Equal : Core → Core → Type 0
Equal a b = map_tree {B' = Unit {0}} {M' = Unit {0}} (λ x. tt) (λ k. tt) (λ l. l) a ≡ map_tree (λ x. tt) (λ k. tt) (λ l. l) b

-- the tree without names, marks and levels
abbrev pub shape : Core → Tree (Unit {0}) (Unit {0}) (Unit {0})
shape = map_tree (λ x. tt) (λ k. tt) (λ l. tt)

-- equal trees, names, marks and levels aside
abbrev pub EqualButLevels : Core → Core → Type 0
EqualButLevels a b = shape a ≡ shape b

-- the number of nodes
abbrev pub size : {B M L : Type 0} → Tree B M L → ℕ
size (Var i) = 1
size (Const k) = 1
size Prop = 1
size (Univ l) = 1
size (Pi x a b) = suc (size a + size b)
size (Lam x a m) = suc (size a + size m)
size (App k m n) = suc (size m + size n)
size (Sigma x a b) = suc (size a + size b)
size (Pair x a b m n) = suc (size a + size b + size m + size n)
size (Fst m) = suc (size m)
size (Snd m) = suc (size m)
size (Let x m n) = suc (size m + size n)

-- a leaf has depth 1
abbrev pub depth : {B M L : Type 0} → Tree B M L → ℕ
depth (Var i) = 1
depth (Const k) = 1
depth Prop = 1
depth (Univ l) = 1
depth (Pi x a b) = suc (max (depth a) (depth b))
depth (Lam x a m) = suc (max (depth a) (depth m))
depth (App k m n) = suc (max (depth m) (depth n))
depth (Sigma x a b) = suc (max (depth a) (depth b))
depth (Pair x a b m n) = suc (max (max (depth a) (depth b)) (max (depth m) (depth n)))
depth (Fst m) = suc (depth m)
depth (Snd m) = suc (depth m)
depth (Let x m n) = suc (max (depth m) (depth n))

-- the bound on the loose variables: each is below it
abbrev pub loose : {B M L : Type 0} → Tree B M L → ℕ
loose (Var i) = suc i
loose (Const k) = 0
loose Prop = 0
loose (Univ l) = 0
loose (Pi x a b) = max (loose a) (pred (loose b))
loose (Lam x a m) = max (loose a) (pred (loose m))
loose (App k m n) = max (loose m) (loose n)
loose (Sigma x a b) = max (loose a) (pred (loose b))
loose (Pair x a b m n) = max (max (loose a) (pred (loose b))) (max (loose m) (loose n))
loose (Fst m) = loose m
loose (Snd m) = loose m
loose (Let x m n) = max (loose m) (pred (loose n))

-- the levels of the universes, left to right
abbrev pub levels_of : {B M L : Type 0} → Tree B M L → List L
levels_of (Var i) = []
levels_of (Const k) = []
levels_of Prop = []
levels_of (Univ l) = l ∷ []
levels_of (Pi x a b) = levels_of a ++ levels_of b
levels_of (Lam x a m) = levels_of a ++ levels_of m
levels_of (App k m n) = levels_of m ++ levels_of n
levels_of (Sigma x a b) = levels_of a ++ levels_of b
levels_of (Pair x a b m n) = levels_of a ++ levels_of b ++ levels_of m ++ levels_of n
levels_of (Fst m) = levels_of m
levels_of (Snd m) = levels_of m
levels_of (Let x m n) = levels_of m ++ levels_of n

-- the constants, left to right
abbrev pub constants_of : {B M L : Type 0} → Tree B M L → List ℕ
constants_of (Var i) = []
constants_of (Const k) = k ∷ []
constants_of Prop = []
constants_of (Univ l) = []
constants_of (Pi x a b) = constants_of a ++ constants_of b
constants_of (Lam x a m) = constants_of a ++ constants_of m
constants_of (App k m n) = constants_of m ++ constants_of n
constants_of (Sigma x a b) = constants_of a ++ constants_of b
constants_of (Pair x a b m n) = constants_of a ++ constants_of b ++ constants_of m ++ constants_of n
constants_of (Fst m) = constants_of m
constants_of (Snd m) = constants_of m
constants_of (Let x m n) = constants_of m ++ constants_of n

-- whether the constant, the level variable, the variable occurs in the term
abbrev pub mentions : {B M L : Type 0} → ℕ → Tree B M L → Bool
mentions k t = list_any (nat_eq k) (constants_of t)

abbrev pub is_over : ℕ → Level → Bool
is_over u l = unwrap_or (option_map (nat_eq u) l.base) false

abbrev pub uses_level : ℕ → Core → Bool
uses_level u t = list_any (is_over u) (levels_of t)

abbrev pub uses_variable : {B M L : Type 0} → ℕ → Tree B M L → Bool
uses_variable i (Var j) = nat_eq i j
uses_variable i (Const k) = false
uses_variable i Prop = false
uses_variable i (Univ l) = false
uses_variable i (Pi x a b) = uses_variable i a || uses_variable (suc i) b
uses_variable i (Lam x a m) = uses_variable i a || uses_variable (suc i) m
uses_variable i (App k m n) = uses_variable i m || uses_variable i n
uses_variable i (Sigma x a b) = uses_variable i a || uses_variable (suc i) b
uses_variable i (Pair x a b m n) = uses_variable i a || uses_variable (suc i) b || uses_variable i m || uses_variable i n
uses_variable i (Fst m) = uses_variable i m
uses_variable i (Snd m) = uses_variable i m
uses_variable i (Let x m n) = uses_variable i m || uses_variable (suc i) n

-- The tree with each variable and each constant replaced, where `variable` and `constant` are given a state that
-- `under` changes at each binder crossed.
abbrev pub map_leaves : {S B M L : Type 0} → (S → S) → (S → ℕ → Tree B M L) → (S → ℕ → Tree B M L) → S → Tree B M L → Tree B M L
map_leaves under variable constant s (Var i) = variable s i
map_leaves under variable constant s (Const k) = constant s k
map_leaves under variable constant s Prop = Prop
map_leaves under variable constant s (Univ l) = Univ l
map_leaves under variable constant s (Pi x a b) =
    Pi x (map_leaves under variable constant s a) (map_leaves under variable constant (under s) b)
map_leaves under variable constant s (Lam x a m) =
    Lam x (map_leaves under variable constant s a) (map_leaves under variable constant (under s) m)
map_leaves under variable constant s (App k m n) =
    App k (map_leaves under variable constant s m) (map_leaves under variable constant s n)
map_leaves under variable constant s (Sigma x a b) =
    Sigma x (map_leaves under variable constant s a) (map_leaves under variable constant (under s) b)
map_leaves under variable constant s (Pair x a b m n) =
    Pair x (map_leaves under variable constant s a) (map_leaves under variable constant (under s) b) (map_leaves under variable constant s m) (map_leaves under variable constant s n)
map_leaves under variable constant s (Fst m) = Fst (map_leaves under variable constant s m)
map_leaves under variable constant s (Snd m) = Snd (map_leaves under variable constant s m)
map_leaves under variable constant s (Let x m n) =
    Let x (map_leaves under variable constant s m) (map_leaves under variable constant (under s) n)

-- adds `by` to each variable at or above `from`, which rises by 1 under each binder
abbrev pub lift : {B M L : Type 0} → ℕ → ℕ → Tree B M L → Tree B M L
lift from by = map_leaves suc (λ n i. Var (if nat_lt i n then i else i + by)) (λ n k. Const k) from

-- the variable i where `value`, lifted past the binders crossed, is put for the variable `depth`
abbrev pub put_var : {B M L : Type 0} → ℕ → Tree B M L → ℕ → Tree B M L
put_var depth value i = if nat_lt i depth then Var i else if nat_eq i depth then lift 0 depth value else Var (i - 1)

-- puts `value` for the variable `depth` and lowers the greater variables by 1
abbrev pub put : {B M L : Type 0} → ℕ → Tree B M L → Tree B M L → Tree B M L
put depth value = map_leaves suc (λ n i. put_var n value i) (λ n k. Const k) depth

-- M[N]: M with N for the variable 0
unfoldable pub instantiate : {B M L : Type 0} → Tree B M L → Tree B M L → Tree B M L
instantiate m n = put 0 n m

-- what constants go to: the body of a constant's number, where it has one
abbrev pub Bodies : (B M L : Type 0) → Type 0
Bodies B M L = ℕ → Option (Tree B M L)

-- puts each constant's body for it, once, without going into the bodies, which have no loose variables
abbrev pub replace_constants : {B M L : Type 0} → Bodies B M L → Tree B M L → Tree B M L
replace_constants bodies = map_leaves {S = Unit {0}} (λ s. s) (λ s i. Var i) (λ s k. unwrap_or (bodies k) (Const k)) tt

-- the variable that stands for constant k, where it is listed: the last of the list is variable 0
abbrev pub listed_variable : List ℕ → ℕ → Option ℕ
listed_variable [] k = None
listed_variable (n ∷ ns) k = if nat_eq n k then Some (length ns) else listed_variable ns k

-- turns the listed constants into variables; `depth` counts the binders crossed, and other loose variables are lifted
abbrev pub close_over : {B M L : Type 0} → List ℕ → ℕ → Tree B M L → Tree B M L
close_over ns depth =
    map_leaves suc (λ n i. Var (if nat_lt i n then i else i + length ns))
    (λ n k. unwrap_or (option_map (λ i. Var (i + n)) (listed_variable ns k)) (Const k)) depth
