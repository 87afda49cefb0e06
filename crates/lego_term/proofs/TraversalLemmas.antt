-- What a tree with replaced leaves keeps, whatever is put for them.
use Rattle.std.proofs.Common.{◌≡◌, ℕ, suc, pred, max, ◌+◌, ◌≤◌, ◌<◌, refl, ap, ◌∙◌, arith}
use Rattle.lego_term.specs.Trees.{Tree, Core, Var, Const, Prop, Univ, Pi, Lam, App, Sigma, Pair, Fst, Snd, Let, size, depth, loose, map_leaves}
use Rattle.lego_term.specs.private.ConstantBound.{constant_bound}
use Rattle.lego_term.specs.Weight.{Counting, bound, count}

-- a tree stays as it is where its leaves do: `Stays s n` says that variables below n stay
module _ {S : Type 0} (under : S → S) (variable constant : S → ℕ → Core) (Stays : S → ℕ → Type 0) (least : ℕ)
    (below : (s : S) (n : ℕ) → Stays s n → Stays (under s) (suc n))
    (variables : (s : S) (n i : ℕ) → Stays s n → i < n → variable s i ≡ Var i)
    (constants : (s : S) (k : ℕ) → k < least → constant s k ≡ Const k) where
  pub leaves_stay : (s : S) (n : ℕ) (t : Core) → Stays s n → loose t ≤ n → constant_bound t ≤ least → map_leaves under variable constant s t ≡ t
  leaves_stay s n (Var i) h l c = variables s n i h (omega arith)
  leaves_stay s n (Const k) h l c = constants s k (omega arith)
  leaves_stay s n Prop h l c = refl
  leaves_stay s n (Univ u) h l c = refl
  leaves_stay s n (Pi x a b) h l c = λ i.
      Pi x (leaves_stay s n a h (omega arith) (omega arith) i) (leaves_stay (under s) (suc n) b (below s n h) (omega arith) (omega arith) i)
  leaves_stay s n (Lam x a m) h l c = λ i.
      Lam x (leaves_stay s n a h (omega arith) (omega arith) i) (leaves_stay (under s) (suc n) m (below s n h) (omega arith) (omega arith) i)
  leaves_stay s n (App k p q) h l c = λ i. App k (leaves_stay s n p h (omega arith) (omega arith) i) (leaves_stay s n q h (omega arith) (omega arith) i)
  leaves_stay s n (Sigma x a b) h l c = λ i.
      Sigma x (leaves_stay s n a h (omega arith) (omega arith) i) (leaves_stay (under s) (suc n) b (below s n h) (omega arith) (omega arith) i)
  leaves_stay s n (Pair x a b p q) h l c = λ i.
      Pair x (leaves_stay s n a h (omega arith) (omega arith) i) (leaves_stay (under s) (suc n) b (below s n h) (omega arith) (omega arith) i)
      (leaves_stay s n p h (omega arith) (omega arith) i) (leaves_stay s n q h (omega arith) (omega arith) i)
  leaves_stay s n (Fst p) h l c = ap Fst (leaves_stay s n p h l c)
  leaves_stay s n (Snd p) h l c = ap Snd (leaves_stay s n p h l c)
  leaves_stay s n (Let x p q) h l c = λ i.
      Let x (leaves_stay s n p h (omega arith) (omega arith) i) (leaves_stay (under s) (suc n) q (below s n h) (omega arith) (omega arith) i)

-- a state that no leaf depends on may as well be nothing
pub state_unused : (variable constant : ℕ → Core) (n : ℕ) (t : Core)
    → map_leaves suc (λ s. variable) (λ s. constant) n t ≡ map_leaves {S = Unit {0}} (λ s. s) (λ s. variable) (λ s. constant) tt t
state_unused variable constant n (Var i) = refl
state_unused variable constant n (Const k) = refl
state_unused variable constant n Prop = refl
state_unused variable constant n (Univ l) = refl
state_unused variable constant n (Pi x a b) = λ i. Pi x (state_unused variable constant n a i) (state_unused variable constant (suc n) b i)
state_unused variable constant n (Lam x a b) = λ i. Lam x (state_unused variable constant n a i) (state_unused variable constant (suc n) b i)
state_unused variable constant n (App k p q) = λ i. App k (state_unused variable constant n p i) (state_unused variable constant n q i)
state_unused variable constant n (Sigma x a b) = λ i. Sigma x (state_unused variable constant n a i) (state_unused variable constant (suc n) b i)
state_unused variable constant n (Pair x a b p q) = λ i.
    Pair x (state_unused variable constant n a i) (state_unused variable constant (suc n) b i) (state_unused variable constant n p i) (state_unused variable constant n q i)
state_unused variable constant n (Fst p) = ap Fst (state_unused variable constant n p)
state_unused variable constant n (Snd p) = ap Snd (state_unused variable constant n p)
state_unused variable constant n (Let x p q) = λ i. Let x (state_unused variable constant n p i) (state_unused variable constant (suc n) q i)

-- size and depth stay where each leaf goes to a leaf
module _ {S B M L : Type 0} (under : S → S) (variable constant : S → ℕ → Tree B M L)
    (variable_size : (s : S) (i : ℕ) → size (variable s i) ≡ 1) (constant_size : (s : S) (k : ℕ) → size (constant s k) ≡ 1) where
  pub size-leaves : (s : S) (t : Tree B M L) → size (map_leaves under variable constant s t) ≡ size t
  size-leaves s (Var i) = variable_size s i
  size-leaves s (Const k) = constant_size s k
  size-leaves s Prop = refl
  size-leaves s (Univ l) = refl
  size-leaves s (Pi x a b) = omega (arith, size-leaves s a, size-leaves (under s) b)
  size-leaves s (Lam x a m) = omega (arith, size-leaves s a, size-leaves (under s) m)
  size-leaves s (App k m n) = omega (arith, size-leaves s m, size-leaves s n)
  size-leaves s (Sigma x a b) = omega (arith, size-leaves s a, size-leaves (under s) b)
  size-leaves s (Pair x a b m n) = omega (arith, size-leaves s a, size-leaves (under s) b, size-leaves s m, size-leaves s n)
  size-leaves s (Fst m) = omega (arith, size-leaves s m)
  size-leaves s (Snd m) = omega (arith, size-leaves s m)
  size-leaves s (Let x m n) = omega (arith, size-leaves s m, size-leaves (under s) n)

module _ {S B M L : Type 0} (under : S → S) (variable constant : S → ℕ → Tree B M L)
    (variable_depth : (s : S) (i : ℕ) → depth (variable s i) ≡ 1) (constant_depth : (s : S) (k : ℕ) → depth (constant s k) ≡ 1) where
  pub depth-leaves : (s : S) (t : Tree B M L) → depth (map_leaves under variable constant s t) ≡ depth t
  depth-leaves s (Var i) = variable_depth s i
  depth-leaves s (Const k) = constant_depth s k
  depth-leaves s Prop = refl
  depth-leaves s (Univ l) = refl
  depth-leaves s (Pi x a b) = omega (arith, depth-leaves s a, depth-leaves (under s) b)
  depth-leaves s (Lam x a m) = omega (arith, depth-leaves s a, depth-leaves (under s) m)
  depth-leaves s (App k m n) = omega (arith, depth-leaves s m, depth-leaves s n)
  depth-leaves s (Sigma x a b) = omega (arith, depth-leaves s a, depth-leaves (under s) b)
  depth-leaves s (Pair x a b m n) = omega (arith, depth-leaves s a, depth-leaves (under s) b, depth-leaves s m, depth-leaves s n)
  depth-leaves s (Fst m) = omega (arith, depth-leaves s m)
  depth-leaves s (Snd m) = omega (arith, depth-leaves s m)
  depth-leaves s (Let x m n) = omega (arith, depth-leaves s m, depth-leaves (under s) n)

-- a bound on the loose variables, where `high s n` bounds those of what is put for variables below n
module _ {S B M L : Type 0} (under : S → S) (variable constant : S → ℕ → Tree B M L) (high : S → ℕ → ℕ)
    (more : (s : S) (m n : ℕ) → m ≤ n → high s m ≤ high s n)
    (below : (s : S) (n : ℕ) → pred (high (under s) n) ≤ high s (pred n))
    (variables : (s : S) (i : ℕ) → loose (variable s i) ≤ high s (suc i))
    (constants : (s : S) (k : ℕ) → loose (constant s k) ≤ high s 0) where
  under_binder : (s : S) (k m n : ℕ) → k ≤ high (under s) m → pred m ≤ n → pred k ≤ high s n
  under_binder s k m n h l = omega (arith, below s m, more s (pred m) n l)

  pub loose-leaves : (s : S) (n : ℕ) (t : Tree B M L) → loose t ≤ n → loose (map_leaves under variable constant s t) ≤ high s n
  loose-leaves s n (Var i) h = omega (arith, variables s i, more s (suc i) n h)
  loose-leaves s n (Const k) h = omega (arith, constants s k, more s 0 n (omega arith))
  loose-leaves s n Prop h = omega arith
  loose-leaves s n (Univ l) h = omega arith
  loose-leaves s n (Pi x a b) h =
      omega (arith, loose-leaves s n a (omega arith), under_binder s _ (loose b) n (loose-leaves (under s) (loose b) b (omega arith)) (omega arith))
  loose-leaves s n (Lam x a b) h =
      omega (arith, loose-leaves s n a (omega arith), under_binder s _ (loose b) n (loose-leaves (under s) (loose b) b (omega arith)) (omega arith))
  loose-leaves s n (App k p q) h = omega (arith, loose-leaves s n p (omega arith), loose-leaves s n q (omega arith))
  loose-leaves s n (Sigma x a b) h =
      omega (arith, loose-leaves s n a (omega arith), under_binder s _ (loose b) n (loose-leaves (under s) (loose b) b (omega arith)) (omega arith))
  loose-leaves s n (Pair x a b p q) h =
      omega (arith, loose-leaves s n a (omega arith), under_binder s _ (loose b) n (loose-leaves (under s) (loose b) b (omega arith)) (omega arith), loose-leaves s n p (omega arith), loose-leaves s n q (omega arith))
  loose-leaves s n (Fst p) h = omega (arith, loose-leaves s n p h)
  loose-leaves s n (Snd p) h = omega (arith, loose-leaves s n p h)
  loose-leaves s n (Let x a b) h =
      omega (arith, loose-leaves s n a (omega arith), under_binder s _ (loose b) n (loose-leaves (under s) (loose b) b (omega arith)) (omega arith))

-- A count stays where what is put counts as the leaf did. `Agree s f g` says that variables under f count as what is put
-- for them under g.
module _ {S B M L : Type 0} (c : Counting) (under : S → S) (variable constant : S → ℕ → Tree B M L) (Agree : S → (ℕ → ℕ) → (ℕ → ℕ) → Type 0)
    (below : (s : S) (f g : ℕ → ℕ) (k : ℕ) → Agree s f g → Agree (under s) (bound k f) (bound k g))
    (variables : (s : S) (f g : ℕ → ℕ) (i : ℕ) → Agree s f g → count c g (variable s i) ≡ f i)
    (constants : (s : S) (f g : ℕ → ℕ) (k : ℕ) → Agree s f g → count c g (constant s k) ≡ c.leaf) where
  abbrev mapped : S → Tree B M L → Tree B M L
  mapped = map_leaves under variable constant

  pub count-leaves : (s : S) (f g : ℕ → ℕ) (t : Tree B M L) → Agree s f g → count c g (map_leaves under variable constant s t) ≡ count c f t
  count-leaves s f g (Var i) h = variables s f g i h
  count-leaves s f g (Const k) h = constants s f g k h
  count-leaves s f g Prop h = refl
  count-leaves s f g (Univ l) h = refl
  count-leaves s f g (Pi x a b) h = λ i.
      c.product + c.join (count-leaves s f g a h i) (count-leaves (under s) (bound c.leaf f) (bound c.leaf g) b (below s f g c.leaf h) i)
  count-leaves s f g (Lam x a m) h = λ i.
      c.node + c.join (count-leaves s f g a h i) (count-leaves (under s) (bound c.leaf f) (bound c.leaf g) m (below s f g c.leaf h) i)
  count-leaves s f g (App k m n) h = λ i. c.node + c.join (count-leaves s f g m h i) (count-leaves s f g n h i)
  count-leaves s f g (Sigma x a b) h = λ i.
      c.product + c.join (count-leaves s f g a h i) (count-leaves (under s) (bound c.leaf f) (bound c.leaf g) b (below s f g c.leaf h) i)
  count-leaves s f g (Pair x a b m n) h = λ i.
      c.node
      + c.join (c.join (count-leaves s f g a h i) (count-leaves (under s) (bound c.leaf f) (bound c.leaf g) b (below s f g c.leaf h) i))
      (c.join (count-leaves s f g m h i) (count-leaves s f g n h i))
  count-leaves s f g (Fst m) h = λ i. c.node + count-leaves s f g m h i
  count-leaves s f g (Snd m) h = λ i. c.node + count-leaves s f g m h i
  count-leaves s f g (Let x m n) h =
      let k : ℕ = count c f m in
      let value : count c g (mapped s m) ≡ k = count-leaves s f g m h in
      let body : count c (bound k g) (mapped (under s) n) ≡ count c (bound k f) n =
      count-leaves (under s) (bound k f) (bound k g) n (below s f g k h) in
      ap (λ r. c.node + c.join r (count c (bound r g) (mapped (under s) n))) value ∙ ap (λ r. c.node + c.join k r) body
