-- Derivations over fixed constants: the thirteen rules without the validity of lists, a tool of proofs.
use Rattle.std.specs.Prelude.{◌≡◌, ℕ, zero, suc, Some, option_map, List, [], ◌∷◌, ◌⊎◌}
use Rattle.lego_term.specs.Trees.{Term, Var, Const, Prop, Univ, Pi, Lam, App, Sigma, Pair, Fst, Snd, instantiate, lift, Let}
use Rattle.lego_term.specs.Below.{Below}
use Rattle.lego_laws.specs.Parallel.{TermBodies}
use Rattle.lego_laws.specs.Entries.{Constant, constant_of}

-- the types of the constants
abbrev pub types_of : List Constant → TermBodies
types_of es k = option_map (λ e. e.ty) (constant_of es k)

-- the type of a variable, lifted to where the list ends
pub data HasLocal : List Term → ℕ → Term → Type 0 where
  here : {g : List Term} {a : Term} → HasLocal (a ∷ g) zero (lift 0 1 a)
  there : {g : List Term} {a t : Term} {i : ℕ} → HasLocal g i t → HasLocal (a ∷ g) (suc i) (lift 0 1 t)

-- the rules, where the constants have the types c and the bodies b, and each domain of a binder is a type
pub data Derives (c b : TermBodies) : List Term → Term → Term → Type 0 where
  d_prop : {g : List Term} → Derives c b g Prop (Univ 0)
  d_univ : {g : List Term} {j : ℕ} → Derives c b g (Univ j) (Univ (suc j))
  d_var : {g : List Term} {i : ℕ} {a : Term} → HasLocal g i a → Derives c b g (Var i) a
  d_const : {g : List Term} {k : ℕ} {a : Term} → c k ≡ Some a → Derives c b g (Const k) a
  d_pi_prop : {g : List Term} {a p : Term} {j : ℕ} → Derives c b g a (Univ j) → Derives c b (a ∷ g) p Prop → Derives c b g (Pi tt a p) Prop
  d_pi : {g : List Term} {a r : Term} {j : ℕ}
      → Derives c b g a (Univ j) → Derives c b (a ∷ g) r (Univ j) → Derives c b g (Pi tt a r) (Univ j)
  d_lam : {g : List Term} {a r m : Term} {j : ℕ}
      → Derives c b g a (Univ j) → Derives c b (a ∷ g) m r → Derives c b g (Lam tt a m) (Pi tt a r)
  d_app : {g : List Term} {a r m n : Term}
      → Derives c b g m (Pi tt a r) → Derives c b g n a → Derives c b g (App tt m n) (instantiate r n)
  d_sigma : {g : List Term} {a r : Term} {j : ℕ}
      → Derives c b g a (Univ j) → Derives c b (a ∷ g) r (Univ j) → Derives c b g (Sigma tt a r) (Univ j)
  d_pair : {g : List Term} {a r m n : Term} {i j : ℕ}
      → Derives c b g a (Univ i) → Derives c b (a ∷ g) r (Univ j) → Derives c b g m a → Derives c b g n (instantiate r m)
      → Derives c b g (Pair tt a r m n) (Sigma tt a r)
  d_fst : {g : List Term} {a r m : Term} → Derives c b g m (Sigma tt a r) → Derives c b g (Fst m) a
  d_snd : {g : List Term} {a r m : Term} → Derives c b g m (Sigma tt a r) → Derives c b g (Snd m) (instantiate r (Fst m))
  d_let : {g : List Term} {a q m n : Term} → Derives c b g m a → Derives c b g (instantiate n m) q → Derives c b g (Let tt m n) q
  d_cum : {g : List Term} {m a a' : Term} {j : ℕ}
      → Derives c b g m a → Derives c b g a' (Univ j) → Below b a a' → Derives c b g m a'

-- each local type is a type over those outside it
pub data ValidLocals (c b : TermBodies) : List Term → Type 0 where
  v_none : ValidLocals c b []
  v_local : {g : List Term} {a : Term} {j : ℕ} → ValidLocals c b g → Derives c b g a (Univ j) → ValidLocals c b (a ∷ g)

-- each constant has a type, and each body has its constant's type
pub record ValidConstants (c b : TermBodies) : Type 0 where
  pub types : (k : ℕ) (a : Term) → c k ≡ Some a → (j : ℕ) × Derives c b [] a (Univ j)
  pub bodies : (k : ℕ) (t : Term) → b k ≡ Some t → (a : Term) × (c k ≡ Some a) × Derives c b [] t a

-- what a derivation says of the parts of its term, by the term's form
abbrev pub Generated : TermBodies → TermBodies → List Term → Term → Term → Type 0
Generated c b g (Var i) t = (a : Term) × HasLocal g i a × Below b a t
Generated c b g (Const k) t = (a : Term) × (c k ≡ Some a) × Below b a t
Generated c b g Prop t = Below b (Univ 0) t
Generated c b g (Univ l) t = Below b (Univ (suc l)) t
Generated c b g (Pi x a r) t =
    (j : ℕ) × Derives c b g a (Univ j) × ((Derives c b (a ∷ g) r Prop × Below b Prop t) ⊎ (Derives c b (a ∷ g) r (Univ j) × Below b (Univ j) t))
Generated c b g (Lam x a m) t =
    (j : ℕ) × (r : Term) × Derives c b g a (Univ j) × Derives c b (a ∷ g) m r × Below b (Pi tt a r) t
Generated c b g (App k m n) t =
    (a : Term) × (r : Term) × Derives c b g m (Pi tt a r) × Derives c b g n a × Below b (instantiate r n) t
Generated c b g (Sigma x a r) t =
    (j : ℕ) × Derives c b g a (Univ j) × Derives c b (a ∷ g) r (Univ j) × Below b (Univ j) t
Generated c b g (Pair x a r m n) t =
    (i : ℕ) × (j : ℕ) × Derives c b g a (Univ i) × Derives c b (a ∷ g) r (Univ j) × Derives c b g m a × Derives c b g n (instantiate r m)
    × Below b (Sigma tt a r) t
Generated c b g (Fst m) t = (a : Term) × (r : Term) × Derives c b g m (Sigma tt a r) × Below b a t
Generated c b g (Snd m) t = (a : Term) × (r : Term) × Derives c b g m (Sigma tt a r) × Below b (instantiate r (Fst m)) t
Generated c b g (Let x m n) t = (a : Term) × (q : Term) × Derives c b g m a × Derives c b g (instantiate n m) q × Below b q t
