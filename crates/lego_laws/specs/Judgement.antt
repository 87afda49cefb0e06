-- The typing rules of the Extended Calculus of Constructions.
use Rattle.std.specs.Prelude.{◌≡◌, ℕ, suc, List, [], ◌∷◌, Some, None, slice_get}
use Rattle.lego_term.specs.Trees.{Term, Var, Const, Prop, Univ, Pi, Lam, App, Sigma, Pair, Fst, Snd, lift, instantiate, Let}
use Rattle.lego_term.specs.Below.{Below}
use Rattle.lego_laws.specs.Entries.{Constant, constant_of, bodies_of}

-- Both lists begin with the newest: the constants, and the types of the local variables.
mutual
  -- a list of constants and local types that rule C builds from the empty one
  pub data Valid : List Constant → List Term → Type 0 where
    empty : Valid [] []
    grow_constant : {es : List Constant} {e : Constant} {j : ℕ}
        → Has es [] e.ty (Univ j) → constant_of es e.number ≡ None → Valid (e ∷ es) []
    grow_variable : {es : List Constant} {g : List Term} {a : Term} {j : ℕ}
        → Has es g a (Univ j) → Valid es (a ∷ g)

  -- M has the type A by the thirteen rules, each with Luo's name, and the rule of local definitions
  pub data Has : List Constant → List Term → Term → Term → Type 0 where
    -- Ax
    ax : {es : List Constant} {g : List Term} → Valid es g → Has es g Prop (Univ 0)
    -- T
    universe : {es : List Constant} {g : List Term} {j : ℕ} → Valid es g → Has es g (Univ j) (Univ (suc j))
    -- var
    variable : {es : List Constant} {g : List Term} {i : ℕ} {a : Term}
        → Valid es g → slice_get g i ≡ Some a → Has es g (Var i) (lift 0 (suc i) a)
    -- var, of a constant
    constant : {es : List Constant} {g : List Term} {k : ℕ} {e : Constant}
        → Valid es g → constant_of es k ≡ Some e → Has es g (Const k) e.ty
    -- Pi1
    pi_prop : {es : List Constant} {g : List Term} {a p : Term}
        → Has es (a ∷ g) p Prop → Has es g (Pi tt a p) Prop
    -- Pi2
    pi_type : {es : List Constant} {g : List Term} {a b : Term} {j : ℕ}
        → Has es g a (Univ j) → Has es (a ∷ g) b (Univ j) → Has es g (Pi tt a b) (Univ j)
    -- lambda
    lambda : {es : List Constant} {g : List Term} {a b m : Term}
        → Has es (a ∷ g) m b → Has es g (Lam tt a m) (Pi tt a b)
    -- app
    application : {es : List Constant} {g : List Term} {a b m n : Term}
        → Has es g m (Pi tt a b) → Has es g n a → Has es g (App tt m n) (instantiate b n)
    -- Sigma
    sigma : {es : List Constant} {g : List Term} {a b : Term} {j : ℕ}
        → Has es g a (Univ j) → Has es (a ∷ g) b (Univ j) → Has es g (Sigma tt a b) (Univ j)
    -- pair
    pair : {es : List Constant} {g : List Term} {a b m n : Term} {j : ℕ}
        → Has es g m a → Has es g n (instantiate b m) → Has es (a ∷ g) b (Univ j) → Has es g (Pair tt a b m n) (Sigma tt a b)
    -- pi1
    first : {es : List Constant} {g : List Term} {a b m : Term}
        → Has es g m (Sigma tt a b) → Has es g (Fst m) a
    -- pi2
    second : {es : List Constant} {g : List Term} {a b m : Term}
        → Has es g m (Sigma tt a b) → Has es g (Snd m) (instantiate b (Fst m))
    -- local definitions: the value has a type, and so has the body with the value put in
    local : {es : List Constant} {g : List Term} {a b m n : Term}
        → Has es g m a → Has es g (instantiate n m) b → Has es g (Let tt m n) b
    -- cum
    cumulative : {es : List Constant} {g : List Term} {a a' m : Term} {j : ℕ}
        → Has es g m a → Has es g a' (Univ j) → Below (bodies_of es) a a' → Has es g m a'

-- A is a type
abbrev pub IsType : List Constant → List Term → Term → Type 0
IsType es g a = (j : ℕ) × Has es g a (Univ j)
