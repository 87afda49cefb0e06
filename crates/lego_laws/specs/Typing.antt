-- The laws of the thirteen rules.
use Rattle.std.specs.Prelude.{◌≡◌, ℕ, suc, Some, List, [], ◌∷◌, slice_get, ◌↔◌, ◌⊎◌}
use Rattle.lego_term.specs.Trees.{Term, Var, Const, Prop, Univ, Pi, Lam, App, Sigma, Pair, Fst, Snd, lift, instantiate, Let}
use Rattle.lego_term.specs.Below.{Below}
use Rattle.lego_laws.specs.Parallel.{ParallelStep}
use Rattle.lego_laws.specs.Entries.{Constant, constant_of, bodies_of}
use Rattle.lego_laws.specs.Judgement.{Valid, Has, IsType}
use Rattle.lego_laws.specs.Valid.{AreValid}
use Rattle.lego_laws.specs.Derivations.{types_of, Derives}

-- the rules derive exactly on valid lists what stands over the list's constants
abbrev pub RulesAreDerivations : Type 0
RulesAreDerivations =
    (es : List Constant) (g : List Term) (m a : Term)
    → Has es g m a ↔ (Valid es g × Derives (types_of es) (bodies_of es) g m a)

-- a judgement stands in a valid list
abbrev pub JudgementsStandInValidLists : Type 0
JudgementsStandInValidLists = (es : List Constant) (g : List Term) (m a : Term) → Has es g m a → Valid es g

-- a local type may be put in at the front
abbrev pub Thinning : Type 0
Thinning =
    (es : List Constant) → AreValid es → (g : List Term) (t m a : Term)
    → Has es g m a → IsType es g t → Has es (t ∷ g) (lift 0 1 m) (lift 0 1 a)

-- a judgement stands over more constants too
abbrev pub ThinningByConstants : Type 0
ThinningByConstants =
    (es : List Constant) (e : Constant) (g : List Term) (m a : Term)
    → Has es g m a → Valid (e ∷ es) [] → Has (e ∷ es) g m a

-- a term of its type may be put for the innermost local
abbrev pub Substitution : Type 0
Substitution =
    (es : List Constant) → AreValid es → (g : List Term) (t m n a : Term)
    → Has es (t ∷ g) m a → Has es g n t → Has es g (instantiate m n) (instantiate a n)

-- the innermost local's type may be replaced by a type below it
abbrev pub Narrowing : Type 0
Narrowing =
    (es : List Constant) → AreValid es → (g : List Term) (t t' m a : Term)
    → Has es (t ∷ g) m a → IsType es g t' → Below (bodies_of es) t' t → Has es (t' ∷ g) m a

-- the type of a judgement is a type
abbrev pub TypeCorrectness : Type 0
TypeCorrectness = (es : List Constant) → AreValid es → (g : List Term) (m a : Term) → Has es g m a → IsType es g a

-- a parallel step keeps the type
abbrev pub SubjectReduction : Type 0
SubjectReduction =
    (es : List Constant) → AreValid es → (g : List Term) (m m' a : Term)
    → Has es g m a → ParallelStep (bodies_of es) m m' → Has es g m' a

-- what a judgement says of the parts of its term, by the term's form
abbrev pub Generates : List Constant → List Term → Term → Term → Type 0
Generates es g (Var i) t = (a : Term) × (slice_get g i ≡ Some a) × Below (bodies_of es) (lift 0 (suc i) a) t
Generates es g (Const k) t = (e : Constant) × (constant_of es k ≡ Some e) × Below (bodies_of es) e.ty t
Generates es g Prop t = Below (bodies_of es) (Univ 0) t
Generates es g (Univ l) t = Below (bodies_of es) (Univ (suc l)) t
Generates es g (Pi x a r) t =
    IsType es g a
    × ((Has es (a ∷ g) r Prop × Below (bodies_of es) Prop t)
    ⊎ ((j : ℕ) × Has es g a (Univ j) × Has es (a ∷ g) r (Univ j) × Below (bodies_of es) (Univ j) t))
Generates es g (Lam x a m) t = (r : Term) × Has es (a ∷ g) m r × Below (bodies_of es) (Pi tt a r) t
Generates es g (App k m n) t =
    (a r : Term) × Has es g m (Pi tt a r) × Has es g n a × Below (bodies_of es) (instantiate r n) t
Generates es g (Sigma x a r) t =
    (j : ℕ) × Has es g a (Univ j) × Has es (a ∷ g) r (Univ j) × Below (bodies_of es) (Univ j) t
Generates es g (Pair x a r m n) t =
    (IsType es (a ∷ g) r) × Has es g m a × Has es g n (instantiate r m) × Below (bodies_of es) (Sigma tt a r) t
Generates es g (Fst m) t = (a r : Term) × Has es g m (Sigma tt a r) × Below (bodies_of es) a t
Generates es g (Snd m) t = (a r : Term) × Has es g m (Sigma tt a r) × Below (bodies_of es) (instantiate r (Fst m)) t
Generates es g (Let x m n) t = (a q : Term) × Has es g m a × Has es g (instantiate n m) q × Below (bodies_of es) q t

-- generation: by the last rules of a judgement, its parts are typed
abbrev pub Generation : Type 0
Generation = (es : List Constant) (g : List Term) (m a : Term) → Has es g m a → Generates es g m a
