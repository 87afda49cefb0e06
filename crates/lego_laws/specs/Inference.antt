-- Constraints of a term from those of its parts: one law for each form. The types and bodies of the constants are c and
-- b, and the constraints held are those of the context, and under a binder those of its domain too.
use Rattle.std.specs.Prelude.{◌≡◌, ℕ, suc, ◌≤◌, ◌↔◌, Option, Some, List, [], ◌∷◌, ◌++◌, map, slice_get}
use Rattle.lego_term.specs.declared.binder.Binder.{Binder}
use Rattle.lego_term.specs.declared.binder.Mark.{Mark}
use Rattle.lego_term.specs.declared.level.Level.{Level}
use Rattle.lego_term.specs.Levels.{Assignment, fixed_level, variable_level, LevelPair, SatisfiesAll}
use Rattle.lego_term.specs.Trees.{Core, Var, Const, Prop, Univ, Pi, Lam, App, Sigma, Pair, Fst, Snd, lift, instantiate, at, Let}
use Rattle.lego_term.specs.Below.{Below}
use Rattle.lego_term.specs.Sequences.{HeadForm}
use Rattle.lego_laws.specs.Parallel.{CoreBodies, bodies_at}
use Rattle.lego_laws.specs.Derivations.{Derives}
use Rattle.lego_laws.specs.Ranges.{level_bound, levels_bound, pairs_bound, Context, FitsBetween, FitsWantedBetween, FitsWrittenBetween, sort_term, sort_at_most, raised_level}

abbrev pub FitsProp : Type 0
FitsProp =
    (n : ℕ) (c b : CoreBodies) (held : List LevelPair) (g : List Core) → Context n c b held g
    → FitsBetween n n c b held g Prop (Univ (fixed_level 0)) []

abbrev pub FitsVariable : Type 0
FitsVariable =
    (n : ℕ) (c b : CoreBodies) (held : List LevelPair) (g : List Core) → Context n c b held g
    → (i : ℕ) (a : Core) → slice_get g i ≡ Some a → FitsBetween n n c b held g (Var i) (lift 0 (suc i) a) []

abbrev pub FitsConstant : Type 0
FitsConstant =
    (n : ℕ) (c b : CoreBodies) (held : List LevelPair) (g : List Core) → Context n c b held g
    → (k : ℕ) (a : Core) → c k ≡ Some a → FitsBetween n n c b held g (Const k) a []

-- a universe is below a new one, n
abbrev pub FitsUniverse : Type 0
FitsUniverse =
    (n : ℕ) (c b : CoreBodies) (held : List LevelPair) (g : List Core) → Context n c b held g → (l : Level) → level_bound l ≤ n
    → FitsBetween n (suc n) c b held g (Univ l) (Univ (variable_level n)) (record { low = raised_level l; high = variable_level n } ∷ [])

-- the domain's type has a sort for its head form, and the body stands under the domain's constraints
abbrev pub FitsLambda : Type 0
FitsLambda =
    (n₀ n₁ n₂ : ℕ) (c b : CoreBodies) (held : List LevelPair) (g : List Core) → Context n₀ c b held g
    → (x : Binder) (a ta m tm : Core) (ka km : List LevelPair) → levels_bound a ≤ n₀ → levels_bound m ≤ n₀
    → FitsBetween n₀ n₁ c b held g a ta ka → (s : Option Level) → HeadForm b ta (sort_term s) → FitsBetween n₁ n₂ c b (held ++ ka) (a ∷ g) m tm km
    → FitsBetween n₀ n₂ c b held g (Lam x a m) (Pi x a tm) (ka ++ km)

-- a product whose body is a proposition; n₀ is its own level variable, which it needs not
abbrev pub FitsProposition : Type 0
FitsProposition =
    (n₀ n₁ n₂ : ℕ) (c b : CoreBodies) (held : List LevelPair) (g : List Core) → Context n₀ c b held g
    → (x : Binder) (a ta r tr : Core) (ka kr : List LevelPair) → levels_bound a ≤ n₀ → levels_bound r ≤ n₀
    → FitsBetween (suc n₀) n₁ c b held g a ta ka → (s : Option Level) → HeadForm b ta (sort_term s)
    → FitsBetween n₁ n₂ c b (held ++ ka) (a ∷ g) r tr kr → HeadForm b tr Prop
    → FitsBetween n₀ n₂ c b held g (Pi x a r) Prop (ka ++ kr)

-- any other product: its own level variable n₀ is at least both sorts
abbrev pub FitsProduct : Type 0
FitsProduct =
    (n₀ n₁ n₂ : ℕ) (c b : CoreBodies) (held : List LevelPair) (g : List Core) → Context n₀ c b held g
    → (x : Binder) (a ta r tr : Core) (ka kr : List LevelPair) → levels_bound a ≤ n₀ → levels_bound r ≤ n₀
    → FitsBetween (suc n₀) n₁ c b held g a ta ka → (s : Option Level) → HeadForm b ta (sort_term s)
    → FitsBetween n₁ n₂ c b (held ++ ka) (a ∷ g) r tr kr → (l : Level) → HeadForm b tr (Univ l)
    → FitsBetween n₀ n₂ c b held g (Pi x a r) (Univ (variable_level n₀)) ((ka ++ kr) ++ (sort_at_most s (variable_level n₀) ++ sort_at_most (Some l) (variable_level n₀)))

-- a Sigma type: its own level variable n₀ is at least both sorts
abbrev pub FitsSigma : Type 0
FitsSigma =
    (n₀ n₁ n₂ : ℕ) (c b : CoreBodies) (held : List LevelPair) (g : List Core) → Context n₀ c b held g
    → (x : Binder) (a ta r tr : Core) (ka kr : List LevelPair) → levels_bound a ≤ n₀ → levels_bound r ≤ n₀
    → FitsBetween (suc n₀) n₁ c b held g a ta ka → (s : Option Level) → HeadForm b ta (sort_term s)
    → FitsBetween n₁ n₂ c b (held ++ ka) (a ∷ g) r tr kr → (s' : Option Level) → HeadForm b tr (sort_term s')
    → FitsBetween n₀ n₂ c b held g (Sigma x a r) (Univ (variable_level n₀)) ((ka ++ kr) ++ (sort_at_most s (variable_level n₀) ++ sort_at_most s' (variable_level n₀)))

-- an application; k₃ says that the argument's type is below the domain
abbrev pub FitsApplication : Type 0
FitsApplication =
    (n₀ n₁ n₂ : ℕ) (c b : CoreBodies) (held : List LevelPair) (g : List Core) → Context n₀ c b held g
    → (k : Mark) (x : Binder) (m n f a r q : Core) (k₁ k₂ k₃ : List LevelPair) → levels_bound m ≤ n₀ → levels_bound n ≤ n₀
    → FitsBetween n₀ n₁ c b held g m f k₁ → HeadForm b f (Pi x a r) → FitsBetween n₁ n₂ c b held g n q k₂ → pairs_bound k₃ ≤ n₂
    → ((v : Assignment) → SatisfiesAll v k₃ ↔ Below (bodies_at v b) (at v q) (at v a))
    → FitsBetween n₀ n₂ c b held g (App k m n) (instantiate r n) (k₁ ++ (k₂ ++ k₃))

-- a pair; k and k' say that the components' types are below the stated ones
abbrev pub FitsPair : Type 0
FitsPair =
    (n₀ n₁ n₂ n₃ n₄ : ℕ) (c b : CoreBodies) (held : List LevelPair) (g : List Core) → Context n₀ c b held g
    → (x : Binder) (a ta r tr m tm n tn : Core) (ka kr km kn k k' : List LevelPair)
    → levels_bound a ≤ n₀ → levels_bound r ≤ n₀ → levels_bound m ≤ n₀ → levels_bound n ≤ n₀
    → FitsBetween n₀ n₁ c b held g a ta ka → FitsBetween n₁ n₂ c b (held ++ ka) (a ∷ g) r tr kr
    → FitsBetween n₂ n₃ c b held g m tm km → FitsBetween n₃ n₄ c b held g n tn kn
    → (s s' : Option Level) → HeadForm b ta (sort_term s) → HeadForm b tr (sort_term s') → pairs_bound k ≤ n₄ → pairs_bound k' ≤ n₄
    → ((v : Assignment) → SatisfiesAll v k ↔ Below (bodies_at v b) (at v tm) (at v a))
    → ((v : Assignment) → SatisfiesAll v k' ↔ Below (bodies_at v b) (at v tn) (at v (instantiate r m)))
    → FitsBetween n₀ n₄ c b held g (Pair x a r m n) (Sigma x a r) (((ka ++ kr) ++ (km ++ kn)) ++ (k ++ k'))

abbrev pub FitsFirst : Type 0
FitsFirst =
    (n₀ n₁ : ℕ) (c b : CoreBodies) (held : List LevelPair) (g : List Core) → Context n₀ c b held g
    → (x : Binder) (m f a r : Core) (k : List LevelPair) → levels_bound m ≤ n₀
    → FitsBetween n₀ n₁ c b held g m f k → HeadForm b f (Sigma x a r) → FitsBetween n₀ n₁ c b held g (Fst m) a k

abbrev pub FitsSecond : Type 0
FitsSecond =
    (n₀ n₁ : ℕ) (c b : CoreBodies) (held : List LevelPair) (g : List Core) → Context n₀ c b held g
    → (x : Binder) (m f a r : Core) (k : List LevelPair) → levels_bound m ≤ n₀
    → FitsBetween n₀ n₁ c b held g m f k → HeadForm b f (Sigma x a r) → FitsBetween n₀ n₁ c b held g (Snd m) (instantiate r (Fst m)) k

-- a local definition: its value fits, and the body with the value put in; the type is the body's
abbrev pub FitsLocal : Type 0
FitsLocal =
    (n₀ n₁ n₂ : ℕ) (c b : CoreBodies) (held : List LevelPair) (g : List Core) → Context n₀ c b held g
    → (x : Binder) (m f n q : Core) (k₁ k₂ : List LevelPair) → levels_bound m ≤ n₀ → levels_bound n ≤ n₀
    → FitsBetween n₀ n₁ c b held g m f k₁ → FitsBetween n₁ n₂ c b held g (instantiate n m) q k₂ → FitsBetween n₀ n₂ c b held g (Let x m n) q (k₁ ++ k₂)

-- a wanted type a; k' says that the term's own type is below it
abbrev pub FitsAgainst : Type 0
FitsAgainst =
    (n₀ n₁ : ℕ) (c b : CoreBodies) (held : List LevelPair) (g : List Core) → Context n₀ c b held g
    → (m f a : Core) (k k' : List LevelPair) → levels_bound a ≤ n₀ → FitsBetween n₀ n₁ c b held g m f k → pairs_bound k' ≤ n₁
    → ((v : Assignment) → SatisfiesAll v held → (j : ℕ) × Derives (bodies_at v c) (bodies_at v b) (map (at v) g) (at v a) (Univ j))
    → ((v : Assignment) → SatisfiesAll v k' ↔ Below (bodies_at v b) (at v f) (at v a))
    → FitsWantedBetween n₀ n₁ c b held g m a (k ++ k')

-- a written type a; k₂ fits a's own type, whose head form is a sort, and k₃ says that the term's own type is below a
abbrev pub FitsAgainstWritten : Type 0
FitsAgainstWritten =
    (n₀ n₁ n₂ : ℕ) (c b : CoreBodies) (held : List LevelPair) (g : List Core) → Context n₀ c b held g
    → (m f a ta : Core) (k₁ k₂ k₃ : List LevelPair) → levels_bound a ≤ n₀
    → FitsBetween n₀ n₁ c b held g m f k₁ → FitsBetween n₁ n₂ c b held g a ta k₂ → (s : Option Level) → HeadForm b ta (sort_term s) → pairs_bound k₃ ≤ n₂
    → ((v : Assignment) → SatisfiesAll v k₃ ↔ Below (bodies_at v b) (at v f) (at v a))
    → FitsWrittenBetween n₀ n₂ c b held g m a (k₁ ++ (k₂ ++ k₃))

-- other constraints with the same solutions fit too
abbrev pub FitsByOthers : Type 0
FitsByOthers =
    (n₀ n₁ : ℕ) (c b : CoreBodies) (held : List LevelPair) (g : List Core) (m a : Core) (k k' : List LevelPair)
    → FitsBetween n₀ n₁ c b held g m a k → pairs_bound k' ≤ n₁ → ((v : Assignment) → SatisfiesAll v k ↔ SatisfiesAll v k')
    → FitsBetween n₀ n₁ c b held g m a k'

-- a range may be wider on both sides
abbrev pub FitsInWiderRange : Type 0
FitsInWiderRange =
    (n₀ m₀ m₁ n₁ : ℕ) (c b : CoreBodies) (held : List LevelPair) (g : List Core) → Context n₀ c b held g → (m a : Core) (k : List LevelPair)
    → levels_bound m ≤ n₀ → n₀ ≤ m₀ → m₁ ≤ n₁ → FitsBetween m₀ m₁ c b held g m a k → FitsBetween n₀ n₁ c b held g m a k

-- a context is one over more level variables too
abbrev pub ContextsWiden : Type 0
ContextsWiden = (n n' : ℕ) (c b : CoreBodies) (held : List LevelPair) (g : List Core) → n ≤ n' → Context n c b held g → Context n' c b held g

-- a checked domain makes a context of the body, under the domain's constraints
abbrev pub ContextsGrow : Type 0
ContextsGrow =
    (n₀ m₀ n₁ : ℕ) (c b : CoreBodies) (held : List LevelPair) (g : List Core) → Context n₀ c b held g
    → (a ta : Core) (ka : List LevelPair) → levels_bound a ≤ n₀ → n₀ ≤ m₀ → FitsBetween m₀ n₁ c b held g a ta ka → (s : Option Level) → HeadForm b ta (sort_term s)
    → Context n₁ c b (held ++ ka) (a ∷ g)
