-- Core terms compared through their head forms, with the constraints that this gathers.
use Rattle.std.specs.Prelude.{ℕ, ◌+◌, ◌≤◌, ◌↔◌, List, [], ◌∷◌, ◌++◌}
use Rattle.lego_term.specs.declared.binder.Binder.{Binder}
use Rattle.lego_term.specs.declared.binder.Mark.{Mark}
use Rattle.lego_term.specs.declared.level.Level.{Level}
use Rattle.lego_term.specs.Levels.{Assignment, LevelPair, SatisfiesAll}
use Rattle.lego_term.specs.Trees.{Core, Term, Var, Const, Prop, Univ, Pi, Lam, App, Sigma, Pair, Fst, Snd, Equal, at, loose}
use Rattle.lego_term.specs.Steps.{Converts}
use Rattle.lego_term.specs.Below.{Below}
use Rattle.lego_term.specs.Sequences.{HeadForm}
use Rattle.lego_laws.specs.Parallel.{TermBodies, CoreBodies, AreClosed, valued, bodies_valued, bodies_at}
use Rattle.lego_laws.specs.Facing.{Order, Cumulativity, Conversion, Faces, order_under, SameRoot}

-- whether the first is to be below the second, or to convert with it
abbrev pub Related : Order → TermBodies → Term → Term → Type 0
Related Cumulativity b t u = Below b t u
Related Conversion b t u = Converts b t u

-- what two universes that face one another ask
abbrev pub asked : Order → Level → Level → List LevelPair
asked Cumulativity l m = record { low = l; high = m } ∷ []
asked Conversion l m = record { low = l; high = m } ∷ record { low = m; high = l } ∷ []

mutual
  -- The terms are equal, or their head forms are compared: so the pairs are those of one walk, which asks each pair of
  -- facing universes once, and equal terms nothing.
  pub data Compared (b : CoreBodies) : Order → Core → Core → List LevelPair → Type 0 where
    m_equal : {o : Order} {t u : Core} → Equal t u → Compared b o t u []
    m_heads : {o : Order} {t t' u u' : Core} {k : List LevelPair}
        → (Equal t u → ⊥) → HeadForm b t t' → HeadForm b u u' → FormsCompared b o t' u' k → Compared b o t u k

  -- the head forms have one root, or are two universes or `Prop` and a universe; their parts are compared
  pub data FormsCompared (b : CoreBodies) : Order → Core → Core → List LevelPair → Type 0 where
    f_var : {o : Order} {i : ℕ} → FormsCompared b o (Var i) (Var i) []
    f_const : {o : Order} {k : ℕ} → FormsCompared b o (Const k) (Const k) []
    f_prop : {o : Order} → FormsCompared b o Prop Prop []
    f_prop_univ : {l : Level} → FormsCompared b Cumulativity Prop (Univ l) []
    f_univ : {o : Order} {l m : Level} → FormsCompared b o (Univ l) (Univ m) (asked o l m)
    f_pi : {o : Order} {x y : Binder} {a a' r r' : Core} {k l : List LevelPair}
        → Compared b Conversion a a' k → Compared b o r r' l → FormsCompared b o (Pi x a r) (Pi y a' r') (k ++ l)
    f_lam : {o : Order} {x y : Binder} {a a' r r' : Core} {k l : List LevelPair}
        → Compared b Conversion a a' k → Compared b Conversion r r' l → FormsCompared b o (Lam x a r) (Lam y a' r') (k ++ l)
    f_app : {o : Order} {x y : Mark} {a a' r r' : Core} {k l : List LevelPair}
        → Compared b Conversion a a' k → Compared b Conversion r r' l → FormsCompared b o (App x a r) (App y a' r') (k ++ l)
    f_sigma : {o : Order} {x y : Binder} {a a' r r' : Core} {k l : List LevelPair}
        → Compared b o a a' k → Compared b o r r' l → FormsCompared b o (Sigma x a r) (Sigma y a' r') (k ++ l)
    f_pair : {o : Order} {x y : Binder} {a a' r r' m m' n n' : Core} {k l p q : List LevelPair}
        → Compared b Conversion a a' k → Compared b Conversion r r' l → Compared b Conversion m m' p → Compared b Conversion n n' q
        → FormsCompared b o (Pair x a r m n) (Pair y a' r' m' n') ((k ++ l) ++ (p ++ q))
    f_fst : {o : Order} {m m' : Core} {k : List LevelPair} → Compared b Conversion m m' k → FormsCompared b o (Fst m) (Fst m') k
    f_snd : {o : Order} {m m' : Core} {k : List LevelPair} → Compared b Conversion m m' k → FormsCompared b o (Snd m) (Snd m') k

-- the gathered constraints are satisfied exactly where the relation holds
abbrev pub ComparisonIsExact : Type 0
ComparisonIsExact =
    (b : CoreBodies) → AreClosed b → (o : Order) (t u : Core) (k : List LevelPair) → Compared b o t u k
    → (v : Assignment) → SatisfiesAll v k ↔ Related o (bodies_at v b) (at v t) (at v u)

-- the roots agree, or are `Prop` and a universe that is to be above it
pub data AreInOrder : Order → Core → Core → Type 0 where
  same_root : {o : Order} {h k : Core} → SameRoot h k → AreInOrder o h k
  prop_below : {l : Level} → AreInOrder Cumulativity Prop (Univ l)

-- head forms that face one another, with roots out of order, exclude that the first is below the second, whatever the levels are
abbrev pub DifferenceExcludesBelow : Type 0
DifferenceExcludesBelow =
    (b : CoreBodies) → AreClosed b → (t u : Core) (o : Order) (n : ℕ) (h k : Core) → Faces b t u o n h k → (AreInOrder o h k → ⊥)
    → (value : Level → ℕ) → Below (bodies_valued value b) (valued value t) (valued value u) → ⊥

-- head forms that face one another, with different roots, exclude conversion, whatever the levels are
abbrev pub DifferenceExcludesConversion : Type 0
DifferenceExcludesConversion =
    (b : CoreBodies) → AreClosed b → (t u : Core) (o : Order) (n : ℕ) (h k : Core) → Faces b t u o n h k → (SameRoot h k → ⊥)
    → (value : Level → ℕ) → Converts (bodies_valued value b) (valued value t) (valued value u) → ⊥

-- what faces one another is related as the path's order says, where the wholes are related so, whatever the levels are
abbrev pub FacingPartsAreRelated : Type 0
FacingPartsAreRelated =
    (b : CoreBodies) → AreClosed b → (t u : Core) (o : Order) (n : ℕ) (h k : Core) → Faces b t u o n h k
    → (whole : Order) (value : Level → ℕ) → Related whole (bodies_valued value b) (valued value t) (valued value u)
    → Related (order_under whole o) (bodies_valued value b) (valued value h) (valued value k)

-- the loose variables of what faces one another are those of the wholes, and of the binders crossed
abbrev pub FacingPartsAreScoped : Type 0
FacingPartsAreScoped =
    (b : CoreBodies) → AreClosed b → (t u : Core) (o : Order) (n : ℕ) (h k : Core) → Faces b t u o n h k
    → (loose h ≤ loose t + n) × (loose k ≤ loose u + n)
