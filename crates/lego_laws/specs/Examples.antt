-- Small statements that show what the definitions say.
use Rattle.std.specs.Prelude.{◌≡◌, ℕ, zero, suc, List, [], ◌∷◌, Some, None}
use Rattle.lego_term.specs.declared.binder.Binder.{Binder}
use Rattle.lego_term.specs.declared.binder.Mark.{Mark}
use Rattle.lego_term.specs.declared.binder.Mark.TheVariants.{Plain}
use Rattle.lego_term.specs.declared.level.Level.{Level}
use Rattle.lego_term.specs.Levels.{fixed_level, variable_level, LevelPair}
use Rattle.lego_term.specs.Trees.{Core, Term, Var, Const, Prop, Univ, Pi, Lam, App, Sigma, Pair, Let, instantiate}
use Rattle.lego_term.specs.Steps.{Step}
use Rattle.lego_term.specs.Below.{Below}
use Rattle.lego_term.specs.Sequences.{head_step, Ends}
use Rattle.lego_laws.specs.Parallel.{TermBodies}
use Rattle.lego_laws.specs.Entries.{Entry, Constant}
use Rattle.lego_laws.specs.Facing.{Cumulativity, Conversion, Faces}
use Rattle.lego_laws.specs.Judgement.{Has}
use Rattle.lego_laws.specs.RuleTypes.{nodes, RuleType}
use Rattle.lego_laws.specs.Expansion.{expand}
use Rattle.lego_laws.specs.Places.{Want, AType, AFunction, Stated, Aim, AnyType, BeAType, OfType, OfWrittenType, Site, type_site, Task, RuleTypeAt, WantsHead, IsFulfilled, BelowAtZero, HasShape, IsReached, IsConstraintOfCore}
use Rattle.lego_laws.specs.Fitting.{Fits, FitsWanted, FitsWritten, top}
use Rattle.lego_laws.specs.Ranges.{raised_level}

-- `A : Prop`, as the rules see it, and as an entry
abbrev pub a_prop : List Constant
a_prop = record { number = 0; ty = Prop; body = None } ∷ []

abbrev pub a_core : List Entry
a_core = record { number = 0; name = None; mark = Plain; ty = Prop; body = None; hypotheses = 0; constraints = [] } ∷ []

abbrev pub nameless : Binder
nameless = record { name = None; mark = Plain }

-- over `A : Prop`, `[x:A]x` has the type `A->A`
abbrev pub IdentityIsTyped : Type 0
IdentityIsTyped = Has a_prop [] (Lam tt (Const 0) (Var 0)) (Pi tt (Const 0) (Const 0))

-- `{A:Prop}A` is a proposition
abbrev pub PropositionsHaveProducts : Type 0
PropositionsHaveProducts = Has [] [] (Pi tt Prop (Var 0)) Prop

-- `{x:A}Type(0)` is no proposition, whatever A is
abbrev pub UniversesAreNoPropositions : Type 0
UniversesAreNoPropositions = (a : Term) → Has [] [] (Pi tt a (Univ 0)) Prop → ⊥

-- `Prop` is no proposition, and `Type(0)` is not in itself
abbrev pub NoSortIsInItself : Type 0
NoSortIsInItself = (Has [] [] Prop Prop → ⊥) × (Has [] [] (Univ 0) (Univ 0) → ⊥)

-- `Type(0)->Prop` is not below `Type(1)->Prop`, though `Type(0)` is below `Type(1)`
abbrev pub DomainsMustConvert : Type 0
DomainsMustConvert =
    Below (λ k. None) (Univ 0) (Univ 1) × (Below (λ k. None) (Pi tt (Univ 0) Prop) (Pi tt (Univ 1) Prop) → ⊥)

-- one step takes `([x:Prop]x) c` to `c`, and substitution goes under a binder
abbrev pub RedexContracts : Type 0
RedexContracts =
    ((b : TermBodies) → Step b (App tt (Lam tt Prop (Var 0)) (Const 7)) (Const 7))
    × ◌≡◌ {A = Term} (instantiate (App tt (Var 0) (Lam tt Prop (Var 1))) (Const 7)) (App tt (Const 7) (Lam tt Prop (Const 7)))

-- constants 1 to 4 unfold to 0 to 3, and the head sequence of constant 4 has 4 steps
abbrev pub one_lower : TermBodies
one_lower zero = None
one_lower (suc k) = Some (Const k)

abbrev pub FourHeadSteps : Type 0
FourHeadSteps = Ends (head_step one_lower) (Const 4) 4 (Const 0)

-- over `A : Prop` the rule type of `[x:A]x` is `A->A`
abbrev pub RuleTypeOfIdentity : Type 0
RuleTypeOfIdentity = RuleType a_core (λ i. i) [] 0 (Lam nameless (Const 0) (Var 0)) (Pi nameless (Const 0) (Const 0))

-- with every level put to 0, `Type(3)` is below `Type(2)`
abbrev pub LevelsDontCountAtZero : Type 0
LevelsDontCountAtZero = BelowAtZero [] (Univ (fixed_level 3)) (Univ (fixed_level 2))

-- `u0 + 1 <= u1`, and `u1 <= 5`
abbrev pub one_more : LevelPair
one_more = record { low = raised_level (variable_level 0); high = variable_level 1 }

abbrev pub at_most_five : LevelPair
at_most_five = record { low = variable_level 1; high = fixed_level 5 }

-- `u0 + 1 <= u1` fits `Type(u0) : Type(u1)`; no constraint is not sound, and a bound on u1 is not principal
abbrev pub UniverseFitsExactly : Type 0
UniverseFitsExactly =
    Fits [] [] (Univ (variable_level 0)) (Univ (variable_level 1)) (one_more ∷ [])
    × (Fits [] [] (Univ (variable_level 0)) (Univ (variable_level 1)) [] → ⊥)
    × (Fits [] [] (Univ (variable_level 0)) (Univ (variable_level 1)) (one_more ∷ at_most_five ∷ []) → ⊥)

-- `0 + 1 <= u0`
abbrev pub above_zero : LevelPair
above_zero = record { low = fixed_level 1; high = variable_level 0 }

-- `0 + 1 <= u0` comes of the typing of `Type(0)`: it fits `Prop : Type(0)` where the type is written, and not where it is wanted
abbrev pub WrittenTypeCounts : Type 0
WrittenTypeCounts =
    FitsWritten 0 1 [] [] Prop (Univ (fixed_level 0)) (above_zero ∷ [])
    × (FitsWanted 0 1 [] [] Prop (Univ (fixed_level 0)) (above_zero ∷ []) → ⊥)

-- `u1 <= 5` doesn't fit `Prop : Type(0)` where u1 is no new variable, though the judgement doesn't hold it
abbrev pub OlderVariablesStayFree : Type 0
OlderVariablesStayFree = (n' : ℕ) → FitsWanted 2 n' [] [] Prop (Univ (fixed_level 0)) (at_most_five ∷ []) → ⊥

-- over `x : Type(999999)` a derivation of `Prop : Type(0)` has no universe above 0
abbrev pub ConstantsDontCount : Type 0
ConstantsDontCount = (d : Has (record { number = 0; ty = Univ 999_999; body = None } ∷ []) [] Prop (Univ 0)) × (top d ≡ 0)

-- of a core `Type(u0)` whose node takes u1, `u0 + 1 <= u1` is a constraint, and the only one
abbrev pub ConstraintOfUniverse : Type 0
ConstraintOfUniverse =
    (t : Task) × (t.core ≡ Univ (variable_level 0)) × (t.site.first ≡ 1) × IsConstraintOfCore t one_more.low one_more.high
    × ((low high : Level) → IsConstraintOfCore t low high → (low ≡ one_more.low) × (high ≡ one_more.high))

-- over `A : Prop` the constant A has its shape where a type is wanted
abbrev pub ConstantHasItsShape : Type 0
ConstantHasItsShape = (t : Task) × (t.entries ≡ a_core) × (t.core ≡ Const 0) × (t.aim ≡ BeAType) × HasShape t

-- over `A : Prop`, `[B=A][b:B]b` has the type `A->A`; and `[x=A A]Prop` has no type, though x isn't used
abbrev pub LocalIsTyped : Type 0
LocalIsTyped =
    Has a_prop [] (Let tt (Const 0) (Lam tt (Var 0) (Var 0))) (Pi tt (Const 0) (Const 0))
    × ((q : Term) → Has a_prop [] (Let tt (App tt (Const 0) (Const 0)) Prop) q → ⊥)

-- one step takes `[x=c] x x` to `c c`, which is its expansion
abbrev pub LocalContracts : Type 0
LocalContracts =
    ((b : TermBodies) → Step b (Let tt (Const 7) (App tt (Var 0) (Var 0))) (App tt (Const 7) (Const 7)))
    × ◌≡◌ {A = Term} (expand [] (Let tt (Const 7) (App tt (Var 0) (Var 0)))) (App tt (Const 7) (Const 7))

-- over `A : Prop` the rule type of `[B=A][b:B]b` is `A->A`; and `[x=Type(0)]{y:x}x` has 4 nodes
abbrev pub RuleTypeOfLocal : Type 0
RuleTypeOfLocal =
    RuleType a_core (λ i. i) [] 0 (Let nameless (Const 0) (Lam nameless (Var 0) (Var 0))) (Pi nameless (Const 0) (Const 0))
    × (nodes {B = Binder} {M = Mark} {L = Level} (Let nameless (Univ (fixed_level 0)) (Pi nameless (Var 0) (Var 1))) ≡ 4)

-- `A : Prop`, `a : A`, `f : A->A`
abbrev pub f_core : List Entry
f_core =
    record { number = 0; name = None; mark = Plain; ty = Prop; body = None; hypotheses = 0; constraints = [] }
    ∷ record { number = 1; name = None; mark = Plain; ty = Const 0; body = None; hypotheses = 0; constraints = [] }
    ∷ record { number = 2; name = None; mark = Plain; ty = Pi nameless (Const 0) (Const 0); body = None; hypotheses = 0; constraints = [] }
    ∷ []

-- over these `f a : A`, with the type written, has its shape
abbrev pub ApplicationHasItsShape : Type 0
ApplicationHasItsShape =
    (t : Task) × (t.entries ≡ f_core) × (t.core ≡ App Plain (Const 2) (Const 1)) × (t.aim ≡ OfWrittenType (Const 0)) × HasShape t

-- and `[x:a]x` has none, since a is no type
abbrev pub DomainsMustBeTypes : Type 0
DomainsMustBeTypes = (t : Task) → t.entries ≡ f_core → t.core ≡ Lam nameless (Const 1) (Var 0) → HasShape t → ⊥

-- `[y=a]y`
abbrev pub local_a : Core
local_a = Let nameless (Const 1) (Var 0)

abbrev pub task_of : List Entry → Core → Aim → Task
task_of es m aim = record { entries = es; site = record { types = []; binders = []; first = 0 }; core = m; aim = aim }

-- over them `[y=a]y : A` has its shape
abbrev pub LocalHasItsShape : Type 0
LocalHasItsShape = HasShape (task_of f_core local_a (OfType (Const 0)))

-- what the check comes to first where it fails: this head form is wanted of the term's rule type, which has another
abbrev pub LacksHead : Task → Site → Core → Want → Core → Type 0
LacksHead t s n w got = IsReached t s n w × WantsHead w × RuleTypeAt t.entries s n got × (IsFulfilled t.entries w got → ⊥)

-- the check comes to no comparison of a rule type with a stated one
abbrev pub ComparesNothing : Task → Type 0
ComparesNothing t = (s : Site) (n stated : Core) → IsReached t s n (Stated stated) → ⊥

-- a written type is checked before the core is compared with it, a local definition too: of `[x=[y=a]y : a a]` the check comes to
-- `a : A`, of which a function is wanted; and of `[x=[y=a]y : a]` to `a : A`, of which a type is wanted
abbrev pub WrittenTypesAreCheckedFirst : Type 0
WrittenTypesAreCheckedFirst =
    (let t = task_of f_core local_a (OfWrittenType (App Plain (Const 1) (Const 1))) in
    LacksHead t (type_site t) (Const 1) AFunction (Const 0) × ComparesNothing t)
    × (let t = task_of f_core local_a (OfWrittenType (Const 1)) in LacksHead t (type_site t) (Const 1) AType (Const 0) × ComparesNothing t)

-- `A : Prop`, `B : Prop`, `a : A`, `f : B->B`
abbrev pub two_core : List Entry
two_core =
    record { number = 0; name = None; mark = Plain; ty = Prop; body = None; hypotheses = 0; constraints = [] }
    ∷ record { number = 3; name = None; mark = Plain; ty = Prop; body = None; hypotheses = 0; constraints = [] }
    ∷ record { number = 1; name = None; mark = Plain; ty = Const 0; body = None; hypotheses = 0; constraints = [] }
    ∷ record { number = 2; name = None; mark = Plain; ty = Pi nameless (Const 3) (Const 3); body = None; hypotheses = 0; constraints = [] }
    ∷ []

-- over these, of `f ([y=a]y)` the check comes to the argument as a whole, whose rule type A is not below the domain B
abbrev pub LocalsAreCompared : Type 0
LocalsAreCompared =
    let t = task_of two_core (App Plain (Const 2) local_a) AnyType in
    (s : Site) × IsReached t s local_a (Stated (Const 3)) × RuleTypeAt two_core s local_a (Const 0) × (BelowAtZero two_core (Const 0) (Const 3) → ⊥)

-- `A : Prop`, `a : A`, the newest first
abbrev pub member : List Constant
member = record { number = 1; ty = Const 0; body = None } ∷ a_prop

-- over these `(A, a)` has the type `<X:Prop>X`, which is its rule type; and `(A, A)` has not
abbrev pub PairIsTyped : Type 0
PairIsTyped =
    Has member [] (Pair tt Prop (Var 0) (Const 0) (Const 1)) (Sigma tt Prop (Var 0))
    × RuleType f_core (λ i. i) [] 0 (Pair nameless Prop (Var 0) (Const 0) (Const 1)) (Sigma nameless Prop (Var 0))
    × ((q : Term) → Has member [] (Pair tt Prop (Var 0) (Const 0) (Const 0)) q → ⊥)

-- the functions of `c d` and `c e` face one another under no binder, and the bodies of `{x:Prop}x` and `{x:Prop}c` under one
abbrev pub BindersAreCrossed : Type 0
BindersAreCrossed =
    Faces (λ k. None) (App Plain (Const 0) (Const 1)) (App Plain (Const 0) (Const 2)) Conversion 0 (Const 0) (Const 0)
    × Faces (λ k. None) (Pi nameless Prop (Var 0)) (Pi nameless Prop (Const 0)) Cumulativity 1 (Var 0) (Const 0)
