-- The laws of parallel steps, and confluence.
use Rattle.std.specs.Prelude.{ℕ}
use Rattle.lego_term.specs.declared.binder.Binder.{Binder}
use Rattle.lego_term.specs.declared.binder.Mark.{Mark}
use Rattle.lego_term.specs.declared.level.Level.{Level}
use Rattle.lego_term.specs.Levels.{Assignment}
use Rattle.lego_term.specs.Trees.{Tree, Core, Bodies, lift, instantiate, at}
use Rattle.lego_term.specs.Steps.{Step, Converts}
use Rattle.lego_laws.specs.Parallel.{AreClosed, ParallelStep, Star, CoreBodies, bodies_at}

-- two terms go to one term in steps
pub record HasCommonReduct {B M L : Type 0} (b : Bodies B M L) (t u : Tree B M L) : Type 0 where
  pub meet : Tree B M L
  pub left : Star (Step b) t meet
  pub right : Star (Step b) u meet

-- parallel steps from one term have a common reduct
abbrev pub ParallelStepsMeetOf : (B M L : Type 0) → Type 0
ParallelStepsMeetOf B M L =
    (b : Bodies B M L) → AreClosed b → (t u v : Tree B M L) → ParallelStep b t u → ParallelStep b t v
    → (w : Tree B M L) × ParallelStep b u w × ParallelStep b v w

-- terms that convert have a common reduct
abbrev pub ConfluenceOf : (B M L : Type 0) → Type 0
ConfluenceOf B M L = (b : Bodies B M L) → AreClosed b → (t u : Tree B M L) → Converts b t u → HasCommonReduct b t u

-- steps keep under lifting and substitution
abbrev pub StepsSubstituteOf : (B M L : Type 0) → Type 0
StepsSubstituteOf B M L =
    (b : Bodies B M L) → AreClosed b → (from by : ℕ) (m m' n n' : Tree B M L)
    → (ParallelStep b m m' → ParallelStep b (lift from by m) (lift from by m'))
    × (ParallelStep b m m' → ParallelStep b n n' → ParallelStep b (instantiate m n) (instantiate m' n'))
    × (Converts b m m' → Converts b (lift from by m) (lift from by m'))
    × (Converts b m m' → Converts b n n' → Converts b (instantiate m n) (instantiate m' n'))

-- each for core terms, and for terms at fixed numbers
abbrev pub ParallelStepsMeet : Type 0
ParallelStepsMeet = ParallelStepsMeetOf Binder Mark Level × ParallelStepsMeetOf (Unit {0}) (Unit {0}) ℕ

abbrev pub Confluence : Type 0
Confluence = ConfluenceOf Binder Mark Level × ConfluenceOf (Unit {0}) (Unit {0}) ℕ

abbrev pub StepsSubstitute : Type 0
StepsSubstitute = StepsSubstituteOf Binder Mark Level × StepsSubstituteOf (Unit {0}) (Unit {0}) ℕ

-- steps keep where values are put for levels
abbrev pub StepsKeepAtValues : Type 0
StepsKeepAtValues =
    (v : Assignment) (b : CoreBodies) (t u : Core)
    → (Step b t u → Step (bodies_at v b) (at v t) (at v u))
    × (ParallelStep b t u → ParallelStep (bodies_at v b) (at v t) (at v u))
    × (Converts b t u → Converts (bodies_at v b) (at v t) (at v u))
