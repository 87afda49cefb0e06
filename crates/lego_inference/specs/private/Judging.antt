-- What the functions of a check answer of a term at a site. A tool of the proofs.
use Rattle.std.specs.Prelude.{◌≡◌, ℕ, suc, ◌+◌, ◌≤◌, ◌⊎◌, List, ◌∷◌, ◌++◌, All, Option, Some, None, Result, Ok, Err, length}
use Rattle.lego_base.specs.declared.place.Place.{Place}
use Rattle.lego_term.specs.declared.binder.Binder.{Binder}
use Rattle.lego_term.specs.declared.level.Level.{Level}
use Rattle.lego_term.specs.declared.seen.Seen.{Seen}
use Rattle.lego_term.specs.Levels.{LevelPair, variable_level}
use Rattle.lego_term.specs.Trees.{Core, Pi, Sigma, Fst, Snd, Equal, instantiate}
use Rattle.lego_term.specs.Weight.{height}
use Rattle.lego_term.specs.Parts.{IsTooLarge}
use Rattle.lego_term.specs.Sequences.{HeadForm, head_step, after, MoreThan, CostMoreThan}
use Rattle.lego_laws.specs.Entries.{Entry, core_bodies}
use Rattle.lego_laws.specs.Principal.{core_types}
use Rattle.lego_laws.specs.Facing.{Cumulativity}
use Rattle.lego_laws.specs.Places.{Want, Nothing, AType, AFunction, APair, Stated, Site, behind, under, RuleTypeAt, Aim, Task, IsNew, Stands, IsConstraintOfCore, Fulfils, BelowAtZero, ArePartsShaped, Comes, IsReached}
use Rattle.lego_laws.specs.Ranges.{Context, FitsBetween, sort_term}
use Rattle.lego_laws.specs.RuleTypes.{nodes}
use Rattle.lego_laws.specs.RuleTypeLaws.{AreScoped}
use Rattle.lego_level.specs.declared.constraint.Constraint.{Constraint}
use Rattle.lego_level.specs.Graphs.{pairs_of}
use Rattle.lego_compare.specs.Answers.{IsDecidedBy, ReachesTooLarge}
use Rattle.lego_inference.specs.declared.entry.At.{At}
use Rattle.lego_inference.specs.declared.fault.TypeFault.{TypeFault}
use Rattle.lego_inference.specs.declared.fault.TypeFault.TheVariants.{NotAType, NotAFunction, NotAPair, Mismatch, Budget, TooLarge, Memory}
use Rattle.lego_inference.specs.declared.gathered.Gathered.{Gathered}
use Rattle.lego_inference.specs.declared.head.Former.{Former}
use Rattle.lego_inference.specs.declared.rules.Formed.{Formed}
use Rattle.lego_inference.specs.Entries.{AreClosedEntries}
use Rattle.lego_inference.specs.Locals.{site_of, IsOver, seen_under}
use Rattle.lego_inference.specs.declared.locals.Local.{Local}
use Rattle.lego_inference.specs.Causes.{AreMeasured}
use Rattle.lego_inference.specs.Failures.{TypeFails}

-- what is checked as a whole
pub record Root : Type 0 where
  pub site : Site
  pub core : Core
  pub aim : Aim

abbrev pub task_on : List Entry → Root → Task
task_on es r = record { entries = es; site = r.site; core = r.core; aim = r.aim }

-- the site under a binder of a domain, whose nodes are behind it already
abbrev pub site_under : Binder → Core → List Local → ℕ → Site
site_under x a locals first = site_of (record { binder = x; ty = a } ∷ locals) first

-- a term at a site that can be checked
pub record IsReady (es : List Entry) (s : Site) (m : Core) : Type 0 where
  pub closed : AreClosedEntries es
  pub scoped : AreScoped s.types
  pub few : length s.types + height m ≤ 63536
  pub over : IsOver es s.types s.first m

-- the term has this type by the rules, under these constraints
pub record Inferred (es : List Entry) (place : Place) (s : Site) (m : Core) (k : List Constraint) (a : Core) : Type 0 where
  pub rule : RuleTypeAt es s m a
  pub parts : ArePartsShaped es s m Nothing
  pub fits : (held : List LevelPair) → Context s.first (core_types es) (core_bodies es) held s.types
      → FitsBetween s.first (s.first + nodes m) (core_types es) (core_bodies es) held s.types m a (pairs_of k)
  pub of_core : (r : Root) (w : Want) → Stands (task_on es r) s m w → All (λ c. IsConstraintOfCore (task_on es r) c.low c.high) k
  pub placed : All (λ c. c.place ≡ Some place) k

-- the check of a whole core has begun: its level variables are new, and it is measured
pub record IsBegun (t : Task) : Type 0 where
  pub new : IsNew t
  pub measured : AreMeasured t

-- each check that comes to the term is refused so
abbrev pub Fails : List Entry → ℕ → Site → Core → TypeFault → Type 0
Fails es limit s m fault = (r : Root) (w : Want) → IsBegun (task_on es r) → Comes (task_on es r) s m w → TypeFails limit (task_on es r) fault

-- the same where this is wanted of the term
abbrev pub FailsAt : List Entry → ℕ → Site → Core → Want → TypeFault → Type 0
FailsAt es limit s m w fault =
    (r : Root) → IsBegun (task_on es r) → Comes (task_on es r) s m w → (ArePartsShaped es s m Nothing → IsReached (task_on es r) s m w)
    → TypeFails limit (task_on es r) fault

-- these constraints and so many level variables were added
pub record Adds (old new : Gathered) (count : ℕ) (k : List Constraint) : Type 0 where
  pub constraints : new.constraints.items ≡ old.constraints.items ++ k
  pub levels : new.levels ≡ old.levels + count

abbrev pub Infers : List Entry → At → Site → Core → (old new : Gathered) → Result Core TypeFault → Type 0
Infers es asked s m old new (Ok a) = (k : List Constraint) × Adds old new (nodes m) k × Inferred es asked.place s m k a
Infers es asked s m old new (Err fault) = Fails es asked.limit s m fault

-- the term is a type of this sort
pub record IsTypeBy (es : List Entry) (place : Place) (s : Site) (a : Core) (k : List Constraint) (sort : Option Level) : Type 0 where
  pub ty : Core
  pub inferred : Inferred es place s a k ty
  pub head : HeadForm (core_bodies es) ty (sort_term sort)

abbrev pub FindsSort : List Entry → At → Site → Core → (old new : Gathered) → Result (Option Level) TypeFault → Type 0
FindsSort es asked s a old new (Ok sort) = (k : List Constraint) × Adds old new (nodes a) k × IsTypeBy es asked.place s a k sort
FindsSort es asked s a old new (Err fault) = FailsAt es asked.limit s a AType fault

-- the term has the stated type
pub record HasStated (es : List Entry) (place : Place) (s : Site) (m : Core) (k : List Constraint) (want : Core) : Type 0 where
  pub have : Core
  pub own : List Constraint
  pub more : List Constraint
  pub split : k ≡ own ++ more
  pub inferred : Inferred es place s m own have
  pub decided : IsDecidedBy Cumulativity (core_bodies es) have want place more

abbrev pub ChecksAt : List Entry → At → Site → Core → Core → (old new : Gathered) → Result (Unit {0}) TypeFault → Type 0
ChecksAt es asked s m want old new (Ok done) = (k : List Constraint) × Adds old new (nodes m) k × HasStated es asked.place s m k want
ChecksAt es asked s m want old new (Err fault) = FailsAt es asked.limit s m (Stated want) fault

-- the domain and the body of a product or a Sigma type are types
pub record IsFormed (es : List Entry) (place : Place) (s : Site) (x : Binder) (a b : Core) (k : List Constraint) (formed : Formed) : Type 0 where
  pub own : formed.own ≡ variable_level s.first
  pub of_domain : List Constraint
  pub of_body : List Constraint
  pub split : k ≡ of_domain ++ of_body
  pub domain : IsTypeBy es place (behind 1 s) a of_domain formed.domain
  pub body : IsTypeBy es place (under x a (behind 1 s)) b of_body formed.body

abbrev pub Forms : List Entry → At → Site → Binder → (a b : Core) → (old new : Gathered) → Result Formed TypeFault → Type 0
Forms es asked s x a b old new (Ok formed) =
    (k : List Constraint) × Adds old new (suc (nodes a + nodes b)) k × IsFormed es asked.place s x a b k formed
Forms es asked s x a b old new (Err fault) = Fails es asked.limit s (Pi x a b) fault × Fails es asked.limit s (Sigma x a b) fault

-- the term is a pair of this type
pub record IsPairOf (es : List Entry) (place : Place) (s : Site) (m : Core) (k : List Constraint) (former : Former) : Type 0 where
  pub ty : Core
  pub inferred : Inferred es place s m k ty
  pub head : HeadForm (core_bodies es) ty (Sigma former.binder former.domain former.body)

abbrev pub Projects : List Entry → At → Site → Core → (old new : Gathered) → Result Former TypeFault → Type 0
Projects es asked s m old new (Ok former) = (k : List Constraint) × Adds old new (nodes m) k × IsPairOf es asked.place s m k former
Projects es asked s m old new (Err fault) = Fails es asked.limit s (Fst m) fault × Fails es asked.limit s (Snd m) fault

-- the refusal of a head form that is not as its place wants it
abbrev pub wrong : Want → Seen → Seen → TypeFault
wrong AFunction = NotAFunction
wrong APair = NotAPair
wrong _ = NotAType

-- the head form of the term's rule type isn't found, or is not as wanted
pub data HeadFails (es : List Entry) (limit : ℕ) (xs : List Binder) (m : Core) (w : Want) (got : Core) : TypeFault → Type 0 where
  unfit : {h : Core} → HeadForm (core_bodies es) got h → (Fulfils w h → ⊥) → HeadFails es limit xs m w got (wrong w (seen_under xs m) (seen_under xs got))
  budget : MoreThan (head_step (core_bodies es)) got limit → HeadFails es limit xs m w got (Budget (seen_under xs got) None)
  too_large : {u : Core} {size depth : ℕ} (i : ℕ)
      → i ≤ limit → after (head_step (core_bodies es)) i got ≡ Some u → IsTooLarge u size depth → HeadFails es limit xs m w got (TooLarge size depth)
  memory : HeadFails es limit xs m w got Memory

-- the term's rule type isn't compared with the stated type, or is not below it
pub data PairFails (es : List Entry) (limit : ℕ) (xs : List Binder) (m have want : Core) : TypeFault → Type 0 where
  mismatch : (BelowAtZero es have want → ⊥) → PairFails es limit xs m have want (Mismatch (seen_under xs m) (seen_under xs have) (seen_under xs want))
  budget : (Equal have want → ⊥) → CostMoreThan (core_bodies es) have want limit
      → PairFails es limit xs m have want (Budget (seen_under xs have) (Some (seen_under xs want)))
  too_large : {size depth : ℕ}
      → (Equal have want → ⊥) → ReachesTooLarge (core_bodies es) limit size depth have ⊎ ReachesTooLarge (core_bodies es) limit size depth want
      → PairFails es limit xs m have want (TooLarge size depth)
  memory : PairFails es limit xs m have want Memory

-- what is found is the head form of the term's rule type
abbrev pub FindsHead : {T : Type 0} → (T → Core) → List Entry → At → List Binder → Core → Want → Core → Result T TypeFault → Type 0
FindsHead head_of es asked xs m w got (Ok found) = HeadForm (core_bodies es) got (head_of found)
FindsHead head_of es asked xs m w got (Err fault) = HeadFails es asked.limit xs m w got fault

abbrev pub product_of : Former → Core
product_of f = Pi f.binder f.domain f.body

abbrev pub sigma_of : Former → Core
sigma_of f = Sigma f.binder f.domain f.body

abbrev pub Compares : List Entry → At → List Binder → (m have want : Core) → (old new : Gathered) → Result (Unit {0}) TypeFault → Type 0
Compares es asked xs m have want old new (Ok done) =
    (more : List Constraint) × Adds old new 0 more × IsDecidedBy Cumulativity (core_bodies es) have want asked.place more
Compares es asked xs m have want old new (Err fault) = PairFails es asked.limit xs m have want fault

-- the tree is not made: it passes a limit of terms, or memory ran out
pub data MakingFails (t : Core) : TypeFault → Type 0 where
  too_large : {size depth : ℕ} → IsTooLarge t size depth → MakingFails t (TooLarge size depth)
  memory : MakingFails t Memory

abbrev pub IsMade : Core → Result Core TypeFault → Type 0
IsMade t (Ok made) = made ≡ t
IsMade t (Err fault) = MakingFails t fault
