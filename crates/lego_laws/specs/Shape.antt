-- A typed core has its shape, and what is shaped and solved is typed.
use Rattle.std.specs.Prelude.{◌≡◌, ℕ, ◌≤◌, ◌<◌, List, [], ◌∷◌, map, get_or}
use Rattle.lego_term.specs.declared.level.Level.{Level}
use Rattle.lego_term.specs.Levels.{Assignment, Satisfies}
use Rattle.lego_term.specs.Trees.{Core, Term, Univ, Pi, Sigma, at}
use Rattle.lego_term.specs.Below.{Below}
use Rattle.lego_term.specs.Sequences.{HeadForm}
use Rattle.lego_laws.specs.Parallel.{AreClosed, bodies_at}
use Rattle.lego_laws.specs.Entries.{Entry, core_bodies, entries_at, bodies_of, IsHeld}
use Rattle.lego_laws.specs.Judgement.{Valid, Has, IsType}
use Rattle.lego_laws.specs.Valid.{AreValid}
use Rattle.lego_laws.specs.RuleTypes.{RuleType}
use Rattle.lego_laws.specs.Places.{Want, Nothing, AType, AFunction, APair, Stated, OfType, want_of, Task, Stands, HasShape, IsReached, IsConstraintOfCore, IsNew, Site, WantedHead, WantedPair, WantsHead, Fulfils, IsFulfilled, BelowAtZero, RuleTypeAt, IsShaped, ArePartsShaped}

-- the type is of the form that a place wants
abbrev pub Meets : Assignment → Want → Term → Type 0
Meets v Nothing q = Unit {0}
Meets v AType q = (j : ℕ) × (q ≡ Univ j)
Meets v AFunction q = (a r : Term) × (q ≡ Pi tt a r)
Meets v APair q = (a r : Term) × (q ≡ Sigma tt a r)
Meets v (Stated a) q = q ≡ at v a

-- the core has the typing that is wanted of it, at an assignment at which the entries are valid
pub record IsTyped (t : Task) (v : Assignment) : Type 0 where
  pub valid : AreValid (entries_at v t.entries)
  pub type : Term
  pub wanted : Meets v (want_of t.aim) type
  pub has : Has (entries_at v t.entries) (map (at v) t.site.types) (at v t.core) type

-- each type that a term has at an assignment is above its rule type, at other values of the new variables
abbrev pub RuleTypesAreBelow : Type 0
RuleTypesAreBelow =
    (es : List Entry) → AreClosed (core_bodies es) → (n : ℕ) (g : List Core) (m a : Core)
    → ((u : ℕ) → n ≤ u → IsHeld u es g (m ∷ []) → ⊥) → RuleType es (λ i. i) g n m a
    → (v : Assignment) → AreValid (entries_at v es) → (q : Term) → Has (entries_at v es) (map (at v) g) (at v m) q
    → (v' : Assignment) × ((u : ℕ) → u < n → get_or v' u 0 ≡ get_or v u 0) × Below (bodies_of (entries_at v es)) (at v' a) q

-- in a typed core, each wanted head is of the form that its place wants
abbrev pub TypedCoresHaveWantedHeads : Type 0
TypedCoresHaveWantedHeads =
    (t : Task) (v : Assignment) → AreClosed (core_bodies t.entries) → IsNew t → IsTyped t v → (s : Site) (n : Core) (w : Want) (got h : Core)
    → WantedHead t s n w got → HeadForm (core_bodies t.entries) got h → Fulfils w h

-- in a typed core, each wanted pair is below with every level put to 0
abbrev pub TypedCoresHaveWantedPairs : Type 0
TypedCoresHaveWantedPairs =
    (t : Task) (v : Assignment) → AreClosed (core_bodies t.entries) → IsNew t → IsTyped t v → (s : Site) (n have stated : Core)
    → WantedPair t s n have stated → BelowAtZero t.entries have stated

-- a term whose parts are shaped where nothing is wanted of the term, and which is as its place wants it, is shaped
abbrev pub PartsGiveShapes : Type 0
PartsGiveShapes =
    (es : List Entry) (s : Site) (n : Core) (w : Want) → ArePartsShaped es s n Nothing
    → (WantsHead w → (got : Core) → RuleTypeAt es s n got → IsFulfilled es w got)
    → ((stated have : Core) → w ≡ Stated stated → RuleTypeAt es s n have → BelowAtZero es have stated) → IsShaped es s n w

-- the assignment solves the core: it satisfies each constraint of the core, and each wanted pair is below at it
pub record IsSolved (t : Task) (v : Assignment) : Type 0 where
  pub constraints : {low high : Level} → IsConstraintOfCore t low high → Satisfies v low high
  pub pairs : {s : Site} {n have stated : Core}
      → WantedPair t s n have stated → Below (bodies_at v (core_bodies t.entries)) (at v have) (at v stated)

-- each term that stands in the core has a rule type
abbrev pub HasRuleTypes : Task → Type 0
HasRuleTypes t = (s : Site) (n : Core) (w : Want) → Stands t s n w → (a : Core) × RuleTypeAt t.entries s n a

-- what has its shape, and is solved at an assignment, is typed there: over valid entries and local types, where a type that is
-- wanted, and not written, is one
abbrev pub ShapedCoresAreTyped : Type 0
ShapedCoresAreTyped =
    (t : Task) (v : Assignment) → AreClosed (core_bodies t.entries) → AreValid (entries_at v t.entries)
    → Valid (entries_at v t.entries) (map (at v) t.site.types)
    → ((a : Core) → t.aim ≡ OfType a → IsType (entries_at v t.entries) (map (at v) t.site.types) (at v a))
    → HasRuleTypes t → HasShape t → IsSolved t v → IsTyped t v

-- what is wanted at each place that the check comes to holds: a head is of the form that its place wants, and a pair is below with
-- every level put to 0
pub record ReachedWantsHold (t : Task) : Type 0 where
  pub heads : {s : Site} {n got : Core} {w : Want} → IsReached t s n w → WantsHead w → RuleTypeAt t.entries s n got → IsFulfilled t.entries w got
  pub pairs : {s : Site} {n have stated : Core} → IsReached t s n (Stated stated) → RuleTypeAt t.entries s n have → BelowAtZero t.entries have stated

-- a core has its shape where what is wanted holds at the places that the check comes to, each behind those that are shaped
abbrev pub ReachedWantsGiveShapes : Type 0
ReachedWantsGiveShapes = (t : Task) → ReachedWantsHold t → HasShape t
