-- Entries as a context, and constraints that fit over entries.
use Rattle.std.specs.Prelude.{◌≡◌, ℕ, ◌+◌, ◌≤◌, max, Option, Some, None, option_map, List, [], ◌∷◌, map, get_or}
use Rattle.lego_term.specs.Levels.{Assignment, LevelPair, SatisfiesAll}
use Rattle.lego_term.specs.Trees.{Core, Term, Univ, at}
use Rattle.lego_laws.specs.Parallel.{CoreBodies, AreClosed}
use Rattle.lego_laws.specs.Entries.{Entry, entry_of, core_bodies, entries_at, bodies_of, kept}
use Rattle.lego_laws.specs.Judgement.{Valid, Has}
use Rattle.lego_laws.specs.Valid.{AreValid, AlwaysValid}
use Rattle.lego_laws.specs.RuleTypes.{nodes, RuleType}
use Rattle.lego_laws.specs.Derivations.{types_of}
use Rattle.lego_laws.specs.Fitting.{Fits, FitsWanted, FitsWritten, FitsRule, top}
use Rattle.lego_laws.specs.Ranges.{levels_bound, pairs_bound, locals_bound, Context, FitsBetween, FitsWantedBetween, FitsWrittenBetween}

-- the types of the constants
abbrev pub core_types : List Entry → CoreBodies
core_types es k = option_map (λ e. e.ty) (entry_of es k)

-- the bound on the level variables of entries: each is below it
abbrev pub body_bound : Option Core → ℕ
body_bound None = 0
body_bound (Some m) = levels_bound m

abbrev pub entries_bound : List Entry → ℕ
entries_bound [] = 0
entries_bound (e ∷ es) = max (max (levels_bound e.ty) (body_bound e.body)) (max (pairs_bound e.constraints) (entries_bound es))

-- the types and bodies of valid entries at an assignment are those of the entries, at the assignment
abbrev pub EntriesAtValues : Type 0
EntriesAtValues =
    (es : List Entry) (v : Assignment) → AreValid (entries_at v es) → (k : ℕ)
    → (types_of (entries_at v es) k ≡ option_map (at v) (core_types es k)) × (bodies_of (entries_at v es) k ≡ option_map (at v) (core_bodies es k))

-- entries that are always valid, and have no loose variables, are a context
abbrev pub EntriesAreAContext : Type 0
EntriesAreAContext =
    (es : List Entry) (n : ℕ) → AlwaysValid es → AreClosed (core_types es) → AreClosed (core_bodies es) → entries_bound es ≤ n
    → Context n (core_types es) (core_bodies es) (kept es) []

-- entries with local types that are always valid over them are a context
abbrev pub EntriesAndLocalsAreAContext : Type 0
EntriesAndLocalsAreAContext =
    (es : List Entry) (n : ℕ) → AlwaysValid es → AreClosed (core_types es) → AreClosed (core_bodies es) → entries_bound es ≤ n
    → (g : List Core) → locals_bound g ≤ n → ((v : Assignment) → SatisfiesAll v (kept es) → Valid (entries_at v es) (map (at v) g))
    → Context n (core_types es) (core_bodies es) (kept es) g

-- constraints that fit in a range over a context of entries are sound and principal
abbrev pub PrincipalTypes : Type 0
PrincipalTypes =
    (es : List Entry) (n n₁ : ℕ) → AlwaysValid es → entries_bound es ≤ n → (g : List Core) (m a : Core) (k : List LevelPair)
    → Context n (core_types es) (core_bodies es) (kept es) g → levels_bound m ≤ n
    → FitsBetween n n₁ (core_types es) (core_bodies es) (kept es) g m a k → Fits es g m a k

-- the same for a rule type, where the nodes of the term take the level variables from n on
abbrev pub PrincipalRuleTypes : Type 0
PrincipalRuleTypes =
    (es : List Entry) (n n₁ : ℕ) → AlwaysValid es → entries_bound es ≤ n → (g : List Core) (m a : Core) (k : List LevelPair)
    → Context n (core_types es) (core_bodies es) (kept es) g → levels_bound m ≤ n → RuleType es (λ i. i) g n m a → n + nodes m ≤ n₁
    → FitsBetween n n₁ (core_types es) (core_bodies es) (kept es) g m a k → FitsRule n n₁ es g m a k

-- the same for a wanted type
abbrev pub PrincipalChecks : Type 0
PrincipalChecks =
    (es : List Entry) (n n₁ : ℕ) → AlwaysValid es → entries_bound es ≤ n → (g : List Core) (m a : Core) (k : List LevelPair)
    → Context n (core_types es) (core_bodies es) (kept es) g → levels_bound m ≤ n → levels_bound a ≤ n
    → FitsWantedBetween n n₁ (core_types es) (core_bodies es) (kept es) g m a k → FitsWanted n n₁ es g m a k

-- the same for a written type
abbrev pub PrincipalDefinitions : Type 0
PrincipalDefinitions =
    (es : List Entry) (n n₁ : ℕ) → AlwaysValid es → entries_bound es ≤ n → (g : List Core) (m a : Core) (k : List LevelPair)
    → Context n (core_types es) (core_bodies es) (kept es) g → levels_bound m ≤ n → levels_bound a ≤ n
    → FitsWrittenBetween n n₁ (core_types es) (core_bodies es) (kept es) g m a k → FitsWritten n n₁ es g m a k

-- each value is at most the limit
abbrev pub AreSmall : ℕ → Assignment → Type 0
AreSmall limit v = (u : ℕ) → get_or v u 0 ≤ limit

-- values up to the limit satisfy the constraints and those kept with the entries
abbrev pub HasSmallSolution : ℕ → List Entry → List LevelPair → Type 0
HasSmallSolution limit es k = (v : Assignment) × SatisfiesAll v (kept es) × SatisfiesAll v k × AreSmall limit v

-- a typing whose universes are at most a limit, at values that are, has fitting values that are too
abbrev pub SmallTypingsHaveSmallSolutions : Type 0
SmallTypingsHaveSmallSolutions =
    (es : List Entry) (g : List Core) (m a : Core) (k : List LevelPair) → Fits es g m a k
    → (limit : ℕ) (v : Assignment) → SatisfiesAll v (kept es) → AreSmall limit v
    → (q : Term) (d : Has (entries_at v es) (map (at v) g) (at v m) q) → top d ≤ limit → HasSmallSolution limit es k

-- the same of a typing with a wanted type
abbrev pub SmallChecksHaveSmallSolutions : Type 0
SmallChecksHaveSmallSolutions =
    (n n₁ : ℕ) (es : List Entry) (g : List Core) (m a : Core) (k : List LevelPair) → FitsWanted n n₁ es g m a k
    → (limit : ℕ) (v : Assignment) → SatisfiesAll v (kept es) → AreSmall limit v
    → (d : Has (entries_at v es) (map (at v) g) (at v m) (at v a)) → top d ≤ limit → HasSmallSolution limit es k

-- the same of a typing with a written type, together with the typing of that type
abbrev pub SmallDefinitionsHaveSmallSolutions : Type 0
SmallDefinitionsHaveSmallSolutions =
    (n n₁ : ℕ) (es : List Entry) (g : List Core) (m a : Core) (k : List LevelPair) → FitsWritten n n₁ es g m a k
    → (limit : ℕ) (v : Assignment) → SatisfiesAll v (kept es) → AreSmall limit v
    → (d : Has (entries_at v es) (map (at v) g) (at v m) (at v a)) → top d ≤ limit
    → (j : ℕ) (e : Has (entries_at v es) (map (at v) g) (at v a) (Univ j)) → top e ≤ limit → HasSmallSolution limit es k
