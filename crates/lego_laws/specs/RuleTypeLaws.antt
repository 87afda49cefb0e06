-- The rule type is a function, up to fresh level variables; the nodes of a term and of its parts.
use Rattle.std.specs.Prelude.{◌≡◌, ℕ, suc, ◌+◌, ◌<◌, ◌≤◌, option_map, List, [], ◌∷◌, length}
use Rattle.lego_term.specs.declared.level.Level.{Level}
use Rattle.lego_term.specs.declared.binder.Binder.{Binder}
use Rattle.lego_term.specs.declared.binder.Mark.{Mark}
use Rattle.lego_term.specs.Trees.{Core, Var, Const, Prop, Univ, Pi, Lam, App, Sigma, Pair, Fst, Snd, Let, loose, instantiate, map_tree}
use Rattle.lego_term.specs.Sequences.{HeadForm}
use Rattle.lego_laws.specs.Parallel.{CoreBodies, AreClosed}
use Rattle.lego_laws.specs.Entries.{Entry, core_bodies, IsHeld}
use Rattle.lego_laws.specs.RuleTypes.{RuleType, nodes}
use Rattle.lego_laws.specs.Places.{Want, Site, Part}
use Rattle.lego_laws.specs.Principal.{core_types}

-- a term has at most one head form
abbrev pub HeadFormsAreUnique : Type 0
HeadFormsAreUnique = (b : CoreBodies) (t u w : Core) → HeadForm b t u → HeadForm b t w → u ≡ w

-- with the same fresh variables a term has at most one rule type
abbrev pub RuleTypesAreUnique : Type 0
RuleTypesAreUnique =
    (es : List Entry) (w : ℕ → ℕ) (g : List Core) (n : ℕ) (m a a' : Core) → RuleType es w g n m a → RuleType es w g n m a' → a ≡ a'

-- each local type has no more loose variables than there are local types outside it
abbrev pub AreScoped : List Core → Type 0
AreScoped [] = Unit {0}
AreScoped (a ∷ g) = (loose a ≤ length g) × AreScoped g

-- over closed entries, a term whose loose variables are locals has a rule type of which this holds too
abbrev pub RuleTypesAreScoped : Type 0
RuleTypesAreScoped =
    (es : List Entry) → AreClosed (core_types es) → AreClosed (core_bodies es) → (w : ℕ → ℕ) (g : List Core) → AreScoped g
    → (n : ℕ) (m a : Core) → loose m ≤ length g → RuleType es w g n m a → loose a ≤ length g

-- the term with its level variables renamed
abbrev pub renamed_level : (ℕ → ℕ) → Level → Level
renamed_level f l = record { base = option_map f l.base; plus = l.plus }

abbrev pub renamed : (ℕ → ℕ) → Core → Core
renamed f = map_tree (λ x. x) (λ k. k) (renamed_level f)

-- renaming the fresh variables, and none that is held, renames those of the rule type
abbrev pub RuleTypesRename : Type 0
RuleTypesRename =
    (es : List Entry) (w f : ℕ → ℕ) (g : List Core) (n : ℕ) (m a : Core) → ((u : ℕ) → IsHeld u es g (m ∷ []) → f u ≡ u)
    → RuleType es w g n m a → RuleType es (λ i. f (w i)) g n m (renamed f a)

-- the nodes of a term are its own, one for a universe, a product and a Sigma type and none for another form, and those of its
-- parts, where the second part of `Let x m n` is n with m put in
abbrev pub NodesAreCounted : Type 0
NodesAreCounted =
    (x : Binder) (y : Mark) (i : ℕ) (l : Level) (a b m n : Core)
    → (nodes {B = Binder} {M = Mark} {L = Level} (Var i) ≡ 0) × (nodes {B = Binder} {M = Mark} {L = Level} (Const i) ≡ 0)
    × (nodes {B = Binder} {M = Mark} {L = Level} Prop ≡ 0) × (nodes {B = Binder} {M = Mark} {L = Level} (Univ l) ≡ 1)
    × (nodes (Pi x a b) ≡ suc (nodes a + nodes b)) × (nodes (Lam x a m) ≡ nodes a + nodes m) × (nodes (App y m n) ≡ nodes m + nodes n)
    × (nodes (Sigma x a b) ≡ suc (nodes a + nodes b)) × (nodes (Pair x a b m n) ≡ nodes a + nodes b + nodes m + nodes n)
    × (nodes (Fst m) ≡ nodes m) × (nodes (Snd m) ≡ nodes m) × (nodes (Let x m n) ≡ nodes m + nodes (instantiate n m))

-- the nodes of two parts of a term have different numbers, and these are among the term's
abbrev pub PartsStandApart : Type 0
PartsStandApart =
    (es : List Entry) (s s₁ s₂ : Site) (n n₁ n₂ : Core) (w w₁ w₂ : Want) (i j : ℕ) → Part es s n w i s₁ n₁ w₁ → Part es s n w j s₂ n₂ w₂
    → (s.first ≤ s₁.first) × (s₁.first + nodes n₁ ≤ s.first + nodes n) × (i < j → s₁.first + nodes n₁ ≤ s₂.first)

-- parts of a term with one number are one part
abbrev pub PartsAreNumbered : Type 0
PartsAreNumbered =
    (es : List Entry) (s s₁ s₂ : Site) (n n₁ n₂ : Core) (w w₁ w₂ : Want) (i : ℕ) → Part es s n w i s₁ n₁ w₁ → Part es s n w i s₂ n₂ w₂
    → (s₁ ≡ s₂) × (n₁ ≡ n₂) × (w₁ ≡ w₂)
