-- Fitting constraints: sound and principal.
use Rattle.std.specs.Prelude.{◌≡◌, ℕ, suc, ◌+◌, max, ◌≤◌, ◌<◌, List, [], ◌∷◌, map, get_or, fold}
use Rattle.lego_term.specs.Levels.{Assignment, SatisfiesAll, LevelPair}
use Rattle.lego_term.specs.Trees.{Core, Term, Univ, at, levels_of}
use Rattle.lego_term.specs.Below.{Below}
use Rattle.lego_laws.specs.Entries.{Entry, Constant, entries_at, bodies_of, kept, IsHeld}
use Rattle.lego_laws.specs.RuleTypes.{nodes, HasRuleType}
use Rattle.lego_laws.specs.Places.{AType, IsFulfilled}
use Rattle.lego_laws.specs.Ranges.{pairs_bound}
use Rattle.lego_laws.specs.Judgement.{Valid, Has, IsType, empty, grow_constant, grow_variable, ax, universe, variable, constant, pi_prop, pi_type, lambda, application, sigma, pair, first, second, cumulative, local}

-- the greatest universe in a term
abbrev pub highest : Term → ℕ
highest m = fold max 0 (levels_of m)

-- the greatest universe of a derivation, in the terms and types that it is about and in its local types; the validity of the
-- constants doesn't count
unfoldable mutual
  pub top_valid : {es : List Constant} {g : List Term} → Valid es g → ℕ
  top_valid empty = 0
  top_valid (grow_constant d new) = 0
  top_valid (grow_variable d) = top d

  pub top : {es : List Constant} {g : List Term} {m a : Term} → Has es g m a → ℕ
  top (ax v) = top_valid v
  top (universe {j = j} v) = max (suc j) (top_valid v)
  top (variable {a = a} v at) = max (highest a) (top_valid v)
  top (constant {e = e} v at) = max (highest e.ty) (top_valid v)
  top (pi_prop d) = top d
  top (pi_type d e) = max (top d) (top e)
  top (lambda d) = top d
  top (application d e) = max (top d) (top e)
  top (sigma d e) = max (top d) (top e)
  top (pair d e f) = max (top d) (max (top e) (top f))
  top (first d) = top d
  top (second d) = top d
  top (local d e) = max (top d) (top e)
  top (cumulative d e low) = max (top d) (top e)

-- v' is v on the held variables, satisfies the constraints, and has no other value above the limit
pub record Extends (es : List Entry) (g ms : List Core) (k : List LevelPair) (v : Assignment) (limit : ℕ) (v' : Assignment) : Type 0 where
  pub same : (u : ℕ) → IsHeld u es g ms → get_or v' u 0 ≡ get_or v u 0
  pub satisfies : SatisfiesAll v' k
  pub bounded : (u : ℕ) → (IsHeld u es g ms → ⊥) → get_or v' u 0 ≤ limit

-- at each assignment that satisfies the entries' constraints and k, m has the type a
abbrev pub IsSound : List Entry → List Core → Core → Core → List LevelPair → Type 0
IsSound es g m a k =
    (v : Assignment) → SatisfiesAll v (kept es) → SatisfiesAll v k → Has (entries_at v es) (map (at v) g) (at v m) (at v a)

-- k fits `m : a`: each type that m has at an assignment is one that a has above it, at values that satisfy k
pub record Fits (es : List Entry) (g : List Core) (m a : Core) (k : List LevelPair) : Type 0 where
  pub sound : IsSound es g m a k
  pub principal : (v : Assignment) → SatisfiesAll v (kept es) → {a' : Term} → (d : Has (entries_at v es) (map (at v) g) (at v m) a')
      → (v' : Assignment) × Extends es g (m ∷ []) k v (top d) v' × Below (bodies_of (entries_at v es)) (at v' a) a'

-- v' is v on all variables below n, satisfies the constraints, and has no value above the limit from n on
pub record ExtendsFrom (n : ℕ) (k : List LevelPair) (v : Assignment) (limit : ℕ) (v' : Assignment) : Type 0 where
  pub same : (u : ℕ) → u < n → get_or v' u 0 ≡ get_or v u 0
  pub satisfies : SatisfiesAll v' k
  pub bounded : (u : ℕ) → n ≤ u → get_or v' u 0 ≤ limit

-- In what follows the new level variables are those from n on below n', and those of k are below n'. So `principal` lets
-- the variables that the judgement doesn't hold be put small, and `extends` keeps all that are older, held or not.

-- the same for a wanted type a, whose level variables keep their values
pub record FitsWanted (n n' : ℕ) (es : List Entry) (g : List Core) (m a : Core) (k : List LevelPair) : Type 0 where
  pub grows : n ≤ n'
  pub fresh : (u : ℕ) → n ≤ u → IsHeld u es g (m ∷ a ∷ []) → ⊥
  pub within : pairs_bound k ≤ n'
  pub sound : IsSound es g m a k
  pub principal : (v : Assignment) → SatisfiesAll v (kept es) → (d : Has (entries_at v es) (map (at v) g) (at v m) (at v a))
      → (v' : Assignment) × Extends es g (m ∷ a ∷ []) k v (top d) v'
  pub extends : (v : Assignment) → SatisfiesAll v (kept es) → (d : Has (entries_at v es) (map (at v) g) (at v m) (at v a))
      → (v' : Assignment) × ExtendsFrom n k v (top d) v'

-- the same for a type a that is written with m: a is to be a type too, and the limit is the greatest universe of both derivations
pub record FitsWritten (n n' : ℕ) (es : List Entry) (g : List Core) (m a : Core) (k : List LevelPair) : Type 0 where
  pub grows : n ≤ n'
  pub fresh : (u : ℕ) → n ≤ u → IsHeld u es g (m ∷ a ∷ []) → ⊥
  pub within : pairs_bound k ≤ n'
  pub sound : IsSound es g m a k
  pub is_type : (v : Assignment) → SatisfiesAll v (kept es) → SatisfiesAll v k → IsType (entries_at v es) (map (at v) g) (at v a)
  pub principal : (v : Assignment) → SatisfiesAll v (kept es) → (d : Has (entries_at v es) (map (at v) g) (at v m) (at v a))
      → (j : ℕ) (e : Has (entries_at v es) (map (at v) g) (at v a) (Univ j))
      → (v' : Assignment) × Extends es g (m ∷ a ∷ []) k v (max (top d) (top e)) v'
  pub extends : (v : Assignment) → SatisfiesAll v (kept es) → (d : Has (entries_at v es) (map (at v) g) (at v m) (at v a))
      → (j : ℕ) (e : Has (entries_at v es) (map (at v) g) (at v a) (Univ j))
      → (v' : Assignment) × ExtendsFrom n k v (max (top d) (top e)) v'

-- k fits `m : a` for the rule type a of m, whose nodes take the level variables from n on
pub record FitsRule (n n' : ℕ) (es : List Entry) (g : List Core) (m a : Core) (k : List LevelPair) : Type 0 where
  pub rule : HasRuleType n es g m a
  pub numbered : n + nodes m ≤ n'
  pub within : pairs_bound k ≤ n'
  pub fits : Fits es g m a k
  pub extends : (v : Assignment) → SatisfiesAll v (kept es) → {a' : Term} → (d : Has (entries_at v es) (map (at v) g) (at v m) a')
      → (v' : Assignment) × ExtendsFrom n k v (top d) v' × Below (bodies_of (entries_at v es)) (at v' a) a'

-- k fits `a is a type`: it fits a's rule type, whose head form is a universe or `Prop`
pub record FitsType (n n' : ℕ) (es : List Entry) (g : List Core) (a : Core) (k : List LevelPair) : Type 0 where
  pub ty : Core
  pub is_type : IsFulfilled es AType ty
  pub rule : FitsRule n n' es g a ty k
