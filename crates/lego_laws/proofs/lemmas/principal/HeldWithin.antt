-- The variables that are held are within their bounds, and their values alone count.
use Rattle.std.proofs.Common.{◌≡◌, ℕ, zero, suc, ◌≤◌, max, Bool, true, false, cond, ◌||◌, IsTrue, Option, Some, None, option_map, unwrap_or, List, [], ◌∷◌, get_or, ⊎_elim, refl, sym, ap, arith}
use Rattle.std.specs.List.{list_any}
use Rattle.lego_term.specs.Levels.{Assignment, LevelPair}
use Rattle.lego_term.specs.Trees.{Core, uses_level, is_over}
use Rattle.lego_laws.specs.Entries.{Entry, entry_uses, IsHeld}
use Rattle.lego_laws.specs.Ranges.{levels_bound, pairs_bound, locals_bound}
use Rattle.lego_laws.specs.Principal.{body_bound, entries_bound}
use Rattle.lego_laws.proofs.lemmas.principal.HeldVariables.{or_cases, uses_within, over_within}

-- the values of the variables that a test finds, and 0 for all others
abbrev pub only : (ℕ → Bool) → Assignment → Assignment
only p [] = []
only p (x ∷ v) = cond (p 0) x 0 ∷ only (λ u. p (suc u)) v

nothing_there : (u : ℕ) → get_or {A = ℕ} [] u 0 ≡ 0
nothing_there zero = refl
nothing_there (suc u) = refl

pub only_found : (p : ℕ → Bool) (v : Assignment) (u : ℕ) → IsTrue (p u) → get_or v u 0 ≡ get_or (only p v) u 0
only_found p [] u h = refl
only_found p (x ∷ v) zero h = sym (ap (λ o. cond o x 0) h)
only_found p (x ∷ v) (suc u) h = only_found (λ u. p (suc u)) v u h

choice_zero : (o : Bool) (x : ℕ) → (IsTrue o → ⊥) → cond o x 0 ≡ 0
choice_zero true x h = absurd (h refl)
choice_zero false x h = refl

pub only_zero : (p : ℕ → Bool) (v : Assignment) (u : ℕ) → (IsTrue (p u) → ⊥) → get_or (only p v) u 0 ≡ 0
only_zero p [] u h = nothing_there u
only_zero p (x ∷ v) zero h = choice_zero (p 0) x h
only_zero p (x ∷ v) (suc u) h = only_zero (λ u. p (suc u)) v u h

-- the variables of the entries, of local types and of terms are within their bounds
pairs_within : (u : ℕ) (k : List LevelPair) → IsTrue (list_any (λ c. is_over u c.low || is_over u c.high) k) → suc u ≤ pairs_bound k
pairs_within u [] h = cc
pairs_within u (c ∷ k) h =
    ⊎_elim (λ (i : IsTrue (is_over u c.low || is_over u c.high)). ⊎_elim (λ (j : IsTrue (is_over u c.low)). let w = over_within u c.low j in omega arith) (λ (j : IsTrue (is_over u c.high)). let w = over_within u c.high j in omega arith) (or_cases (is_over u c.low) (is_over u c.high) i)) (λ (i : IsTrue (list_any (λ c. is_over u c.low || is_over u c.high) k)). let w = pairs_within u k i in omega arith) (or_cases (is_over u c.low || is_over u c.high) (list_any (λ c. is_over u c.low || is_over u c.high) k) h)

body_uses_within : (u : ℕ) (o : Option Core) → IsTrue (unwrap_or (option_map (uses_level u) o) false) → suc u ≤ body_bound o
body_uses_within u None h = cc
body_uses_within u (Some m) h = uses_within u m h

entry_uses_within : (u : ℕ) (e : Entry) (n : ℕ) → IsTrue (entry_uses u e) → suc u ≤ max (max (levels_bound e.ty) (body_bound e.body)) (max (pairs_bound e.constraints) n)
entry_uses_within u e n h =
    ⊎_elim (λ (i : IsTrue (uses_level u e.ty || unwrap_or (option_map (uses_level u) e.body) false)). ⊎_elim (λ (j : IsTrue (uses_level u e.ty)). let w = uses_within u e.ty j in omega arith) (λ (j : IsTrue (unwrap_or (option_map (uses_level u) e.body) false)). let w = body_uses_within u e.body j in omega arith) (or_cases (uses_level u e.ty) (unwrap_or (option_map (uses_level u) e.body) false) i)) (λ (i : IsTrue (list_any (λ c. is_over u c.low || is_over u c.high) e.constraints)). let w = pairs_within u e.constraints i in omega arith) (or_cases (uses_level u e.ty || unwrap_or (option_map (uses_level u) e.body) false) (list_any (λ c. is_over u c.low || is_over u c.high) e.constraints) h)

entries_use_within : (u : ℕ) (es : List Entry) → IsTrue (list_any (entry_uses u) es) → suc u ≤ entries_bound es
entries_use_within u [] h = cc
entries_use_within u (e ∷ es) h =
    ⊎_elim (λ (i : IsTrue (entry_uses u e)). entry_uses_within u e (entries_bound es) i) (λ (i : IsTrue (list_any (entry_uses u) es)). let w = entries_use_within u es i in omega arith) (or_cases (entry_uses u e) (list_any (entry_uses u) es) h)

terms_use_within : (u : ℕ) (g : List Core) → IsTrue (list_any (uses_level u) g) → suc u ≤ locals_bound g
terms_use_within u [] h = cc
terms_use_within u (a ∷ g) h =
    ⊎_elim (λ (i : IsTrue (uses_level u a)). let w = uses_within u a i in omega arith) (λ (i : IsTrue (list_any (uses_level u) g)). let w = terms_use_within u g i in omega arith) (or_cases (uses_level u a) (list_any (uses_level u) g) h)

pub held_within : (u n : ℕ) (es : List Entry) (g ms : List Core) → entries_bound es ≤ n → locals_bound g ≤ n → locals_bound ms ≤ n → IsHeld u es g ms → suc u ≤ n
held_within u n es g ms le lg lm h =
    ⊎_elim (λ (i : IsTrue (list_any (entry_uses u) es || list_any (uses_level u) g)). ⊎_elim (λ (j : IsTrue (list_any (entry_uses u) es)). let w = entries_use_within u es j in omega arith) (λ (j : IsTrue (list_any (uses_level u) g)). let w = terms_use_within u g j in omega arith) (or_cases (list_any (entry_uses u) es) (list_any (uses_level u) g) i)) (λ (i : IsTrue (list_any (uses_level u) ms)). let w = terms_use_within u ms i in omega arith) (or_cases (list_any (entry_uses u) es || list_any (uses_level u) g) (list_any (uses_level u) ms) h)
