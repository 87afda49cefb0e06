-- The least solution, from a search up from the zero node.
use Rattle.std.proofs.Common.{◌≡◌, ℕ, suc, zero, ◌+◌, ◌<◌, ◌≤◌, ◌⊎◌, Option, Some, None, List, [], ◌∷◌, length, get_or, Contains, refl, sym, ap, ◌∙◌, inl, inr, ⊎_elim, arith, subst}
use Rattle.std.proofs.lemmas.Bool.{cases_lt}
use Rattle.std.proofs.lemmas.List.{get_or_past}
use Rattle.lego_term.specs.Levels.{Assignment, Satisfies, SatisfiesAll, node_value}
use Rattle.lego_level.specs.declared.constraint.Constraint.{Constraint}
use Rattle.lego_level.specs.declared.direction.Direction.TheVariants.{Up}
use Rattle.lego_level.specs.declared.draft.Reached.{Reached}
use Rattle.lego_level.specs.declared.search.Task.{Task}
use Rattle.lego_level.specs.declared.search.Search.{Search}
use Rattle.lego_level.specs.Graphs.{implied, IsLeast, IsVariableBelow, HasVariablesBelow, pairs_of}
use Rattle.lego_level.specs.private.Lowest.{IsForced, IsLowest}
use Rattle.lego_level.specs.private.Potentials.{IsFeasible}
use Rattle.lego_level.specs.private.Searches.{blank, reached_at, IsEdge, IsRelaxed, IsLinked, Searches, Stops}
use Rattle.lego_level.proofs.MemberLemmas.{contains_none, contains_cases, contains_head, contains_tail}
use Rattle.lego_level.proofs.SearchLemmas.{edge_known, relaxed}

abbrev pub upward : ℕ → ℕ → Task
upward gain count = record { direction = Up; added = blank; gain = gain; count = count }

pub low_variable : (n : ℕ) (cs : List Constraint) (c : Constraint) → HasVariablesBelow n cs → Contains cs c → IsVariableBelow n c.low.base × IsVariableBelow n c.high.base
low_variable n [] c b h = absurd (contains_none c h)
low_variable n (x ∷ cs) c b h = ⊎_elim {C = IsVariableBelow n c.low.base × IsVariableBelow n c.high.base}
    (λ e. subst (λ (z : Constraint). IsVariableBelow n z.low.base × IsVariableBelow n z.high.base) (sym e) b.0) (λ k. low_variable n cs c b.1 k) (contains_cases x cs c h)

module _ (gain n : ℕ) (v : Option ℕ → ℕ) (cs : List Constraint) (s : Search) (z : Searches (upward gain n) v cs s) (empty : s.queue ≡ []) (feasible : IsFeasible v cs)
    (top : (u : ℕ) → v (Some u) < v None + gain) (below : HasVariablesBelow n cs) where
  all_relaxed : (c : Constraint) → IsEdge (upward gain n) cs c → IsRelaxed (upward gain n) v (reached_at s.draft) c
  all_relaxed = relaxed (upward gain n) v cs s z feasible empty

  -- each variable below n is reached
  variable_reached : (u : ℕ) → u < n → 0 < (reached_at s.draft (Some u)).gain
  variable_reached u h = let k = all_relaxed (implied u) (inr (u, refl, h)) in let g = z.grown.first.gain in let t = top u in omega (arith, k, g, t)

  node_reached : (w : Option ℕ) → IsVariableBelow n w → 0 < (reached_at s.draft w).gain
  node_reached None h = let g = z.grown.first.gain in let t = top 0 in let k = feasible (implied 0) (inr (0, refl)) in omega (arith, g, t, k)
  node_reached (Some u) h = variable_reached u h

  node_moved : (w : Option ℕ) → IsVariableBelow n w → (reached_at s.draft w).value ≡ v w + (reached_at s.draft w).gain
  node_moved w h = (z.grown.reached w (node_reached w h)).moved

  known_low : (u : ℕ) (c : Constraint) → IsLinked (upward gain n) v cs (reached_at s.draft) (Some u) (reached_at s.draft (Some u)) → (reached_at s.draft (Some u)).cause ≡ c
      → (Contains cs c ⊎ (c ≡ implied u)) × IsVariableBelow n c.low.base
  known_low u c x is = ⊎_elim {C = (Contains cs c ⊎ (c ≡ implied u)) × IsVariableBelow n c.low.base}
      (λ k. let k' : Contains cs c = subst (λ y. Contains cs y) is k in (inl k', (low_variable n cs c below k').0))
      (λ k. let e : c ≡ implied k.0 = sym is ∙ k.1 in let f : Some k.0 ≡ Some u = ap (λ (y : Constraint). y.high.base) (sym k.1) ∙ x.far in let j : k.0 ≡ u = cc in
      (inr (e ∙ ap implied j), subst (λ (y : Constraint). IsVariableBelow n y.low.base) (sym e) tt)) x.edge

  forced : (u : ℕ) → u < n → IsForced cs n (reached_at s.draft) u (reached_at s.draft (Some u)).cause
  forced u h = let d = reached_at s.draft in ⊎_elim {C = IsForced cs n d u (d (Some u)).cause} (λ e. absurd (cc))
      (λ x. let k = known_low u (d (Some u)).cause x refl in let xt = x.tight in
      let high_below : IsVariableBelow n (d (Some u)).cause.high.base = subst (IsVariableBelow n) (sym x.far) h in
      let a = node_moved (d (Some u)).cause.low.base k.1 in let b = node_moved (d (Some u)).cause.high.base high_below in
      let g : (d (d (Some u)).cause.high.base).gain ≡ (d (Some u)).gain = ap (λ y. (d y).gain) x.far in
      record { known = k.0; high = x.far; tight = omega (arith, xt, a, b, g); rank = x.rank; below = k.1 }) (z.grown.reached (Some u) (variable_reached u h)).source

  pub lowest : IsLowest cs n (reached_at s.draft)
  lowest = record {
    holds = λ c h. let k = all_relaxed c (inl h) in let b = low_variable n cs c below h in let x = node_moved c.low.base b.0 in let y = node_moved c.high.base b.1 in omega (arith, k, x, y);
    above = λ u h. let k = all_relaxed (implied u) (inr (u, refl, h)) in let x = node_moved None tt in let y = node_moved (Some u) h in omega (arith, k, x, y);
    forced = forced;
  }

-- the zero node is not moved further
pub never_stops : (gain n : ℕ) (v : Option ℕ → ℕ) (cs : List Constraint) (s : Search) (c : Constraint) → Stops (upward gain n) v cs s c → IsFeasible v cs → ⊥
never_stops gain n v cs s c z feasible =
    let d = reached_at s.draft in let over = z.over in
    let far : c.high.base ≡ None = ⊎_elim {C = c.high.base ≡ None} (λ k. k) (λ k. k) z.stop in
    let g : (d c.high.base).gain ≡ (d None).gain = ap (λ y. (d y).gain) far in let first = z.grown.first.gain in
    let most = (z.grown.reached c.low.base (z.grown.done c.low.base z.near)).most in
    let k = feasible c (edge_known (upward gain n) cs c z.edge) in absurd (omega (arith, over, g, first, most, k))

-- a variable is no higher above the zero node than in any assignment that satisfies the constraints
lowest_below : (cs : List Constraint) (n : ℕ) (d : Option ℕ → Reached) (w : Assignment) → IsLowest cs n d → ((c : Constraint) → Contains cs c → Satisfies w c.low c.high)
    → (fuel : ℕ) (u : ℕ) → u < n → (d (Some u)).rank < fuel → (d (Some u)).value ≤ (d None).value + get_or w u 0
lowest_below cs n d w z meets zero u h less = absurd (omega (arith, less))
lowest_below cs n d w z meets (suc fuel) u h less =
    let x = z.forced u h in let c = (d (Some u)).cause in let xt = x.tight in let xr = x.rank in
    let high : (d c.high.base).value ≡ (d (Some u)).value = ap (λ y. (d y).value) x.high in
    let node : (b : Option ℕ) → c.low.base ≡ b → (d c.low.base).value ≤ (d None).value + node_value w c.low.base = λ b is. elim b as (λ y. c.low.base ≡ y → (d c.low.base).value ≤ (d None).value + node_value w c.low.base) [
      | None ↦ (λ e. let a : (d c.low.base).value ≡ (d None).value = ap (λ y. (d y).value) e in omega (arith, a))
      | Some k ↦ (λ e.
          let r : (d (Some k)).rank ≡ (d c.low.base).rank = ap (λ y. (d y).rank) (sym e) in
          let l : k < n = subst (IsVariableBelow n) e x.below in
          let i = lowest_below cs n d w z meets fuel k l (omega (arith, r, xr, less)) in
          let a : (d c.low.base).value ≡ (d (Some k)).value = ap (λ y. (d y).value) e in let m : node_value w c.low.base ≡ get_or w k 0 = ap (node_value w) e in omega (arith, i, a, m))
    ] is in
    let low = node c.low.base refl in
    ⊎_elim {C = (d (Some u)).value ≤ (d None).value + get_or w u 0}
    (λ k. let m = meets c k in let b : node_value w c.high.base ≡ get_or w u 0 = ap (node_value w) x.high in omega (arith, m, b, low, xt, high))
    (λ k. let a : c.low.plus ≡ 0 = ap (λ (y : Constraint). y.low.plus) k in let b : c.high.plus ≡ 0 = ap (λ (y : Constraint). y.high.plus) k in
    let e : node_value w c.low.base ≡ 0 = ap (λ (y : Constraint). node_value w y.low.base) k in omega (arith, a, b, e, low, xt, high)) x.known

pub meets : (v : Assignment) (cs : List Constraint) → SatisfiesAll v (pairs_of cs) → (c : Constraint) → Contains cs c → Satisfies v c.low c.high
meets v [] all c h = absurd (contains_none c h)
meets v (x ∷ cs) all c h = ⊎_elim {C = Satisfies v c.low c.high} (λ e. subst (λ (z : Constraint). Satisfies v z.low z.high) (sym e) all.0) (λ k. meets v cs all.1 c k) (contains_cases x cs c h)

pub satisfies : (v : Assignment) (cs : List Constraint) → ((c : Constraint) → Contains cs c → Satisfies v c.low c.high) → SatisfiesAll v (pairs_of cs)
satisfies v [] m = tt
satisfies v (x ∷ cs) m = (m x (contains_head x cs), satisfies v cs (λ c h. m c (contains_tail x cs c h)))

-- the values of the variables above that of the zero node
module _ (cs : List Constraint) (n : ℕ) (d : Option ℕ → Reached) (z : IsLowest cs n d) (below : HasVariablesBelow n cs) (xs : List ℕ) (len : length xs ≡ n)
    (values : (u : ℕ) → u < n → get_or xs u 0 + (d None).value ≡ (d (Some u)).value) where
  pub node_is : (w : Option ℕ) → IsVariableBelow n w → node_value xs w + (d None).value ≡ (d w).value
  node_is None h = omega arith
  node_is (Some u) h = values u h

  pub least_values : IsLeast cs xs
  least_values = record {
    satisfies = satisfies xs cs (λ c h. let k = z.holds c h in let b = low_variable n cs c below h in let x = node_is c.low.base b.0 in let y = node_is c.high.base b.1 in omega (arith, k, x, y));
    least = λ w all u. ⊎_elim {C = get_or xs u 0 ≤ get_or w u 0}
        (λ l. let a = values u l in let k = lowest_below cs n d w z (meets w cs all) ((d (Some u)).rank + 1) u l (omega arith) in omega (arith, a, k))
        (λ g. let e = get_or_past xs u 0 (omega (arith, g, len)) in omega (arith, e)) (cases_lt u n);
  }
