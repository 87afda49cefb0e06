-- What the solver's answers mean.
use Rattle.std.proofs.Common.{◌≡◌, ℕ, ◌+◌, ◌-◌, ◌<◌, ◌≤◌, Option, Some, None, Result, Ok, Err, Vec, Global, List, [], ◌∷◌, ◌++◌, length, get_or, map, Contains, refl, sym, ap, inl, inr, ⊎_elim, arith, subst}
use Rattle.std.specs.List.{range_with_len}
use Rattle.std.specs.Result.{IfOk}
use Rattle.std.specs.declared.alloc.AllocError.{AllocError}
use Rattle.std.proofs.lemmas.List.Elements.{Contains-push_cases, Contains-push, Contains-append_left}
use Rattle.std.proofs.lemmas.List.FromFn.{length-map-range_with_len, get_or-map-range_with_len}
use Rattle.std.proofs.lemmas.List.Sums.{sum_by-cons}
use Rattle.lego_level.specs.Limits.{MAX_VALUE}
use Rattle.lego_level.specs.declared.constraint.Constraint.{Constraint}
use Rattle.lego_level.specs.declared.draft.Reached.{Reached}
use Rattle.lego_level.specs.declared.potential.Potential.{Potential}
use Rattle.lego_level.specs.declared.solver.Settled.TheVariants.{Within, Over}
use Rattle.lego_level.specs.Graphs.{implied, IsKnown, IsLeast, Forces, IsClosedWalk, IsCycle, IsVariableBelow, HasVariablesBelow, CanBeSatisfied, CanBeSatisfiedWithin}
use Rattle.lego_level.specs.private.Lowest.{IsLowest}
use Rattle.lego_level.specs.private.Outcomes.{IsSettled}
use Rattle.lego_level.specs.private.Potentials.{value_at, low_of, high_of, IsFeasible, IsBelowTop}
use Rattle.lego_level.proofs.CycleLemmas.{cycle_excludes}
use Rattle.lego_level.proofs.ForcedLemmas.{forces_value}
use Rattle.lego_level.proofs.LeastLemmas.{low_variable, meets, least_values}
use Rattle.lego_level.proofs.MemberLemmas.{contains_none, contains_cases, contains_head, contains_tail}
use Rattle.lego_level.proofs.PotentialLemmas.{value_zero}
use Rattle.lego_level.proofs.SolverLemmas.{satisfied_within}

known_last : (es : List Constraint) (e c : Constraint) → IsKnown (e ∷ es) c → IsKnown (es ++ e ∷ []) c
known_last es e c h = ⊎_elim {C = IsKnown (es ++ e ∷ []) c}
    (λ k. inl (⊎_elim {C = Contains (es ++ e ∷ []) c} (λ is. subst (λ z. Contains (es ++ e ∷ []) z) (sym is) (Contains-push es e)) (λ y. Contains-append_left es (e ∷ []) c y) (contains_cases e es c k)))
    (λ z. inr z) h

last_known : (es : List Constraint) (e c : Constraint) → IsKnown (es ++ e ∷ []) c → IsKnown (e ∷ es) c
last_known es e c h = ⊎_elim {C = IsKnown (e ∷ es) c}
    (λ k. inl (⊎_elim {C = Contains (e ∷ es) c} (λ y. contains_tail e es c y) (λ is. subst (λ z. Contains (e ∷ es) z) is (contains_head e es)) (Contains-push_cases es e c k)))
    (λ z. inr z) h

-- a cycle refuses the added constraint
pub refuses : (es : List Constraint) (e : Constraint) (from : Option ℕ) (cycle : List Constraint) → IsClosedWalk from cycle → ((c : Constraint) → Contains cycle c → IsKnown (e ∷ es) c)
    → IsCycle (es ++ e ∷ []) cycle × (CanBeSatisfied (es ++ e ∷ []) → ⊥)
refuses es e from cycle walk known =
    let all : (c : Constraint) → Contains cycle c → IsKnown (es ++ e ∷ []) c = λ c h. known_last es e c (known c h) in
    (record { from = from; walk = walk; known = all }, λ s. cycle_excludes s.0 from cycle (es ++ e ∷ []) walk all (meets s.0 (es ++ e ∷ []) s.1))

-- a constraint between one node and itself
pub refuses_alone : (v : Option ℕ → ℕ) (es : List Constraint) (e : Constraint) → high_of v e < low_of v e → e.low.base ≡ e.high.base → IsCycle (es ++ e ∷ []) (e ∷ []) × (CanBeSatisfied (es ++ e ∷ []) → ⊥)
refuses_alone v es e over same =
    let k : v e.low.base ≡ v e.high.base = ap v same in
    let h = sum_by-cons (λ (y : Constraint). y.high.plus) e [] in let l = sum_by-cons (λ (y : Constraint). y.low.plus) e [] in
    refuses es e e.low.base (e ∷ []) (record { closed = (refl, sym same); once = (tt, tt); positive = omega (arith, over, k, h, l) })
    (λ c m. ⊎_elim {C = IsKnown (e ∷ es) c} (λ is. subst (λ z. IsKnown (e ∷ es) z) (sym is) (inl (contains_head e es))) (λ n. absurd (contains_none c n)) (contains_cases e [] c m))

pub feasible_last : (v : Option ℕ → ℕ) (es es' : List Constraint) (e : Constraint) → es' ≡ es ++ e ∷ [] → IsFeasible v (e ∷ es) → IsFeasible v es'
feasible_last v es es' e is feasible c known = feasible c (last_known es e c (subst (λ z. IsKnown z c) is known))

-- a constraint that the values satisfy
pub feasible_with : (v : Option ℕ → ℕ) (es : List Constraint) (e : Constraint) → IsFeasible v es → low_of v e ≤ high_of v e → IsFeasible v (e ∷ es)
feasible_with v es e feasible holds c known =
    ⊎_elim {C = low_of v c ≤ high_of v c}
    (λ k. ⊎_elim {C = low_of v c ≤ high_of v c} (λ is. subst (λ z. low_of v z ≤ high_of v z) (sym is) holds) (λ h. feasible c (inl h)) (contains_cases e es c k))
    (λ i. feasible c (inr i)) known

pub zero_below_top : (p : Potential) (cs : List Constraint) → IsFeasible (value_at p) cs → IsBelowTop p → p.zero ≤ p.top
zero_below_top p cs feasible top = let k = feasible (implied 0) (inr (0, refl)) in let t = top 0 in let z = value_zero p None refl in omega (arith, k, t, z)

-- a narrow potential
pub narrow : (p : Potential) (n : ℕ) (cs : List Constraint) → IsFeasible (value_at p) cs → IsBelowTop p → HasVariablesBelow n cs → p.top - p.zero ≤ MAX_VALUE → CanBeSatisfiedWithin cs
narrow p n cs feasible top below h = satisfied_within (value_at p) n cs feasible below (λ u. let t = top u in let z = value_zero p None refl in let l = zero_below_top p cs feasible top in omega (arith, t, z, l, h))

pub least_result : (cs : List Constraint) (n : ℕ) (d : Option ℕ → Reached) → IsLowest cs n d → HasVariablesBelow n cs → (r : Result (Vec ℕ Global) AllocError) → IfOk r (λ xs. length xs.items ≡ n)
    → IfOk r (λ xs. (u : ℕ) → u < n → get_or xs.items u 0 + (d None).value ≡ (d (Some u)).value) → IfOk r (λ xs. IsLeast cs xs.items)
least_result cs n d z below (Ok xs) len values = least_values cs n d z below xs.items len values
least_result cs n d z below (Err e) len values = tt

-- least values, laid out
pub laid_out : (cs : List Constraint) (n limit : ℕ) (d : Option ℕ → Reached) (p : Potential) → IsLowest cs n d → HasVariablesBelow n cs → IsSettled n limit d (Within p) → IsFeasible (value_at p) cs
laid_out cs n limit d p z below s c known =
    let node : (w : Option ℕ) → IsVariableBelow n w → value_at p w + (d None).value ≡ value_at p None + (d w).value = node_out in
    ⊎_elim {C = low_of (value_at p) c ≤ high_of (value_at p) c}
    (λ h. let k = z.holds c h in let b = low_variable n cs c below h in let x = node c.low.base b.0 in let y = node c.high.base b.1 in omega (arith, k, x, y))
    (λ i. let k = s.1 i.0 in subst (λ x. low_of (value_at p) x ≤ high_of (value_at p) x) (sym i.1) (omega (arith, k))) known
  where
    node_out : (w : Option ℕ) → IsVariableBelow n w → value_at p w + (d None).value ≡ value_at p None + (d w).value
    node_out None h = refl
    node_out (Some u) h = s.0 u h

pub laid_out_within : (cs : List Constraint) (n : ℕ) (d : Option ℕ → Reached) (p : Potential) → IsLowest cs n d → HasVariablesBelow n cs → IsSettled n MAX_VALUE d (Within p) → CanBeSatisfiedWithin cs
laid_out_within cs n d p z below s = satisfied_within (value_at p) n cs (laid_out cs n MAX_VALUE d p z below s) below s.2

-- a least value over the limit
pub forces_over : (cs : List Constraint) (n : ℕ) (d : Option ℕ → Reached) (c : Constraint) (needed : ℕ) → IsLowest cs n d → HasVariablesBelow n cs → IsSettled n MAX_VALUE d (Over c needed) → Forces cs c needed
forces_over cs n d c needed z below s =
    let f : ℕ → ℕ = λ u. (d (Some u)).value - (d None).value in let xs = map f (range_with_len 0 n) in
    let at : (u : ℕ) → u < n → get_or xs u 0 ≡ (d (Some u)).value - (d None).value = λ u h. get_or-map-range_with_len f 0 n u u 0 h (omega arith) in
    let values : (u : ℕ) → u < n → get_or xs u 0 + (d None).value ≡ (d (Some u)).value = λ u h. let a = at u h in let b = z.above u h in omega (arith, a, b) in
    let u = s.0 in let is : get_or xs u 0 ≡ needed = let a = at u s.1 in let b = s.3 in omega (arith, a, b) in
    let over = s.4 in
    subst (λ x. Forces cs x needed) s.2 (subst (λ x. Forces cs (d (Some u)).cause x) is (forces_value cs n d z below xs (length-map-range_with_len f 0 n) values u s.1 (omega (arith, is, over))))
