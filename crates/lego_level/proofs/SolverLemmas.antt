-- The loops over what a search reached, and over the variables.
use Rattle.std.proofs.Common.{◌≡◌, ℕ, ◌+◌, ◌-◌, ◌<◌, ◌≤◌, ◌⊎◌, Option, Some, None, List, [], ◌∷◌, ◌++◌, length, get_or, take, drop, map, Contains, refl, sym, ap, ◌∙◌, inl, inr, ⊎_elim, arith, subst}
use Rattle.std.specs.List.{range_with_len}
use Rattle.std.proofs.lemmas.Bool.{cases_eq, cases_lt}
use Rattle.std.proofs.lemmas.List.{drop_more, take_more, get_or_append_left, get_or_push, get_or_past, take-append-drop, nil_from_length, drop_all}
use Rattle.std.proofs.lemmas.List.Elements.{Contains-get_or, Contains-append_left}
use Rattle.std.proofs.lemmas.List.FromFn.{length-map-range_with_len, get_or-map-range_with_len}
use Rattle.lego_term.specs.Levels.{Assignment, node_value}
use Rattle.lego_level.specs.Limits.{MAX_VALUE}
use Rattle.lego_level.specs.declared.constraint.Constraint.{Constraint}
use Rattle.lego_level.specs.declared.draft.Reached.{Reached}
use Rattle.lego_level.specs.declared.draft.Draft.{Draft}
use Rattle.lego_level.specs.Graphs.{implied, IsKnown, IsVariableBelow, HasVariablesBelow, CanBeSatisfiedWithin}
use Rattle.lego_level.specs.private.Potentials.{IsFeasible}
use Rattle.lego_level.specs.private.Searches.{blank, found_at, reached_or, reached_at, moved_to, IsTouched}
use Rattle.lego_level.proofs.DraftLemmas.{option_cases}
use Rattle.lego_level.proofs.LeastLemmas.{low_variable, satisfies}
use Rattle.lego_level.proofs.MemberLemmas.{contains_none, contains_cases}
use Rattle.lego_level.proofs.MendLemmas.{moved_zero, moved_value}
use Rattle.lego_level.proofs.SearchLemmas.{node_cases}

-- what is left to move
abbrev pub IsMoving : (Option ℕ → ℕ) → (Option ℕ → ℕ) → (Option ℕ → Reached) → List (Option ℕ) → Option ℕ → Type 0
IsMoving v m d rest u = (m u ≡ moved_to v d u) ⊎ ((m u ≡ v u) × Contains rest u)

pub moving_first : (v : Option ℕ → ℕ) (d : Draft) → IsTouched d → (u : Option ℕ) → IsMoving v v (reached_at d) d.touched.items u
moving_first v d touched u = ⊎_elim {C = IsMoving v v (reached_at d) d.touched.items u}
    (λ n. let g : (reached_at d u).gain ≡ 0 = ap (λ o. (reached_or o).gain) n in inl (sym (moved_zero v (reached_at d) u g)))
    (λ z. inr (refl, touched u z.0 z.1)) (option_cases (found_at d u))

-- a node is moved
pub moving_moved : (v m m' : Option ℕ → ℕ) (d : Option ℕ → Reached) (rest rest' : List (Option ℕ)) (w : Option ℕ) → rest ≡ w ∷ rest' → 0 < (d w).gain → m' w ≡ (d w).value
    → ((u : Option ℕ) → (u ≡ w → ⊥) → m' u ≡ m u) → ((u : Option ℕ) → IsMoving v m d rest u) → (u : Option ℕ) → IsMoving v m' d rest' u
moving_moved v m m' d rest rest' w is pos at other all u = ⊎_elim {C = IsMoving v m' d rest' u}
    (λ e. inl (subst (λ y. m' y ≡ moved_to v d y) (sym e) (at ∙ sym (moved_value v d w (λ z. absurd (omega (arith, z, pos)))))))
    (λ ne. ⊎_elim {C = IsMoving v m' d rest' u} (λ k. inl (other u ne ∙ k))
    (λ k. inr (other u ne ∙ k.0, ⊎_elim {C = Contains rest' u} (λ e. absurd (ne e)) (λ y. y) (contains_cases w rest' u (subst (λ z. Contains z u) is k.1)))) (all u)) (node_cases u w)

-- a node that has no gain stays
pub moving_stays : (v m : Option ℕ → ℕ) (d : Option ℕ → Reached) (rest rest' : List (Option ℕ)) (w : Option ℕ) → rest ≡ w ∷ rest' → (d w).gain ≡ 0
    → ((u : Option ℕ) → IsMoving v m d rest u) → (u : Option ℕ) → IsMoving v m d rest' u
moving_stays v m d rest rest' w is none all u = ⊎_elim {C = IsMoving v m d rest' u} (λ k. inl k)
    (λ k. ⊎_elim {C = IsMoving v m d rest' u}
    (λ e. inl (k.0 ∙ sym (moved_zero v d u (ap (λ y. (d y).gain) e ∙ none))))
    (λ y. inr (k.0, y)) (contains_cases w rest' u (subst (λ z. Contains z u) is k.1))) (all u)

pub moving_last : (v m : Option ℕ → ℕ) (d : Option ℕ → Reached) (rest : List (Option ℕ)) → rest ≡ [] → ((u : Option ℕ) → IsMoving v m d rest u) → (u : Option ℕ) → m u ≡ moved_to v d u
moving_last v m d rest none all u = ⊎_elim {C = m u ≡ moved_to v d u} (λ k. k) (λ k. absurd (contains_none u (subst (λ z. Contains z u) none k.1))) (all u)

-- the item of a turn, and the rest
pub item_parts : {X : Type 0} (R L : List X) (i : ℕ) (d : X) → R ≡ L → i < length R → (drop i L ≡ get_or R i d ∷ drop (i + 1) L) × Contains L (get_or R i d) × (take (i + 1) L ≡ take i L ++ get_or R i d ∷ [])
item_parts R L i d is h =
    let h' : i < length L = subst (λ z. i < length z) is h in (
      drop_more L i d h' ∙ ap (λ z. get_or z i d ∷ drop (i + 1) L) (sym is),
      subst (λ z. Contains L (get_or z i d)) (sym is) (Contains-get_or L i d h'),
      take_more L i d h' ∙ ap (λ z. take i L ++ get_or z i d ∷ []) (sym is),
    )

-- a value is pushed
pub values_more : (xs ys : List ℕ) (n x base : ℕ) (f : ℕ → ℕ) → ys ≡ xs ++ x ∷ [] → length xs ≡ n → x + base ≡ f n → ((u : ℕ) → u < n → get_or xs u 0 + base ≡ f u) → (u : ℕ) → u < n + 1 → get_or ys u 0 + base ≡ f u
values_more xs ys n x base f is len here all u h = ⊎_elim {C = get_or ys u 0 + base ≡ f u}
    (λ e. let k : get_or ys u 0 ≡ x = ap (λ z. get_or z u 0) is ∙ get_or_push xs x 0 u (len ∙ sym e) in let m : f u ≡ f n = ap f e in omega (arith, k, here, m))
    (λ ne. let l : u < n = omega (arith, h, ne) in let a = all u l in let k : get_or ys u 0 ≡ get_or xs u 0 = ap (λ z. get_or z u 0) is ∙ get_or_append_left xs (x ∷ []) 0 u (omega (arith, l, len)) in omega (arith, a, k)) (cases_eq u n)

-- values within the limit above the zero node
module _ (v : Option ℕ → ℕ) (n : ℕ) (cs : List Constraint) (feasible : IsFeasible v cs) (below : HasVariablesBelow n cs) (within : (u : ℕ) → v (Some u) ≤ v None + MAX_VALUE) where
  abbrev height : ℕ → ℕ
  height u = v (Some u) - v None

  abbrev assigned : Assignment
  assigned = map height (range_with_len 0 n)

  assigned_at : (u : ℕ) → u < n → get_or assigned u 0 + v None ≡ v (Some u)
  assigned_at u h = let e = get_or-map-range_with_len height 0 n u u 0 h (omega arith) in let k = feasible (implied u) (inr (u, refl)) in omega (arith, e, k)

  node_at : (w : Option ℕ) → IsVariableBelow n w → node_value assigned w + v None ≡ v w
  node_at None h = omega arith
  node_at (Some u) h = assigned_at u h

  assigned_within : (u : ℕ) → get_or assigned u 0 ≤ MAX_VALUE
  assigned_within u = ⊎_elim {C = get_or (map height (range_with_len 0 n)) u 0 ≤ MAX_VALUE}
      (λ l. let a = assigned_at u l in let k = within u in omega (arith, a, k))
      (λ g. let len = length-map-range_with_len height 0 n in let e = get_or_past (map height (range_with_len 0 n)) u 0 (omega (arith, len, g)) in omega (arith, e)) (cases_lt u n)

  pub satisfied_within : CanBeSatisfiedWithin cs
  satisfied_within = (
    assigned,
    satisfies assigned cs (λ c h. let k = feasible c (inl h) in let b = low_variable n cs c below h in let x = node_at c.low.base b.0 in let y = node_at c.high.base b.1 in omega (arith, k, x, y)),
    assigned_within,
  )

-- a prefix of the constraints
pub popped : (old new : List Constraint) → (old ≡ [] → new ≡ []) → ((cs : List Constraint) (c : Constraint) → old ≡ cs ++ c ∷ [] → new ≡ cs) → new ≡ take (length old - 1) old
popped old new none some = ⊎_elim {C = new ≡ take (length old - 1) old}
    (λ e. let n : old ≡ [] = nil_from_length old e in none n ∙ subst (λ z. [] ≡ take (length z - 1) z) (sym n) refl)
    (λ ne. let k = length old - 1 in
    let more = drop_more old k blank (omega (arith, ne)) in
    let last : drop (k + 1) old ≡ [] = drop_all (k + 1) old (omega (arith, ne)) in
    some (take k old) (get_or old k blank) (sym (take-append-drop k old) ∙ ap (λ z. take k old ++ z) (more ∙ ap (λ z. get_or old k blank ∷ z) last))) (cases_eq (length old) 0)

pub feasible_front : (v : Option ℕ → ℕ) (n : ℕ) (cs new : List Constraint) → new ≡ take n cs → IsFeasible v cs → IsFeasible v new
feasible_front v n cs new is feasible c known = feasible c (⊎_elim {C = IsKnown cs c}
    (λ h. inl (subst (λ z. Contains z c) (take-append-drop n cs) (Contains-append_left (take n cs) (drop n cs) c (subst (λ z. Contains z c) is h)))) (λ z. inr z) known)
