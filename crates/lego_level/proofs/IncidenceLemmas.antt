-- The constraints at a node.
use Rattle.std.proofs.Common.{◌≡◌, ℕ, nat_eq, ◌≤◌, true, false, cond, Option, Some, None, List, [], ◌∷◌, ◌++◌, length, Contains, Result, Ok, Err, refl, sym, ap, ◌∙◌, ⊎_elim, arith, subst}
use Rattle.std.specs.Result.{OnOk, is_err}
use Rattle.std.proofs.lemmas.Bool.Decides.{nat_tests}
use Rattle.lego_level.specs.declared.constraint.Constraint.{Constraint}
use Rattle.lego_level.specs.declared.direction.Direction.{Direction}
use Rattle.lego_level.specs.declared.edges.Adjacency.{Adjacency}
use Rattle.lego_level.specs.private.Adjacency.{adjacent_at}
use Rattle.lego_level.specs.Graphs.{IsVariableBelow, HasVariablesBelow}
use Rattle.lego_level.specs.private.Incidence.{near_of, is_node, incident}
use Rattle.lego_level.proofs.MemberLemmas.{contains_none, contains_cases, contains_head, contains_tail}
use Rattle.lego_level.proofs.SearchLemmas.{bool_cases, node_cases}

pub node_is : (u w : Option ℕ) → is_node u w ≡ true → w ≡ u
node_is None None h = refl
node_is None (Some w) h = absurd (cc)
node_is (Some u) None h = absurd (cc)
node_is (Some u) (Some w) h = let e : w ≡ u = grind (arith, nat_tests) in ap Some e

pub is_the_node : (u w : Option ℕ) → w ≡ u → is_node u w ≡ true
is_the_node None w h = ap (is_node None) h
is_the_node (Some u) w h = let t : nat_eq u u ≡ true = grind (arith, nat_tests) in ap (is_node (Some u)) h ∙ t

pub not_the_node : (u w : Option ℕ) → (w ≡ u → ⊥) → is_node u w ≡ false
not_the_node u w ne = ⊎_elim {C = is_node u w ≡ false} (λ k. k) (λ k. absurd (ne (node_is u w k))) (bool_cases (is_node u w))

module _ (way : Direction) (u : Option ℕ) where
  pub incident_member : (cs : List Constraint) (c : Constraint) → Contains (incident way u cs) c → Contains cs c × (near_of way c ≡ u)
  incident_member [] c h = absurd (contains_none c h)
  incident_member (x ∷ cs) c h = ⊎_elim {C = Contains (x ∷ cs) c × (near_of way c ≡ u)}
      (λ f. let h' : Contains (incident way u cs) c = subst (λ b. Contains (cond b (x ∷ incident way u cs) (incident way u cs)) c) f h in
      let r = incident_member cs c h' in (contains_tail x cs c r.0, r.1))
      (λ t. let h' : Contains (x ∷ incident way u cs) c = subst (λ b. Contains (cond b (x ∷ incident way u cs) (incident way u cs)) c) t h in
      ⊎_elim {C = Contains (x ∷ cs) c × (near_of way c ≡ u)}
      (λ e. (subst (λ z. Contains (x ∷ cs) z) (sym e) (contains_head x cs), ap (near_of way) e ∙ node_is u (near_of way x) t))
      (λ k. let r = incident_member cs c k in (contains_tail x cs c r.0, r.1)) (contains_cases x (incident way u cs) c h'))
      (bool_cases (is_node u (near_of way x)))

  pub member_incident : (cs : List Constraint) (c : Constraint) → Contains cs c → near_of way c ≡ u → Contains (incident way u cs) c
  member_incident [] c h e = absurd (contains_none c h)
  member_incident (x ∷ cs) c h e = ⊎_elim {C = Contains (incident way u (x ∷ cs)) c}
      (λ t. subst (λ b. Contains (cond b (x ∷ incident way u cs) (incident way u cs)) c) (sym t)
      (⊎_elim {C = Contains (incident way u cs) c} (λ k. absurd (let y : is_node u (near_of way x) ≡ true = is_the_node u (near_of way x) (ap (near_of way) (sym k) ∙ e) in let z : true ≡ false = sym y ∙ t in cc)) (λ k. member_incident cs c k e) (contains_cases x cs c h)))
      (λ t. subst (λ b. Contains (cond b (x ∷ incident way u cs) (incident way u cs)) c) (sym t)
      (⊎_elim {C = Contains (x ∷ incident way u cs) c} (λ k. subst (λ z. Contains (x ∷ incident way u cs) z) (sym k) (contains_head x (incident way u cs))) (λ k. contains_tail x (incident way u cs) c (member_incident cs c k e)) (contains_cases x cs c h)))
      (bool_cases (is_node u (near_of way x)))

  pub length_incident : (cs : List Constraint) → length (incident way u cs) ≤ length cs
  length_incident [] = omega arith
  length_incident (x ∷ cs) = let r = length_incident cs in ⊎_elim {C = length (incident way u (x ∷ cs)) ≤ length (x ∷ cs)}
      (λ t. let k : length (incident way u (x ∷ cs)) ≡ length (incident way u cs) = ap (λ b. length (cond b (x ∷ incident way u cs) (incident way u cs))) t in omega (arith, k, r))
      (λ t. let k : length (incident way u (x ∷ cs)) ≡ length (x ∷ incident way u cs) = ap (λ b. length (cond b (x ∷ incident way u cs) (incident way u cs))) t in omega (arith, k, r)) (bool_cases (is_node u (near_of way x)))

  -- one constraint more
  pub incident_here : (cs : List Constraint) (c : Constraint) → near_of way c ≡ u → incident way u (cs ++ c ∷ []) ≡ incident way u cs ++ c ∷ []
  incident_here [] c e = ap (λ b. cond b (c ∷ []) []) (is_the_node u (near_of way c) e)
  incident_here (x ∷ cs) c e = let r = incident_here cs c e in ⊎_elim {C = incident way u (x ∷ (cs ++ c ∷ [])) ≡ incident way u (x ∷ cs) ++ c ∷ []}
      (λ t. ap (λ b. cond b (x ∷ incident way u (cs ++ c ∷ [])) (incident way u (cs ++ c ∷ []))) t ∙ (r ∙ sym (ap (λ b. cond b (x ∷ incident way u cs) (incident way u cs) ++ c ∷ []) t)))
      (λ t. ap (λ b. cond b (x ∷ incident way u (cs ++ c ∷ [])) (incident way u (cs ++ c ∷ []))) t ∙ (ap (λ ys. x ∷ ys) r ∙ sym (ap (λ b. cond b (x ∷ incident way u cs) (incident way u cs) ++ c ∷ []) t))) (bool_cases (is_node u (near_of way x)))

  pub incident_elsewhere : (cs : List Constraint) (c : Constraint) → (near_of way c ≡ u → ⊥) → incident way u (cs ++ c ∷ []) ≡ incident way u cs
  incident_elsewhere [] c ne = ap (λ b. cond b (c ∷ []) []) (not_the_node u (near_of way c) ne)
  incident_elsewhere (x ∷ cs) c ne = let r = incident_elsewhere cs c ne in ⊎_elim {C = incident way u (x ∷ (cs ++ c ∷ [])) ≡ incident way u (x ∷ cs)}
      (λ t. ap (λ b. cond b (x ∷ incident way u (cs ++ c ∷ [])) (incident way u (cs ++ c ∷ []))) t ∙ (r ∙ sym (ap (λ b. cond b (x ∷ incident way u cs) (incident way u cs)) t)))
      (λ t. ap (λ b. cond b (x ∷ incident way u (cs ++ c ∷ [])) (incident way u (cs ++ c ∷ []))) t ∙ (ap (λ ys. x ∷ ys) r ∙ sym (ap (λ b. cond b (x ∷ incident way u cs) (incident way u cs)) t))) (bool_cases (is_node u (near_of way x)))

-- a constraint is kept at its node
pub adjacent_push : (way : Direction) (a a' : Adjacency) (cs cs' : List Constraint) (c : Constraint) (w : Option ℕ) → near_of way c ≡ w → cs' ≡ cs ++ c ∷ [] → ((u : Option ℕ) → adjacent_at a u ≡ incident way u cs)
    → adjacent_at a' w ≡ adjacent_at a w ++ c ∷ [] → ((u : Option ℕ) → (u ≡ w → ⊥) → adjacent_at a' u ≡ adjacent_at a u) → (u : Option ℕ) → adjacent_at a' u ≡ incident way u cs'
adjacent_push way a a' cs cs' c w near is all at other u = ⊎_elim {C = adjacent_at a' u ≡ incident way u cs'}
    (λ e. subst (λ z. adjacent_at a' z ≡ incident way z cs') (sym e) (at ∙ (ap (λ z. z ++ c ∷ []) (all w) ∙ (sym (incident_here way w cs c near) ∙ ap (incident way w) (sym is)))))
    (λ ne. other u ne ∙ (all u ∙ (sym (incident_elsewhere way u cs c (λ k. ne (sym k ∙ near))) ∙ ap (incident way u) (sym is)))) (node_cases u w)

pub variable_wider : (n m : ℕ) (w : Option ℕ) → n ≤ m → IsVariableBelow n w → IsVariableBelow m w
variable_wider n m None l h = tt
variable_wider n m (Some u) l h = omega (arith, l, h)

variables_more : (n m : ℕ) (cs : List Constraint) (c : Constraint) → n ≤ m → HasVariablesBelow n cs → IsVariableBelow m c.low.base → IsVariableBelow m c.high.base → HasVariablesBelow m (cs ++ c ∷ [])
variables_more n m [] c l all a b = ((a, b), tt)
variables_more n m (x ∷ cs) c l all a b = ((variable_wider n m x.low.base l all.0.0, variable_wider n m x.high.base l all.0.1), variables_more n m cs c l all.1 a b)

pub variables_push : (n k m : ℕ) (cs cs' : List Constraint) (c : Constraint) → n ≤ k → k ≤ m → HasVariablesBelow n cs → IsVariableBelow k c.low.base → IsVariableBelow m c.high.base → cs' ≡ cs ++ c ∷ [] → HasVariablesBelow m cs'
variables_push n k m cs cs' c l j all a b is = subst (HasVariablesBelow m) (sym is) (variables_more n m cs c (omega (arith, l, j)) all (variable_wider k m c.low.base j a) b)

pub not_err : {T E P : Type 0} (r : Result T E) → false ≡ is_err r → OnOk r P → P
not_err (Ok x) h p = p
not_err (Err e) h p = absurd (cc)
