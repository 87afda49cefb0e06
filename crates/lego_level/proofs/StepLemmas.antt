-- The steps of the loops of a search.
use Rattle.std.proofs.Common.{◌≡◌, ℕ, ◌+◌, ◌<◌, ◌≤◌, ◌⊎◌, true, false, Option, Some, None, List, [], ◌∷◌, length, get_or, drop, Contains, refl, sym, ap, ◌∙◌, inl, inr, ⊎_elim, arith, subst}
use Rattle.std.proofs.lemmas.Bool.{cases_eq}
use Rattle.std.proofs.lemmas.List.{drop_more}
use Rattle.std.proofs.lemmas.List.Elements.{Contains-get_or}
use Rattle.lego_level.specs.declared.constraint.Constraint.{Constraint}
use Rattle.lego_level.specs.declared.direction.Direction.TheVariants.{Up, Down}
use Rattle.lego_level.specs.declared.draft.Reached.{Reached}
use Rattle.lego_level.specs.declared.search.Task.{Task}
use Rattle.lego_level.specs.declared.search.Search.{Search}
use Rattle.lego_level.specs.Graphs.{implied}
use Rattle.lego_level.specs.private.Incidence.{near_of, incident}
use Rattle.lego_level.specs.private.Potentials.{IsFeasible}
use Rattle.lego_level.specs.private.Searches.{reached_at, IsEdge, IsScanned, Grown, IsAt, IsImpliedAt, Scans, Searches, Stops, Visited, SameDone}
use Rattle.lego_level.proofs.IncidenceLemmas.{incident_member, member_incident}
use Rattle.lego_level.proofs.MemberLemmas.{contains_none, contains_cases}
use Rattle.lego_level.proofs.SearchLemmas.{edge_known, true_false, passes, pushes, stopped, retodo}

pub listed_at : Task → List Constraint → Option ℕ → ℕ → Constraint → Type 0
listed_at t cs w i c = Contains (drop i (incident t.direction w cs)) c ⊎ IsImpliedAt t w c

module _ (t : Task) (v : Option ℕ → ℕ) (cs : List Constraint) where
  -- a look that does not stop the search
  pub scan_visit : (s n : Search) (w : Option ℕ) (from : Reached) (todo todo' : Constraint → Type 0) (c : Constraint) → IsFeasible v cs → Scans t v cs s w from todo → ((x : Constraint) → IsEdge t cs x → todo x → (x ≡ c) ⊎ todo' x)
      → IsEdge t cs c → near_of t.direction c ≡ w → Visited t v c from s n false → Scans t v cs n w from todo' × SameDone s n × (length n.queue ≤ length s.queue + 1)
  scan_visit s n w from todo todo' c feasible z rest edge near visit =
      let Goal : Search → Type 0 = λ y. Scans t v cs y w from todo' × SameDone s y × (length y.queue ≤ length s.queue + 1) in
      ⊎_elim {C = Goal n}
      (λ p. subst Goal (sym p.same) (passes t v cs s w from todo todo' c z rest near p.fine, (λ u. refl), omega arith))
      (λ p. let x = pushes t v cs s n w from todo todo' c z rest edge near (feasible c (edge_known t cs c edge)) p in let k = p.put.waiting in (x.0, x.1, omega (arith, k))) visit

  pub close_visit : (s n : Search) (w : Option ℕ) (from : Reached) (todo : Constraint → Type 0) (c : Constraint) → Scans t v cs s w from todo → IsEdge t cs c → near_of t.direction c ≡ w → Visited t v c from s n true → Stops t v cs n c
  close_visit s n w from todo c z edge near visit = subst (λ y. Stops t v cs y c) (sym visit.same) (stopped t v cs s w from todo c z edge near visit.stop visit.over)

  pub searches_of : (s : Search) (w : Option ℕ) (from : Reached) (todo : Constraint → Type 0) → Scans t v cs s w from todo → ((c : Constraint) → IsEdge t cs c → todo c → ⊥) → Searches t v cs s
  searches_of s w from todo z none = let x = retodo t v cs s w from todo (λ c. ⊥) z none in record { top = from.gain; touched = x.touched; grown = x.grown; edges = x.edges }

  -- a pair whose node was looked at before
  pub skips : (s n : Search) (g : ℕ) (w : Option ℕ) → Searches t v cs s → n.draft ≡ s.draft → (reached_at s.draft w).done ≡ true
      → ((x : ℕ × Option ℕ) → Contains s.queue x → (x ≡ (g, w)) ⊎ Contains n.queue x) → ((x : ℕ × Option ℕ) → Contains n.queue x → Contains s.queue x) → Searches t v cs n
  skips s n g w z same done keeps only =
      let d = reached_at s.draft in
      let grown : Grown t v cs d n.queue z.top = record {
        reached = λ u pos. let x = z.grown.reached u pos in record {
          source = x.source;
          moved = x.moved;
          waits = λ h. ⊎_elim {C = Contains n.queue ((d u).gain, u)} (λ e. true_false (d u).done (ap (λ (y : ℕ × Option ℕ). (d y.1).done) e ∙ done) h) (λ k. k) (keeps ((d u).gain, u) (x.waits h));
          passed = x.passed;
          most = x.most;
        };
        done = z.grown.done;
        stops = z.grown.stops;
        queue = λ g' u h. z.grown.queue g' u (only (g', u) h);
        first = z.grown.first;
      } in
      let new : Search = record { draft = s.draft; queue = n.queue; work = n.work } in
      let r : Searches t v cs new = record { top = z.top; touched = z.touched; grown = grown; edges = z.edges } in
      subst (λ y. Searches t v cs (record { draft = y; queue = n.queue; work = n.work })) (sym same) r

-- the constraints at a node, before they are looked at
pub listed_first : (t : Task) (cs : List Constraint) (w : Option ℕ) (c : Constraint) → IsEdge t cs c → IsAt t w c → listed_at t cs w 0 c
unfolding listed_at
listed_first t cs w c edge at = ⊎_elim {C = listed_at t cs w 0 c} (λ k. inl (member_incident t.direction w cs c k at)) (λ z. inr (at, z)) edge

-- the item of a turn, and the rest
pub item_rest : {X : Type 0} (R L : List X) (i : ℕ) (d : X) → R ≡ L → i < length R → (drop i L ≡ get_or R i d ∷ drop (i + 1) L) × Contains L (get_or R i d)
item_rest R L i d is h =
    let h' : i < length L = subst (λ z. i < length z) is h in
    (drop_more L i d h' ∙ ap (λ z. get_or z i d ∷ drop (i + 1) L) (sym is), subst (λ z. Contains L (get_or z i d)) (sym is) (Contains-get_or L i d h'))

pub listed_rest : (t : Task) (cs : List Constraint) (w : Option ℕ) (i : ℕ) (c : Constraint) → drop i (incident t.direction w cs) ≡ c ∷ drop (i + 1) (incident t.direction w cs)
    → (x : Constraint) → IsEdge t cs x → listed_at t cs w i x → (x ≡ c) ⊎ listed_at t cs w (i + 1) x
unfolding listed_at
listed_rest t cs w i c is x edge h = ⊎_elim {C = (x ≡ c) ⊎ listed_at t cs w (i + 1) x}
    (λ k. ⊎_elim {C = (x ≡ c) ⊎ listed_at t cs w (i + 1) x} (λ e. inl e) (λ y. inr (inl y)) (contains_cases c (drop (i + 1) (incident t.direction w cs)) x (subst (λ z. Contains z x) is k)))
    (λ k. inr (inr k)) h

pub listed_last : (t : Task) (cs : List Constraint) (w : Option ℕ) (i : ℕ) (c : Constraint) → drop i (incident t.direction w cs) ≡ [] → IsEdge t cs c → listed_at t cs w i c → IsImpliedAt t w c
unfolding listed_at
listed_last t cs w i c is edge h = ⊎_elim {C = IsImpliedAt t w c} (λ k. absurd (contains_none c (subst (λ z. Contains z c) is k))) (λ k. k) h

pub listed_item : (t : Task) (cs : List Constraint) (w : Option ℕ) (c : Constraint) → Contains (incident t.direction w cs) c → IsEdge t cs c × (near_of t.direction c ≡ w)
listed_item t cs w c h = let m = incident_member t.direction w cs c h in (inl m.0, m.1)

-- the implied constraints from the zero node
pub implied_from : Task → ℕ → Constraint → Type 0
implied_from t i c = (near_of t.direction c ≡ None) × ((u : ℕ) × (c ≡ implied u) × IsScanned t.direction t.count u × (i ≤ u))

pub implied_first : (t : Task) (cs : List Constraint) (c : Constraint) → IsEdge t cs c → IsImpliedAt t None c → implied_from t 0 c
unfolding implied_from
implied_first t cs c edge h = (h.0, (h.1.0, h.1.1, h.1.2, omega arith))

pub implied_rest : (t : Task) (cs : List Constraint) (i : ℕ) (x : Constraint) → IsEdge t cs x → implied_from t i x → (x ≡ implied i) ⊎ implied_from t (i + 1) x
unfolding implied_from
implied_rest t cs i x edge h = ⊎_elim {C = (x ≡ implied i) ⊎ implied_from t (i + 1) x}
    (λ e. inl (h.1.1 ∙ ap implied e)) (λ ne. let l = h.1.3 in inr (h.0, (h.1.0, h.1.1, h.1.2, omega (arith, l, ne)))) (cases_eq h.1.0 i)

pub implied_last : (t : Task) (cs : List Constraint) (i : ℕ) → t.direction ≡ Up → t.count ≤ i → (x : Constraint) → IsEdge t cs x → implied_from t i x → ⊥
unfolding implied_from
implied_last t cs i up past x edge h = let k : h.1.0 < t.count = subst (λ y. IsScanned y t.count h.1.0) up h.1.2 in let l = h.1.3 in absurd (omega (arith, k, l, past))

pub implied_item : (t : Task) (cs : List Constraint) (i : ℕ) → t.direction ≡ Up → i < t.count → IsEdge t cs (implied i) × (near_of t.direction (implied i) ≡ None)
implied_item t cs i up below = (inr (i, refl, subst (λ y. IsScanned y t.count i) (sym up) below), ap (λ y. near_of y (implied i)) up)

some_same : (a b : ℕ) → Some a ≡ Some b → a ≡ b
some_same a b e = cc

-- the implied constraint to a variable, which a search down finds there
pub lower_item : (t : Task) (cs : List Constraint) (w : Option ℕ) (u : ℕ) → t.direction ≡ Down → w ≡ Some u → IsEdge t cs (implied u) × (near_of t.direction (implied u) ≡ w)
lower_item t cs w u down is = (inr (u, refl, subst (λ y. IsScanned y t.count u) (sym down) tt), ap (λ y. near_of y (implied u)) down ∙ sym is)

pub lower_rest : (t : Task) (cs : List Constraint) (w : Option ℕ) (u : ℕ) → t.direction ≡ Down → w ≡ Some u → (x : Constraint) → IsEdge t cs x → IsImpliedAt t w x → (x ≡ implied u) ⊎ ⊥
lower_rest t cs w u down is x edge h =
    let k : Some h.1.0 ≡ Some u = sym (ap (λ y. near_of y (implied h.1.0)) down) ∙ (ap (near_of t.direction) (sym h.1.1) ∙ (h.0 ∙ is)) in inl (h.1.1 ∙ ap implied (some_same h.1.0 u k))

-- elsewhere there is none
pub none_upper : (t : Task) (cs : List Constraint) (w : Option ℕ) (u : ℕ) → t.direction ≡ Up → w ≡ Some u → (x : Constraint) → IsEdge t cs x → IsImpliedAt t w x → ⊥
none_upper t cs w u up is x edge h = let k : None ≡ Some u = sym (ap (λ y. near_of y (implied h.1.0)) up) ∙ (ap (near_of t.direction) (sym h.1.1) ∙ (h.0 ∙ is)) in absurd (cc)

pub none_lower : (t : Task) (cs : List Constraint) (w : Option ℕ) → t.direction ≡ Down → w ≡ None → (x : Constraint) → IsEdge t cs x → IsImpliedAt t w x → ⊥
none_lower t cs w down is x edge h = let k : Some h.1.0 ≡ None = sym (ap (λ y. near_of y (implied h.1.0)) down) ∙ (ap (near_of t.direction) (sym h.1.1) ∙ (h.0 ∙ is)) in absurd (cc)

pub same_done : (a b c : Search) → SameDone a b → SameDone b c → SameDone a c
same_done a b c x y u = y u ∙ x u
