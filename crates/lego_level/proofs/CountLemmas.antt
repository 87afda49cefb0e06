-- How often a search can go on.
use Rattle.std.proofs.Common.{◌≡◌, ℕ, suc, zero, ◌+◌, ◌*◌, ◌<◌, ◌≤◌, Bool, true, false, Option, Some, None, List, [], ◌∷◌, length, Contains, refl, sym, ap, ◌∙◌, ⊎_elim, arith, subst}
use Rattle.std.proofs.lemmas.Bool.{cases_eq}
use Rattle.lego_level.specs.declared.constraint.Constraint.{Constraint}
use Rattle.lego_level.specs.declared.direction.Direction.{Direction}
use Rattle.lego_level.specs.declared.direction.Direction.TheVariants.{Up, Down}
use Rattle.lego_level.specs.declared.search.Task.{Task}
use Rattle.lego_level.specs.declared.search.Search.{Search}
use Rattle.lego_level.specs.Graphs.{implied, IsVariableBelow}
use Rattle.lego_level.specs.private.Incidence.{far_of}
use Rattle.lego_level.specs.private.Measures.{miss, unseen_below, unseen, above, ceiling, nodes_below, width, measure}
use Rattle.lego_level.specs.private.Searches.{reached_at, IsScanned, IsEdge, Searches, SameDone}
use Rattle.lego_level.proofs.MemberLemmas.{contains_none, contains_cases, contains_head, contains_tail}

above_some : (base : Option ℕ) (u : ℕ) → base ≡ Some u → above base ≡ u + 1
above_some base u e = ap above e

pub low_below : (cs : List Constraint) (c : Constraint) (u : ℕ) → Contains cs c → c.low.base ≡ Some u → u < ceiling cs
low_below [] c u h e = absurd (contains_none c h)
low_below (x ∷ cs) c u h e = ⊎_elim {C = u < ceiling (x ∷ cs)}
    (λ k. let a : above x.low.base ≡ u + 1 = ap (λ (z : Constraint). above z.low.base) (sym k) ∙ above_some c.low.base u e in omega (arith, a))
    (λ k. let r = low_below cs c u k e in omega (arith, r)) (contains_cases x cs c h)

pub high_below : (cs : List Constraint) (c : Constraint) (u : ℕ) → Contains cs c → c.high.base ≡ Some u → u < ceiling cs
high_below [] c u h e = absurd (contains_none c h)
high_below (x ∷ cs) c u h e = ⊎_elim {C = u < ceiling (x ∷ cs)}
    (λ k. let a : above x.high.base ≡ u + 1 = ap (λ (z : Constraint). above z.high.base) (sym k) ∙ above_some c.high.base u e in omega (arith, a))
    (λ k. let r = high_below cs c u k e in omega (arith, r)) (contains_cases x cs c h)

pub far_below : (way : Direction) (cs : List Constraint) (c : Constraint) (u : ℕ) → Contains cs c → far_of way c ≡ Some u → u < ceiling cs
far_below Up cs c u h e = high_below cs c u h e
far_below Down cs c u h e = low_below cs c u h e

implied_below : (way : Direction) (n x u : ℕ) → IsScanned way n x → far_of way (implied x) ≡ Some u → u < n
implied_below Up n x u s e = let k : x ≡ u = cc in omega (arith, s, k)
implied_below Down n x u s e = absurd (cc)

edge_below : (t : Task) (cs : List Constraint) (c : Constraint) (u : ℕ) → IsEdge t cs c → far_of t.direction c ≡ Some u → u < nodes_below t cs
edge_below t cs c u edge e = ⊎_elim {C = u < nodes_below t cs}
    (λ k. let r = far_below t.direction (t.added ∷ cs) c u (contains_tail t.added cs c k) e in omega (arith, r))
    (λ z. let r = implied_below t.direction t.count z.0 u z.2 (ap (far_of t.direction) (sym z.1) ∙ e) in omega (arith, r)) edge

-- a reached node is among those that count
pub reached_below : (t : Task) (v : Option ℕ → ℕ) (cs : List Constraint) (s : Search) (w : Option ℕ) → Searches t v cs s → 0 < (reached_at s.draft w).gain → IsVariableBelow (nodes_below t cs) w
reached_below t v cs s None z pos = tt
reached_below t v cs s (Some u) z pos = ⊎_elim {C = u < nodes_below t cs}
    (λ k. let r = far_below t.direction (t.added ∷ cs) t.added u (contains_head t.added cs) (sym k) in omega (arith, r))
    (λ k. edge_below t cs (reached_at s.draft (Some u)).cause u k.edge k.far) (z.grown.reached (Some u) pos).source

same_below : (p p' : Option ℕ → Bool) (n : ℕ) → ((u : ℕ) → u < n → p' (Some u) ≡ p (Some u)) → unseen_below p' n ≡ unseen_below p n
same_below p p' zero h = refl
same_below p p' (suc n) h = let a : miss (p' (Some n)) ≡ miss (p (Some n)) = ap miss (h n (omega arith)) in let r = same_below p p' n (λ u k. h u (omega arith)) in omega (arith, a, r)

pub same_unseen : (p p' : Option ℕ → Bool) (n : ℕ) → ((u : Option ℕ) → p' u ≡ p u) → unseen p' n ≡ unseen p n
same_unseen p p' n h = let a : miss (p' None) ≡ miss (p None) = ap miss (h None) in let r = same_below p p' n (λ u k. h (Some u)) in omega (arith, a, r)

some_same : (a b : ℕ) → Some a ≡ Some b → a ≡ b
some_same a b e = cc

less_below : (p p' : Option ℕ → Bool) (n w : ℕ) → w < n → p (Some w) ≡ false → p' (Some w) ≡ true → ((u : Option ℕ) → (u ≡ Some w → ⊥) → p' u ≡ p u) → unseen_below p' n + 1 ≡ unseen_below p n
less_below p p' zero w below was now other = absurd (omega arith)
less_below p p' (suc n) w below was now other = ⊎_elim {C = unseen_below p' (suc n) + 1 ≡ unseen_below p (suc n)}
    (λ k. let a : miss (p' (Some n)) ≡ 0 = ap miss (subst (λ z. p' (Some z) ≡ true) (sym k) now) in
    let b : miss (p (Some n)) ≡ 1 = ap miss (subst (λ z. p (Some z) ≡ false) (sym k) was) in
    let r = same_below p p' n (λ u h. other (Some u) (λ e. let l = some_same u w e in absurd (omega (arith, l, h, k)))) in omega (arith, a, b, r))
    (λ k. let a : miss (p' (Some n)) ≡ miss (p (Some n)) = ap miss (other (Some n) (λ e. k (some_same n w e))) in
    let r = less_below p p' n w (omega arith) was now other in omega (arith, a, r)) (cases_eq n w)

-- one node more passes
pub less_unseen : (p p' : Option ℕ → Bool) (n : ℕ) (w : Option ℕ) → IsVariableBelow n w → p w ≡ false → p' w ≡ true → ((u : Option ℕ) → (u ≡ w → ⊥) → p' u ≡ p u) → unseen p' n + 1 ≡ unseen p n
less_unseen p p' n None below was now other =
    let a : miss (p' None) ≡ 0 = ap miss now in let b : miss (p None) ≡ 1 = ap miss was in let r = same_below p p' n (λ u h. other (Some u) (λ e. absurd (cc))) in omega (arith, a, b, r)
less_unseen p p' n (Some w) below was now other =
    let a : miss (p' None) ≡ miss (p None) = ap miss (other None (λ e. absurd (cc))) in let r = less_below p p' n w below was now other in omega (arith, a, r)

product_falls : (a b m q q' x : ℕ) → b + 1 ≡ a → q' < x + m → x + 1 ≡ q → b * m + q' < a * m + q
product_falls a b m q q' x h k l = let t : a * m ≡ b * m + m = rw (sym h) (grind arith) in omega (arith, t, k, l)

pub falls_skip : (t : Task) (cs : List Constraint) (s n : Search) → n.draft ≡ s.draft → length n.queue + 1 ≡ length s.queue → measure t cs n < measure t cs s
unfolding measure
falls_skip t cs s n same len =
    let k : unseen (λ u. (reached_at n.draft u).done) (nodes_below t cs) * width t cs ≡ unseen (λ u. (reached_at s.draft u).done) (nodes_below t cs) * width t cs = ap (λ d. unseen (λ u. (reached_at d u).done) (nodes_below t cs) * width t cs) same in omega (arith, k, len)

pub falls_visit : (t : Task) (cs : List Constraint) (s m n : Search) (w : Option ℕ) → IsVariableBelow (nodes_below t cs) w → (reached_at s.draft w).done ≡ false → (reached_at m.draft w).done ≡ true
    → ((u : Option ℕ) → (u ≡ w → ⊥) → (reached_at m.draft u).done ≡ (reached_at s.draft u).done) → SameDone m n
    → length n.queue ≤ length m.queue + length cs + t.count + 1 → length m.queue + 1 ≡ length s.queue → measure t cs n < measure t cs s
unfolding measure
falls_visit t cs s m n w below was now other same len popped =
    let p : Option ℕ → Bool = λ u. (reached_at s.draft u).done in let p' : Option ℕ → Bool = λ u. (reached_at m.draft u).done in let p'' : Option ℕ → Bool = λ u. (reached_at n.draft u).done in
    let less = less_unseen p p' (nodes_below t cs) w below was now other in
    let eq = same_unseen p' p'' (nodes_below t cs) same in
    product_falls (unseen p (nodes_below t cs)) (unseen p'' (nodes_below t cs)) (width t cs) (length s.queue) (length n.queue) (length m.queue) (omega (arith, less, eq)) (omega (arith, len)) popped
