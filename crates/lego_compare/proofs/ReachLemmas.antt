-- Where a term's normalisation sequence ends, it passes each term to which a path through the term leads.
use Rattle.std.proofs.Common.{◌≡◌, ℕ, zero, suc, ◌+◌, ◌-◌, ◌≤◌, ◌<◌, Option, Some, None, List, [], ◌∷◌, slice_get, ⊎_elim, refl, sym, ◌∙◌, subst, arith}
use Rattle.lego_term.specs.Trees.{Core, Var, Const, Prop, Univ, Pi, Lam, App, Sigma, Pair, Fst, Snd, Let, depth}
use Rattle.lego_term.specs.Parts.{Branch, plain_part, bound_part, parts_of, Subtree, whole, part, IsTooLarge, subtree, IsTooLargeOnTheWay}
use Rattle.lego_term.specs.Parts as parts
use Rattle.lego_term.specs.declared.binder.Binder.{Binder}
use Rattle.lego_term.specs.Sequences.{normal_step, after, Ends}
use Rattle.lego_laws.specs.Parallel.{CoreBodies}
use Rattle.lego_laws.specs.HeadForms.{IsHeadForm}
use Rattle.lego_laws.specs.Counting.{PartsReach, within, behind, PartsEnd, no_part, one_more}
use Rattle.lego_laws.proofs.lemmas.reduction.After.{runs, EndsBefore, at_most, after_inside, after_add}
use Rattle.lego_laws.proofs.lemmas.reduction.NormalSteps.{IsFunction, IsOperand, in_function, in_argument, in_fst, in_snd}
use Rattle.lego_laws.proofs.lemmas.reduction.Stuck.{app_stuck, fst_stuck, snd_stuck}
use Rattle.lego_laws.proofs.lemmas.comparison.Counted.{head_after}
use Rattle.lego_laws.proofs.lemmas.comparison.Reaching.{parts_are_reached}
use Rattle.lego_reduce.proofs.SequenceLemmas.{after-plus}
use Rattle.lego_compare.specs.Answers.{ReachesTooLarge}
use Rattle.lego_compare.specs.Paths.{Leads, l_steps, l_heads, FormLeads, l_part, Large, tree, path}

part_deep : (t : Core) (i : ℕ) (p : Branch) → slice_get (parts_of t) i ≡ Some p → suc (depth p.term) ≤ depth t
part_deep (Pi x a r) zero p e = let s : a ≡ p.term = cc in rw (← s) (omega arith)
part_deep (Pi x a r) (suc zero) p e = let s : r ≡ p.term = cc in rw (← s) (omega arith)
part_deep (Lam x a r) zero p e = let s : a ≡ p.term = cc in rw (← s) (omega arith)
part_deep (Lam x a r) (suc zero) p e = let s : r ≡ p.term = cc in rw (← s) (omega arith)
part_deep (App x a r) zero p e = let s : a ≡ p.term = cc in rw (← s) (omega arith)
part_deep (App x a r) (suc zero) p e = let s : r ≡ p.term = cc in rw (← s) (omega arith)
part_deep (Sigma x a r) zero p e = let s : a ≡ p.term = cc in rw (← s) (omega arith)
part_deep (Sigma x a r) (suc zero) p e = let s : r ≡ p.term = cc in rw (← s) (omega arith)
part_deep (Pair x a r m n) zero p e = let s : a ≡ p.term = cc in rw (← s) (omega arith)
part_deep (Pair x a r m n) (suc zero) p e = let s : r ≡ p.term = cc in rw (← s) (omega arith)
part_deep (Pair x a r m n) (suc (suc zero)) p e = let s : m ≡ p.term = cc in rw (← s) (omega arith)
part_deep (Pair x a r m n) (suc (suc (suc zero))) p e = let s : n ≡ p.term = cc in rw (← s) (omega arith)
part_deep (Fst m) zero p e = let s : m ≡ p.term = cc in rw (← s) (omega arith)
part_deep (Snd m) zero p e = let s : m ≡ p.term = cc in rw (← s) (omega arith)
part_deep (Let x a r) zero p e = let s : a ≡ p.term = cc in rw (← s) (omega arith)
part_deep (Let x a r) (suc zero) p e = let s : r ≡ p.term = cc in rw (← s) (omega arith)
part_deep _ _ p e = cc

module _ (b : CoreBodies) where
  abbrev next : Core → Option Core
  next = normal_step b

  -- where the whole ends, its part ends, and the whole goes on from there
  record Split (F : Core → Core) (P : Core → Type 0) (t : Core) (j : ℕ) (e : Core) : Type 0 where
    n : ℕ
    end : Core
    ends : Ends (normal_step b) t n end
    kept : P end
    le : n ≤ j
    rest : Ends (normal_step b) (F end) (j - n) e

  split : (F : Core → Core) (P : Core → Type 0) (inside : (t u : Core) → P t → normal_step b t ≡ Some u → (normal_step b (F t) ≡ Some (F u)) × P u) (t : Core) (j : ℕ) (e : Core) → P t → Ends (normal_step b) (F t) j e → Split F P t j e
  split F P inside t j e p h = ⊎_elim (λ more. absurd (too_many more)) ended (runs (normal_step b) (suc j) t)
    where
      too_many : (u : Core) × (after (normal_step b) (suc j) t ≡ Some u) → ⊥
      too_many more =
          let s = after_inside (normal_step b) F P inside (suc j) t more.0 p more.1 in
          let l = at_most (normal_step b) j (suc j) (F t) e h.reaches h.last (F more.0, s.0) in
          omega arith

      ended : EndsBefore (normal_step b) t (suc j) → Split F P t j e
      ended r =
          let lt = r.less in
          let s = after_inside (normal_step b) F P inside r.n t r.end p r.reaches in
          let sum : r.n + (j - r.n) ≡ j = omega arith in
          let go : after (normal_step b) (r.n + (j - r.n)) (F t) ≡ after (normal_step b) (j - r.n) (F r.end) = after-plus (normal_step b) r.n (j - r.n) (F t) (F r.end) s.0 in
          record {
            n = r.n;
            end = r.end;
            ends = record { reaches = r.reaches; last = r.last };
            kept = s.1;
            le = omega arith;
            rest = record { reaches = sym go ∙ subst (λ z. after (normal_step b) z (F t) ≡ Some e) (sym sum) h.reaches; last = h.last };
          }

  record AllEnd (ps : List Branch) (j : ℕ) : Type 0 where
    n : ℕ
    le : n ≤ j
    qs : List Branch
    ends : PartsEnd b ps n qs

  no_parts : (j : ℕ) → AllEnd [] j
  no_parts j = record { n = 0; le = omega arith; qs = []; ends = no_part }

  -- one part, and then the others
  and_others : {F : Core → Core} {P : Core → Type 0} {t e : Core} {j : ℕ} (o : Option Binder) (ps : List Branch) → (s : Split F P t j e) → AllEnd ps (j - s.n) → AllEnd (record { under = o; term = t } ∷ ps) j
  and_others o ps s r =
      let l = s.le in
      let m = r.le in
      record { n = s.n + r.n; le = omega arith; qs = record { under = o; term = s.end } ∷ r.qs; ends = one_more s.n s.ends r.ends }

  binder_ends : (F : Core → Core → Core) → ((a r u : Core) → normal_step b a ≡ Some u → normal_step b (F a r) ≡ Some (F u r)) → ((a r u : Core) → normal_step b a ≡ None → normal_step b r ≡ Some u → normal_step b (F a r) ≡ Some (F a u)) → (o : Option Binder) (a r e : Core) (j : ℕ) → Ends (normal_step b) (F a r) j e → AllEnd (record { under = None; term = a } ∷ record { under = o; term = r } ∷ []) j
  binder_ends F first second o a r e j h =
      let s = split (λ z. F z r) (λ t. Unit {0}) (λ t u w k. (first t r u k, tt)) a j e tt h in
      let s' = split (λ z. F s.end z) (λ t. Unit {0}) (λ t u w k. (second s.end t u s.ends.last k, tt)) r (j - s.n) e tt s.rest in
      and_others None (record { under = o; term = r } ∷ []) s (and_others o [] s' (no_parts (j - s.n - s'.n)))

  -- of a pair, from its fourth, third, second and first part on
  fourth_ends : (x : Binder) (a r m n e : Core) (j : ℕ) → normal_step b a ≡ None → normal_step b r ≡ None → normal_step b m ≡ None → Ends (normal_step b) (Pair x a r m n) j e → AllEnd (plain_part n ∷ []) j
  fourth_ends x a r m n e j la lr lm h =
      let s = split (λ z. Pair x a r m z) (λ t. Unit {0}) (λ t u w q. (rw (la, lr, lm, q) refl, tt)) n j e tt h in
      and_others None [] s (no_parts (j - s.n))

  third_ends : (x : Binder) (a r m n e : Core) (j : ℕ) → normal_step b a ≡ None → normal_step b r ≡ None → Ends (normal_step b) (Pair x a r m n) j e → AllEnd (plain_part m ∷ plain_part n ∷ []) j
  third_ends x a r m n e j la lr h =
      let s = split (λ z. Pair x a r z n) (λ t. Unit {0}) (λ t u w q. (rw (la, lr, q) refl, tt)) m j e tt h in
      and_others None (plain_part n ∷ []) s (fourth_ends x a r s.end n e (j - s.n) la lr s.ends.last s.rest)

  second_ends : (x : Binder) (a r m n e : Core) (j : ℕ) → normal_step b a ≡ None → Ends (normal_step b) (Pair x a r m n) j e → AllEnd (bound_part x r ∷ plain_part m ∷ plain_part n ∷ []) j
  second_ends x a r m n e j la h =
      let s = split (λ z. Pair x a z m n) (λ t. Unit {0}) (λ t u w q. (rw (la, q) refl, tt)) r j e tt h in
      and_others (Some x) (plain_part m ∷ plain_part n ∷ []) s (third_ends x a s.end m n e (j - s.n) la s.ends.last s.rest)

  pair_ends : (x : Binder) (a r m n e : Core) (j : ℕ) → Ends (normal_step b) (Pair x a r m n) j e → AllEnd (plain_part a ∷ bound_part x r ∷ plain_part m ∷ plain_part n ∷ []) j
  pair_ends x a r m n e j h =
      let s = split (λ z. Pair x z r m n) (λ t. Unit {0}) (λ t u w q. (rw q refl, tt)) a j e tt h in
      and_others None (bound_part x r ∷ plain_part m ∷ plain_part n ∷ []) s (second_ends x s.end r m n e (j - s.n) s.ends.last s.rest)

  parts_end : (h : Core) (j : ℕ) (e : Core) → IsHeadForm b h → Ends (normal_step b) h j e → AllEnd (parts_of h) j
  parts_end (Pi x a r) j e k h = binder_ends (λ y z. Pi x y z) (λ y z u s. rw s refl) (λ y z u l s. rw (l, s) refl) (Some x) a r e j h
  parts_end (Lam x a r) j e k h = binder_ends (λ y z. Lam x y z) (λ y z u s. rw s refl) (λ y z u l s. rw (l, s) refl) (Some x) a r e j h
  parts_end (Sigma x a r) j e k h = binder_ends (λ y z. Sigma x y z) (λ y z u s. rw s refl) (λ y z u l s. rw (l, s) refl) (Some x) a r e j h
  parts_end (App k m n) j e p h =
      let s = split (λ z. App k z n) (IsFunction b) (λ t u w q. in_function b k n t u w q) m j e (app_stuck b k m n p) h in
      let s' = split (λ z. App k s.end z) (λ t. Unit {0}) (λ t u w q. (in_argument b k s.end t u s.kept s.ends.last q, tt)) n (j - s.n) e tt s.rest in
      and_others None (record { under = None; term = n } ∷ []) s (and_others None [] s' (no_parts (j - s.n - s'.n)))
  parts_end (Pair x a r m n) j e p h = pair_ends x a r m n e j h
  parts_end (Fst m) j e p h =
      let s = split Fst (IsOperand b) (λ t u w q. in_fst b t u w q) m j e (fst_stuck b m p) h in
      and_others None [] s (no_parts (j - s.n))
  parts_end (Snd m) j e p h =
      let s = split Snd (IsOperand b) (λ t u w q. in_snd b t u w q) m j e (snd_stuck b m p) h in
      and_others None [] s (no_parts (j - s.n))
  parts_end (Var i) j e p h = no_parts j
  parts_end (Const k) j e p h = no_parts j
  parts_end Prop j e p h = no_parts j
  parts_end (Univ l) j e p h = no_parts j
  parts_end (Let x m n) j e p h = cc

  -- what the part comes to, the parts together come to
  record Placed (ps : List Branch) (m i : ℕ) (p : Branch) (u : Core) : Type 0 where
    steps : ℕ
    le : steps ≤ m
    qs : List Branch
    reach : PartsReach b ps steps qs
    here : slice_get qs i ≡ Some (record { under = p.under; term = u })

  record Selected (ps : List Branch) (m i : ℕ) (p : Branch) : Type 0 where
    n : ℕ
    end : Core
    ends : Ends (normal_step b) p.term n end
    place : (k : ℕ) (u : Core) → k ≤ n → after (normal_step b) k p.term ≡ Some u → Placed ps m i p u

  select : {ps qs : List Branch} {m : ℕ} (i : ℕ) (p : Branch) → PartsEnd b ps m qs → slice_get ps i ≡ Some p → Selected ps m i p
  select i p no_part e = cc
  select zero p (one_more n {n = l} {p = q} {ps = ps} {u = u} h r) e =
      let s : q ≡ p = cc in
      subst (λ z. Selected (q ∷ ps) (n + l) 0 z) s (record {
        n = n;
        end = u;
        ends = h;
        place = λ k v le x. record { steps = k; le = omega arith; qs = record { under = q.under; term = v } ∷ ps; reach = within k x; here = refl };
      })
  select (suc i) p (one_more n {n = l} {p = q} {ps = ps} {u = w} h r) e =
      let s = select i p r e in
      record {
        n = s.n;
        end = s.end;
        ends = s.ends;
        place = λ k v le x. later v (s.place k v le x);
      }
    where
      later : (v : Core) → Placed ps l i p v → Placed (q ∷ ps) (n + l) (suc i) p v
      later v y = let g = y.le in record { steps = n + y.steps; le = omega arith; qs = record { under = q.under; term = w } ∷ y.qs; reach = behind n h y.reach; here = y.here }

  -- a term on the sequence, within so many steps, in which w stands so deep
  record Reach (t : Core) (n k : ℕ) (w : Core) : Type 0 where
    m : ℕ
    le : m ≤ n
    u : Core
    steps : after (normal_step b) m t ≡ Some u
    stands : Subtree w u
    deep : k + depth w ≤ depth u

  mutual
    reach : {t w : Core} {k : ℕ} → Leads b t k w → (n : ℕ) (e : Core) → Ends (normal_step b) t n e → Reach t n k w
    reach (l_steps {t = t} {u = u} i s) n e h =
        let a = head_after b i t u s in
        let l = at_most (normal_step b) n i t e h.reaches h.last (u, a) in
        record { m = i; le = l; u = u; steps = a; stands = whole; deep = omega arith }
    reach (l_heads {t = t} {h = h'} (i, s) f) n e h =
        let a = head_after b i t h' s.reaches in
        let l = at_most (normal_step b) n i t e h.reaches h.last (h', a) in
        let sum : i + (n - i) ≡ n = omega arith in
        let go = after-plus (normal_step b) i (n - i) t h' a in
        let rest : Ends (normal_step b) h' (n - i) e = record { reaches = sym go ∙ subst (λ z. after (normal_step b) z t ≡ Some e) (sym sum) h.reaches; last = h.last } in
        let r = form_reach f s.last (n - i) e rest in
        let rl = r.le in
        record { m = i + r.m; le = omega arith; u = r.u; steps = after_add (normal_step b) i r.m t h' r.u a r.steps; stands = r.stands; deep = r.deep }

    form_reach : {h w : Core} {k : ℕ} → FormLeads b h k w → IsHeadForm b h → (n : ℕ) (e : Core) → Ends (normal_step b) h n e → Reach h n k w
    form_reach (l_part {h = h} {u = w} {n = k} {p = p} i x d) stuck n e r =
        let all = parts_end h n e stuck r in
        let al = all.le in
        let s = select i p all.ends x in
        let g = reach d s.n s.end s.ends in
        let y = s.place g.m g.u g.le g.steps in
        let yl = y.le in
        let z = parts_are_reached b h y.steps y.qs stuck y.reach in
        let at : slice_get (parts_of z.0) i ≡ Some (record { under = p.under; term = g.u }) = subst (λ v. slice_get v i ≡ Some (record { under = p.under; term = g.u })) (sym z.2) y.here in
        let less = part_deep z.0 i (record { under = p.under; term = g.u }) at in
        let gd = g.deep in
        record { m = y.steps; le = omega arith; u = z.0; steps = z.1; stands = part i at g.stands; deep = omega arith }

subtree_of : {x y z : Core} → Subtree x y → Subtree y z → Subtree x z
subtree_of p whole = p
subtree_of p (part i e q) = part i e (subtree_of p q)

within_larger : {w u : Core} {i j : ℕ} → IsTooLarge w i j → Subtree w u → IsTooLarge u i j
within_larger (subtree s o) p = subtree (subtree_of s p) o

some_depth : (t : Core) → 0 < depth t
some_depth (Var i) = omega arith
some_depth (Const k) = omega arith
some_depth Prop = omega arith
some_depth (Univ l) = omega arith
some_depth (Pi x a r) = omega arith
some_depth (Lam x a r) = omega arith
some_depth (App x a r) = omega arith
some_depth (Sigma x a r) = omega arith
some_depth (Pair x a r m n) = omega arith
some_depth (Fst m) = omega arith
some_depth (Snd m) = omega arith
some_depth (Let x m n) = omega arith

pub reaches_large : (b : CoreBodies) (t e : Core) (n limit : ℕ) {nodes levels : ℕ} → Ends (normal_step b) t n e → n ≤ limit → Large (Leads b t) 2001 nodes levels → ReachesTooLarge b limit nodes levels t
reaches_large b t e n limit h le (tree d o) =
    let r = reach b d n e h in
    let l = r.le in
    record { steps = r.m; term = r.u; within = omega arith; reaches = r.steps; large = parts.tree (within_larger o r.stands) }
reaches_large b t e n limit h le (path {u = u} d) =
    let r = reach b d n e h in
    let l = r.le in
    let g = r.deep in
    let s = some_depth u in
    record { steps = r.m; term = r.u; within = omega arith; reaches = r.steps; large = parts.path (omega arith) }
