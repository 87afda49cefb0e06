-- What the normalisation sequence leaves of a head form: its form, its head and the places of its parts.
use Rattle.std.proofs.Common.{◌≡◌, ℕ, zero, suc, ◌+◌, ◌-◌, Option, Some, None, option_map, option_and_then, List, [], ◌∷◌, ◌++◌, slice_get, ◌⊎◌, inl, inr, refl, sym, ap, ◌∙◌, subst, arith}
use Rattle.lego_term.specs.declared.binder.Binder.{Binder}
use Rattle.lego_term.specs.Trees.{Core, Var, Const, Prop, Univ, Pi, Lam, App, Sigma, Pair, Fst, Snd, Let}
use Rattle.lego_term.specs.Parts.{shape_of, Branch, plain_part, bound_part, parts_of, head_constant}
use Rattle.lego_term.specs.Sequences.{or_else, head_step, normal_step, after, Ends, HeadForm, NormalForm}
use Rattle.lego_laws.specs.Parallel.{CoreBodies}
use Rattle.lego_laws.specs.HeadForms.{IsHeadForm}
use Rattle.lego_laws.proofs.lemmas.reduction.After.{next, at_most, after_add}
use Rattle.lego_laws.proofs.lemmas.reduction.CommonReducts.{step-parallel}
use Rattle.lego_laws.proofs.lemmas.comparison.Counted.{head_after}
use Rattle.lego_laws.proofs.lemmas.reduction.HeadSteps.{either_some, mapped_from}
use Rattle.lego_laws.proofs.lemmas.reduction.NormalSteps.{normal_step-step, head_first}
use Rattle.lego_laws.proofs.lemmas.reduction.Stuck.{kept, app_stuck, fst_stuck, snd_stuck}
use Rattle.lego_reduce.proofs.SequenceLemmas.{after-plus}

none_first : {X : Type 0} (o p : Option X) → or_else o p ≡ None → (o ≡ None) × (p ≡ None)
none_first None p e = (refl, e)
none_first (Some x) p e = cc

none_mapped : {X Y : Type 0} (f : X → Y) (o : Option X) → option_map f o ≡ None → o ≡ None
none_mapped f None e = refl
none_mapped f (Some x) e = cc

-- forms of one shape have parts of the same numbers
some_part : (t u : Core) → shape_of t ≡ shape_of u → (i : ℕ) (p : Branch) → slice_get (parts_of t) i ≡ Some p → (q : Branch) × (slice_get (parts_of u) i ≡ Some q)
some_part (Pi x a r) (Pi y c s) f zero p e = (_, refl)
some_part (Pi x a r) (Pi y c s) f (suc zero) p e = (_, refl)
some_part (Lam x a r) (Lam y c s) f zero p e = (_, refl)
some_part (Lam x a r) (Lam y c s) f (suc zero) p e = (_, refl)
some_part (App x a r) (App y c s) f zero p e = (_, refl)
some_part (App x a r) (App y c s) f (suc zero) p e = (_, refl)
some_part (Sigma x a r) (Sigma y c s) f zero p e = (_, refl)
some_part (Sigma x a r) (Sigma y c s) f (suc zero) p e = (_, refl)
some_part (Pair x a r m n) (Pair y c s o q) f zero p e = (_, refl)
some_part (Pair x a r m n) (Pair y c s o q) f (suc zero) p e = (_, refl)
some_part (Pair x a r m n) (Pair y c s o q) f (suc (suc zero)) p e = (_, refl)
some_part (Pair x a r m n) (Pair y c s o q) f (suc (suc (suc zero))) p e = (_, refl)
some_part (Fst a) (Fst c) f zero p e = (_, refl)
some_part (Snd a) (Snd c) f zero p e = (_, refl)
some_part (Let x a r) (Let y c s) f zero p e = (_, refl)
some_part (Let x a r) (Let y c s) f (suc zero) p e = (_, refl)
some_part _ _ f i p e = cc

module _ (b : CoreBodies) where
  abbrev IsEnd : Core → Type 0
  IsEnd t = normal_step b t ≡ None

  both_end : (f g : Core → Core) (a r : Core) → or_else (option_map f (normal_step b a)) (option_map g (normal_step b r)) ≡ None → IsEnd a × IsEnd r
  both_end f g a r e = let k = none_first (option_map f (normal_step b a)) (option_map g (normal_step b r)) e in (none_mapped f (normal_step b a) k.0, none_mapped g (normal_step b r) k.1)

  part_of_two : (a r : Core) (under : Option Binder) → IsEnd a × IsEnd r → (j : ℕ) (l : Branch) → slice_get (plain_part a ∷ record { under = under; term = r } ∷ []) j ≡ Some l → IsEnd l.term
  part_of_two a r under h zero l e = let s : a ≡ l.term = cc in subst IsEnd s h.0
  part_of_two a r under h (suc zero) l e = let s : r ≡ l.term = cc in subst IsEnd s h.1
  part_of_two a r under h (suc (suc j)) l e = cc

  -- the parts of a term without a step have none
  pub parts_end : (t : Core) → IsEnd t → (j : ℕ) (l : Branch) → slice_get (parts_of t) j ≡ Some l → IsEnd l.term
  parts_end (Pi x a r) e j l p = part_of_two a r (Some x) (both_end (λ z. Pi x z r) (λ z. Pi x a z) a r e) j l p
  parts_end (Lam x a r) e j l p = part_of_two a r (Some x) (both_end (λ z. Lam x z r) (λ z. Lam x a z) a r e) j l p
  parts_end (Sigma x a r) e j l p = part_of_two a r (Some x) (both_end (λ z. Sigma x z r) (λ z. Sigma x a z) a r e) j l p
  parts_end (App k m n) e j l p =
      let h = none_first (head_step b (App k m n)) (or_else (option_map (λ z. App k z n) (normal_step b m)) (option_map (λ z. App k m z) (normal_step b n))) e in
      part_of_two m n None (both_end (λ z. App k z n) (λ z. App k m z) m n h.1) j l p
  parts_end (Pair x a r m n) e zero l p = let h = none_first (option_map (λ z. Pair x z r m n) (normal_step b a)) _ e in let s : a ≡ l.term = cc in subst IsEnd s (none_mapped (λ z. Pair x z r m n) (normal_step b a) h.0)
  parts_end (Pair x a r m n) e (suc zero) l p =
      let h = none_first (option_map (λ z. Pair x z r m n) (normal_step b a)) _ e in
      let h' = none_first (option_map (λ z. Pair x a z m n) (normal_step b r)) _ h.1 in
      let s : r ≡ l.term = cc in subst IsEnd s (none_mapped (λ z. Pair x a z m n) (normal_step b r) h'.0)
  parts_end (Pair x a r m n) e (suc (suc j)) l p =
      let h = none_first (option_map (λ z. Pair x z r m n) (normal_step b a)) _ e in
      let h' = none_first (option_map (λ z. Pair x a z m n) (normal_step b r)) _ h.1 in
      part_of_two m n None (both_end (λ z. Pair x a r z n) (λ z. Pair x a r m z) m n h'.1) j l p
  parts_end (Fst m) e zero l p = let h = none_first (head_step b (Fst m)) (option_map Fst (normal_step b m)) e in let s : m ≡ l.term = cc in subst IsEnd s (none_mapped Fst (normal_step b m) h.1)
  parts_end (Snd m) e zero l p = let h = none_first (head_step b (Snd m)) (option_map Snd (normal_step b m)) e in let s : m ≡ l.term = cc in subst IsEnd s (none_mapped Snd (normal_step b m) h.1)
  parts_end (Let x m n) e j l p = cc
  parts_end _ e j l p = cc

  -- a term without a step has no head step
  pub end_is_head : (t : Core) → IsEnd t → IsHeadForm b t
  end_is_head t e = by_step (head_step b t) refl
    where
      by_step : (o : Option Core) → head_step b t ≡ o → head_step b t ≡ None
      by_step None h = h
      by_step (Some u) h = let s = head_first b t u h in cc

  -- a term, or what it goes to in a step
  abbrev MayStep : Core → Core → Type 0
  MayStep t u = (t ≡ u) ⊎ (normal_step b t ≡ Some u)

  -- a step leaves the form of a head form, its head and the places of its parts
  record Stepped (h u : Core) : Type 0 where
    shape : shape_of u ≡ shape_of h
    leaf : shape_of h ≡ None → u ≡ h
    head : head_constant u ≡ head_constant h
    parts : (j : ℕ) (r : Branch) → slice_get (parts_of u) j ≡ Some r → (l : Branch) × (slice_get (parts_of h) j ≡ Some l) × MayStep l.term r.term × (l.under ≡ r.under)

  replaced_part : (before behind : List Branch) (l r : Branch) → normal_step b l.term ≡ Some r.term → l.under ≡ r.under → (j : ℕ) (q : Branch) → slice_get (before ++ r ∷ behind) j ≡ Some q
      → (m : Branch) × (slice_get (before ++ l ∷ behind) j ≡ Some m) × MayStep m.term q.term × (m.under ≡ q.under)
  replaced_part [] behind l r s o zero q e = let z : r ≡ q = cc in (l, refl, inr (s ∙ ap (λ (v : Branch). Some v.term) z), o ∙ ap (λ (v : Branch). v.under) z)
  replaced_part [] behind l r s o (suc j) q e = (q, e, inl refl, refl)
  replaced_part (x ∷ before) behind l r s o zero q e = (q, e, inl refl, refl)
  replaced_part (x ∷ before) behind l r s o (suc j) q e = replaced_part before behind l r s o j q e

  -- a step of a part that stands in F
  part_steps : (F : Core → Core) (under : Option Binder) (before behind : List Branch) → ((z : Core) → parts_of (F z) ≡ before ++ record { under = under; term = z } ∷ behind)
      → ((z w : Core) → shape_of (F z) ≡ shape_of (F w)) → ((z : Core) → shape_of (F z) ≡ None → ⊥) → (a u : Core)
      → ((w : Core) → normal_step b a ≡ Some w → head_constant (F w) ≡ head_constant (F a)) → option_map F (normal_step b a) ≡ Some u → Stepped (F a) u
  part_steps F under before behind ps same form a u head e =
      let k = mapped_from F (normal_step b a) u e in
      subst (Stepped (F a)) k.2 (record {
        shape = same k.0 a;
        leaf = λ n. absurd (form a n);
        head = head k.0 k.1;
        parts = λ j q y.
            (let g = replaced_part before behind (record { under = under; term = a }) (record { under = under; term = k.0 }) k.1 refl j q (subst (λ z. slice_get z j ≡ Some q) (ps k.0) y) in
            (g.0, subst (λ z. slice_get z j ≡ Some g.0) (sym (ps a)) g.1, g.2, g.3));
      })

  stepped : (h u : Core) → IsHeadForm b h → normal_step b h ≡ Some u → Stepped h u
  stepped (Var i) u e s = cc
  stepped (Const k) u e s = let z : normal_step b (Const k) ≡ None = e in cc
  stepped Prop u e s = cc
  stepped (Univ l) u e s = cc
  stepped (Pi x a r) u e s =
      elim (either_some (option_map (λ z. Pi x z r) (normal_step b a)) (option_map (λ z. Pi x a z) (normal_step b r)) u s) [
        | inl p ↦ part_steps (λ z. Pi x z r) None [] (bound_part x r ∷ []) (λ z. refl) (λ z w. refl) (λ z n. cc) a u (λ w q. refl) p
        | inr p ↦ part_steps (λ z. Pi x a z) (Some x) (plain_part a ∷ []) [] (λ z. refl) (λ z w. refl) (λ z n. cc) r u (λ w q. refl) p.1
      ]
  stepped (Lam x a r) u e s =
      elim (either_some (option_map (λ z. Lam x z r) (normal_step b a)) (option_map (λ z. Lam x a z) (normal_step b r)) u s) [
        | inl p ↦ part_steps (λ z. Lam x z r) None [] (bound_part x r ∷ []) (λ z. refl) (λ z w. refl) (λ z n. cc) a u (λ w q. refl) p
        | inr p ↦ part_steps (λ z. Lam x a z) (Some x) (plain_part a ∷ []) [] (λ z. refl) (λ z w. refl) (λ z n. cc) r u (λ w q. refl) p.1
      ]
  stepped (Sigma x a r) u e s =
      elim (either_some (option_map (λ z. Sigma x z r) (normal_step b a)) (option_map (λ z. Sigma x a z) (normal_step b r)) u s) [
        | inl p ↦ part_steps (λ z. Sigma x z r) None [] (bound_part x r ∷ []) (λ z. refl) (λ z w. refl) (λ z n. cc) a u (λ w q. refl) p
        | inr p ↦ part_steps (λ z. Sigma x a z) (Some x) (plain_part a ∷ []) [] (λ z. refl) (λ z w. refl) (λ z n. cc) r u (λ w q. refl) p.1
      ]
  stepped (App k m n) u e s =
      elim (either_some (head_step b (App k m n)) (or_else (option_map (λ z. App k z n) (normal_step b m)) (option_map (λ z. App k m z) (normal_step b n))) u s) [
        | inl p ↦ (let q = p in cc)
        | inr p ↦
            elim (either_some (option_map (λ z. App k z n) (normal_step b m)) (option_map (λ z. App k m z) (normal_step b n)) u p.1) [
              | inl q ↦ part_steps (λ z. App k z n) None [] (plain_part n ∷ []) (λ z. refl) (λ z w. refl) (λ z f. cc) m u (λ w r. (stepped m w (app_stuck b k m n e).0 r).head) q
              | inr q ↦ part_steps (λ z. App k m z) None (plain_part m ∷ []) [] (λ z. refl) (λ z w. refl) (λ z f. cc) n u (λ w r. refl) q.1
            ]
      ]
  stepped (Pair x a r m n) u e s =
      elim (either_some (option_map (λ z. Pair x z r m n) (normal_step b a)) _ u s) [
        | inl p ↦ part_steps (λ z. Pair x z r m n) None [] (bound_part x r ∷ plain_part m ∷ plain_part n ∷ []) (λ z. refl) (λ z w. refl) (λ z f. cc) a u (λ w q. refl) p
        | inr p ↦
            elim (either_some (option_map (λ z. Pair x a z m n) (normal_step b r)) _ u p.1) [
              | inl q ↦ part_steps (λ z. Pair x a z m n) (Some x) (plain_part a ∷ []) (plain_part m ∷ plain_part n ∷ []) (λ z. refl) (λ z w. refl) (λ z f. cc) r u (λ w q. refl) q
              | inr q ↦
                  elim (either_some (option_map (λ z. Pair x a r z n) (normal_step b m)) (option_map (λ z. Pair x a r m z) (normal_step b n)) u q.1) [
                    | inl o ↦ part_steps (λ z. Pair x a r z n) None (plain_part a ∷ bound_part x r ∷ []) (plain_part n ∷ []) (λ z. refl) (λ z w. refl) (λ z f. cc) m u (λ w q. refl) o
                    | inr o ↦ part_steps (λ z. Pair x a r m z) None (plain_part a ∷ bound_part x r ∷ plain_part m ∷ []) [] (λ z. refl) (λ z w. refl) (λ z f. cc) n u (λ w q. refl) o.1
                  ]
            ]
      ]
  stepped (Fst m) u e s =
      elim (either_some (head_step b (Fst m)) (option_map Fst (normal_step b m)) u s) [
        | inl p ↦ (let q = p in cc)
        | inr p ↦ part_steps Fst None [] [] (λ z. refl) (λ z w. refl) (λ z f. cc) m u (λ w r. (stepped m w (fst_stuck b m e).0 r).head) p.1
      ]
  stepped (Snd m) u e s =
      elim (either_some (head_step b (Snd m)) (option_map Snd (normal_step b m)) u s) [
        | inl p ↦ (let q = p in cc)
        | inr p ↦ part_steps Snd None [] [] (λ z. refl) (λ z w. refl) (λ z f. cc) m u (λ w r. (stepped m w (snd_stuck b m e).0 r).head) p.1
      ]
  stepped (Let x m n) u e s = cc

  still_stuck : (h u : Core) → IsHeadForm b h → normal_step b h ≡ Some u → IsHeadForm b u
  still_stuck h u e s = (kept (step-parallel (normal_step-step b h u s)) e).stays

  -- the normal form of a head form has its form, its head, and the normal forms of its parts in their places
  pub record Ended (h e : Core) : Type 0 where
    pub shape : shape_of e ≡ shape_of h
    pub leaf : shape_of h ≡ None → e ≡ h
    pub head : head_constant e ≡ head_constant h
    pub parts : (j : ℕ) (r : Branch) → slice_get (parts_of e) j ≡ Some r → (l : Branch) × (slice_get (parts_of h) j ≡ Some l) × NormalForm b l.term r.term × (l.under ≡ r.under)

  behind_step : (t u e : Core) → MayStep t u → NormalForm b u e → NormalForm b t e
  behind_step t u e (inl s) n = subst (λ z. NormalForm b z e) (sym s) n
  behind_step t u e (inr s) n =
      (suc n.0, record { reaches = ap (option_and_then (after (normal_step b) n.0)) s ∙ n.1.reaches; last = n.1.last })

  ended_from : (n : ℕ) (h e : Core) → IsHeadForm b h → Ends (normal_step b) h n e → Ended h e
  ended_from zero h e stuck x =
      let same : h ≡ e = cc x.reaches in
      subst (Ended h) same (record {
        shape = refl;
        leaf = λ n. refl;
        head = refl;
        parts = λ j r y. (r, y, (0, record { reaches = refl; last = parts_end h (ap (normal_step b) same ∙ x.last) j r y }), refl);
      })
  ended_from (suc n) h e stuck x =
      let k = next (normal_step b) n (normal_step b h) e x.reaches in
      let s = stepped h k.0 stuck k.1 in
      let r = ended_from n k.0 e (still_stuck h k.0 stuck k.1) (record { reaches = k.2; last = x.last }) in
      record {
        shape = r.shape ∙ s.shape;
        leaf = λ z. r.leaf (s.shape ∙ z) ∙ s.leaf z;
        head = r.head ∙ s.head;
        parts = λ j q y.
            (let m = r.parts j q y in
            let l = s.parts j m.0 m.1 in
            (l.0, l.1, behind_step l.0.term m.0.term q.term l.2 m.2, l.3 ∙ m.3));
      }

  pub ended : (h e : Core) → IsHeadForm b h → NormalForm b h e → Ended h e
  ended h e stuck n = ended_from n.0 h e stuck n.1

  -- the normal form of a term is that of each term on its head sequence
  pub behind_heads : (i : ℕ) (t h e : Core) → after (head_step b) i t ≡ Some h → NormalForm b t e → NormalForm b h e
  behind_heads i t h e a n =
      let x = head_after b i t h a in
      let l = at_most (normal_step b) n.0 i t e n.1.reaches n.1.last (h, x) in
      let sum : i + (n.0 - i) ≡ n.0 = omega arith in
      let go = after-plus (normal_step b) i (n.0 - i) t h x in
      (n.0 - i, record { reaches = sym go ∙ subst (λ z. after (normal_step b) z t ≡ Some e) (sym sum) n.1.reaches; last = n.1.last })

  pub before_heads : (i : ℕ) (t h e : Core) → after (head_step b) i t ≡ Some h → NormalForm b h e → NormalForm b t e
  before_heads i t h e a n = (i + n.0, record { reaches = after_add (normal_step b) i n.0 t h e (head_after b i t h a) n.1.reaches; last = n.1.last })

  -- a term with a normal form has a head form, with the same normal form
  pub head_of_normal : (n : ℕ) (t e : Core) → Ends (normal_step b) t n e → (h : Core) × HeadForm b t h × NormalForm b h e
  head_of_normal zero t e x =
      let same : t ≡ e = cc x.reaches in
      let stuck = end_is_head t (ap (normal_step b) same ∙ x.last) in
      (t, (0, record { reaches = refl; last = stuck }), (0, x))
  head_of_normal (suc n) t e x = by_step (λ u y. head_of_normal n u e y) (head_step b t) refl
    where
      by_step : ((u : Core) → Ends (normal_step b) u n e → (h : Core) × HeadForm b u h × NormalForm b h e) → (o : Option Core) → head_step b t ≡ o → (h : Core) × HeadForm b t h × NormalForm b h e
      by_step go None s = (t, (0, record { reaches = refl; last = s }), (suc n, x))
      by_step go (Some u) s =
          let k = next (normal_step b) n (normal_step b t) e x.reaches in
          let f = head_first b t u s in
          let k1 = k.1 in
          let same : k.0 ≡ u = cc in
          let r = go u (subst (λ z. Ends (normal_step b) z n e) same (record { reaches = k.2; last = x.last })) in
          (r.0, (suc r.1.0, record { reaches = ap (option_and_then (after (head_step b) r.1.0)) s ∙ r.1.1.reaches; last = r.1.1.last }), r.2)

  -- a part of a head form, and the part of the normal form in its place
  pub record Facing (h e : Core) (i : ℕ) (l : Branch) : Type 0 where
    pub part : Branch
    pub stands : slice_get (parts_of e) i ≡ Some part
    pub normal : NormalForm b l.term part.term
    pub under : l.under ≡ part.under

  pub facing : (h e : Core) → Ended h e → (i : ℕ) (l : Branch) → slice_get (parts_of h) i ≡ Some l → Facing h e i l
  facing h e d i l x =
      let s = some_part h e (sym d.shape) i l x in
      let m = d.parts i s.0 s.1 in
      let m1 = m.1 in
      let same : m.0 ≡ l = cc in
      record { part = s.0; stands = s.1; normal = subst (λ (z : Branch). NormalForm b z.term s.0.term) same m.2; under = ap (λ (z : Branch). z.under) (sym same) ∙ m.3 }
