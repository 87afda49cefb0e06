-- Two terms have one corresponding pair at which the rule decides, and then they don't agree.
use Rattle.std.proofs.Common.{◌≡◌, ◌<◌, ◌≤◌, Some, List, slice_get, IsFalse, ⊎_elim, refl, sym, ap, ◌∙◌, subst, arith}
use Rattle.std.proofs.lemmas.Bool.{cases_lt}
use Rattle.lego_term.specs.declared.binder.Binder.{Binder}
use Rattle.lego_term.specs.Trees.{Core}
use Rattle.lego_term.specs.Parts.{Shape, shape_of, Branch, parts_of}
use Rattle.lego_term.specs.Sequences.{HeadForm, NormalForm}
use Rattle.lego_laws.specs.Parallel.{CoreBodies}
use Rattle.lego_match.specs.Agreement.{AgreeIn}
use Rattle.lego_match.specs.Holes.{FreeHoles, has_free_head}
use Rattle.lego_match.specs.Pairs.{AgreeBefore, inside, Corresponds, here, turn, GoesIntoParts, PairsAreOne, PairsDisagree}
use Rattle.lego_match.proofs.FormLemmas.{ended, behind_heads}
use Rattle.lego_match.proofs.HoleLemmas.{same_free_head}
use Rattle.lego_match.proofs.AgreeingLemmas.{one_normal, one_head, agree_at_ends, agree_inside}

module _ (b : CoreBodies) (free : FreeHoles) where
  -- terms with a corresponding pair don't agree
  differ : {t u p q : Core} {xs : List Binder} → Corresponds b free t u xs p q → AgreeIn b t u → ⊥
  differ (here {p = p} {q = q} m n d) a = d (agree_at_ends b a p q m n)
  differ (turn {h = h} {k = k} {l = l} {r = r} i m n fh fk sh sk lx rx before c) a = differ c (agree_inside b a h k m n i l r lx rx)

  -- the rule goes into the parts of normal forms where it goes into those of head forms
  goes_on : (t u p q h k : Core) (s : Shape) → NormalForm b t p → NormalForm b u q → HeadForm b t h → HeadForm b u k → IsFalse (has_free_head free h) → IsFalse (has_free_head free k) → shape_of h ≡ Some s → shape_of k ≡ Some s
      → GoesIntoParts free p q
  goes_on t u p q h k s x y m n fh fk sh sk =
      let l = ended b h p m.1.last (behind_heads b m.0 t h p m.1.reaches x) in
      let r = ended b k q n.1.last (behind_heads b n.0 u k q n.1.reaches y) in
      (same_free_head free p h l.head ∙ fh, same_free_head free q k r.head ∙ fk, s, l.shape ∙ sh, r.shape ∙ sk)

  record Same (xs ys : List Binder) (p q p' q' : Core) : Type 0 where
    binders : xs ≡ ys
    left : p ≡ p'
    right : q ≡ q'

  one_pair : {t u p q p' q' : Core} {xs ys : List Binder} → Corresponds b free t u xs p q → Corresponds b free t u ys p' q' → (GoesIntoParts free p q → ⊥) → (GoesIntoParts free p' q' → ⊥) → Same xs ys p q p' q'
  one_pair (here {t = t} {u = u} {p = p} {q = q} m n d) (here {p = p'} {q = q'} m' n' d') g g' =
      record { binders = refl; left = one_normal b t p p' m m'; right = one_normal b u q q' n n' }
  one_pair (here {t = t} {u = u} {p = p} {q = q} x y d) (turn {h = h} {k = k} {s = s} i m n fh fk sh sk lx rx before c) g g' =
      absurd (g (goes_on t u p q h k s x y m n fh fk sh sk))
  one_pair (turn {t = t} {u = u} {h = h} {k = k} {s = s} i m n fh fk sh sk lx rx before c) (here {p = p} {q = q} x y d) g g' =
      absurd (g' (goes_on t u p q h k s x y m n fh fk sh sk))
  one_pair (turn {t = t} {u = u} {h = h} {k = k} {p = p} {q = q} {l = l} {r = r} {xs = xs} i m n fh fk sh sk lx rx before c)
      (turn {h = h'} {k = k'} {p = p'} {q = q'} {l = l'} {r = r'} {xs = ys} j m' n' fh' fk' sh' sk' lx' rx' before' c') g g' =
      let eh = one_head b t h' h m' m in
      let ek = one_head b u k' k n' n in
      let a' = subst (λ z. slice_get (parts_of z) j ≡ Some l') eh lx' in
      let o' = subst (λ z. slice_get (parts_of z) j ≡ Some r') ek rx' in
      let w' = subst (λ z. AgreeBefore b j h z) ek (subst (λ z. AgreeBefore b j z k') eh before') in
      ⊎_elim (λ (lt : i < j). absurd (differ c (w' i l r lt lx rx)))
      (λ (le : j ≤ i).
      ⊎_elim (λ (lt : j < i). absurd (differ c' (before j l' r' lt a' o')))
      (λ (ge : i ≤ j).
      (let same : j ≡ i = omega arith in
      let al = subst (λ z. slice_get (parts_of h) z ≡ Some l') same a' in
      let ar = subst (λ z. slice_get (parts_of k) z ≡ Some r') same o' in
      let pl : l' ≡ l = cc in
      let pr : r' ≡ r = cc in
      let c'' = subst (λ (z : Branch). Corresponds b free l.term z.term ys p' q') pr (subst (λ (z : Branch). Corresponds b free z.term r'.term ys p' q') pl c') in
      let t = one_pair c c'' g g' in
      record { binders = ap (λ z. inside l.under z) t.binders ∙ ap (λ (z : Branch). inside z.under ys) (sym pl); left = t.left; right = t.right }))
      (cases_lt j i))
      (cases_lt i j)

pub pairs_are_one : PairsAreOne
pairs_are_one b free t u p q p' q' xs ys c g c' g' = let s = one_pair b free c c' g g' in (s.binders, s.left, s.right)

pub pairs_disagree : PairsDisagree
pairs_disagree b free t u p q xs c a = differ b free c a
