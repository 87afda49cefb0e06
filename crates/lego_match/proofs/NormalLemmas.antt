-- The corresponding pair of two terms is that of their normal forms.
use Rattle.std.proofs.Common.{◌≡◌, ℕ, Some, None, List, slice_get, IsFalse, refl, sym, ◌∙◌, subst, arith}
use Rattle.lego_term.specs.declared.binder.Binder.{Binder}
use Rattle.lego_term.specs.Trees.{Core}
use Rattle.lego_term.specs.Parts.{shape_of, parts_of}
use Rattle.lego_term.specs.Sequences.{normal_step, after, HeadForm, NormalForm}
use Rattle.lego_laws.specs.Parallel.{CoreBodies}
use Rattle.lego_laws.proofs.lemmas.reduction.After.{at_most}
use Rattle.lego_laws.proofs.lemmas.comparison.Counted.{head_after}
use Rattle.lego_match.specs.Holes.{FreeHoles, has_free_head}
use Rattle.lego_match.specs.Agreement.{AgreeIn, in_normal_forms}
use Rattle.lego_match.specs.Pairs.{AgreeBefore, inside, Corresponds, here, turn, PairsAreOfNormalForms}
use Rattle.lego_match.proofs.FormLemmas.{Ended, ended, facing, behind_heads, end_is_head, head_of_normal}
use Rattle.lego_match.proofs.HoleLemmas.{same_free_head}
use Rattle.lego_match.proofs.AgreeingLemmas.{one_normal, agree_at_ends}

module _ (b : CoreBodies) where
  itself : (t e : Core) → NormalForm b t e → NormalForm b e e
  itself t e x = (0, record { reaches = refl; last = x.1.last })

  -- the parts of head forms agree where those of their normal forms do, and the other way round
  before_normal : (i : ℕ) (h k e f : Core) → Ended b h e → Ended b k f → AgreeBefore b i e f → AgreeBefore b i h k
  before_normal i h k e f d g a j l r lt x y =
      let u = facing b h e d j l x in
      let v = facing b k f g j r y in
      in_normal_forms u.normal v.normal
      (agree_at_ends b (a j u.part v.part lt u.stands v.stands) u.part.term v.part.term (itself l.term u.part.term u.normal) (itself r.term v.part.term v.normal))

  after_normal : (i : ℕ) (h k e f : Core) → Ended b h e → Ended b k f → AgreeBefore b i h k → AgreeBefore b i e f
  after_normal i h k e f d g a j l r lt x y =
      let u = d.parts j l x in
      let v = g.parts j r y in
      in_normal_forms (itself u.0.term l.term u.2) (itself v.0.term r.term v.2) (agree_at_ends b (a j u.0 v.0 lt u.1 v.1) l.term r.term u.2 v.2)

  -- a normal form is its own head form
  normal_head : (t h : Core) → normal_step b t ≡ None → HeadForm b t h → h ≡ t
  normal_head t h e p =
      let a = head_after b p.0 t h p.1.reaches in
      let l = at_most (normal_step b) 0 p.0 t t refl e (h, a) in
      let none : p.0 ≡ 0 = omega arith in
      let r : after (normal_step b) 0 t ≡ Some h = subst (λ n. after (normal_step b) n t ≡ Some h) none a in
      let same : t ≡ h = cc r in
      sym same

  module _ (free : FreeHoles) where
    same_head : (h e : Core) → Ended b h e → IsFalse (has_free_head free h) → IsFalse (has_free_head free e)
    same_head h e d f = same_free_head free e h d.head ∙ f

    other_head : (h e : Core) → Ended b h e → IsFalse (has_free_head free e) → IsFalse (has_free_head free h)
    other_head h e d f = sym (same_free_head free e h d.head) ∙ f

    -- the pair of two normal forms is that of the terms
    pub pair_of_terms : {e f p q : Core} {xs : List Binder} → Corresponds b free e f xs p q → (t u : Core) → NormalForm b t e → NormalForm b u f → Corresponds b free t u xs p q
    pair_of_terms (here {t = e} {u = f} {p = p} {q = q} m n d) t u x y =
        here (subst (λ z. NormalForm b t z) (one_normal b e e p (itself t e x) m) x) (subst (λ z. NormalForm b u z) (one_normal b f f q (itself u f y) n) y) d
    pair_of_terms (turn {t = e} {u = f} {h = h} {k = k} {p = p} {q = q} {s = s} {l = l} {r = r} {xs = xs} i m n fh fk sh sk lx rx before c) t u x y =
        let eh = normal_head e h x.1.last m in
        let ek = normal_head f k y.1.last n in
        let a = head_of_normal b x.0 t e x.1 in
        let c' = head_of_normal b y.0 u f y.1 in
        let d = ended b a.0 e a.1.1.last a.2 in
        let g = ended b c'.0 f c'.1.1.last c'.2 in
        let v = d.parts i l (subst (λ z. slice_get (parts_of z) i ≡ Some l) eh lx) in
        let w = g.parts i r (subst (λ z. slice_get (parts_of z) i ≡ Some r) ek rx) in
        subst (λ z. Corresponds b free t u (inside z xs) p q) v.3
        (turn i a.1 c'.1 (other_head a.0 e d (subst (λ z. IsFalse (has_free_head free z)) eh fh)) (other_head c'.0 f g (subst (λ z. IsFalse (has_free_head free z)) ek fk))
        (sym d.shape ∙ subst (λ z. shape_of z ≡ Some s) eh sh) (sym g.shape ∙ subst (λ z. shape_of z ≡ Some s) ek sk) v.1 w.1
        (before_normal i a.0 c'.0 e f d g (subst (λ z. AgreeBefore b i e z) ek (subst (λ z. AgreeBefore b i z k) eh before)))
        (pair_of_terms c v.0.term w.0.term v.2 w.2))

    -- and the other way round
    pub pair_of_normal : {t u p q : Core} {xs : List Binder} → Corresponds b free t u xs p q → (e f : Core) → NormalForm b t e → NormalForm b u f → Corresponds b free e f xs p q
    pair_of_normal (here {t = t} {u = u} {p = p} {q = q} m n d) e f x y =
        here (subst (λ z. NormalForm b z p) (one_normal b t p e m x) (itself t p m)) (subst (λ z. NormalForm b z q) (one_normal b u q f n y) (itself u q n)) d
    pair_of_normal (turn {t = t} {u = u} {h = h} {k = k} {p = p} {q = q} {s = s} {l = l} {r = r} {xs = xs} i m n fh fk sh sk lx rx before c) e f x y =
        let d = ended b h e m.1.last (behind_heads b m.0 t h e m.1.reaches x) in
        let g = ended b k f n.1.last (behind_heads b n.0 u k f n.1.reaches y) in
        let v = facing b h e d i l lx in
        let w = facing b k f g i r rx in
        subst (λ z. Corresponds b free e f (inside z xs) p q) (sym v.under)
        (turn i (0, record { reaches = refl; last = end_is_head b e x.1.last }) (0, record { reaches = refl; last = end_is_head b f y.1.last })
        (same_head h e d fh) (same_head k f g fk) (d.shape ∙ sh) (g.shape ∙ sk) v.stands w.stands
        (after_normal i h k e f d g before)
        (pair_of_normal c v.part.term w.part.term v.normal w.normal))

  -- where the normal forms agree, the terms do
  pub agree_of_terms : (t u e f : Core) → NormalForm b t e → NormalForm b u f → AgreeIn b e f → AgreeIn b t u
  agree_of_terms t u e f x y a = in_normal_forms x y (agree_at_ends b a e f (itself t e x) (itself u f y))

pub pairs_are_of_normal_forms : PairsAreOfNormalForms
pairs_are_of_normal_forms b free t u p q t' u' xs c x y = pair_of_normal b free c t' u' x y
