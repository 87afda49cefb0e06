-- When two terms agree: where both have normal forms, behind head steps, and in the parts of their head forms.
use Rattle.std.proofs.Common.{◌≡◌, ℕ, ◌+◌, true, Option, Some, None, slice_get, refl, sym, ap, ◌∙◌, subst}
use Rattle.lego_term.specs.Trees.{Core, Var, Const, Prop, Univ, Let}
use Rattle.lego_term.specs.Parts.{Shape, ALet, shape_of, Branch, parts_of}
use Rattle.lego_term.specs.Sequences.{head_step, normal_step, after, HeadForm, NormalForm}
use Rattle.lego_laws.specs.Parallel.{CoreBodies}
use Rattle.lego_laws.specs.HeadForms.{IsHeadForm}
use Rattle.lego_laws.proofs.lemmas.reduction.After.{after_add}
use Rattle.lego_match.specs.Agreement.{Agree, AgreeIn, but_for_levels, in_normal_forms, in_parts, AgreementIsOfNormalForms}
use Rattle.lego_match.specs.private.Codes.{agree_at_root}
use Rattle.lego_match.specs.private.Walks.{AllAgree}
use Rattle.lego_match.proofs.AgreementLemmas.{levels_aside, parts_agree, shapes_agree, root_shapes, agree_shapes, agree_parts, level_parts}
use Rattle.lego_match.proofs.FormLemmas.{Ended, ended, facing, behind_heads, before_heads}
use Rattle.lego_match.proofs.LevelLemmas.{one_end, levels_agree, level_heads}

module _ (b : CoreBodies) where
  pub one_normal : (t p q : Core) → NormalForm b t p → NormalForm b t q → p ≡ q
  one_normal t p q x y = one_end (normal_step b) t p q x.0 y.0 x.1 y.1

  pub one_head : (t h k : Core) → HeadForm b t h → HeadForm b t k → h ≡ k
  one_head t h k x y = one_end (head_step b) t h k x.0 y.0 x.1 y.1

  pub no_local : (h : Core) → IsHeadForm b h → shape_of h ≡ Some ALet → ⊥
  no_local (Let x m n) s e = cc
  no_local _ s e = cc

  same_root : (h k p q : Core) → IsHeadForm b h → Ended b h p → Ended b k q → agree_at_root h k ≡ true → agree_at_root p q ≡ true
  same_root h k p q s l r e = by_shape (shape_of h) refl
    where
      by_shape : (o : Option Shape) → shape_of h ≡ o → agree_at_root p q ≡ true
      by_shape None z = rw (l.leaf z, r.leaf (sym (root_shapes h k e) ∙ z)) e
      by_shape (Some f) z = shapes_agree p q f (l.shape ∙ z) (r.shape ∙ (sym (root_shapes h k e) ∙ z)) (λ y. no_local h s (z ∙ ap Some y))

  -- the normal forms of two terms that agree agree
  pub agree_at_ends : {t u : Core} → AgreeIn b t u → (p q : Core) → NormalForm b t p → NormalForm b u q → Agree p q
  agree_at_ends (but_for_levels {t = t} {u = u} e) p q x y = levels_agree b t u p q e x y
  agree_at_ends (in_normal_forms {t = t} {u = u} {p = p'} {q = q'} m n a) p q x y = rw (one_normal t p p' x m, one_normal u q q' y n) a
  agree_at_ends (in_parts {t = t} {u = u} {h = h} {k = k} {s = s} m n sh sk all) p q x y =
      let l = ended b h p m.1.last (behind_heads b m.0 t h p m.1.reaches x) in
      let r = ended b k q n.1.last (behind_heads b n.0 u k q n.1.reaches y) in
      let root = shapes_agree h k s sh sk (λ z. no_local h m.1.last (sh ∙ ap Some z)) in
      parts_agree p q (same_root h k p q m.1.last l r root) (λ j v w lx rx.
      (let i = l.parts j v lx in let o = r.parts j w rx in agree_at_ends (all j i.0 o.0 i.1 o.1) v.term w.term i.2 o.2))

  -- a head form without parts is a normal form
  leaf_end : (h : Core) → IsHeadForm b h → shape_of h ≡ None → NormalForm b h h
  leaf_end (Var i) s e = (0, record { reaches = refl; last = refl })
  leaf_end (Const k) s e = (0, record { reaches = refl; last = s })
  leaf_end Prop s e = (0, record { reaches = refl; last = refl })
  leaf_end (Univ l) s e = (0, record { reaches = refl; last = refl })
  leaf_end _ s e = cc

  no_part : (t : Core) (j : ℕ) (l : Branch) → shape_of t ≡ None → slice_get (parts_of t) j ≡ Some l → ⊥
  no_part (Var i) j l z x = cc
  no_part (Const i) j l z x = cc
  no_part Prop j l z x = cc
  no_part (Univ i) j l z x = cc
  no_part _ j l z x = cc

  itself : (h : Core) → IsHeadForm b h → HeadForm b h h
  itself h s = (0, record { reaches = refl; last = s })

  -- head forms agree where their roots and all their parts do
  pub forms_agree : (h k : Core) → IsHeadForm b h → IsHeadForm b k → agree_at_root h k ≡ true → AllAgree b h k → AgreeIn b h k
  forms_agree h k s s' e all = by_shape (shape_of h) refl
    where
      by_shape : (o : Option Shape) → shape_of h ≡ o → AgreeIn b h k
      by_shape None z =
          let x = leaf_end h s z in
          let y = leaf_end k s' (sym (root_shapes h k e) ∙ z) in
          in_normal_forms x y (parts_agree h k e (λ j l r lx rx. absurd (no_part h j l z lx)))
      by_shape (Some f) z = in_parts (itself h s) (itself k s') z (sym (root_shapes h k e) ∙ z) all

  -- terms agree where their head forms do
  pub heads_agree : (i j : ℕ) (t u h k : Core) → after (head_step b) i t ≡ Some h → after (head_step b) j u ≡ Some k → IsHeadForm b h → IsHeadForm b k → AgreeIn b h k → AgreeIn b t u
  heads_agree i j t u h k x y s s' (but_for_levels e) = by_shape (shape_of h) refl
    where
      by_shape : (o : Option Shape) → shape_of h ≡ o → AgreeIn b t u
      by_shape None z =
          let l = leaf_end h s z in
          let r = leaf_end k s' (sym (agree_shapes h k (levels_aside h k e)) ∙ z) in
          in_normal_forms (before_heads b i t h h x l) (before_heads b j u k k y r) (levels_aside h k e)
      by_shape (Some f) z =
          in_parts (i, record { reaches = x; last = s }) (j, record { reaches = y; last = s' }) z (sym (agree_shapes h k (levels_aside h k e)) ∙ z)
          (λ m l r lx rx. but_for_levels (level_parts h k m l r e lx rx))
  heads_agree i j t u h k x y s s' (in_normal_forms {p = p} {q = q} m n a) = in_normal_forms (before_heads b i t h p x m) (before_heads b j u k q y n) a
  heads_agree i j t u h k x y s s' (in_parts {h = h'} {k = k'} m n sh sk all) =
      in_parts (i + m.0, record { reaches = after_add (head_step b) i m.0 t h h' x m.1.reaches; last = m.1.last })
      (j + n.0, record { reaches = after_add (head_step b) j n.0 u k k' y n.1.reaches; last = n.1.last }) sh sk all

  -- where two terms agree, the parts of their head forms do
  pub agree_inside : {t u : Core} → AgreeIn b t u → (h k : Core) → HeadForm b t h → HeadForm b u k → (i : ℕ) (l r : Branch) → slice_get (parts_of h) i ≡ Some l → slice_get (parts_of k) i ≡ Some r → AgreeIn b l.term r.term
  agree_inside (but_for_levels {t = t} {u = u} e) h k m n i l r x y = but_for_levels (level_parts h k i l r (level_heads b t u h k e m n) x y)
  agree_inside (in_normal_forms {t = t} {u = u} {p = p} {q = q} v w a) h k m n i l r x y =
      let f = facing b h p (ended b h p m.1.last (behind_heads b m.0 t h p m.1.reaches v)) i l x in
      let g = facing b k q (ended b k q n.1.last (behind_heads b n.0 u k q n.1.reaches w)) i r y in
      in_normal_forms f.normal g.normal (agree_parts p q i f.part g.part a f.stands g.stands)
  agree_inside (in_parts {t = t} {u = u} {h = h'} {k = k'} m' n' sh sk all) h k m n i l r x y =
      all i l r (subst (λ z. slice_get (parts_of z) i ≡ Some l) (one_head t h h' m m') x) (subst (λ z. slice_get (parts_of z) i ≡ Some r) (one_head u k k' n n') y)

  -- where two terms agree, their head forms have one form with parts, or agree
  pub agree_as_leaves : {t u : Core} → AgreeIn b t u → (h k : Core) → HeadForm b t h → HeadForm b u k → ((s : Shape) → shape_of h ≡ Some s → shape_of k ≡ Some s → ⊥) → Agree h k
  agree_as_leaves (but_for_levels {t = t} {u = u} e) h k m n apart = levels_aside h k (level_heads b t u h k e m n)
  agree_as_leaves (in_normal_forms {t = t} {u = u} {p = p} {q = q} v w a) h k m n apart = by_shape (shape_of h) refl
    where
      l : Ended b h p
      l = ended b h p m.1.last (behind_heads b m.0 t h p m.1.reaches v)

      r : Ended b k q
      r = ended b k q n.1.last (behind_heads b n.0 u k q n.1.reaches w)

      one_form : shape_of h ≡ shape_of k
      one_form = sym l.shape ∙ agree_shapes p q a ∙ r.shape

      by_shape : (o : Option Shape) → shape_of h ≡ o → Agree h k
      by_shape None z = rw (← l.leaf z, ← r.leaf (sym one_form ∙ z)) a
      by_shape (Some s) z = absurd (apart s z (sym one_form ∙ z))
  agree_as_leaves (in_parts {t = t} {u = u} {h = h'} {k = k'} {s = s} m' n' sh sk all) h k m n apart =
      absurd (apart s (ap shape_of (one_head t h h' m m') ∙ sh) (ap shape_of (one_head u k k' n n') ∙ sk))

pub agreement_is_of_normal_forms : AgreementIsOfNormalForms
agreement_is_of_normal_forms b t u p q x y = (λ a. agree_at_ends b a p q x y, λ a. in_normal_forms x y a)
