-- Bodies for free holes keep the head forms that have no free hole at the head, so a clash stays.
use Rattle.std.proofs.Common.{◌≡◌, ℕ, zero, suc, Option, Some, None, option_map, List, IsFalse, inl, inr, refl, sym, ap, ◌∙◌}
use Rattle.std.specs.Option.{is_some}
use Rattle.lego_term.specs.declared.binder.Binder.{Binder}
use Rattle.lego_term.specs.Trees.{Core, Var, Const, Prop, Univ, Pi, Lam, App, Sigma, Pair, Fst, Snd, Let}
use Rattle.lego_term.specs.Parts.{Shape, shape_of}
use Rattle.lego_term.specs.Sequences.{or_else, contract_app, contract_fst, contract_snd, head_step, after, HeadForm, NormalForm}
use Rattle.lego_laws.specs.Parallel.{CoreBodies}
use Rattle.lego_laws.specs.HeadForms.{IsHeadForm}
use Rattle.lego_laws.proofs.lemmas.reduction.After.{next, after_one}
use Rattle.lego_laws.proofs.lemmas.reduction.HeadSteps.{either_some, mapped_from}
use Rattle.lego_laws.proofs.lemmas.reduction.Stuck.{app_stuck, app_stands, fst_stuck, fst_stands, snd_stuck, snd_stands}
use Rattle.lego_match.specs.Agreement.{Agree, AgreeIn}
use Rattle.lego_match.specs.Holes.{FreeHoles, has_free_head}
use Rattle.lego_match.specs.Pairs.{Corresponds, here, turn}
use Rattle.lego_match.specs.Answers.{Clashes}
use Rattle.lego_match.specs.Fillings.{Fills, ClashesAreFinal}
use Rattle.lego_match.proofs.AgreementLemmas.{agree_shapes}
use Rattle.lego_match.proofs.FormLemmas.{Ended, ended, head_of_normal}
use Rattle.lego_match.proofs.HoleLemmas.{same_free_head}
use Rattle.lego_match.proofs.AgreeingLemmas.{agree_inside, agree_as_leaves}

no_value : (o : Option ℕ) → IsFalse (is_some o) → o ≡ None
no_value None e = refl
no_value (Some x) e = cc

module _ (b b' : CoreBodies) (free : FreeHoles) (fills : Fills free b b') where
  -- a head step is one with more bodies too
  in_function : (F : Core → Core) (first : Option Core) (m u : Core) → ((v : Core) → head_step b m ≡ Some v → head_step b' m ≡ Some v)
      → or_else first (option_map F (head_step b m)) ≡ Some u → or_else first (option_map F (head_step b' m)) ≡ Some u
  in_function F first m u go e =
      elim (either_some first (option_map F (head_step b m)) u e) [
        | inl p ↦ ap (λ o. or_else o (option_map F (head_step b' m))) p
        | inr p ↦
            (let k = mapped_from F (head_step b m) u p.1 in
            ap (λ o. or_else o (option_map F (head_step b' m))) p.0 ∙ (ap (option_map F) (go k.0 k.1) ∙ ap Some k.2))
      ]

  step_kept : (t u : Core) → head_step b t ≡ Some u → head_step b' t ≡ Some u
  step_kept (Const k) u e = fills.kept k u e
  step_kept (App x m n) u e = in_function (λ z. App x z n) (contract_app m n) m u (λ v. step_kept m v) e
  step_kept (Fst m) u e = in_function Fst (contract_fst m) m u (λ v. step_kept m v) e
  step_kept (Snd m) u e = in_function Snd (contract_snd m) m u (λ v. step_kept m v) e
  step_kept (Let x m n) u e = e
  step_kept _ u e = cc

  after_kept : (n : ℕ) (t u : Core) → after (head_step b) n t ≡ Some u → after (head_step b') n t ≡ Some u
  after_kept zero t u e = e
  after_kept (suc n) t u e =
      let k = next (head_step b) n (head_step b t) u e in
      after_one (head_step b') n t k.0 u (step_kept t k.0 k.1) (after_kept n k.0 u k.2)

  stuck_kept : (h : Core) → IsFalse (has_free_head free h) → IsHeadForm b h → IsHeadForm b' h
  stuck_kept (Const k) f e = fills.others k (no_value (free k) f) ∙ e
  stuck_kept (App x m n) f e = let s = app_stuck b x m n e in app_stands b' x m n (stuck_kept m f s.0) s.1
  stuck_kept (Fst m) f e = let s = fst_stuck b m e in fst_stands b' m (stuck_kept m f s.0) s.1
  stuck_kept (Snd m) f e = let s = snd_stuck b m e in snd_stands b' m (stuck_kept m f s.0) s.1
  stuck_kept (Let x m n) f e = e
  stuck_kept (Var i) f e = refl
  stuck_kept Prop f e = refl
  stuck_kept (Univ l) f e = refl
  stuck_kept (Pi x a r) f e = refl
  stuck_kept (Lam x a r) f e = refl
  stuck_kept (Sigma x a r) f e = refl
  stuck_kept (Pair x a r m n) f e = refl

  head_kept : (t h : Core) → IsFalse (has_free_head free h) → HeadForm b t h → HeadForm b' t h
  head_kept t h f m = (m.0, record { reaches = after_kept m.0 t h m.1.reaches; last = stuck_kept h f m.1.last })

  still_apart : {t u p q : Core} {xs : List Binder} → Corresponds b free t u xs p q → Clashes free p q → AgreeIn b' t u → ⊥
  still_apart (turn {t = t} {u = u} {h = h} {k = k} {l = l} {r = r} i m n fh fk sh sk lx rx before c) x a =
      still_apart c x (agree_inside b' a h k (head_kept t h fh m) (head_kept u k fk n) i l r lx rx)
  still_apart (here {t = t} {u = u} {p = p} {q = q} m n d) x a = by_shape (shape_of h) refl
    where
      l : (h : Core) × HeadForm b t h × NormalForm b h p
      l = head_of_normal b m.0 t p m.1

      r : (k : Core) × HeadForm b u k × NormalForm b k q
      r = head_of_normal b n.0 u q n.1

      h : Core
      h = l.0

      k : Core
      k = r.0

      from_left : Ended b h p
      from_left = ended b h p l.1.1.last l.2

      from_right : Ended b k q
      from_right = ended b k q r.1.1.last r.2

      at_roots : Agree h k
      at_roots =
          agree_as_leaves b' a h k (head_kept t h (sym (same_free_head free p h from_left.head) ∙ x.left) l.1) (head_kept u k (sym (same_free_head free q k from_right.head) ∙ x.right) r.1)
          (λ s e f. x.forms s (from_left.shape ∙ e) (from_right.shape ∙ f))

      by_shape : (o : Option Shape) → shape_of h ≡ o → ⊥
      by_shape None z = d (rw (from_left.leaf z, from_right.leaf (sym (agree_shapes h k at_roots) ∙ z)) at_roots)
      by_shape (Some s) z = x.forms s (from_left.shape ∙ z) (from_right.shape ∙ (sym (agree_shapes h k at_roots) ∙ z))

pub clashes_are_final : ClashesAreFinal
clashes_are_final b b' free t u p q xs fills c x a = still_apart b b' free fills c x a
