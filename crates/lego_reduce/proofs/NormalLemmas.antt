-- Normalisation steps of each form, and head steps among them.
use Rattle.std.proofs.Common.{◌≡◌, ℕ, zero, suc, ◌+◌, ◌≤◌, inl, inr, true, Option, Some, None, slice_get, refl, ap, sym, subst, ◌∙◌, arith, Err}
use Rattle.std.specs.Prelude.{option_map, option_and_then}
use Rattle.lego_term.specs.Trees.{Core, Const, Pi, Lam, App, Sigma, Pair, Fst, Snd, Let, Bodies, loose, depth}
use Rattle.lego_term.specs.Sequences.{or_else, contract_app, contract_fst, contract_snd, head_step, normal_step, after}
use Rattle.lego_term.specs.Parts.{Branch, parts_of, part}
use Rattle.lego_term.specs.Numbered.{put_part, is_at_head}
use Rattle.lego_term.specs.declared.binder.Binder.{Binder}
use Rattle.lego_term.specs.declared.binder.Mark.{Mark}
use Rattle.lego_term.specs.declared.level.Level.{Level}
use Rattle.lego_reduce.specs.declared.fault.ReduceFault.{ReduceFault}
use Rattle.lego_reduce.specs.declared.fault.ReduceFault.TheVariants.{Budget, TooLarge, Memory}
use Rattle.lego_reduce.specs.Reduction.{Reduces}
use Rattle.lego_reduce.specs.private.Nesting.{NormalBefore, Arrives, Goes}
use Rattle.lego_reduce.proofs.SequenceLemmas.{after-step}
use Rattle.lego_reduce.proofs.StepLemmas.{from_or_else, from_map}
use Rattle.lego_reduce.proofs.ContextLemmas.{Around, Passes, after_around, part_fault}

no_first : (o p : Option Core) → or_else o p ≡ None → o ≡ None
no_first None p e = refl
no_first (Some x) p e = absurd (cc)

no_second : (f : Core → Core) (o p : Option Core) → or_else o (option_map f p) ≡ None → p ≡ None
no_second f None None e = refl
no_second f None (Some x) e = absurd (cc)
no_second f (Some x) p e = absurd (cc)

neither : (f : Core → Core) (o p : Option Core) → o ≡ None → p ≡ None → or_else o (option_map f p) ≡ None
neither f o p e h = ap (λ x. or_else x (option_map f p)) e ∙ ap (option_map f) h

skip_first : (o p q : Option Core) → o ≡ None → p ≡ q → or_else o p ≡ q
skip_first o p q e h = ap (λ x. or_else x p) e ∙ h

take_first : (o p : Option Core) (v : Core) → o ≡ Some v → or_else o p ≡ Some v
take_first o p v e = ap (λ x. or_else x p) e

app_none : (m n n' : Core) → contract_app m n ≡ None → contract_app m n' ≡ None
app_none (Lam x a m) n n' e = absurd (cc)
app_none _ n n' e = refl

module _ (bodies : Bodies Binder Mark Level) where
  app_parts : (k : Mark) (m n : Core) → head_step bodies (App k m n) ≡ None → (contract_app m n ≡ None) × (head_step bodies m ≡ None)
  app_parts k m n e = (no_first (contract_app m n) _ e, no_second (λ m'. App k m' n) (contract_app m n) (head_step bodies m) e)

  app_stopped : (k : Mark) (m n : Core) → contract_app m n ≡ None → head_step bodies m ≡ None → head_step bodies (App k m n) ≡ None
  app_stopped k m n e h = neither (λ m'. App k m' n) (contract_app m n) (head_step bodies m) e h

  fst_parts : (m : Core) → head_step bodies (Fst m) ≡ None → (contract_fst m ≡ None) × (head_step bodies m ≡ None)
  fst_parts m e = (no_first (contract_fst m) _ e, no_second Fst (contract_fst m) (head_step bodies m) e)

  fst_stopped : (m : Core) → contract_fst m ≡ None → head_step bodies m ≡ None → head_step bodies (Fst m) ≡ None
  fst_stopped m e h = neither Fst (contract_fst m) (head_step bodies m) e h

  snd_parts : (m : Core) → head_step bodies (Snd m) ≡ None → (contract_snd m ≡ None) × (head_step bodies m ≡ None)
  snd_parts m e = (no_first (contract_snd m) _ e, no_second Snd (contract_snd m) (head_step bodies m) e)

  snd_stopped : (m : Core) → contract_snd m ≡ None → head_step bodies m ≡ None → head_step bodies (Snd m) ≡ None
  snd_stopped m e h = neither Snd (contract_snd m) (head_step bodies m) e h

  -- what a step in the parts of a head form leaves as it was
  record Keeps (m v : Core) : Type 0 where
    stays : head_step bodies v ≡ None
    keeps_app : (n : Core) → contract_app m n ≡ None → contract_app v n ≡ None
    keeps_fst : contract_fst m ≡ None → contract_fst v ≡ None
    keeps_snd : contract_snd m ≡ None → contract_snd v ≡ None

  keeps_pi : (m : Core) (x : Binder) (a b v : Core) → Pi x a b ≡ v → Keeps m v
  keeps_pi m x a b v e = record {
    stays = ap (head_step bodies) (sym e);
    keeps_app = λ n h. ap (λ w. contract_app w n) (sym e);
    keeps_fst = λ h. ap contract_fst (sym e);
    keeps_snd = λ h. ap contract_snd (sym e);
  }

  keeps_sigma : (m : Core) (x : Binder) (a b v : Core) → Sigma x a b ≡ v → Keeps m v
  keeps_sigma m x a b v e = record {
    stays = ap (head_step bodies) (sym e);
    keeps_app = λ n h. ap (λ w. contract_app w n) (sym e);
    keeps_fst = λ h. ap contract_fst (sym e);
    keeps_snd = λ h. ap contract_snd (sym e);
  }

  keeps_lam : (y : Binder) (c d : Core) (x : Binder) (a b v : Core) → Lam x a b ≡ v → Keeps (Lam y c d) v
  keeps_lam y c d x a b v e = record {
    stays = ap (head_step bodies) (sym e);
    keeps_app = λ n h. absurd (cc);
    keeps_fst = λ h. ap contract_fst (sym e);
    keeps_snd = λ h. ap contract_snd (sym e);
  }

  keeps_pair : (y : Binder) (c d e f : Core) (x : Binder) (a b m n v : Core) → Pair x a b m n ≡ v → Keeps (Pair y c d e f) v
  keeps_pair y c d e f x a b m n v is = record {
    stays = ap (head_step bodies) (sym is);
    keeps_app = λ n h. ap (λ w. contract_app w n) (sym is);
    keeps_fst = λ h. absurd (cc);
    keeps_snd = λ h. absurd (cc);
  }

  keeps_app_form : (u : Core) (k : Mark) (m n v : Core) → head_step bodies (App k m n) ≡ None → App k m n ≡ v → Keeps u v
  keeps_app_form u k m n v h e = record {
    stays = ap (head_step bodies) (sym e) ∙ h;
    keeps_app = λ n' q. ap (λ w. contract_app w n') (sym e);
    keeps_fst = λ q. ap contract_fst (sym e);
    keeps_snd = λ q. ap contract_snd (sym e);
  }

  keeps_fst_form : (u m v : Core) → head_step bodies (Fst m) ≡ None → Fst m ≡ v → Keeps u v
  keeps_fst_form u m v h e = record {
    stays = ap (head_step bodies) (sym e) ∙ h;
    keeps_app = λ n' q. ap (λ w. contract_app w n') (sym e);
    keeps_fst = λ q. ap contract_fst (sym e);
    keeps_snd = λ q. ap contract_snd (sym e);
  }

  keeps_snd_form : (u m v : Core) → head_step bodies (Snd m) ≡ None → Snd m ≡ v → Keeps u v
  keeps_snd_form u m v h e = record {
    stays = ap (head_step bodies) (sym e) ∙ h;
    keeps_app = λ n' q. ap (λ w. contract_app w n') (sym e);
    keeps_fst = λ q. ap contract_fst (sym e);
    keeps_snd = λ q. ap contract_snd (sym e);
  }

  keeps : (m v : Core) → head_step bodies m ≡ None → normal_step bodies m ≡ Some v → Keeps m v
  keeps (Const k) v h e = absurd (cc)
  keeps (Pi x a b) v h e =
      elim (from_or_else (option_map (λ a'. Pi x a' b) (normal_step bodies a)) _ v e) [
        | inl p ↦ (let w = from_map (λ a'. Pi x a' b) (normal_step bodies a) v p in keeps_pi (Pi x a b) x w.0 b v w.2)
        | inr p ↦ (let w = from_map (λ b'. Pi x a b') (normal_step bodies b) v p in keeps_pi (Pi x a b) x a w.0 v w.2)
      ]
  keeps (Lam x a m) v h e =
      elim (from_or_else (option_map (λ a'. Lam x a' m) (normal_step bodies a)) _ v e) [
        | inl p ↦ (let w = from_map (λ a'. Lam x a' m) (normal_step bodies a) v p in keeps_lam x a m x w.0 m v w.2)
        | inr p ↦ (let w = from_map (λ m'. Lam x a m') (normal_step bodies m) v p in keeps_lam x a m x a w.0 v w.2)
      ]
  keeps (Sigma x a b) v h e =
      elim (from_or_else (option_map (λ a'. Sigma x a' b) (normal_step bodies a)) _ v e) [
        | inl p ↦ (let w = from_map (λ a'. Sigma x a' b) (normal_step bodies a) v p in keeps_sigma (Sigma x a b) x w.0 b v w.2)
        | inr p ↦ (let w = from_map (λ b'. Sigma x a b') (normal_step bodies b) v p in keeps_sigma (Sigma x a b) x a w.0 v w.2)
      ]
  keeps (Pair x a b m n) v h e =
      elim (from_or_else (option_map (λ a'. Pair x a' b m n) (normal_step bodies a)) _ v e) [
        | inl p ↦ (let w = from_map (λ a'. Pair x a' b m n) (normal_step bodies a) v p in keeps_pair x a b m n x w.0 b m n v w.2)
        | inr p ↦ elim (from_or_else (option_map (λ b'. Pair x a b' m n) (normal_step bodies b)) _ v p) [
          | inl q ↦ (let w = from_map (λ b'. Pair x a b' m n) (normal_step bodies b) v q in keeps_pair x a b m n x a w.0 m n v w.2)
          | inr q ↦ elim (from_or_else (option_map (λ m'. Pair x a b m' n) (normal_step bodies m)) _ v q) [
            | inl r ↦ (let w = from_map (λ m'. Pair x a b m' n) (normal_step bodies m) v r in keeps_pair x a b m n x a b w.0 n v w.2)
            | inr r ↦ (let w = from_map (λ n'. Pair x a b m n') (normal_step bodies n) v r in keeps_pair x a b m n x a b m w.0 v w.2)
          ]
        ]
      ]
  keeps (App k m n) v h e =
      let parts = app_parts k m n h in
      elim (from_or_else (head_step bodies (App k m n)) _ v e) [
        | inl p ↦ absurd (cc)
        | inr p ↦ elim (from_or_else (option_map (λ m'. App k m' n) (normal_step bodies m)) _ v p) [
          | inl q ↦
              (let w = from_map (λ m'. App k m' n) (normal_step bodies m) v q in
              let rest = keeps m w.0 parts.1 w.1 in
              keeps_app_form (App k m n) k w.0 n v (app_stopped k w.0 n (rest.keeps_app n parts.0) rest.stays) w.2)
          | inr q ↦
              (let w = from_map (λ n'. App k m n') (normal_step bodies n) v q in
              keeps_app_form (App k m n) k m w.0 v (app_stopped k m w.0 (app_none m n w.0 parts.0) parts.1) w.2)
        ]
      ]
  keeps (Fst m) v h e =
      let parts = fst_parts m h in
      elim (from_or_else (head_step bodies (Fst m)) _ v e) [
        | inl p ↦ absurd (cc)
        | inr p ↦
            (let w = from_map Fst (normal_step bodies m) v p in
            let rest = keeps m w.0 parts.1 w.1 in
            keeps_fst_form (Fst m) w.0 v (fst_stopped w.0 (rest.keeps_fst parts.0) rest.stays) w.2)
      ]
  keeps (Snd m) v h e =
      let parts = snd_parts m h in
      elim (from_or_else (head_step bodies (Snd m)) _ v e) [
        | inl p ↦ absurd (cc)
        | inr p ↦
            (let w = from_map Snd (normal_step bodies m) v p in
            let rest = keeps m w.0 parts.1 w.1 in
            keeps_snd_form (Snd m) w.0 v (snd_stopped w.0 (rest.keeps_snd parts.0) rest.stays) w.2)
      ]
  keeps _ v h e = absurd (cc)

  -- a step of the numbered part of a head form is the next step of the whole, where no part before it has one
  pub part_passes : (t : Core) (i : ℕ) (p : Branch) → slice_get (parts_of t) i ≡ Some p → head_step bodies t ≡ None → NormalBefore bodies i (parts_of t)
      → Passes bodies (λ u. put_part i u t) (λ u. head_step bodies (put_part i u t) ≡ None)
  part_passes (Pi x a c) zero p h s b = record {
    passed = λ u v g e. take_first _ _ (Pi x v c) (ap (option_map (λ z. Pi x z c)) e);
    kept = λ u v g e. refl;
  }
  part_passes (Pi x a c) (suc zero) p h s b = record {
    passed = λ u v g e. skip_first _ _ (Some (Pi x a v)) (ap (option_map (λ z. Pi x z u)) b.0) (ap (option_map (λ z. Pi x a z)) e);
    kept = λ u v g e. refl;
  }
  part_passes (Lam x a c) zero p h s b = record {
    passed = λ u v g e. take_first _ _ (Lam x v c) (ap (option_map (λ z. Lam x z c)) e);
    kept = λ u v g e. refl;
  }
  part_passes (Lam x a c) (suc zero) p h s b = record {
    passed = λ u v g e. skip_first _ _ (Some (Lam x a v)) (ap (option_map (λ z. Lam x z u)) b.0) (ap (option_map (λ z. Lam x a z)) e);
    kept = λ u v g e. refl;
  }
  part_passes (App k m n) zero p h s b = record {
    passed = λ u v g e. skip_first _ _ (Some (App k v n)) g (take_first _ _ (App k v n) (ap (option_map (λ z. App k z n)) e));
    kept = λ u v g e. (let q = app_parts k u n g in let r = keeps u v q.1 e in app_stopped k v n (r.keeps_app n q.0) r.stays);
  }
  part_passes (App k m n) (suc zero) p h s b = record {
    passed = λ u v g e. skip_first _ _ (Some (App k m v)) g (skip_first _ _ (Some (App k m v)) (ap (option_map (λ z. App k z u)) b.0) (ap (option_map (λ z. App k m z)) e));
    kept = λ u v g e. (let q = app_parts k m u g in app_stopped k m v (app_none m u v q.0) q.1);
  }
  part_passes (Sigma x a c) zero p h s b = record {
    passed = λ u v g e. take_first _ _ (Sigma x v c) (ap (option_map (λ z. Sigma x z c)) e);
    kept = λ u v g e. refl;
  }
  part_passes (Sigma x a c) (suc zero) p h s b = record {
    passed = λ u v g e. skip_first _ _ (Some (Sigma x a v)) (ap (option_map (λ z. Sigma x z u)) b.0) (ap (option_map (λ z. Sigma x a z)) e);
    kept = λ u v g e. refl;
  }
  part_passes (Pair x a c m n) zero p h s b = record {
    passed = λ u v g e. take_first _ _ (Pair x v c m n) (ap (option_map (λ z. Pair x z c m n)) e);
    kept = λ u v g e. refl;
  }
  part_passes (Pair x a c m n) (suc zero) p h s b = record {
    passed = λ u v g e. skip_first _ _ (Some (Pair x a v m n)) (ap (option_map (λ z. Pair x z u m n)) b.0) (take_first _ _ (Pair x a v m n) (ap (option_map (λ z. Pair x a z m n)) e));
    kept = λ u v g e. refl;
  }
  part_passes (Pair x a c m n) (suc (suc zero)) p h s b = record {
    passed = λ u v g e. skip_first _ _ (Some (Pair x a c v n)) (ap (option_map (λ z. Pair x z c u n)) b.0) (skip_first _ _ (Some (Pair x a c v n)) (ap (option_map (λ z. Pair x a z u n)) b.1.0) (take_first _ _ (Pair x a c v n) (ap (option_map (λ z. Pair x a c z n)) e)));
    kept = λ u v g e. refl;
  }
  part_passes (Pair x a c m n) (suc (suc (suc zero))) p h s b = record {
    passed = λ u v g e. skip_first _ _ (Some (Pair x a c m v)) (ap (option_map (λ z. Pair x z c m u)) b.0) (skip_first _ _ (Some (Pair x a c m v)) (ap (option_map (λ z. Pair x a z m u)) b.1.0) (skip_first _ _ (Some (Pair x a c m v)) (ap (option_map (λ z. Pair x a c z u)) b.1.1.0) (ap (option_map (λ z. Pair x a c m z)) e)));
    kept = λ u v g e. refl;
  }
  part_passes (Fst m) zero p h s b = record {
    passed = λ u v g e. skip_first _ _ (Some (Fst v)) g (ap (option_map (λ z. Fst z)) e);
    kept = λ u v g e. (let q = fst_parts u g in let r = keeps u v q.1 e in fst_stopped v (r.keeps_fst q.0) r.stays);
  }
  part_passes (Snd m) zero p h s b = record {
    passed = λ u v g e. skip_first _ _ (Some (Snd v)) g (ap (option_map (λ z. Snd z)) e);
    kept = λ u v g e. (let q = snd_parts u g in let r = keeps u v q.1 e in snd_stopped v (r.keeps_snd q.0) r.stays);
  }
  part_passes (Let x m n) i p e s b = absurd (cc)
  part_passes _ _ p h s b = absurd (cc)

  -- the parts up to the numbered one have no step, where those before it have none and its new one has none
  pub part_before : (t : Core) (i : ℕ) (p : Branch) (u : Core) → slice_get (parts_of t) i ≡ Some p → NormalBefore bodies i (parts_of t) → normal_step bodies u ≡ None
      → NormalBefore bodies (suc i) (parts_of (put_part i u t))
  part_before (Pi x a c) zero p u h b e = (e, tt)
  part_before (Pi x a c) (suc zero) p u h b e = (b.0, (e, tt))
  part_before (Lam x a c) zero p u h b e = (e, tt)
  part_before (Lam x a c) (suc zero) p u h b e = (b.0, (e, tt))
  part_before (App k m n) zero p u h b e = (e, tt)
  part_before (App k m n) (suc zero) p u h b e = (b.0, (e, tt))
  part_before (Sigma x a c) zero p u h b e = (e, tt)
  part_before (Sigma x a c) (suc zero) p u h b e = (b.0, (e, tt))
  part_before (Pair x a c m n) zero p u h b e = (e, tt)
  part_before (Pair x a c m n) (suc zero) p u h b e = (b.0, (e, tt))
  part_before (Pair x a c m n) (suc (suc zero)) p u h b e = (b.0, (b.1.0, (e, tt)))
  part_before (Pair x a c m n) (suc (suc (suc zero))) p u h b e = (b.0, (b.1.0, (b.1.1.0, (e, tt))))
  part_before (Fst m) zero p u h b e = (e, tt)
  part_before (Snd m) zero p u h b e = (e, tt)
  part_before (Let x m n) zero p u h b e = (e, tt)
  part_before (Let x m n) (suc zero) p u h b e = (b.0, (e, tt))
  part_before _ _ p u h b e = absurd (cc)

  -- a head form no part of which has a step has none
  pub parts_end : (t : Core) (i : ℕ) → slice_get (parts_of t) i ≡ None → head_step bodies t ≡ None → NormalBefore bodies i (parts_of t) → normal_step bodies t ≡ None
  parts_end (Pi x a c) zero h s b = absurd (cc)
  parts_end (Pi x a c) (suc zero) h s b = absurd (cc)
  parts_end (Pi x a c) (suc (suc i)) h s b = skip_first _ _ None (ap (option_map (λ z. Pi x z c)) b.0) (ap (option_map (λ z. Pi x a z)) b.1.0)
  parts_end (Lam x a c) zero h s b = absurd (cc)
  parts_end (Lam x a c) (suc zero) h s b = absurd (cc)
  parts_end (Lam x a c) (suc (suc i)) h s b = skip_first _ _ None (ap (option_map (λ z. Lam x z c)) b.0) (ap (option_map (λ z. Lam x a z)) b.1.0)
  parts_end (App k m n) zero h s b = absurd (cc)
  parts_end (App k m n) (suc zero) h s b = absurd (cc)
  parts_end (App k m n) (suc (suc i)) h s b = skip_first _ _ None s (skip_first _ _ None (ap (option_map (λ z. App k z n)) b.0) (ap (option_map (λ z. App k m z)) b.1.0))
  parts_end (Sigma x a c) zero h s b = absurd (cc)
  parts_end (Sigma x a c) (suc zero) h s b = absurd (cc)
  parts_end (Sigma x a c) (suc (suc i)) h s b = skip_first _ _ None (ap (option_map (λ z. Sigma x z c)) b.0) (ap (option_map (λ z. Sigma x a z)) b.1.0)
  parts_end (Pair x a c m n) zero h s b = absurd (cc)
  parts_end (Pair x a c m n) (suc zero) h s b = absurd (cc)
  parts_end (Pair x a c m n) (suc (suc zero)) h s b = absurd (cc)
  parts_end (Pair x a c m n) (suc (suc (suc zero))) h s b = absurd (cc)
  parts_end (Pair x a c m n) (suc (suc (suc (suc i)))) h s b = skip_first _ _ None (ap (option_map (λ z. Pair x z c m n)) b.0) (skip_first _ _ None (ap (option_map (λ z. Pair x a z m n)) b.1.0) (skip_first _ _ None (ap (option_map (λ z. Pair x a c z n)) b.1.1.0) (ap (option_map (λ z. Pair x a c m z)) b.1.1.1.0)))
  parts_end (Fst m) zero h s b = absurd (cc)
  parts_end (Fst m) (suc i) h s b = skip_first _ _ None s (ap (option_map (λ z. Fst z)) b.0)
  parts_end (Snd m) zero h s b = absurd (cc)
  parts_end (Snd m) (suc i) h s b = skip_first _ _ None s (ap (option_map (λ z. Snd z)) b.0)
  parts_end (Let x m n) i h s b = absurd (cc)
  parts_end (Const k) i h s b = s
  parts_end _ i h s b = refl

  -- a head step is the next step of normalisation
  head_is_next : (u v : Core) → head_step bodies u ≡ Some v → normal_step bodies u ≡ Some v
  head_is_next (Const k) v e = e
  head_is_next (App k m n) v e = take_first _ _ v e
  head_is_next (Fst m) v e = take_first _ _ v e
  head_is_next (Snd m) v e = take_first _ _ v e
  head_is_next (Let x m n) v e = e
  head_is_next _ v e = absurd (cc)

  pub after_head : (n : ℕ) (t u : Core) → after (head_step bodies) n t ≡ Some u → after (normal_step bodies) n t ≡ Some u
  after_head zero t u e = e
  after_head (suc n) t u e =
      elim (head_step bodies t) as (λ o. head_step bodies t ≡ o → option_and_then (after (head_step bodies) n) o ≡ Some u → after (normal_step bodies) (suc n) t ≡ Some u) [
        | None ↦ λ p q. absurd (cc)
        | Some x ↦ λ p q. after-step (normal_step bodies) n t x (head_is_next t x p) ∙ after_head n x u q
      ] refl e

-- what stands around the numbered part
pub part_around : (t : Core) (i : ℕ) (p : Branch) → slice_get (parts_of t) i ≡ Some p → Around (λ u. put_part i u t)
part_around (Pi x a c) zero p h = record { above = λ u. omega arith; inside = λ u v s. part 0 refl s }
part_around (Pi x a c) (suc zero) p h = record { above = λ u. omega arith; inside = λ u v s. part 1 refl s }
part_around (Lam x a c) zero p h = record { above = λ u. omega arith; inside = λ u v s. part 0 refl s }
part_around (Lam x a c) (suc zero) p h = record { above = λ u. omega arith; inside = λ u v s. part 1 refl s }
part_around (App k m n) zero p h = record { above = λ u. omega arith; inside = λ u v s. part 0 refl s }
part_around (App k m n) (suc zero) p h = record { above = λ u. omega arith; inside = λ u v s. part 1 refl s }
part_around (Sigma x a c) zero p h = record { above = λ u. omega arith; inside = λ u v s. part 0 refl s }
part_around (Sigma x a c) (suc zero) p h = record { above = λ u. omega arith; inside = λ u v s. part 1 refl s }
part_around (Pair x a c m n) zero p h = record { above = λ u. omega arith; inside = λ u v s. part 0 refl s }
part_around (Pair x a c m n) (suc zero) p h = record { above = λ u. omega arith; inside = λ u v s. part 1 refl s }
part_around (Pair x a c m n) (suc (suc zero)) p h = record { above = λ u. omega arith; inside = λ u v s. part 2 refl s }
part_around (Pair x a c m n) (suc (suc (suc zero))) p h = record { above = λ u. omega arith; inside = λ u v s. part 3 refl s }
part_around (Fst m) zero p h = record { above = λ u. omega arith; inside = λ u v s. part 0 refl s }
part_around (Snd m) zero p h = record { above = λ u. omega arith; inside = λ u v s. part 0 refl s }
part_around (Let x m n) zero p h = record { above = λ u. omega arith; inside = λ u v s. part 0 refl s }
part_around (Let x m n) (suc zero) p h = record { above = λ u. omega arith; inside = λ u v s. part 1 refl s }
part_around _ _ p h = absurd (cc)

-- a part put for itself
pub part_same : (t : Core) (i : ℕ) (p : Branch) (u : Core) → slice_get (parts_of t) i ≡ Some p → u ≡ p.term → put_part i u t ≡ t
part_same (Pi x a c) zero p u h e = let s : u ≡ a = cc in ap (λ z. Pi x z c) s
part_same (Pi x a c) (suc zero) p u h e = let s : u ≡ c = cc in ap (λ z. Pi x a z) s
part_same (Lam x a c) zero p u h e = let s : u ≡ a = cc in ap (λ z. Lam x z c) s
part_same (Lam x a c) (suc zero) p u h e = let s : u ≡ c = cc in ap (λ z. Lam x a z) s
part_same (App k m n) zero p u h e = let s : u ≡ m = cc in ap (λ z. App k z n) s
part_same (App k m n) (suc zero) p u h e = let s : u ≡ n = cc in ap (λ z. App k m z) s
part_same (Sigma x a c) zero p u h e = let s : u ≡ a = cc in ap (λ z. Sigma x z c) s
part_same (Sigma x a c) (suc zero) p u h e = let s : u ≡ c = cc in ap (λ z. Sigma x a z) s
part_same (Pair x a c m n) zero p u h e = let s : u ≡ a = cc in ap (λ z. Pair x z c m n) s
part_same (Pair x a c m n) (suc zero) p u h e = let s : u ≡ c = cc in ap (λ z. Pair x a z m n) s
part_same (Pair x a c m n) (suc (suc zero)) p u h e = let s : u ≡ m = cc in ap (λ z. Pair x a c z n) s
part_same (Pair x a c m n) (suc (suc (suc zero))) p u h e = let s : u ≡ n = cc in ap (λ z. Pair x a c m z) s
part_same (Fst m) zero p u h e = let s : u ≡ m = cc in ap (λ z. Fst z) s
part_same (Snd m) zero p u h e = let s : u ≡ m = cc in ap (λ z. Snd z) s
part_same (Let x m n) zero p u h e = let s : u ≡ m = cc in ap (λ z. Let x z n) s
part_same (Let x m n) (suc zero) p u h e = let s : u ≡ n = cc in ap (λ z. Let x m z) s
part_same _ _ p u h e = absurd (cc)

pub part_loose : (t : Core) (i : ℕ) (p : Branch) (u : Core) → slice_get (parts_of t) i ≡ Some p → loose u ≤ loose p.term → loose (put_part i u t) ≤ loose t
part_loose (Pi x a c) zero p u h e = let s : a ≡ p.term = cc in let l : loose a ≡ loose p.term = ap loose s in omega (arith, e, l)
part_loose (Pi x a c) (suc zero) p u h e = let s : c ≡ p.term = cc in let l : loose c ≡ loose p.term = ap loose s in omega (arith, e, l)
part_loose (Lam x a c) zero p u h e = let s : a ≡ p.term = cc in let l : loose a ≡ loose p.term = ap loose s in omega (arith, e, l)
part_loose (Lam x a c) (suc zero) p u h e = let s : c ≡ p.term = cc in let l : loose c ≡ loose p.term = ap loose s in omega (arith, e, l)
part_loose (App k m n) zero p u h e = let s : m ≡ p.term = cc in let l : loose m ≡ loose p.term = ap loose s in omega (arith, e, l)
part_loose (App k m n) (suc zero) p u h e = let s : n ≡ p.term = cc in let l : loose n ≡ loose p.term = ap loose s in omega (arith, e, l)
part_loose (Sigma x a c) zero p u h e = let s : a ≡ p.term = cc in let l : loose a ≡ loose p.term = ap loose s in omega (arith, e, l)
part_loose (Sigma x a c) (suc zero) p u h e = let s : c ≡ p.term = cc in let l : loose c ≡ loose p.term = ap loose s in omega (arith, e, l)
part_loose (Pair x a c m n) zero p u h e = let s : a ≡ p.term = cc in let l : loose a ≡ loose p.term = ap loose s in omega (arith, e, l)
part_loose (Pair x a c m n) (suc zero) p u h e = let s : c ≡ p.term = cc in let l : loose c ≡ loose p.term = ap loose s in omega (arith, e, l)
part_loose (Pair x a c m n) (suc (suc zero)) p u h e = let s : m ≡ p.term = cc in let l : loose m ≡ loose p.term = ap loose s in omega (arith, e, l)
part_loose (Pair x a c m n) (suc (suc (suc zero))) p u h e = let s : n ≡ p.term = cc in let l : loose n ≡ loose p.term = ap loose s in omega (arith, e, l)
part_loose (Fst m) zero p u h e = let s : m ≡ p.term = cc in let l : loose m ≡ loose p.term = ap loose s in omega (arith, e, l)
part_loose (Snd m) zero p u h e = let s : m ≡ p.term = cc in let l : loose m ≡ loose p.term = ap loose s in omega (arith, e, l)
part_loose (Let x m n) zero p u h e = let s : m ≡ p.term = cc in let l : loose m ≡ loose p.term = ap loose s in omega (arith, e, l)
part_loose (Let x m n) (suc zero) p u h e = let s : n ≡ p.term = cc in let l : loose n ≡ loose p.term = ap loose s in omega (arith, e, l)
part_loose _ _ p u h e = absurd (cc)

module _ (bodies : Bodies Binder Mark Level) where
  pub head_fault : (t : Core) (limit nest : ℕ) (e : ReduceFault) → Reduces (head_step bodies) t limit (Err e) → Goes bodies t limit nest (Err e)
  head_fault t limit nest Budget h = (h.0, after_head bodies (suc limit) t h.0 h.1)
  head_fault t limit nest (TooLarge i j) h = (h.0, h.1, h.2, after_head bodies h.0 t h.1 h.3, h.4)
  head_fault t limit nest Memory h = tt

  -- the part where a head step of a head form may be made is a head form
  pub part_stopped : (t : Core) (i : ℕ) (p : Branch) → slice_get (parts_of t) i ≡ Some p → head_step bodies t ≡ None → is_at_head t i ≡ true → head_step bodies p.term ≡ None
  part_stopped (App k m n) zero p h s e = let same : m ≡ p.term = cc in ap (head_step bodies) (sym same) ∙ (app_parts bodies k m n s).1
  part_stopped (Fst m) zero p h s e = let same : m ≡ p.term = cc in ap (head_step bodies) (sym same) ∙ (fst_parts bodies m s).1
  part_stopped (Snd m) zero p h s e = let same : m ≡ p.term = cc in ap (head_step bodies) (sym same) ∙ (snd_parts bodies m s).1
  part_stopped _ _ p h s e = absurd (cc)

  -- what the whole comes to behind its numbered part
  pub record Behind (t : Core) (i limit nest k : ℕ) (w : Core) : Type 0 where
    pub there : after (normal_step bodies) k t ≡ Some w
    pub within : k ≤ limit
    pub stopped : head_step bodies w ≡ None
    pub before : nest + depth w ≤ 2000 → NormalBefore bodies (i + 1) (parts_of w)
    pub narrow : loose w ≤ loose t

  pub part_behind : (t : Core) (i : ℕ) (p : Branch) (u w : Core) (limit nest k : ℕ) → slice_get (parts_of t) i ≡ Some p → head_step bodies t ≡ None
      → NormalBefore bodies i (parts_of t) → Arrives (normal_step bodies) p.term limit (nest + 1) u k → loose u ≤ loose p.term → w ≡ put_part i u t
      → Behind t i limit nest k w
  part_behind t i p u w limit nest k h s b a l is =
      let own : put_part i p.term t ≡ t = part_same t i p p.term h refl in
      let there = after_around bodies (λ z. put_part i z t) (λ z. head_step bodies (put_part i z t) ≡ None) (part_passes bodies t i p h s b) k p.term u (ap (head_step bodies) own ∙ s) a.0 in
      let around = part_around t i p h in
      let more : suc i ≡ i + 1 = omega arith in
      subst (Behind t i limit nest k) (sym is) (record {
        there = ap (after (normal_step bodies) k) (sym own) ∙ there.0;
        within = a.1;
        stopped = there.1;
        before = λ d. subst (λ j. NormalBefore bodies j (parts_of (put_part i u t))) more (part_before bodies t i p u h b (a.2 (omega (arith, d, around.above u))));
        narrow = part_loose t i p u h l;
      })

  -- where the sequence of the part ends, that of the whole does
  pub part_ends : (t : Core) (i : ℕ) (p : Branch) (limit nest : ℕ) (e : ReduceFault) → slice_get (parts_of t) i ≡ Some p → head_step bodies t ≡ None
      → NormalBefore bodies i (parts_of t) → Goes bodies p.term limit (nest + 1) (Err e) → Goes bodies t limit nest (Err e)
  part_ends t i p limit nest e h s b g =
      let own : put_part i p.term t ≡ t = part_same t i p p.term h refl in
      subst (λ z. Goes bodies z limit nest (Err e)) own
      (part_fault bodies (λ z. put_part i z t) (λ z. head_step bodies (put_part i z t) ≡ None) (part_passes bodies t i p h s b) p.term limit nest e (part_around t i p h) (ap (head_step bodies) own ∙ s) g)

  -- a part without steps stays
  pub part_stays : (t : Core) (i : ℕ) (p : Branch) (u : Core) (limit nest k : ℕ) → slice_get (parts_of t) i ≡ Some p → Arrives (normal_step bodies) p.term limit nest u k
      → k ≡ 0 → put_part i u t ≡ t
  part_stays t i p u limit nest k h a e =
      let start : after (normal_step bodies) 0 p.term ≡ Some u = ap (λ n. after (normal_step bodies) n p.term) (sym e) ∙ a.0 in
      part_same t i p u h (cc)
