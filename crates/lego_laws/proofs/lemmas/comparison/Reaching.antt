-- What the sequences of a head form's parts reach, and where they end.
use Rattle.std.proofs.Common.{◌≡◌, ℕ, Option, Some, None, List, [], ◌∷◌, ◌++◌, refl}
use Rattle.lego_term.specs.declared.binder.Binder.{Binder}
use Rattle.lego_term.specs.declared.binder.Mark.{Mark}
use Rattle.lego_term.specs.Trees.{Core, Var, Const, Prop, Univ, Pi, Lam, App, Sigma, Pair, Fst, Snd, Let}
use Rattle.lego_term.specs.Parts.{Branch, parts_of}
use Rattle.lego_term.specs.Sequences.{normal_step, after, Ends}
use Rattle.lego_laws.specs.Parallel.{CoreBodies}
use Rattle.lego_laws.specs.HeadForms.{IsHeadForm}
use Rattle.lego_laws.specs.Counting.{PartsReach, unmoved, within, behind, PartsEnd, no_part, one_more, PartsAreReached, PartsEndTogether}
use Rattle.lego_laws.proofs.lemmas.reduction.After.{after_add, after_inside}
use Rattle.lego_laws.proofs.lemmas.reduction.NormalSteps.{IsFunction, IsOperand, in_function, in_argument, in_fst, in_snd}
use Rattle.lego_laws.proofs.lemmas.reduction.Stuck.{app_stuck, app_stands, fst_stuck, fst_stands, snd_stuck, snd_stands}

module _ (b : CoreBodies) where
  abbrev branch : Option Binder → Core → Branch
  branch o m = record { under = o; term = m }

  record Reached (t : Core) (n : ℕ) (qs : List Branch) : Type 0 where
    u : Core
    steps : after (normal_step b) n t ≡ Some u
    parts : parts_of u ≡ qs

  -- where a whole's sequence ends, and its parts there
  record Ended (t : Core) (n : ℕ) (qs : List Branch) : Type 0 where
    u : Core
    ends : Ends (normal_step b) t n u
    parts : parts_of u ≡ qs

  -- One part of a whole: F puts it in, P is kept of it, o is its binder, and the parts pre stand before it.
  module _ (pre : List Branch) (F : Core → Core) (P : Core → Type 0) (inside : (t u : Core) → P t → normal_step b t ≡ Some u → (normal_step b (F t) ≡ Some (F u)) × P u) (o : Option Binder) where
    reach : (ps : List Branch) → ((u : Core) → parts_of (F u) ≡ pre ++ (branch o u ∷ ps)) → (t : Core) → P t → ((u : Core) → P u → normal_step b u ≡ None → (m : ℕ) (qs : List Branch) → PartsReach b ps m qs → Reached (F u) m (pre ++ (branch o u ∷ qs))) → {n : ℕ} {qs : List Branch} → PartsReach b (branch o t ∷ ps) n qs → Reached (F t) n (pre ++ qs)
    reach ps parts t p rest unmoved = record { u = F t; steps = refl; parts = parts t }
    reach ps parts t p rest (within i {u = u} e) = record { u = F u; steps = (after_inside (normal_step b) F P inside i t u p e).0; parts = parts u }
    reach ps parts t p rest (behind i {n = n} {qs = qs} {u = u} e r) =
        let s = after_inside (normal_step b) F P inside i t u p e.reaches in
        let k = rest u s.1 e.last n qs r in
        record { u = k.u; steps = after_add (normal_step b) i n (F t) (F u) k.u s.0 k.steps; parts = k.parts }

    reach_last : ((u : Core) → parts_of (F u) ≡ pre ++ (branch o u ∷ [])) → (t : Core) → P t → {n : ℕ} {qs : List Branch} → PartsReach b (branch o t ∷ []) n qs → Reached (F t) n (pre ++ qs)
    reach_last parts t p h = reach [] parts t p (λ u w l m qs r. nothing_behind u m qs r) h
      where
        nothing_behind : (u : Core) (m : ℕ) (qs : List Branch) → PartsReach b [] m qs → Reached (F u) m (pre ++ (branch o u ∷ qs))
        nothing_behind u _ _ unmoved = record { u = F u; steps = refl; parts = parts u }

    finish : (ps : List Branch) (t : Core) → P t → ((u : Core) → P u → normal_step b u ≡ None → (m : ℕ) (qs : List Branch) → PartsEnd b ps m qs → Ended (F u) m (pre ++ (branch o u ∷ qs))) → {n : ℕ} {qs : List Branch} → PartsEnd b (branch o t ∷ ps) n qs → Ended (F t) n (pre ++ qs)
    finish ps t p rest (one_more i {n = n} {qs = qs} {u = u} e r) =
        let s = after_inside (normal_step b) F P inside i t u p e.reaches in
        let k = rest u s.1 e.last n qs r in
        record { u = k.u; ends = record { reaches = after_add (normal_step b) i n (F t) (F u) k.u s.0 k.ends.reaches; last = k.ends.last }; parts = k.parts }

    finish_last : ((u : Core) → parts_of (F u) ≡ pre ++ (branch o u ∷ [])) → ((u : Core) → P u → normal_step b u ≡ None → normal_step b (F u) ≡ None) → (t : Core) → P t → {n : ℕ} {qs : List Branch} → PartsEnd b (branch o t ∷ []) n qs → Ended (F t) n (pre ++ qs)
    finish_last parts stops t p h = finish [] t p (λ u w l m qs r. no_more u w l m qs r) h
      where
        no_more : (u : Core) → P u → normal_step b u ≡ None → (m : ℕ) (qs : List Branch) → PartsEnd b [] m qs → Ended (F u) m (pre ++ (branch o u ∷ qs))
        no_more u w l _ _ no_part = record { u = F u; ends = record { reaches = refl; last = stops u w l }; parts = parts u }

  leaf : (t : Core) → parts_of t ≡ [] → {n : ℕ} {qs : List Branch} → PartsReach b [] n qs → Reached t n qs
  leaf t e unmoved = record { u = t; steps = refl; parts = e }

  leaf_end : (t : Core) → parts_of t ≡ [] → normal_step b t ≡ None → {n : ℕ} {qs : List Branch} → PartsEnd b [] n qs → Ended t n qs
  leaf_end t e l no_part = record { u = t; ends = record { reaches = refl; last = l }; parts = e }

  function_stops : (k : Mark) (m n : Core) → IsFunction b m → normal_step b m ≡ None → normal_step b n ≡ None → normal_step b (App k m n) ≡ None
  function_stops k m n p e f = rw (app_stands b k m n p.0 p.1, e, f) refl

  reached : (t : Core) {n : ℕ} {qs : List Branch} → IsHeadForm b t → PartsReach b (parts_of t) n qs → Reached t n qs
  reached (Var i) e h = leaf (Var i) refl h
  reached (Const k) e h = leaf (Const k) refl h
  reached Prop e h = leaf Prop refl h
  reached (Univ l) e h = leaf (Univ l) refl h
  reached (Pi x a r) e h =
      reach [] (λ z. Pi x z r) (λ t. Unit {0}) (λ t u w s. (rw s refl, tt)) None (branch (Some x) r ∷ []) (λ u. refl) a tt
      (λ a' w l m qs k. reach_last (branch None a' ∷ []) (Pi x a') (λ t. Unit {0}) (λ t u w s. (rw (l, s) refl, tt)) (Some x) (λ u. refl) r tt k) h
  reached (Lam x a r) e h =
      reach [] (λ z. Lam x z r) (λ t. Unit {0}) (λ t u w s. (rw s refl, tt)) None (branch (Some x) r ∷ []) (λ u. refl) a tt
      (λ a' w l m qs k. reach_last (branch None a' ∷ []) (Lam x a') (λ t. Unit {0}) (λ t u w s. (rw (l, s) refl, tt)) (Some x) (λ u. refl) r tt k) h
  reached (Sigma x a r) e h =
      reach [] (λ z. Sigma x z r) (λ t. Unit {0}) (λ t u w s. (rw s refl, tt)) None (branch (Some x) r ∷ []) (λ u. refl) a tt
      (λ a' w l m qs k. reach_last (branch None a' ∷ []) (Sigma x a') (λ t. Unit {0}) (λ t u w s. (rw (l, s) refl, tt)) (Some x) (λ u. refl) r tt k) h
  reached (App k m n) e h =
      reach [] (λ z. App k z n) (IsFunction b) (λ t u w s. in_function b k n t u w s) None (branch None n ∷ []) (λ u. refl) m (app_stuck b k m n e)
      (λ m' w l i qs r. reach_last (branch None m' ∷ []) (App k m') (λ t. Unit {0}) (λ t u w' s. (in_argument b k m' t u w l s, tt)) None (λ u. refl) n tt r) h
  reached (Pair x a r m n) e h =
      reach [] (λ z. Pair x z r m n) (λ t. Unit {0}) (λ t u w s. (rw s refl, tt)) None (branch (Some x) r ∷ branch None m ∷ branch None n ∷ []) (λ u. refl) a tt
      (λ a' w la i qs k. reach (branch None a' ∷ []) (λ z. Pair x a' z m n) (λ t. Unit {0}) (λ t u w s. (rw (la, s) refl, tt)) (Some x) (branch None m ∷ branch None n ∷ []) (λ u. refl) r tt
      (λ r' w lr i qs k. reach (branch None a' ∷ branch (Some x) r' ∷ []) (λ z. Pair x a' r' z n) (λ t. Unit {0}) (λ t u w s. (rw (la, lr, s) refl, tt)) None (branch None n ∷ []) (λ u. refl) m tt
      (λ m' w lm i qs k. reach_last (branch None a' ∷ branch (Some x) r' ∷ branch None m' ∷ []) (Pair x a' r' m') (λ t. Unit {0}) (λ t u w s. (rw (la, lr, lm, s) refl, tt)) None (λ u. refl) n tt k) k) k) h
  reached (Fst m) e h = reach_last [] Fst (IsOperand b) (λ t u w s. in_fst b t u w s) None (λ u. refl) m (fst_stuck b m e) h
  reached (Snd m) e h = reach_last [] Snd (IsOperand b) (λ t u w s. in_snd b t u w s) None (λ u. refl) m (snd_stuck b m e) h
  reached (Let x m n) e h = cc

  ended : (t : Core) {n : ℕ} {qs : List Branch} → IsHeadForm b t → PartsEnd b (parts_of t) n qs → Ended t n qs
  ended (Var i) e h = leaf_end (Var i) refl refl h
  ended (Const k) e h = leaf_end (Const k) refl e h
  ended Prop e h = leaf_end Prop refl refl h
  ended (Univ l) e h = leaf_end (Univ l) refl refl h
  ended (Pi x a r) e h =
      finish [] (λ z. Pi x z r) (λ t. Unit {0}) (λ t u w s. (rw s refl, tt)) None (branch (Some x) r ∷ []) a tt
      (λ a' w l m qs k. finish_last (branch None a' ∷ []) (Pi x a') (λ t. Unit {0}) (λ t u w s. (rw (l, s) refl, tt)) (Some x) (λ u. refl) (λ u w s. rw (l, s) refl) r tt k) h
  ended (Lam x a r) e h =
      finish [] (λ z. Lam x z r) (λ t. Unit {0}) (λ t u w s. (rw s refl, tt)) None (branch (Some x) r ∷ []) a tt
      (λ a' w l m qs k. finish_last (branch None a' ∷ []) (Lam x a') (λ t. Unit {0}) (λ t u w s. (rw (l, s) refl, tt)) (Some x) (λ u. refl) (λ u w s. rw (l, s) refl) r tt k) h
  ended (Sigma x a r) e h =
      finish [] (λ z. Sigma x z r) (λ t. Unit {0}) (λ t u w s. (rw s refl, tt)) None (branch (Some x) r ∷ []) a tt
      (λ a' w l m qs k. finish_last (branch None a' ∷ []) (Sigma x a') (λ t. Unit {0}) (λ t u w s. (rw (l, s) refl, tt)) (Some x) (λ u. refl) (λ u w s. rw (l, s) refl) r tt k) h
  ended (App k m n) e h =
      finish [] (λ z. App k z n) (IsFunction b) (λ t u w s. in_function b k n t u w s) None (branch None n ∷ []) m (app_stuck b k m n e)
      (λ m' w l i qs r. finish_last (branch None m' ∷ []) (App k m') (λ t. Unit {0}) (λ t u w' s. (in_argument b k m' t u w l s, tt)) None (λ u. refl) (λ u w' s. function_stops k m' u w l s) n tt r) h
  ended (Pair x a r m n) e h =
      finish [] (λ z. Pair x z r m n) (λ t. Unit {0}) (λ t u w s. (rw s refl, tt)) None (branch (Some x) r ∷ branch None m ∷ branch None n ∷ []) a tt
      (λ a' w la i qs k. finish (branch None a' ∷ []) (λ z. Pair x a' z m n) (λ t. Unit {0}) (λ t u w s. (rw (la, s) refl, tt)) (Some x) (branch None m ∷ branch None n ∷ []) r tt
      (λ r' w lr i qs k. finish (branch None a' ∷ branch (Some x) r' ∷ []) (λ z. Pair x a' r' z n) (λ t. Unit {0}) (λ t u w s. (rw (la, lr, s) refl, tt)) None (branch None n ∷ []) m tt
      (λ m' w lm i qs k. finish_last (branch None a' ∷ branch (Some x) r' ∷ branch None m' ∷ []) (Pair x a' r' m') (λ t. Unit {0}) (λ t u w s. (rw (la, lr, lm, s) refl, tt)) None (λ u. refl) (λ u w s. rw (la, lr, lm, s) refl) n tt k) k) k) h
  ended (Fst m) e h = finish_last [] Fst (IsOperand b) (λ t u w s. in_fst b t u w s) None (λ u. refl) (λ u w s. rw (fst_stands b u w.0 w.1, s) refl) m (fst_stuck b m e) h
  ended (Snd m) e h = finish_last [] Snd (IsOperand b) (λ t u w s. in_snd b t u w s) None (λ u. refl) (λ u w s. rw (snd_stands b u w.0 w.1, s) refl) m (snd_stuck b m e) h
  ended (Let x m n) e h = cc

pub parts_are_reached : PartsAreReached
parts_are_reached b t n qs e h = let r = reached b t e h in (r.u, r.steps, r.parts)

pub parts_end_together : PartsEndTogether
parts_end_together b t n qs e h = let r = ended b t e h in (r.u, r.ends, r.parts)
