-- The steps of a walk are among those of the normalisation sequences.
use Rattle.std.proofs.Common.{◌≡◌, ℕ, zero, suc, ◌+◌, ◌-◌, ◌≤◌, ◌<◌, Some, None, List, [], ◌∷◌, ⊎_elim, refl, arith, subst}
use Rattle.std.proofs.lemmas.Bool.{cases_lt}
use Rattle.lego_term.specs.Trees.{Core, Var, Const, Prop, Univ, Pi, Lam, App, Sigma, Pair, Fst, Snd, Let}
use Rattle.lego_term.specs.Parts.{Branch, parts_of}
use Rattle.lego_term.specs.Sequences.{head_step, normal_step, after, CostMoreThan}
use Rattle.lego_laws.specs.Parallel.{CoreBodies}
use Rattle.lego_laws.specs.HeadForms.{IsHeadForm}
use Rattle.lego_laws.specs.Counting.{HasSteps, PartsHaveSteps, up_to_here, and_then, Walked, unvisited, on_the_way, through_parts, PartsWalked, stopped, next_part, HeadStepsComeFirst, HeadStepsAreCounted, PartsStepsAreCounted, FewerStepsAreCounted, WalkedStepsAreCounted, LongWalksAreCostly}
use Rattle.lego_laws.proofs.lemmas.reduction.After.{next, after_one, after_add, fewer, after_inside, then_rest}
use Rattle.lego_laws.proofs.lemmas.reduction.NormalSteps.{head_first, IsFunction, IsOperand, in_function, in_argument, in_fst, in_snd}
use Rattle.lego_laws.proofs.lemmas.reduction.Stuck.{app_stuck, fst_stuck, snd_stuck}

module _ (b : CoreBodies) where
  -- head steps, as steps of the normalisation sequence
  pub head_after : (i : ℕ) (t u : Core) → after (head_step b) i t ≡ Some u → after (normal_step b) i t ≡ Some u
  head_after zero t u e = e
  head_after (suc i) t u e =
      let k = next (head_step b) i (head_step b t) u e in
      after_one (normal_step b) i t k.0 u (head_first b t k.0 k.1) (head_after i k.0 u k.2)

  pub head_counted : (i n : ℕ) (t u : Core) → after (head_step b) i t ≡ Some u → HasSteps b u n → HasSteps b t (i + n)
  head_counted i n t u e h = (h.0, after_add (normal_step b) i n t u h.0 (head_after i t u e) h.1)

  have_at : (t : Core) (m n : ℕ) → m ≡ n → HasSteps b t m → HasSteps b t n
  have_at t m n e h = subst (λ z. HasSteps b t z) e h

  none : (t : Core) → HasSteps b t 0
  none t = (t, refl)

  -- the first part's steps, and the others'
  record Front (p : Branch) (ps : List Branch) (n : ℕ) : Type 0 where
    i : ℕ
    j : ℕ
    sum : n ≡ i + j
    first : HasSteps b p.term i
    rest : PartsHaveSteps b ps j

  front : {p : Branch} {ps : List Branch} {n : ℕ} → PartsHaveSteps b (p ∷ ps) n → Front p ps n
  front {p} up_to_here = record { i = 0; j = 0; sum = omega arith; first = none p.term; rest = up_to_here }
  front (and_then i {n = n} h r) = record { i = i; j = n; sum = refl; first = h; rest = r }

  last : {n : ℕ} → PartsHaveSteps b [] n → n ≡ 0
  last up_to_here = refl

  one_part : (F : Core → Core) (P : Core → Type 0) (inside : (t u : Core) → P t → normal_step b t ≡ Some u → (normal_step b (F t) ≡ Some (F u)) × P u) (t : Core) → P t → {p : Branch} → p.term ≡ t → {n : ℕ} → PartsHaveSteps b (p ∷ []) n → HasSteps b (F t) n
  one_part F P inside t k {p} q {n} h =
      let f = front h in
      let z = last f.rest in
      let s = f.sum in
      let e : f.i ≡ n = omega arith in
      let r : HasSteps b t f.i = subst (λ x. HasSteps b x f.i) q f.first in
      have_at (F t) f.i n e (F r.0, (after_inside (normal_step b) F P inside f.i t r.0 k r.1).0)

  -- where the first part's steps come before those of the rest
  more_parts : (F : Core → Core) (P : Core → Type 0) (inside : (t u : Core) → P t → normal_step b t ≡ Some u → (normal_step b (F t) ≡ Some (F u)) × P u) (t : Core) → P t → {p : Branch} → p.term ≡ t → {ps : List Branch} → ((u : Core) → P u → normal_step b u ≡ None → (m : ℕ) → PartsHaveSteps b ps m → HasSteps b (F u) m) → {n : ℕ} → PartsHaveSteps b (p ∷ ps) n → HasSteps b (F t) n
  more_parts F P inside t k {p} q rest {n} h =
      let f = front h in
      let s = f.sum in
      let e : f.i + f.j ≡ n = omega arith in
      have_at (F t) (f.i + f.j) n e (then_rest (normal_step b) F P inside f.i f.j t k (subst (λ x. HasSteps b x f.i) q f.first) (λ u w l. rest u w l f.j f.rest))

  leaf : (t : Core) {n : ℕ} → PartsHaveSteps b [] n → HasSteps b t n
  leaf t {n} h = let z = last h in let e : 0 ≡ n = omega arith in have_at t 0 n e (none t)

  parts_counted : (t : Core) {n : ℕ} → IsHeadForm b t → PartsHaveSteps b (parts_of t) n → HasSteps b t n
  parts_counted (Var i) e h = leaf (Var i) h
  parts_counted (Const k) e h = leaf (Const k) h
  parts_counted Prop e h = leaf Prop h
  parts_counted (Univ l) e h = leaf (Univ l) h
  parts_counted (Pi x a r) e h =
      more_parts (λ z. Pi x z r) (λ t. Unit {0}) (λ t u w s. (rw s refl, tt)) a tt refl
      (λ a' w l i h'. one_part (Pi x a') (λ t. Unit {0}) (λ t u w s. (rw (l, s) refl, tt)) r tt refl h') h
  parts_counted (Lam x a r) e h =
      more_parts (λ z. Lam x z r) (λ t. Unit {0}) (λ t u w s. (rw s refl, tt)) a tt refl
      (λ a' w l i h'. one_part (Lam x a') (λ t. Unit {0}) (λ t u w s. (rw (l, s) refl, tt)) r tt refl h') h
  parts_counted (Sigma x a r) e h =
      more_parts (λ z. Sigma x z r) (λ t. Unit {0}) (λ t u w s. (rw s refl, tt)) a tt refl
      (λ a' w l i h'. one_part (Sigma x a') (λ t. Unit {0}) (λ t u w s. (rw (l, s) refl, tt)) r tt refl h') h
  parts_counted (App k m n) e h =
      more_parts (λ z. App k z n) (IsFunction b) (λ t u w s. in_function b k n t u w s) m (app_stuck b k m n e) refl
      (λ m' w l i h'. one_part (App k m') (λ t. Unit {0}) (λ t u w' s. (in_argument b k m' t u w l s, tt)) n tt refl h') h
  parts_counted (Pair x a r m n) e h =
      more_parts (λ z. Pair x z r m n) (λ t. Unit {0}) (λ t u w s. (rw s refl, tt)) a tt refl
      (λ a' w la i h'. more_parts (λ z. Pair x a' z m n) (λ t. Unit {0}) (λ t u w s. (rw (la, s) refl, tt)) r tt refl
      (λ r' w lr i' h''. more_parts (λ z. Pair x a' r' z n) (λ t. Unit {0}) (λ t u w s. (rw (la, lr, s) refl, tt)) m tt refl
      (λ m' w lm i'' k. one_part (Pair x a' r' m') (λ t. Unit {0}) (λ t u w s. (rw (la, lr, lm, s) refl, tt)) n tt refl k) h'') h') h
  parts_counted (Fst m) e h = one_part Fst (IsOperand b) (λ t u w s. in_fst b t u w s) m (fst_stuck b m e) refl h
  parts_counted (Snd m) e h = one_part Snd (IsOperand b) (λ t u w s. in_snd b t u w s) m (snd_stuck b m e) refl h
  parts_counted (Let x m n) e h = cc

  mutual
    walked_left : {t u : Core} {i j : ℕ} → Walked b t u i j → HasSteps b t i
    walked_left {t} unvisited = none t
    walked_left (on_the_way {t = t} {t' = t'} i j _ p q) = (t', head_after i t t' p)
    walked_left (through_parts {t = t} {t' = t'} {i = i} {m = m} _ p q w) = head_counted i m t t' p.reaches (parts_counted t' p.last (parts_left w))

    parts_left : {ps qs : List Branch} {m n : ℕ} → PartsWalked b ps qs m n → PartsHaveSteps b ps m
    parts_left stopped = up_to_here
    parts_left (next_part {i = i} w r) = and_then i (walked_left w) (parts_left r)

  mutual
    walked_right : {t u : Core} {i j : ℕ} → Walked b t u i j → HasSteps b u j
    walked_right {u = u} unvisited = none u
    walked_right (on_the_way {u = u} {u' = u'} i j _ p q) = (u', head_after j u u' q)
    walked_right (through_parts {u = u} {u' = u'} {j = j} {n = n} _ p q w) = head_counted j n u u' q.reaches (parts_counted u' q.last (parts_right w))

    parts_right : {ps qs : List Branch} {m n : ℕ} → PartsWalked b ps qs m n → PartsHaveSteps b qs n
    parts_right stopped = up_to_here
    parts_right (next_part {j = j} w r) = and_then j (walked_right w) (parts_right r)

  -- two sequences of more than n steps together
  pub costly : (t u : Core) (i j n : ℕ) → HasSteps b t i → HasSteps b u j → n < i + j → CostMoreThan b t u n
  costly t u i j n h k lt = ⊎_elim (λ (le : suc n < i). whole le) (λ (le : i ≤ suc n). split le) (cases_lt (suc n) i)
    where
      whole : suc n < i → CostMoreThan b t u n
      whole le =
          let l = fewer (normal_step b) i (suc n) t (omega arith) h in
          (suc n, 0, omega arith, l.0, u, l.1, refl)

      split : i ≤ suc n → CostMoreThan b t u n
      split le =
          let r = fewer (normal_step b) j (suc n - i) u (omega arith) k in
          (i, suc n - i, omega arith, h.0, r.0, h.1, r.1)

pub head_steps_come_first : HeadStepsComeFirst
head_steps_come_first b t h u i n e =
    (λ r. after_add (normal_step b) i n t h u (head_after b i t h e) r, λ r. record { reaches = after_add (normal_step b) i n t h u (head_after b i t h e) r.reaches; last = r.last })

pub head_steps_are_counted : HeadStepsAreCounted
head_steps_are_counted b t u i n = head_counted b i n t u

pub parts_steps_are_counted : PartsStepsAreCounted
parts_steps_are_counted b t n = parts_counted b t

pub fewer_steps_are_counted : FewerStepsAreCounted
fewer_steps_are_counted b t m n h le = fewer (normal_step b) n m t le h

pub walked_steps_are_counted : WalkedStepsAreCounted
walked_steps_are_counted b t u i j w = (walked_left b w, walked_right b w)

pub long_walks_are_costly : LongWalksAreCostly
long_walks_are_costly b t u i j n w = costly b t u i j n (walked_left b w) (walked_right b w)
