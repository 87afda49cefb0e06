-- A derivation without the constants that are not reached.
use Rattle.std.specs.List.{AllByRecursion}
use Rattle.std.proofs.Common.{◌≡◌, Some, IsTrue, ℕ, suc, Bool, true, false, List, ◌∙◌, subst, nat_lt, nat_eq, cond}
use Rattle.lego_term.specs.Trees.{Term, Var, Const, Prop, Univ, Pi, Lam, App, Sigma, Pair, Fst, Snd, lift, put, put_var, instantiate, Let}
use Rattle.lego_laws.specs.Parallel.{TermBodies, AreClosed, ParallelStep, p_var, p_const, p_prop, p_univ, p_pi, p_lam, p_app, p_sigma, p_pair, p_fst, p_snd, p_let, p_local, p_beta, p_first, p_second, p_unfold, Star, stop, go}
use Rattle.lego_term.specs.Steps.{Converts}
use Rattle.lego_term.specs.Below.{Below}
use Rattle.lego_laws.specs.Cumulativity.{ByForm}
use Rattle.lego_laws.specs.Derivations.{HasLocal, Derives, d_prop, d_univ, d_var, d_const, d_pi_prop, d_pi, d_lam, d_app, d_sigma, d_pair, d_fst, d_snd, d_let, d_cum, ValidLocals, v_local, ValidConstants}
use Rattle.lego_laws.specs.Strengthening.{MentionsOnly}
use Rattle.lego_laws.proofs.lemmas.reduction.Below.{meets, convert_joined, below_of, pi_run, sigma_run}
use Rattle.lego_laws.proofs.lemmas.reduction.CommonReducts.{steps_of_parallel, convert_run}
use Rattle.lego_laws.proofs.lemmas.typing.Renaming.{d-instantiate}
use Rattle.lego_laws.proofs.lemmas.typing.Inversion.{at, generation, type_correct}
use Rattle.lego_laws.proofs.lemmas.typing.TypedSteps.{subject_reduction, below-instantiate}

pub m-lift : (p : ℕ → Bool) (from by : ℕ) (t : Term) → MentionsOnly p t → MentionsOnly p (lift from by t)
m-lift p from by (Var i) h = tt
m-lift p from by (Const k) h = h
m-lift p from by Prop h = tt
m-lift p from by (Univ l) h = tt
m-lift p from by (Pi tt a r) h = (m-lift p from by a h.0, m-lift p (suc from) by r h.1)
m-lift p from by (Lam tt a m) h = (m-lift p from by a h.0, m-lift p (suc from) by m h.1)
m-lift p from by (Sigma tt a r) h = (m-lift p from by a h.0, m-lift p (suc from) by r h.1)
m-lift p from by (Let tt a r) h = (m-lift p from by a h.0, m-lift p (suc from) by r h.1)
m-lift p from by (App tt m n) h = (m-lift p from by m h.0, m-lift p from by n h.1)
m-lift p from by (Pair tt a r m n) h = (m-lift p from by a h.0, m-lift p (suc from) by r h.1, m-lift p from by m h.2, m-lift p from by n h.3)
m-lift p from by (Fst m) h = m-lift p from by m h
m-lift p from by (Snd m) h = m-lift p from by m h

m-if : (p : ℕ → Bool) (o : Bool) (t u : Term) → MentionsOnly p t → MentionsOnly p u → MentionsOnly p (cond o t u)
m-if p true t u h k = h
m-if p false t u h k = k

m-put_var : (p : ℕ → Bool) (depth i : ℕ) (n : Term) → MentionsOnly p n → MentionsOnly p (put_var depth n i)
m-put_var p depth i n h = m-if p (nat_lt i depth) _ _ tt (m-if p (nat_eq i depth) _ _ (m-lift p 0 depth n h) tt)

pub m-put : (p : ℕ → Bool) (depth : ℕ) (y : Term) → MentionsOnly p y → (t : Term) → MentionsOnly p t → MentionsOnly p (put depth y t)
m-put p depth y w (Var i) h = m-put_var p depth i y w
m-put p depth y w (Const k) h = h
m-put p depth y w Prop h = tt
m-put p depth y w (Univ l) h = tt
m-put p depth y w (Pi tt a r) h = (m-put p depth y w a h.0, m-put p (suc depth) y w r h.1)
m-put p depth y w (Lam tt a m) h = (m-put p depth y w a h.0, m-put p (suc depth) y w m h.1)
m-put p depth y w (Sigma tt a r) h = (m-put p depth y w a h.0, m-put p (suc depth) y w r h.1)
m-put p depth y w (Let tt a r) h = (m-put p depth y w a h.0, m-put p (suc depth) y w r h.1)
m-put p depth y w (App tt m n) h = (m-put p depth y w m h.0, m-put p depth y w n h.1)
m-put p depth y w (Pair tt a r m n) h = (m-put p depth y w a h.0, m-put p (suc depth) y w r h.1, m-put p depth y w m h.2, m-put p depth y w n h.3)
m-put p depth y w (Fst m) h = m-put p depth y w m h
m-put p depth y w (Snd m) h = m-put p depth y w m h

pub m-instantiate : (p : ℕ → Bool) (m n : Term) → MentionsOnly p m → MentionsOnly p n → MentionsOnly p (instantiate m n)
unfolding instantiate
m-instantiate p m n h k = m-put p 0 n k m h

m-local : (p : ℕ → Bool) {g : List Term} {i : ℕ} {a : Term} → AllByRecursion (λ t. MentionsOnly p t) g → HasLocal g i a → MentionsOnly p a
m-local p h (HasLocal.here {a = a}) = m-lift p 0 1 a h.0
m-local p h (HasLocal.there {t = t} l) = m-lift p 0 1 t (m-local p h.1 l)

-- the kept constants reach kept constants alone, and stand in the smaller list as they were
pub record Restricts (p : ℕ → Bool) (c b c' b' : TermBodies) : Type 0 where
  pub types_same : (k : ℕ) → IsTrue (p k) → c' k ≡ c k
  pub bodies_same : (k : ℕ) → IsTrue (p k) → b' k ≡ b k
  pub types_kept : (k : ℕ) (a : Term) → IsTrue (p k) → c k ≡ Some a → MentionsOnly p a
  pub bodies_kept : (k : ℕ) (t : Term) → IsTrue (p k) → b k ≡ Some t → MentionsOnly p t

module _ (p : ℕ → Bool) (c b c' b' : TermBodies) (tc : AreClosed c) (bc : AreClosed b) (tc' : AreClosed c') (bc' : AreClosed b') (x : Restricts p c b c' b') where
  -- steps of a term that mentions kept constants alone
  m-step : {t u : Term} → ParallelStep b t u → MentionsOnly p t → MentionsOnly p u × ParallelStep b' t u
  m-step p_var h = (tt, p_var)
  m-step p_const h = (h, p_const)
  m-step p_prop h = (tt, p_prop)
  m-step p_univ h = (tt, p_univ)
  m-step (p_pi q r) h = let k = m-step q h.0 in let l = m-step r h.1 in ((k.0, l.0), p_pi k.1 l.1)
  m-step (p_lam q r) h = let k = m-step q h.0 in let l = m-step r h.1 in ((k.0, l.0), p_lam k.1 l.1)
  m-step (p_app q r) h = let k = m-step q h.0 in let l = m-step r h.1 in ((k.0, l.0), p_app k.1 l.1)
  m-step (p_sigma q r) h = let k = m-step q h.0 in let l = m-step r h.1 in ((k.0, l.0), p_sigma k.1 l.1)
  m-step (p_let q r) h = let k = m-step q h.0 in let l = m-step r h.1 in ((k.0, l.0), p_let k.1 l.1)
  m-step (p_pair q r s t) h =
      let k = m-step q h.0 in
      let l = m-step r h.1 in
      let m = m-step s h.2 in
      let n = m-step t h.3 in
      ((k.0, l.0, m.0, n.0), p_pair k.1 l.1 m.1 n.1)
  m-step (p_fst q) h = let k = m-step q h in (k.0, p_fst k.1)
  m-step (p_snd q) h = let k = m-step q h in (k.0, p_snd k.1)
  m-step (p_beta {m' = m'} {n' = n'} q r) h = let k = m-step q h.0.1 in let l = m-step r h.1 in (m-instantiate p m' n' k.0 l.0, p_beta k.1 l.1)
  m-step (p_first q) h = let k = m-step q h.2 in (k.0, p_first k.1)
  m-step (p_second q) h = let k = m-step q h.3 in (k.0, p_second k.1)
  m-step (p_local {m' = m'} {n' = n'} q r) h = let k = m-step q h.0 in let l = m-step r h.1 in (m-instantiate p n' m' l.0 k.0, p_local k.1 l.1)
  m-step (p_unfold {k = k} {t = t} e) h = (x.bodies_kept k t h e, p_unfold (x.bodies_same k h ∙ e))

  m-star : {t u : Term} → Star (ParallelStep b) t u → MentionsOnly p t → MentionsOnly p u × Star (ParallelStep b') t u
  m-star stop h = (h, stop)
  m-star (go s q) h = let k = m-step s h in let l = m-star q k.0 in (l.0, go k.1 l.1)

  pub m-below : (t u : Term) → MentionsOnly p t → MentionsOnly p u → Below b t u → Below b' t u
  m-below t u h k q =
      let m = meets b bc q in
      below_of (m-star m.left h).1 m.under (m-star m.right k).1

  record ToPi (t a r : Term) : Type 0 where
    a' : Term
    r' : Term
    run : Star (ParallelStep b') t (Pi tt a' r')
    kept : MentionsOnly p (Pi tt a' r')
    left : Converts b a' a
    right : Below b r' r

  record ToSigma (t a r : Term) : Type 0 where
    a' : Term
    r' : Term
    run : Star (ParallelStep b') t (Sigma tt a' r')
    kept : MentionsOnly p (Sigma tt a' r')
    left : Below b a' a
    right : Below b r' r

  to_pi : (t low high a r : Term) → MentionsOnly p t → Star (ParallelStep b) t low → ByForm low high → Star (ParallelStep b) (Pi tt a r) high → ToPi t a r
  to_pi t low high a r h q u s =
      let k = pi_run s in
      go_on (subst (ByForm low) k.is u) q k.left k.right
    where
      go_on : {a₁ r₁ low : Term} → ByForm low (Pi tt a₁ r₁) → Star (ParallelStep b) t low → Star (ParallelStep b) a a₁ → Star (ParallelStep b) r r₁ → ToPi t a r
      go_on {a₁} {r₁} ByForm.same q' l m = let w = m-star q' h in record { a' = a₁; r' = r₁; run = w.1; kept = w.0; left = convert_joined stop l; right = Below.converts (convert_joined stop m) }
      go_on (ByForm.pi {a = a₀} {c = r₀} v) q' l m = let w = m-star q' h in record { a' = a₀; r' = r₀; run = w.1; kept = w.0; left = convert_joined stop l; right = below_of stop v m }

  to_sigma : (t low high a r : Term) → MentionsOnly p t → Star (ParallelStep b) t low → ByForm low high → Star (ParallelStep b) (Sigma tt a r) high → ToSigma t a r
  to_sigma t low high a r h q u s =
      let k = sigma_run s in
      go_on (subst (ByForm low) k.is u) q k.left k.right
    where
      go_on : {a₁ r₁ low : Term} → ByForm low (Sigma tt a₁ r₁) → Star (ParallelStep b) t low → Star (ParallelStep b) a a₁ → Star (ParallelStep b) r r₁ → ToSigma t a r
      go_on {a₁} {r₁} ByForm.same q' l m = let w = m-star q' h in record { a' = a₁; r' = r₁; run = w.1; kept = w.0; left = Below.converts (convert_joined stop l); right = Below.converts (convert_joined stop m) }
      go_on (ByForm.sigma {a = a₀} {c = r₀} v' v) q' l m = let w = m-star q' h in record { a' = a₀; r' = r₀; run = w.1; kept = w.0; left = below_of stop v' l; right = below_of stop v m }

  module _ (valid : ValidConstants c b) (valid' : ValidConstants c' b') where
    -- a type over the kept constants, below the given one
    record Smaller (g : List Term) (m a : Term) : Type 0 where
      a' : Term
      kept : MentionsOnly p a'
      derives : Derives c' b' g m a'
      below : Below b a' a

    keeps : {g : List Term} → ValidLocals c' b' g → {m m' : Term} → Star (ParallelStep b') m m' → {a : Term} → Derives c' b' g m a → Derives c' b' g m' a
    keeps v stop d = d
    keeps v (go s q) d = keeps v q (subject_reduction c' b' tc' bc' valid' d s v)

    -- the given type where it mentions kept constants alone and is a type
    given : {g : List Term} {m a : Term} {j : ℕ} → Smaller g m a → MentionsOnly p a → Derives c' b' g a (Univ j) → Derives c' b' g m a
    given {a = a} s k d = d_cum s.derives d (m-below s.a' a s.kept k s.below)

    app_case : {g : List Term} {m n a r : Term} → ValidLocals c' b' g → MentionsOnly p n → Smaller g m (Pi tt a r) → Smaller g n a → Smaller g (App tt m n) (instantiate r n)
    app_case {n = n} {a = a} {r = r} v k s q =
        let m = meets b bc s.below in
        let w = to_pi s.a' m.low m.high a r s.kept m.left m.under m.right in
        let ts = type_correct c' b' tc' bc' valid' s.derives v in
        let tp = keeps v w.run ts.1 in
        let dm = d_cum s.derives tp (Below.converts (convert_run (steps_of_parallel w.run))) in
        let dn = given (record { a' = q.a'; kept = q.kept; derives = q.derives; below = Below.chain q.below (Below.converts (Converts.back w.left)) }) w.kept.0 (generation tp).1 in
        record { a' = instantiate w.r' n; kept = m-instantiate p w.r' n w.kept.1 k; derives = d_app dm dn; below = below-instantiate c b tc bc valid n w.right }

    fst_case : {g : List Term} {m a r : Term} → ValidLocals c' b' g → Smaller g m (Sigma tt a r) → Smaller g (Fst m) a
    fst_case {a = a} {r = r} v s =
        let m = meets b bc s.below in
        let w = to_sigma s.a' m.low m.high a r s.kept m.left m.under m.right in
        let tp = keeps v w.run (type_correct c' b' tc' bc' valid' s.derives v).1 in
        let dm = d_cum s.derives tp (Below.converts (convert_run (steps_of_parallel w.run))) in
        record { a' = w.a'; kept = w.kept.0; derives = d_fst dm; below = w.left }

    snd_case : {g : List Term} {m a r : Term} → ValidLocals c' b' g → MentionsOnly p m → Smaller g m (Sigma tt a r) → Smaller g (Snd m) (instantiate r (Fst m))
    snd_case {m = m₀} {a = a} {r = r} v k s =
        let m = meets b bc s.below in
        let w = to_sigma s.a' m.low m.high a r s.kept m.left m.under m.right in
        let tp = keeps v w.run (type_correct c' b' tc' bc' valid' s.derives v).1 in
        let dm = d_cum s.derives tp (Below.converts (convert_run (steps_of_parallel w.run))) in
        record { a' = instantiate w.r' (Fst m₀); kept = m-instantiate p w.r' (Fst m₀) w.kept.1 k; derives = d_snd dm; below = below-instantiate c b tc bc valid (Fst m₀) w.right }

    here_it_is : {g : List Term} {m a : Term} → MentionsOnly p a → Derives c' b' g m a → Smaller g m a
    here_it_is {a = a} k d = record { a' = a; kept = k; derives = d; below = at }

    smaller : {g : List Term} {m a : Term} → Derives c b g m a → ValidLocals c' b' g → AllByRecursion (λ t. MentionsOnly p t) g → MentionsOnly p m → Smaller g m a
    unfolding instantiate
    smaller d_prop v h k = here_it_is tt d_prop
    smaller d_univ v h k = here_it_is tt d_univ
    smaller (d_var l) v h k = here_it_is (m-local p h l) (d_var l)
    smaller (d_const {k = i} {a = a} e) v h k = here_it_is (x.types_kept i a k e) (d_const (x.types_same i k ∙ e))
    smaller (d_pi_prop d e) v h k =
        let a = given (smaller d v h k.0) tt d_univ in
        here_it_is tt (d_pi_prop a (given (smaller e (v_local v a) (k.0, h) k.1) tt d_prop))
    smaller (d_pi d e) v h k =
        let a = given (smaller d v h k.0) tt d_univ in
        here_it_is tt (d_pi a (given (smaller e (v_local v a) (k.0, h) k.1) tt d_univ))
    smaller (d_lam d e) v h k =
        let a = given (smaller d v h k.0) tt d_univ in
        let s = smaller e (v_local v a) (k.0, h) k.1 in
        record { a' = Pi tt _ s.a'; kept = (k.0, s.kept); derives = d_lam a s.derives; below = Below.pi Converts.same s.below }
    smaller (d_app d e) v h k = app_case v k.1 (smaller d v h k.0) (smaller e v h k.1)
    smaller (d_sigma d e) v h k =
        let a = given (smaller d v h k.0) tt d_univ in
        here_it_is tt (d_sigma a (given (smaller e (v_local v a) (k.0, h) k.1) tt d_univ))
    smaller (d_pair {r = r} {m = m} d e s t) v h k =
        let a = given (smaller d v h k.0) tt d_univ in
        let r' = given (smaller e (v_local v a) (k.0, h) k.1) tt d_univ in
        let m' = given (smaller s v h k.2) k.0 a in
        let n' = given (smaller t v h k.3) (m-instantiate p r m k.1 k.2) (d-instantiate c' b' tc' bc' r' m') in
        here_it_is (k.0, k.1) (d_pair a r' m' n')
    smaller (d_fst d) v h k = fst_case v (smaller d v h k)
    smaller (d_snd d) v h k = snd_case v k (smaller d v h k)
    smaller (d_let {m = m} {n = n} d e) v h k =
        let s = smaller d v h k.0 in
        let t = smaller e v h (m-instantiate p n m k.1 k.0) in
        record { a' = t.a'; kept = t.kept; derives = d_let s.derives t.derives; below = t.below }
    smaller (d_cum d e l) v h k = let s = smaller d v h k in record { a' = s.a'; kept = s.kept; derives = s.derives; below = Below.chain s.below l }

pub strengthened : (p : ℕ → Bool) (c b c' b' : TermBodies) → AreClosed c → AreClosed b → AreClosed c' → AreClosed b' → Restricts p c b c' b' → ValidConstants c b → ValidConstants c' b' → (g : List Term) → ValidLocals c b g → ValidLocals c' b' g → AllByRecursion (λ t. MentionsOnly p t) g → (m a : Term) → MentionsOnly p m → MentionsOnly p a → Derives c b g m a → Derives c' b' g m a
strengthened p c b c' b' tc bc tc' bc' x valid valid' g w v h m a km ka d =
    let t = type_correct c b tc bc valid d w in
    let u = given p c b c' b' tc bc tc' bc' x valid valid' (smaller p c b c' b' tc bc tc' bc' x valid valid' t.1 v h ka) tt d_univ in
    given p c b c' b' tc bc tc' bc' x valid valid' (smaller p c b c' b' tc bc tc' bc' x valid valid' d v h km) ka u
