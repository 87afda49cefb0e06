-- Cumulativity, and its inversion.
use Rattle.std.proofs.Common.{◌≡◌, ℕ, zero, suc, ◌+◌, ◌-◌, ◌≤◌, refl, arith}
use Rattle.lego_term.specs.Trees.{Term, Prop, Univ, Pi, Sigma}
use Rattle.lego_laws.specs.Parallel.{TermBodies, AreClosed, ParallelStep, p_prop, p_univ, p_pi, p_sigma, Star, stop, go}
use Rattle.lego_term.specs.Steps.{Converts}
use Rattle.lego_term.specs.Below.{Below}
use Rattle.lego_laws.specs.Cumulativity.{ByForm, BelowInverts, PiInverts, SigmaInverts, SortsInvert}
use Rattle.lego_laws.proofs.lemmas.reduction.Parallel.{p_refl}
use Rattle.lego_laws.proofs.lemmas.reduction.CommonReducts.{star_trans, star_map, steps_of_parallel, confluent, joins, convert_run}

under_trans : {t u v : Term} → ByForm t u → ByForm u v → ByForm t v
under_trans ByForm.same q = q
under_trans ByForm.prop ByForm.same = ByForm.prop
under_trans ByForm.prop (ByForm.universes l) = ByForm.prop
under_trans (ByForm.universes k) ByForm.same = ByForm.universes k
under_trans (ByForm.universes k) (ByForm.universes l) = ByForm.universes (omega arith)
under_trans (ByForm.pi p) ByForm.same = ByForm.pi p
under_trans (ByForm.pi p) (ByForm.pi q) = ByForm.pi (under_trans p q)
under_trans (ByForm.sigma p q) ByForm.same = ByForm.sigma p q
under_trans (ByForm.sigma p q) (ByForm.sigma r s) = ByForm.sigma (under_trans p r) (under_trans q s)

-- a step of the higher term is followed by the lower, and the other way round
follow_high : {b : TermBodies} {t u u' : Term} → ByForm t u → ParallelStep b u u' → (t' : Term) × ParallelStep b t t' × ByForm t' u'
follow_high {u' = u'} ByForm.same s = (u', s, ByForm.same)
follow_high ByForm.prop p_univ = (Prop, p_prop, ByForm.prop)
follow_high (ByForm.universes {k = k} l) p_univ = (Univ k, p_univ, ByForm.universes l)
follow_high (ByForm.pi p) (p_pi {a' = a'} s r) = let h = follow_high p r in (Pi tt a' h.0, p_pi s h.1, ByForm.pi h.2)
follow_high (ByForm.sigma p q) (p_sigma s r) =
    let h = follow_high p s in
    let k = follow_high q r in
    (Sigma tt h.0 k.0, p_sigma h.1 k.1, ByForm.sigma h.2 k.2)

follow_low : {b : TermBodies} {t t' u : Term} → ByForm t u → ParallelStep b t t' → (u' : Term) × ParallelStep b u u' × ByForm t' u'
follow_low {t' = t'} ByForm.same s = (t', s, ByForm.same)
follow_low (ByForm.prop {l = l}) p_prop = (Univ l, p_univ, ByForm.prop)
follow_low (ByForm.universes {l = k} l) p_univ = (Univ k, p_univ, ByForm.universes l)
follow_low (ByForm.pi p) (p_pi {a' = a'} s r) = let h = follow_low p r in (Pi tt a' h.0, p_pi s h.1, ByForm.pi h.2)
follow_low (ByForm.sigma p q) (p_sigma s r) =
    let h = follow_low p s in
    let k = follow_low q r in
    (Sigma tt h.0 k.0, p_sigma h.1 k.1, ByForm.sigma h.2 k.2)

run_high : {b : TermBodies} {u u' : Term} → Star (ParallelStep b) u u' → {t : Term} → ByForm t u → (t' : Term) × Star (ParallelStep b) t t' × ByForm t' u'
run_high stop {t} p = (t, stop, p)
run_high (go s q) p =
    let h = follow_high p s in
    let r = run_high q h.2 in
    (r.0, go h.1 r.1, r.2)

run_low : {b : TermBodies} {t t' : Term} → Star (ParallelStep b) t t' → {u : Term} → ByForm t u → (u' : Term) × Star (ParallelStep b) u u' × ByForm t' u'
run_low stop {u} p = (u, stop, p)
run_low (go s q) p =
    let h = follow_low p s in
    let r = run_low q h.2 in
    (r.0, go h.1 r.1, r.2)

-- as ComeUnder, in parallel steps
pub record Meets (b : TermBodies) (t u : Term) : Type 0 where
  pub low : Term
  pub high : Term
  pub left : Star (ParallelStep b) t low
  pub right : Star (ParallelStep b) u high
  pub under : ByForm low high

run_pi : {b : TermBodies} {a a' c c' : Term} → Star (ParallelStep b) a a' → Star (ParallelStep b) c c' → Star (ParallelStep b) (Pi tt a c) (Pi tt a' c')
run_pi {b = b} {a' = a'} {c = c} p q =
    star_trans (star_map (λ x. Pi tt x c) (λ _ _ s. go (p_pi s (p_refl b c)) stop) p) (star_map (Pi tt a') (λ _ _ s. go (p_pi (p_refl b a') s) stop) q)

run_sigma : {b : TermBodies} {a a' c c' : Term} → Star (ParallelStep b) a a' → Star (ParallelStep b) c c' → Star (ParallelStep b) (Sigma tt a c) (Sigma tt a' c')
run_sigma {b = b} {a' = a'} {c = c} p q =
    star_trans (star_map (λ x. Sigma tt x c) (λ _ _ s. go (p_sigma s (p_refl b c)) stop) p) (star_map (Sigma tt a') (λ _ _ s. go (p_sigma (p_refl b a') s) stop) q)

module _ (b : TermBodies) (closed : AreClosed b) where
  pub meets_trans : {t u v : Term} → Meets b t u → Meets b u v → Meets b t v
  meets_trans p q =
      let j = confluent b closed p.right q.left in
      let l = run_high j.left p.under in
      let r = run_low j.right q.under in
      record { low = l.0; high = r.0; left = star_trans p.left l.1; right = star_trans q.right r.1; under = under_trans l.2 r.2 }

  pub meets : {t u : Term} → Below b t u → Meets b t u
  meets (Below.converts p) = let j = joins b closed p in record { low = j.meet; high = j.meet; left = j.left; right = j.right; under = ByForm.same }
  meets Below.prop = record { low = Prop; high = Univ 0; left = stop; right = stop; under = ByForm.prop }
  meets (Below.universe {j = l}) = record { low = Univ l; high = Univ (suc l); left = stop; right = stop; under = ByForm.universes (omega arith) }
  meets (Below.pi p q) =
      let j = joins b closed p in
      let m = meets q in
      record { low = Pi tt j.meet m.low; high = Pi tt j.meet m.high; left = run_pi j.left m.left; right = run_pi j.right m.right; under = ByForm.pi m.under }
  meets (Below.sigma p q) =
      let l = meets p in
      let m = meets q in
      record { low = Sigma tt l.low m.low; high = Sigma tt l.high m.high; left = run_sigma l.left m.left; right = run_sigma l.right m.right; under = ByForm.sigma l.under m.under }
  meets (Below.chain p q) = meets_trans (meets p) (meets q)

-- back again
climb : {b : TermBodies} (n k l : ℕ) → l ≡ k + n → Below b (Univ k) (Univ l)
climb zero k l e = let equal : k ≡ l = omega arith in Below.converts (rw equal Converts.same)
climb (suc n) k l e = Below.chain Below.universe (climb n (suc k) l (omega arith))

pub under-below : {b : TermBodies} {t u : Term} → ByForm t u → Below b t u
under-below ByForm.same = Below.converts Converts.same
under-below (ByForm.prop {l = l}) = Below.chain Below.prop (climb l 0 l (omega arith))
under-below (ByForm.universes {k = k} {l = l} le) = climb (l - k) k l (omega arith)
under-below (ByForm.pi p) = Below.pi Converts.same (under-below p)
under-below (ByForm.sigma p q) = Below.sigma (under-below p) (under-below q)

pub below_inverts : BelowInverts
below_inverts b closed t u = (
  λ p. let m = meets b closed p in record { low = m.low; high = m.high; left = steps_of_parallel m.left; right = steps_of_parallel m.right; by_form = m.under },
  λ m. Below.chain (Below.converts (convert_run m.left)) (Below.chain (under-below m.by_form) (Below.converts (Converts.back (convert_run m.right)))),
)

-- a run from a product goes through products
pub record PiRun (b : TermBodies) (a c v : Term) : Type 0 where
  pub a' : Term
  pub c' : Term
  pub is : v ≡ Pi tt a' c'
  pub left : Star (ParallelStep b) a a'
  pub right : Star (ParallelStep b) c c'

pub pi_run : {b : TermBodies} {a c v : Term} → Star (ParallelStep b) (Pi tt a c) v → PiRun b a c v
pi_run {a = a} {c = c} stop = record { a' = a; c' = c; is = refl; left = stop; right = stop }
pi_run (go (p_pi s r) p) = let h = pi_run p in record { a' = h.a'; c' = h.c'; is = h.is; left = go s h.left; right = go r h.right }

pub convert_joined : {b : TermBodies} {t u v : Term} → Star (ParallelStep b) t v → Star (ParallelStep b) u v → Converts b t u
convert_joined p q = Converts.chain (convert_run (steps_of_parallel p)) (Converts.back (convert_run (steps_of_parallel q)))

pub record SigmaRun (b : TermBodies) (a c v : Term) : Type 0 where
  pub a' : Term
  pub c' : Term
  pub is : v ≡ Sigma tt a' c'
  pub left : Star (ParallelStep b) a a'
  pub right : Star (ParallelStep b) c c'

pub sigma_run : {b : TermBodies} {a c v : Term} → Star (ParallelStep b) (Sigma tt a c) v → SigmaRun b a c v
sigma_run {a = a} {c = c} stop = record { a' = a; c' = c; is = refl; left = stop; right = stop }
sigma_run (go (p_sigma s r) p) = let h = sigma_run p in record { a' = h.a'; c' = h.c'; is = h.is; left = go s h.left; right = go r h.right }

pub below_of : {b : TermBodies} {t u low high : Term} → Star (ParallelStep b) t low → ByForm low high → Star (ParallelStep b) u high → Below b t u
below_of p m q = Below.chain (Below.converts (convert_run (steps_of_parallel p))) (Below.chain (under-below m) (Below.converts (Converts.back (convert_run (steps_of_parallel q)))))

under_pi : {a c a' c' : Term} → ByForm (Pi tt a c) (Pi tt a' c') → (a ≡ a') × ByForm c c'
under_pi ByForm.same = (refl, ByForm.same)
under_pi (ByForm.pi p) = (refl, p)

under_sigma : {a c a' c' : Term} → ByForm (Sigma tt a c) (Sigma tt a' c') → ByForm a a' × ByForm c c'
under_sigma ByForm.same = (ByForm.same, ByForm.same)
under_sigma (ByForm.sigma p q) = (p, q)

pub pi_inverts : (b : TermBodies) → AreClosed b → (a c a' c' : Term) → Below b (Pi tt a c) (Pi tt a' c') → Converts b a a' × Below b c c'
pi_inverts b closed a c a' c' p =
    let m = meets b closed p in
    let l = pi_run m.left in
    let r = pi_run m.right in
    let u = under_pi (rw (l.is, r.is) at m.under) in
    (convert_joined l.left (rw (← u.0) at r.left), below_of l.right u.1 r.right)

pub sigma_inverts : (b : TermBodies) → AreClosed b → (a c a' c' : Term) → Below b (Sigma tt a c) (Sigma tt a' c') → Below b a a' × Below b c c'
sigma_inverts b closed a c a' c' p =
    let m = meets b closed p in
    let l = sigma_run m.left in
    let r = sigma_run m.right in
    let u = under_sigma (rw (l.is, r.is) at m.under) in
    (below_of l.left u.0 r.left, below_of l.right u.1 r.right)

pub products_invert : PiInverts
products_invert b closed a c a' c' = (pi_inverts b closed a c a' c', λ p. Below.pi p.0 p.1)

pub sigma_types_invert : SigmaInverts
sigma_types_invert b closed a c a' c' = (sigma_inverts b closed a c a' c', λ p. Below.sigma p.0 p.1)

-- between sorts, the order by form alone is left
sort_run : {b : TermBodies} {j : ℕ} {v : Term} → Star (ParallelStep b) (Univ j) v → v ≡ Univ j
sort_run stop = refl
sort_run (go p_univ p) = sort_run p

prop_run : {b : TermBodies} {v : Term} → Star (ParallelStep b) Prop v → v ≡ Prop
prop_run stop = refl
prop_run (go p_prop p) = prop_run p

by_form_universes : {j k : ℕ} → ByForm (Univ j) (Univ k) → j ≤ k
by_form_universes ByForm.same = omega arith
by_form_universes (ByForm.universes le) = le

by_form_prop : {j : ℕ} → ByForm (Univ j) Prop → ⊥
by_form_prop p = elim p [ ]

pub universes_invert : (b : TermBodies) → AreClosed b → (j k : ℕ) → Below b (Univ j) (Univ k) → j ≤ k
universes_invert b closed j k p = let m = meets b closed p in by_form_universes (rw (sort_run m.left, sort_run m.right) at m.under)

pub universe_prop : (b : TermBodies) → AreClosed b → (j : ℕ) → Below b (Univ j) Prop → ⊥
universe_prop b closed j p = let m = meets b closed p in by_form_prop (rw (sort_run m.left, prop_run m.right) at m.under)

pub sorts_invert : SortsInvert
sorts_invert b closed j k = (
  (universes_invert b closed j k, λ le. under-below (ByForm.universes le)),
  under-below ByForm.prop,
  universe_prop b closed j,
  λ p. let up = universes_invert b closed j k (Below.converts p) in let down = universes_invert b closed k j (Below.converts (Converts.back p)) in omega arith,
  λ p. universe_prop b closed k (Below.converts (Converts.back p)),
)
