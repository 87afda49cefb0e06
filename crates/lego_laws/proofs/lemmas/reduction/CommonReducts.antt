-- Church-Rosser over decorated trees.
use Rattle.lego_term.specs.Trees.{Tree, Pi, Lam, App, Sigma, Pair, Fst, Snd, Bodies, Let}
use Rattle.lego_term.specs.Steps.{Contracts, Step, Converts}
use Rattle.lego_laws.specs.Parallel.{AreClosed, ParallelStep, p_var, p_const, p_prop, p_univ, p_pi, p_lam, p_app, p_sigma, p_pair, p_fst, p_snd, p_let, p_local, p_beta, p_first, p_second, p_unfold, Star, stop, go}
use Rattle.lego_laws.specs.Confluence.{ParallelStepsMeetOf, ParallelStepsMeet, ConfluenceOf, Confluence}
use Rattle.lego_laws.proofs.lemmas.reduction.Parallel.{p_refl, develop, triangle}

pub star_trans : {T : Type 0} {R : T → T → Type 0} {t u v : T} → Star R t u → Star R u v → Star R t v
star_trans stop q = q
star_trans (go s p) q = go s (star_trans p q)

-- a map of terms that keeps single steps keeps runs
pub star_map : {T : Type 0} {R S : T → T → Type 0} (f : T → T) → ((t u : T) → R t u → Star S (f t) (f u)) → {t u : T} → Star R t u → Star S (f t) (f u)
star_map f h stop = stop
star_map f h (go s p) = star_trans (h _ _ s) (star_map f h p)

pub step-parallel : {B M L : Type 0} {b : Bodies B M L} {t u : Tree B M L} → Step b t u → ParallelStep b t u
step-parallel {b = b} (Step.here (Contracts.beta {m = m} {n = n})) = p_beta (p_refl b m) (p_refl b n)
step-parallel {b = b} (Step.here (Contracts.first {m = m})) = p_first (p_refl b m)
step-parallel {b = b} (Step.here (Contracts.second {n = n})) = p_second (p_refl b n)
step-parallel {b = b} (Step.here (Contracts.local {m = m} {n = n})) = p_local (p_refl b m) (p_refl b n)
step-parallel {b = b} (Step.local_value {n = y} s) = p_let (step-parallel s) (p_refl b y)
step-parallel {b = b} (Step.local_body {m = y} s) = p_let (p_refl b y) (step-parallel s)
step-parallel (Step.here (Contracts.unfolds e)) = p_unfold e
step-parallel {b = b} (Step.pi_domain {b = y} s) = p_pi (step-parallel s) (p_refl b y)
step-parallel {b = b} (Step.pi_body {a = y} s) = p_pi (p_refl b y) (step-parallel s)
step-parallel {b = b} (Step.lam_domain {m = y} s) = p_lam (step-parallel s) (p_refl b y)
step-parallel {b = b} (Step.lam_body {a = y} s) = p_lam (p_refl b y) (step-parallel s)
step-parallel {b = b} (Step.function {n = y} s) = p_app (step-parallel s) (p_refl b y)
step-parallel {b = b} (Step.argument {m = y} s) = p_app (p_refl b y) (step-parallel s)
step-parallel {b = b} (Step.sigma_domain {b = y} s) = p_sigma (step-parallel s) (p_refl b y)
step-parallel {b = b} (Step.sigma_body {a = y} s) = p_sigma (p_refl b y) (step-parallel s)
step-parallel {b = b} (Step.pair_domain {b = c} {m = m} {n = n} s) = p_pair (step-parallel s) (p_refl b c) (p_refl b m) (p_refl b n)
step-parallel {b = b} (Step.pair_body {a = a} {m = m} {n = n} s) = p_pair (p_refl b a) (step-parallel s) (p_refl b m) (p_refl b n)
step-parallel {b = b} (Step.pair_first {a = a} {b = c} {n = n} s) = p_pair (p_refl b a) (p_refl b c) (step-parallel s) (p_refl b n)
step-parallel {b = b} (Step.pair_second {a = a} {b = c} {m = m} s) = p_pair (p_refl b a) (p_refl b c) (p_refl b m) (step-parallel s)
step-parallel (Step.fst_operand s) = p_fst (step-parallel s)
step-parallel (Step.snd_operand s) = p_snd (step-parallel s)

-- runs under each constructor
both : {B M L : Type 0} {b : Bodies B M L} (f : Tree B M L → Tree B M L → Tree B M L) → ((x x' y : Tree B M L) → Step b x x' → Step b (f x y) (f x' y)) → ((x y y' : Tree B M L) → Step b y y' → Step b (f x y) (f x y')) → {x x' y y' : Tree B M L} → Star (Step b) x x' → Star (Step b) y y' → Star (Step b) (f x y) (f x' y')
both f left right {x' = x'} {y = y} p q =
    star_trans (star_map (λ z. f z y) (λ _ _ s. go (left _ _ _ s) stop) p) (star_map (f x') (λ _ _ s. go (right _ _ _ s) stop) q)

pub steps_pair : {B M L : Type 0} {b : Bodies B M L} {x : B} {a a' c c' m m' n n' : Tree B M L} → Star (Step b) a a' → Star (Step b) c c' → Star (Step b) m m' → Star (Step b) n n' → Star (Step b) (Pair x a c m n) (Pair x a' c' m' n')
steps_pair {x = z} {a' = a'} {c' = c'} {m = m} {n = n} p q r s =
    star_trans (both (λ a c. Pair z a c m n) (λ _ _ _ s. Step.pair_domain s) (λ _ _ _ s. Step.pair_body s) p q) (both (Pair z a' c') (λ _ _ _ s. Step.pair_first s) (λ _ _ _ s. Step.pair_second s) r s)

pub parallel-steps : {B M L : Type 0} {b : Bodies B M L} {t u : Tree B M L} → ParallelStep b t u → Star (Step b) t u
parallel-steps p_var = stop
parallel-steps p_const = stop
parallel-steps p_prop = stop
parallel-steps p_univ = stop
parallel-steps (p_pi {x = x} p q) = both (Pi x) (λ _ _ _ s. Step.pi_domain s) (λ _ _ _ s. Step.pi_body s) (parallel-steps p) (parallel-steps q)
parallel-steps (p_lam {x = x} p q) = both (Lam x) (λ _ _ _ s. Step.lam_domain s) (λ _ _ _ s. Step.lam_body s) (parallel-steps p) (parallel-steps q)
parallel-steps (p_app {k = k} p q) = both (App k) (λ _ _ _ s. Step.function s) (λ _ _ _ s. Step.argument s) (parallel-steps p) (parallel-steps q)
parallel-steps (p_sigma {x = x} p q) = both (Sigma x) (λ _ _ _ s. Step.sigma_domain s) (λ _ _ _ s. Step.sigma_body s) (parallel-steps p) (parallel-steps q)
parallel-steps (p_let {x = x} p q) = both (Let x) (λ _ _ _ s. Step.local_value s) (λ _ _ _ s. Step.local_body s) (parallel-steps p) (parallel-steps q)
parallel-steps (p_pair p q r s) = steps_pair (parallel-steps p) (parallel-steps q) (parallel-steps r) (parallel-steps s)
parallel-steps (p_fst p) = star_map Fst (λ _ _ s. go (Step.fst_operand s) stop) (parallel-steps p)
parallel-steps (p_snd p) = star_map Snd (λ _ _ s. go (Step.snd_operand s) stop) (parallel-steps p)
parallel-steps (p_beta {k = k} {x = x} {a = a} p q) = star_trans (both (λ m n. App k (Lam x a m) n) (λ _ _ _ s. Step.function (Step.lam_body s)) (λ _ _ _ s. Step.argument s) (parallel-steps p) (parallel-steps q)) (go (Step.here Contracts.beta) stop)
parallel-steps (p_first {x = x} {a = a} {c = c} {n = n} p) = star_trans (star_map (λ m. Fst (Pair x a c m n)) (λ _ _ s. go (Step.fst_operand (Step.pair_first s)) stop) (parallel-steps p)) (go (Step.here Contracts.first) stop)
parallel-steps (p_second {x = x} {a = a} {c = c} {m = m} p) = star_trans (star_map (λ n. Snd (Pair x a c m n)) (λ _ _ s. go (Step.snd_operand (Step.pair_second s)) stop) (parallel-steps p)) (go (Step.here Contracts.second) stop)
parallel-steps (p_unfold e) = go (Step.here (Contracts.unfolds e)) stop
parallel-steps (p_local {x = x} p q) = star_trans (both (Let x) (λ _ _ _ s. Step.local_value s) (λ _ _ _ s. Step.local_body s) (parallel-steps p) (parallel-steps q)) (go (Step.here Contracts.local) stop)

-- runs of parallel steps
pub record Joins {B M L : Type 0} (b : Bodies B M L) (t u : Tree B M L) : Type 0 where
  pub meet : Tree B M L
  pub left : Star (ParallelStep b) t meet
  pub right : Star (ParallelStep b) u meet

pub steps_of_parallel : {B M L : Type 0} {b : Bodies B M L} {t u : Tree B M L} → Star (ParallelStep b) t u → Star (Step b) t u
steps_of_parallel = star_map (λ x. x) (λ _ _ s. parallel-steps s)

pub parallel_of_steps : {B M L : Type 0} {b : Bodies B M L} {t u : Tree B M L} → Star (Step b) t u → Star (ParallelStep b) t u
parallel_of_steps = star_map (λ x. x) (λ _ _ s. go (step-parallel s) stop)

module _ {B M L : Type 0} (b : Bodies B M L) (closed : AreClosed b) where
  -- one parallel step against a run
  strip : {t u v : Tree B M L} → ParallelStep b t u → Star (ParallelStep b) t v → (w : Tree B M L) × Star (ParallelStep b) u w × ParallelStep b v w
  strip {u = u} s stop = (u, stop, s)
  strip {t = t} s (go r p) =
      let next = strip (triangle b closed r) p in
      (next.0, go (triangle b closed s) next.1, next.2)

  pub confluent : {t u v : Tree B M L} → Star (ParallelStep b) t u → Star (ParallelStep b) t v → Joins b u v
  confluent {v = v} stop q = record { meet = v; left = q; right = stop }
  confluent (go s p) q =
      let one = strip s q in
      let rest = confluent p one.1 in
      record { meet = rest.meet; left = rest.left; right = go one.2 rest.right }

  pub joins_trans : {t u v : Tree B M L} → Joins b t u → Joins b u v → Joins b t v
  joins_trans p q =
      let m = confluent p.right q.left in
      record { meet = m.meet; left = star_trans p.left m.left; right = star_trans q.right m.right }

  pub joins : {t u : Tree B M L} → Converts b t u → Joins b t u
  joins (Converts.step {n = u} s) = record { meet = u; left = go (step-parallel s) stop; right = stop }
  joins (Converts.same {m = t}) = record { meet = t; left = stop; right = stop }
  joins (Converts.back p) = let j = joins p in record { meet = j.meet; left = j.right; right = j.left }
  joins (Converts.chain p q) = joins_trans (joins p) (joins q)

parallel_steps_meet_of : {B M L : Type 0} → ParallelStepsMeetOf B M L
parallel_steps_meet_of b closed t u v p q = (develop b closed t, triangle b closed p, triangle b closed q)

pub parallel_steps_meet : ParallelStepsMeet
parallel_steps_meet = (parallel_steps_meet_of, parallel_steps_meet_of)

confluence_of : {B M L : Type 0} → ConfluenceOf B M L
confluence_of b closed t u p =
    let j = joins b closed p in
    record { meet = j.meet; left = steps_of_parallel j.left; right = steps_of_parallel j.right }

pub confluence : Confluence
confluence = (confluence_of, confluence_of)

-- a run converts
pub convert_run : {B M L : Type 0} {b : Bodies B M L} {t u : Tree B M L} → Star (Step b) t u → Converts b t u
convert_run stop = Converts.same
convert_run (go s p) = Converts.chain (Converts.step s) (convert_run p)

pub convert_map : {B M L : Type 0} {b : Bodies B M L} (f : Tree B M L → Tree B M L) → ((t u : Tree B M L) → Step b t u → Step b (f t) (f u)) → {t u : Tree B M L} → Converts b t u → Converts b (f t) (f u)
convert_map f h (Converts.step s) = Converts.step (h _ _ s)
convert_map f h Converts.same = Converts.same
convert_map f h (Converts.back p) = Converts.back (convert_map f h p)
convert_map f h (Converts.chain p q) = Converts.chain (convert_map f h p) (convert_map f h q)

-- conversion under each constructor
two_maps : {B M L : Type 0} {b : Bodies B M L} (f : Tree B M L → Tree B M L → Tree B M L) → ((x x' y : Tree B M L) → Step b x x' → Step b (f x y) (f x' y)) → ((x y y' : Tree B M L) → Step b y y' → Step b (f x y) (f x y')) → {x x' y y' : Tree B M L} → Converts b x x' → Converts b y y' → Converts b (f x y) (f x' y')
two_maps f left right {x' = x'} {y = y} p q =
    Converts.chain (convert_map (λ z. f z y) (λ _ _ s. left _ _ _ s) p) (convert_map (f x') (λ _ _ s. right _ _ _ s) q)

module _ {B M L : Type 0} {b : Bodies B M L} where
  pub pi_same : {x : B} {a a' r r' : Tree B M L} → Converts b a a' → Converts b r r' → Converts b (Pi x a r) (Pi x a' r')
  pi_same {x} = two_maps (Pi x) (λ _ _ _ s. Step.pi_domain s) (λ _ _ _ s. Step.pi_body s)

  pub lam_same : {x : B} {a a' r r' : Tree B M L} → Converts b a a' → Converts b r r' → Converts b (Lam x a r) (Lam x a' r')
  lam_same {x} = two_maps (Lam x) (λ _ _ _ s. Step.lam_domain s) (λ _ _ _ s. Step.lam_body s)

  pub app_same : {k : M} {a a' r r' : Tree B M L} → Converts b a a' → Converts b r r' → Converts b (App k a r) (App k a' r')
  app_same {k} = two_maps (App k) (λ _ _ _ s. Step.function s) (λ _ _ _ s. Step.argument s)

  pub sigma_same : {x : B} {a a' r r' : Tree B M L} → Converts b a a' → Converts b r r' → Converts b (Sigma x a r) (Sigma x a' r')
  sigma_same {x} = two_maps (Sigma x) (λ _ _ _ s. Step.sigma_domain s) (λ _ _ _ s. Step.sigma_body s)

  pub pair_same : {x : B} {a a' r r' m m' n n' : Tree B M L} → Converts b a a' → Converts b r r' → Converts b m m' → Converts b n n' → Converts b (Pair x a r m n) (Pair x a' r' m' n')
  pair_same {x} {a' = a'} {r' = r'} {m = m} {n = n} p q y z =
      Converts.chain (two_maps (λ v w. Pair x v w m n) (λ _ _ _ s. Step.pair_domain s) (λ _ _ _ s. Step.pair_body s) p q)
      (two_maps (Pair x a' r') (λ _ _ _ s. Step.pair_first s) (λ _ _ _ s. Step.pair_second s) y z)

  pub fst_same : {m m' : Tree B M L} → Converts b m m' → Converts b (Fst m) (Fst m')
  fst_same p = convert_map Fst (λ _ _ s. Step.fst_operand s) p

  pub snd_same : {m m' : Tree B M L} → Converts b m m' → Converts b (Snd m) (Snd m')
  snd_same p = convert_map Snd (λ _ _ s. Step.snd_operand s) p
