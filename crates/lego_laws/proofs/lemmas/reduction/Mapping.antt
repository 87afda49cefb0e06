-- A map of the decorations goes through lifting, substitution and head steps.
use Rattle.std.proofs.Common.{◌≡◌, ℕ, suc, ◌-◌, Bool, true, false, nat_lt, nat_eq, if◌then◌else◌, refl, sym, ap, ap₂, ◌∙◌, Option, Some, None, option_map}
use Rattle.lego_term.specs.Steps.{Contracts, Step, Converts}
use Rattle.lego_term.specs.Sequences.{or_else, contract_app, contract_fst, contract_snd, head_step}
use Rattle.lego_laws.specs.Parallel.{ParallelStep, p_var, p_const, p_prop, p_univ, p_pi, p_lam, p_app, p_sigma, p_pair, p_fst, p_snd, p_let, p_local, p_beta, p_first, p_second, p_unfold}
use Rattle.lego_term.specs.Trees.{Tree, Var, Const, Prop, Univ, Pi, Lam, App, Sigma, Pair, Fst, Snd, map_tree, lift, put, put_var, instantiate, Bodies, Let}

module _ {B B' M M' L L' : Type 0} (f : B → B') (g : M → M') (h : L → L') where
  pub map-lift : (from by : ℕ) (t : Tree B M L) → map_tree f g h (lift from by t) ≡ lift from by (map_tree f g h t)
  map-lift from by (Var i) = refl
  map-lift from by (Const k) = refl
  map-lift from by Prop = refl
  map-lift from by (Univ l) = refl
  map-lift from by (Pi x a b) = cc (map-lift from by a, map-lift (suc from) by b)
  map-lift from by (Lam x a m) = cc (map-lift from by a, map-lift (suc from) by m)
  map-lift from by (App k m n) = cc (map-lift from by m, map-lift from by n)
  map-lift from by (Sigma x a b) = cc (map-lift from by a, map-lift (suc from) by b)
  map-lift from by (Let x a b) = cc (map-lift from by a, map-lift (suc from) by b)
  map-lift from by (Pair x a b m n) = cc (map-lift from by a, map-lift (suc from) by b, map-lift from by m, map-lift from by n)
  map-lift from by (Fst m) = ap Fst (map-lift from by m)
  map-lift from by (Snd m) = ap Snd (map-lift from by m)

  map-choice : (b : Bool) (s t : Tree B M L) → map_tree f g h (if b then s else t) ≡ (if b then map_tree f g h s else map_tree f g h t)
  map-choice true s t = refl
  map-choice false s t = refl

  map-put_var : (depth : ℕ) (v : Tree B M L) (i : ℕ) → map_tree f g h (put_var depth v i) ≡ put_var depth (map_tree f g h v) i
  map-put_var depth v i =
      map-choice (nat_lt i depth) (Var i) (if nat_eq i depth then lift 0 depth v else Var (i - 1))
      ∙ ap (λ t. if nat_lt i depth then Var i else t)
      (map-choice (nat_eq i depth) (lift 0 depth v) (Var (i - 1)) ∙ ap (λ t. if nat_eq i depth then t else Var (i - 1)) (map-lift 0 depth v))

  pub map-put : (depth : ℕ) (v t : Tree B M L) → map_tree f g h (put depth v t) ≡ put depth (map_tree f g h v) (map_tree f g h t)
  map-put depth v (Var i) = map-put_var depth v i
  map-put depth v (Const k) = refl
  map-put depth v Prop = refl
  map-put depth v (Univ l) = refl
  map-put depth v (Pi x a b) = cc (map-put depth v a, map-put (suc depth) v b)
  map-put depth v (Lam x a m) = cc (map-put depth v a, map-put (suc depth) v m)
  map-put depth v (App k m n) = cc (map-put depth v m, map-put depth v n)
  map-put depth v (Sigma x a b) = cc (map-put depth v a, map-put (suc depth) v b)
  map-put depth v (Let x a b) = cc (map-put depth v a, map-put (suc depth) v b)
  map-put depth v (Pair x a b m n) = cc (map-put depth v a, map-put (suc depth) v b, map-put depth v m, map-put depth v n)
  map-put depth v (Fst m) = ap Fst (map-put depth v m)
  map-put depth v (Snd m) = ap Snd (map-put depth v m)

  pub map-instantiate : (m n : Tree B M L) → map_tree f g h (instantiate m n) ≡ instantiate (map_tree f g h m) (map_tree f g h n)
  unfolding instantiate
  map-instantiate m n = map-put 0 n m

or_else-map : {X Y : Type 0} (f : X → Y) (o p : Option X) → or_else (option_map f o) (option_map f p) ≡ option_map f (or_else o p)
or_else-map f None p = refl
or_else-map f (Some x) p = refl

map-map : {X Y Z W : Type 0} (f : X → Y) (g : Y → Z) (f' : X → W) (g' : W → Z) → ((x : X) → g (f x) ≡ g' (f' x)) → (o : Option X) → option_map g (option_map f o) ≡ option_map g' (option_map f' o)
map-map f g f' g' h None = refl
map-map f g f' g' h (Some x) = ap Some (h x)

-- steps keep where decorations are replaced
module _ {B B' M M' L L' : Type 0} (f : B → B') (g : M → M') (h : L → L') (b : Bodies B M L) where
  abbrev pub mapped_bodies : Bodies B' M' L'
  mapped_bodies k = option_map (map_tree f g h) (b k)

  pub contracts-map : {t u : Tree B M L} → Contracts b t u → Contracts mapped_bodies (map_tree f g h t) (map_tree f g h u)
  contracts-map (Contracts.beta {m = m} {n = n}) = rw (map-instantiate f g h m n) Contracts.beta
  contracts-map Contracts.first = Contracts.first
  contracts-map Contracts.second = Contracts.second
  contracts-map (Contracts.local {m = m} {n = n}) = rw (map-instantiate f g h n m) Contracts.local
  contracts-map (Contracts.unfolds e) = Contracts.unfolds (ap (option_map (map_tree f g h)) e)

  pub step-map : {t u : Tree B M L} → Step b t u → Step mapped_bodies (map_tree f g h t) (map_tree f g h u)
  step-map (Step.here c) = Step.here (contracts-map c)
  step-map (Step.pi_domain s) = Step.pi_domain (step-map s)
  step-map (Step.pi_body s) = Step.pi_body (step-map s)
  step-map (Step.lam_domain s) = Step.lam_domain (step-map s)
  step-map (Step.lam_body s) = Step.lam_body (step-map s)
  step-map (Step.function s) = Step.function (step-map s)
  step-map (Step.argument s) = Step.argument (step-map s)
  step-map (Step.sigma_domain s) = Step.sigma_domain (step-map s)
  step-map (Step.local_value s) = Step.local_value (step-map s)
  step-map (Step.sigma_body s) = Step.sigma_body (step-map s)
  step-map (Step.local_body s) = Step.local_body (step-map s)
  step-map (Step.pair_domain s) = Step.pair_domain (step-map s)
  step-map (Step.pair_body s) = Step.pair_body (step-map s)
  step-map (Step.pair_first s) = Step.pair_first (step-map s)
  step-map (Step.pair_second s) = Step.pair_second (step-map s)
  step-map (Step.fst_operand s) = Step.fst_operand (step-map s)
  step-map (Step.snd_operand s) = Step.snd_operand (step-map s)

  pub parallel-map : {t u : Tree B M L} → ParallelStep b t u → ParallelStep mapped_bodies (map_tree f g h t) (map_tree f g h u)
  parallel-map p_var = p_var
  parallel-map p_const = p_const
  parallel-map p_prop = p_prop
  parallel-map p_univ = p_univ
  parallel-map (p_pi p q) = p_pi (parallel-map p) (parallel-map q)
  parallel-map (p_lam p q) = p_lam (parallel-map p) (parallel-map q)
  parallel-map (p_app p q) = p_app (parallel-map p) (parallel-map q)
  parallel-map (p_sigma p q) = p_sigma (parallel-map p) (parallel-map q)
  parallel-map (p_let p q) = p_let (parallel-map p) (parallel-map q)
  parallel-map (p_pair p q r s) = p_pair (parallel-map p) (parallel-map q) (parallel-map r) (parallel-map s)
  parallel-map (p_fst p) = p_fst (parallel-map p)
  parallel-map (p_snd p) = p_snd (parallel-map p)
  parallel-map (p_beta {m' = m} {n' = n} p q) = rw (map-instantiate f g h m n) (p_beta (parallel-map p) (parallel-map q))
  parallel-map (p_first p) = p_first (parallel-map p)
  parallel-map (p_second p) = p_second (parallel-map p)
  parallel-map (p_local {m' = m} {n' = n} p q) = rw (map-instantiate f g h n m) (p_local (parallel-map p) (parallel-map q))
  parallel-map (p_unfold e) = p_unfold (ap (option_map (map_tree f g h)) e)

  pub converts-map : {t u : Tree B M L} → Converts b t u → Converts mapped_bodies (map_tree f g h t) (map_tree f g h u)
  converts-map (Converts.step s) = Converts.step (step-map s)
  converts-map Converts.same = Converts.same
  converts-map (Converts.back p) = Converts.back (converts-map p)
  converts-map (Converts.chain p q) = Converts.chain (converts-map p) (converts-map q)

  contract_app-map : (m n : Tree B M L) → contract_app (map_tree f g h m) (map_tree f g h n) ≡ option_map (map_tree f g h) (contract_app m n)
  contract_app-map (Lam x a m) n = ap Some (sym (map-instantiate f g h m n))
  contract_app-map _ n = refl

  contract_fst-map : (m : Tree B M L) → contract_fst (map_tree f g h m) ≡ option_map (map_tree f g h) (contract_fst m)
  contract_fst-map (Pair x a c m n) = refl
  contract_fst-map _ = refl

  contract_snd-map : (m : Tree B M L) → contract_snd (map_tree f g h m) ≡ option_map (map_tree f g h) (contract_snd m)
  contract_snd-map (Pair x a c m n) = refl
  contract_snd-map _ = refl

  -- the head step of the mapped term is the mapped head step
  pub head_step-map : (t : Tree B M L) → head_step mapped_bodies (map_tree f g h t) ≡ option_map (map_tree f g h) (head_step b t)
  head_step-map (Const k) = refl
  head_step-map (App k m n) =
      ap₂ or_else (contract_app-map m n)
      (ap (option_map (λ m'. App (g k) m' (map_tree f g h n))) (head_step-map m)
      ∙ map-map (map_tree f g h) (λ m'. App (g k) m' (map_tree f g h n)) (λ m'. App k m' n) (map_tree f g h) (λ x. refl) (head_step b m))
      ∙ or_else-map (map_tree f g h) (contract_app m n) (option_map (λ m'. App k m' n) (head_step b m))
  head_step-map (Fst m) =
      ap₂ or_else (contract_fst-map m)
      (ap (option_map Fst) (head_step-map m) ∙ map-map (map_tree f g h) Fst Fst (map_tree f g h) (λ x. refl) (head_step b m))
      ∙ or_else-map (map_tree f g h) (contract_fst m) (option_map Fst (head_step b m))
  head_step-map (Snd m) =
      ap₂ or_else (contract_snd-map m)
      (ap (option_map Snd) (head_step-map m) ∙ map-map (map_tree f g h) Snd Snd (map_tree f g h) (λ x. refl) (head_step b m))
      ∙ or_else-map (map_tree f g h) (contract_snd m) (option_map Snd (head_step b m))
  head_step-map (Let x m n) = ap Some (sym (map-instantiate f g h n m))
  head_step-map _ = refl
