-- Parallel steps over decorated trees: under substitution, and the complete development.
use Rattle.std.proofs.Common.{◌≡◌, ℕ, zero, suc, Option, Some, None, refl, sym, ap, ap₂, ◌∙◌, arith}
use Rattle.lego_term.specs.Trees.{Tree, Var, Const, Prop, Univ, Pi, Lam, App, Sigma, Pair, Fst, Snd, Bodies, instantiate, loose, Let}
use Rattle.lego_laws.specs.Parallel.{AreClosed, ParallelStep, p_var, p_const, p_prop, p_univ, p_pi, p_lam, p_app, p_sigma, p_pair, p_fst, p_snd, p_let, p_local, p_beta, p_first, p_second, p_unfold}
use Rattle.lego_laws.proofs.lemmas.reduction.Subst.{rename, up_ren, substitute, up, one, rename_is, up_var, substitute_fixes, substitute-instantiate, instantiate_is}

pub p_refl : {B M L : Type 0} (b : Bodies B M L) (t : Tree B M L) → ParallelStep b t t
p_refl b (Var i) = p_var
p_refl b (Const k) = p_const
p_refl b Prop = p_prop
p_refl b (Univ l) = p_univ
p_refl b (Pi x a c) = p_pi (p_refl b a) (p_refl b c)
p_refl b (Lam x a m) = p_lam (p_refl b a) (p_refl b m)
p_refl b (App k m n) = p_app (p_refl b m) (p_refl b n)
p_refl b (Sigma x a c) = p_sigma (p_refl b a) (p_refl b c)
p_refl b (Let x a c) = p_let (p_refl b a) (p_refl b c)
p_refl b (Pair x a c m n) = p_pair (p_refl b a) (p_refl b c) (p_refl b m) (p_refl b n)
p_refl b (Fst m) = p_fst (p_refl b m)
p_refl b (Snd m) = p_snd (p_refl b m)

pub rename-instantiate : {B M L : Type 0} (f : ℕ → ℕ) (m n : Tree B M L) → rename f (instantiate m n) ≡ instantiate (rename (up_ren f) m) (rename f n)
rename-instantiate f m n =
    rename_is f (instantiate m n) ∙ substitute-instantiate (λ i. Var (f i)) m n
    ∙ ap₂ instantiate (ap (λ s. substitute s m) (up_var f) ∙ sym (rename_is (up_ren f) m)) (sym (rename_is f n))

pub closed_rename : {B M L : Type 0} (f : ℕ → ℕ) (t : Tree B M L) → loose t ≡ 0 → rename f t ≡ t
closed_rename f t e = rename_is f t ∙ substitute_fixes (λ i. Var (f i)) t (λ i l. grind arith)

pub closed_substitute : {B M L : Type 0} (s : ℕ → Tree B M L) (t : Tree B M L) → loose t ≡ 0 → substitute s t ≡ t
closed_substitute s t e = substitute_fixes s t (λ i l. grind arith)

module _ {B M L : Type 0} (b : Bodies B M L) (closed : AreClosed b) where
  pub p-rename : (f : ℕ → ℕ) {t u : Tree B M L} → ParallelStep b t u → ParallelStep b (rename f t) (rename f u)
  p-rename f p_var = p_var
  p-rename f p_const = p_const
  p-rename f p_prop = p_prop
  p-rename f p_univ = p_univ
  p-rename f (p_pi p q) = p_pi (p-rename f p) (p-rename (up_ren f) q)
  p-rename f (p_lam p q) = p_lam (p-rename f p) (p-rename (up_ren f) q)
  p-rename f (p_app p q) = p_app (p-rename f p) (p-rename f q)
  p-rename f (p_sigma p q) = p_sigma (p-rename f p) (p-rename (up_ren f) q)
  p-rename f (p_let p q) = p_let (p-rename f p) (p-rename (up_ren f) q)
  p-rename f (p_pair p q r s) = p_pair (p-rename f p) (p-rename (up_ren f) q) (p-rename f r) (p-rename f s)
  p-rename f (p_fst p) = p_fst (p-rename f p)
  p-rename f (p_snd p) = p_snd (p-rename f p)
  p-rename f (p_beta p q) = rw rename-instantiate (p_beta (p-rename (up_ren f) p) (p-rename f q))
  p-rename f (p_first p) = p_first (p-rename f p)
  p-rename f (p_second p) = p_second (p-rename f p)
  p-rename f (p_local p q) = rw rename-instantiate (p_local (p-rename f p) (p-rename (up_ren f) q))
  p-rename f (p_unfold {k = k} {t = t} e) = rw (closed_rename f t (closed k t e)) (p_unfold e)

  p-up : (s r : ℕ → Tree B M L) → ((i : ℕ) → ParallelStep b (s i) (r i)) → (i : ℕ) → ParallelStep b (up s i) (up r i)
  p-up s r h zero = p_var
  p-up s r h (suc i) = p-rename suc (h i)

  pub p-substitute : (s r : ℕ → Tree B M L) → ((i : ℕ) → ParallelStep b (s i) (r i)) → {t u : Tree B M L} → ParallelStep b t u → ParallelStep b (substitute s t) (substitute r u)
  p-substitute s r h (p_var {i = i}) = h i
  p-substitute s r h p_const = p_const
  p-substitute s r h p_prop = p_prop
  p-substitute s r h p_univ = p_univ
  p-substitute s r h (p_pi p q) = p_pi (p-substitute s r h p) (p-substitute (up s) (up r) (p-up s r h) q)
  p-substitute s r h (p_lam p q) = p_lam (p-substitute s r h p) (p-substitute (up s) (up r) (p-up s r h) q)
  p-substitute s r h (p_app p q) = p_app (p-substitute s r h p) (p-substitute s r h q)
  p-substitute s r h (p_sigma p q) = p_sigma (p-substitute s r h p) (p-substitute (up s) (up r) (p-up s r h) q)
  p-substitute s r h (p_let p q) = p_let (p-substitute s r h p) (p-substitute (up s) (up r) (p-up s r h) q)
  p-substitute s r h (p_pair p q m n) = p_pair (p-substitute s r h p) (p-substitute (up s) (up r) (p-up s r h) q) (p-substitute s r h m) (p-substitute s r h n)
  p-substitute s r h (p_fst p) = p_fst (p-substitute s r h p)
  p-substitute s r h (p_snd p) = p_snd (p-substitute s r h p)
  p-substitute s r h (p_beta p q) = rw substitute-instantiate (p_beta (p-substitute (up s) (up r) (p-up s r h) p) (p-substitute s r h q))
  p-substitute s r h (p_first p) = p_first (p-substitute s r h p)
  p-substitute s r h (p_second p) = p_second (p-substitute s r h p)
  p-substitute s r h (p_local p q) = rw substitute-instantiate (p_local (p-substitute s r h p) (p-substitute (up s) (up r) (p-up s r h) q))
  p-substitute s r h (p_unfold {k = k} {t = t} e) = rw (closed_substitute r t (closed k t e)) (p_unfold e)

  p-one : {n n' : Tree B M L} → ParallelStep b n n' → (i : ℕ) → ParallelStep b (one n i) (one n' i)
  p-one p zero = p
  p-one p (suc i) = p_var

  pub p-instantiate : {m m' n n' : Tree B M L} → ParallelStep b m m' → ParallelStep b n n' → ParallelStep b (instantiate m n) (instantiate m' n')
  p-instantiate {m} {m'} {n} {n'} p q = rw (instantiate_is m n, instantiate_is m' n') (p-substitute (one n) (one n') (p-one q) p)

  -- contracts every place at once
  unfolded : ℕ → Option (Tree B M L) → Tree B M L
  unfolded k None = Const k
  unfolded k (Some t) = t

  pub develop : Tree B M L → Tree B M L
  develop (Var i) = Var i
  develop (Const k) = unfolded k (b k)
  develop Prop = Prop
  develop (Univ l) = Univ l
  develop (Pi x a c) = Pi x (develop a) (develop c)
  develop (Lam x a m) = Lam x (develop a) (develop m)
  develop (App k (Lam x a m) n) = instantiate (develop m) (develop n)
  develop (App k m n) = App k (develop m) (develop n)
  develop (Sigma x a c) = Sigma x (develop a) (develop c)
  develop (Let x m n) = instantiate (develop n) (develop m)
  develop (Pair x a c m n) = Pair x (develop a) (develop c) (develop m) (develop n)
  develop (Fst (Pair x a c m n)) = develop m
  develop (Fst m) = Fst (develop m)
  develop (Snd (Pair x a c m n)) = develop n
  develop (Snd m) = Snd (develop m)

  p-unfolded : (k : ℕ) (o : Option (Tree B M L)) → b k ≡ o → ParallelStep b (Const k) (unfolded k o)
  unfolding unfolded
  p-unfolded k None e = p_const
  p-unfolded k (Some t) e = p_unfold e

  pub triangle : {t u : Tree B M L} → ParallelStep b t u → ParallelStep b u (develop t)
  unfolding develop unfolded
  triangle p_var = p_var
  triangle (p_const {k = k}) = p-unfolded k (b k) refl
  triangle p_prop = p_prop
  triangle p_univ = p_univ
  triangle (p_pi p q) = p_pi (triangle p) (triangle q)
  triangle (p_lam p q) = p_lam (triangle p) (triangle q)
  triangle (p_app (p_lam p q) r) = p_beta (triangle q) (triangle r)
  triangle (p_app p q) = p_app (triangle p) (triangle q)
  triangle (p_sigma p q) = p_sigma (triangle p) (triangle q)
  triangle (p_let p q) = p_local (triangle p) (triangle q)
  triangle (p_local p q) = p-instantiate (triangle q) (triangle p)
  triangle (p_pair p q r s) = p_pair (triangle p) (triangle q) (triangle r) (triangle s)
  triangle (p_fst (p_pair p q r s)) = p_first (triangle r)
  triangle (p_fst p) = p_fst (triangle p)
  triangle (p_snd (p_pair p q r s)) = p_second (triangle s)
  triangle (p_snd p) = p_snd (triangle p)
  triangle (p_beta p q) = p-instantiate (triangle p) (triangle q)
  triangle (p_first p) = triangle p
  triangle (p_second p) = triangle p
  triangle (p_unfold {k = k} {t = t} e) = rw e (p_refl b t)
