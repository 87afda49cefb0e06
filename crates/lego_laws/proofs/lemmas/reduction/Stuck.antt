-- A head form keeps its form in every step.
use Rattle.std.proofs.Common.{◌≡◌, Option, Some, None, refl, ap, option_map}
use Rattle.lego_term.specs.Trees.{Tree, Lam, App, Pair, Fst, Snd, Bodies}
use Rattle.lego_term.specs.Sequences.{head_step}
use Rattle.lego_laws.specs.Parallel.{ParallelStep, p_var, p_const, p_prop, p_univ, p_pi, p_lam, p_app, p_sigma, p_pair, p_fst, p_snd, p_let, p_local, p_beta, p_first, p_second, p_unfold}
use Rattle.lego_laws.specs.HeadForms.{IsHeadForm}

-- what stands at the function of a head form, and at the operand of a projection
abbrev pub IsLam : {B M L : Type 0} → Tree B M L → Type 0
IsLam (Lam x a m) = Unit {0}
IsLam _ = ⊥

abbrev pub IsPair : {B M L : Type 0} → Tree B M L → Type 0
IsPair (Pair x a c m n) = Unit {0}
IsPair _ = ⊥

map_none : {X Y : Type 0} (f : X → Y) (o : Option X) → option_map f o ≡ None → o ≡ None
map_none f None e = refl
map_none f (Some t) e = cc

pub app_stuck : {B M L : Type 0} (b : Bodies B M L) (x : M) (m n : Tree B M L) → IsHeadForm b (App x m n) → IsHeadForm b m × (IsLam m → ⊥)
app_stuck b x (Lam y a m) n e = cc
app_stuck b x m n e = (map_none (λ f. App x f n) (head_step b m) e, λ h. h)

pub app_stands : {B M L : Type 0} (b : Bodies B M L) (x : M) (m n : Tree B M L) → IsHeadForm b m → (IsLam m → ⊥) → IsHeadForm b (App x m n)
app_stands b x (Lam y a m) n e h = absurd (h tt)
app_stands b x m n e h = ap (option_map (λ f. App x f n)) e

pub fst_stuck : {B M L : Type 0} (b : Bodies B M L) (m : Tree B M L) → IsHeadForm b (Fst m) → IsHeadForm b m × (IsPair m → ⊥)
fst_stuck b (Pair x a c m n) e = cc
fst_stuck b m e = (map_none Fst (head_step b m) e, λ h. h)

pub fst_stands : {B M L : Type 0} (b : Bodies B M L) (m : Tree B M L) → IsHeadForm b m → (IsPair m → ⊥) → IsHeadForm b (Fst m)
fst_stands b (Pair x a c m n) e h = absurd (h tt)
fst_stands b m e h = ap (option_map Fst) e

pub snd_stuck : {B M L : Type 0} (b : Bodies B M L) (m : Tree B M L) → IsHeadForm b (Snd m) → IsHeadForm b m × (IsPair m → ⊥)
snd_stuck b (Pair x a c m n) e = cc
snd_stuck b m e = (map_none Snd (head_step b m) e, λ h. h)

pub snd_stands : {B M L : Type 0} (b : Bodies B M L) (m : Tree B M L) → IsHeadForm b m → (IsPair m → ⊥) → IsHeadForm b (Snd m)
snd_stands b (Pair x a c m n) e h = absurd (h tt)
snd_stands b m e h = ap (option_map Snd) e

-- a step from a head form is made in its parts, and leads to a head form
pub record Kept {B M L : Type 0} (b : Bodies B M L) (t u : Tree B M L) : Type 0 where
  pub stays : IsHeadForm b u
  pub no_lam : (IsLam t → ⊥) → IsLam u → ⊥
  pub no_pair : (IsPair t → ⊥) → IsPair u → ⊥

pub kept : {B M L : Type 0} {b : Bodies B M L} {t u : Tree B M L} → ParallelStep b t u → IsHeadForm b t → Kept b t u
kept p_var e = record { stays = refl; no_lam = λ h. h; no_pair = λ h. h }
kept p_const e = record { stays = e; no_lam = λ h. h; no_pair = λ h. h }
kept p_prop e = record { stays = refl; no_lam = λ h. h; no_pair = λ h. h }
kept p_univ e = record { stays = refl; no_lam = λ h. h; no_pair = λ h. h }
kept (p_pi p q) e = record { stays = refl; no_lam = λ h. h; no_pair = λ h. h }
kept (p_lam p q) e = record { stays = refl; no_lam = λ h. h; no_pair = λ h. h }
kept {b = b} (p_app {k = x} {m = m} {m' = m'} {n = n} {n' = n'} p q) e =
    let h = app_stuck b x m n e in
    let k = kept p h.0 in
    record { stays = app_stands b x m' n' k.stays (k.no_lam h.1); no_lam = λ h. h; no_pair = λ h. h }
kept (p_sigma p q) e = record { stays = refl; no_lam = λ h. h; no_pair = λ h. h }
kept (p_let p q) e = cc
kept (p_local p q) e = cc
kept (p_pair p q r s) e = record { stays = refl; no_lam = λ h. h; no_pair = λ h. h }
kept {b = b} (p_fst {m = m} {m' = m'} p) e =
    let h = fst_stuck b m e in
    let k = kept p h.0 in
    record { stays = fst_stands b m' k.stays (k.no_pair h.1); no_lam = λ h. h; no_pair = λ h. h }
kept {b = b} (p_snd {m = m} {m' = m'} p) e =
    let h = snd_stuck b m e in
    let k = kept p h.0 in
    record { stays = snd_stands b m' k.stays (k.no_pair h.1); no_lam = λ h. h; no_pair = λ h. h }
kept (p_beta p q) e = cc
kept (p_first p) e = cc
kept (p_second p) e = cc
kept (p_unfold f) e = cc
