-- Renamings and simultaneous substitutions, of which lifting and substitution are instances.
use Rattle.std.proofs.Common.{◌≡◌, ℕ, zero, suc, ◌+◌, ◌<◌, pred, nat_lt, if◌then◌else◌, refl, sym, ap, ap₂, ◌∙◌, arith}
use mathlib.Core.Path.{fun_ext}
use Rattle.lego_term.specs.Trees.{Tree, Var, Const, Prop, Univ, Pi, Lam, App, Sigma, Pair, Fst, Snd, loose, map_leaves, lift, put, put_var, instantiate, Let}

-- a renaming under a binder
abbrev pub up_ren : (ℕ → ℕ) → ℕ → ℕ
up_ren f zero = zero
up_ren f (suc n) = suc (f n)

abbrev pub rename : {B M L : Type 0} → (ℕ → ℕ) → Tree B M L → Tree B M L
rename = map_leaves up_ren (λ f i. Var (f i)) (λ f k. Const k)

-- a substitution under a binder
abbrev pub up : {B M L : Type 0} → (ℕ → Tree B M L) → ℕ → Tree B M L
up s zero = Var zero
up s (suc n) = rename suc (s n)

abbrev pub substitute : {B M L : Type 0} → (ℕ → Tree B M L) → Tree B M L → Tree B M L
substitute = map_leaves up (λ s i. s i) (λ s k. Const k)

-- the lemmas by cases; each case of a binder wants the lemma on `up`
pub up-up_ren : {B M L : Type 0} → (s : ℕ → Tree B M L) (f : ℕ → ℕ) → (λ i. up s (up_ren f i)) ≡ up (λ i. s (f i))
up-up_ren s f = fun_ext (elim [ zero ↦ refl | suc n ↦ refl ])

pub substitute-rename : {B M L : Type 0} → (s : ℕ → Tree B M L) (f : ℕ → ℕ) (t : Tree B M L) → substitute s (rename f t) ≡ substitute (λ i. s (f i)) t
substitute-rename s f (Var i) = refl
substitute-rename s f (Const k) = refl
substitute-rename s f Prop = refl
substitute-rename s f (Univ l) = refl
substitute-rename s f (Pi x a b) = cc (substitute-rename s f a, substitute-rename (up s) (up_ren f) b, up-up_ren s f)
substitute-rename s f (Lam x a m) = cc (substitute-rename s f a, substitute-rename (up s) (up_ren f) m, up-up_ren s f)
substitute-rename s f (Sigma x a b) = cc (substitute-rename s f a, substitute-rename (up s) (up_ren f) b, up-up_ren s f)
substitute-rename s f (Let x a b) = cc (substitute-rename s f a, substitute-rename (up s) (up_ren f) b, up-up_ren s f)
substitute-rename s f (App k m n) = cc (substitute-rename s f m, substitute-rename s f n)
substitute-rename s f (Pair x a b m n) = cc (substitute-rename s f a, substitute-rename (up s) (up_ren f) b, substitute-rename s f m, substitute-rename s f n, up-up_ren s f)
substitute-rename s f (Fst m) = ap Fst (substitute-rename s f m)
substitute-rename s f (Snd m) = ap Snd (substitute-rename s f m)

pub up_var : {B M L : Type 0} → (f : ℕ → ℕ) → ◌≡◌ {A = ℕ → Tree B M L} (up (λ i. Var (f i))) (λ i. Var (up_ren f i))
up_var f = fun_ext (elim [ zero ↦ refl | suc n ↦ refl ])

pub rename_is : {B M L : Type 0} → (f : ℕ → ℕ) (t : Tree B M L) → rename f t ≡ substitute (λ i. Var (f i)) t
rename_is f (Var i) = refl
rename_is f (Const k) = refl
rename_is f Prop = refl
rename_is f (Univ l) = refl
rename_is f (Pi x a b) = cc (rename_is f a, rename_is (up_ren f) b, up_var f)
rename_is f (Lam x a m) = cc (rename_is f a, rename_is (up_ren f) m, up_var f)
rename_is f (Sigma x a b) = cc (rename_is f a, rename_is (up_ren f) b, up_var f)
rename_is f (Let x a b) = cc (rename_is f a, rename_is (up_ren f) b, up_var f)
rename_is f (App k m n) = cc (rename_is f m, rename_is f n)
rename_is f (Pair x a b m n) = cc (rename_is f a, rename_is (up_ren f) b, rename_is f m, rename_is f n, up_var f)
rename_is f (Fst m) = ap Fst (rename_is f m)
rename_is f (Snd m) = ap Snd (rename_is f m)

pub rename-rename : {B M L : Type 0} → (f g : ℕ → ℕ) (t : Tree B M L) → rename f (rename g t) ≡ rename (λ i. f (g i)) t
rename-rename f g t =
    rename_is f (rename g t) ∙ substitute-rename (λ i. Var (f i)) g t ∙ sym (rename_is (λ i. f (g i)) t)

pub up_ren-up : {B M L : Type 0} → (f : ℕ → ℕ) (s : ℕ → Tree B M L) → (λ i. rename (up_ren f) (up s i)) ≡ up (λ i. rename f (s i))
up_ren-up f s = fun_ext (elim [ zero ↦ refl | suc n ↦ rename-rename (up_ren f) suc (s n) ∙ sym (rename-rename suc f (s n)) ])

pub rename-substitute : {B M L : Type 0} → (f : ℕ → ℕ) (s : ℕ → Tree B M L) (t : Tree B M L) → rename f (substitute s t) ≡ substitute (λ i. rename f (s i)) t
rename-substitute f s (Var i) = refl
rename-substitute f s (Const k) = refl
rename-substitute f s Prop = refl
rename-substitute f s (Univ l) = refl
rename-substitute f s (Pi x a b) = cc (rename-substitute f s a, rename-substitute (up_ren f) (up s) b, up_ren-up f s)
rename-substitute f s (Lam x a m) = cc (rename-substitute f s a, rename-substitute (up_ren f) (up s) m, up_ren-up f s)
rename-substitute f s (Sigma x a b) = cc (rename-substitute f s a, rename-substitute (up_ren f) (up s) b, up_ren-up f s)
rename-substitute f s (Let x a b) = cc (rename-substitute f s a, rename-substitute (up_ren f) (up s) b, up_ren-up f s)
rename-substitute f s (App k m n) = cc (rename-substitute f s m, rename-substitute f s n)
rename-substitute f s (Pair x a b m n) = cc (rename-substitute f s a, rename-substitute (up_ren f) (up s) b, rename-substitute f s m, rename-substitute f s n, up_ren-up f s)
rename-substitute f s (Fst m) = ap Fst (rename-substitute f s m)
rename-substitute f s (Snd m) = ap Snd (rename-substitute f s m)

pub up-up : {B M L : Type 0} → (r s : ℕ → Tree B M L) → (λ i. substitute (up r) (up s i)) ≡ up (λ i. substitute r (s i))
up-up r s = fun_ext (elim [ zero ↦ refl | suc n ↦ substitute-rename (up r) suc (s n) ∙ sym (rename-substitute suc r (s n)) ])

pub substitute-substitute : {B M L : Type 0} → (r s : ℕ → Tree B M L) (t : Tree B M L) → substitute r (substitute s t) ≡ substitute (λ i. substitute r (s i)) t
substitute-substitute r s (Var i) = refl
substitute-substitute r s (Const k) = refl
substitute-substitute r s Prop = refl
substitute-substitute r s (Univ l) = refl
substitute-substitute r s (Pi x a b) = cc (substitute-substitute r s a, substitute-substitute (up r) (up s) b, up-up r s)
substitute-substitute r s (Lam x a m) = cc (substitute-substitute r s a, substitute-substitute (up r) (up s) m, up-up r s)
substitute-substitute r s (Sigma x a b) = cc (substitute-substitute r s a, substitute-substitute (up r) (up s) b, up-up r s)
substitute-substitute r s (Let x a b) = cc (substitute-substitute r s a, substitute-substitute (up r) (up s) b, up-up r s)
substitute-substitute r s (App k m n) = cc (substitute-substitute r s m, substitute-substitute r s n)
substitute-substitute r s (Pair x a b m n) = cc (substitute-substitute r s a, substitute-substitute (up r) (up s) b, substitute-substitute r s m, substitute-substitute r s n, up-up r s)
substitute-substitute r s (Fst m) = ap Fst (substitute-substitute r s m)
substitute-substitute r s (Snd m) = ap Snd (substitute-substitute r s m)

-- what leaves the loose variables leaves the term
up_fixes : {B M L : Type 0} → (s : ℕ → Tree B M L) (n : ℕ) → ((i : ℕ) → i < pred n → s i ≡ Var i) → (i : ℕ) → i < n → up s i ≡ Var i
up_fixes s n h zero le = refl
up_fixes s n h (suc i) le = ap (rename suc) (h i (omega arith))

pub substitute_fixes : {B M L : Type 0} → (s : ℕ → Tree B M L) (t : Tree B M L) → ((i : ℕ) → i < loose t → s i ≡ Var i) → substitute s t ≡ t
substitute_fixes s (Var i) h = h i (omega arith)
substitute_fixes s (Const k) h = refl
substitute_fixes s Prop h = refl
substitute_fixes s (Univ l) h = refl
substitute_fixes s (Pi x a b) h = ap₂ (Pi x) (substitute_fixes s a (λ i l. h i (omega arith))) (substitute_fixes (up s) b (up_fixes s (loose b) (λ i l. h i (omega arith))))
substitute_fixes s (Lam x a b) h = ap₂ (Lam x) (substitute_fixes s a (λ i l. h i (omega arith))) (substitute_fixes (up s) b (up_fixes s (loose b) (λ i l. h i (omega arith))))
substitute_fixes s (Sigma x a b) h = ap₂ (Sigma x) (substitute_fixes s a (λ i l. h i (omega arith))) (substitute_fixes (up s) b (up_fixes s (loose b) (λ i l. h i (omega arith))))
substitute_fixes s (Let x a b) h = ap₂ (Let x) (substitute_fixes s a (λ i l. h i (omega arith))) (substitute_fixes (up s) b (up_fixes s (loose b) (λ i l. h i (omega arith))))
substitute_fixes s (App k m n) h = ap₂ (App k) (substitute_fixes s m (λ i l. h i (omega arith))) (substitute_fixes s n (λ i l. h i (omega arith)))
substitute_fixes s (Pair x a b m n) h =
    let ea = substitute_fixes s a (λ i l. h i (omega arith)) in
    let eb = substitute_fixes (up s) b (up_fixes s (loose b) (λ i l. h i (omega arith))) in
    let em = substitute_fixes s m (λ i l. h i (omega arith)) in
    let en = substitute_fixes s n (λ i l. h i (omega arith)) in
    cc (ea, eb, em, en)
substitute_fixes s (Fst m) h = ap Fst (substitute_fixes s m h)
substitute_fixes s (Snd m) h = ap Snd (substitute_fixes s m h)

pub substitute_var : {B M L : Type 0} → (t : Tree B M L) → substitute Var t ≡ t
substitute_var t = substitute_fixes Var t (λ i l. refl)

-- N for the variable 0
abbrev pub one : {B M L : Type 0} → Tree B M L → ℕ → Tree B M L
one n zero = n
one n (suc i) = Var i

-- lifting is a renaming
abbrev pub raise : ℕ → ℕ → ℕ → ℕ
raise from by i = if nat_lt i from then i else i + by

up_raise : (from by : ℕ) → up_ren (raise from by) ≡ raise (suc from) by
up_raise from by = fun_ext (elim [ zero ↦ grind arith | suc n ↦ grind arith ])

pub lift_is : {B M L : Type 0} → (from by : ℕ) (t : Tree B M L) → lift from by t ≡ rename (raise from by) t
lift_is from by (Var i) = refl
lift_is from by (Const k) = refl
lift_is from by Prop = refl
lift_is from by (Univ l) = refl
lift_is from by (Pi x a b) = cc (lift_is from by a, lift_is (suc from) by b, up_raise from by)
lift_is from by (Lam x a m) = cc (lift_is from by a, lift_is (suc from) by m, up_raise from by)
lift_is from by (Sigma x a b) = cc (lift_is from by a, lift_is (suc from) by b, up_raise from by)
lift_is from by (Let x a b) = cc (lift_is from by a, lift_is (suc from) by b, up_raise from by)
lift_is from by (App k m n) = cc (lift_is from by m, lift_is from by n)
lift_is from by (Pair x a b m n) = cc (lift_is from by a, lift_is (suc from) by b, lift_is from by m, lift_is from by n, up_raise from by)
lift_is from by (Fst m) = ap Fst (lift_is from by m)
lift_is from by (Snd m) = ap Snd (lift_is from by m)

-- N, lifted past the binders crossed, for the variable at that depth
abbrev pub one_at : {B M L : Type 0} → ℕ → Tree B M L → ℕ → Tree B M L
one_at zero n = one n
one_at (suc depth) n = up (one_at depth n)

lift_zero : {B M L : Type 0} → (n : Tree B M L) → lift 0 0 n ≡ n
lift_zero n = lift_is 0 0 n ∙ rename_is (raise 0 0) n ∙ substitute_fixes (λ i. Var (raise 0 0 i)) n (λ i l. ap Var (grind arith))

lift_suc : {B M L : Type 0} → (depth : ℕ) (n : Tree B M L) → rename suc (lift 0 depth n) ≡ lift 0 (suc depth) n
lift_suc depth n =
    let e : (λ i. suc (raise 0 depth i)) ≡ raise 0 (suc depth) = fun_ext (λ i. grind arith) in
    ap (rename suc) (lift_is 0 depth n) ∙ rename-rename suc (raise 0 depth) n ∙ ap (λ f. rename f n) e ∙ sym (lift_is 0 (suc depth) n)

put_var-suc : {B M L : Type 0} → (depth i : ℕ) (n : Tree B M L) → put_var (suc depth) n (suc i) ≡ rename suc (put_var depth n i)
put_var-suc depth i n = grind (arith, lift_suc)

one_at_is : {B M L : Type 0} → (depth i : ℕ) (n : Tree B M L) → put_var depth n i ≡ one_at depth n i
one_at_is zero zero n = lift_zero n
one_at_is zero (suc i) n = grind arith
one_at_is (suc depth) zero n = grind arith
one_at_is (suc depth) (suc i) n = put_var-suc depth i n ∙ ap (rename suc) (one_at_is depth i n)

pub put_is : {B M L : Type 0} → (depth : ℕ) (n : Tree B M L) (t : Tree B M L) → put depth n t ≡ substitute (one_at depth n) t
put_is depth n (Var i) = one_at_is depth i n
put_is depth v (Const k) = refl
put_is depth v Prop = refl
put_is depth v (Univ l) = refl
put_is depth v (Pi x a b) = cc (put_is depth v a, put_is (suc depth) v b)
put_is depth v (Lam x a m) = cc (put_is depth v a, put_is (suc depth) v m)
put_is depth v (Sigma x a b) = cc (put_is depth v a, put_is (suc depth) v b)
put_is depth v (Let x a b) = cc (put_is depth v a, put_is (suc depth) v b)
put_is depth v (App k m n) = cc (put_is depth v m, put_is depth v n)
put_is depth v (Pair x a b m n) = cc (put_is depth v a, put_is (suc depth) v b, put_is depth v m, put_is depth v n)
put_is depth v (Fst m) = ap Fst (put_is depth v m)
put_is depth v (Snd m) = ap Snd (put_is depth v m)

pub instantiate_is : {B M L : Type 0} → (m n : Tree B M L) → instantiate m n ≡ substitute (one n) m
unfolding instantiate
instantiate_is m n = put_is 0 n m

one-up : {B M L : Type 0} → (s : ℕ → Tree B M L) (n : Tree B M L) → ◌≡◌ {A = ℕ → Tree B M L} (λ i. substitute (one (substitute s n)) (up s i)) (λ i. substitute s (one n i))
one-up s n = fun_ext (elim [ zero ↦ refl | suc i ↦ substitute-rename (one (substitute s n)) suc (s i) ∙ substitute_var (s i) ])

pub substitute-instantiate : {B M L : Type 0} → (s : ℕ → Tree B M L) (m n : Tree B M L) → substitute s (instantiate m n) ≡ instantiate (substitute (up s) m) (substitute s n)
substitute-instantiate s m n =
    ap (substitute s) (instantiate_is m n) ∙ substitute-substitute s (one n) m
    ∙ ap (λ r. substitute r m) (sym (one-up s n)) ∙ sym (substitute-substitute (one (substitute s n)) (up s) m)
    ∙ sym (instantiate_is (substitute (up s) m) (substitute s n))

-- lifting by one, and by one more
pub lift_one : {B M L : Type 0} → (t : Tree B M L) → lift 0 1 t ≡ rename suc t
lift_one t =
    let e : raise 0 1 ≡ suc = fun_ext (λ i. grind arith) in
    lift_is 0 1 t ∙ ap (λ f. rename f t) e

pub lift_more : {B M L : Type 0} → (i : ℕ) (a : Tree B M L) → lift 0 1 (lift 0 i a) ≡ lift 0 (suc i) a
lift_more i a =
    let e : (λ n. suc (raise 0 i n)) ≡ raise 0 (suc i) = fun_ext (λ n. grind arith) in
    lift_one (lift 0 i a) ∙ ap (rename suc) (lift_is 0 i a) ∙ rename-rename suc (raise 0 i) a ∙ ap (λ f. rename f a) e ∙ sym (lift_is 0 (suc i) a)
