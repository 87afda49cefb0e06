-- Counting a term's height and weight, where the variables in scope are counted.
use Rattle.std.proofs.Common.{◌≡◌, ℕ, zero, suc, max, ◌+◌, ◌-◌, ◌≤◌, ◌<◌, ◌⊎◌, inl, inr, nat_lt, nat_eq, if◌then◌else◌, true, false, List, [], ◌∷◌, ◌++◌, length, get_or, refl, ap, sym, subst, ◌∙◌, arith, Result, Ok, Err}
use Rattle.std.specs.List.{AllByRecursion}
use Rattle.std.proofs.lemmas.Bool.{false≢true}
use Rattle.std.proofs.lemmas.Bool.Decides.{nat_tests}
use Rattle.lego_term.specs.Trees.{Core, Var, Const, Prop, Univ, Pi, Lam, App, Sigma, Pair, Fst, Snd, Let}
use Rattle.lego_term.specs.Weight.{bound, count, heights, weights, height, weight, IsMeasured}
use Rattle.lego_term.specs.private.Counted.{scope_of, height_in, weight_in, IsWithin, excess, IsCounted}
use Rattle.lego_term.specs.declared.binder.Binder.{Binder}
use Rattle.lego_term.specs.declared.binder.Mark.{Mark}
use Rattle.lego_term.specs.declared.level.Level.{Level}
use Rattle.lego_term.specs.declared.weight.Extent.{Extent}
use Rattle.lego_term.specs.declared.fault.TermFault.{TermFault}
use Rattle.lego_term.specs.declared.fault.TermFault.TheVariants.{TooLarge, Memory}

nat_itself : (n : ℕ) → nat_eq n n ≡ true
nat_itself n = grind (arith, nat_tests)

later : (i n : ℕ) → suc n ≤ i → nat_eq i n ≡ false
later i n h = grind (arith, nat_tests)

below_other : (i n : ℕ) → i < suc n → (i ≡ n → ⊥) → i < n
below_other i n h apart = grind (arith, nat_tests)

zero_apart : (n : ℕ) → nat_eq 0 (suc n) ≡ false
zero_apart n = grind (arith, nat_tests)

suc_apart : (i n : ℕ) → nat_eq (suc i) (suc n) ≡ nat_eq i n
suc_apart i n = grind (arith, nat_tests)

longer : (xs : List Extent) (x : Extent) → length (xs ++ x ∷ []) ≡ suc (length xs)
longer [] x = refl
longer (y ∷ xs) x = ap suc (longer xs x)

-- one variable more in scope
scope_more : (f : Extent → ℕ) (xs : List Extent) (x : Extent) (i : ℕ) → scope_of f (xs ++ x ∷ []) i ≡ bound (f x) (scope_of f xs) i
scope_more f [] x zero = refl
scope_more f [] x (suc i) = ap (λ b. if b then f x else 1) (later (suc i) 0 (omega arith))
scope_more f (y ∷ xs) x zero =
    ap (λ n. if nat_eq 0 n then f y else scope_of f (xs ++ x ∷ []) 0) (longer xs x)
    ∙ (ap (λ b. if b then f y else scope_of f (xs ++ x ∷ []) 0) (zero_apart (length xs)) ∙ scope_more f xs x 0)
scope_more f (y ∷ xs) x (suc i) =
    ap (λ n. if nat_eq (suc i) n then f y else scope_of f (xs ++ x ∷ []) (suc i)) (longer xs x)
    ∙ (ap (λ b. if b then f y else scope_of f (xs ++ x ∷ []) (suc i)) (suc_apart i (length xs))
    ∙ ap (λ r. if nat_eq i (length xs) then f y else r) (scope_more f xs x (suc i)))

pub height_under : (xs : List Extent) (x : Extent) (t : Core) → height_in (xs ++ x ∷ []) t ≡ count heights (bound x.height (scope_of (λ y. y.height) xs)) t
unfolding height_in
height_under xs x t = ap (λ s. count heights s t) (λ j i. scope_more (λ y. y.height) xs x i j)

pub weight_under : (xs : List Extent) (x : Extent) (t : Core) → weight_in (xs ++ x ∷ []) t ≡ count weights (bound x.weight (scope_of (λ y. y.weight) xs)) t
unfolding weight_in
weight_under xs x t = ap (λ s. count weights s t) (λ j i. scope_more (λ y. y.weight) xs x i j)

-- a part that passes a limit, counted in an equal scope, makes the whole pass it
pub part_over : (ys zs xs : List Extent) (p u t : Core) (e : TermFault) → ys ≡ zs → u ≡ t → height_in zs p ≤ height_in xs u → weight_in zs p ≤ weight_in xs u
    → IsCounted (height_in ys p) (weight_in ys p) (Err e) → IsCounted (height_in xs t) (weight_in xs t) (Err e)
part_over ys zs xs p u t (TooLarge size depth) same root h w c =
    let hs : height_in ys p ≡ height_in zs p = ap (λ l. height_in l p) same in
    let ws : weight_in ys p ≡ weight_in zs p = ap (λ l. weight_in l p) same in
    let hu : height_in xs u ≡ height_in xs t = ap (height_in xs) root in
    let wu : weight_in xs u ≡ weight_in xs t = ap (weight_in xs) root in
    (c.0, c.1, omega (arith, c.2))
part_over ys zs xs p u t Memory same root h w c = tt

pub counted_as : (h w h' w' : ℕ) (r : Result Extent TermFault) → h ≡ h' → w ≡ w' → IsCounted h w r → IsCounted h' w' r
counted_as h w h' w' r e f c = subst (λ n. IsCounted n w' r) e (subst (λ n. IsCounted h n r) f c)

-- what each form counts, by its parts
pub var_counts : (xs : List Extent) (i : ℕ) → (height_in xs (Var i) ≡ scope_of (λ x. x.height) xs i) × (weight_in xs (Var i) ≡ scope_of (λ x. x.weight) xs i)
unfolding height_in weight_in
var_counts xs i = (refl, refl)

pub leaf_counts : (xs : List Extent) → (height_in xs Prop ≡ 1) × (weight_in xs Prop ≡ 1)
unfolding height_in weight_in
leaf_counts xs = (refl, refl)

pub const_counts : (xs : List Extent) (k : ℕ) → (height_in xs (Const k) ≡ 1) × (weight_in xs (Const k) ≡ 1)
unfolding height_in weight_in
const_counts xs k = (refl, refl)

pub univ_counts : (xs : List Extent) (l : Level) → (height_in xs (Univ l) ≡ 1) × (weight_in xs (Univ l) ≡ 1)
unfolding height_in weight_in
univ_counts xs l = (refl, refl)

pub app_counts : (xs : List Extent) (k : Mark) (m n : Core)
    → (height_in xs (App k m n) ≡ 1 + max (height_in xs m) (height_in xs n)) × (weight_in xs (App k m n) ≡ 1 + (weight_in xs m + weight_in xs n))
unfolding height_in weight_in
app_counts xs k m n = (refl, refl)

pub fst_counts : (xs : List Extent) (m : Core) → (height_in xs (Fst m) ≡ 1 + height_in xs m) × (weight_in xs (Fst m) ≡ 1 + weight_in xs m)
unfolding height_in weight_in
fst_counts xs m = (refl, refl)

pub snd_counts : (xs : List Extent) (m : Core) → (height_in xs (Snd m) ≡ 1 + height_in xs m) × (weight_in xs (Snd m) ≡ 1 + weight_in xs m)
unfolding height_in weight_in
snd_counts xs m = (refl, refl)

abbrev pub leaf_extent : Extent
leaf_extent = record { height = 1; weight = 1 }

under_leaf : (xs : List Extent) (b : Core)
    → (height_in (xs ++ leaf_extent ∷ []) b ≡ count heights (bound 1 (scope_of (λ y. y.height) xs)) b)
    × (weight_in (xs ++ leaf_extent ∷ []) b ≡ count weights (bound 1 (scope_of (λ y. y.weight) xs)) b)
under_leaf xs b = (height_under xs leaf_extent b, weight_under xs leaf_extent b)

-- what a form that binds a variable as a leaf counts
abbrev pub CountsBound : List Extent → Core → Core → Core → Type 0
CountsBound xs a b u =
    (height_in xs u ≡ 1 + max (height_in xs a) (height_in (xs ++ leaf_extent ∷ []) b))
    × (weight_in xs u ≡ 1 + (weight_in xs a + weight_in (xs ++ leaf_extent ∷ []) b))

pub pi_counts : (xs : List Extent) (x : Binder) (a b : Core) → CountsBound xs a b (Pi x a b)
unfolding height_in weight_in
pi_counts xs x a b =
    (ap (λ r. 1 + max (height_in xs a) r) (sym (under_leaf xs b).0), ap (λ r. 1 + (weight_in xs a + r)) (sym (under_leaf xs b).1))

pub lam_counts : (xs : List Extent) (x : Binder) (a b : Core) → CountsBound xs a b (Lam x a b)
unfolding height_in weight_in
lam_counts xs x a b =
    (ap (λ r. 1 + max (height_in xs a) r) (sym (under_leaf xs b).0), ap (λ r. 1 + (weight_in xs a + r)) (sym (under_leaf xs b).1))

pub sigma_counts : (xs : List Extent) (x : Binder) (a b : Core) → CountsBound xs a b (Sigma x a b)
unfolding height_in weight_in
sigma_counts xs x a b =
    (ap (λ r. 1 + max (height_in xs a) r) (sym (under_leaf xs b).0), ap (λ r. 1 + (weight_in xs a + r)) (sym (under_leaf xs b).1))

pub pair_counts : (xs : List Extent) (x : Binder) (a b m n : Core)
    → (height_in xs (Pair x a b m n) ≡ 1 + max (max (height_in xs a) (height_in (xs ++ leaf_extent ∷ []) b)) (max (height_in xs m) (height_in xs n)))
    × (weight_in xs (Pair x a b m n) ≡ 1 + ((weight_in xs a + weight_in (xs ++ leaf_extent ∷ []) b) + (weight_in xs m + weight_in xs n)))
unfolding height_in weight_in
pair_counts xs x a b m n = (
  ap (λ r. 1 + max (max (height_in xs a) r) (max (height_in xs m) (height_in xs n))) (sym (under_leaf xs b).0),
  ap (λ r. 1 + ((weight_in xs a + r) + (weight_in xs m + weight_in xs n))) (sym (under_leaf xs b).1),
)

pub let_counts : (xs : List Extent) (x : Binder) (v : Extent) (m n : Core) → v.height ≡ height_in xs m → v.weight ≡ weight_in xs m
    → (height_in xs (Let x m n) ≡ 1 + max (height_in xs m) (height_in (xs ++ v ∷ []) n))
    × (weight_in xs (Let x m n) ≡ 1 + (weight_in xs m + weight_in (xs ++ v ∷ []) n))
unfolding height_in weight_in
let_counts xs x v m n e f = (
  ap (λ k. 1 + max (height_in xs m) (count heights (bound k (scope_of (λ y. y.height) xs)) n)) (sym e)
      ∙ ap (λ r. 1 + max (height_in xs m) r) (sym (height_under xs v n)),
  ap (λ k. 1 + (weight_in xs m + count weights (bound k (scope_of (λ y. y.weight) xs)) n)) (sym f)
      ∙ ap (λ r. 1 + (weight_in xs m + r)) (sym (weight_under xs v n)),
)

pub value_counts : (xs : List Extent) (x : Binder) (m n : Core) → (height_in xs m ≤ height_in xs (Let x m n)) × (weight_in xs m ≤ weight_in xs (Let x m n))
unfolding height_in weight_in
value_counts xs x m n = (omega arith, omega arith)

over_one : (h w : ℕ) → 0 < excess h w → (2000 < h) ⊎ (1048576 < w)
over_one h w p =
    elim (nat_lt 2000 h) as (λ b. nat_lt 2000 h ≡ b → (2000 < h) ⊎ (1048576 < w)) [
      | true ↦ λ e. inl (grind (arith, nat_tests))
      | false ↦ λ e. (let low : h ≤ 2000 = grind (arith, nat_tests) in inr (omega arith))
    ] refl

closed_measured : (t : Core) (r : Result Extent TermFault) → IsCounted (height_in [] t) (weight_in [] t) r → IsMeasured t r
unfolding height_in weight_in
closed_measured t (Ok x) c = c
closed_measured t (Err (TooLarge size depth)) c = (c.0, c.1, over_one _ _ c.2)
closed_measured t (Err Memory) c = tt

-- the whole, where no variable is in scope
pub measured : (t : Core) (xs : List Extent) (r : Result Extent TermFault) → xs ≡ [] → IsCounted (height_in xs t) (weight_in xs t) r → IsMeasured t r
measured t xs r none c = closed_measured t r (subst (λ l. IsCounted (height_in l t) (weight_in l t) r) none c)

-- the variable of an index stands so far from the end
pub in_scope : (f : Extent → ℕ) (xs : List Extent) (i : ℕ) (d : Extent) → i < length xs → f (get_or xs (length xs - 1 - i) d) ≡ scope_of f xs i
in_scope f [] i d h = absurd (omega arith)
in_scope f (x ∷ xs) i d h =
    elim (nat_eq i (length xs)) as (λ b. nat_eq i (length xs) ≡ b → f (get_or (x ∷ xs) (suc (length xs) - 1 - i) d) ≡ (if b then f x else scope_of f xs i)) [
      | true ↦ λ e.
          (let here : i ≡ length xs = grind (arith, nat_tests) in
          let front : suc (length xs) - 1 - i ≡ 0 = omega arith in
          ap (λ n. f (get_or (x ∷ xs) n d)) front)
      | false ↦ λ e.
          (let apart : (i ≡ length xs) → ⊥ = λ q. absurd (false≢true (sym e ∙ (ap (λ n. nat_eq n (length xs)) q ∙ nat_itself (length xs)))) in
          let below : i < length xs = below_other i (length xs) h apart in
          let next : suc (length xs) - 1 - i ≡ suc (length xs - 1 - i) = omega arith in
          ap (λ n. f (get_or (x ∷ xs) n d)) next ∙ in_scope f xs i d below)
    ] refl

pub out_of_scope : (f : Extent → ℕ) (xs : List Extent) (i : ℕ) → length xs ≤ i → scope_of f xs i ≡ 1
out_of_scope f [] i h = refl
out_of_scope f (x ∷ xs) i h =
    ap (λ b. if b then f x else scope_of f xs i) (later i (length xs) h) ∙ out_of_scope f xs i (omega arith)
