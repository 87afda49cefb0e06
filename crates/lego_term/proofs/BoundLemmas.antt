-- Where no constant of a term is known, nothing is put for one.
use Rattle.std.proofs.Common.{◌≡◌, ℕ, suc, ◌+◌, ◌<◌, ◌≤◌, nat_lt, nat_eq, if◌then◌else◌, ◌||◌, Bool, false, Some, None, List, [], ◌∷◌, ◌++◌, length, get_or, refl, ap, ◌∙◌, arith}
use Rattle.std.specs.Prelude.{unwrap_or, option_map}
use Rattle.std.specs.List.{list_any}
use Rattle.std.proofs.lemmas.List.Folds.{list_any-append}
use Rattle.std.proofs.lemmas.Bool.Decides.{nat_tests}
use Rattle.lego_term.specs.Trees.{Core, Var, Const, Prop, Univ, Pi, Lam, App, Sigma, Pair, Fst, Snd, Let, loose, constants_of, mentions, Bodies, replace_constants, close_over, listed_variable}
use Rattle.lego_term.specs.private.ConstantBound.{constant_bound, NoneBelow}
use Rattle.lego_term.specs.declared.binder.Binder.{Binder}
use Rattle.lego_term.specs.declared.binder.Mark.{Mark}
use Rattle.lego_term.specs.declared.level.Level.{Level}

apart : (k n : ℕ) → suc n ≤ k → nat_eq k n ≡ false
apart k n h = grind (arith, nat_tests)

none_of : (p : ℕ → Bool) (xs ys : List ℕ) → list_any p xs ≡ false → list_any p ys ≡ false → list_any p (xs ++ ys) ≡ false
none_of p xs ys e f = list_any-append p xs ys ∙ (ap (λ b. b || list_any p ys) e ∙ f)

pub mentions-low : (k : ℕ) (t : Core) → constant_bound t ≤ k → mentions k t ≡ false
mentions-low k (Var i) h = refl
mentions-low k (Const n) h = ap (λ b. b || false) (apart k n h)
mentions-low k Prop h = refl
mentions-low k (Univ l) h = refl
mentions-low k (Pi x a b) h = none_of (nat_eq k) (constants_of a) (constants_of b) (mentions-low k a (omega arith)) (mentions-low k b (omega arith))
mentions-low k (Lam x a m) h = none_of (nat_eq k) (constants_of a) (constants_of m) (mentions-low k a (omega arith)) (mentions-low k m (omega arith))
mentions-low k (App x m n) h = none_of (nat_eq k) (constants_of m) (constants_of n) (mentions-low k m (omega arith)) (mentions-low k n (omega arith))
mentions-low k (Sigma x a b) h = none_of (nat_eq k) (constants_of a) (constants_of b) (mentions-low k a (omega arith)) (mentions-low k b (omega arith))
mentions-low k (Pair x a b m n) h = none_of (nat_eq k) (constants_of a ++ constants_of b ++ constants_of m) (constants_of n) (none_of (nat_eq k) (constants_of a ++ constants_of b) (constants_of m) (none_of (nat_eq k) (constants_of a) (constants_of b) (mentions-low k a (omega arith)) (mentions-low k b (omega arith))) (mentions-low k m (omega arith))) (mentions-low k n (omega arith))
mentions-low k (Fst m) h = mentions-low k m h
mentions-low k (Snd m) h = mentions-low k m h
mentions-low k (Let x m n) h = none_of (nat_eq k) (constants_of m) (constants_of n) (mentions-low k m (omega arith)) (mentions-low k n (omega arith))

pub replace-low : (bodies : Bodies Binder Mark Level) (least : ℕ) (t : Core) → constant_bound t ≤ least → NoneBelow least bodies → replace_constants bodies t ≡ t
replace-low bodies least (Var i) h none = refl
replace-low bodies least (Const k) h none = ap (λ o. unwrap_or o (Const k)) (none k h)
replace-low bodies least Prop h none = refl
replace-low bodies least (Univ l) h none = refl
replace-low bodies least (Pi x a b) h none = λ i. Pi x (replace-low bodies least a (omega arith) none i) (replace-low bodies least b (omega arith) none i)
replace-low bodies least (Lam x a m) h none = λ i. Lam x (replace-low bodies least a (omega arith) none i) (replace-low bodies least m (omega arith) none i)
replace-low bodies least (App k m n) h none = λ i. App k (replace-low bodies least m (omega arith) none i) (replace-low bodies least n (omega arith) none i)
replace-low bodies least (Sigma x a b) h none = λ i. Sigma x (replace-low bodies least a (omega arith) none i) (replace-low bodies least b (omega arith) none i)
replace-low bodies least (Pair x a b m n) h none = λ i. Pair x (replace-low bodies least a (omega arith) none i) (replace-low bodies least b (omega arith) none i) (replace-low bodies least m (omega arith) none i) (replace-low bodies least n (omega arith) none i)
replace-low bodies least (Fst m) h none = ap Fst (replace-low bodies least m h none)
replace-low bodies least (Snd m) h none = ap Snd (replace-low bodies least m h none)
replace-low bodies least (Let x m n) h none = λ i. Let x (replace-low bodies least m (omega arith) none i) (replace-low bodies least n (omega arith) none i)

var_stays : (under by n : ℕ) → suc n ≤ under → (if nat_lt n under then n else n + by) ≡ n
var_stays under by n h = grind (arith, nat_tests)

pub close-low : (ns : List ℕ) (least under : ℕ) (t : Core) → loose t ≤ under → constant_bound t ≤ least → NoneBelow least (listed_variable ns) → close_over ns under t ≡ t
close-low ns least under (Var n) l h none = ap Var (var_stays under (length ns) n l)
close-low ns least under (Const k) l h none = ap (λ o. unwrap_or (option_map (λ i. Var (i + under)) o) (Const k)) (none k h)
close-low ns least under Prop l h none = refl
close-low ns least under (Univ u) l h none = refl
close-low ns least under (Pi x a b) l h none = λ i. Pi x (close-low ns least under a (omega arith) (omega arith) none i) (close-low ns least (suc under) b (omega arith) (omega arith) none i)
close-low ns least under (Lam x a m) l h none = λ i. Lam x (close-low ns least under a (omega arith) (omega arith) none i) (close-low ns least (suc under) m (omega arith) (omega arith) none i)
close-low ns least under (App k m n) l h none = λ i. App k (close-low ns least under m (omega arith) (omega arith) none i) (close-low ns least under n (omega arith) (omega arith) none i)
close-low ns least under (Sigma x a b) l h none = λ i. Sigma x (close-low ns least under a (omega arith) (omega arith) none i) (close-low ns least (suc under) b (omega arith) (omega arith) none i)
close-low ns least under (Pair x a b m n) l h none = λ i. Pair x (close-low ns least under a (omega arith) (omega arith) none i) (close-low ns least (suc under) b (omega arith) (omega arith) none i) (close-low ns least under m (omega arith) (omega arith) none i) (close-low ns least under n (omega arith) (omega arith) none i)
close-low ns least under (Fst m) l h none = ap Fst (close-low ns least under m l h none)
close-low ns least under (Snd m) l h none = ap Snd (close-low ns least under m l h none)
close-low ns least under (Let x m n) l h none = λ i. Let x (close-low ns least under m (omega arith) (omega arith) none i) (close-low ns least (suc under) n (omega arith) (omega arith) none i)

later : (n k : ℕ) → suc k ≤ n → nat_eq n k ≡ false
later n k h = grind (arith, nat_tests)

pub none_listed : (ns : List ℕ) (least : ℕ) → ((j : ℕ) → j < length ns → least ≤ get_or ns j 0) → NoneBelow least (listed_variable ns)
none_listed [] least h k lt = refl
none_listed (n ∷ ns) least h k lt =
    let first : least ≤ n = h 0 (omega arith) in
    let rest : listed_variable ns k ≡ None = none_listed ns least (λ j below. h (suc j) (omega arith)) k lt in
    ap (λ b. if b then Some (length ns) else listed_variable ns k) (later n k (omega arith)) ∙ rest
