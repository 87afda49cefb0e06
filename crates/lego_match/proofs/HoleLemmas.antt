-- The map of the free holes, and terms that are a free hole applied to just its own hypotheses.
use Rattle.std.proofs.Common.{◌≡◌, ℕ, suc, ◌+◌, ◌-◌, ◌<◌, ◌≤◌, cond, if◌then◌else◌, nat_eq, true, false, Option, Some, None, option_and_then, List, [], ◌∷◌, length, get_or, drop, refl, ap, sym, subst, ◌∙◌, arith}
use Rattle.std.specs.Option.{is_some}
use Rattle.std.specs.Map.{lookup}
use Rattle.std.specs.Ordering.{nat_cmp, is_eq}
use Rattle.std.specs.BTreeMap.{BTreeMap, get, is_at}
use Rattle.std.proofs.lemmas.List.{drop_more, drop_all}
use Rattle.std.proofs.lemmas.Bool.Decides.{nat_tests}
use Rattle.lego_term.specs.Trees.{Core, Var, Const, App}
use Rattle.lego_term.specs.Parts.{head_constant, own_arguments}
use Rattle.lego_match.specs.Agreement.{Agree}
use Rattle.lego_match.specs.Holes.{FreeHoles, listed, has_free_head, IsApplied}

-- the map has the holes of the list
abbrev pub HasHoles : List (ℕ × ℕ) → BTreeMap ℕ ℕ → Type 0
HasHoles holes m = (k : ℕ) → get nat_cmp m k ≡ listed holes k

is_eq-nat_cmp : (n k : ℕ) → is_eq (nat_cmp n k) ≡ nat_eq k n
is_eq-nat_cmp n k = grind (arith, nat_tests)

pub no_holes : (free : List (ℕ × ℕ)) (m : BTreeMap ℕ ℕ) → m.entries ≡ [] → HasHoles (drop (length free - 0) free) m
no_holes free m e k =
    let none : drop (length free - 0) free ≡ [] = drop_all (length free - 0) free (omega arith) in
    ap (lookup (is_at (nat_cmp k))) e ∙ ap (λ l. listed l k) (sym none)

pub all_holes : (free : List (ℕ × ℕ)) (i : ℕ) (m : BTreeMap ℕ ℕ) → length free ≤ i → HasHoles (drop (length free - i) free) m → HasHoles free m
all_holes free i m le h =
    let none : length free - i ≡ 0 = omega arith in
    subst (λ a. HasHoles (drop a free) m) none h

pub more_holes : (free : List (ℕ × ℕ)) (i : ℕ) (d : ℕ × ℕ) (m n : BTreeMap ℕ ℕ) → i < length free → HasHoles (drop (length free - i) free) m
    → ((q : ℕ) → get nat_cmp n q ≡ cond (is_at (nat_cmp (get_or free (length free - 1 - i) d).0) q) (Some (get_or free (length free - 1 - i) d).1) (get nat_cmp m q))
    → HasHoles (drop (length free - (i + 1)) free) n
more_holes free i d m n lt has h q =
    let j : ℕ = length free - 1 - i in
    let before : length free - (i + 1) ≡ j = omega arith in
    let behind : length free - i ≡ j + 1 = omega arith in
    let front : drop j free ≡ get_or free j d ∷ drop (j + 1) free = drop_more free j d (omega arith) in
    let old : get nat_cmp m q ≡ listed (drop (j + 1) free) q = subst (λ a. get nat_cmp m q ≡ listed (drop a free) q) behind (has q) in
    h q ∙ (ap (λ b. cond b (Some (get_or free j d).1) (get nat_cmp m q)) (is_eq-nat_cmp (get_or free j d).0 q)
    ∙ (ap (cond (nat_eq q (get_or free j d).0) (Some (get_or free j d).1)) old
    ∙ (ap (λ l. listed l q) (sym front)
    ∙ ap (λ a. listed (drop a free) q) (sym before))))

-- the same head, the same answer
pub same_free_head : (free : FreeHoles) (t u : Core) → head_constant t ≡ head_constant u → has_free_head free t ≡ has_free_head free u
same_free_head free t u e = ap (λ o. is_some (option_and_then free o)) e

-- a hole applied to just its own hypotheses is one term, marks aside
record OneMore (locals n : ℕ) (m : Core) (i : ℕ) : Type 0 where
  before : ℕ
  count : own_arguments locals m ≡ Some before
  is : n ≡ suc before
  place : suc (i + before) ≡ locals

one_more : (locals n : ℕ) (m : Core) (i : ℕ) (o : Option ℕ) → own_arguments locals m ≡ o → option_and_then (λ k. if nat_eq (suc (i + k)) locals then Some (suc k) else None) o ≡ Some n → OneMore locals n m i
one_more locals n m i None c e = cc
one_more locals n m i (Some k) c e =
    elim (nat_eq (suc (i + k)) locals) as (λ z. nat_eq (suc (i + k)) locals ≡ z → (if z then Some (suc k) else None) ≡ Some n → OneMore locals n m i) [
      | true ↦ λ t h. record { before = k; count = c; is = number h; place = same (suc (i + k)) locals t }
      | false ↦ λ t h. cc
    ] refl e
  where
    number : {x y : ℕ} → Some x ≡ Some y → y ≡ x
    number h = cc

    same : (x y : ℕ) → nat_eq x y ≡ true → x ≡ y
    same x y h = grind (arith, nat_tests)

unsome : {x y : ℕ} → Some x ≡ Some y → x ≡ y
unsome e = cc

same_some : {x y z : ℕ} → Some x ≡ Some z → Some y ≡ Some z → x ≡ y
same_some e f = cc

one_term : (locals n k : ℕ) (p q : Core) → head_constant p ≡ Some k → head_constant q ≡ Some k → own_arguments locals p ≡ Some n → own_arguments locals q ≡ Some n → Agree p q
one_term locals n k (Const i) (Const j) h h' e e' = ap Const (same_some h h')
one_term locals n k (Const i) (App a m (Var j)) h h' e e' =
    let x = one_more locals n m j (own_arguments locals m) refl e' in
    let y = x.is in
    let z : 0 ≡ n = cc in
    absurd (omega arith)
one_term locals n k (App a m (Var i)) (Const j) h h' e e' =
    let x = one_more locals n m i (own_arguments locals m) refl e in
    let y = x.is in
    let z : 0 ≡ n = cc in
    absurd (omega arith)
one_term locals n k (App a m (Var i)) (App c m' (Var j)) h h' e e' =
    let x = one_more locals n m i (own_arguments locals m) refl e in
    let y = one_more locals n m' j (own_arguments locals m') refl e' in
    let xi = x.is in
    let yi = y.is in
    let xp = x.place in
    let yp = y.place in
    let same : y.before ≡ x.before = omega arith in
    let index : i ≡ j = omega arith in
    let inner = one_term locals x.before k m m' h h' x.count (subst (λ z. own_arguments locals m' ≡ Some z) same y.count) in
    λ s. App tt (inner s) (Var (index s))
one_term locals n k _ _ h h' e e' = cc

pub one_applied : (free : FreeHoles) (locals : ℕ) (p q : Core) (k m n : ℕ) → IsApplied free locals p k m → IsApplied free locals q k n → Agree p q
one_applied free locals p q k m n x y =
    let same : n ≡ m = unsome (sym y.is_free ∙ x.is_free) in
    one_term locals m k p q x.head y.head x.arguments (subst (λ z. own_arguments locals q ≡ Some z) same y.arguments)

-- the hole of a term and its hypotheses are one
pub applied_hole_is : (free : FreeHoles) (locals : ℕ) (p : Core) (k m n : ℕ) (h : ℕ) → IsApplied free locals p k m → IsApplied free locals p n h → n ≡ k
applied_hole_is free locals p k m n h x y = unsome (sym y.head ∙ x.head)
