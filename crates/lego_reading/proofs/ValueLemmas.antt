-- Values put for the variables of local definitions.
use Rattle.std.proofs.Common.{◌≡◌, ℕ, zero, suc, max, ◌+◌, ◌-◌, ◌≤◌, ◌<◌, nat_lt, nat_eq, true, false, if◌then◌else◌, [], ◌∷◌, length, take, slice_get, Option, Some, None, Result, Ok, Err, IfOk, IfErr, refl, sym, ap, ◌∙◌, subst, arith}
use Rattle.std.proofs.lemmas.Bool.Decides.{nat_tests}
use Rattle.std.proofs.lemmas.List.{take_all}
use Rattle.lego_term.specs.Trees.{Core, Var, Const, Prop, Univ, Pi, Lam, App, Sigma, Pair, Fst, Snd, Let, size, depth, loose, lift, put, put_var}
use Rattle.lego_term.specs.Made.{Fits, first_over, Rebuilds}
use Rattle.lego_term.specs.Parts.{IsTooLarge}
use Rattle.lego_term.specs.declared.fault.TermFault.{TermFault}
use Rattle.lego_term.specs.declared.fault.TermFault.TheVariants.{TooLarge, Memory}
use Rattle.lego_term.proofs.LiftLemmas.{size-lift, depth-lift}
use Rattle.lego_term.proofs.LooseLemmas.{loose-lift}
use Rattle.lego_term.proofs.OverLemmas.{first_over-fits}
use Rattle.lego_reduce.proofs.LargeLemmas.{first_over-large}
use Rattle.lego_grammar.specs.Scopes.{LocalVariable, Scope, put_values}
use Rattle.lego_reading.specs.private.Variables.{value_of, AreOver}
use Rattle.lego_reading.specs.private.Values.{value_or_var, put_kept, PutsValues}

lt_true : (a b : ℕ) → a < b → nat_lt a b ≡ true
lt_true a b h = grind (arith, nat_tests)

lt_false : (a b : ℕ) → b ≤ a → nat_lt a b ≡ false
lt_false a b h = grind (arith, nat_tests)

eq_true : (a b : ℕ) → a ≡ b → nat_eq a b ≡ true
eq_true a b e = grind (arith, nat_tests)

eq_false : (a b : ℕ) → (a ≡ b → ⊥) → nat_eq a b ≡ false
eq_false a b h = grind (arith, nat_tests)

-- two liftings are one
lift_var : (k n m i : ℕ) → m ≡ k + n → ◌≡◌ {A = Core} (lift m 1 (lift k n (Var i))) (lift k (suc n) (Var i))
lift_var k n m i is =
    elim (nat_lt i k) as (λ b. nat_lt i k ≡ b → ◌≡◌ {A = Core} (lift m 1 (Var (if b then i else i + n))) (Var (if b then i else i + suc n))) [
      | true ↦ λ e. (let below : i < k = grind (arith, nat_tests) in rw (lt_true i m (omega arith)) refl)
      | false ↦ λ e. (let above : k ≤ i = grind (arith, nat_tests) in rw (lt_false (i + n) m (omega arith)) (ap Var (omega arith)))
    ] refl

lift_twice : (k n m : ℕ) (t : Core) → m ≡ k + n → lift m 1 (lift k n t) ≡ lift k (suc n) t
lift_twice k n m (Var i) is = lift_var k n m i is
lift_twice k n m (Const c) is = refl
lift_twice k n m Prop is = refl
lift_twice k n m (Univ l) is = refl
lift_twice k n m (Pi x a b) is = let p = lift_twice k n m a is in let q = lift_twice (suc k) n (suc m) b (omega arith) in λ z. Pi x (p z) (q z)
lift_twice k n m (Lam x a b) is = let p = lift_twice k n m a is in let q = lift_twice (suc k) n (suc m) b (omega arith) in λ z. Lam x (p z) (q z)
lift_twice k n m (App l a b) is = let p = lift_twice k n m a is in let q = lift_twice k n m b is in λ z. App l (p z) (q z)
lift_twice k n m (Sigma x a b) is = let p = lift_twice k n m a is in let q = lift_twice (suc k) n (suc m) b (omega arith) in λ z. Sigma x (p z) (q z)
lift_twice k n m (Pair x a b c d) is =
    let p = lift_twice k n m a is in let q = lift_twice (suc k) n (suc m) b (omega arith) in
    let r = lift_twice k n m c is in let s = lift_twice k n m d is in λ z. Pair x (p z) (q z) (r z) (s z)
lift_twice k n m (Fst a) is = ap Fst (lift_twice k n m a is)
lift_twice k n m (Snd a) is = ap Snd (lift_twice k n m a is)
lift_twice k n m (Let x a b) is = let p = lift_twice k n m a is in let q = lift_twice (suc k) n (suc m) b (omega arith) in λ z. Let x (p z) (q z)

-- the value put for a variable, and the place of the variable made again
kept_var : (at : ℕ) (v : Core) (i : ℕ) → lift at 1 (put_var at v i) ≡ value_or_var v at i
kept_var at v i =
    elim (nat_lt i at) as (λ b. nat_lt i at ≡ b
    → ◌≡◌ {A = Core} (lift at 1 (if b then Var i else if nat_eq i at then lift 0 at v else Var (i - 1))) (if nat_eq i at then lift 0 (suc at) v else Var i)) [
      | true ↦ λ e. (
          let below : i < at = grind (arith, nat_tests) in rw (eq_false i at (λ same. omega arith), lt_true i at below) refl)
      | false ↦ λ e. (
          let above : at ≤ i = grind (arith, nat_tests) in
          elim (nat_eq i at) as (λ b. nat_eq i at ≡ b → ◌≡◌ {A = Core} (lift at 1 (if b then lift 0 at v else Var (i - 1))) (if b then lift 0 (suc at) v else Var i)) [
            | true ↦ λ f. lift_twice 0 at at v (omega arith)
            | false ↦ λ f. (
                let other : at < i = grind (arith, nat_tests) in rw (lt_false (i - 1) at (omega arith)) (ap Var (omega arith)))
          ] refl)
    ] refl

pub kept : (at : ℕ) (v t : Core) → lift at 1 (put at v t) ≡ put_kept at v t
kept at v (Var i) = kept_var at v i
kept at v (Const c) = refl
kept at v Prop = refl
kept at v (Univ l) = refl
kept at v (Pi x a b) = let p = kept at v a in let q = kept (suc at) v b in λ z. Pi x (p z) (q z)
kept at v (Lam x a b) = let p = kept at v a in let q = kept (suc at) v b in λ z. Lam x (p z) (q z)
kept at v (App m a b) = let p = kept at v a in let q = kept at v b in λ z. App m (p z) (q z)
kept at v (Sigma x a b) = let p = kept at v a in let q = kept (suc at) v b in λ z. Sigma x (p z) (q z)
kept at v (Pair x a b c d) = let p = kept at v a in let q = kept (suc at) v b in let r = kept at v c in let s = kept at v d in λ z. Pair x (p z) (q z) (r z) (s z)
kept at v (Fst a) = ap Fst (kept at v a)
kept at v (Snd a) = ap Snd (kept at v a)
kept at v (Let x a b) = let p = kept at v a in let q = kept (suc at) v b in λ z. Let x (p z) (q z)

-- below its loose variables a term stays as it is
var_stays : (at i : ℕ) (v : Core) → (i ≡ at → ⊥) → value_or_var v at i ≡ Var i
var_stays at i v h = rw (eq_false i at h) refl

pub put-low : (at : ℕ) (v t : Core) → loose t ≤ at → put_kept at v t ≡ t
put-low at v (Var i) h = var_stays at i v (λ same. omega arith)
put-low at v (Const c) h = refl
put-low at v Prop h = refl
put-low at v (Univ l) h = refl
put-low at v (Pi x a b) h = let p = put-low at v a (omega arith) in let q = put-low (suc at) v b (omega arith) in λ z. Pi x (p z) (q z)
put-low at v (Lam x a b) h = let p = put-low at v a (omega arith) in let q = put-low (suc at) v b (omega arith) in λ z. Lam x (p z) (q z)
put-low at v (App m a b) h = let p = put-low at v a (omega arith) in let q = put-low at v b (omega arith) in λ z. App m (p z) (q z)
put-low at v (Sigma x a b) h = let p = put-low at v a (omega arith) in let q = put-low (suc at) v b (omega arith) in λ z. Sigma x (p z) (q z)
put-low at v (Pair x a b c d) h =
    let p = put-low at v a (omega arith) in let q = put-low (suc at) v b (omega arith) in let r = put-low at v c (omega arith) in let s = put-low at v d (omega arith) in
    λ z. Pair x (p z) (q z) (r z) (s z)
put-low at v (Fst a) h = ap Fst (put-low at v a (omega arith))
put-low at v (Snd a) h = ap Snd (put-low at v a (omega arith))
put-low at v (Let x a b) h = let p = put-low at v a (omega arith) in let q = put-low (suc at) v b (omega arith) in λ z. Let x (p z) (q z)

pub stays : (at i : ℕ) (v t : Core) (r : Core) → Var i ≡ t → (i ≡ at → ⊥) → r ≡ t → (r ≡ put_kept at v t) × (first_over (put_kept at v t) ≡ None)
stays at i v t r e h s =
    let same : put_kept at v t ≡ Var i = ap (put_kept at v) (sym e) ∙ var_stays at i v h in
    (s ∙ sym e ∙ sym same, ap first_over same)

pub put-here : (at i : ℕ) (v : Core) → i ≡ at → put_kept at v (Var i) ≡ lift 0 (suc at) v
put-here at i v e = rw (eq_true i at e) refl

-- where the value stands lifted, lifting it answers for the whole
pub lift_rebuilds : (at : ℕ) (v t : Core) (r : Result Core TermFault) → put_kept at v t ≡ lift 0 (suc at) v → Fits v
    → IfOk r (λ u. u ≡ lift 0 (suc at) v) → IfErr r (λ fault. fault ≡ Memory) → Rebuilds (put_kept at v t) r
lift_rebuilds at v t (Ok u) e f h n =
    let s : size (lift 0 (suc at) v) ≤ 1048576 = omega (arith, f.0, size-lift 0 (suc at) v) in
    let d : depth (lift 0 (suc at) v) ≤ 2000 = omega (arith, f.1, depth-lift 0 (suc at) v) in
    (h ∙ sym e, ap first_over e ∙ first_over-fits (lift 0 (suc at) v) s d)
lift_rebuilds at v t (Err Memory) e f h n = tt
lift_rebuilds at v t (Err (TooLarge nodes levels)) e f h n = cc

-- loose variables
loose_var : (at : ℕ) (v : Core) (i : ℕ) → loose (value_or_var v at i) ≤ max (suc at + loose v) (suc i)
loose_var at v i =
    elim (nat_eq i at) as (λ b. loose (if b then lift 0 (suc at) v else Var i) ≤ max (suc at + loose v) (suc i)) [
      | true ↦ omega (arith, loose-lift 0 (suc at) v)
      | false ↦ omega arith
    ]

pub loose-kept : (at : ℕ) (v t : Core) → loose (put_kept at v t) ≤ max (suc at + loose v) (loose t)
loose-kept at v (Var i) = loose_var at v i
loose-kept at v (Const c) = omega arith
loose-kept at v Prop = omega arith
loose-kept at v (Univ l) = omega arith
loose-kept at v (Pi x a b) = omega (arith, loose-kept at v a, loose-kept (suc at) v b)
loose-kept at v (Lam x a b) = omega (arith, loose-kept at v a, loose-kept (suc at) v b)
loose-kept at v (App m a b) = omega (arith, loose-kept at v a, loose-kept at v b)
loose-kept at v (Sigma x a b) = omega (arith, loose-kept at v a, loose-kept (suc at) v b)
loose-kept at v (Pair x a b c d) = omega (arith, loose-kept at v a, loose-kept (suc at) v b, loose-kept at v c, loose-kept at v d)
loose-kept at v (Fst a) = omega (arith, loose-kept at v a)
loose-kept at v (Snd a) = omega (arith, loose-kept at v a)
loose-kept at v (Let x a b) = omega (arith, loose-kept at v a, loose-kept (suc at) v b)

-- a value has room behind its own variable
pub value_over : (scope : Scope) (i : ℕ) (x : LocalVariable) (v : Core) → AreOver scope → slice_get scope i ≡ Some x → value_of x ≡ Some v
    → suc i + loose v ≤ length scope
value_over [] i x v h at e = cc
value_over (LocalVariable.Bound name ∷ scope) zero x v h at e =
    let is : LocalVariable.Bound name ≡ x = cc in let none : value_of x ≡ None = ap value_of (sym is) in cc
value_over (LocalVariable.Defined name value ∷ scope) zero x v h at e =
    let is : LocalVariable.Defined name value ≡ x = cc in
    let some : ◌≡◌ {A = Option Core} (Some value) (Some v) = ap value_of is ∙ e in
    let same : value ≡ v = cc in let l = ap (λ (t : Core). loose t) same in let le = h.0 in omega arith
value_over (LocalVariable.Bound name ∷ scope) (suc i) x v h at e = let le = value_over scope i x v h at e in omega arith
value_over (LocalVariable.Defined name value ∷ scope) (suc i) x v h at e = let le = value_over scope i x v h.1 at e in omega arith

-- one variable more
after_bound : (scope : Scope) (i k : ℕ) (x : LocalVariable) (t : Core) → slice_get scope i ≡ Some x → value_of x ≡ None
    → put_values (take (suc i) scope) k t ≡ put_values (take i scope) k t
after_bound [] i k x t at e = cc
after_bound (LocalVariable.Bound name ∷ scope) zero k x t at e = refl
after_bound (LocalVariable.Defined name value ∷ scope) zero k x t at e =
    let is : LocalVariable.Defined name value ≡ x = cc in let some : ◌≡◌ {A = Option Core} (Some value) None = ap value_of is ∙ e in cc
after_bound (LocalVariable.Bound name ∷ scope) (suc i) k x t at e = after_bound scope i (suc k) x t at e
after_bound (LocalVariable.Defined name value ∷ scope) (suc i) k x t at e = after_bound scope i (suc k) x (lift k 1 (put k value t)) at e

after_defined : (scope : Scope) (i k : ℕ) (x : LocalVariable) (v t : Core) → slice_get scope i ≡ Some x → value_of x ≡ Some v
    → put_values (take (suc i) scope) k t ≡ lift (k + i) 1 (put (k + i) v (put_values (take i scope) k t))
after_defined [] i k x v t at e = cc
after_defined (LocalVariable.Bound name ∷ scope) zero k x v t at e =
    let is : LocalVariable.Bound name ≡ x = cc in let none : ◌≡◌ {A = Option Core} None (Some v) = ap value_of is ∙ e in cc
after_defined (LocalVariable.Defined name value ∷ scope) zero k x v t at e =
    let is : LocalVariable.Defined name value ≡ x = cc in
    let some : ◌≡◌ {A = Option Core} (Some value) (Some v) = ap value_of is ∙ e in
    let same : value ≡ v = cc in let here : k ≡ k + 0 = omega arith in
    ap (λ z. lift k 1 (put k z t)) same ∙ ap (λ n. lift n 1 (put n v t)) here
after_defined (LocalVariable.Bound name ∷ scope) (suc i) k x v t at e =
    let there : suc k + i ≡ k + suc i = omega arith in
    after_defined scope i (suc k) x v t at e ∙ ap (λ n. lift n 1 (put n v (put_values (take i scope) (suc k) t))) there
after_defined (LocalVariable.Defined name value ∷ scope) (suc i) k x v t at e =
    let there : suc k + i ≡ k + suc i = omega arith in
    after_defined scope i (suc k) x v (lift k 1 (put k value t)) at e
    ∙ ap (λ n. lift n 1 (put n v (put_values (take i scope) (suc k) (lift k 1 (put k value t))))) there

pub next_bound : (scope : Scope) (i : ℕ) (x : LocalVariable) (t made : Core) → slice_get scope i ≡ Some x → value_of x ≡ None
    → made ≡ put_values (take i scope) 0 t → made ≡ put_values (take (i + 1) scope) 0 t
next_bound scope i x t made at e h =
    let one : suc i ≡ i + 1 = omega arith in
    h ∙ sym (after_bound scope i 0 x t at e) ∙ ap (λ n. put_values (take n scope) 0 t) one

pub next_defined : (scope : Scope) (i : ℕ) (x : LocalVariable) (v t made : Core) → slice_get scope i ≡ Some x → value_of x ≡ Some v
    → made ≡ put_values (take i scope) 0 t → put_kept i v made ≡ put_values (take (i + 1) scope) 0 t
next_defined scope i x v t made at e h =
    let one : suc i ≡ i + 1 = omega arith in
    let here : i ≡ 0 + i = omega arith in
    ap (put_kept i v) h ∙ sym (kept i v (put_values (take i scope) 0 t)) ∙ ap (λ n. lift n 1 (put n v (put_values (take i scope) 0 t))) here
    ∙ sym (after_defined scope i 0 x v t at e)
    ∙ ap (λ n. put_values (take n scope) 0 t) one

-- a value is put, or makes a term too large
pub put_goes : (scope : Scope) (i : ℕ) (x : LocalVariable) (v t made u : Core) → AreOver scope → slice_get scope i ≡ Some x → value_of x ≡ Some v
    → (made ≡ put_values (take i scope) 0 t) × (loose made ≤ length scope) → Rebuilds (put_kept i v made) (Ok u)
    → (u ≡ put_values (take (i + 1) scope) 0 t) × (loose u ≤ length scope)
put_goes scope i x v t made u over at e h r =
    let l = value_over scope i x v over at e in
    let k = loose-kept i v made in
    let le : loose (put_kept i v made) ≤ length scope = let m = h.1 in omega arith in
    (r.0 ∙ next_defined scope i x v t made at e h.0, subst (λ z. loose z ≤ length scope) (sym r.0) le)

pub put_fails : (scope : Scope) (i : ℕ) (x : LocalVariable) (v t made : Core) (f : TermFault) → slice_get scope i ≡ Some x → value_of x ≡ Some v
    → made ≡ put_values (take i scope) 0 t → Rebuilds (put_kept i v made) (Err f) → PutsValues scope t (Err f)
put_fails scope i x v t made (TooLarge a b) at e h r =
    (i + 1, subst (λ z. IsTooLarge z a b) (next_defined scope i x v t made at e h) (first_over-large (put_kept i v made) a b r))
put_fails scope i x v t made Memory at e h r = tt

pub puts_all : (scope : Scope) (n : ℕ) (t made : Core) → length scope ≤ n → made ≡ put_values (take n scope) 0 t → made ≡ put_values scope 0 t
puts_all scope n t made l h = h ∙ ap (λ z. put_values z 0 t) (take_all n scope l)
