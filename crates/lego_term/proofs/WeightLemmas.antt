-- Counting by scopes counts N[M] for a local definition.
use Rattle.std.proofs.Common.{◌≡◌, ℕ, zero, suc, ◌+◌, ◌-◌, nat_lt, nat_eq, if◌then◌else◌, true, false, refl, sym, ap, ◌∙◌, arith}
use Rattle.std.proofs.lemmas.Bool.Decides.{nat_tests}
use Rattle.lego_term.specs.Trees.{Tree, Var, Const, Prop, Univ, Pi, Lam, App, Sigma, Pair, Fst, Snd, Let, lift, put, put_var, instantiate}
use Rattle.lego_term.proofs.TraversalLemmas.{count-leaves}
use Rattle.lego_term.specs.Weight.{Counting, CountsBy, bound, count, count_of, LocalsCountInstances}

zero_less : (d : ℕ) → nat_lt 0 (suc d) ≡ true
zero_less d = grind (arith, nat_tests)

suc_less : (i d : ℕ) → nat_lt (suc i) (suc d) ≡ nat_lt i d
suc_less i d = grind (arith, nat_tests)

suc_equal : (i d : ℕ) → nat_eq (suc i) (suc d) ≡ nat_eq i d
suc_equal i d = grind (arith, nat_tests)

none_less : (i : ℕ) → nat_lt i 0 ≡ false
none_less i = grind (arith, nat_tests)

suc_not_zero : (i : ℕ) → nat_eq (suc i) 0 ≡ false
suc_not_zero i = grind (arith, nat_tests)

lifted_all : (i n : ℕ) → (if nat_lt i 0 then i else i + n) ≡ i + n
lifted_all i n = grind (arith, nat_tests)

sum_right : (i n : ℕ) → i + suc n ≡ suc (i + n)
sum_right i n = omega arith

sum_none : (i : ℕ) → i + 0 ≡ i
sum_none i = omega arith

less_one : (i : ℕ) → suc i - 1 ≡ i
less_one i = omega arith

sum_suc : (i n : ℕ) → suc i + n ≡ suc (i + n)
sum_suc i n = omega arith

-- what scopes count below a binder
lifted_below : (s s' : ℕ → ℕ) (from by k : ℕ) → ((i : ℕ) → s' (if nat_lt i from then i else i + by) ≡ s i) → (i : ℕ)
    → bound k s' (if nat_lt i (suc from) then i else i + by) ≡ bound k s i
lifted_below s s' from by k h zero = ap (λ b. bound k s' (if b then 0 else 0 + by)) (zero_less from)
lifted_below s s' from by k h (suc i) =
    ap (λ b. bound k s' (if b then suc i else suc i + by)) (suc_less i from)
    ∙ elim (nat_lt i from) as (λ b. s' (if b then i else i + by) ≡ s i → bound k s' (if b then suc i else suc i + by) ≡ s i) [
      | true ↦ λ e. e
      | false ↦ λ e. ap (bound k s') (sum_suc i by) ∙ e
    ] (h i)

module _ {B M L : Type 0} (c : Counting) where
  -- a lifted term counts the same where its variables do
  pub count-lift : (from by : ℕ) (s s' : ℕ → ℕ) (t : Tree B M L) → ((i : ℕ) → s' (if nat_lt i from then i else i + by) ≡ s i)
      → count c s' (lift from by t) ≡ count c s t
  count-lift from by s s' t h =
      count-leaves c suc _ _ (λ n f g. (i : ℕ) → g (if nat_lt i n then i else i + by) ≡ f i)
      (λ n f g k h. lifted_below f g n by k h) (λ n f g i h. h i) (λ n f g k h. refl) from s s' t h

  -- a term below so many binders counts as it did above them
  count-past : (k : ℕ) (s : ℕ → ℕ) (d : ℕ) (v : Tree B M L) → count c (bound k s) (lift 0 (suc d) v) ≡ count c s (lift 0 d v)
  count-past k s d v =
      count-lift 0 (suc d) (λ i. s (i + d)) (bound k s) v (λ i. ap (bound k s) (lifted_all i (suc d) ∙ sum_right i d))
      ∙ sym (count-lift 0 d (λ i. s (i + d)) s v (λ i. ap s (lifted_all i d)))

  put_below : (s s' : ℕ → ℕ) (d k : ℕ) (v : Tree B M L) → ((i : ℕ) → count c s' (put_var d v i) ≡ s i) → (i : ℕ)
      → count c (bound k s') (put_var (suc d) v i) ≡ bound k s i
  put_below s s' d k v h zero = ap (λ b. count c (bound k s') (if b then Var 0 else if nat_eq 0 (suc d) then lift 0 (suc d) v else Var (0 - 1))) (zero_less d)
  put_below s s' d k v h (suc i) =
      ap (λ b. count c (bound k s') (if b then Var (suc i) else if nat_eq (suc i) (suc d) then lift 0 (suc d) v else Var (suc i - 1))) (suc_less i d)
      ∙ ap (λ b. count c (bound k s') (if nat_lt i d then Var (suc i) else if b then lift 0 (suc d) v else Var (suc i - 1))) (suc_equal i d)
      ∙ elim (nat_lt i d) as (λ b. nat_lt i d ≡ b → count c s' (if b then Var i else if nat_eq i d then lift 0 d v else Var (i - 1)) ≡ s i
      → count c (bound k s') (if b then Var (suc i) else if nat_eq i d then lift 0 (suc d) v else Var (suc i - 1)) ≡ s i) [
        | true ↦ λ lt e. e
        | false ↦ λ lt.
            elim (nat_eq i d) as (λ b. nat_eq i d ≡ b → count c s' (if b then lift 0 d v else Var (i - 1)) ≡ s i
            → count c (bound k s') (if b then lift 0 (suc d) v else Var (suc i - 1)) ≡ s i) [
              | true ↦ λ eq e. count-past k s' d v ∙ e
              | false ↦ λ eq e.
                  (let before : suc i - 1 ≡ suc (i - 1) = grind (arith, nat_tests) in
                  ap (bound k s') before ∙ e)
            ] refl
      ] refl (h i)

  pub count-put : (d : ℕ) (s s' : ℕ → ℕ) (v t : Tree B M L) → ((i : ℕ) → count c s' (put_var d v i) ≡ s i) → count c s' (put d v t) ≡ count c s t
  count-put d s s' v t h =
      count-leaves c suc _ _ (λ n f g. (i : ℕ) → count c g (put_var n v i) ≡ f i)
      (λ n f g k h. put_below f g n k v h) (λ n f g i h. h i) (λ n f g k h. refl) d s s' t h

  put_first : (s : ℕ → ℕ) (m : Tree B M L) (i : ℕ) → count c s (put_var 0 m i) ≡ bound (count c s m) s i
  put_first s m zero = count-lift 0 0 s s m (λ i. ap s (lifted_all i 0 ∙ sum_none i))
  put_first s m (suc i) =
      rw (none_less (suc i), suc_not_zero i) (ap s (less_one i))

  pub count-instantiate : (s : ℕ → ℕ) (n m : Tree B M L) → count c s (instantiate n m) ≡ count c (bound (count c s m) s) n
  unfolding instantiate
  count-instantiate s n m = count-put 0 (bound (count c s m) s) s m n (put_first s m)

  -- where all variables count the same, so do those below a binder that does
  all_leaves : (t : Tree B M L) → count c (bound c.leaf (λ i. c.leaf)) t ≡ count_of c t
  all_leaves t = ap (λ s. count c s t) (λ j i. leaf i j) where
    leaf : (i : ℕ) → bound c.leaf (λ i. c.leaf) i ≡ c.leaf
    leaf zero = refl
    leaf (suc i) = refl

  counts_by : CountsBy {B = B} {M = M} {L = L} c (count_of c)
  counts_by = record {
    variable = λ i. refl;
    constant = λ k. refl;
    prop = refl;
    universe = λ l. refl;
    pi = λ x a b. ap (λ r. c.product + c.join (count_of c a) r) (all_leaves b);
    lam = λ x a m. ap (λ r. c.node + c.join (count_of c a) r) (all_leaves m);
    app = λ k m n. refl;
    sigma = λ x a b. ap (λ r. c.product + c.join (count_of c a) r) (all_leaves b);
    pair = λ x a b m n. ap (λ r. c.node + c.join (c.join (count_of c a) r) (c.join (count_of c m) (count_of c n))) (all_leaves b);
    fst = λ m. refl;
    snd = λ m. refl;
    local = λ x m n. ap (λ r. c.node + c.join (count_of c m) r) (sym (count-instantiate (λ i. c.leaf) n m));
  }

pub locals_count_instances : LocalsCountInstances
locals_count_instances c = counts_by c
