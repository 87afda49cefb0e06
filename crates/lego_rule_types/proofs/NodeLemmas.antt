-- Counting a term's nodes, where the variables in scope are counted.
use Rattle.std.proofs.Common.{◌≡◌, ℕ, zero, suc, ◌+◌, ◌-◌, ◌≤◌, ◌<◌, nat_eq, if◌then◌else◌, true, false, List, [], ◌∷◌, ◌++◌, length, get_or, refl, ap, sym, subst, ◌∙◌, arith, Result, Ok, Err}
use Rattle.std.proofs.lemmas.Bool.{false≢true}
use Rattle.std.proofs.lemmas.Bool.Decides.{nat_tests}
use Rattle.lego_term.specs.Trees.{Core, Var, Const, Prop, Univ, Pi, Lam, App, Sigma, Pair, Fst, Snd, Let}
use Rattle.lego_term.specs.Weight.{bound, count}
use Rattle.lego_term.specs.declared.binder.Binder.{Binder}
use Rattle.lego_term.specs.declared.binder.Mark.{Mark}
use Rattle.lego_term.specs.declared.level.Level.{Level}
use Rattle.lego_laws.specs.RuleTypes.{node_counting, nodes}
use Rattle.lego_rule_types.specs.private.Counting.{scope_of, nodes_in, Counts, IsCounted}
use Rattle.lego_rule_types.specs.declared.nodes.Uncounted.{Uncounted}
use Rattle.lego_rule_types.specs.declared.nodes.Uncounted.TheVariants.{Over, Memory}

nat_itself : (n : ℕ) → nat_eq n n ≡ true
nat_itself n = grind (arith, nat_tests)

later : (i n : ℕ) → suc n ≤ i → nat_eq i n ≡ false
later i n h = grind (arith, nat_tests)

below_other : (i n : ℕ) → i < suc n → (i ≡ n → ⊥) → i < n
below_other i n h apart = grind (arith, nat_tests)

zero_apart : (n : ℕ) → nat_eq 0 (suc n) ≡ false
zero_apart n = grind (arith, nat_tests)

suc_apart : (i n : ℕ) → nat_eq (suc i) (suc n) ≡ nat_eq i n
suc_apart i n = grind (arith, nat_tests)

longer : (xs : List ℕ) (x : ℕ) → length (xs ++ x ∷ []) ≡ suc (length xs)
longer [] x = refl
longer (y ∷ xs) x = ap suc (longer xs x)

-- one variable more in scope
scope_more : (xs : List ℕ) (x : ℕ) (i : ℕ) → scope_of (xs ++ x ∷ []) i ≡ bound x (scope_of xs) i
scope_more [] x zero = refl
scope_more [] x (suc i) = ap (λ b. if b then x else 0) (later (suc i) 0 (omega arith))
scope_more (y ∷ xs) x zero =
    ap (λ n. if nat_eq 0 n then y else scope_of (xs ++ x ∷ []) 0) (longer xs x)
    ∙ (ap (λ b. if b then y else scope_of (xs ++ x ∷ []) 0) (zero_apart (length xs)) ∙ scope_more xs x 0)
scope_more (y ∷ xs) x (suc i) =
    ap (λ n. if nat_eq (suc i) n then y else scope_of (xs ++ x ∷ []) (suc i)) (longer xs x)
    ∙ (ap (λ b. if b then y else scope_of (xs ++ x ∷ []) (suc i)) (suc_apart i (length xs))
    ∙ ap (λ r. if nat_eq i (length xs) then y else r) (scope_more xs x (suc i)))

nodes_under : (xs : List ℕ) (x : ℕ) (t : Core) → nodes_in (xs ++ x ∷ []) t ≡ count node_counting (bound x (scope_of xs)) t
unfolding nodes_in
nodes_under xs x t = ap (λ s. count node_counting s t) (λ j i. scope_more xs x i j)

-- a part that is over the limit, counted in an equal scope, makes the whole over it
pub part_over : (most : ℕ) (ys zs xs : List ℕ) (p u t : Core) (e : Uncounted) → ys ≡ zs → u ≡ t → nodes_in zs p ≤ nodes_in xs u → Counts (nodes_in ys p) most (Err e) → Counts (nodes_in xs t) most (Err e)
part_over most ys zs xs p u t Over same root le c =
    let n : nodes_in ys p ≡ nodes_in zs p = ap (λ l. nodes_in l p) same in
    let w : nodes_in xs u ≡ nodes_in xs t = ap (nodes_in xs) root in
    omega (arith, c)
part_over most ys zs xs p u t Memory same root le c = tt

-- a whole within the limit, or not, by another name for its count
pub counted_as : (n n' most : ℕ) (r : Result ℕ Uncounted) → n ≡ n' → IsCounted n most r → Counts n' most r
counted_as n n' most (Ok counted) e c = c.0 ∙ e
counted_as n n' most (Err Over) e c = omega (arith, c)
counted_as n n' most (Err Memory) e c = tt

pub same_count : (most : ℕ) (ys xs : List ℕ) (p t : Core) (r : Result ℕ Uncounted) → nodes_in ys p ≡ nodes_in xs t → Counts (nodes_in ys p) most r → Counts (nodes_in xs t) most r
same_count most ys xs p t r e c = subst (λ n. Counts n most r) e c

-- what each form counts, by its parts
pub var_count : (xs : List ℕ) (i : ℕ) → nodes_in xs (Var i) ≡ scope_of xs i
unfolding nodes_in
var_count xs i = refl

pub prop_count : (xs : List ℕ) → nodes_in xs Prop ≡ 0
unfolding nodes_in
prop_count xs = refl

pub const_count : (xs : List ℕ) (k : ℕ) → nodes_in xs (Const k) ≡ 0
unfolding nodes_in
const_count xs k = refl

pub univ_count : (xs : List ℕ) (l : Level) → nodes_in xs (Univ l) ≡ 1
unfolding nodes_in
univ_count xs l = refl

pub app_count : (xs : List ℕ) (k : Mark) (m n : Core) → nodes_in xs (App k m n) ≡ nodes_in xs m + nodes_in xs n
unfolding nodes_in
app_count xs k m n = omega arith

pub fst_count : (xs : List ℕ) (m : Core) → nodes_in xs (Fst m) ≡ nodes_in xs m
unfolding nodes_in
fst_count xs m = omega arith

pub snd_count : (xs : List ℕ) (m : Core) → nodes_in xs (Snd m) ≡ nodes_in xs m
unfolding nodes_in
snd_count xs m = omega arith

pub pi_count : (xs : List ℕ) (x : Binder) (a b : Core) → nodes_in xs (Pi x a b) ≡ 1 + (nodes_in xs a + nodes_in (xs ++ 0 ∷ []) b)
unfolding nodes_in
pi_count xs x a b = let e = nodes_under xs 0 b in omega (arith, e)

pub lam_count : (xs : List ℕ) (x : Binder) (a b : Core) → nodes_in xs (Lam x a b) ≡ nodes_in xs a + nodes_in (xs ++ 0 ∷ []) b
unfolding nodes_in
lam_count xs x a b = let e = nodes_under xs 0 b in omega (arith, e)

pub sigma_count : (xs : List ℕ) (x : Binder) (a b : Core) → nodes_in xs (Sigma x a b) ≡ 1 + (nodes_in xs a + nodes_in (xs ++ 0 ∷ []) b)
unfolding nodes_in
sigma_count xs x a b = let e = nodes_under xs 0 b in omega (arith, e)

pub pair_count : (xs : List ℕ) (x : Binder) (a b m n : Core) → nodes_in xs (Pair x a b m n) ≡ (nodes_in xs a + nodes_in (xs ++ 0 ∷ []) b) + (nodes_in xs m + nodes_in xs n)
unfolding nodes_in
pair_count xs x a b m n = let e = nodes_under xs 0 b in omega (arith, e)

pub let_count : (xs : List ℕ) (x : Binder) (v : ℕ) (m n : Core) → v ≡ nodes_in xs m → nodes_in xs (Let x m n) ≡ nodes_in xs m + nodes_in (xs ++ v ∷ []) n
unfolding nodes_in
let_count xs x v m n e =
    let f = nodes_under xs v n in
    let g : count node_counting (bound v (scope_of xs)) n ≡ count node_counting (bound (nodes_in xs m) (scope_of xs)) n = ap (λ k. count node_counting (bound k (scope_of xs)) n) e in
    omega (arith, f, g)

pub value_count : (xs : List ℕ) (x : Binder) (m n : Core) → nodes_in xs m ≤ nodes_in xs (Let x m n)
unfolding nodes_in
value_count xs x m n = omega arith

closed_nodes : (t : Core) → nodes_in [] t ≡ nodes t
unfolding nodes_in
closed_nodes t = refl

-- the whole, where no variable is in scope
pub whole_nodes : (t : Core) (xs : List ℕ) → xs ≡ [] → nodes_in xs t ≡ nodes t
whole_nodes t xs none = ap (λ l. nodes_in l t) none ∙ closed_nodes t

pub whole_over : (most : ℕ) (t : Core) (xs : List ℕ) (e : Uncounted) → xs ≡ [] → Counts (nodes_in xs t) most (Err e) → IsCounted (nodes t) most (Err e)
whole_over most t xs Over none c = let n = whole_nodes t xs none in omega (arith, c)
whole_over most t xs Memory none c = tt

-- the variable of an index stands so far from the end
pub in_scope : (xs : List ℕ) (i : ℕ) (d : ℕ) → i < length xs → get_or xs (length xs - 1 - i) d ≡ scope_of xs i
in_scope [] i d h = absurd (omega arith)
in_scope (x ∷ xs) i d h =
    elim (nat_eq i (length xs)) as (λ b. nat_eq i (length xs) ≡ b → get_or (x ∷ xs) (suc (length xs) - 1 - i) d ≡ (if b then x else scope_of xs i)) [
      | true ↦ λ e.
          (let here : i ≡ length xs = grind (arith, nat_tests) in
          let front : suc (length xs) - 1 - i ≡ 0 = omega arith in
          ap (λ n. get_or (x ∷ xs) n d) front)
      | false ↦ λ e.
          (let apart : (i ≡ length xs) → ⊥ = λ q. absurd (false≢true (sym e ∙ (ap (λ n. nat_eq n (length xs)) q ∙ nat_itself (length xs)))) in
          let below : i < length xs = below_other i (length xs) h apart in
          let next : suc (length xs) - 1 - i ≡ suc (length xs - 1 - i) = omega arith in
          ap (λ n. get_or (x ∷ xs) n d) next ∙ in_scope xs i d below)
    ] refl

pub out_of_scope : (xs : List ℕ) (i : ℕ) → length xs ≤ i → scope_of xs i ≡ 0
out_of_scope [] i h = refl
out_of_scope (x ∷ xs) i h =
    ap (λ b. if b then x else scope_of xs i) (later i (length xs) h) ∙ out_of_scope xs i (omega arith)

pub named_count : (n n' most : ℕ) (r : Result ℕ Uncounted) → n ≡ n' → IsCounted n most r → IsCounted n' most r
named_count n n' most r e c = subst (λ z. IsCounted z most r) e c
