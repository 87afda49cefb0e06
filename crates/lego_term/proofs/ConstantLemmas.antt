-- What putting variables for constants leaves, and the map of the variables.
use Rattle.std.proofs.Common.{◌≡◌, ℕ, suc, ◌+◌, ◌-◌, ◌<◌, ◌≤◌, cond, if◌then◌else◌, nat_eq, Option, Some, None, List, [], ◌∷◌, length, get_or, drop, refl, ap, sym, subst, ◌∙◌, true, false, inl, inr, arith, IfErr, Result, Ok, Err}
use Rattle.std.specs.Prelude.{unwrap_or, option_map}
use Rattle.std.specs.Ordering.{nat_cmp, is_eq}
use Rattle.std.specs.BTreeMap.{BTreeMap, get, is_at}
use Rattle.std.proofs.lemmas.List.{drop_more, drop_all}
use Rattle.std.specs.Map.{lookup}
use Rattle.std.proofs.lemmas.Bool.Decides.{nat_tests}
use Rattle.std.proofs.Common.{length-drop}
use Rattle.lego_term.specs.Trees.{Core, Var, Const, Prop, Univ, Pi, Lam, App, Sigma, Pair, Fst, Snd, Let, size, depth, close_over, listed_variable, Bodies, replace_constants, map_leaves}
use Rattle.lego_term.specs.private.Listed.{HasVariables}
use Rattle.lego_term.specs.Made.{Makes, Fits, first_over}
use Rattle.std.specs.FinMap as map
use Rattle.lego_term.specs.BodyMap.{BodyMap, bodies_in}
use Rattle.lego_term.proofs.OverLemmas.{first_over-fits}
use Rattle.lego_term.proofs.TraversalLemmas.{state_unused}
use Rattle.lego_term.specs.declared.binder.Binder.{Binder}
use Rattle.lego_term.specs.declared.binder.Mark.{Mark}
use Rattle.lego_term.specs.declared.level.Level.{Level}
use Rattle.lego_term.specs.declared.fault.TermFault.{TermFault}
use Rattle.lego_term.specs.declared.fault.TermFault.TheVariants.{TooLarge, Memory}

abbrev variable_or : Option ℕ → ℕ → ℕ → Core
variable_or o d k = unwrap_or (option_map (λ i. Var (i + d)) o) (Const k)

size_of : (o : Option ℕ) (d k : ℕ) → size (variable_or o d k) ≡ 1
size_of None d k = refl
size_of (Some i) d k = refl

pub size-close : (ns : List ℕ) (under : ℕ) (t : Core) → size (close_over ns under t) ≡ size t
size-close ns under (Var i) = refl
size-close ns under (Const k) = size_of (listed_variable ns k) under k
size-close ns under Prop = refl
size-close ns under (Univ l) = refl
size-close ns under (Pi x a b) = omega (arith, size-close ns under a, size-close ns (suc under) b)
size-close ns under (Lam x a m) = omega (arith, size-close ns under a, size-close ns (suc under) m)
size-close ns under (App k m n) = omega (arith, size-close ns under m, size-close ns under n)
size-close ns under (Sigma x a b) = omega (arith, size-close ns under a, size-close ns (suc under) b)
size-close ns under (Pair x a b m n) = omega (arith, size-close ns under a, size-close ns (suc under) b, size-close ns under m, size-close ns under n)
size-close ns under (Fst m) = omega (arith, size-close ns under m)
size-close ns under (Snd m) = omega (arith, size-close ns under m)
size-close ns under (Let x m n) = omega (arith, size-close ns under m, size-close ns (suc under) n)

depth_of : (o : Option ℕ) (d k : ℕ) → depth (variable_or o d k) ≡ 1
depth_of None d k = refl
depth_of (Some i) d k = refl

pub depth-close : (ns : List ℕ) (under : ℕ) (t : Core) → depth (close_over ns under t) ≡ depth t
depth-close ns under (Var i) = refl
depth-close ns under (Const k) = depth_of (listed_variable ns k) under k
depth-close ns under Prop = refl
depth-close ns under (Univ l) = refl
depth-close ns under (Pi x a b) = omega (arith, depth-close ns under a, depth-close ns (suc under) b)
depth-close ns under (Lam x a m) = omega (arith, depth-close ns under a, depth-close ns (suc under) m)
depth-close ns under (App k m n) = omega (arith, depth-close ns under m, depth-close ns under n)
depth-close ns under (Sigma x a b) = omega (arith, depth-close ns under a, depth-close ns (suc under) b)
depth-close ns under (Pair x a b m n) = omega (arith, depth-close ns under a, depth-close ns (suc under) b, depth-close ns under m, depth-close ns under n)
depth-close ns under (Fst m) = omega (arith, depth-close ns under m)
depth-close ns under (Snd m) = omega (arith, depth-close ns under m)
depth-close ns under (Let x m n) = omega (arith, depth-close ns under m, depth-close ns (suc under) n)

pub listed_variable-less : (ns : List ℕ) (k i : ℕ) → listed_variable ns k ≡ Some i → i < length ns
listed_variable-less [] k i e = absurd (cc)
listed_variable-less (n ∷ ns) k i e =
    elim (nat_eq n k) as (λ b. (if b then Some (length ns) else listed_variable ns k) ≡ Some i → i < suc (length ns)) [
      | true ↦ λ h. (let p : length ns ≡ i = cc in omega arith)
      | false ↦ λ h. (let p : i < length ns = listed_variable-less ns k i h in omega arith)
    ] e

is_eq-nat_cmp : (n k : ℕ) → is_eq (nat_cmp n k) ≡ nat_eq n k
is_eq-nat_cmp n k = grind (arith, nat_tests)

pub no_variables : (ns : List ℕ) (m : BTreeMap ℕ ℕ) → m.entries ≡ [] → HasVariables (drop (length ns - 0) ns) m
no_variables ns m e k =
    let none : drop (length ns - 0) ns ≡ [] = drop_all (length ns - 0) ns (omega arith) in
    ap (lookup (is_at (nat_cmp k))) e ∙ ap (λ l. listed_variable l k) (sym none)

pub all_variables : (ns : List ℕ) (i : ℕ) (m : BTreeMap ℕ ℕ) → length ns ≤ i → HasVariables (drop (length ns - i) ns) m → HasVariables ns m
all_variables ns i m le h =
    let none : length ns - i ≡ 0 = omega arith in
    subst (λ a. HasVariables (drop a ns) m) none h

pub listed_more : (ns : List ℕ) (i : ℕ) (m n : BTreeMap ℕ ℕ) → i < length ns → HasVariables (drop (length ns - i) ns) m
    → ((q : ℕ) → get nat_cmp n q ≡ cond (is_at (nat_cmp (get_or ns (length ns - 1 - i) 0)) q) (Some i) (get nat_cmp m q))
    → HasVariables (drop (length ns - (i + 1)) ns) n
listed_more ns i m n lt has h q =
    let j : ℕ = length ns - 1 - i in
    let before : length ns - (i + 1) ≡ j = omega arith in
    let behind : length ns - i ≡ j + 1 = omega arith in
    let count : length (drop (j + 1) ns) ≡ i = omega (arith, length-drop (j + 1) ns) in
    let front : drop j ns ≡ get_or ns j 0 ∷ drop (j + 1) ns = drop_more ns j 0 (omega arith) in
    let old : get nat_cmp m q ≡ listed_variable (drop (j + 1) ns) q = subst (λ a. get nat_cmp m q ≡ listed_variable (drop a ns) q) behind (has q) in
    h q ∙ (ap (λ b. cond b (Some i) (get nat_cmp m q)) (is_eq-nat_cmp (get_or ns j 0) q)
    ∙ (ap (cond (nat_eq (get_or ns j 0) q) (Some i)) old
    ∙ (ap (λ a. cond (nat_eq (get_or ns j 0) q) (Some a) (listed_variable (drop (j + 1) ns) q)) (sym count)
    ∙ (ap (λ l. listed_variable l q) (sym front)
    ∙ ap (λ a. listed_variable (drop a ns) q) (sym before)))))

-- the binders above a constant change nothing of its body
pub replace-under : (bodies : Bodies Binder Mark Level) (n : ℕ) (t : Core)
    → map_leaves suc (λ n i. Var i) (λ n k. unwrap_or (bodies k) (Const k)) n t ≡ replace_constants bodies t
replace-under bodies = state_unused (λ i. Var i) (λ k. unwrap_or (bodies k) (Const k))

-- where a constant has a body, the body stands for it
pub body_stands : (bodies : BodyMap) (k : ℕ) (b made : Core) → Some b ≡ map.get bodies k → made ≡ b → Fits b
    → (made ≡ replace_constants (bodies_in bodies) (Const k)) × (first_over (replace_constants (bodies_in bodies) (Const k)) ≡ None)
body_stands bodies k b made h e f =
    let stands : b ≡ replace_constants (bodies_in bodies) (Const k) = ap (λ o. unwrap_or o (Const k)) h in
    (e ∙ stands, ap first_over (sym stands) ∙ first_over-fits b f.0 f.1)
