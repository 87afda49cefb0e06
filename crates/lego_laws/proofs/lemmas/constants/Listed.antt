-- Numbers that are listed, and the variables that stand for them.
use Rattle.std.proofs.Common.{◌≡◌, ℕ, suc, nat_eq, Bool, true, false, cond, length, Option, Some, None, option_map, unwrap_or, List, [], ◌∷◌, ◌++◌, refl, ap, ◌∙◌, arith}
use Rattle.std.proofs.lemmas.Bool.Decides.{nat_tests}
use Rattle.std.proofs.lemmas.List.{length-append}
use Rattle.lego_term.specs.Trees.{Term, Var, Const, lift, listed_variable}
use Rattle.lego_laws.specs.Replacement.{raised, listed_as_locals}

last_by : (o : Bool) (i j : ℕ) (p q : Option ℕ) → cond o (Some i) p ≡ None → (p ≡ None → q ≡ Some 0) → cond o (Some j) q ≡ Some 0
last_by true i j p q h k = cc
last_by false i j p q h k = k h

-- one more number at the end: it is variable 0, and the others are raised
pub listed_last : (ns : List ℕ) (n : ℕ) → listed_variable ns n ≡ None → listed_variable (ns ++ (n ∷ [])) n ≡ Some 0
listed_last [] n h = grind (arith, nat_tests)
listed_last (m ∷ ns) n h = last_by (nat_eq m n) (length ns) (length (ns ++ (n ∷ []))) (listed_variable ns n) (listed_variable (ns ++ (n ∷ [])) n) h (listed_last ns n)

pub listed_others : (ns : List ℕ) (n k : ℕ) → nat_eq n k ≡ false → listed_variable (ns ++ (n ∷ [])) k ≡ option_map suc (listed_variable ns k)
listed_others [] n k h = ap (λ o. cond o (Some 0) None) h
listed_others (m ∷ ns) n k h = by_test (nat_eq m k) (listed_others ns n k h)
  where
    by_test : (o : Bool) → listed_variable (ns ++ (n ∷ [])) k ≡ option_map suc (listed_variable ns k) → cond o (Some (length (ns ++ (n ∷ [])))) (listed_variable (ns ++ (n ∷ [])) k) ≡ option_map suc (cond o (Some (length ns)) (listed_variable ns k))
    by_test true q = ap Some (length-append ns (n ∷ []) ∙ omega arith)
    by_test false q = q

raised_option : (k : ℕ) (o : Option ℕ) → ◌≡◌ {A = Term} (unwrap_or (option_map Var (option_map suc o)) (Const k)) (lift 0 1 (unwrap_or (option_map Var o) (Const k)))
raised_option k None = refl
raised_option k (Some i) = ap Var (grind arith)

pub others_raised : (ns : List ℕ) (n k : ℕ) → nat_eq n k ≡ false → listed_as_locals {B = Unit {0}} {M = Unit {0}} {L = ℕ} (ns ++ (n ∷ [])) k ≡ raised (listed_as_locals ns) k
others_raised ns n k h = ap (λ o. unwrap_or (option_map Var o) (Const k)) (listed_others ns n k h) ∙ raised_option k (listed_variable ns k)
