-- The greatest universe of a term, and what a derivation's greatest universe bounds.
use Rattle.std.proofs.Common.{◌≡◌, ℕ, suc, ◌≤◌, max, List, [], ◌∷◌, ◌++◌, fold, refl, arith}
use Rattle.std.proofs.lemmas.List.Sums.{fold-append}
use Rattle.std.proofs.lemmas.Bool.Decides.{nat_tests}
use Rattle.lego_term.specs.Trees.{Term, Var, Const, Prop, Univ, Pi, Lam, App, Sigma, Pair, Fst, Snd, levels_of, lift, put, put_var, instantiate, Let}
use Rattle.lego_laws.specs.Entries.{Constant}
use Rattle.lego_laws.specs.Judgement.{Valid, Has}
use Rattle.lego_laws.specs.Fitting.{highest, top, top_valid}

abbrev pub high : Term → ℕ
high (Var i) = 0
high (Const k) = 0
high Prop = 0
high (Univ l) = l
high (Pi x a r) = max (high a) (high r)
high (Lam x a m) = max (high a) (high m)
high (App k m n) = max (high m) (high n)
high (Sigma x a r) = max (high a) (high r)
high (Let x a r) = max (high a) (high r)
high (Pair x a r m n) = max (max (high a) (high r)) (max (high m) (high n))
high (Fst m) = high m
high (Snd m) = high m

from_both : (i : ℕ) (xs ys : List ℕ) (m n : ℕ) → ((k : ℕ) → fold max k xs ≡ max k m) → ((k : ℕ) → fold max k ys ≡ max k n) → fold max i (xs ++ ys) ≡ max i (max m n)
from_both i xs ys m n p q =
    let e = fold-append max i xs ys in
    let x = p i in
    let y = q (fold max i xs) in
    omega arith

fold_from : (t : Term) (i : ℕ) → fold max i (levels_of t) ≡ max i (high t)
fold_from (Var j) i = omega arith
fold_from (Const k) i = omega arith
fold_from Prop i = omega arith
fold_from (Univ l) i = refl
fold_from (Pi x a r) i = from_both i (levels_of a) (levels_of r) (high a) (high r) (fold_from a) (fold_from r)
fold_from (Lam x a r) i = from_both i (levels_of a) (levels_of r) (high a) (high r) (fold_from a) (fold_from r)
fold_from (App k a r) i = from_both i (levels_of a) (levels_of r) (high a) (high r) (fold_from a) (fold_from r)
fold_from (Sigma x a r) i = from_both i (levels_of a) (levels_of r) (high a) (high r) (fold_from a) (fold_from r)
fold_from (Pair x a r m n) i =
    let e = from_both i (levels_of a ++ levels_of r ++ levels_of m) (levels_of n) (max (max (high a) (high r)) (high m)) (high n)
    (λ k. from_both k (levels_of a ++ levels_of r) (levels_of m) (max (high a) (high r)) (high m)
    (λ l. from_both l (levels_of a) (levels_of r) (high a) (high r) (fold_from a) (fold_from r)) (fold_from m)) (fold_from n) in
    omega arith
fold_from (Fst m) i = fold_from m i
fold_from (Snd m) i = fold_from m i
fold_from (Let x a r) i = from_both i (levels_of a) (levels_of r) (high a) (high r) (fold_from a) (fold_from r)

pub highest_is : (t : Term) → highest t ≡ high t
highest_is t = let e = fold_from t 0 in omega arith

high-lift : (from by : ℕ) (t : Term) → high (lift from by t) ≡ high t
high-lift from by (Var i) = refl
high-lift from by (Const k) = refl
high-lift from by Prop = refl
high-lift from by (Univ l) = refl
high-lift from by (Pi x a r) = omega (arith, high-lift from by a, high-lift (suc from) by r)
high-lift from by (Lam x a r) = omega (arith, high-lift from by a, high-lift (suc from) by r)
high-lift from by (App k m n) = omega (arith, high-lift from by m, high-lift from by n)
high-lift from by (Sigma x a r) = omega (arith, high-lift from by a, high-lift (suc from) by r)
high-lift from by (Let x a r) = omega (arith, high-lift from by a, high-lift (suc from) by r)
high-lift from by (Pair x a r m n) = omega (arith, high-lift from by a, high-lift (suc from) by r, high-lift from by m, high-lift from by n)
high-lift from by (Fst m) = high-lift from by m
high-lift from by (Snd m) = high-lift from by m

high-put_var : (depth i : ℕ) (n : Term) → high (put_var depth n i) ≤ high n
high-put_var depth i n = grind (arith, nat_tests, high-lift)

high-put : (depth : ℕ) (y t : Term) → high (put depth y t) ≤ max (high t) (high y)
high-put depth y (Var i) = omega (arith, high-put_var depth i y)
high-put depth y (Const k) = omega arith
high-put depth y Prop = omega arith
high-put depth y (Univ l) = omega arith
high-put depth y (Pi x a r) = omega (arith, high-put depth y a, high-put (suc depth) y r)
high-put depth y (Lam x a r) = omega (arith, high-put depth y a, high-put (suc depth) y r)
high-put depth y (App k m n) = omega (arith, high-put depth y m, high-put depth y n)
high-put depth y (Sigma x a r) = omega (arith, high-put depth y a, high-put (suc depth) y r)
high-put depth y (Let x a r) = omega (arith, high-put depth y a, high-put (suc depth) y r)
high-put depth y (Pair x a r m n) = omega (arith, high-put depth y a, high-put (suc depth) y r, high-put depth y m, high-put depth y n)
high-put depth y (Fst m) = high-put depth y m
high-put depth y (Snd m) = high-put depth y m

high-instantiate : (m n : Term) → high (instantiate m n) ≤ max (high m) (high n)
unfolding instantiate
high-instantiate m n = high-put 0 n m

-- substitution takes no universe away
high-put_before : (depth : ℕ) (y t : Term) → high t ≤ high (put depth y t)
high-put_before depth y (Var i) = omega arith
high-put_before depth y (Const k) = omega arith
high-put_before depth y Prop = omega arith
high-put_before depth y (Univ l) = omega arith
high-put_before depth y (Pi x a r) = omega (arith, high-put_before depth y a, high-put_before (suc depth) y r)
high-put_before depth y (Lam x a r) = omega (arith, high-put_before depth y a, high-put_before (suc depth) y r)
high-put_before depth y (App k m n) = omega (arith, high-put_before depth y m, high-put_before depth y n)
high-put_before depth y (Sigma x a r) = omega (arith, high-put_before depth y a, high-put_before (suc depth) y r)
high-put_before depth y (Pair x a r m n) = omega (arith, high-put_before depth y a, high-put_before (suc depth) y r, high-put_before depth y m, high-put_before depth y n)
high-put_before depth y (Fst m) = high-put_before depth y m
high-put_before depth y (Snd m) = high-put_before depth y m
high-put_before depth y (Let x m n) = omega (arith, high-put_before depth y m, high-put_before (suc depth) y n)

high_before : (n m : Term) → high n ≤ high (instantiate n m)
unfolding instantiate
high_before n m = high-put_before 0 m n

abbrev pub LocalsUnder : ℕ → List Term → Type 0
LocalsUnder limit [] = Unit {0}
LocalsUnder limit (a ∷ g) = (high a ≤ limit) × LocalsUnder limit g

-- the universes in the term, in its type and in the local types are at most the limit
pub record IsUnder (limit : ℕ) (g : List Term) (m a : Term) : Type 0 where
  pub term : high m ≤ limit
  pub type : high a ≤ limit
  pub locals : LocalsUnder limit g

mutual
  unfolding top top_valid

  pub valid_under : {e : List Constant} {g : List Term} (limit : ℕ) (v : Valid e g) → top_valid v ≤ limit → LocalsUnder limit g
  valid_under limit Valid.empty le = tt
  valid_under limit (Valid.grow_constant d new) le = tt
  valid_under limit (Valid.grow_variable d) le = let h = has_under limit d le in (h.term, h.locals)

  pub has_under : {e : List Constant} {g : List Term} {m a : Term} (limit : ℕ) (d : Has e g m a) → top d ≤ limit → IsUnder limit g m a
  has_under limit (Has.ax v) le = record { term = omega arith; type = omega arith; locals = valid_under limit v le }
  has_under limit (Has.universe v) le = record { term = omega arith; type = omega arith; locals = valid_under limit v (omega arith) }
  has_under limit (Has.variable {i = i} {a = a} v at) le =
      let e = highest_is a in
      let l = high-lift 0 (suc i) a in
      record { term = omega arith; type = omega arith; locals = valid_under limit v (omega arith) }
  has_under limit (Has.constant {e = e} v at) le =
      let h = highest_is e.ty in
      record { term = omega arith; type = omega arith; locals = valid_under limit v (omega arith) }
  has_under limit (Has.pi_prop d) le =
      let h = has_under limit d le in
      let k = h.locals in
      let m = h.term in
      let n = k.0 in
      record { term = omega arith; type = omega arith; locals = k.1 }
  has_under limit (Has.pi_type d f) le =
      let h = has_under limit d (omega arith) in
      let k = has_under limit f (omega arith) in
      let m = h.term in
      let n = k.term in
      record { term = omega arith; type = h.type; locals = h.locals }
  has_under limit (Has.lambda d) le =
      let h = has_under limit d le in
      let k = h.locals in
      let m = h.term in
      let n = k.0 in
      let q = h.type in
      record { term = omega arith; type = omega arith; locals = k.1 }
  has_under limit (Has.application {b = b} {n = x} d f) le =
      let h = has_under limit d (omega arith) in
      let k = has_under limit f (omega arith) in
      let m = h.term in
      let n = k.term in
      let q = h.type in
      let i = high-instantiate b x in
      record { term = omega arith; type = omega arith; locals = h.locals }
  has_under limit (Has.sigma d f) le =
      let h = has_under limit d (omega arith) in
      let k = has_under limit f (omega arith) in
      let m = h.term in
      let n = k.term in
      record { term = omega arith; type = h.type; locals = h.locals }
  has_under limit (Has.pair d f r) le =
      let h = has_under limit d (omega arith) in
      let k = has_under limit f (omega arith) in
      let l = has_under limit r (omega arith) in
      let m = h.term in
      let n = k.term in
      let q = h.type in
      let s = l.term in
      record { term = omega arith; type = omega arith; locals = h.locals }
  has_under limit (Has.first d) le =
      let h = has_under limit d le in
      let q = h.type in
      record { term = h.term; type = omega arith; locals = h.locals }
  has_under limit (Has.second {b = b} {m = m} d) le =
      let h = has_under limit d le in
      let q = h.type in
      let n = h.term in
      let i = high-instantiate b (Fst m) in
      record { term = h.term; type = omega arith; locals = h.locals }
  has_under limit (Has.local {m = m} {n = n} d f) le =
      let h = has_under limit d (omega arith) in
      let k = has_under limit f (omega arith) in
      let i = h.term in
      let j = k.term in
      let l = high_before n m in
      record { term = omega arith; type = k.type; locals = h.locals }
  has_under limit (Has.cumulative d f low) le =
      let h = has_under limit d (omega arith) in
      let k = has_under limit f (omega arith) in
      record { term = h.term; type = k.term; locals = h.locals }
