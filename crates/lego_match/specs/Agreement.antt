-- When two normal forms agree: they are equal, names, marks and universes aside. And when two terms do.
use Rattle.std.specs.Prelude.{◌≡◌, ℕ, ◌↔◌, Some, slice_get}
use Rattle.lego_term.specs.Trees.{Tree, Core, Var, Const, Prop, Univ, Pi, Lam, App, Sigma, Pair, Fst, Snd, Let, shape, EqualButLevels}
use Rattle.lego_term.specs.Parts.{Shape, shape_of, Branch, parts_of}
use Rattle.lego_term.specs.Sequences.{HeadForm, NormalForm}
use Rattle.lego_laws.specs.Parallel.{CoreBodies}

-- the tree with a universe for each `Prop`
abbrev pub with_one_sort : Tree (Unit {0}) (Unit {0}) (Unit {0}) → Tree (Unit {0}) (Unit {0}) (Unit {0})
with_one_sort (Var i) = Var i
with_one_sort (Const k) = Const k
with_one_sort Prop = Univ tt
with_one_sort (Univ l) = Univ l
with_one_sort (Pi x a b) = Pi x (with_one_sort a) (with_one_sort b)
with_one_sort (Lam x a m) = Lam x (with_one_sort a) (with_one_sort m)
with_one_sort (App k m n) = App k (with_one_sort m) (with_one_sort n)
with_one_sort (Sigma x a b) = Sigma x (with_one_sort a) (with_one_sort b)
with_one_sort (Pair x a b m n) = Pair x (with_one_sort a) (with_one_sort b) (with_one_sort m) (with_one_sort n)
with_one_sort (Fst m) = Fst (with_one_sort m)
with_one_sort (Snd m) = Snd (with_one_sort m)
with_one_sort (Let x m n) = Let x (with_one_sort m) (with_one_sort n)

-- equal trees, names, marks and levels aside, where any two universes agree, and `Prop` with each of them
abbrev pub Agree : Core → Core → Type 0
Agree p q = with_one_sort (shape p) ≡ with_one_sort (shape q)

-- Two terms agree: they are equal, names, marks and levels aside; or they have normal forms that agree; or they have head forms of
-- one form, and all parts of these agree.
pub data AgreeIn (b : CoreBodies) : Core → Core → Type 0 where
  but_for_levels : {t u : Core} → EqualButLevels t u → AgreeIn b t u
  in_normal_forms : {t u p q : Core} → NormalForm b t p → NormalForm b u q → Agree p q → AgreeIn b t u
  in_parts : {t u h k : Core} {s : Shape}
      → HeadForm b t h → HeadForm b u k → shape_of h ≡ Some s → shape_of k ≡ Some s
      → ((j : ℕ) (l r : Branch) → slice_get (parts_of h) j ≡ Some l → slice_get (parts_of k) j ≡ Some r → AgreeIn b l.term r.term)
      → AgreeIn b t u

-- where both have normal forms, two terms agree exactly where these do
abbrev pub AgreementIsOfNormalForms : Type 0
AgreementIsOfNormalForms =
    (b : CoreBodies) (t u p q : Core) → NormalForm b t p → NormalForm b u q → AgreeIn b t u ↔ Agree p q
