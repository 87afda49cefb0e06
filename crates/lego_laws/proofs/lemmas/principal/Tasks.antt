-- Refusals of a task by its constraints.
use Rattle.std.proofs.Common.{◌≡◌, ℕ, ◌+◌, ◌≤◌, List, map, refl, subst, sym}
use Rattle.lego_term.specs.Levels.{Assignment, LevelPair, SatisfiesAll}
use Rattle.lego_term.specs.Trees.{Core, Term, Univ, at}
use Rattle.lego_laws.specs.Entries.{Entry, entries_at, kept, core_bodies}
use Rattle.lego_laws.specs.Judgement.{Has}
use Rattle.lego_laws.specs.Valid.{AlwaysValid}
use Rattle.lego_laws.specs.Fitting.{top}
use Rattle.lego_laws.specs.Principal.{AreSmall, HasSmallSolution}
use Rattle.lego_laws.specs.Exclusion.{AreUnsolvable}
use Rattle.lego_laws.specs.Places.{Aim, AnyType, BeAType, OfType, OfWrittenType, want_of, allowance}
use Rattle.lego_laws.specs.Shape.{Meets}
use Rattle.lego_laws.specs.Tasks.{FitsAim, UnsolvableTasksHaveNoTyping, SmallTasksHaveSmallSolutions, FittingTypesAreTypes}
use Rattle.lego_laws.proofs.lemmas.principal.PrincipalLaws.{unsolvable_terms_have_no_type, unsolvable_checks_have_no_typing, unsolvable_definitions_have_no_typing, small_typings_have_small_solutions, small_checks_have_small_solutions, small_definitions_have_small_solutions}
use Rattle.lego_laws.proofs.lemmas.typing.Rules.{derived, judged, list_valid}
use Rattle.lego_laws.proofs.lemmas.principal.EntriesAt.{types_at, bodies_at_values}
use Rattle.lego_laws.proofs.lemmas.inference.Solving.{sort_value, sort_sound}
use Rattle.lego_laws.proofs.lemmas.principal.SolvedCores.{sort_of, derives_over}
use Rattle.lego_laws.specs.Parallel.{bodies_at}
use Rattle.lego_laws.specs.Principal.{core_types}
use Rattle.lego_laws.specs.Ranges.{sort_term}
use Rattle.lego_term.specs.Sequences.{HeadForm}

module _ (n n₁ : ℕ) (es : List Entry) (g : List Core) (m : Core) (k : List LevelPair) (v : Assignment) (h : SatisfiesAll v (kept es)) where
  unsolvable : (aim : Aim) → AlwaysValid es → FitsAim n n₁ es g m k aim → AreUnsolvable es k → (q : Term) → Meets v (want_of aim) q → Has (entries_at v es) (map (at v) g) (at v m) q → ⊥
  unsolvable AnyType always f out q w d = unsolvable_terms_have_no_type es g m f.0 k f.1.fits out v h q d
  unsolvable BeAType always f out q w d = unsolvable_terms_have_no_type es g m f.ty k f.rule.fits out v h q d
  unsolvable (OfType a) always f out q w d =
      unsolvable_checks_have_no_typing n n₁ es g m a k f out v h (subst (Has (entries_at v es) (map (at v) g) (at v m)) w d)
  unsolvable (OfWrittenType a) always f out q w d =
      unsolvable_definitions_have_no_typing n n₁ es always g m a k f out v h (subst (Has (entries_at v es) (map (at v) g) (at v m)) w d)

  -- a derivation of the type that is wanted, with its greatest universe
  Bounded : ℕ → Term → Type 0
  Bounded limit q = (d : Has (entries_at v es) (map (at v) g) (at v m) q) × (top d ≤ limit)

  Written : ℕ → Aim → Type 0
  Written limit aim = (a : Core) → aim ≡ OfWrittenType a → (j : ℕ) × (d : Has (entries_at v es) (map (at v) g) (at v a) (Univ j)) × (top d ≤ limit)

  small : (aim : Aim) → FitsAim n n₁ es g m k aim → (limit : ℕ) → AreSmall limit v → (q : Term) → Meets v (want_of aim) q → Bounded limit q → Written limit aim → HasSmallSolution limit es k
  unfolding Bounded Written
  small AnyType f limit values q w d more = small_typings_have_small_solutions es g m f.0 k f.1.fits limit v h values q d.0 d.1
  small BeAType f limit values q w d more = small_typings_have_small_solutions es g m f.ty k f.rule.fits limit v h values q d.0 d.1
  small (OfType a) f limit values q w d more =
      let e = subst (Bounded limit) w d in
      small_checks_have_small_solutions n n₁ es g m a k f limit v h values e.0 e.1
  small (OfWrittenType a) f limit values q w d more =
      let e = subst (Bounded limit) w d in
      let t = more a refl in
      small_definitions_have_small_solutions n n₁ es g m a k f limit v h values e.0 e.1 t.0 t.1 t.2

pub unsolvable_tasks_have_no_typing : UnsolvableTasksHaveNoTyping
unsolvable_tasks_have_no_typing t k always f out v h typed =
    unsolvable t.site.first (t.site.first + allowance t) t.entries t.site.types t.core k v h t.aim always f out typed.type typed.wanted typed.has

pub small_tasks_have_small_solutions : SmallTasksHaveSmallSolutions
unfolding Bounded Written
small_tasks_have_small_solutions t k f limit v h values typed =
    small t.site.first (t.site.first + allowance t) t.entries t.site.types t.core k v h t.aim f limit values typed.type typed.wanted (typed.has, typed.small) typed.written

pub fitting_types_are_types : FittingTypesAreTypes
fitting_types_are_types n n₁ es always g a k f v h s =
    let x = always v h in
    let d = f.rule.fits.sound v h s in
    let w = derived d in
    let c = types_at es v x in
    let b = bodies_at_values es v x in
    let sort = sort_of f.is_type.0 f.is_type.2 in
    let head : HeadForm (core_bodies es) f.ty (sort_term sort.0) = subst (HeadForm (core_bodies es) f.ty) sort.1 f.is_type.1 in
    let typed = sort_sound (bodies_at v (core_types es)) (core_bodies es) v (map (at v) g) (at v a) f.ty sort.0 head (derives_over c b w.0) in
    (sort_value v sort.0, judged (derives_over (sym c) (sym b) typed) (list_valid w.1))
