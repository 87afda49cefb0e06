-- The rules Ax, T and var.
use Rattle.std.proofs.Common.{◌≡◌, ℕ, suc, ◌+◌, ◌≤◌, List, [], ◌∷◌, ◌++◌, map, refl, sym, subst, Some, option_map, ap, arith, All, slice_get}
use Rattle.lego_base.specs.declared.place.Place.{Place}
use Rattle.lego_term.specs.declared.level.Level.{Level}
use Rattle.lego_term.specs.Levels.{LevelPair, fixed_level, variable_level}
use Rattle.lego_term.specs.Trees.{Core, Var, Const, Prop, Univ, lift}
use Rattle.lego_laws.specs.Parallel.{CoreBodies}
use Rattle.lego_laws.specs.Entries.{Entry, entry_of, core_bodies}
use Rattle.lego_laws.specs.RuleTypes.{RuleType, nodes}
use Rattle.lego_laws.specs.Principal.{core_types}
use Rattle.lego_laws.specs.Places.{Want, Site, RuleTypeAt, Stands, IsConstraintOfCore}
use Rattle.lego_laws.specs.Ranges.{level_bound, raised_level, FitsBetween}
use Rattle.lego_laws.proofs.lemmas.inference.InferenceLaws.{fits_prop, fits_variable, fits_constant, fits_universe}
use Rattle.lego_level.specs.declared.constraint.Constraint.{Constraint}
use Rattle.lego_level.specs.Graphs.{pairs_of}
use Rattle.lego_inference.specs.private.Gathering.{asked_at}
use Rattle.lego_inference.specs.private.Judging.{Root, task_on, Inferred}
use Rattle.lego_inference.proofs.GatherLemmas.{at_none, at_one, of_none, of_one}
use Rattle.lego_inference.proofs.ShapeLemmas.{all_shaped, none_before}

-- the same constraints in a range with another end
pub fits_moved : {n n₁ n₂ : ℕ} {c b : CoreBodies} {held : List LevelPair} {g : List Core} {m a : Core} {k l : List LevelPair} → n₁ ≡ n₂ → k ≡ l → FitsBetween n n₁ c b held g m a k → FitsBetween n n₂ c b held g m a l
fits_moved {n} {n₁} {n₂} {c} {b} {held} {g} {m} {a} {k} {l} e f h =
    subst (λ z. FitsBetween n z c b held g m a l) e (subst (λ z. FitsBetween n n₁ c b held g m a z) f h)

module _ (es : List Entry) (place : Place) (s : Site) where
  same_end : s.first ≡ s.first + 0
  same_end = omega arith

  pub prop_inferred : Inferred es place s Prop [] (Univ (fixed_level 0))
  prop_inferred = record {
    rule = RuleType.prop;
    parts = all_shaped none_before;
    fits = λ held c. fits_moved same_end refl (fits_prop s.first (core_types es) (core_bodies es) held s.types c);
    of_core = λ r w st. of_none (task_on es r);
    placed = at_none place;
  }

  pub variable_inferred : (i : ℕ) (a : Core) → slice_get s.types i ≡ Some a → Inferred es place s (Var i) [] (lift 0 (suc i) a)
  variable_inferred i a e = record {
    rule = RuleType.variable e;
    parts = all_shaped none_before;
    fits = λ held c. fits_moved same_end refl (fits_variable s.first (core_types es) (core_bodies es) held s.types c i a e);
    of_core = λ r w st. of_none (task_on es r);
    placed = at_none place;
  }

  pub constant_inferred : (k : ℕ) (e : Entry) → entry_of es k ≡ Some e → Inferred es place s (Const k) [] e.ty
  constant_inferred k e p = record {
    rule = RuleType.constant p;
    parts = all_shaped none_before;
    fits = λ held c. fits_moved same_end refl (fits_constant s.first (core_types es) (core_bodies es) held s.types c k e.ty (ap (option_map (λ (y : Entry). y.ty)) p));
    of_core = λ r w st. of_none (task_on es r);
    placed = at_none place;
  }

  universe_rule : (l : Level) → RuleTypeAt es s (Univ l) (Univ (variable_level s.first))
  universe_rule l = RuleType.universe

  pub universe_inferred : (l : Level) → level_bound l ≤ s.first → Inferred es place s (Univ l) (asked_at (raised_level l) (variable_level s.first) place) (Univ (variable_level s.first))
  universe_inferred l le = record {
    rule = RuleType.universe;
    parts = all_shaped none_before;
    fits = λ held c. fits_moved (omega arith) refl (fits_universe s.first (core_types es) (core_bodies es) held s.types c l le);
    of_core = λ r w st. of_one (task_on es r) place (raised_level l) (variable_level s.first) (IsConstraintOfCore.universe st (universe_rule l));
    placed = at_one place (raised_level l) (variable_level s.first);
  }
