-- A written type is checked before a core is compared with it.
use Rattle.std.proofs.Common.{◌≡◌, ℕ, ◌⊎◌, inl, inr, refl, sym, subst, arith}
use Rattle.lego_term.specs.declared.binder.Binder.{Binder}
use Rattle.lego_term.specs.declared.binder.Mark.{Mark}
use Rattle.lego_term.specs.declared.binder.Mark.TheVariants.{Plain}
use Rattle.lego_term.specs.Trees.{Core, Var, Const, App, Let, instantiate}
use Rattle.lego_laws.specs.RuleTypes.{RuleType}
use Rattle.lego_laws.specs.Places.{Want, Nothing, AType, AFunction, Stated, OfWrittenType, Site, Part, Within, WantsHead, Fulfils, IsFulfilled, IsShaped, AreShaped, Comes, IsReached}
use Rattle.lego_laws.specs.Examples.{f_core, local_a, task_of, WrittenTypesAreCheckedFirst}
use Rattle.lego_laws.proofs.lemmas.examples.ShapeExample.{no_part}
use Rattle.lego_laws.proofs.lemmas.examples.ShapeExamples.{leaf, head_is, not_fulfilled}
use Rattle.lego_laws.proofs.lemmas.examples.LocalShapes.{local_parts}

abbrev a_applied : Core
a_applied = App Plain (Const 1) (Const 1)

no_function : IsFulfilled f_core AFunction (Const 0) → ⊥
no_function (h, run, is) = no_product (subst (Fulfils AFunction) (sym (head_is run.0 h run.1.reaches)) is)
  where
    no_product : Fulfils AFunction (Const 0) → ⊥
    no_product p = elim p [ ]

applied_unshaped : (s : Site) → IsShaped f_core s a_applied AType → ⊥
applied_unshaped s shape = no_function (shape.heads (Within.part Within.itself Part.function) WantsHead.a_function (RuleType.constant refl))

function_unshaped : (s : Site) → IsShaped f_core s (Const 1) AFunction → ⊥
function_unshaped s shape = no_function (shape.heads Within.itself WantsHead.a_function (RuleType.constant refl))

type_unshaped : (s : Site) → IsShaped f_core s (Const 1) AType → ⊥
type_unshaped s shape = not_fulfilled (shape.heads Within.itself WantsHead.a_type (RuleType.constant refl))

NotStated : Want → Type 0
NotStated w = (a : Core) → w ≡ Stated a → ⊥

-- what stands in the core and in the written type, and isn't the whole core
data Inner : Core → Want → Type 0 where
  value : {w : Want} → NotStated w → Inner (Const 1) w
  applied : Inner a_applied AType

nothing_stated : NotStated Nothing
unfolding NotStated
nothing_stated a e = cc

type_not_stated : NotStated AType
unfolding NotStated
type_not_stated a e = cc

function_not_stated : NotStated AFunction
unfolding NotStated
function_not_stated a e = cc

inner_not_stated : {n : Core} {w : Want} → Inner n w → NotStated w
inner_not_stated (value h) = h
inner_not_stated applied = type_not_stated

inner_value : (n : Core) (w : Want) → n ≡ Const 1 → NotStated w → Inner n w
inner_value n w e h = subst (λ z. Inner z w) (sym e) (value h)

put_value : {x : Binder} {m n : Core} → ◌≡◌ {A = Core} (Let x m n) local_a → instantiate n m ≡ Const 1
unfolding instantiate
put_value {m = m} {n = n} e =
    let is : Const 1 ≡ m = cc in
    let of : Var 0 ≡ n = cc in
    subst (λ z. instantiate n z ≡ Const 1) is (subst (λ z. instantiate z (Const 1) ≡ Const 1) of refl)

by_value : {x : Binder} {m n : Core} → ◌≡◌ {A = Core} (Let x m n) local_a → m ≡ Const 1
by_value e = cc

by_function : {k : Mark} {m n : Core} → ◌≡◌ {A = Core} (App k m n) a_applied → m ≡ Const 1
by_function e = cc

part_of_core : {s s' : Site} {n n' : Core} {w' : Want} {i : ℕ} → Part f_core s n Nothing i s' n' w' → n ≡ local_a → Inner n' w'
part_of_core Part.pi_domain e = cc
part_of_core Part.pi_body e = cc
part_of_core Part.lam_domain e = cc
part_of_core Part.lam_body e = cc
part_of_core Part.function e = cc
part_of_core (Part.argument r h) e = cc
part_of_core Part.sigma_domain e = cc
part_of_core Part.sigma_body e = cc
part_of_core Part.pair_domain e = cc
part_of_core Part.pair_body e = cc
part_of_core Part.pair_first e = cc
part_of_core Part.pair_second e = cc
part_of_core Part.fst_operand e = cc
part_of_core Part.snd_operand e = cc
part_of_core (Part.local_value {m = m}) e = inner_value m Nothing (by_value e) nothing_stated
part_of_core (Part.local_body {m = m} {n = n}) e = inner_value (instantiate n m) Nothing (put_value e) nothing_stated

part_of_applied : {s s' : Site} {n n' : Core} {w' : Want} {i : ℕ} → Part f_core s n Nothing i s' n' w' → n ≡ a_applied → AreShaped f_core s n Nothing i → Inner n' w'
part_of_applied Part.pi_domain e l = cc
part_of_applied Part.pi_body e l = cc
part_of_applied Part.lam_domain e l = cc
part_of_applied Part.lam_body e l = cc
part_of_applied (Part.function {m = m}) e l = inner_value m AFunction (by_function e) function_not_stated
part_of_applied (Part.argument {s = s} {m = m} r h) e l =
    absurd (function_unshaped s (subst (λ z. IsShaped f_core s z AFunction) (by_function e) (l.parts Part.function (omega arith))))
part_of_applied Part.sigma_domain e l = cc
part_of_applied Part.sigma_body e l = cc
part_of_applied Part.pair_domain e l = cc
part_of_applied Part.pair_body e l = cc
part_of_applied Part.pair_first e l = cc
part_of_applied Part.pair_second e l = cc
part_of_applied Part.fst_operand e l = cc
part_of_applied Part.snd_operand e l = cc
part_of_applied Part.local_value e l = cc
part_of_applied Part.local_body e l = cc

part_of_inner : {s s' : Site} {n n' : Core} {w w' : Want} {i : ℕ} → Inner n w → Part f_core s n Nothing i s' n' w' → AreShaped f_core s n Nothing i → Inner n' w'
part_of_inner (value h) p l = absurd (no_part p refl)
part_of_inner applied p l = part_of_applied p refl l

module _ (a : Core) (inner : Inner a AType) (bad : (s : Site) → IsShaped f_core s a AType → ⊥) where
  part_of : {s s' : Site} {n n' : Core} {w w' : Want} {i : ℕ} → (n ≡ local_a) ⊎ Inner n w → Part f_core s n Nothing i s' n' w' → AreShaped f_core s n Nothing i → Inner n' w'
  part_of (inl e) p l = part_of_core p e
  part_of (inr h) p l = part_of_inner h p l

  comes_to : {s : Site} {n : Core} {w : Want} → Comes (task_of f_core local_a (OfWrittenType a)) s n w → (n ≡ local_a) ⊎ Inner n w
  comes_to Comes.root = inl refl
  comes_to (Comes.written {a = b} e l) = let is : a ≡ b = cc e in inr (subst (λ z. Inner z AType) is inner)
  comes_to (Comes.part c p l) = inr (part_of (comes_to c) p l)

  not_compared : {s : Site} {n : Core} {w : Want} → IsReached (task_of f_core local_a (OfWrittenType a)) s n w → NotStated w
  not_compared (IsReached.root l written) = absurd (bad _ (written a refl))
  not_compared (IsReached.written e l k) = type_not_stated
  not_compared (IsReached.part c p l k) = inner_not_stated (part_of (comes_to c) p l)

nothing_before : {i : ℕ} (s : Site) (n : Core) → i ≡ 0 → AreShaped f_core s n Nothing i
nothing_before s n e = record { parts = λ p l. absurd (omega arith) }

pub written_types_are_checked_first : WrittenTypesAreCheckedFirst
unfolding NotStated
written_types_are_checked_first = (
  (
    (
      IsReached.part (Comes.written refl (local_parts f_core _ 1)) Part.function (nothing_before _ a_applied refl) (leaf f_core _ 1),
      WantsHead.a_function,
      RuleType.constant refl,
      no_function,
    ),
    λ s n stated r. not_compared a_applied applied applied_unshaped r stated refl,
  ),
  (
    (IsReached.written refl (local_parts f_core _ 1) (leaf f_core _ 1), WantsHead.a_type, RuleType.constant refl, not_fulfilled),
    λ s n stated r. not_compared (Const 1) (value type_not_stated) type_unshaped r stated refl,
  ),
)
