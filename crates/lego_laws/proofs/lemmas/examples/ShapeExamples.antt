-- The shapes of an application with a written type, and of a function over no type.
use Rattle.std.proofs.Common.{◌≡◌, ℕ, zero, suc, List, [], Some, refl, sym, ◌∙◌, subst}
use Rattle.lego_term.specs.declared.binder.Mark.TheVariants.{Plain}
use Rattle.lego_term.specs.Trees.{Core, Var, Const, Prop, Pi, Lam, App, instantiate}
use Rattle.lego_term.specs.Steps.{Converts}
use Rattle.lego_term.specs.Below.{Below}
use Rattle.lego_term.specs.Sequences.{head_step, after, HeadForm}
use Rattle.lego_laws.specs.Entries.{Entry, core_bodies}
use Rattle.lego_laws.specs.RuleTypes.{RuleType}
use Rattle.lego_laws.specs.Places.{Want, Nothing, AType, AFunction, Stated, OfWrittenType, want_of, Site, RuleTypeAt, Part, Within, Task, WantsHead, Fulfils, IsFulfilled, BelowAtZero, IsShaped, ArePartsShaped}
use Rattle.lego_laws.specs.Examples.{nameless, f_core, ApplicationHasItsShape, DomainsMustBeTypes}
use Rattle.lego_laws.proofs.lemmas.principal.RuleTypesUnique.{one_rule_type, one_head, pi_parts}
use Rattle.lego_laws.proofs.lemmas.examples.ShapeExample.{no_part}
use Rattle.lego_laws.proofs.lemmas.principal.ShapedParts.{parts_give_shapes}

-- a constant has no parts
pub leaf : (es : List Entry) (s : Site) (k : ℕ) → ArePartsShaped es s (Const k) Nothing
leaf es s k = record { parts = λ p l. absurd (no_part p refl) }

pub itself_below : (es : List Entry) (a b : Core) → a ≡ b → BelowAtZero es a b
itself_below es a b e = subst (λ z. BelowAtZero es a z) e (Below.converts Converts.same)

site : Site
site = record { types = []; binders = []; first = 0 }

-- what the head form of f's type is
function_head : HeadForm (core_bodies f_core) (Pi nameless (Const 0) (Const 0)) (Pi nameless (Const 0) (Const 0))
function_head = (0, record { reaches = refl; last = refl })

function_shaped : (s : Site) → IsShaped f_core s (Const 2) AFunction
function_shaped s =
    parts_give_shapes f_core s (Const 2) AFunction (leaf f_core s 2)
    (λ h got r. subst (λ z. IsFulfilled f_core AFunction z) (one_rule_type (RuleType.constant refl) r) (Pi nameless (Const 0) (Const 0), function_head, Fulfils.a_function))
    (λ stated have e r. absurd (not_stated e))
  where
    not_stated : {a : Core} → AFunction ≡ Stated a → ⊥
    not_stated e = cc

argument_shaped : (s : Site) (a : Core) → a ≡ Const 0 → IsShaped f_core s (Const 1) (Stated a)
argument_shaped s a is =
    parts_give_shapes f_core s (Const 1) (Stated a) (leaf f_core s 1) (λ h. no_head h)
    (λ stated have e r. itself_below f_core have stated (one_rule_type r (RuleType.constant refl) ∙ sym is ∙ stated_is e))
  where
    no_head : {b : Core} {X : Type 0} → WantsHead (Stated b) → X
    no_head h = elim h [ ]

    stated_is : {b c : Core} → Stated b ≡ Stated c → b ≡ c
    stated_is e = cc

type_shaped : (s : Site) → IsShaped f_core s (Const 0) AType
type_shaped s =
    parts_give_shapes f_core s (Const 0) AType (leaf f_core s 0)
    (λ h got r. subst (λ z. IsFulfilled f_core AType z) (one_rule_type (RuleType.constant refl) r) (Prop, (0, record { reaches = refl; last = refl }), Fulfils.a_prop))
    (λ stated have e r. absurd (not_stated e))
  where
    not_stated : {a : Core} → AType ≡ Stated a → ⊥
    not_stated e = cc

-- the parts of `f a`
part_shaped : {s s' : Site} {n n' : Core} {w w' : Want} {i : ℕ} → Part f_core s n w i s' n' w' → n ≡ App Plain (Const 2) (Const 1) → IsShaped f_core s' n' w'
part_shaped Part.pi_domain e = cc
part_shaped Part.pi_body e = cc
part_shaped Part.lam_domain e = cc
part_shaped Part.lam_body e = cc
part_shaped Part.sigma_domain e = cc
part_shaped Part.sigma_body e = cc
part_shaped Part.pair_domain e = cc
part_shaped Part.pair_body e = cc
part_shaped Part.pair_first e = cc
part_shaped Part.pair_second e = cc
part_shaped Part.fst_operand e = cc
part_shaped Part.snd_operand e = cc
part_shaped Part.local_value e = cc
part_shaped Part.local_body e = cc
part_shaped (Part.function {s = s} {m = m}) e = let is : Const 2 ≡ m = cc in subst (λ z. IsShaped f_core s z AFunction) is (function_shaped s)
part_shaped (Part.argument {s = s} {k = k} {x = x} {m = m} {n = n} {a = a} {b = b} {t = t} r h) e = argument_at e r h
  where
    argument_at : {m n t : Core} {s' : Site} → ◌≡◌ {A = Core} (App k m n) (App Plain (Const 2) (Const 1)) → RuleTypeAt f_core s m t → HeadForm (core_bodies f_core) t (Pi x a b) → IsShaped f_core s' n (Stated a)
    argument_at {m} {n} {t} {s'} e r h =
        let im : m ≡ Const 2 = cc in
        let is : Const 1 ≡ n = cc in
        let rule : RuleTypeAt f_core s (Const 2) t = subst (λ z. RuleTypeAt f_core s z t) im r in
        let type_is = one_rule_type rule (RuleType.constant refl) in
        let head : HeadForm (core_bodies f_core) (Pi nameless (Const 0) (Const 0)) (Pi x a b) = subst (λ z. HeadForm (core_bodies f_core) z (Pi x a b)) type_is h in
        subst (λ z. IsShaped f_core s' z (Stated a)) is (argument_shaped s' a (pi_parts (one_head refl head function_head)).0)

whole_type : {got : Core} → RuleTypeAt f_core site (App Plain (Const 2) (Const 1)) got → got ≡ Const 0
unfolding instantiate
whole_type r = one_rule_type r (RuleType.application (RuleType.constant refl) function_head)

core_shaped : IsShaped f_core site (App Plain (Const 2) (Const 1)) (Stated (Const 0))
core_shaped =
    parts_give_shapes f_core site (App Plain (Const 2) (Const 1)) (Stated (Const 0)) (record { parts = λ p l. part_shaped p refl }) (λ h. no_head h)
    (λ stated have e r. itself_below f_core have stated (whole_type r ∙ stated_is e))
  where
    no_head : {b : Core} {X : Type 0} → WantsHead (Stated b) → X
    no_head h = elim h [ ]

    stated_is : {b c : Core} → Stated b ≡ Stated c → b ≡ c
    stated_is e = cc

abbrev task : Task
task = record { entries = f_core; site = site; core = App Plain (Const 2) (Const 1); aim = OfWrittenType (Const 0) }

written_shaped : (a : Core) → OfWrittenType (Const 0) ≡ OfWrittenType a → (s : Site) → IsShaped f_core s a AType
written_shaped a e s = let is : Const 0 ≡ a = cc in subst (λ z. IsShaped f_core s z AType) is (type_shaped s)

pub application_has_its_shape : ApplicationHasItsShape
application_has_its_shape = (task, refl, refl, refl, record { core = core_shaped; written = λ a e. written_shaped a e _ })

-- a head form of the constant A is A
pub head_is : (n : ℕ) (h : Core) → after (head_step (core_bodies f_core)) n (Const 0) ≡ Some h → Const 0 ≡ h
head_is zero h e = cc
head_is (suc n) h e = cc

pub not_fulfilled : IsFulfilled f_core AType (Const 0) → ⊥
not_fulfilled (h, run, is) = no_sort (subst (Fulfils AType) (sym (head_is run.0 h run.1.reaches)) is)
  where
    no_sort : Fulfils AType (Const 0) → ⊥
    no_sort p = elim p [ ]

no_shape : (s : Site) (w : Want) → IsShaped f_core s (Lam nameless (Const 1) (Var 0)) w → ⊥
no_shape s w shape = not_fulfilled (shape.heads (Within.part Within.itself Part.lam_domain) WantsHead.a_type (RuleType.constant refl))

pub domains_must_be_types : DomainsMustBeTypes
domains_must_be_types t es core shape =
    no_shape t.site (want_of t.aim) (subst (λ z. IsShaped f_core t.site z (want_of t.aim)) core (subst (λ z. IsShaped z t.site t.core (want_of t.aim)) es shape.core))
