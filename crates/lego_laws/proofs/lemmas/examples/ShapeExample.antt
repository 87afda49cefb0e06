-- A core has its shape: over `A : Prop` the constant A, where a type is wanted.
use Rattle.std.proofs.Common.{◌≡◌, ℕ, List, [], Some, refl, ap, sym, subst}
use Rattle.lego_term.specs.Trees.{Core, Const, Prop}
use Rattle.lego_laws.specs.Entries.{Entry, entry_of}
use Rattle.lego_laws.specs.RuleTypes.{RuleType}
use Rattle.lego_laws.specs.Places.{Want, AType, Stated, BeAType, OfWrittenType, Site, Part, Within, Task, Fulfils, IsFulfilled, HasShape}
use Rattle.lego_laws.specs.Examples.{a_core, ConstantHasItsShape}

abbrev task : Task
task = record { entries = a_core; site = record { types = []; binders = []; first = 0 }; core = Const 0; aim = BeAType }

-- a constant has no parts
pub no_part : {es : List Entry} {s s' : Site} {m n : Core} {w w' : Want} {i k : ℕ} → Part es s m w i s' n w' → m ≡ Const k → ⊥
no_part Part.pi_domain e = cc
no_part Part.pi_body e = cc
no_part Part.lam_domain e = cc
no_part Part.lam_body e = cc
no_part Part.function e = cc
no_part (Part.argument r h) e = cc
no_part Part.sigma_domain e = cc
no_part Part.sigma_body e = cc
no_part Part.pair_domain e = cc
no_part Part.pair_body e = cc
no_part Part.pair_first e = cc
no_part Part.pair_second e = cc
no_part Part.fst_operand e = cc
no_part Part.snd_operand e = cc
no_part Part.local_value e = cc
no_part Part.local_body e = cc

only_root : {s : Site} {n : Core} {w : Want} → Within a_core task.site task.core AType s n w → (n ≡ Const 0) × (w ≡ AType)
only_root Within.itself = (refl, refl)
only_root (Within.part h p) = absurd (no_part p (only_root h).0)

is_fulfilled : (w : Want) (got : Core) → w ≡ AType → got ≡ Prop → IsFulfilled a_core w got
is_fulfilled w got e f =
    subst (λ v. IsFulfilled a_core v got) (sym e)
    (subst (λ g. IsFulfilled a_core AType g) (sym f) (Prop, (0, record { reaches = refl; last = refl }), Fulfils.a_prop))

type_of_a : (k : ℕ) (e : Entry) → ◌≡◌ {A = Core} (Const k) (Const 0) → entry_of a_core k ≡ Some e → e.ty ≡ Prop
type_of_a k e is found =
    let zero_is : k ≡ 0 = cc is in
    let at_zero : entry_of a_core 0 ≡ Some e = subst (λ n. entry_of a_core n ≡ Some e) zero_is found in
    ap (λ (y : Entry). y.ty) (some_is (sym at_zero))
  where
    some_is : {x y : Entry} → Some x ≡ Some y → x ≡ y
    some_is q = cc

rule_of_a : {g : List Core} {i : ℕ} {n got : Core} → RuleType a_core (λ i. i) g i n got → n ≡ Const 0 → got ≡ Prop
rule_of_a (RuleType.variable p) e = cc
rule_of_a (RuleType.constant {k = k} {e = x} p) e = type_of_a k x e p
rule_of_a RuleType.prop e = cc
rule_of_a RuleType.universe e = cc
rule_of_a (RuleType.pi_prop r h) e = cc
rule_of_a (RuleType.pi_type r h d) e = cc
rule_of_a RuleType.sigma e = cc
rule_of_a (RuleType.lambda r) e = cc
rule_of_a (RuleType.application r h) e = cc
rule_of_a RuleType.pair e = cc
rule_of_a (RuleType.local r) e = cc
rule_of_a (RuleType.first r h) e = cc
rule_of_a (RuleType.second r h) e = cc

not_stated : {a : Core} → Stated a ≡ AType → ⊥
not_stated e = cc

not_written : {a : Core} → BeAType ≡ OfWrittenType a → ⊥
not_written e = cc

shape : HasShape task
shape = record {
  core = record {
    heads = λ {s'} {n'} {got} {w'} h k r. is_fulfilled w' got (only_root h).1 (rule_of_a r (only_root h).0);
    pairs = λ h r. absurd (not_stated (only_root h).1);
  };
  written = λ a e. absurd (not_written e);
}

pub constant_has_its_shape : ConstantHasItsShape
constant_has_its_shape = (task, refl, refl, refl, shape)
