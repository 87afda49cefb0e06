-- Small statements on local definitions and on a pair.
use Rattle.std.proofs.Common.{◌≡◌, Bool, true, false, cond, nat_eq, option_and_then, [], ◌∷◌, None, Some, refl}
use Rattle.lego_term.specs.Trees.{Term, Var, Const, Prop, Univ, Pi, Lam, App, Pair, Let, instantiate, loose}
use Rattle.lego_term.specs.Steps.{Contracts, Step}
use Rattle.lego_term.specs.Below.{Below}
use Rattle.lego_laws.specs.Parallel.{AreClosed}
use Rattle.lego_laws.specs.HeadForms.{PartsBelow}
use Rattle.lego_laws.specs.Entries.{Constant, bodies_of}
use Rattle.lego_laws.specs.Derivations.{types_of}
use Rattle.lego_laws.specs.Judgement.{Valid, Has}
use Rattle.lego_laws.specs.RuleTypes.{RuleType}
use Rattle.lego_laws.specs.Examples.{a_prop, LocalIsTyped, LocalContracts, RuleTypeOfLocal, member, PairIsTyped}
use Rattle.lego_laws.proofs.lemmas.reduction.Head.{head_forms_compare}
use Rattle.lego_laws.proofs.lemmas.typing.Inversion.{generation}
use Rattle.lego_laws.proofs.lemmas.typing.Rules.{derived}

a_valid : Valid a_prop []
a_valid = Valid.grow_constant (Has.ax Valid.empty) refl

a_typed : Has a_prop [] (Const 0) (Univ 0)
a_typed = Has.cumulative (Has.constant a_valid refl) (Has.universe a_valid) Below.prop

body_typed : Has a_prop [] (instantiate (Lam tt (Var 0) (Var 0)) (Const 0)) (Pi tt (Const 0) (Const 0))
unfolding instantiate
body_typed = Has.lambda (Has.variable (Valid.grow_variable a_typed) refl)

no_body_loose : AreClosed (bodies_of a_prop)
no_body_loose k t e = by_test (nat_eq 0 k) e
  where
    by_test : (o : Bool) → option_and_then (λ (c : Constant). c.body) (cond o (Some (record { number = 0; ty = Prop; body = None })) None) ≡ Some t → loose t ≡ 0
    by_test true e = cc
    by_test false e = cc

none_below : (a r : Term) → Below (bodies_of a_prop) Prop (Pi tt a r) → ⊥
none_below a r p = no_parts ((head_forms_compare (bodies_of a_prop) no_body_loose Prop (Pi tt a r) refl refl).0 p)
  where
    no_parts : {a r : Term} → PartsBelow (bodies_of a_prop) Prop (Pi tt a r) → ⊥
    no_parts p = elim p [ ]

ill_typed : (q : Term) → Has a_prop [] (Let tt (App tt (Const 0) (Const 0)) Prop) q → ⊥
ill_typed q d =
    let z = generation (derived d).0 in
    let f = generation z.2 in
    let c = generation f.2 in
    let is : Prop ≡ c.0 = type_is c.0 c.1 in
    none_below f.0 f.1 (rw (← is) at c.2)
  where
    type_is : (a : Term) → types_of a_prop 0 ≡ Some a → Prop ≡ a
    type_is a e = cc

pub local_is_typed : LocalIsTyped
local_is_typed = (Has.local a_typed body_typed, ill_typed)

pub local_contracts : LocalContracts
unfolding instantiate
local_contracts = (λ b. Step.here Contracts.local, refl)

pub rule_type_of_local : RuleTypeOfLocal
unfolding instantiate
rule_type_of_local = (RuleType.local (RuleType.lambda (RuleType.variable refl)), refl)

-- a pair of a proposition and of what it has
member_valid : Valid member []
member_valid = Valid.grow_constant a_typed refl

first_typed : Has member [] (Const 0) Prop
first_typed = Has.constant member_valid refl

second_typed : Has member [] (Const 1) (instantiate (Var 0) (Const 0))
unfolding instantiate
second_typed = Has.constant member_valid refl

body_sorted : Has member (Prop ∷ []) (Var 0) (Univ 0)
body_sorted =
    let v = Valid.grow_variable (Has.ax member_valid) in
    Has.cumulative (Has.variable v refl) (Has.universe v) Below.prop

no_body_of_two : AreClosed (bodies_of member)
no_body_of_two k t e = by_test (nat_eq 1 k) (nat_eq 0 k) e
  where
    by_test : (o p : Bool) → option_and_then (λ (c : Constant). c.body) (cond o (Some (record { number = 1; ty = Const 0; body = None })) (cond p (Some (record { number = 0; ty = Prop; body = None })) None)) ≡ Some t → loose t ≡ 0
    by_test true p e = cc
    by_test false true e = cc
    by_test false false e = cc

second_stated : (a : Term) → Prop ≡ a → Below (bodies_of member) a (instantiate (Var 0) (Const 0)) → ⊥
unfolding instantiate
second_stated a e p = no_parts ((head_forms_compare (bodies_of member) no_body_of_two Prop (Const 0) refl refl).0 (rw (← e) at p))
  where
    no_parts : PartsBelow (bodies_of member) Prop (Const 0) → ⊥
    no_parts p = elim p [ ]

ill_paired : (q : Term) → Has member [] (Pair tt Prop (Var 0) (Const 0) (Const 0)) q → ⊥
ill_paired q d =
    let z = generation (derived d).0 in
    let c = generation z.5 in
    second_stated c.0 (type_is c.0 c.1) c.2
  where
    type_is : (a : Term) → types_of member 0 ≡ Some a → Prop ≡ a
    type_is a e = cc

pub pair_is_typed : PairIsTyped
pair_is_typed = (Has.pair first_typed second_typed body_sorted, RuleType.pair, ill_paired)
