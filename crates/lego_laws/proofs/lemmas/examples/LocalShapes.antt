-- The shape of a local definition, and where the check comes to one.
use Rattle.std.proofs.Common.{◌≡◌, ℕ, Bool, true, false, cond, nat_eq, option_map, option_and_then, List, [], None, Some, refl, sym, ◌∙◌, subst, arith}
use Rattle.lego_term.specs.declared.binder.Binder.{Binder}
use Rattle.lego_term.specs.declared.binder.Mark.TheVariants.{Plain}
use Rattle.lego_term.specs.Trees.{Core, Var, Const, Prop, Pi, App, Let, instantiate, loose}
use Rattle.lego_term.specs.Sequences.{HeadForm}
use Rattle.lego_laws.specs.Parallel.{AreClosed, valued}
use Rattle.lego_laws.specs.HeadForms.{PartsBelow}
use Rattle.lego_laws.specs.Entries.{Entry, core_bodies}
use Rattle.lego_laws.specs.RuleTypes.{RuleType}
use Rattle.lego_laws.specs.Places.{Want, Nothing, AFunction, Stated, OfType, OfWrittenType, Site, behind, RuleTypeAt, Part, WantsHead, Fulfils, IsFulfilled, BelowAtZero, bodies_at_zero, IsShaped, ArePartsShaped, Comes, IsReached}
use Rattle.lego_laws.specs.Examples.{nameless, f_core, local_a, LocalHasItsShape, two_core, LocalsAreCompared}
use Rattle.lego_laws.proofs.lemmas.reduction.Head.{head_forms_compare}
use Rattle.lego_laws.proofs.lemmas.principal.RuleTypesUnique.{one_rule_type}
use Rattle.lego_laws.proofs.lemmas.principal.ShapedParts.{parts_give_shapes}
use Rattle.lego_laws.proofs.lemmas.examples.ShapeExamples.{leaf, itself_below}

-- a constant of which nothing is wanted
pub constant_shaped : (es : List Entry) (s : Site) (n : Core) (k : ℕ) → n ≡ Const k → IsShaped es s n Nothing
constant_shaped es s n k e =
    subst (λ z. IsShaped es s z Nothing) (sym e)
    (parts_give_shapes es s (Const k) Nothing (leaf es s k) (λ h. no_head h) (λ stated have e r. absurd (not_stated e)))
  where
    no_head : {X : Type 0} → WantsHead Nothing → X
    no_head h = elim h [ ]

    not_stated : {a : Core} → Nothing ≡ Stated a → ⊥
    not_stated e = cc

-- the body with the value put in is the value
put_value : {k : ℕ} {x : Binder} {m n : Core} → ◌≡◌ {A = Core} (Let x m n) (Let nameless (Const k) (Var 0)) → instantiate n m ≡ Const k
unfolding instantiate
put_value {k = k} {m = m} {n = n} e =
    let is : Const k ≡ m = cc in
    let of : Var 0 ≡ n = cc in
    subst (λ z. instantiate n z ≡ Const k) is (subst (λ z. instantiate z (Const k) ≡ Const k) of refl)

-- the parts of `[y=c]y`, where nothing is wanted of the whole
local_part : {es : List Entry} {s s' : Site} {n n' : Core} {w' : Want} {i : ℕ} (k : ℕ) → Part es s n Nothing i s' n' w' → n ≡ Let nameless (Const k) (Var 0) → IsShaped es s' n' w'
local_part k Part.pi_domain e = cc
local_part k Part.pi_body e = cc
local_part k Part.lam_domain e = cc
local_part k Part.lam_body e = cc
local_part k Part.function e = cc
local_part k (Part.argument r h) e = cc
local_part k Part.sigma_domain e = cc
local_part k Part.sigma_body e = cc
local_part k Part.pair_domain e = cc
local_part k Part.pair_body e = cc
local_part k Part.pair_first e = cc
local_part k Part.pair_second e = cc
local_part k Part.fst_operand e = cc
local_part k Part.snd_operand e = cc
local_part k (Part.local_value {m = m}) e = constant_shaped _ _ m k cc
local_part k (Part.local_body {m = m} {n = n}) e = constant_shaped _ _ (instantiate n m) k (put_value e)

pub local_parts : (es : List Entry) (s : Site) (k : ℕ) → ArePartsShaped es s (Let nameless (Const k) (Var 0)) Nothing
local_parts es s k = record { parts = λ p l. local_part k p refl }

local_rule : (es : List Entry) (s : Site) (got : Core) → RuleTypeAt es s (Const 1) got → RuleTypeAt es s local_a got
unfolding instantiate
local_rule es s got r = RuleType.local (again r)
  where
    again : {n : ℕ} → RuleType es (λ i. i) s.types s.first (Const 1) got → RuleType es (λ i. i) s.types n (Const 1) got
    again (RuleType.constant p) = RuleType.constant p

abbrev site : Site
site = record { types = []; binders = []; first = 0 }

local_shaped : IsShaped f_core site local_a (Stated (Const 0))
local_shaped =
    parts_give_shapes f_core site local_a (Stated (Const 0)) (local_parts f_core site 1) (λ h. no_head h)
    (λ stated have e r. itself_below f_core have stated (one_rule_type r (local_rule f_core site (Const 0) (RuleType.constant refl)) ∙ stated_is e))
  where
    no_head : {b : Core} {X : Type 0} → WantsHead (Stated b) → X
    no_head h = elim h [ ]

    stated_is : {b c : Core} → Stated b ≡ Stated c → b ≡ c
    stated_is e = cc

pub local_has_its_shape : LocalHasItsShape
local_has_its_shape = record { core = local_shaped; written = λ a e. absurd (not_written e) }
  where
    not_written : {a b : Core} → OfType b ≡ OfWrittenType a → ⊥
    not_written e = cc

-- the function f of `f ([y=a]y)`
function_head : HeadForm (core_bodies two_core) (Pi nameless (Const 3) (Const 3)) (Pi nameless (Const 3) (Const 3))
function_head = (0, record { reaches = refl; last = refl })

function_shaped : (s : Site) → IsShaped two_core s (Const 2) AFunction
function_shaped s =
    parts_give_shapes two_core s (Const 2) AFunction (leaf two_core s 2)
    (λ h got r. subst (λ z. IsFulfilled two_core AFunction z) (one_rule_type (RuleType.constant refl) r) (Pi nameless (Const 3) (Const 3), function_head, Fulfils.a_function))
    (λ stated have e r. absurd (not_stated e))
  where
    not_stated : {a : Core} → AFunction ≡ Stated a → ⊥
    not_stated e = cc

-- what comes before the argument
before_argument : {s s' : Site} {n n' : Core} {w' : Want} {i : ℕ} → Part two_core s n Nothing i s' n' w' → i ≡ 0 → n ≡ App Plain (Const 2) local_a → IsShaped two_core s' n' w'
before_argument Part.pi_domain z e = cc
before_argument Part.pi_body z e = cc
before_argument Part.lam_domain z e = cc
before_argument Part.lam_body z e = cc
before_argument (Part.function {s = s} {m = m}) z e = let is : Const 2 ≡ m = cc in subst (λ y. IsShaped two_core s y AFunction) is (function_shaped s)
before_argument (Part.argument r h) z e = cc z
before_argument Part.sigma_domain z e = cc
before_argument Part.sigma_body z e = cc
before_argument Part.pair_domain z e = cc
before_argument Part.pair_body z e = cc
before_argument Part.pair_first z e = cc
before_argument Part.pair_second z e = cc
before_argument Part.fst_operand z e = cc
before_argument Part.snd_operand z e = cc
before_argument Part.local_value z e = cc
before_argument Part.local_body z e = cc

no_bodies : AreClosed (bodies_at_zero two_core)
no_bodies k t e = by_test (nat_eq 0 k) (nat_eq 3 k) (nat_eq 1 k) (nat_eq 2 k) e
  where
    entry : ℕ → Core → Entry
    entry = λ n a. record { number = n; name = None; mark = Plain; ty = a; body = None; hypotheses = 0; constraints = [] }

    by_test : (o p q r : Bool)
        → option_map (valued (λ l. 0)) (option_and_then (λ (c : Entry). c.body)
        (cond o (Some (entry 0 Prop)) (cond p (Some (entry 3 Prop)) (cond q (Some (entry 1 (Const 0))) (cond r (Some (entry 2 (Pi nameless (Const 3) (Const 3)))) None)))))
        ≡ Some t → loose t ≡ 0
    by_test true p q r e = cc
    by_test false true q r e = cc
    by_test false false true r e = cc
    by_test false false false true e = cc
    by_test false false false false e = cc

not_below : BelowAtZero two_core (Const 0) (Const 3) → ⊥
not_below p = no_parts ((head_forms_compare (bodies_at_zero two_core) no_bodies (Const 0) (Const 3) refl refl).0 p)
  where
    no_parts : PartsBelow (bodies_at_zero two_core) (Const 0) (Const 3) → ⊥
    no_parts p = elim p [ ]

pub locals_are_compared : LocalsAreCompared
locals_are_compared = (
  behind 0 site,
  IsReached.part Comes.root (Part.argument (RuleType.constant refl) function_head) (record { parts = λ p l. before_argument p (omega (arith, l)) refl }) (local_parts two_core (behind 0 site) 1),
  local_rule two_core (behind 0 site) (Const 0) (RuleType.constant refl),
  not_below,
)
