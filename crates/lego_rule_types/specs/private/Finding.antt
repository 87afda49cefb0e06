-- What the functions of a search answer of a term at a site. A tool of the proofs.
use Rattle.std.specs.Prelude.{◌≡◌, ℕ, ◌+◌, ◌≤◌, ◌⊎◌, List, Option, Some, None, Result, Ok, Err}
use Rattle.lego_term.specs.Levels.{variable_level}
use Rattle.lego_term.specs.Trees.{Core, Prop, Univ, Pi, Sigma}
use Rattle.lego_term.specs.Weight.{height, weight}
use Rattle.lego_term.specs.Parts.{IsTooLarge}
use Rattle.lego_term.specs.Sequences.{HeadForm, head_step, after, MoreThan}
use Rattle.lego_laws.specs.Entries.{Entry, core_bodies}
use Rattle.lego_laws.specs.Places.{Want, Fulfils, Site, RuleTypeAt}
use Rattle.lego_laws.specs.RuleTypes.{RuleType, nodes}
use Rattle.lego_inference.specs.declared.fault.TypeFault.{TypeFault}
use Rattle.lego_inference.specs.declared.fault.TypeFault.TheVariants.{Budget, TooLarge, Memory}
use Rattle.lego_inference.specs.Locals.{seen_at}
use Rattle.lego_inference.specs.private.Judging.{IsReady}
use Rattle.lego_rule_types.specs.declared.head.Former.{Former}
use Rattle.lego_rule_types.specs.Failures.{Stops}
use Rattle.lego_rule_types.specs.Calls.{HasNoRuleType}

-- a term at a site that can be looked at: it is measured, and its nodes have level variables
pub record IsPlaced (es : List Entry) (s : Site) (m : Core) : Type 0 where
  pub ready : IsReady es s m
  pub high : height m ≤ 2000
  pub heavy : weight m ≤ 1048576
  pub room : s.first + nodes m ≤ 1048576

-- the rule type of the term is found, or that it has none
abbrev pub Finds : List Entry → ℕ → Site → Core → Result (Option Core) TypeFault → Type 0
Finds es limit s m (Ok (Some a)) = RuleTypeAt es s m a
Finds es limit s m (Ok None) = HasNoRuleType es s.types m
Finds es limit s m (Err fault) = Stops es limit s m fault

-- the search for the head form of the rule type stops
pub data HeadStops (es : List Entry) (limit : ℕ) (s : Site) (m : Core) : TypeFault → Type 0 where
  part : {fault : TypeFault} → Stops es limit s m fault → HeadStops es limit s m fault
  budget : {left : Core} → RuleTypeAt es s m left → MoreThan (head_step (core_bodies es)) left limit → HeadStops es limit s m (Budget (seen_at s left) None)
  passed : {a u : Core} {size depth : ℕ} (i : ℕ)
      → RuleTypeAt es s m a → i ≤ limit → after (head_step (core_bodies es)) i a ≡ Some u → IsTooLarge u size depth → HeadStops es limit s m (TooLarge size depth)

-- the rule type of the term has this head form
pub record HasHead (es : List Entry) (s : Site) (m : Core) (h : Core) : Type 0 where
  pub ty : Core
  pub rule : RuleTypeAt es s m ty
  pub head : HeadForm (core_bodies es) ty h

-- the head form of the term's rule type is found, or that it has no rule type
abbrev pub FindsHead : List Entry → ℕ → Site → Core → Result (Option Core) TypeFault → Type 0
FindsHead es limit s m (Ok (Some h)) = HasHead es s m h
FindsHead es limit s m (Ok None) = HasNoRuleType es s.types m
FindsHead es limit s m (Err fault) = HeadStops es limit s m fault

abbrev pub product_tree : Former → Core
product_tree f = Pi f.binder f.domain f.body

abbrev pub sigma_tree : Former → Core
sigma_tree f = Sigma f.binder f.domain f.body

-- what is found is this head form, or the head form is not as wanted
abbrev pub IsIn : (Former → Core) → Want → Core → Result (Option Former) TypeFault → Type 0
IsIn tree w h (Ok (Some found)) = h ≡ tree found
IsIn tree w h (Ok None) = Fulfils w h → ⊥
IsIn tree w h (Err fault) = fault ≡ Memory

-- no rule type of the term has a head form that is as wanted
abbrev pub HasNoFormer : Want → List Entry → List Core → Core → Type 0
HasNoFormer w es types m =
    (v : ℕ → ℕ) (n : ℕ) (a h : Core) → RuleType es v types n m a → HeadForm (core_bodies es) a h → Fulfils w h → ⊥

-- the head form of the rule type is found, or no rule type has one that is as wanted
abbrev pub FindsFormer : (Former → Core) → Want → List Entry → ℕ → Site → Core → Result (Option Former) TypeFault → Type 0
FindsFormer tree w es limit s m (Ok (Some found)) = HasHead es s m (tree found)
FindsFormer tree w es limit s m (Ok None) = HasNoFormer w es s.types m
FindsFormer tree w es limit s m (Err fault) = HeadStops es limit s m fault

-- the rule type of a product whose body's rule type has this head form
abbrev pub IsSortOfProduct : Core → ℕ → Core → Type 0
IsSortOfProduct h node ty = ((h ≡ Prop) × (ty ≡ Prop)) ⊎ ((h ≡ Prop → ⊥) × (ty ≡ Univ (variable_level node)))
