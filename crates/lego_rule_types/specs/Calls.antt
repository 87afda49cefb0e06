-- What the call answers.
use Rattle.std.specs.Prelude.{◌≡◌, ℕ, ◌+◌, List, [], Option, Some, None, Result, Ok, Err}
use Rattle.lego_term.specs.Trees.{Core}
use Rattle.lego_laws.specs.Entries.{Entry}
use Rattle.lego_laws.specs.Places.{Site, RuleTypeAt}
use Rattle.lego_laws.specs.RuleTypes.{RuleType, nodes}
use Rattle.lego_inference.specs.declared.entry.At.{At}
use Rattle.lego_inference.specs.declared.entry.Judged.{Judged}
use Rattle.lego_inference.specs.declared.fault.TypeFault.{TypeFault}
use Rattle.lego_inference.specs.Locals.{IsOver}
use Rattle.lego_rule_types.specs.Failures.{HasRoom, RuleTypeFails}

-- The type is the rule type, where each node has the level variable of its own number; it is over the entries, the locals and the
-- level variables answered, which are those held and one for each node, at most 1,048,576 (`HasRoom`); and there are no constraints.
pub record IsRuleType (es : List Entry) (s : Site) (m : Core) (judged : Judged) : Type 0 where
  pub rule : RuleTypeAt es s m judged.ty
  pub over : IsOver es s.types judged.levels judged.ty
  pub unconstrained : judged.constraints ≡ []
  pub room : HasRoom s m
  pub count : judged.levels ≡ s.first + nodes m

-- the term has no rule type below these local types, whatever the numbers of its nodes
abbrev pub HasNoRuleType : List Entry → List Core → Core → Type 0
HasNoRuleType es types m = (w : ℕ → ℕ) (n : ℕ) (a : Core) → RuleType es w types n m a → ⊥

abbrev pub FindsRuleType : List Entry → Site → Core → At → Result (Option Judged) TypeFault → Type 0
FindsRuleType es s m asked (Ok (Some judged)) = IsRuleType es s m judged
FindsRuleType es s m asked (Ok None) = HasRoom s m × HasNoRuleType es s.types m
FindsRuleType es s m asked (Err fault) = RuleTypeFails es asked.limit s m fault
