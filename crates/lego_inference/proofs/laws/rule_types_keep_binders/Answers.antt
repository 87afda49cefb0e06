use Rattle.std.proofs.Common.{◌+◌, IsTrue, arith}
use Rattle.lego_laws.specs.RuleTypes.{nodes}
use Rattle.lego_inference.proofs.RuleTypeParts.{rule_type_parts}
use Rattle.lego_inference.proofs.laws.rule_types_keep_binders.Goals as goal

pub returns : goal.returns
returns c =
    λ test es s m a in_entries types each rule.
    rule_type_parts (λ kind x. IsTrue (test kind x)) (λ k. Unit {0}) (λ l. Unit {0}) es in_entries tt (λ i. i) (s.first + nodes m) (λ i le. tt) (omega arith) types each rule
