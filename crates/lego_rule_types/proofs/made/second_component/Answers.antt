use Rattle.lego_inference.specs.private.Judging.{MakingFails}
use Rattle.lego_rule_types.proofs.made.second_component.Goals as goal

pub returns-in_default : goal.returns-in_default
returns-in_default c = MakingFails.memory
