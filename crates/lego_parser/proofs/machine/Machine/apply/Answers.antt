use Rattle.std.proofs.Common.{◌∙◌}
use Rattle.lego_parser.proofs.TreeLemmas.{built-Apply}
use Rattle.lego_parser.proofs.machine.Machine.apply.Goals as goal

pub returns : goal.returns
returns g c =
    rw (c.in_ok-new.ensures, c.of.ensures) (built-Apply c.in_ok-spine.spine.function c.in_ok-spine.spine.arguments.items ∙ c.in_ok-spine.ensures.0)
