use Rattle.lego_parser.proofs.TreeLemmas.{no_spine, no_function}
use Rattle.lego_parser.proofs.machine.Machine.spine_of.Goals as goal

pub returns-in_default : goal.returns-in_default
returns-in_default g c =
    rw (c.no_arguments.ensures.function, c.no_arguments.ensures.arguments) (no_function c.args.function (no_spine c.args.function c.in_default.not-Apply))
