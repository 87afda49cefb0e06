use Rattle.lego_parser.specs.private.Trees.{built}
use Rattle.lego_parser.proofs.TreeLemmas.{no_run, no_operand}
use Rattle.lego_parser.proofs.machine.Machine.run_of.Goals as goal

pub returns-in_default : goal.returns-in_default
returns-in_default g c =
    no_operand c.args.of (built c.post.result.of) c.post.result.parts.items (no_run c.args.of c.in_default.not-Project) c.post.ensures
