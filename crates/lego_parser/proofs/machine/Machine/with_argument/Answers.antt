use Rattle.std.proofs.Common.{ap, ◌∙◌}
use Rattle.lego_grammar.specs.Written.{Written, Apply}
use Rattle.lego_parser.specs.private.Trees.{built}
use Rattle.lego_parser.proofs.TreeLemmas.{whole-last, spine-last}
use Rattle.lego_parser.proofs.machine.Machine.with_argument.Goals as goal

pub returns : goal.returns
returns g c =
    let f = built c.spine-function.result.function in
    let xs = c.spine-function.result.arguments.items in
    let same = ap (λ (w : Written). Apply c.args.mark w (built c.args.argument)) c.spine-function.ensures in
    rw c.in_ok-push.ensures.items (whole-last f xs c.args.mark c.args.argument ∙ same, spine-last f xs c.args.mark c.args.argument ∙ same)
