use Rattle.std.proofs.Common.{◌≡◌, not, true, sym, ap, ◌∙◌}
use Rattle.std.proofs.lemmas.Bool.{ne_eqb}
use lib.Dec.{eqb}
use Rattle.lego_grammar.specs.Written.{Project}
use Rattle.lego_grammar.specs.private.Machine.{keep}
use Rattle.lego_parser.specs.private.Trees.{built}
use Rattle.lego_parser.specs.private.Frames.{post_of}
use Rattle.lego_parser.proofs.TreeLemmas.{run-last}
use Rattle.lego_parser.proofs.machine.Machine.project.Goals as goal

pub returns : goal.returns
returns g c =
    let building : not (eqb g.row.BUILDING 0) ≡ true = ap not (ne_eqb g.row.BUILDING 0 c.if-not-this.false) in
    rw c.in_ok-push.ensures.items
    (run-last (built c.run-of.result.of) c.run-of.result.parts.items c.args.part ∙ ap (λ w. Project c.args.part w) c.run-of.ensures
    ∙ ap (λ b. keep b (Project c.args.part (post_of c.args.post))) (sym building))
