use Rattle.lego_term.specs.Trees.{Var}
use Rattle.lego_term.proofs.SubstLemmas.{put-here, lift_rebuilds}
use Rattle.lego_term.proofs.substitution.SubstitutedLeaves.variable.Goals as goal

pub returns-then-index-under-2 : goal.returns-then-index-under-2
returns-then-index-under-2 c =
    let value = c.args.self.now.value.now in
    let here = put-here c.args.under c.args.index value c.if-index-under-2.true in
    lift_rebuilds c.args.under value (Var c.args.index) c.lift_within.result here c.requires.ready c.lift_within.ensures.ok c.lift_within.ensures.err
