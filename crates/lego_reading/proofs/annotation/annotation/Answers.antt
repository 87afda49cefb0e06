use Rattle.std.proofs.Common.{ap, arith}
use Rattle.lego_term.specs.Trees.{Core, loose}
use Rattle.lego_inference.specs.Entries.{laws_entries}
use Rattle.lego_reading.proofs.AnnotationLemmas.{annotates_itself, shared_annotates}
use Rattle.lego_reading.proofs.annotation.annotation.Goals as goal

pub returns-in-Sigma : goal.returns-in-Sigma
returns-in-Sigma c =
    let es = laws_entries c.args.setting.now.context.now.entries in
    let limit = c.args.setting.now.limit in
    let e = ap (λ (t : Core). loose t) c.in-Sigma.ensures.root in
    shared_annotates es limit c.args.scope.now c.args.ty.now c.in-Sigma.binder c.in-Sigma.first.now c.in-Sigma.second.now c.shared.result
    (annotates_itself es limit c.args.scope.now c.args.ty.now c.in-Sigma.binder c.in-Sigma.first.now c.in-Sigma.second.now c.in-Sigma.ensures.root)
    (omega (arith, c.requires.within)) c.shared.ensures.ok c.shared.ensures.err
