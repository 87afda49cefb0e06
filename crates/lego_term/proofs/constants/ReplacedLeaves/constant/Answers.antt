use Rattle.lego_term.proofs.ConstantLemmas.{body_stands}
use Rattle.lego_term.proofs.constants.ReplacedLeaves.constant.Goals as goal

pub returns-in_ok-share-in-Some : goal.returns-in_ok-share-in-Some
returns-in_ok-share-in-Some c =
    body_stands c.args.self.now.bodies.now c.args.number c.in-Some.body.now c.in_ok-share-in-Some.field-0 c.in-Some.ensures c.in_ok-share-in-Some.ensures.same c.share.ensures.limits
