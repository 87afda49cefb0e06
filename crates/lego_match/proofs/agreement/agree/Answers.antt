use Rattle.lego_match.proofs.AgreementLemmas.{agrees_decides}
use Rattle.lego_match.proofs.agreement.agree.Goals as goal

pub returns : goal.returns
returns c = rw c.agree_by_node.ensures (agrees_decides c.args.a.now c.args.b.now)
