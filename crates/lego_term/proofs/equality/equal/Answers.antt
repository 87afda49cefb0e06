use Rattle.std.proofs.Common.{arith}
use Rattle.std.proofs.lemmas.Bool.{false≢true}
use Rattle.lego_term.proofs.AgreementLemmas.{equal_decides}
use Rattle.lego_term.proofs.DigestLemmas.{Equal-digest}
use Rattle.lego_term.proofs.equality.equal.Goals as goal

pub returns-then-digest : goal.returns-then-digest
returns-then-digest c = (λ h. absurd (false≢true h), λ e. absurd (omega (arith, Equal-digest c.args.a.now c.args.b.now e)))

pub returns : goal.returns
returns c = rw c.agree.ensures (equal_decides c.args.a.now c.args.b.now)
