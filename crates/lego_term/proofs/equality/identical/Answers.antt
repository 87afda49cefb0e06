use Rattle.std.proofs.Common.{ap, arith}
use Rattle.std.proofs.lemmas.Bool.{false≢true}
use Rattle.lego_term.specs.private.Digest.{digest}
use Rattle.lego_term.proofs.AgreementLemmas.{identical_decides}
use Rattle.lego_term.proofs.equality.identical.Goals as goal

pub returns-then-digest : goal.returns-then-digest
returns-then-digest c = (λ h. absurd (false≢true h), λ e. absurd (omega (arith, ap digest e)))

pub returns : goal.returns
returns c = rw c.agree.ensures (identical_decides c.args.a.now c.args.b.now)
