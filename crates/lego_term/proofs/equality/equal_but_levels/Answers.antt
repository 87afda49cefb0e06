use Rattle.std.proofs.Common.{arith}
use Rattle.std.proofs.lemmas.Bool.{false≢true}
use Rattle.lego_term.proofs.AgreementLemmas.{but_levels_decides}
use Rattle.lego_term.proofs.DigestLemmas.{EqualButLevels-digest}
use Rattle.lego_term.proofs.equality.equal_but_levels.Goals as goal

pub returns-then-lower_half : goal.returns-then-lower_half
returns-then-lower_half c =
    (λ h. absurd (false≢true h), λ e. absurd (omega (arith, EqualButLevels-digest c.args.a.now c.args.b.now e)))

pub returns : goal.returns
returns c = rw c.agree.ensures (but_levels_decides c.args.a.now c.args.b.now)
