use Rattle.std.proofs.Common.{arith}
use Rattle.lego_lexer.proofs.CutterLemmas.{fresh}
use Rattle.lego_lexer.proofs.cutter.Cutter.at.Goals as goal

pub returns-clause-stands : goal.returns-clause-stands
returns-clause-stands c = record { fed = omega arith; outside = λ h. fresh c.args.index 0 0 (λ k. absurd (omega (arith, k))); inside = λ h. absurd (omega (arith, h)) }
