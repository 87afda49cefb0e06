use Rattle.lego_term.specs.BodyMap.{AreClosed}
use Rattle.lego_match_tests.proofs.answers.chain.Given as goal

abbrev pub invariant-loop-number : goal.invariant-loop-number
invariant-loop-number l = AreClosed l.bodies
