use Rattle.lego_match.proofs.AnswerLemmas.{answers_are_one}
use Rattle.lego_match.proofs.laws.answers_are_one.Goals as goal

pub returns : goal.returns
returns c = answers_are_one
