use Rattle.lego_words.proofs.LawLemmas.{one_usage}
use Rattle.lego_words.proofs.laws.one_usage.Goals as goal

pub returns : goal.returns
returns c = one_usage
