use Rattle.lego_words.proofs.LawLemmas.{one_meaning}
use Rattle.lego_words.proofs.laws.one_meaning.Goals as goal

pub returns : goal.returns
returns c = one_meaning
