use Rattle.lego_term.proofs.WeightLemmas as lemma
use Rattle.lego_term.proofs.weight.locals_count_instances.Goals as goal

pub returns : goal.returns
returns c = lemma.locals_count_instances
