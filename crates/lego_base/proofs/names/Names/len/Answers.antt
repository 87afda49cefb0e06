use Rattle.std.proofs.Common.{subst}
use Rattle.lego_base.specs.Names.{AreDistinct}
use Rattle.lego_base.proofs.NamesLemmas.{distinct_texts}
use Rattle.lego_base.proofs.names.Names.len.Goals as goal

pub returns-clause-distinct : goal.returns-clause-distinct
returns-clause-distinct c = subst AreDistinct c.self.view_is (distinct_texts (λ k. k.items) c.self.inside.texts.keys c.len.ensures.unique)
