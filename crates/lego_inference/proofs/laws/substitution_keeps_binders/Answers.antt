use Rattle.std.proofs.Common.{IsTrue}
use Rattle.lego_inference.proofs.PartLemmas.{parts-instantiate}
use Rattle.lego_inference.proofs.laws.substitution_keeps_binders.Goals as goal

pub returns : goal.returns
returns c = λ test m n h g. parts-instantiate (λ kind x. IsTrue (test kind x)) (λ k. Unit {0}) (λ l. Unit {0}) m n h g
