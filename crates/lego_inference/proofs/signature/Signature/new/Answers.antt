use Rattle.lego_inference.proofs.SignatureLemmas.{new_signature}
use Rattle.lego_inference.proofs.signature.Signature.new.Goals as goal

pub invariant_of-result : goal.invariant_of-result
invariant_of-result c = new_signature c.new.result.items c.new-2.result.keys c.new-3.result c.new.ensures.items c.new-2.ensures.empty c.new-3.ensures
