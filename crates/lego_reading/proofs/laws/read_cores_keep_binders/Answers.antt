use Rattle.lego_reading.proofs.CoreLemmas.{binders_are_kept}
use Rattle.lego_reading.proofs.laws.read_cores_keep_binders.Goals as goal

pub returns : goal.returns
returns c = binders_are_kept
