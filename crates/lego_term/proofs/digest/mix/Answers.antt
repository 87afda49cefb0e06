use Rattle.std.proofs.Common.{refl}
use Rattle.lego_term.specs.private.Digest.{mixed}
use Rattle.lego_term.proofs.digest.mix.Goals as goal

pub returns : goal.returns
unfolding mixed
returns c = refl
