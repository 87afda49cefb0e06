use Rattle.std.proofs.Common.{refl}
use Rattle.lego_term.specs.private.Digest.{level_digest}
use Rattle.lego_term.proofs.digest.level_digest.Goals as goal

pub returns : goal.returns
unfolding level_digest
returns c = rw (c.mix.ensures, c.base_number.ensures, c.from.ensures) refl
