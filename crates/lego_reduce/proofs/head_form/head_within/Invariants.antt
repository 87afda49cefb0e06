use Rattle.std.proofs.Common.{◌-◌}
use Rattle.lego_reduce.specs.private.Frames.{plug, IsHead}
use Rattle.lego_reduce.proofs.HeadLemmas.{Reached}
use Rattle.lego_reduce.proofs.head_form.head_within.Given as goal

abbrev pub invariant-machine : goal.invariant-machine
invariant-machine l = Reached l.bodies l.t l.limit l.steps (plug l.frames.items l.inner) × IsHead l.inner

abbrev pub decreases-machine : goal.decreases-machine
decreases-machine l = l.limit - l.steps
