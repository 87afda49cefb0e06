use Rattle.std.proofs.Common.{◌≡◌, take}
use Rattle.lego_reading.specs.Universes.{with_universes}
use Rattle.lego_reading.proofs.call.add_universes.Given as goal

abbrev pub invariant-loop-place : goal.invariant-loop-place
invariant-loop-place l = l.context ≡ with_universes l.fn.context (take l.place-index l.places)
