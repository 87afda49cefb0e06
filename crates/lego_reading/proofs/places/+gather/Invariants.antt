use Rattle.std.proofs.Common.{◌≡◌, take}
use Rattle.lego_reading.specs.Universes.{with_places}
use Rattle.lego_reading.proofs.UniverseLemmas.{argument_places}
use Rattle.lego_reading.proofs.places.+gather.Given as goal

abbrev pub invariant-loop-argument : goal.invariant-loop-argument
invariant-loop-argument l = l.places.items ≡ with_places l.initial.places.items (argument_places (take l.argument-index l.argument-items))
