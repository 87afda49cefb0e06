use Rattle.std.proofs.Common.{◌≡◌, take}
use Rattle.lego_context.specs.private.Kept.{places_from}
use Rattle.lego_context.proofs.context.copying.places_of.Given as goal

abbrev pub invariant-loop-at : goal.invariant-loop-at
invariant-loop-at l = l.places.entries ≡ places_from 0 (take l.at l.entries)
