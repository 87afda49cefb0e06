use Rattle.std.proofs.Common.{◌≡◌, take}
use Rattle.lego_term.specs.BodyMap.{bodies_in}
use Rattle.lego_laws.specs.Entries.{core_bodies}
use Rattle.lego_inference.specs.Entries.{laws_entries, numbers_of}
use Rattle.lego_inference.proofs.signature.Signature.of.Given as goal

abbrev pub invariant-loop-entry : goal.invariant-loop-entry
invariant-loop-entry l = record {
  numbers : l.numbers.keys ≡ numbers_of (take l.entry-index l.entry-items);
  bodies : bodies_in l.bodies ≡ core_bodies (laws_entries (take l.entry-index l.entry-items));
}
