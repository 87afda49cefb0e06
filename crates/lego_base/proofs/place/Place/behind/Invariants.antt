use Rattle.std.proofs.Common.{◌≡◌, ◌+◌, ◌≤◌, take}
use Rattle.lego_base.specs.Place.{behind}
use Rattle.lego_base.proofs.place.Place.behind.Given as goal

abbrev pub invariant-loop-byte : goal.invariant-loop-byte
invariant-loop-byte l = record {
  there : behind l.fn.self (take l.byte-index l.bytes) ≡ record { line = l.line; column = l.column };
  lines : l.line ≤ l.fn.self.line + l.byte-index;
  columns : l.column ≤ l.fn.self.column + l.byte-index;
}
