use Rattle.std.proofs.Common.{◌≡◌, ◌+◌, ℕ, List, ◌++◌, take}
use Rattle.lego_lexer.specs.Cutter.{Stands}
use Rattle.lego_lexer.proofs.cutter.Cutter.scan.Given as goal

-- so many bytes of the piece were taken, and no command has ended
abbrev pub invariant-loop-index : goal.invariant-loop-index
invariant-loop-index l = record {
  fed : l.self.fed ≡ l.fn.self.fed + l.index;
  stands : (from : ℕ) (bytes : List ℕ) → Stands l.fn.self from bytes → Stands l.self from (bytes ++ take l.index l.piece);
}
