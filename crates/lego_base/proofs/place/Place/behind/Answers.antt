use Rattle.std.proofs.Common.{arith}
use Rattle.std.proofs.lemmas.List.{take_more}
use Rattle.lego_base.proofs.PlaceLemmas.{behind-append, past-newline, past-other}
use Rattle.lego_base.proofs.place.Place.behind.Goals as goal
use Rattle.lego_base.proofs.place.Place.behind.Goals.{then-byte-eq10, else-byte-eq10}

pub loop-byte-preserved : goal.loop-byte-preserved
loop-byte-preserved c = record {
  there = rw (take_more c.args.bytes.now c.loop-byte.byte-index 0 c.loop-byte-test.true, behind-append, c.loop-byte.invariant.there) (elim c.if-byte-eq10.branch [ then-byte-eq10 w ↦ rw (w.line-is, w.column-is) (past-newline _ _ w.if-byte-eq10.true) | else-byte-eq10 w ↦ rw (w.line-is, w.column-is) (past-other _ _ w.if-byte-eq10.false) ]);
  lines = elim c.if-byte-eq10.branch [ then-byte-eq10 w ↦ omega arith | else-byte-eq10 w ↦ omega arith ];
  columns = elim c.if-byte-eq10.branch [ then-byte-eq10 w ↦ omega arith | else-byte-eq10 w ↦ omega arith ];
}
