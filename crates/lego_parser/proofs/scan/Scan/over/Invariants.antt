use Rattle.std.proofs.Common.{Some}
use Rattle.lego_grammar.specs.private.Machine.{state}
use Rattle.lego_parser.specs.private.Frames.{mode_of}
use Rattle.lego_parser.specs.private.Stack.{stack}
use Rattle.lego_parser.specs.private.Scanning.{mode_at}
use Rattle.lego_parser.proofs.ScanLemmas.{GoesTo, DeepTo}
use Rattle.lego_parser.proofs.scan.Scan.over.Given as goal

abbrev pub invariant-loop-index : goal.invariant-loop-index
invariant-loop-index l = record {
  there : GoesTo l.tokens (mode_at l.fn.start) l.index (Some (state (mode_of l.mode) (stack l.machine)));
  depth : DeepTo l.tokens (mode_at l.fn.start) l.index l.deep;
}
