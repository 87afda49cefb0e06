use Rattle.std.proofs.Common.{map}
use Rattle.lego_grammar.specs.Grammar.{item_of}
use Rattle.lego_parser.specs.private.Frames.{mode_of}
use Rattle.lego_parser.specs.private.Stack.{stack}
use Rattle.lego_parser.proofs.BuildLemmas.{Left}
use Rattle.lego_parser.proofs.build.build.Given as goal

abbrev pub invariant-loop-token : goal.invariant-loop-token
invariant-loop-token l = Left l.names (map (item_of l.text) l.tokens) l.token-index (mode_of l.mode) (stack l.machine)
