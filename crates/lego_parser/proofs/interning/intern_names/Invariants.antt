use Rattle.std.proofs.Common.{◌≡◌, map, take}
use Rattle.lego_grammar.specs.Grammar.{item_of}
use Rattle.lego_parser.specs.Numbering.{names_behind}
use Rattle.lego_parser.proofs.interning.intern_names.Given as goal

abbrev pub invariant-loop-token : goal.invariant-loop-token
invariant-loop-token l = l.names ≡ names_behind l.fn.names (take l.token-index (map (item_of l.text) l.tokens))
