use Rattle.std.proofs.Common.{◌-◌, ◌≤◌, length, drop, map}
use Rattle.lego_lexer.specs.Tokens.{Reads, AllWithinLimits, placed, start}
use Rattle.lego_lexer.specs.private.Scanned.{HasRoom, point}
use Rattle.lego_lexer.proofs.tokens.lex.Given as goal

abbrev pub decreases-loop-tokens : goal.decreases-loop-tokens
decreases-loop-tokens l = length l.bytes - l.at.index

-- the tokens so far are read, and the cursor is behind them
abbrev pub invariant-loop-tokens : goal.invariant-loop-tokens
invariant-loop-tokens l = record {
  reads : Reads (start l.fn.place) l.bytes (map (placed l.bytes) l.tokens.items) (point l.at) (drop l.at.index l.bytes);
  small : AllWithinLimits (map (placed l.bytes) l.tokens.items);
  within : l.at.index ≤ length l.bytes;
  room : HasRoom l.at;
}
