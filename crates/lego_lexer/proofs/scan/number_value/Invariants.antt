use Rattle.std.proofs.Common.{◌≡◌, ◌+◌, min, take}
use Rattle.lego_lexer.specs.Limits.{MAX_NUMERAL}
use Rattle.lego_lexer.specs.Tokens.{number_value}
use Rattle.lego_lexer.proofs.scan.number_value.Given as goal

abbrev pub invariant-loop-digit : goal.invariant-loop-digit
invariant-loop-digit l = l.value ≡ min (number_value (take l.digit-index l.digits)) (MAX_NUMERAL + 1)
