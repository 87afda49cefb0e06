-- The limits of commands and numerals. The code has constants of the same names, which the proofs show to be the same numbers.
use Rattle.std.specs.Prelude.{ℕ}

-- the most bytes of a command, from its first token through its `;`
abbrev pub MAX_COMMAND : ℕ
MAX_COMMAND = 65536

-- the greatest numeral
abbrev pub MAX_NUMERAL : ℕ
MAX_NUMERAL = 1000000
