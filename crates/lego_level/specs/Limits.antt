-- The limit of levels. The code has a constant of the same name, which the proofs show to be the same number.
use Rattle.std.specs.Prelude.{ℕ}

-- the greatest least value that a variable may have
abbrev pub MAX_VALUE : ℕ
MAX_VALUE = 1000000
