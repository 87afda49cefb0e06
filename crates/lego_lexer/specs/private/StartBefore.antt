-- Where a command begins, if a comment does not.
use Rattle.std.specs.Prelude.{ℕ, Option, Some, None, nat_lt, if◌then◌else◌}

-- where a command began, unless it would begin with the comment at this index
abbrev pub start_before : Option ℕ → ℕ → Option ℕ
start_before None comment = None
start_before (Some start) comment = if nat_lt start comment then Some start else None
