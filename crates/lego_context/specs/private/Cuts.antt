-- What is kept beside the entries, without the last of them.
use Rattle.std.specs.Prelude.{ℕ, ◌-◌, List, take, length, Option, Some, None}

-- the names without the last, where there is one to take away
abbrev pub without_name : Option ℕ → List (ℕ × ℕ) → List (ℕ × ℕ)
without_name None places = places
without_name (Some name) places = take (length places - 1) places
