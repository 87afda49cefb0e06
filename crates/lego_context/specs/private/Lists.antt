-- Names and places of listed entries.
use Rattle.std.specs.Prelude.{◌≡◌, ℕ, nat_eq, List, None}
use Rattle.std.specs.Map.{lookup}

-- the name has no place yet
abbrev pub IsNewPlace : List (ℕ × ℕ) → ℕ → Type 0
IsNewPlace places name = lookup (nat_eq name) places ≡ None
