-- What is kept of constants' bodies: a finite map from the constants' numbers.
use Rattle.std.specs.Prelude.{◌≡◌, ℕ, Some}
use Rattle.std.specs.Ordering.{nat_cmp}
use Rattle.std.specs.FinMap as map
use Rattle.lego_term.specs.Trees.{Core, Bodies, loose}
use Rattle.lego_term.specs.declared.binder.Binder.{Binder}
use Rattle.lego_term.specs.declared.binder.Mark.{Mark}
use Rattle.lego_term.specs.declared.level.Level.{Level}

abbrev pub BodyMap : Type 0
BodyMap = map.FinMap nat_cmp Core

-- the bodies as the rules see them
abbrev pub bodies_in : BodyMap → Bodies Binder Mark Level
bodies_in bodies k = map.get bodies k

-- no body has a loose variable
abbrev pub AreClosed : BodyMap → Type 0
AreClosed bodies = (k : ℕ) (t : Core) → map.get bodies k ≡ Some t → loose t ≡ 0
