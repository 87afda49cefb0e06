-- The number of nodes of a written term, as the code keeps it.
use Rattle.std.specs.Prelude.{ℕ, suc, ◌+◌, List, [], ◌∷◌}
use Rattle.lego_term.specs.declared.binder.Mark.{Mark}
use Rattle.lego_grammar.specs.declared.surface.Surface.{Surface}
use Rattle.lego_grammar.specs.declared.surface.Surface.TheOpen.{Surface-F, Bind, Local, Apply, Pair, Project}
use Rattle.lego_grammar.specs.declared.surface.Surface.TheFolds.{fold-Surface}

abbrev pub total : List (Mark × ℕ) → ℕ
total [] = 0
total (x ∷ xs) = x.1 + total xs

abbrev pub size_step : Surface-F ℕ → ℕ
size_step (Bind k m ns a b) = suc (a + b)
size_step (Local n a b) = suc (a + b)
size_step (Apply f xs) = suc (f + total xs)
size_step (Pair m n a) = suc (m + n + a)
size_step (Project m parts) = suc m
size_step _ = 1

abbrev pub nodes : Surface → ℕ
nodes = fold-Surface ℕ size_step
