use Rattle.std.proofs.Common.{◌≡◌, ◌≤◌, take, length}
use Rattle.lego_term.specs.Trees.{loose}
use Rattle.lego_grammar.specs.Scopes.{put_values}
use Rattle.lego_reading.proofs.values.with_values.Given as goal

abbrev pub invariant-loop-inside : goal.invariant-loop-inside
invariant-loop-inside l = (l.made ≡ put_values (take l.inside l.scope) 0 l.t) × (loose l.made ≤ length l.scope)
