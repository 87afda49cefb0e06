use Rattle.std.proofs.Common.{◌≡◌, take, None}
use Rattle.lego_grammar.specs.Scopes.{local_named}
use Rattle.lego_reading.proofs.scope.Scope.position.Given as goal

abbrev pub invariant-loop-inside : goal.invariant-loop-inside
invariant-loop-inside l = local_named (take l.inside l.self) l.name ≡ None
