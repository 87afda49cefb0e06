use Rattle.std.proofs.Common.{◌≡◌, ◌++◌, nat_eq, drop}
use Rattle.std.specs.List.{list_any}
use Rattle.lego_print.specs.Developments.{used_once}
use Rattle.lego_print.proofs.universes.used_once.Given as goal

abbrev pub invariant-loop-universe : goal.invariant-loop-universe
invariant-loop-universe l =
    l.used.items ++ used_once (λ u. list_any (nat_eq u) l.variables.keys) (drop l.universe-index l.universes)
    ≡ used_once (λ u. list_any (nat_eq u) l.initial.variables.keys) l.universes
