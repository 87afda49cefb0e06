use Rattle.std.proofs.Common.{◌≡◌, ◌++◌, drop}
use Rattle.lego_print.specs.Developments.{universe_lines}
use Rattle.lego_print.proofs.universes.push_lines.Given as goal

abbrev pub invariant-loop-universe : goal.invariant-loop-universe
invariant-loop-universe l =
    l.text.items ++ universe_lines l.values (drop l.universe-index l.universes) ≡ l.fn.text.items ++ universe_lines l.values l.universes
