use Rattle.std.proofs.Common.{◌≡◌, reverse, take}
use Rattle.lego_rule_types.proofs.scope.copy_of.Given as goal

-- the locals so far, the outermost first
abbrev pub invariant-loop-at : goal.invariant-loop-at
invariant-loop-at l = reverse l.copy ≡ take l.at (reverse l.locals)
