use Rattle.std.proofs.Common.{◌-◌, length, drop}
use Rattle.lego_term.specs.private.Listed.{HasVariables}
use Rattle.lego_term.proofs.constants.variables_of.Given as goal

abbrev pub invariant-loop-index : goal.invariant-loop-index
invariant-loop-index l = HasVariables (drop (length l.numbers - l.index) l.numbers) l.variables
