-- What the makers of a tree answer.
use Rattle.std.proofs.Common.{◌≡◌, ℕ, Result, Ok, Err}
use Rattle.lego_term.specs.declared.fault.TermFault.{TermFault}
use Rattle.lego_term.specs.declared.fault.TermFault.TheVariants.{TooLarge, Memory}
use Rattle.lego_term.specs.Trees.{Core}
use Rattle.lego_term.specs.Made.{Makes, Rebuilds}
use Rattle.lego_reduce.proofs.LargeLemmas.{large_whole, first_over-large}
use Rattle.lego_inference.specs.private.Faults.{of_term}
use Rattle.lego_inference.specs.private.Judging.{MakingFails}

pub making_fails : (t : Core) (fault : TermFault) → Makes t (Err fault) → MakingFails t (of_term fault)
making_fails t (TooLarge nodes levels) h = MakingFails.too_large (large_whole t nodes levels h.0 h.1 h.2)
making_fails t Memory h = MakingFails.memory

pub rebuilding_fails : (t : Core) (fault : TermFault) → Rebuilds t (Err fault) → MakingFails t (of_term fault)
rebuilding_fails t (TooLarge nodes levels) h = MakingFails.too_large (first_over-large t nodes levels h)
rebuilding_fails t Memory h = MakingFails.memory
