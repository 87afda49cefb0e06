-- What a stopped walk says of the whole sequences of both terms. A tool of the proofs.
use Rattle.std.specs.Prelude.{ℕ}
use Rattle.lego_term.specs.Trees.{Core}
use Rattle.lego_laws.specs.Parallel.{CoreBodies}
use Rattle.lego_laws.specs.Counting.{Walked}
use Rattle.lego_laws.specs.Facing.{Order}
use Rattle.lego_compare.specs.declared.stop.Stop.{Stop}
use Rattle.lego_compare.specs.declared.fault.CompareFault.{CompareFault}
use Rattle.lego_compare.specs.declared.fault.CompareFault.TheVariants.{Differ, Budget, TooLarge, Memory}
use Rattle.lego_compare.specs.Answers.{ReachesTooLarge, HasLongSequence}
use Rattle.lego_compare.specs.Paths.{Leads}
use Rattle.lego_compare.specs.private.Walks.{Differ as Differing, StopsBy}

-- the walk from both whole terms stopped so
abbrev pub Stopped : Order → CoreBodies → Core → Core → ℕ → Stop → Type 0
Stopped o b t u limit why = StopsBy (Differing b o t u) (Walked b t u) (Leads b t) (Leads b u) limit 2001 0 why

-- the sequence of this term alone reaches a term too large, or has more steps than the limit and so does not come there
abbrev pub PassesIn : CoreBodies → Core → ℕ → CompareFault → Type 0
PassesIn b t limit (Differ left right deeper) = ⊥
PassesIn b t limit Budget = HasLongSequence b t limit
PassesIn b t limit (TooLarge nodes levels) = ReachesTooLarge b limit nodes levels t
PassesIn b t limit Memory = Unit {0}
