use Rattle.std.proofs.Common.{sym, subst}
use Rattle.lego_level.specs.declared.direction.Direction.TheVariants.{Down}
use Rattle.lego_level.specs.private.Outcomes.{IsOutcome}
use Rattle.lego_level.specs.private.Potentials.{value_at}
use Rattle.lego_level.specs.private.Steps.{IsStep}
use Rattle.lego_level.proofs.MendLemmas.{ends, closes_down}
use Rattle.lego_level.proofs.mend.go_down.Goals as goal

pub returns-in-Ended : goal.returns-in-Ended
returns-in-Ended c =
    let t = c.args.lower in let v = value_at c.args.potential.now in let cs = c.args.edges.now in
    let s = subst (λ o. IsStep t v cs c.steps.down c.advance.new.search o) c.in-Ended.is c.in_ok-advance.ensures in
    ends Down t v cs c.advance.new.search c.requires.lower s.0 s.1 c.requires.feasible (λ none. absurd none)

pub returns-in-Stopped : goal.returns-in-Stopped
returns-in-Stopped c =
    let t = c.args.lower in let v = value_at c.args.potential.now in let cs = c.args.edges.now in
    let s = subst (λ o. IsStep t v cs c.steps.down c.advance.new.search o) c.in-Stopped.is c.in_ok-advance.ensures in
    subst (IsOutcome v cs t.added) (sym c.closed.ensures) (closes_down t v cs c.advance.new.search c.in-Stopped.closing c.requires.lower s)
