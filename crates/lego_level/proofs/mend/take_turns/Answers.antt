use Rattle.std.proofs.Common.{sym, subst}
use Rattle.lego_level.specs.declared.direction.Direction.TheVariants.{Up, Down}
use Rattle.lego_level.specs.declared.mend.Outcome.TheVariants.{Mended}
use Rattle.lego_level.specs.private.Outcomes.{IsOutcome}
use Rattle.lego_level.specs.private.Potentials.{value_at}
use Rattle.lego_level.specs.private.Steps.{IsStep}
use Rattle.lego_level.proofs.CycleLemmas.{bases_equal}
use Rattle.lego_level.proofs.MendLemmas.{ends, closes, closes_down}
use Rattle.lego_level.proofs.mend.take_turns.Goals as goal

pub returns-in-Ended : goal.returns-in-Ended
returns-in-Ended c =
    let t = c.args.raise in let v = value_at c.args.potential.now in let cs = c.args.edges.now in
    let s = subst (λ o. IsStep t v cs c.turns.up c.advance.new.search o) c.in-Ended.is c.in_ok-advance.ensures in
    ends Up t v cs c.advance.new.search c.requires.raise s.0 s.1 c.requires.feasible (λ _ n. c.requires.head (sym n))

pub returns-in-Stopped : goal.returns-in-Stopped
returns-in-Stopped c =
    let t = c.args.raise in let v = value_at c.args.potential.now in let cs = c.args.edges.now in let closing = c.in-Stopped.closing in
    let s = subst (λ o. IsStep t v cs c.turns.up c.advance.new.search o) c.in-Stopped.is c.in_ok-advance.ensures in
    subst (IsOutcome v cs t.added) (sym c.closed.ensures)
    (closes Up t v cs c.advance.new.search c.requires.raise closing s (bases_equal closing.high.base t.added.low.base c.if-eq.ensures))

pub returns-in-Ended-2 : goal.returns-in-Ended-2
returns-in-Ended-2 c =
    let t = c.args.lower in let v = value_at c.args.potential.now in let cs = c.args.edges.now in
    let s = subst (λ o. IsStep t v cs c.turns.down c.advance-else-up-down.new.search o) c.in-Ended-2.is c.in_ok-advance-2.ensures in
    subst (λ e. IsOutcome v cs e (Mended c.advance-else-up-down.new.search.draft)) c.requires.same
    (ends Down t v cs c.advance-else-up-down.new.search c.requires.lower s.0 s.1 c.requires.feasible (λ none. absurd none))

pub returns-in-Stopped-3 : goal.returns-in-Stopped-3
returns-in-Stopped-3 c =
    let t = c.args.lower in let v = value_at c.args.potential.now in let cs = c.args.edges.now in
    let s = subst (λ o. IsStep t v cs c.turns.down c.advance-else-up-down.new.search o) c.in-Stopped-3.is c.in_ok-advance-2.ensures in
    subst (λ e. IsOutcome v cs e c.closed-in-Stopped-3.result) c.requires.same
    (subst (IsOutcome v cs t.added) (sym c.closed-in-Stopped-3.ensures) (closes_down t v cs c.advance-else-up-down.new.search c.in-Stopped-3.closing c.requires.lower s))
