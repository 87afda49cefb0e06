use Rattle.std.proofs.Common.{◌≡◌, ◌<◌, ◌∷◌, ◌++◌, [], Contains, sym, ap, ◌∙◌, subst}
use Rattle.lego_level.specs.declared.direction.Direction.TheVariants.{Down}
use Rattle.lego_level.specs.declared.draft.Reached.{Reached}
use Rattle.lego_level.specs.Graphs.{IsClosedWalk}
use Rattle.lego_level.specs.private.Potentials.{value_at}
use Rattle.lego_level.specs.private.Searches.{reached_at}
use Rattle.lego_level.proofs.CycleLemmas.{WalkedOn, rounds, on_starts, on_more, on_ends, bases_apart, bases_same}
use Rattle.lego_level.proofs.cycle.walk_on.Goals as goal

pub causes-init : goal.causes-init
causes-init c =
    let e = c.args.task.added in let all = e ∷ c.args.edges.now in let v = value_at c.args.potential.now in let d = reached_at c.args.draft.now in
    let is : c.push-2.new.self.items ≡ e ∷ c.args.closing ∷ [] = c.in_ok-push-2.ensures.items ∙ ap (λ xs. xs ++ c.args.closing ∷ []) (c.in_ok-push.ensures.items ∙ ap (λ xs. xs ++ e ∷ []) c.new-chain.ensures.items) in
    subst (λ xs. WalkedOn e c.args.task.gain v all d c.args.closing.high.base xs) (sym is) (on_starts e c.args.task.gain v all d c.args.closing (rounds c.args.task Down v c.args.edges.now d c.args.closing c.requires.down c.requires.turns))

pub causes-preserved : goal.causes-preserved
causes-preserved c =
    let e = c.args.task.added in let all = e ∷ c.args.edges.now in let v = value_at c.args.potential.now in let d = reached_at c.args.draft.now in
    let is : c.push-in-causes.new.self.items ≡ c.causes.chain.items ++ (d c.causes.at).cause ∷ [] = c.in_ok-push-3.ensures.items ∙ ap (λ (b : Reached). c.causes.chain.items ++ b.cause ∷ []) c.get.ensures in
    let m = on_more e c.args.task.gain v all d c.args.closing c.causes.at c.causes.chain.items c.push-in-causes.new.self.items (rounds c.args.task Down v c.args.edges.now d c.args.closing c.requires.down c.requires.turns) c.causes.invariant
    (bases_apart c.causes.at e.low.base c.causes-test.ensures) is in
    subst (λ (b : Reached). WalkedOn e c.args.task.gain v all d b.cause.high.base c.push-in-causes.new.self.items) (sym c.get.ensures) m.0

pub causes-smaller : goal.causes-smaller
causes-smaller c =
    let e = c.args.task.added in let all = e ∷ c.args.edges.now in let v = value_at c.args.potential.now in let d = reached_at c.args.draft.now in
    let is : c.push-in-causes.new.self.items ≡ c.causes.chain.items ++ (d c.causes.at).cause ∷ [] = c.in_ok-push-3.ensures.items ∙ ap (λ (b : Reached). c.causes.chain.items ++ b.cause ∷ []) c.get.ensures in
    let m = on_more e c.args.task.gain v all d c.args.closing c.causes.at c.causes.chain.items c.push-in-causes.new.self.items (rounds c.args.task Down v c.args.edges.now d c.args.closing c.requires.down c.requires.turns) c.causes.invariant
    (bases_apart c.causes.at e.low.base c.causes-test.ensures) is in
    subst (λ (b : Reached). (d b.cause.high.base).rank < (d c.causes.at).rank) (sym c.get.ensures) m.1

pub returns-clause-closed : goal.returns-clause-closed
returns-clause-closed c =
    let e = c.args.task.added in let all = e ∷ c.args.edges.now in let v = value_at c.args.potential.now in let d = reached_at c.args.draft.now in
    subst (λ xs. IsClosedWalk e.low.base xs) (sym c.of.ensures)
    (on_ends e c.args.task.gain v all d c.args.closing c.causes.at c.causes.chain.items (rounds c.args.task Down v c.args.edges.now d c.args.closing c.requires.down c.requires.turns) c.causes.invariant (bases_same c.causes.at e.low.base c.causes-test.ensures))

pub returns-clause-known : goal.returns-clause-known
returns-clause-known c = λ x h. c.causes.invariant.known x (subst (λ xs. Contains xs x) c.of.ensures h)
