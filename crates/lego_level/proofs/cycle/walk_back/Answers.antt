use Rattle.std.proofs.Common.{◌≡◌, ◌∷◌, ◌++◌, [], Contains, reverse, sym, ap, ◌∙◌, subst}
use Rattle.std.proofs.lemmas.List.{reverse-append}
use Rattle.lego_level.specs.declared.direction.Direction.TheVariants.{Up}
use Rattle.lego_level.specs.declared.draft.Reached.{Reached}
use Rattle.lego_level.specs.Graphs.{IsClosedWalk}
use Rattle.lego_level.specs.private.Potentials.{value_at}
use Rattle.lego_level.specs.private.Searches.{reached_at}
use Rattle.lego_level.proofs.CycleLemmas.{WalkedBack, rounds, back_starts, back_more, back_ends, bases_apart, bases_same}
use Rattle.lego_level.proofs.cycle.walk_back.Goals as goal

pub causes-init : goal.causes-init
causes-init c =
    let e = c.args.task.added in let all = e ∷ c.args.edges.now in let v = value_at c.args.potential.now in let d = reached_at c.args.draft.now in
    let is : reverse c.push.new.self.items ≡ c.args.closing ∷ [] = ap reverse (c.in_ok-push.ensures.items ∙ ap (λ xs. xs ++ c.args.closing ∷ []) c.new-chain.ensures.items) in
    subst (λ xs. WalkedBack e v all d c.args.closing.low.base xs) (sym is) (back_starts e c.args.task.gain v all d c.args.closing (rounds c.args.task Up v c.args.edges.now d c.args.closing c.requires.up c.requires.turns))

pub causes-preserved : goal.causes-preserved
causes-preserved c =
    let e = c.args.task.added in let all = e ∷ c.args.edges.now in let v = value_at c.args.potential.now in let d = reached_at c.args.draft.now in
    let m = back_more e c.args.task.gain v all d c.args.closing c.causes.at (reverse c.causes.chain.items) (rounds c.args.task Up v c.args.edges.now d c.args.closing c.requires.up c.requires.turns) c.causes.invariant
    (bases_apart c.causes.at e.high.base c.causes-test.ensures) in
    let r : reverse c.push-in-causes.new.self.items ≡ c.get.result.cause ∷ reverse c.causes.chain.items = ap reverse c.in_ok-push-2.ensures.items ∙ reverse-append c.causes.chain.items (c.get.result.cause ∷ []) in
    subst (λ xs. WalkedBack e v all d c.get.result.cause.low.base xs) (sym r)
    (subst (λ (b : Reached). WalkedBack e v all d b.cause.low.base (b.cause ∷ reverse c.causes.chain.items)) (sym c.get.ensures) m.0)

pub returns-clause-closed : goal.returns-clause-closed
returns-clause-closed c =
    let e = c.args.task.added in let all = e ∷ c.args.edges.now in let v = value_at c.args.potential.now in let d = reached_at c.args.draft.now in
    let r : c.of.result ≡ e ∷ reverse c.causes.chain.items = c.of.ensures ∙ (c.reverse.ensures.items ∙ (ap reverse c.in_ok-push-3.ensures.items ∙ reverse-append c.causes.chain.items (e ∷ []))) in
    subst (λ xs. IsClosedWalk e.low.base xs) (sym r)
    (back_ends e c.args.task.gain v all d c.args.closing c.causes.at (reverse c.causes.chain.items) (rounds c.args.task Up v c.args.edges.now d c.args.closing c.requires.up c.requires.turns) c.causes.invariant
    (bases_same c.causes.at e.high.base c.causes-test.ensures)).0

pub returns-clause-known : goal.returns-clause-known
returns-clause-known c = λ x h.
    let e = c.args.task.added in let all = e ∷ c.args.edges.now in let v = value_at c.args.potential.now in let d = reached_at c.args.draft.now in
    let r : c.of.result ≡ e ∷ reverse c.causes.chain.items = c.of.ensures ∙ (c.reverse.ensures.items ∙ (ap reverse c.in_ok-push-3.ensures.items ∙ reverse-append c.causes.chain.items (e ∷ []))) in
    (back_ends e c.args.task.gain v all d c.args.closing c.causes.at (reverse c.causes.chain.items) (rounds c.args.task Up v c.args.edges.now d c.args.closing c.requires.up c.requires.turns) c.causes.invariant
    (bases_same c.causes.at e.high.base c.causes-test.ensures)).1 x (subst (λ xs. Contains xs x) r h)
