use Rattle.std.proofs.Common.{subst, sym, ◌≡◌, ◌⊎◌, Contains}
use Rattle.lego_level.proofs.MemberLemmas.{pushed_only, pushed_keeps, pushed_there}
use Rattle.lego_level.proofs.queue.Queue.push.Goals as goal

pub returns-clause-there : goal.returns-clause-there
returns-clause-there c = pushed_there _ _ _ c.in_ok-push.ensures.permutation

pub returns-clause-keeps : goal.returns-clause-keeps
returns-clause-keeps c = λ d h. pushed_keeps _ _ _ c.in_ok-push.ensures.permutation d (subst (λ xs. Contains xs d) (sym c.self.view_is) h)

pub returns-clause-only : goal.returns-clause-only
returns-clause-only c = λ d h.
    subst (λ xs. (d ≡ (c.args.gain, c.args.node)) ⊎ Contains xs d) c.self.view_is (pushed_only _ _ _ c.in_ok-push.ensures.permutation d h)
