use Rattle.std.proofs.Common.{subst, sym, Contains}
use Rattle.std.proofs.lemmas.List.Sorted.{Contains-permutation, IsPermutation-sym}
use Rattle.std.proofs.lemmas.Option.{IfSome_then}
use Rattle.lego_level.proofs.MemberLemmas.{contains_tail, contains_cases}
use Rattle.lego_level.proofs.queue.Queue.pop.Goals as goal

pub returns-clause-keeps : goal.returns-clause-keeps
returns-clause-keeps c = IfSome_then c.pop.result c.pop.ensures.permutation
    (λ e p d h. contains_cases e _ d (Contains-permutation _ _ d p (subst (λ xs. Contains xs d) (sym c.self.view_is) h)))

pub returns-clause-only : goal.returns-clause-only
returns-clause-only c = IfSome_then c.pop.result c.pop.ensures.permutation
    (λ e p d h. subst (λ xs. Contains xs d) c.self.view_is (Contains-permutation _ _ d (IsPermutation-sym _ _ p) (contains_tail e _ d h)))
