use Rattle.std.proofs.Common.{ℕ, Option, Vec, Global, ◌++◌, ◌∷◌, [], refl, ◌∙◌, ap}
use Rattle.lego_level.proofs.DraftLemmas.{found_same, touched_new}
use Rattle.lego_level.proofs.draft.Draft.put.Goals as goal

pub returns-in_ok-push-clause-at : goal.returns-in_ok-push-clause-at
returns-in_ok-push-clause-at c = found_same c.set.new.self _ refl refl c.args.node ∙ c.in_ok-before.ensures.at

pub returns-in_ok-push-clause-other : goal.returns-in_ok-push-clause-other
returns-in_ok-push-clause-other c = λ u ne. found_same c.set.new.self _ refl refl u ∙ c.in_ok-before.ensures.other u ne

pub returns-in_ok-push-clause-touched : goal.returns-in_ok-push-clause-touched
returns-in_ok-push-clause-touched c = touched_new c.args.self.now _ c.args.node (returns-in_ok-push-clause-other c) (c.in_ok-push.ensures.items ∙ ap (λ (t : Vec (Option ℕ) Global). t.items ++ c.args.node ∷ []) c.in_ok-before.ensures.touched)
