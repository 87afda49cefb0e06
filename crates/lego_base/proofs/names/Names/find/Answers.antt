use Rattle.std.proofs.Common.{sym, ◌∙◌}
use Rattle.lego_base.proofs.NamesLemmas.{position-keys}
use Rattle.lego_base.proofs.names.Names.find.Goals as goal

pub returns-in-Some : goal.returns-in-Some
returns-in-Some c = c.in-Some.ensures.index ∙ sym (position-keys (λ k. k.items) c.self.inside.texts.keys c.args.self.now c.args.text.now c.self.view_is)

pub returns-in-None : goal.returns-in-None
returns-in-None c = c.in-None.ensures.index ∙ sym (position-keys (λ k. k.items) c.self.inside.texts.keys c.args.self.now c.args.text.now c.self.view_is)
