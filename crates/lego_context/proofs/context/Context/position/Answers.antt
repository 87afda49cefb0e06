use Rattle.std.proofs.Common.{ap, ◌∙◌}
use Rattle.lego_context.specs.Contexts.{Contents}
use Rattle.lego_context.specs.Entries.{position_of}
use Rattle.lego_context.proofs.NameLemmas.{place_is}
use Rattle.lego_context.proofs.context.Context.position.Goals as goal

pub returns : goal.returns
returns c =
    c.copied.ensures ∙ c.get.ensures.value
    ∙ place_is c.args.name c.self.inside.signature c.self.inside.names.entries c.self.invariant.1.names
    ∙ ap (λ (z : Contents). position_of z.entries c.args.name) c.self.view_is
