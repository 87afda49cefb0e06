use Rattle.std.proofs.Common.{ap, sym, ◌∙◌}
use Rattle.std.specs.List.{list_any}
use Rattle.lego_base.specs.Names.{same_text}
use Rattle.lego_base.proofs.NamesLemmas.{list_any-map}
use Rattle.lego_print.specs.Names.{is_printed_as}
use Rattle.lego_print.specs.private.Numbered.{printed}
use Rattle.lego_print.proofs.LocalsLemmas.{any_printed}
use Rattle.lego_print.proofs.locals.Locals.has_text.Goals as goal

pub returns : goal.returns
returns c =
    c.is_some.ensures ∙ c.get_index_of.ensures.found ∙ sym (list_any-map (λ t. t.items) (same_text c.args.text.now) c.self.inside.texts.keys)
    ∙ ap (list_any (same_text c.args.text.now)) c.self.invariant.0 ∙ sym (any_printed c.args.text.now c.self.inside.frames.items)
    ∙ ap (λ ls. list_any (is_printed_as c.args.text.now) (printed ls)) c.self.view_is
