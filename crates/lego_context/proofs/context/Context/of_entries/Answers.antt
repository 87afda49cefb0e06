use Rattle.std.proofs.Common.{◌∙◌, max, List, sym, ap, ap₂, subst}
use Rattle.lego_laws.specs.Principal.{entries_bound}
use Rattle.lego_inference.specs.declared.entry.Entry.{Entry as Item}
use Rattle.lego_inference.specs.Entries.{laws_entries}
use Rattle.lego_context.specs.Contexts.{IsContext}
use Rattle.lego_context.specs.Forgetting.{universes_bound}
use Rattle.lego_context.proofs.ListLemmas.{lists_are_context}
use Rattle.lego_context.proofs.context.Context.of_entries.Goals as goal

pub assemble-requires-clause-context : goal.assemble-requires-clause-context
assemble-requires-clause-context c =
    let entries = c.entries_bound.ensures ∙ ap (λ (es : List Item). entries_bound (laws_entries es)) c.deref.ensures.value in
    let universes = c.universes_bound.ensures ∙ ap universes_bound c.deref-2.ensures.value in
    let levels = c.max-bound.ensures ∙ ap₂ (λ x y. max x y) entries universes in
    subst (λ n. IsContext (record { entries = c.args.entries.items; universes = c.args.universes.items; levels = n })) (sym levels)
    (lists_are_context c.args.entries.items c.args.universes.items c.requires)
