use Rattle.std.proofs.Common.{subst}
use Rattle.std.specs.Prelude.{All}
use Rattle.lego_print.specs.Entries.{item_entries}
use Rattle.lego_print.specs.Showable.{IsSmallEntry}
use Rattle.lego_session.proofs.HeadlineLemmas.{all_printed, all_denote}
use Rattle.lego_session.proofs.development.development.Goals as goal

pub returns-clause-text : goal.returns-clause-text
returns-clause-text c =
    all_printed c.args.names.now c.args.context.now c.in_ok-values.values.items _ c.in_ok-values.ensures c.deref-5.ensures.value
    c.in_ok-items.items.items _ c.in_ok-items.ensures c.deref-3.ensures.value c.in_ok-universes.universes.items _ c.in_ok-universes.ensures.are c.deref-4.ensures.value
    _ c.whole-front.ensures c.development_text.result c.development_text.ensures

pub returns-clause-headline : goal.returns-clause-headline
returns-clause-headline c =
    let values = c.in_ok-values.values.items in
    let items = c.in_ok-items.items.items in
    all_denote c.args.names.now c.args.context.now values _ c.in_ok-values.ensures c.deref-5.ensures.value
    items _ c.in_ok-items.ensures c.deref-3.ensures.value c.in_ok-universes.universes.items _ c.in_ok-universes.ensures.are c.deref-4.ensures.value
    _ c.whole-front.ensures c.len-entries.ensures.context c.len-entries.ensures.named c.len-entries.ensures.pure c.requires.no_hole c.requires.true_names c.requires.known
    c.len-count.ensures.distinct
    (subst (λ v. All (IsSmallEntry v) (item_entries items)) c.deref-2.ensures.value
    (subst (λ xs. All (IsSmallEntry c.deref-2.result.now) (item_entries xs)) c.deref.ensures.value c.items_are_small.ensures))
    c.in_ok-universes.ensures.small c.printed_developments_denote.ensures c.development_text.result c.development_text.ensures
