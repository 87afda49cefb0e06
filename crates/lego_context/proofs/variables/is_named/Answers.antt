use Rattle.std.proofs.Common.{◌∙◌, ap, arith}
use Rattle.lego_laws.specs.Entries.{entry_uses}
use Rattle.lego_inference.specs.declared.entry.Entry.{Entry as Item}
use Rattle.lego_inference.specs.Entries.{laws_entry}
use Rattle.lego_context.proofs.VariableLemmas.{none_more, none_found, one_found}
use Rattle.lego_context.proofs.variables.is_named.Goals as goal

pub loop-entry-preserved : goal.loop-entry-preserved
loop-entry-preserved c =
    none_more laws_entry (entry_uses c.args.variable) c.args.entries.now c.loop-entry.entry-index c.entry-item.result c.entry_uses.result (omega arith) c.loop-entry.invariant
    (c.entry_uses.ensures ∙ ap (λ (e : Item). entry_uses c.args.variable (laws_entry e)) c.entry-item.is) c.if-entry_uses.false

pub returns-then-entry_uses : goal.returns-then-entry_uses
returns-then-entry_uses c =
    one_found laws_entry (entry_uses c.args.variable) c.args.entries.now c.loop-entry.entry-index c.entry-item.result c.entry_uses.result (omega arith)
    (c.entry_uses.ensures ∙ ap (λ (e : Item). entry_uses c.args.variable (laws_entry e)) c.entry-item.is) c.if-entry_uses.true

pub returns : goal.returns
returns c = none_found laws_entry (entry_uses c.args.variable) c.args.entries.now c.loop-entry.entry-index (omega arith) c.loop-entry.invariant
