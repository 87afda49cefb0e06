use Rattle.std.proofs.Common.{is_some, ap, ◌∙◌, subst}
use Rattle.std.specs.Bool.{OnTrue}
use Rattle.lego_term.specs.Trees.{Core}
use Rattle.lego_inference.specs.Entries.{laws_entries}
use Rattle.lego_inference.specs.Locals.{NamesEntries}
use Rattle.lego_bench.proofs.EntryLemmas.{found_entry}
use Rattle.lego_bench.proofs.development.+names_entries.Goals as goal

pub returns-in-Const : goal.returns-in-Const
returns-in-Const t c =
    let found = found_entry c.in-Const.number c.args.context.now.entries c.is_some.result (c.is_some.ensures ∙ ap is_some c.find.ensures) in
    subst (λ (m : Core). OnTrue c.is_some.result (NamesEntries (laws_entries c.args.context.now.entries) m)) c.in-Const.ensures.root found
