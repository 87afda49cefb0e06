use Rattle.std.proofs.Common.{sym, arith}
use Rattle.lego_term.specs.Trees.{Var, Const}
use Rattle.lego_grammar.specs.Reading.{ReadsExplicitly}
use Rattle.lego_reading.proofs.PartLemmas.{named_is, unknown_name}
use Rattle.lego_reading.proofs.ScopeLemmas.{named_within}
use Rattle.lego_reading.proofs.EntryLemmas.{entry_at, no_entry, is_there}
use Rattle.lego_reading.proofs.leaves.name.Goals as goal

pub overflow_cast-index : goal.overflow_cast-index
overflow_cast-index c = let within = named_within c.args.scope.now c.args.name c.in-Some.index (sym c.in-Some.ensures) in omega arith

pub var-requires : goal.var-requires
var-requires c = let within = named_within c.args.scope.now c.args.name c.in-Some.index (sym c.in-Some.ensures) in omega arith

pub returns-in-Some : goal.returns-in-Some
returns-in-Some c =
    named_is c.args.setting.now.limit c.made.result (ReadsExplicitly.local (sym c.in-Some.ensures))
    (named_within c.args.scope.now c.args.name c.in-Some.index (sym c.in-Some.ensures)) (c.made.ensures (Var c.in-Some.index) c.var.ensures)

pub returns-in_default-position : goal.returns-in_default-position
returns-in_default-position c =
    unknown_name (sym c.in_default.ensures) (no_entry c.args.setting.now.context.now.entries c.args.name (sym c.in_default-position.ensures))

pub unreachable-requires : goal.unreachable-requires
unreachable-requires c =
    is_there c.args.setting.now.context.now.entries c.args.name c.in-Some-position.at (sym c.in-Some-position.ensures) (sym c.in_default-entry.ensures)

pub returns : goal.returns
returns c =
    let e = c.in-Some-entry.entry.now in
    named_is c.args.setting.now.limit c.made-2.result
    (ReadsExplicitly.entry (sym c.in_default.ensures)
    (entry_at c.args.setting.now.context.now.entries c.args.name c.in-Some-position.at e (sym c.in-Some-position.ensures) (sym c.in-Some-entry.ensures)))
    (omega arith) (c.made-2.ensures (Const e.number) c.konst.ensures)
