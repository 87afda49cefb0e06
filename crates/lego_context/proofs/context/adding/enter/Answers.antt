use Rattle.std.proofs.Common.{sym, ◌∙◌}
use Rattle.std.proofs.lemmas.Result.{err_from_is_err_and}
use Rattle.lego_context.specs.private.Adding.{EnterFails}
use Rattle.lego_context.proofs.NameLemmas.{entered}
use Rattle.lego_context.proofs.context.adding.enter.Goals as goal

pub returns-then-at-eq-MAX_ENTRIES-clause-refused : goal.returns-then-at-eq-MAX_ENTRIES-clause-refused
returns-then-at-eq-MAX_ENTRIES-clause-refused c = EnterFails.full (sym c.len-at.ensures ∙ c.if-at-eq-MAX_ENTRIES.true)

pub returns-in_err-reserve-clause-refused : goal.returns-in_err-reserve-clause-refused
returns-in_err-reserve-clause-refused c =
    let e = err_from_is_err_and c.from_residual.result c.from_residual.ensures.1 in
    rw (e.1, e.2) EnterFails.memory

pub returns-in_err-push-clause-refused : goal.returns-in_err-push-clause-refused
returns-in_err-push-clause-refused c =
    let e = err_from_is_err_and c.from_residual-in_err-push.result c.from_residual-in_err-push.ensures.1 in
    rw (e.1, e.2) EnterFails.memory

pub returns-clause-places : goal.returns-clause-places
returns-clause-places c =
    entered c.args.signature.now c.push.new.self c.args.entry c.args.name c.len-at.result c.args.names.now.entries c.reserve.new.self.entries c.insert.new.self.entries
    c.requires.named c.requires.new c.requires.places c.in_ok-reserve.ensures.entries c.len-at.ensures c.in-Ok.ensures.entries c.in_ok-push.ensures.ok
