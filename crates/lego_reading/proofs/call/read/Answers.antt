use Rattle.std.proofs.Common.{◌≡◌, ◌+◌, ◌<◌, ◌≤◌, ◌∙◌, List, length, refl, sym, ap, arith}
use Rattle.std.proofs.lemmas.Result.{err_from_is_err_and}
use Rattle.lego_base.specs.declared.place.Place.{Place}
use Rattle.lego_grammar.specs.Surface.{written}
use Rattle.lego_reading.specs.Calls.{IsUnread}
use Rattle.lego_reading.specs.Universes.{type_places, with_places, places_of, with_universes}
use Rattle.lego_reading.proofs.CallLemmas.{read_core, read_full, read_stops}
use Rattle.lego_reading.proofs.call.read.Goals as goal

pub returns-in_err-gather : goal.returns-in_err-gather
returns-in_err-gather c =
    let e = err_from_is_err_and c.from_residual.result c.from_residual.ensures.1 in
    rw (e.1, e.2) (IsUnread.memory, refl)

pub returns-then-len-levels : goal.returns-then-len-levels
returns-then-len-levels c =
    let s = written c.args.s.now in
    let places : List Place = c.gather.new.places.items in
    let is : places ≡ places_of s = c.in_ok-gather.ensures ∙ ap (λ (held : List Place). with_places held (type_places s)) c.new-places.ensures.items in
    let over : 1048576 < c.args.context.now.levels + length places = omega (arith, c.levels.ensures.exact, c.gather.new.places.ok.0) in
    read_full c.args.context.now places s c.args.asked.limit is over

pub returns-in_err-core : goal.returns-in_err-core
returns-in_err-core c =
    let s = written c.args.s.now in
    let places : List Place = c.as_slice.result.now in
    let is : places ≡ places_of s =
    c.as_slice.ensures.value ∙ c.in_ok-gather.ensures ∙ ap (λ (held : List Place). with_places held (type_places s)) c.new-places.ensures.items in
    let count = ap (λ (ps : List Place). length ps) c.as_slice.ensures.value in
    let room : c.args.context.now.levels + length places ≤ 1048576 = omega (arith, c.levels.ensures.exact, c.gather.new.places.ok.0) in
    let e = err_from_is_err_and c.from_residual-in_err-core.result c.from_residual-in_err-core.ensures.1 in
    rw (e.1, e.2) (read_stops c.args.context.now places s c.args.asked.limit is c.in_err-core.field-0.0 room c.in_err-core.ensures)

pub returns-in_err-add_universes : goal.returns-in_err-add_universes
returns-in_err-add_universes c =
    let e = err_from_is_err_and c.from_residual-in_err-add_universes.result c.from_residual-in_err-add_universes.ensures.1 in
    rw (e.1, e.2) (IsUnread.memory, c.in_err-add_universes.ensures.err)

pub returns : goal.returns
returns c =
    let s = written c.args.s.now in
    let places : List Place = c.as_slice.result.now in
    let is : places ≡ places_of s =
    c.as_slice.ensures.value ∙ c.in_ok-gather.ensures ∙ ap (λ (held : List Place). with_places held (type_places s)) c.new-places.ensures.items in
    let count = ap (λ (ps : List Place). length ps) c.as_slice.ensures.value in
    let room : c.args.context.now.levels + length places ≤ 1048576 = omega (arith, c.levels.ensures.exact, c.gather.new.places.ok.0) in
    let grown : c.add_universes.new.context ≡ with_universes c.args.context.now places =
    c.in_ok-add_universes.ensures.ok ∙ ap (with_universes c.args.context.now) (c.as_slice-2.ensures.value ∙ sym c.as_slice.ensures.value) in
    read_core c.args.context.now places s c.args.asked.limit is c.in_ok-core.core c.add_universes.new.context room c.len-entries.ensures.named c.requires
    c.in_ok-core.ensures grown
