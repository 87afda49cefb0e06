use Rattle.std.proofs.Common.{◌∙◌, List, length, take, get_or, sym, ap}
use Rattle.std.proofs.lemmas.List.{take_more}
use Rattle.lego_base.specs.declared.place.Place.{Place}
use Rattle.lego_inference.specs.declared.entry.Universe.{Universe}
use Rattle.lego_context.specs.Contexts.{Contents}
use Rattle.lego_context.specs.Changes.{with_universe}
use Rattle.lego_reading.specs.Universes.{with_universes}
use Rattle.lego_reading.proofs.UniverseLemmas.{universes-push}
use Rattle.lego_reading.proofs.CutLemmas.{no_level, cut_back, cut_is}
use Rattle.lego_reading.proofs.call.add_universes.Goals as goal

pub cut_to-requires : goal.cut_to-requires
cut_to-requires c =
    let ps = take c.loop-place.place-index c.args.places.now in
    let p = get_or c.args.places.now c.loop-place.place-index record { line = 0; column = 0 } in
    let grown = no_level c.loop-place.context c.fresh_level.new.self p c.in_default.field-0 c.in_default.ensures ∙ c.loop-place.invariant in
    cut_back c.args.context.now c.fresh_level.new.self ps c.len-entries.result (length c.universes-universes.result.now) c.levels-levels.result grown
    c.len-entries.ensures.exact (ap (λ (us : List Universe). length us) c.universes-universes.ensures) c.levels-levels.ensures.exact c.len-entries.ensures.context

pub returns-in_default-clause-err : goal.returns-in_default-clause-err
returns-in_default-clause-err c =
    let ps = take c.loop-place.place-index c.args.places.now in
    let p = get_or c.args.places.now c.loop-place.place-index record { line = 0; column = 0 } in
    let grown = no_level c.loop-place.context c.fresh_level.new.self p c.in_default.field-0 c.in_default.ensures ∙ c.loop-place.invariant in
    c.cut_to.ensures
    ∙ cut_is c.args.context.now c.fresh_level.new.self ps c.len-entries.result (length c.universes-universes.result.now) c.levels-levels.result grown
    c.len-entries.ensures.exact (ap (λ (us : List Universe). length us) c.universes-universes.ensures) c.levels-levels.ensures.exact

pub loop-place-preserved : goal.loop-place-preserved
loop-place-preserved c =
    let xs = c.args.places.now in
    let i = c.loop-place.place-index in
    let none : Place = record { line = 0; column = 0 } in
    let p : Place = get_or xs i none in
    c.in-Ok.ensures.1 ∙ ap (λ (z : Contents). with_universe z p) c.loop-place.invariant
    ∙ sym (universes-push c.args.context.now (take i xs) p) ∙ ap (with_universes c.args.context.now) (sym (take_more xs i none c.loop-place-test.true))
