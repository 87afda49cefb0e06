use Rattle.std.proofs.Common.{◌≡◌, ◌+◌, ◌∙◌, Some, option_map, sym, ap}
use Rattle.lego_term.specs.Levels.{variable_level}
use Rattle.lego_term.specs.Trees.{Univ}
use Rattle.lego_inference.specs.Entries.{laws_entries}
use Rattle.lego_reading.specs.Universes.{variables_for}
use Rattle.lego_reading.proofs.PartLemmas.{any_type_is}
use Rattle.lego_reading.proofs.leaves.any_type.Goals as goal

pub returns : goal.returns
returns c =
    let next = c.args.setting.now.context.now.levels in
    let is : variables_for next c.args.setting.now.places.now c.args.place ≡ Some (c.levels.result + c.in-Some.at) =
    ap (option_map (λ i. next + i)) (sym c.in-Some.ensures) ∙ ap (λ n. Some (n + c.in-Some.at)) (sym c.levels.ensures.exact) in
    any_type_is (laws_entries c.args.setting.now.context.now.entries) (variables_for next c.args.setting.now.places.now)
    c.args.setting.now.limit c.args.scope.now c.args.place (c.levels.result + c.in-Some.at) c.made.result is
    (c.made.ensures (Univ (variable_level (c.levels.result + c.in-Some.at))) c.univ.ensures)
