use Rattle.lego_term.specs.Levels.{fixed_level}
use Rattle.lego_term.specs.Trees.{Univ}
use Rattle.lego_inference.specs.Entries.{laws_entries}
use Rattle.lego_reading.specs.Universes.{variables_for}
use Rattle.lego_reading.proofs.PartLemmas.{type_at_is}
use Rattle.lego_reading.proofs.leaves.type_at.Goals as goal

pub returns : goal.returns
returns c =
    type_at_is (laws_entries c.args.setting.now.context.now.entries) (variables_for c.args.setting.now.context.now.levels c.args.setting.now.places.now)
    c.args.setting.now.limit c.args.scope.now c.args.level c.made.result (c.made.ensures (Univ (fixed_level c.args.level)) c.univ.ensures)
