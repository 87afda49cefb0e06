use Rattle.lego_term.specs.Trees.{Prop}
use Rattle.lego_inference.specs.Entries.{laws_entries}
use Rattle.lego_reading.specs.Universes.{variables_for}
use Rattle.lego_reading.proofs.PartLemmas.{prop_is}
use Rattle.lego_reading.proofs.leaves.proposition.Goals as goal

pub returns : goal.returns
returns c =
    prop_is (laws_entries c.args.setting.now.context.now.entries) (variables_for c.args.setting.now.context.now.levels c.args.setting.now.places.now)
    c.args.setting.now.limit c.args.scope.now c.made.result (c.made.ensures Prop c.prop.ensures)
