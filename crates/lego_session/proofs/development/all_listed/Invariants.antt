use Rattle.std.proofs.Common.{◌≡◌, map, take}
use Rattle.std.specs.Prelude.{All}
use Rattle.lego_session.specs.Texts.{listed}
use Rattle.lego_session.specs.private.Items.{HasSmallPlace}
use Rattle.lego_session.proofs.development.all_listed.Given as goal

abbrev pub invariant-loop-universe : goal.invariant-loop-universe
invariant-loop-universe l = record {
  are : l.universes.items ≡ map listed (take l.universe-index l.context.universes);
  small : All HasSmallPlace l.universes.items;
}
