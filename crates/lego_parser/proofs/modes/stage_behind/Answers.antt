use Rattle.std.proofs.Common.{map, ◌≤◌, length, List, [], ◌∷◌, refl, arith}
use Rattle.lego_parser.specs.private.Trees.{built_binding}
use Rattle.lego_grammar.specs.private.Machine.{Between as IsBetween}
use Rattle.lego_parser.specs.private.Scanning.{IsStage}
use Rattle.lego_grammar.specs.declared.command.Binding.{Binding}
use Rattle.lego_parser.specs.declared.scan.Stage.TheVariants as Stage
use Rattle.lego_parser.proofs.modes.stage_behind.Goals as goal

behind_one : (xs : List Binding) → 1 ≤ length xs → IsStage Stage.Behind (IsBetween (map built_binding xs))
behind_one [] h = absurd (omega (arith, h))
behind_one (x ∷ xs) h = (built_binding x, map built_binding xs, refl)

pub returns-in-len1-up : goal.returns-in-len1-up
returns-in-len1-up c = behind_one c.args.bindings.now c.in-len1-up.len_at_least
