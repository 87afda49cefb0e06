use Rattle.std.proofs.Common.{◌≡◌, true, take}
use Rattle.std.specs.List.{list_all}
use Rattle.lego_session.proofs.BuiltLemmas.{is_plain_argument}
use Rattle.lego_session.proofs.built.+marks.Given as goal

abbrev pub invariant-are_plain-loop-mark : goal.invariant-are_plain-loop-mark
invariant-are_plain-loop-mark l = list_all is_plain_argument (take l.mark-index l.arguments) ≡ true
