use Rattle.std.proofs.Common.{[], ◌∙◌, drop, length, subst}
use Rattle.std.proofs.lemmas.List.{take-append-drop}
use Rattle.std.specs.Prelude.{slice_range}
use Rattle.lego_lexer.specs.Commands.{First, Begins, IsCut}
use Rattle.lego_lexer.specs.Cutter.{IsFed}
use Rattle.lego_lexer.proofs.SliceLemmas.{slice_all}
use Rattle.lego_lexer.proofs.Fronts.{command_goes_on}
use Rattle.lego_lexer.proofs.commands.cut.Goals as goal

pub returns-in-Ended : goal.returns-in-Ended
returns-in-Ended c =
    let piece = slice_range c.args.bytes.now c.args.from (length c.args.bytes.now) in
    let e = subst (IsFed c.scan.new.self c.args.from [] piece) c.in-Ended.is (c.scan.ensures c.args.from [] c.at-cutter.ensures.stands) in
    let rest = drop c.in-Ended.used piece in
    let first = First.Command e.ends.gap e.ends.body rest in
    record {
      first = first;
      begins = subst (λ xs. Begins xs first) (take-append-drop c.in-Ended.used piece ∙ slice_all c.args.bytes.now c.args.from) (command_goes_on e.ends.begins rest);
      is = e.ends.is;
    }

pub returns-in-More : goal.returns-in-More
returns-in-More c =
    let piece = slice_range c.args.bytes.now c.args.from (length c.args.bytes.now) in
    let s = subst (IsFed c.scan.new.self c.args.from [] piece) c.in-More.is (c.scan.ensures c.args.from [] c.at-cutter.ensures.stands) in
    subst (λ xs. IsCut c.args.from xs c.end.result) (slice_all c.args.bytes.now c.args.from) (c.end.ensures.cut c.args.from piece s)
