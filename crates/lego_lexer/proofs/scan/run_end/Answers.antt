use Rattle.std.proofs.Common.{rules, ◌<◌, sym, ◌∙◌, get_or, arith}
use Rattle.lego_lexer.proofs.ScanLemmas.{run_more}
use Rattle.lego_lexer.proofs.scan.run_end.Goals as goal

pub loop-to-preserved : goal.loop-to-preserved
loop-to-preserved g c =
    let bytes = c.args.bytes.now in
    let to = c.loop-to.to in
    let before = c.loop-to.invariant in
    let byte : get_or bytes to 0 < 256 = search rules in
    record {
      after = omega arith;
      within = omega arith;
      all = λ kind decides. run_more kind bytes c.args.at to before.after c.loop-to-test.true (before.all kind decides) (sym (decides _ _ byte c.is_of_kind.ensures) ∙ c.if-is_of_kind.true);
    }
