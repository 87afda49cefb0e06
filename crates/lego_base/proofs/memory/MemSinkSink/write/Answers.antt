use Rattle.std.proofs.Common.{◌≡◌, true, nat_eq, arith}
use Rattle.std.proofs.lemmas.Bool.Decides.{nat_tests}
use Rattle.lego_base.specs.Mem.{fails_next}
use Rattle.lego_base.proofs.SendLemmas.{or_true}
use Rattle.lego_base.proofs.memory.MemSinkSink.write.Goals as goal

pub returns-then-count-eq0-clause-fails : goal.returns-then-count-eq0-clause-fails
returns-then-count-eq0-clause-fails c =
    let full : c.args.self.now.room ≡ 0 = grind arith in
    let test : nat_eq c.args.self.now.room 0 ≡ true = grind (arith, nat_tests) in
    or_true (fails_next c.args.self.now.calls) (nat_eq c.args.self.now.room 0) test
