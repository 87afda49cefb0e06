use Rattle.std.proofs.Common.{ℕ, ◌<◌, Contains}
use Rattle.lego_inference.specs.Entries.{numbers_of}
use Rattle.lego_context.proofs.numbers.next_free.Given as goal

abbrev pub invariant-loop-number : goal.invariant-loop-number
invariant-loop-number l = (k : ℕ) → k < l.number → Contains (numbers_of l.signature) k
