use Rattle.std.proofs.Common.{ℕ, ◌<◌, ◌≤◌, sym, ◌∙◌, arith}
use Rattle.lego_inference.specs.Entries.{numbers_of}
use Rattle.lego_context.proofs.NumberLemmas.{enough, free_number, taken_number, next_taken}
use Rattle.lego_context.proofs.numbers.next_free.Goals as goal

pub returns-in_default : goal.returns-in_default
returns-in_default c = record {
  free = free_number (numbers_of c.args.signature.now) c.loop-number.number (sym c.position.ensures ∙ c.in_default.is);
  least = c.loop-number.invariant;
}

pub loop-number-preserved : goal.loop-number-preserved
loop-number-preserved c =
    next_taken (numbers_of c.args.signature.now) c.loop-number.number c.loop-number.invariant
    (taken_number (numbers_of c.args.signature.now) c.loop-number.number c.in-Some.field-0 (sym c.position.ensures ∙ c.in-Some.is))

pub unreachable-requires : goal.unreachable-requires
unreachable-requires c =
    let past = c.loop-number-test.false in
    let l = enough c.args.signature.now 65537 (λ k below. c.loop-number.invariant k (within k c.loop-number.number below past)) in
    let few = c.requires.few in
    omega arith
  where
    within : (k n : ℕ) → k < 65537 → 65537 ≤ n → k < n
    within k n below past = omega arith
