use Rattle.std.proofs.Common.{arith, ◌<◌, length, sym, ◌∙◌}
use Rattle.lego_term.proofs.ConstantLemmas.{listed_variable-less}
use Rattle.lego_term.proofs.constants.ClosedLeaves.constant.Goals as goal

pub overflow_add-index : goal.overflow_add-index
overflow_add-index c =
    let numbers = c.args.self.now.numbers.now in
    let less : c.in-Some.index.now < length numbers = listed_variable-less numbers c.args.number c.in-Some.index.now (sym (c.in-Some.ensures.value ∙ c.requires.ready.0 c.args.number)) in
    omega arith

pub variable-requires : goal.variable-requires
variable-requires c =
    let numbers = c.args.self.now.numbers.now in
    let less : c.in-Some.index.now < length numbers = listed_variable-less numbers c.args.number c.in-Some.index.now (sym (c.in-Some.ensures.value ∙ c.requires.ready.0 c.args.number)) in
    omega arith
