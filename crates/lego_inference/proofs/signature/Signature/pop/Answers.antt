use Rattle.std.proofs.Common.{◌≡◌, ◌+◌, ◌-◌, ◌<◌, ◌∙◌, List, length, Contains, ap, sym, arith}
use Rattle.lego_inference.specs.Entries.{numbers_of}
use Rattle.lego_inference.specs.declared.entry.Entry.{Entry as Item}
use Rattle.lego_inference.proofs.SignatureCuts.{pop_signature, new_number, numbers_some}
use Rattle.lego_inference.proofs.signature.Signature.pop.Goals as goal

pub overflow_sub-held : goal.overflow_sub-held
overflow_sub-held c =
    let some = numbers_some c.self.inside.entries.items c.pop.new.self.items c.in-Some.entry c.self.inside.numbers.keys c.in-Some.ensures.items c.self.invariant.1 in
    omega (arith, some, c.len-held.ensures.len)

pub invariant_of-self-2 : goal.invariant_of-self-2
invariant_of-self-2 c =
    let some = numbers_some c.self.inside.entries.items c.pop.new.self.items c.in-Some.entry c.self.inside.numbers.keys c.in-Some.ensures.items c.self.invariant.1 in
    pop_signature c.pop.new.self.items c.in-Some.entry c.self.inside.entries.items c.self.inside.numbers.keys c.truncate.new.self.keys
    c.self.inside.bodies c.take.new.self (c.len-held.result - 1) c.in-Some.ensures.items c.self.invariant c.len-held.ensures.unique (omega (arith, some, c.len-held.ensures.len))
    c.truncate.ensures.keys c.take.ensures.rest

pub returns-clause-number : goal.returns-clause-number
returns-clause-number c =
    new_number c.pop.new.self.items c.in-Some.entry c.self.inside.entries.items c.self.inside.numbers.keys c.in-Some.ensures.items c.self.invariant.1 c.len-held.ensures.unique
