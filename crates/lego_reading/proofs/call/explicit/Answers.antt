use Rattle.std.proofs.Common.{subst}
use Rattle.lego_grammar.specs.Surface.{written}
use Rattle.lego_grammar.specs.Scopes.{Scope}
use Rattle.lego_reading.specs.private.Parts.{ReadsAs}
use Rattle.lego_reading.proofs.ReadyLemmas.{ready_in}
use Rattle.lego_reading.proofs.CallLemmas.{ready}
use Rattle.lego_reading.proofs.call.explicit.Goals as goal

pub core_of-requires : goal.core_of-requires
core_of-requires c =
    ready_in c.new-scope.ensures (ready c.args.context.now c.args.places.now (written c.args.s.now) c.requires.can c.requires.held c.requires.room)

pub returns : goal.returns
returns c =
    subst (λ (z : Scope). ReadsAs c.args.context.now c.args.places.now c.args.limit z (written c.args.s.now) c.core_of.result) c.new-scope.ensures c.core_of.ensures.core
