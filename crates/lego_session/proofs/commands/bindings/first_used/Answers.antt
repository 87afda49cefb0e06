use Rattle.std.proofs.Common.{◌≡◌, length, sym, ◌∙◌, subst, arith}
use Rattle.std.proofs.lemmas.Option.{slice_get-get_or}
use Rattle.lego_session.specs.commands.Bindings.{FirstAreNew}
use Rattle.lego_session.proofs.BindingLemmas.{first-more}
use Rattle.lego_session.proofs.commands.bindings.first_used.Goals as goal

pub loop-i-preserved : goal.loop-i-preserved
loop-i-preserved c =
    let more = first-more c.args.context.now.entries c.args.names.now c.loop-i.i _ c.loop-i.seen.keys c.insert.new.self.keys c.loop-i.invariant.seen c.loop-i.invariant.new
    (slice_get-get_or c.args.names.now c.loop-i.i _ c.loop-i-test.true) (sym c.is_used.ensures ∙ c.if-is_used.false) c.in-Ok.ensures.keys in
    record { seen = more.0; new = more.1 }

pub returns : goal.returns
returns c =
    let all : c.loop-i.i ≡ length c.args.names.now = let l = c.loop-i.auto.i-end in let g = c.loop-i-test.false in grind (arith, g) in
    subst (FirstAreNew c.args.context.now.entries c.args.names.now) all c.loop-i.invariant.new
