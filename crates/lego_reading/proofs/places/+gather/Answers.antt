use Rattle.std.proofs.Common.{◌≡◌, ◌++◌, ◌∙◌, take, sym, ap, refl}
use Rattle.std.proofs.lemmas.List.{take_all}
use Rattle.lego_grammar.specs.Surface.{written}
use Rattle.lego_grammar.specs.declared.surface.Surface.{Surface}
use Rattle.lego_grammar.specs.Written.{Written}
use Rattle.lego_reading.specs.Universes.{type_places, with_places}
use Rattle.lego_reading.proofs.SizeLemmas.{written-Bind, written-Local, written-Apply, written-Pair, written-Project}
use Rattle.lego_reading.proofs.UniverseLemmas.{argument_places, applied-places, projected-places, argument_gathered, then_places, ok_then}
use Rattle.lego_reading.proofs.places.+gather.Goals as goal

pub loop-argument-init : goal.loop-argument-init
loop-argument-init t c = refl

pub loop-argument-preserved : goal.loop-argument-preserved
loop-argument-preserved t c = argument_gathered _ _ _ c.items-argument-items.result.now c.loop-argument.argument-index c.loop-argument-item.result c.loop-argument-test.true
    c.loop-argument-item.is c.loop-argument.invariant c.in_ok-gather-in-Apply-2.ensures

pub returns-in_ok-gather-in-Bind : goal.returns-in_ok-gather-in-Bind
returns-in_ok-gather-in-Bind t c =
    ok_then c.gather-in-Bind.result (then_places c.args.places.now.items c.gather.new.places.items c.gather-in-Bind.new.places.items
    (type_places (written c.get.result.now)) (type_places (written c.get-in-Bind.result.now)) (type_places (written c.args.s.now))
    (ap type_places (ap written c.in-Bind.is ∙ written-Bind c.in-Bind.kind c.in-Bind.mark c.in-Bind.names c.in-Bind.domain c.in-Bind.body
    ∙ sym (λ z. Written.Bind c.in-Bind.kind c.in-Bind.mark c.in-Bind.names (written (c.get.ensures z)) (written (c.get-in-Bind.ensures z)))))
    c.in_ok-gather-in-Bind.ensures) c.gather-in-Bind.ensures

pub returns-in_ok-gather-in-Local : goal.returns-in_ok-gather-in-Local
returns-in_ok-gather-in-Local t c =
    ok_then c.gather-in-Local-2.result (then_places c.args.places.now.items c.gather-in-Local.new.places.items c.gather-in-Local-2.new.places.items
    (type_places (written c.get-in-Local.result.now)) (type_places (written c.get-in-Local-2.result.now)) (type_places (written c.args.s.now))
    (ap type_places (ap written c.in-Local.is ∙ written-Local c.in-Local.name c.in-Local.value c.in-Local.body
    ∙ sym (λ z. Written.Local c.in-Local.name (written (c.get-in-Local.ensures z)) (written (c.get-in-Local-2.ensures z)))))
    c.in_ok-gather-in-Local.ensures) c.gather-in-Local-2.ensures

pub returns-after-loop-argument : goal.returns-after-loop-argument
returns-after-loop-argument t c =
    let all : argument_places (take c.loop-argument.argument-index c.items-argument-items.result.now) ≡ argument_places c.in-Apply.arguments =
    ap argument_places (take_all c.loop-argument.argument-index c.items-argument-items.result.now c.loop-argument-test.false) ∙ ap argument_places c.items-argument-items.ensures in
    then_places c.args.places.now.items c.gather-in-Apply.new.places.items c.loop-argument.places.items
    (type_places (written c.get-in-Apply.result.now)) (argument_places c.in-Apply.arguments) (type_places (written c.args.s.now))
    (ap type_places (ap written c.in-Apply.is ∙ written-Apply c.in-Apply.function c.in-Apply.arguments)
    ∙ applied-places (written c.in-Apply.function) c.in-Apply.arguments
    ∙ sym (ap (λ (f : Surface). type_places (written f) ++ argument_places c.in-Apply.arguments) c.get-in-Apply.ensures))
    c.in_ok-gather-in-Apply.ensures (c.loop-argument.invariant ∙ ap (with_places c.gather-in-Apply.new.places.items) all)

pub returns-in_ok-gather-in-Pair-2 : goal.returns-in_ok-gather-in-Pair-2
returns-in_ok-gather-in-Pair-2 t c =
    let ty = type_places (written c.get-in-Pair.result.now) in
    let first = type_places (written c.get-in-Pair-2.result.now) in
    let second = type_places (written c.get-in-Pair-3.result.now) in
    ok_then c.gather-in-Pair-3.result (then_places c.args.places.now.items c.gather-in-Pair-2.new.places.items c.gather-in-Pair-3.new.places.items
    (ty ++ first) second (type_places (written c.args.s.now))
    (ap type_places (ap written c.in-Pair.is ∙ written-Pair c.in-Pair.first c.in-Pair.second c.in-Pair.ty
    ∙ sym (λ z. Written.Pair (written (c.get-in-Pair-2.ensures z)) (written (c.get-in-Pair-3.ensures z)) (written (c.get-in-Pair.ensures z)))))
    (then_places c.args.places.now.items c.gather-in-Pair.new.places.items c.gather-in-Pair-2.new.places.items ty first (ty ++ first) refl
    c.in_ok-gather-in-Pair.ensures c.in_ok-gather-in-Pair-2.ensures)) c.gather-in-Pair-3.ensures

pub returns-in-Project : goal.returns-in-Project
returns-in-Project t c =
    ok_then c.gather-in-Project.result (λ e. e ∙ ap (with_places c.args.places.now.items) (sym (
    ap type_places (ap written c.in-Project.is ∙ written-Project c.in-Project.of c.in-Project.parts) ∙ projected-places (written c.in-Project.of) c.in-Project.parts
    ∙ sym (ap (λ (m : Surface). type_places (written m)) c.get-in-Project.ensures)))) c.gather-in-Project.ensures
