use Rattle.std.proofs.Common.{map, ◌≡◌, ℕ, ◌+◌, ◌≤◌, ◌∙◌, List, [], ◌∷◌, ◌++◌, length, take, drop, get_or, length-take-le, Some, None, Ok, Err, refl, sym, ap, subst, arith}
use Rattle.std.proofs.lemmas.Result.{err_from_is_err_and}
use Rattle.lego_term.specs.declared.binder.Mark.TheVariants.{Plain}
use Rattle.lego_term.specs.Trees.{Core, App, Pair, Let}
use Rattle.std.proofs.lemmas.List.{take_all, take_more}
use Rattle.lego_grammar.specs.Surface.{written, applied, projected}
use Rattle.lego_grammar.specs.declared.surface.Surface.{Surface}
use Rattle.lego_term.specs.declared.binder.Mark.{Mark}
use Rattle.lego_reading.specs.private.Sizes.{nodes}
use Rattle.lego_grammar.specs.Written.{Written}
use Rattle.lego_grammar.specs.Reading.{binder}
use Rattle.lego_reading.specs.Universes.{variables_for}
use Rattle.lego_reading.specs.private.Binders.{AreDomains, inner_scope, written_argument}
use Rattle.lego_reading.proofs.RunLemmas.{arguments_stop, argument_halts, item_more, parts_stop}
use Rattle.lego_reading.proofs.SizeLemmas.{written-Name, written-Prop, written-AnyType, written-TypeAt, written-Hole, written-Bind, written-Local, written-Pair, written-Apply, written-Project, nodes-Local, nodes-Pair, nodes-Apply, nodes-Project, nodes_of_all, argument_within}
use Rattle.lego_grammar.specs.Scopes.{LocalVariable, Scope}
use Rattle.lego_inference.specs.Entries.{laws_entries}
use Rattle.lego_reading.specs.private.Variables.{AreOver}
use Rattle.lego_reading.proofs.AnnotationLemmas.{annotated_at}
use Rattle.lego_reading.specs.private.Parts.{IsReady, IsReading, Stops, ReadsAs}
use Rattle.lego_reading.proofs.PartLemmas.{unknown_goal, stops_at, reading_at, on_any, nameless_is, domain_stops, nameless_stops, local_is, value_stops, local_stops, pair_is, pair_type_stops, annotation_stops, first_stops, second_stops}
use Rattle.lego_reading.proofs.ReadyLemmas.{ready_applied, ready_item, ready_projected, length-inner, ready_in, ready_domain, ready_body, ready_nameless, ready_value, ready_local, ready_type, ready_first, ready_second}
use Rattle.lego_reading.proofs.BinderLemmas.{no_names, inner-push, drop-inner, domains_push, domains_length, domain_halts, body_halts}
use Rattle.lego_reading.proofs.reading.+reading.Goals as goal

pub nameless-core_of-requires : goal.nameless-core_of-requires
nameless-core_of-requires t c = let falls = c.decreases in (omega arith, ready_domain [] (omega arith) c.requires)

pub nameless-returns-in_err-domain-clause-core : goal.nameless-returns-in_err-domain-clause-core
nameless-returns-in_err-domain-clause-core t c =
    let e = err_from_is_err_and c.from_residual.result c.from_residual.ensures.1 in
    rw (e.1, e.2) (domain_stops c.in_err-domain.ensures.core)

pub nameless-returns-in_err-push-clause-core : goal.nameless-returns-in_err-push-clause-core
nameless-returns-in_err-push-clause-core t c =
    let e = err_from_is_err_and c.from_residual-in_err-push.result c.from_residual-in_err-push.ensures.1 in
    rw (e.1, e.2) Stops.memory

pub nameless-core_of-requires-2 : goal.nameless-core_of-requires-2
nameless-core_of-requires-2 t c =
    let falls = c.decreases in
    (omega arith, ready_in (c.in_ok-push.ensures ∙ ap (λ (z : Scope). LocalVariable.Bound None ∷ z) c.in_ok-domain.ensures.scope) (ready_nameless c.requires))

pub nameless-returns-in_err-body-clause-core : goal.nameless-returns-in_err-body-clause-core
nameless-returns-in_err-body-clause-core t c =
    let e = err_from_is_err_and c.from_residual-in_err-body.result c.from_residual-in_err-body.ensures.1 in
    rw (e.1, e.2) (nameless_stops c.in_ok-domain.ensures.core
    (stops_at (c.in_ok-push.ensures ∙ ap (λ (z : Scope). LocalVariable.Bound None ∷ z) c.in_ok-domain.ensures.scope) c.in_err-body.ensures.core))

pub nameless-pop-requires : goal.nameless-pop-requires
nameless-pop-requires t c = let k = ap (λ (z : Scope). length z) (c.in_ok-body.ensures.scope ∙ c.in_ok-push.ensures) in omega arith

pub nameless-returns-clause-core : goal.nameless-returns-clause-core
nameless-returns-clause-core t c =
    nameless_is c.args.setting.now.limit c.args.head.now.kind c.args.head.now.mark c.bound.result c.in_ok-domain.ensures.core
    (reading_at (c.in_ok-push.ensures ∙ ap (λ (z : Scope). LocalVariable.Bound None ∷ z) c.in_ok-domain.ensures.scope) c.in_ok-body.ensures.core) c.bound.ensures

pub nameless-returns-clause-scope : goal.nameless-returns-clause-scope
nameless-returns-clause-scope t c =
    on_any c.bound.result (c.pop.ensures ∙ ap (λ (z : Scope). drop 1 z) (c.in_ok-body.ensures.scope ∙ c.in_ok-push.ensures) ∙ c.in_ok-domain.ensures.scope)

pub local_definition-core_of-requires : goal.local_definition-core_of-requires
local_definition-core_of-requires t c = let falls = c.decreases in (omega arith, ready_value c.requires)

pub local_definition-returns-in_err-value-clause-core : goal.local_definition-returns-in_err-value-clause-core
local_definition-returns-in_err-value-clause-core t c =
    let e = err_from_is_err_and c.from_residual.result c.from_residual.ensures.1 in
    rw (e.1, e.2) (value_stops c.in_err-value.ensures.core)

pub local_definition-returns-in_err-shared-clause-core : goal.local_definition-returns-in_err-shared-clause-core
local_definition-returns-in_err-shared-clause-core t c =
    let e = err_from_is_err_and c.from_residual-in_err-shared.result c.from_residual-in_err-shared.ensures.1 in
    rw (e.1, e.2) Stops.memory

pub local_definition-returns-in_err-push-clause-core : goal.local_definition-returns-in_err-push-clause-core
local_definition-returns-in_err-push-clause-core t c =
    let e = err_from_is_err_and c.from_residual-in_err-push.result c.from_residual-in_err-push.ensures.1 in
    rw (e.1, e.2) Stops.memory

pub local_definition-core_of-requires-2 : goal.local_definition-core_of-requires-2
local_definition-core_of-requires-2 t c =
    let falls = c.decreases in
    (omega arith, ready_in (c.in_ok-push.ensures ∙ ap (λ (z : Core). LocalVariable.Defined c.args.name z ∷ c.core_of.new.scope) c.in_ok-shared.ensures.same ∙ ap (λ (z : Scope). LocalVariable.Defined c.args.name c.in_ok-value.value ∷ z) c.in_ok-value.ensures.scope) (ready_local c.in_ok-value.ensures.core.over c.requires))

pub local_definition-returns-in_err-body-clause-core : goal.local_definition-returns-in_err-body-clause-core
local_definition-returns-in_err-body-clause-core t c =
    let e = err_from_is_err_and c.from_residual-in_err-body.result c.from_residual-in_err-body.ensures.1 in
    rw (e.1, e.2) (local_stops c.in_ok-value.ensures.core (stops_at (c.in_ok-push.ensures ∙ ap (λ (z : Core). LocalVariable.Defined c.args.name z ∷ c.core_of.new.scope) c.in_ok-shared.ensures.same ∙ ap (λ (z : Scope). LocalVariable.Defined c.args.name c.in_ok-value.value ∷ z) c.in_ok-value.ensures.scope) c.in_err-body.ensures.core))

pub local_definition-pop-requires : goal.local_definition-pop-requires
local_definition-pop-requires t c = let k = ap (λ (z : Scope). length z) (c.in_ok-body.ensures.scope ∙ c.in_ok-push.ensures) in omega arith

pub local_definition-returns-clause-core : goal.local_definition-returns-clause-core
local_definition-returns-clause-core t c =
    local_is c.args.setting.now.limit c.made.result c.in_ok-value.ensures.core (reading_at (c.in_ok-push.ensures ∙ ap (λ (z : Core). LocalVariable.Defined c.args.name z ∷ c.core_of.new.scope) c.in_ok-shared.ensures.same ∙ ap (λ (z : Scope). LocalVariable.Defined c.args.name c.in_ok-value.value ∷ z) c.in_ok-value.ensures.scope) c.in_ok-body.ensures.core)
    (c.made.ensures (Let (binder (Some c.args.name) Plain) c.in_ok-value.value c.in_ok-body.body) c.local.ensures)

pub local_definition-returns-clause-scope : goal.local_definition-returns-clause-scope
local_definition-returns-clause-scope t c =
    on_any c.made.result (c.pop.ensures ∙ ap (λ (z : Scope). drop 1 z) (c.in_ok-body.ensures.scope ∙ c.in_ok-push.ensures) ∙ c.in_ok-value.ensures.scope)

pub pairing-core_of-requires : goal.pairing-core_of-requires
pairing-core_of-requires t c = let falls = c.decreases in (omega arith, ready_type c.requires)

pub pairing-returns-in_err-ty-clause-core : goal.pairing-returns-in_err-ty-clause-core
pairing-returns-in_err-ty-clause-core t c =
    let e = err_from_is_err_and c.from_residual.result c.from_residual.ensures.1 in
    rw (e.1, e.2) (pair_type_stops c.in_err-ty.ensures.core)

pub pairing-annotation-requires-clause-scope : goal.pairing-annotation-requires-clause-scope
pairing-annotation-requires-clause-scope t c = subst AreOver (sym c.in_ok-ty.ensures.scope) c.requires.over

pub pairing-annotation-requires-clause-room : goal.pairing-annotation-requires-clause-room
pairing-annotation-requires-clause-room t c = let k = ap (λ (z : Scope). length z) c.in_ok-ty.ensures.scope in let f = c.requires.few in omega arith

pub pairing-annotation-requires-clause-within : goal.pairing-annotation-requires-clause-within
pairing-annotation-requires-clause-within t c = let k = ap (λ (z : Scope). length z) c.in_ok-ty.ensures.scope in let l = c.in_ok-ty.ensures.core.over in omega arith

pub pairing-returns-in_err-sigma-clause-core : goal.pairing-returns-in_err-sigma-clause-core
pairing-returns-in_err-sigma-clause-core t c =
    let e = err_from_is_err_and c.from_residual-in_err-sigma.result c.from_residual-in_err-sigma.ensures.1 in
    rw (e.1, e.2) (annotation_stops c.in_ok-ty.ensures.core (annotated_at (laws_entries c.args.setting.now.context.now.entries) c.args.setting.now.limit c.in_ok-ty.ty (Err c.in_err-sigma.field-0.0) c.in_ok-ty.ensures.scope c.in_err-sigma.ensures))

pub pairing-core_of-requires-2 : goal.pairing-core_of-requires-2
pairing-core_of-requires-2 t c = let falls = c.decreases in (omega arith, ready_in c.in_ok-ty.ensures.scope (ready_first c.requires))

pub pairing-returns-in_err-first-clause-core : goal.pairing-returns-in_err-first-clause-core
pairing-returns-in_err-first-clause-core t c =
    let e = err_from_is_err_and c.from_residual-in_err-first.result c.from_residual-in_err-first.ensures.1 in
    rw (e.1, e.2) (first_stops c.in_ok-ty.ensures.core (annotated_at (laws_entries c.args.setting.now.context.now.entries) c.args.setting.now.limit c.in_ok-ty.ty (Ok c.in_ok-sigma.sigma) c.in_ok-ty.ensures.scope c.in_ok-sigma.ensures).0
    (stops_at c.in_ok-ty.ensures.scope c.in_err-first.ensures.core))

pub pairing-core_of-requires-3 : goal.pairing-core_of-requires-3
pairing-core_of-requires-3 t c =
    let falls = c.decreases in (omega arith, ready_in (c.in_ok-first.ensures.scope ∙ c.in_ok-ty.ensures.scope) (ready_second c.requires))

pub pairing-returns-in_err-second-clause-core : goal.pairing-returns-in_err-second-clause-core
pairing-returns-in_err-second-clause-core t c =
    let e = err_from_is_err_and c.from_residual-in_err-second.result c.from_residual-in_err-second.ensures.1 in
    rw (e.1, e.2) (second_stops c.in_ok-ty.ensures.core (annotated_at (laws_entries c.args.setting.now.context.now.entries) c.args.setting.now.limit c.in_ok-ty.ty (Ok c.in_ok-sigma.sigma) c.in_ok-ty.ensures.scope c.in_ok-sigma.ensures).0
    (reading_at c.in_ok-ty.ensures.scope c.in_ok-first.ensures.core)
    (stops_at (c.in_ok-first.ensures.scope ∙ c.in_ok-ty.ensures.scope) c.in_err-second.ensures.core))

pub pairing-returns-clause-core : goal.pairing-returns-clause-core
pairing-returns-clause-core t c =
    let k = annotated_at (laws_entries c.args.setting.now.context.now.entries) c.args.setting.now.limit c.in_ok-ty.ty (Ok c.in_ok-sigma.sigma) c.in_ok-ty.ensures.scope c.in_ok-sigma.ensures in
    pair_is c.args.setting.now.limit c.made.result c.in_ok-ty.ensures.core k.0 k.1 (reading_at c.in_ok-ty.ensures.scope c.in_ok-first.ensures.core)
    (reading_at (c.in_ok-first.ensures.scope ∙ c.in_ok-ty.ensures.scope) c.in_ok-second.ensures.core)
    (c.made.ensures (Pair c.in_ok-sigma.sigma.binder c.in_ok-sigma.sigma.first c.in_ok-sigma.sigma.second c.in_ok-first.first c.in_ok-second.second) c.pair.ensures)

pub pairing-returns-clause-scope : goal.pairing-returns-clause-scope
pairing-returns-clause-scope t c = on_any c.made.result (c.in_ok-second.ensures.scope ∙ c.in_ok-first.ensures.scope ∙ c.in_ok-ty.ensures.scope)

pub core_of-returns-in-Name-clause-core : goal.core_of-returns-in-Name-clause-core
core_of-returns-in-Name-clause-core t c =
    subst (λ (w : Written). ReadsAs c.args.setting.now.context.now c.args.setting.now.places.now c.args.setting.now.limit c.args.scope.now w c.name.result) (sym (ap written c.in-Name.is ∙ written-Name c.in-Name.place c.in-Name.n)) c.name.ensures

pub core_of-returns-in-Name-clause-scope : goal.core_of-returns-in-Name-clause-scope
core_of-returns-in-Name-clause-scope t c = on_any c.name.result refl

pub core_of-returns-in-Prop-clause-core : goal.core_of-returns-in-Prop-clause-core
core_of-returns-in-Prop-clause-core t c =
    subst (λ (w : Written). ReadsAs c.args.setting.now.context.now c.args.setting.now.places.now c.args.setting.now.limit c.args.scope.now w c.proposition.result) (sym (ap written c.in-Prop.is ∙ written-Prop)) c.proposition.ensures

pub core_of-returns-in-Prop-clause-scope : goal.core_of-returns-in-Prop-clause-scope
core_of-returns-in-Prop-clause-scope t c = on_any c.proposition.result refl

pub core_of-returns-in-AnyType-clause-core : goal.core_of-returns-in-AnyType-clause-core
core_of-returns-in-AnyType-clause-core t c =
    subst (λ (w : Written). ReadsAs c.args.setting.now.context.now c.args.setting.now.places.now c.args.setting.now.limit c.args.scope.now w c.any_type.result) (sym (ap written c.in-AnyType.is ∙ written-AnyType c.in-AnyType.place)) c.any_type.ensures

pub core_of-returns-in-AnyType-clause-scope : goal.core_of-returns-in-AnyType-clause-scope
core_of-returns-in-AnyType-clause-scope t c = on_any c.any_type.result refl

pub core_of-returns-in-TypeAt-clause-core : goal.core_of-returns-in-TypeAt-clause-core
core_of-returns-in-TypeAt-clause-core t c =
    subst (λ (w : Written). ReadsAs c.args.setting.now.context.now c.args.setting.now.places.now c.args.setting.now.limit c.args.scope.now w c.type_at.result) (sym (ap written c.in-TypeAt.is ∙ written-TypeAt c.in-TypeAt.level)) c.type_at.ensures

pub core_of-returns-in-TypeAt-clause-scope : goal.core_of-returns-in-TypeAt-clause-scope
core_of-returns-in-TypeAt-clause-scope t c = on_any c.type_at.result refl

pub core_of-returns-in-Hole-clause-core : goal.core_of-returns-in-Hole-clause-core
core_of-returns-in-Hole-clause-core t c = rw (ap written c.in-Hole.is ∙ written-Hole c.in-Hole.place c.in-Hole.number) unknown_goal

pub core_of-returns-in-Local-clause-core : goal.core_of-returns-in-Local-clause-core
core_of-returns-in-Local-clause-core t c =
    subst (λ (w : Written). ReadsAs c.args.setting.now.context.now c.args.setting.now.places.now c.args.setting.now.limit c.args.scope.now w c.local_definition.result) (sym (ap written c.in-Local.is ∙ written-Local c.in-Local.name c.in-Local.value c.in-Local.body ∙ sym (λ z. Written.Local c.in-Local.name (written (c.get-in-Local.ensures z)) (written (c.get-in-Local-2.ensures z))))) c.local_definition.ensures.core

pub core_of-returns-in-Local-clause-scope : goal.core_of-returns-in-Local-clause-scope
core_of-returns-in-Local-clause-scope t c = c.local_definition.ensures.scope

pub core_of-name-requires : goal.core_of-name-requires
core_of-name-requires t c = let f = c.requires.few in omega arith

pub core_of-any_type-requires-clause-held : goal.core_of-any_type-requires-clause-held
core_of-any_type-requires-clause-held t c =
    (subst (λ (w : Written). IsReady c.args.setting.now.context.now c.args.setting.now.places.now c.args.scope.now w) (ap written c.in-AnyType.is ∙ written-AnyType c.in-AnyType.place) c.requires).held.0

pub core_of-any_type-requires-clause-room : goal.core_of-any_type-requires-clause-room
core_of-any_type-requires-clause-room t c = c.requires.room

pub core_of-returns-then-is_empty-clause-scope : goal.core_of-returns-then-is_empty-clause-scope
core_of-returns-then-is_empty-clause-scope t c = c.nameless.ensures.scope

pub core_of-returns-else-is_empty-clause-scope : goal.core_of-returns-else-is_empty-clause-scope
core_of-returns-else-is_empty-clause-scope t c = c.named.ensures.scope

pub application-core_of-requires : goal.application-core_of-requires
application-core_of-requires t c =
    let falls = c.decreases in
    (omega arith, ready_applied (written c.args.function.now) (map written_argument c.args.arguments.now) c.requires)

pub application-returns-in_err-applied-clause-core : goal.application-returns-in_err-applied-clause-core
application-returns-in_err-applied-clause-core t c =
    let e = err_from_is_err_and c.from_residual.result c.from_residual.ensures.1 in
    rw (e.1, e.2) (arguments_stop (written c.args.function.now) c.args.arguments.now 0 c.in_err-applied.ensures.core)

pub application-returns-clause-scope : goal.application-returns-clause-scope
application-returns-clause-scope t c = c.loop-mark.invariant.1

pub application-returns-clause-core : goal.application-returns-clause-core
application-returns-clause-core t c =
    subst (λ xs. IsReading (laws_entries c.args.setting.now.context.now.entries) (variables_for c.args.setting.now.context.now.levels c.args.setting.now.places.now)
    c.args.scope.now (applied (written c.args.function.now) (map written_argument xs)) c.loop-mark.applied)
    (take_all c.loop-mark.mark-index c.args.arguments.now c.loop-mark-test.false) c.loop-mark.invariant.0

pub core_of-local_definition-requires : goal.core_of-local_definition-requires
core_of-local_definition-requires t c =
    let falls = c.decreases in let size = ap nodes c.in-Local.is ∙ nodes-Local c.in-Local.name c.in-Local.value c.in-Local.body in let n0 = ap nodes c.get-in-Local.ensures in let n1 = ap nodes c.get-in-Local-2.ensures in
    (omega arith, subst (λ (w : Written). IsReady c.args.setting.now.context.now c.args.setting.now.places.now c.args.scope.now w) (ap written c.in-Local.is ∙ written-Local c.in-Local.name c.in-Local.value c.in-Local.body ∙ sym (λ z. Written.Local c.in-Local.name (written (c.get-in-Local.ensures z)) (written (c.get-in-Local-2.ensures z)))) c.requires)

pub core_of-pairing-requires : goal.core_of-pairing-requires
core_of-pairing-requires t c =
    let falls = c.decreases in let size = ap nodes c.in-Pair.is ∙ nodes-Pair c.in-Pair.first c.in-Pair.second c.in-Pair.ty in let n0 = ap nodes c.get-in-Pair.ensures in let n1 = ap nodes c.get-in-Pair-2.ensures in let n2 = ap nodes c.get-in-Pair-3.ensures in
    (omega arith, subst (λ (w : Written). IsReady c.args.setting.now.context.now c.args.setting.now.places.now c.args.scope.now w) (ap written c.in-Pair.is ∙ written-Pair c.in-Pair.first c.in-Pair.second c.in-Pair.ty ∙ sym (λ z. Written.Pair (written (c.get-in-Pair.ensures z)) (written (c.get-in-Pair-2.ensures z)) (written (c.get-in-Pair-3.ensures z)))) c.requires)

pub core_of-returns-in-Pair-clause-core : goal.core_of-returns-in-Pair-clause-core
core_of-returns-in-Pair-clause-core t c =
    subst (λ (w : Written). ReadsAs c.args.setting.now.context.now c.args.setting.now.places.now c.args.setting.now.limit c.args.scope.now w c.pairing.result) (sym (ap written c.in-Pair.is ∙ written-Pair c.in-Pair.first c.in-Pair.second c.in-Pair.ty ∙ sym (λ z. Written.Pair (written (c.get-in-Pair.ensures z)) (written (c.get-in-Pair-2.ensures z)) (written (c.get-in-Pair-3.ensures z))))) c.pairing.ensures.core

pub core_of-returns-in-Pair-clause-scope : goal.core_of-returns-in-Pair-clause-scope
core_of-returns-in-Pair-clause-scope t c = c.pairing.ensures.scope

pub core_of-application-requires : goal.core_of-application-requires
core_of-application-requires t c =
    let falls = c.decreases in let size = ap nodes c.in-Apply.is ∙ nodes-Apply c.in-Apply.function c.in-Apply.arguments in let n0 = ap nodes c.get-in-Apply.ensures in let n1 = ap (λ (xs : List (Mark × Surface)). nodes_of_all xs) c.items-in-Apply.ensures in
    (omega arith, subst (λ (w : Written). IsReady c.args.setting.now.context.now c.args.setting.now.places.now c.args.scope.now w) (ap written c.in-Apply.is ∙ written-Apply c.in-Apply.function c.in-Apply.arguments ∙ sym (λ z. applied (written (c.get-in-Apply.ensures z)) (map written_argument (c.items-in-Apply.ensures z)))) c.requires)

pub core_of-returns-in-Apply-clause-core : goal.core_of-returns-in-Apply-clause-core
core_of-returns-in-Apply-clause-core t c =
    subst (λ (w : Written). ReadsAs c.args.setting.now.context.now c.args.setting.now.places.now c.args.setting.now.limit c.args.scope.now w c.application.result) (sym (ap written c.in-Apply.is ∙ written-Apply c.in-Apply.function c.in-Apply.arguments ∙ sym (λ z. applied (written (c.get-in-Apply.ensures z)) (map written_argument (c.items-in-Apply.ensures z))))) c.application.ensures.core

pub core_of-returns-in-Apply-clause-scope : goal.core_of-returns-in-Apply-clause-scope
core_of-returns-in-Apply-clause-scope t c = c.application.ensures.scope

pub core_of-core_of-requires : goal.core_of-core_of-requires
core_of-core_of-requires t c =
    let falls = c.decreases in let size = ap nodes c.in-Project.is ∙ nodes-Project c.in-Project.of c.in-Project.parts in let n0 = ap nodes c.get-in-Project.ensures in
    (omega arith, ready_projected (written c.get-in-Project.result.now) c.in-Project.parts (subst (λ (w : Written). IsReady c.args.setting.now.context.now c.args.setting.now.places.now c.args.scope.now w) (ap written c.in-Project.is ∙ written-Project c.in-Project.of c.in-Project.parts ∙ sym (λ z. projected (written (c.get-in-Project.ensures z)) c.in-Project.parts)) c.requires))

pub named-domains-requires : goal.named-domains-requires
named-domains-requires t c = let falls = c.decreases in (omega arith, c.requires.ready)

pub named-returns-in_err-domains-clause-core : goal.named-returns-in_err-domains-clause-core
named-returns-in_err-domains-clause-core t c =
    let e = err_from_is_err_and c.from_residual.result c.from_residual.ensures.1 in
    rw (e.1, e.2) c.in_err-domains.ensures.err

pub named-core_of-requires : goal.named-core_of-requires
named-core_of-requires t c = let falls = c.decreases in (omega arith, ready_in c.in_ok-domains.ensures.scope (ready_body c.requires.ready))

pub named-returns-in_err-body-clause-core : goal.named-returns-in_err-body-clause-core
named-returns-in_err-body-clause-core t c =
    let e = err_from_is_err_and c.from_residual-in_err-body.result c.from_residual-in_err-body.ensures.1 in
    rw (e.1, e.2) (body_halts c.args.setting.now.limit c.args.head.now.kind c.args.head.now.mark (written c.args.body.now) c.in_err-body.field-0.0 c.requires.names
    c.in_ok-domains.ensures.cores (stops_at c.in_ok-domains.ensures.scope c.in_err-body.ensures.core))

pub named-leave-requires : goal.named-leave-requires
named-leave-requires t c =
    let k = ap (λ (z : Scope). length z) (c.in_ok-body.ensures.scope ∙ c.in_ok-domains.ensures.scope) in
    let e = length-inner c.args.scope.now c.args.head.now.names.now in omega arith

pub named-enclosed-requires-clause-names : goal.named-enclosed-requires-clause-names
named-enclosed-requires-clause-names t c = c.requires.names

pub named-returns-clause-scope : goal.named-returns-clause-scope
named-returns-clause-scope t c =
    on_any c.enclosed.result (c.leave.ensures ∙ ap (λ (z : Scope). drop (length c.args.head.now.names.now) z) (c.in_ok-body.ensures.scope ∙ c.in_ok-domains.ensures.scope)
    ∙ drop-inner c.args.scope.now c.args.head.now.names.now)

pub application-loop-mark-init : goal.application-loop-mark-init
application-loop-mark-init t c = (c.in_ok-applied.ensures.core, c.in_ok-applied.ensures.scope)

pub domains-loop-name-init : goal.domains-loop-name-init
domains-loop-name-init t c = (rw c.new-domains.ensures.items AreDomains.none, refl)

pub domains-returns-in_default-clause-err : goal.domains-returns-in_default-clause-err
domains-returns-in_default-clause-err t c = Stops.memory

pub domains-returns-in_err-push-clause-err : goal.domains-returns-in_err-push-clause-err
domains-returns-in_err-push-clause-err t c =
    let e = err_from_is_err_and c.from_residual-in_err-push.result c.from_residual-in_err-push.ensures.1 in
    rw (e.1, e.2) Stops.memory

pub domains-returns-clause-cores : goal.domains-returns-clause-cores
domains-returns-clause-cores t c =
    subst (λ ns. AreDomains (laws_entries c.args.setting.now.context.now.entries) (variables_for c.args.setting.now.context.now.levels c.args.setting.now.places.now) (written c.args.head.now.domain.now) c.args.scope.now ns c.loop-name.domains.items)
    (take_all c.loop-name.name-index c.args.head.now.names.now c.loop-name-test.false) c.loop-name.invariant.0

pub domains-returns-clause-scope : goal.domains-returns-clause-scope
domains-returns-clause-scope t c =
    c.loop-name.invariant.1 ∙ ap (inner_scope c.args.scope.now) (take_all c.loop-name.name-index c.args.head.now.names.now c.loop-name-test.false)

pub application-core_of-requires-in-loop-mark : goal.application-core_of-requires-in-loop-mark
application-core_of-requires-in-loop-mark t c =
    let falls = c.decreases in
    let xs = c.args.arguments.now in
    let x = c.loop-mark-item.result in
    let within = argument_within xs c.loop-mark.mark-index x c.loop-mark-test.true in
    let same = ap (λ (y : Mark × Surface). nodes y.1) c.loop-mark-item.is in
    (omega arith, ready_in c.loop-mark.invariant.1 (ready_item (written c.args.function.now) xs c.loop-mark.mark-index x c.loop-mark-test.true c.loop-mark-item.is c.requires))

pub application-returns-in_err-argument-clause-core : goal.application-returns-in_err-argument-clause-core
application-returns-in_err-argument-clause-core t c =
    let e = err_from_is_err_and c.from_residual-in_err-argument.result c.from_residual-in_err-argument.ensures.1 in
    rw (e.1, e.2) (argument_halts (written c.args.function.now) c.args.arguments.now c.loop-mark.mark-index c.loop-mark-item.result c.loop-mark-test.true
    c.loop-mark.invariant.0
    (subst (λ (x : Mark × Surface). Stops (laws_entries c.args.setting.now.context.now.entries) (variables_for c.args.setting.now.context.now.levels c.args.setting.now.places.now)
    c.args.setting.now.limit c.args.scope.now (written x.1) c.in_err-argument.field-0.0) c.loop-mark-item.is
    (stops_at c.loop-mark.invariant.1 c.in_err-argument.ensures.core)))

pub application-returns-in_err-applied-2-clause-core : goal.application-returns-in_err-applied-2-clause-core
application-returns-in_err-applied-2-clause-core t c =
    let x = c.loop-mark-item.result in
    let e = err_from_is_err_and c.from_residual-in_err-applied-2.result c.from_residual-in_err-applied-2.ensures.1 in
    rw (e.1, e.2) (arguments_stop (written c.args.function.now) c.args.arguments.now (c.loop-mark.mark-index + 1)
    (item_more c.args.setting.now.limit (written c.args.function.now) c.args.arguments.now c.loop-mark.mark-index x (Err c.in_err-applied-2.field-0.0)
    c.loop-mark-test.true c.loop-mark-item.is c.loop-mark.invariant.0 (reading_at c.loop-mark.invariant.1 c.in_ok-argument.ensures.core)
    (c.in_err-applied-2.ensures (App x.0 c.loop-mark.applied c.in_ok-argument.argument) c.app.ensures)))

pub application-loop-mark-preserved : goal.application-loop-mark-preserved
application-loop-mark-preserved t c =
    let x = c.loop-mark-item.result in (
      item_more 0 (written c.args.function.now) c.args.arguments.now c.loop-mark.mark-index x (Ok c.in_ok-applied-2.applied)
          c.loop-mark-test.true c.loop-mark-item.is c.loop-mark.invariant.0 (reading_at c.loop-mark.invariant.1 c.in_ok-argument.ensures.core)
          (c.in_ok-applied-2.ensures (App x.0 c.loop-mark.applied c.in_ok-argument.argument) c.app.ensures),
      c.in_ok-argument.ensures.scope ∙ c.loop-mark.invariant.1,
    )

pub core_of-returns-in_err-of-in-Project-clause-core : goal.core_of-returns-in_err-of-in-Project-clause-core
core_of-returns-in_err-of-in-Project-clause-core t c =
    let e = err_from_is_err_and c.from_residual.result c.from_residual.ensures.1 in
    rw (e.1, e.2) (subst (λ (w : Written). Stops (laws_entries c.args.setting.now.context.now.entries) (variables_for c.args.setting.now.context.now.levels c.args.setting.now.places.now)
    c.args.setting.now.limit c.args.scope.now w c.in_err-of-in-Project.field-0.0)
    (sym (ap written c.in-Project.is ∙ written-Project c.in-Project.of c.in-Project.parts ∙ sym (λ z. projected (written (c.get-in-Project.ensures z)) c.in-Project.parts)))
    (parts_stop (written c.get-in-Project.result.now) c.in-Project.parts 0 c.in_err-of-in-Project.ensures.core))

pub core_of-returns-then-is_empty-clause-core : goal.core_of-returns-then-is_empty-clause-core
core_of-returns-then-is_empty-clause-core t c =
    subst (λ (w : Written). ReadsAs c.args.setting.now.context.now c.args.setting.now.places.now c.args.setting.now.limit c.args.scope.now w c.nameless.result)
    (sym (ap written c.in-Bind.is ∙ written-Bind c.in-Bind.kind c.in-Bind.mark c.in-Bind.names c.in-Bind.domain c.in-Bind.body
    ∙ ap (λ ns. Written.Bind c.in-Bind.kind c.in-Bind.mark ns (written c.in-Bind.domain) (written c.in-Bind.body))
    (sym c.items.ensures ∙ no_names c.items.result.now c.if-is_empty.ensures)
    ∙ sym (λ z. Written.Bind c.in-Bind.kind c.in-Bind.mark [] (written (c.get.ensures z)) (written (c.get-then-is_empty.ensures z)))))
    c.nameless.ensures.core

pub core_of-returns-in_ok-of-in-Project-clause-core : goal.core_of-returns-in_ok-of-in-Project-clause-core
core_of-returns-in_ok-of-in-Project-clause-core t c =
    let es = laws_entries c.args.setting.now.context.now.entries in
    let types = variables_for c.args.setting.now.context.now.levels c.args.setting.now.places.now in
    subst (λ (w : Written). ReadsAs c.args.setting.now.context.now c.args.setting.now.places.now c.args.setting.now.limit c.args.scope.now w c.projections.result)
    (sym (ap written c.in-Project.is ∙ written-Project c.in-Project.of c.in-Project.parts
    ∙ sym (λ z. projected (written (c.get-in-Project.ensures z)) (c.items-in-Project.ensures z))))
    (c.projections.ensures es types c.args.setting.now.limit c.args.scope.now (written c.get-in-Project.result.now) c.in_ok-of-in-Project.ensures.core)

pub domains-core_of-requires : goal.domains-core_of-requires
domains-core_of-requires t c =
    let falls = c.decreases in
    let front : List ℕ = take c.loop-name.name-index c.args.head.now.names.now in
    let count = length-take-le c.loop-name.name-index c.args.head.now.names.now c.loop-name.auto.name-index-end in
    let within : length front ≤ length c.args.head.now.names.now = omega arith in
    (omega arith, ready_in c.loop-name.invariant.1 (ready_domain front within c.requires))

pub domains-returns-in_err-domain-clause-err : goal.domains-returns-in_err-domain-clause-err
domains-returns-in_err-domain-clause-err t c =
    let e = err_from_is_err_and c.from_residual.result c.from_residual.ensures.1 in
    rw (e.1, e.2) (domain_halts c.args.setting.now.limit c.args.head.now.kind c.args.head.now.mark (written c.args.body.now) c.args.head.now.names.now
    c.loop-name.name-index c.in_err-domain.field-0.0 c.loop-name-test.true refl c.loop-name.invariant.0
    (stops_at c.loop-name.invariant.1 c.in_err-domain.ensures.core))

pub domains-loop-name-preserved : goal.domains-loop-name-preserved
domains-loop-name-preserved t c =
    let names : List ℕ = c.args.head.now.names.now in
    let i = c.loop-name.name-index in
    let n : ℕ = get_or names i 0 in
    let more : take (i + 1) names ≡ take i names ++ n ∷ [] = take_more names i 0 c.loop-name-test.true in
    let es = laws_entries c.args.setting.now.context.now.entries in
    let types = variables_for c.args.setting.now.context.now.levels c.args.setting.now.places.now in (
      subst (λ ns. AreDomains es types (written c.args.head.now.domain.now) c.args.scope.now ns c.push.new.self.items) (sym more)
          (subst (λ (ts : List Core). AreDomains es types (written c.args.head.now.domain.now) c.args.scope.now (take i names ++ n ∷ []) ts) (sym c.in-Ok.ensures.items)
          (domains_push n c.in_ok-domain.domain c.loop-name.invariant.0 (reading_at c.loop-name.invariant.1 c.in_ok-domain.ensures.core))),
      c.in_ok-push.ensures ∙ ap (λ (z : Scope). LocalVariable.Bound (Some n) ∷ z) (c.in_ok-domain.ensures.scope ∙ c.loop-name.invariant.1)
          ∙ sym (inner-push c.args.scope.now (take i names) n) ∙ ap (inner_scope c.args.scope.now) (sym more),
    )

pub named-enclosed-requires-clause-each : goal.named-enclosed-requires-clause-each
named-enclosed-requires-clause-each t c = ap (λ (ts : List Core). length ts) c.deref.ensures.value ∙ domains_length c.in_ok-domains.ensures.cores

pub named-returns-clause-core : goal.named-returns-clause-core
named-returns-clause-core t c =
    let es = laws_entries c.args.setting.now.context.now.entries in
    let types = variables_for c.args.setting.now.context.now.levels c.args.setting.now.places.now in
    c.enclosed.ensures es types c.args.setting.now.limit c.args.scope.now (written c.args.head.now.domain.now) (written c.args.body.now)
    (subst (λ (ts : List Core). AreDomains es types (written c.args.head.now.domain.now) c.args.scope.now c.args.head.now.names.now ts) (sym c.deref.ensures.value) c.in_ok-domains.ensures.cores)
    (reading_at c.in_ok-domains.ensures.scope c.in_ok-body.ensures.core)
