use Rattle.std.proofs.Common.{◌≡◌, false, map, ap, ◌∙◌, sym, refl, subst, IfOk}
use Rattle.lego_grammar.specs.Surface.{written, written_act, written_binding, written_command}
use Rattle.lego_grammar.specs.Written as written
use Rattle.lego_session.specs.Sessions.{Session, context_of}
use Rattle.lego_session.specs.commands.Show.{ShowsType, HasNoType, ShowsForm, HasNoForm}
use Rattle.lego_session.specs.commands.Show as show
use Rattle.lego_session.specs.commands.Ctxt.{ShowsContext}
use Rattle.lego_session.specs.private.Parts.{session_of}
use Rattle.lego_session.proofs.CompletenessLemmas.{refused_for_limits}
use Rattle.lego_session.proofs.DispatchLemmas.{completes, bound, took_back, forgot, printed, prints, not_accepted, not_shown, left_so, still_parts}
use Rattle.lego_session.proofs.KnownLemmas.{outcome_known}
use Rattle.lego_session.proofs.PlacesLemmas.{form_read, form_right}
use Rattle.lego_session.proofs.session.Session.step.Goals as goal

-- bindings
pub bind-requires-clause-right : goal.bind-requires-clause-right
bind-requires-clause-right c =
    let command = c.args.command.now in
    let bs = map written_binding c.items.result.now in
    let is = ap written_act c.in-Bind.is ∙ ap (λ xs. written.Bindings (map written_binding xs)) (sym c.items.ensures) in
    form_right command c.requires.form (written.Bindings bs) is bs refl

pub invariant_of-self : goal.invariant_of-self
invariant_of-self c =
    let p = c.self.inside.parts in
    let q = c.bind.new.self in
    let step =
    bound c.args.names.now c.args.limit p q c.args.self.now c.args.command.now c.bind.result c.self.view_is c.in-Bind.bindings c.items.result.now c.in-Bind.is c.items.ensures
    c.bind.ensures.ok in
    still_parts c.args.names.now c.args.limit p q c.args.self.now c.args.command.now c.bind.result c.self.view_is step c.bind.ensures.err c.bind.ensures.still_goes c.self.invariant

pub returns-in-Bind-clause-ok : goal.returns-in-Bind-clause-ok
returns-in-Bind-clause-ok c =
    bound c.args.names.now c.args.limit c.self.inside.parts c.bind.new.self c.args.self.now c.args.command.now c.bind.result c.self.view_is c.in-Bind.bindings c.items.result.now
    c.in-Bind.is c.items.ensures c.bind.ensures.ok

pub returns-in-Bind-clause-known : goal.returns-in-Bind-clause-known
returns-in-Bind-clause-known c =
    let p = c.self.inside.parts in
    let q = c.bind.new.self in
    let step =
    bound c.args.names.now c.args.limit p q c.args.self.now c.args.command.now c.bind.result c.self.view_is c.in-Bind.bindings c.items.result.now c.in-Bind.is c.items.ensures
    c.bind.ensures.ok in
    let left = left_so c.args.names.now c.args.limit p q c.args.self.now c.args.command.now c.bind.result c.self.view_is c.bind.ensures.err in
    outcome_known c.args.names.now c.args.limit c.args.self.now (session_of q) (written_command c.args.command.now) c.bind.result (λ a. record { refused = false; text = a.text })
    c.requires.built step left

pub returns-in-Bind-clause-typed : goal.returns-in-Bind-clause-typed
returns-in-Bind-clause-typed c =
    let bs = map written_binding c.items.result.now in
    let is = ap written_act c.in-Bind.is ∙ ap (λ xs. written.Bindings (map written_binding xs)) (sym c.items.ensures) in
    refused_for_limits c.args.names.now c.args.limit c.args.self.now (written_command c.args.command.now) c.bind.result
    (not_accepted c.args.names.now c.args.limit c.self.inside.parts c.bind.new.self c.args.self.now c.args.command.now c.bind.result c.self.view_is (written.Bindings bs) is
    c.bind.ensures.cause)

-- a term
pub show_form-requires-clause-read : goal.show_form-requires-clause-read
show_form-requires-clause-read c = form_read c.args.command.now c.requires.form (written.Hnf (written c.in-Hnf.term)) (ap written_act c.in-Hnf.is)

pub returns-in-Hnf-clause-ok : goal.returns-in-Hnf-clause-ok
returns-in-Hnf-clause-ok c =
    printed c.args.names.now c.args.limit c.self.inside.parts c.show_form.new.self c.args.self.now c.args.command.now c.show_form.result c.self.view_is
    (written.Hnf (written c.in-Hnf.term)) (λ context text. ShowsForm show.Head c.args.names.now c.args.limit context c.args.command.now.place (written c.in-Hnf.term) text)
    (ap written_act c.in-Hnf.is) c.show_form.ensures.state (λ s text same h. (same, h)) c.show_form.ensures.ok

pub returns-in-Hnf-clause-typed : goal.returns-in-Hnf-clause-typed
returns-in-Hnf-clause-typed c =
    refused_for_limits c.args.names.now c.args.limit c.args.self.now (written_command c.args.command.now) c.show_form.result
    (not_shown c.args.names.now c.args.limit c.self.inside.parts c.show_form.new.self c.args.self.now c.args.command.now c.show_form.result c.self.view_is
    (written.Hnf (written c.in-Hnf.term)) (λ context at x. HasNoForm show.Head c.args.limit context c.args.command.now.place (written c.in-Hnf.term) at x)
    (ap written_act c.in-Hnf.is) (λ s at x h. (refl, h)) c.show_form.ensures.cause)

pub show_form-requires-in-Normal-clause-read : goal.show_form-requires-in-Normal-clause-read
show_form-requires-in-Normal-clause-read c = form_read c.args.command.now c.requires.form (written.Normal (written c.in-Normal.term)) (ap written_act c.in-Normal.is)

pub returns-in-Normal-clause-ok : goal.returns-in-Normal-clause-ok
returns-in-Normal-clause-ok c =
    printed c.args.names.now c.args.limit c.self.inside.parts c.show_form-in-Normal.new.self c.args.self.now c.args.command.now c.show_form-in-Normal.result c.self.view_is
    (written.Normal (written c.in-Normal.term)) (λ context text. ShowsForm show.Normal c.args.names.now c.args.limit context c.args.command.now.place (written c.in-Normal.term) text)
    (ap written_act c.in-Normal.is) c.show_form-in-Normal.ensures.state (λ s text same h. (same, h)) c.show_form-in-Normal.ensures.ok

pub returns-in-Normal-clause-typed : goal.returns-in-Normal-clause-typed
returns-in-Normal-clause-typed c =
    refused_for_limits c.args.names.now c.args.limit c.args.self.now (written_command c.args.command.now) c.show_form-in-Normal.result
    (not_shown c.args.names.now c.args.limit c.self.inside.parts c.show_form-in-Normal.new.self c.args.self.now c.args.command.now c.show_form-in-Normal.result c.self.view_is
    (written.Normal (written c.in-Normal.term)) (λ context at x. HasNoForm show.Normal c.args.limit context c.args.command.now.place (written c.in-Normal.term) at x)
    (ap written_act c.in-Normal.is) (λ s at x h. (refl, h)) c.show_form-in-Normal.ensures.cause)

pub show-requires-clause-read : goal.show-requires-clause-read
show-requires-clause-read c = form_read c.args.command.now c.requires.form (written.Show (written c.in-Show.term)) (ap written_act c.in-Show.is)

pub returns-in-Show-clause-ok : goal.returns-in-Show-clause-ok
returns-in-Show-clause-ok c =
    printed c.args.names.now c.args.limit c.self.inside.parts c.show.new.self c.args.self.now c.args.command.now c.show.result c.self.view_is
    (written.Show (written c.in-Show.term)) (λ context text. ShowsType c.args.names.now context c.args.command.now.place (written c.in-Show.term) text)
    (ap written_act c.in-Show.is) c.show.ensures.state (λ s text same h. (same, h)) c.show.ensures.ok

pub returns-in-Show-clause-typed : goal.returns-in-Show-clause-typed
returns-in-Show-clause-typed c =
    refused_for_limits c.args.names.now c.args.limit c.args.self.now (written_command c.args.command.now) c.show.result
    (not_shown c.args.names.now c.args.limit c.self.inside.parts c.show.new.self c.args.self.now c.args.command.now c.show.result c.self.view_is
    (written.Show (written c.in-Show.term)) (λ context at x. HasNoType c.args.limit context c.args.command.now.place (written c.in-Show.term) at x)
    (ap written_act c.in-Show.is) (λ s at x h. (refl, h)) c.show.ensures.cause)

-- steps that are taken back
pub invariant_of-self-in-Undo : goal.invariant_of-self-in-Undo
invariant_of-self-in-Undo c =
    let p = c.self.inside.parts in
    let q = c.undo.new.self in
    let step = took_back c.args.names.now c.args.limit p q c.args.self.now c.args.command.now c.undo.result c.self.view_is c.in-Undo.count c.from.result c.in-Undo.is c.from.ensures c.undo.ensures.ok in
    still_parts c.args.names.now c.args.limit p q c.args.self.now c.args.command.now c.undo.result c.self.view_is step c.undo.ensures.err c.undo.ensures.still_goes c.self.invariant

pub returns-in-Undo-clause-ok : goal.returns-in-Undo-clause-ok
returns-in-Undo-clause-ok c =
    took_back c.args.names.now c.args.limit c.self.inside.parts c.undo.new.self c.args.self.now c.args.command.now c.undo.result c.self.view_is c.in-Undo.count c.from.result c.in-Undo.is
    c.from.ensures c.undo.ensures.ok

pub returns-in-Undo-clause-complete : goal.returns-in-Undo-clause-complete
returns-in-Undo-clause-complete c =
    let is = ap written_act c.in-Undo.is ∙ ap (λ k. written.Undo k) (sym c.from.ensures) in
    completes c.args.names.now c.args.limit c.args.self.now (session_of c.undo.new.self) (written_command c.args.command.now) c.undo.result
    (not_accepted c.args.names.now c.args.limit c.self.inside.parts c.undo.new.self c.args.self.now c.args.command.now c.undo.result c.self.view_is (written.Undo c.from.result) is
    (c.undo.ensures.cause c.args.limit))

pub returns-in-Undo-clause-known : goal.returns-in-Undo-clause-known
returns-in-Undo-clause-known c =
    let p = c.self.inside.parts in
    let q = c.undo.new.self in
    let step = took_back c.args.names.now c.args.limit p q c.args.self.now c.args.command.now c.undo.result c.self.view_is c.in-Undo.count c.from.result c.in-Undo.is c.from.ensures c.undo.ensures.ok in
    let left = left_so c.args.names.now c.args.limit p q c.args.self.now c.args.command.now c.undo.result c.self.view_is c.undo.ensures.err in
    outcome_known c.args.names.now c.args.limit c.args.self.now (session_of q) (written_command c.args.command.now) c.undo.result (λ a. record { refused = false; text = a.text })
    c.requires.built step left

-- entries that are forgotten
pub returns-in-Forget-clause-ok : goal.returns-in-Forget-clause-ok
returns-in-Forget-clause-ok c =
    forgot c.args.names.now c.args.limit c.self.inside.parts c.forget.new.self c.args.self.now c.args.command.now c.forget.result c.self.view_is c.in-Forget.place c.in-Forget.name
    c.in-Forget.is c.forget.ensures.ok

pub returns-in-Forget-clause-complete : goal.returns-in-Forget-clause-complete
returns-in-Forget-clause-complete c =
    completes c.args.names.now c.args.limit c.args.self.now (session_of c.forget.new.self) (written_command c.args.command.now) c.forget.result
    (not_accepted c.args.names.now c.args.limit c.self.inside.parts c.forget.new.self c.args.self.now c.args.command.now c.forget.result c.self.view_is
    (written.Forget (record { place = c.in-Forget.place; name = c.in-Forget.name })) (ap written_act c.in-Forget.is) (c.forget.ensures.cause c.args.limit c.args.command.now.place))

pub returns-in-Forget-clause-known : goal.returns-in-Forget-clause-known
returns-in-Forget-clause-known c =
    let p = c.self.inside.parts in
    let q = c.forget.new.self in
    let step = forgot c.args.names.now c.args.limit p q c.args.self.now c.args.command.now c.forget.result c.self.view_is c.in-Forget.place c.in-Forget.name c.in-Forget.is c.forget.ensures.ok in
    let left = left_so c.args.names.now c.args.limit p q c.args.self.now c.args.command.now c.forget.result c.self.view_is c.forget.ensures.err in
    outcome_known c.args.names.now c.args.limit c.args.self.now (session_of q) (written_command c.args.command.now) c.forget.result (λ a. record { refused = false; text = a.text })
    c.requires.built step left

-- the context
pub returns-in-Ctxt-clause-ok : goal.returns-in-Ctxt-clause-ok
returns-in-Ctxt-clause-ok c =
    prints c.args.names.now c.args.limit c.args.self.now c.args.self.now (written_command c.args.command.now) written.Ctxt c.show_context.result
    (λ text. ShowsContext c.args.names.now (context_of c.args.self.now) text) (ap written_act c.in-Ctxt.is) (λ text same h. (same, h)) refl
    (subst (λ (s : Session). IfOk c.show_context.result (λ a. ShowsContext c.args.names.now (context_of s) a.text)) c.self.view_is c.show_context.ensures.ok)
