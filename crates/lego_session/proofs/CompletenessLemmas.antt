-- Commands whose terms have typings are refused for limits alone.
use Rattle.std.proofs.Common.{◌≡◌, ℕ, List, [], Option, Some, None, Result, Ok, Err, IfErr, inl, inr, refl, sym, subst}
use Rattle.std.proofs.lemmas.Option.{slice_get_within}
use Rattle.lego_base.specs.declared.place.Place.{Place}
use Rattle.lego_term.specs.Trees.{Core}
use Rattle.lego_laws.specs.Places.{Task}
use Rattle.lego_grammar.specs.Grammar.{Names}
use Rattle.lego_grammar.specs.Written.{Written, WrittenKind, Defined, WrittenBinding, WrittenAct, Bindings, Hnf, Normal, Show, WrittenCommand}
use Rattle.lego_grammar.proofs.ReadOnce.{one_core}
use Rattle.lego_grammar.proofs.ReadingRefusals.{refusals_exclude_reading}
use Rattle.lego_inference.specs.declared.entry.At.{At}
use Rattle.lego_inference.specs.declared.entry.Entry.{Entry as Item}
use Rattle.lego_inference.specs.declared.fault.TypeFault.{TypeFault}
use Rattle.lego_inference.specs.Causes.{HasNoTyping}
use Rattle.lego_inference.specs.Failures.{TypeFails}
use Rattle.lego_context.specs.Causes.{TypingFails, AddFails}
use Rattle.lego_context.specs.Changes.{type_task, body_task}
use Rattle.lego_context.specs.Contexts.{Contents}
use Rattle.lego_context.specs.Typed.{term_task}
use Rattle.lego_reading.specs.Calls.{IsCoreOf, IsUnread}
use Rattle.lego_reading.specs.Universes.{with_types_of}
use Rattle.lego_reading.specs.Failures.{Fails, HasNoHeadForm}
use Rattle.lego_reading.specs.declared.fault.ReadFault.{ReadFault}
use Rattle.lego_session.specs.Causes.{read_cause, cause_of}
use Rattle.lego_session.specs.Completeness.{IsOfLimits, HasTyping, AreTypedEntries, AreTypedBindings, IsTypedTerm, IsTypedAct, TypedCommandsMeetLimitsAlone}
use Rattle.lego_session.specs.Sessions.{Session, context_of}
use Rattle.lego_session.specs.Step.{IsRefusal}
use Rattle.lego_session.specs.commands.Bindings.{AssumesAll, ReadsDefinition, AreEntriesRefused, IsBindingRefused, AreRefused}
use Rattle.lego_session.specs.commands.Show.{Form, HasNoType, HasNoForm}
use Rattle.lego_session.specs.declared.refusal.Cause.{Cause}
use Rattle.lego_session.specs.declared.refusal.Refusal.{Refusal}
use Rattle.lego_session.specs.declared.session.Answer.{Answer}

no_typing : {t : Task} → HasTyping t → HasNoTyping t → ⊥
no_typing h n = n h.values h.satisfies h.typed

-- a check of a core that has a typing
check_is_of_limits : {limit : ℕ} {t : Task} {fault : TypeFault} → HasTyping t → TypeFails limit t fault → IsOfLimits (cause_of fault)
check_is_of_limits h (TypeFails.not_a_type reached wrong) = absurd (no_typing h wrong.no_typing)
check_is_of_limits h (TypeFails.not_a_function reached wrong) = absurd (no_typing h wrong.no_typing)
check_is_of_limits h (TypeFails.not_a_pair reached wrong) = absurd (no_typing h wrong.no_typing)
check_is_of_limits h (TypeFails.mismatch reached wrong) = absurd (no_typing h wrong.no_typing)
check_is_of_limits h (TypeFails.budget reached over) = tt
check_is_of_limits h (TypeFails.too_large large) = tt
check_is_of_limits h (TypeFails.full measured full) = tt
check_is_of_limits h TypeFails.memory = tt

typing_is_of_limits : {es : List Item} {t : Task} {asked : At} {fault : TypeFault} → HasTyping t → TypingFails es t asked fault → IsOfLimits (cause_of fault)
typing_is_of_limits h (TypingFails.check fails) = check_is_of_limits h fails
typing_is_of_limits h (TypingFails.universe cause) = absurd (no_typing h cause.no_typing)
typing_is_of_limits h (TypingFails.level_too_big cause) = tt

entry_is_of_limits : {es : List Item} {name : ℕ} {t : Task} {asked : At} {fault : TypeFault} → HasTyping t → AddFails es name t asked fault → IsOfLimits (cause_of fault)
entry_is_of_limits h (AddFails.name_in_use p) = tt
entry_is_of_limits h (AddFails.typing new fails) = typing_is_of_limits h fails
entry_is_of_limits h (AddFails.full new admitted full) = tt

-- a written term that is read
head_form_is_of_limits : {es : List _} {limit : ℕ} {scope : _} {c : Core} {fault : ReadFault} → HasNoHeadForm es limit scope c fault → IsOfLimits (read_cause fault)
head_form_is_of_limits (HasNoHeadForm.budget more) = tt
head_form_is_of_limits (HasNoHeadForm.values_too_large n large) = tt
head_form_is_of_limits (HasNoHeadForm.head_too_large n few there large) = tt

unread_is_of_limits : {c : Contents} {s : Written} {core : Core} {limit : ℕ} {fault : ReadFault} → IsCoreOf c s core → IsUnread c s limit fault → IsOfLimits (read_cause fault)
unread_is_of_limits h (IsUnread.full over) = tt
unread_is_of_limits h (IsUnread.fails room (Fails.refused refused)) = absurd (refusals_exclude_reading _ _ _ _ _ _ refused h.within)
unread_is_of_limits h (IsUnread.fails room (Fails.no_head_form reached read other none)) = head_form_is_of_limits none
unread_is_of_limits h IsUnread.memory = tt

same_core : {c : Contents} {s : Written} {one other : Core} → IsCoreOf c s one → IsCoreOf c s other → one ≡ other
same_core p q = one_core p.within.reads q.within.reads

-- the entries of a binding
same_definition : {old mid mid' : Contents} {m : Written} {t : Option Written} {body body' : Core} {ty ty' : Option Core}
    → ReadsDefinition old m t body ty mid → ReadsDefinition old m t body' ty' mid' → HasTyping (body_task mid body ty) → HasTyping (body_task mid' body' ty')
same_definition {old} {m = m} (ReadsDefinition.untyped p) (ReadsDefinition.untyped q) h = subst (λ b. HasTyping (body_task (with_types_of old m) b None)) (same_core p q) h
same_definition {old} {m = m} (ReadsDefinition.typed {t = t} {body = body} p r) (ReadsDefinition.typed {ty = ty} q s) h =
    subst (λ b. HasTyping (body_task (with_types_of (with_types_of old m) t) b (Some ty))) (same_core p q)
    (subst (λ a. HasTyping (body_task (with_types_of (with_types_of old m) t) body (Some a))) (same_core r s) h)

body_is_of_limits : {old mid : Contents} {m : Written} {t : Option Written} {body : Core} {ty : Option Core} {limit : ℕ} {fault : ReadFault}
    → ReadsDefinition old m t body ty mid → IsUnread old m limit fault → IsOfLimits (read_cause fault)
body_is_of_limits (ReadsDefinition.untyped p) u = unread_is_of_limits p u
body_is_of_limits (ReadsDefinition.typed p r) u = unread_is_of_limits p u

written_is_of_limits : {old mid : Contents} {m t : Written} {body : Core} {ty : Option Core} {limit : ℕ} {fault : ReadFault}
    → ReadsDefinition old m (Some t) body ty mid → IsUnread (with_types_of old m) t limit fault → IsOfLimits (read_cause fault)
written_is_of_limits (ReadsDefinition.typed p r) u = unread_is_of_limits r u

definition_is_of_limits : {limit : ℕ} {old mid : Contents} {place p : Place} {names : List ℕ} {m : Written} {t : Option Written} {body : Core} {ty : Option Core} {cause : Cause}
    → ReadsDefinition old m t body ty mid → HasTyping (body_task mid body ty) → AreEntriesRefused limit old place names (Defined m t) p cause → IsOfLimits cause
definition_is_of_limits d h (AreEntriesRefused.body_unread u) = body_is_of_limits d u
definition_is_of_limits d h (AreEntriesRefused.written_unread r u) = written_is_of_limits d u
definition_is_of_limits d h (AreEntriesRefused.definition d' fails) = entry_is_of_limits (same_definition d d' h) fails

entries_are_of_limits : {limit : ℕ} {old : Contents} {place p : Place} {names : List ℕ} {kind : WrittenKind} {cause : Cause}
    → AreTypedEntries old place names kind → AreEntriesRefused limit old place names kind p cause → IsOfLimits cause
entries_are_of_limits (AreTypedEntries.assumptions r typed) (AreEntriesRefused.type_unread u) = unread_is_of_limits r u
entries_are_of_limits {old = old} {place = place} (AreTypedEntries.assumptions r typed) (AreEntriesRefused.assumption {name = name} before after {mark = mark} {t = t} {mid = mid} r' makes fails) =
    let same = same_core r r' in
    let made = subst (λ a. AssumesAll mark a place (with_types_of old t) before mid) (sym same) makes in
    entry_is_of_limits (subst (λ a. HasTyping (type_task mid a)) same (typed before after name mid refl made)) fails
entries_are_of_limits (AreTypedEntries.definition d h) refused = definition_is_of_limits d h refused

bindings_are_of_limits : {limit : ℕ} {old : Contents} {bs : List WrittenBinding} {es : List Item} {p : Place} {cause : Cause}
    → AreTypedBindings old bs → AreRefused limit old bs es p cause → IsOfLimits cause
bindings_are_of_limits AreTypedBindings.none r = elim r [ ]
bindings_are_of_limits (AreTypedBindings.more h more) (AreRefused.here (IsBindingRefused.in_use i before name place used)) = absurd (used (h.new_names i _ (slice_get_within _ i _ name) name))
bindings_are_of_limits (AreTypedBindings.more h more) (AreRefused.here (IsBindingRefused.entries new refused)) = entries_are_of_limits h.entries refused
bindings_are_of_limits (AreTypedBindings.more h more) (AreRefused.later binds refused) = bindings_are_of_limits (more _ binds) refused

-- a term
term_is_of_limits : {limit : ℕ} {c : Contents} {place p : Place} {m : Written} {cause : Cause}
    → IsTypedTerm c m → HasNoType limit c place m p cause → IsOfLimits cause
term_is_of_limits h (HasNoType.unread u) = unread_is_of_limits h.read u
term_is_of_limits {c = c} {m = m} h (HasNoType.untyped r fails) =
    typing_is_of_limits (subst (λ a. HasTyping (term_task (with_types_of c m) a)) (same_core h.read r) h.typing) fails

form_is_of_limits : {form : Form} {limit : ℕ} {c : Contents} {place p : Place} {m : Written} {cause : Cause}
    → IsTypedTerm c m → HasNoForm form limit c place m p cause → IsOfLimits cause
form_is_of_limits h (HasNoForm.no_type none) = term_is_of_limits h none
form_is_of_limits h (HasNoForm.budget typed more) = tt
form_is_of_limits h (HasNoForm.too_large n typed few there large) = tt

pub typed_commands_meet_limits_alone : TypedCommandsMeetLimitsAlone
typed_commands_meet_limits_alone limit old first p (Bindings bs) es cause h r = bindings_are_of_limits h r
typed_commands_meet_limits_alone limit old first p (Hnf m) es cause h r = form_is_of_limits h r.1
typed_commands_meet_limits_alone limit old first p (Normal m) es cause h r = form_is_of_limits h r.1
typed_commands_meet_limits_alone limit old first p (Show m) es cause h r = term_is_of_limits h r.1
typed_commands_meet_limits_alone limit old first p _ es cause h r = absurd h

-- so is a command, with what it answers
pub refused_for_limits : (names : Names) (limit : ℕ) (old : Session) (o : WrittenCommand) (r : Result Answer Refusal)
    → IfErr r (λ e. IsRefusal names limit old o e.place e.cause e.text) → IfErr r (λ e. IsTypedAct (context_of old) o.act → IsOfLimits e.cause)
refused_for_limits names limit old o (Ok a) h = tt
refused_for_limits names limit old o (Err e) (inl m) = λ typed. subst IsOfLimits (sym m.0) tt
refused_for_limits names limit old o (Err e) (inr x) = λ typed. typed_commands_meet_limits_alone limit old o.place e.place o.act x.0 e.cause typed x.1
