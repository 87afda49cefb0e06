-- What is shown of a term.
use Rattle.std.proofs.Common.{◌≡◌, ℕ, ◌≤◌, List, [], Option, Some, None, Result, Ok, Err, refl, sym, ap, ◌∙◌, subst, ◌⊎◌, inl, inr}
use Rattle.lego_base.specs.declared.place.Place.{Place}
use Rattle.lego_term.specs.Levels.{Assignment}
use Rattle.lego_term.specs.Sequences.{Ends}
use Rattle.lego_term.specs.Trees.{Core}
use Rattle.lego_grammar.specs.Grammar.{Names}
use Rattle.lego_grammar.specs.Written.{Written}
use Rattle.lego_inference.specs.declared.entry.At.{At}
use Rattle.lego_inference.specs.declared.entry.Entry.{Entry as Item}
use Rattle.lego_inference.specs.declared.entry.Judged.{Judged}
use Rattle.lego_inference.specs.declared.fault.TypeFault.{TypeFault}
use Rattle.lego_context.specs.Calls.{IsInferred}
use Rattle.lego_context.specs.Causes.{TypingFails}
use Rattle.lego_context.specs.Contexts.{Contents}
use Rattle.lego_context.specs.Settling.{IsSettled}
use Rattle.lego_context.specs.Typed.{Types, IsSettledTyping, term_task}
use Rattle.lego_context.specs.declared.context.typing.Settled.{Settled}
use Rattle.lego_reduce.specs.Reduction.{Reduces}
use Rattle.lego_reduce.specs.declared.fault.ReduceFault.{ReduceFault}
use Rattle.lego_reduce.specs.declared.head_form.Reduced.{Reduced}
use Rattle.lego_reduce.specs.declared.fault.ReduceFault.TheVariants as reduce
use Rattle.lego_reading.specs.Calls.{IsCoreOf}
use Rattle.lego_reading.specs.Universes.{with_types_of}
use Rattle.lego_session.specs.Causes.{cause_of}
use Rattle.lego_session.specs.Texts.{IsTypingLine, IsTermLine}
use Rattle.lego_session.specs.commands.Show.{Form, IsTyped, ShowsType, HasNoType, ShowsForm, HasNoForm, step_to}
use Rattle.lego_session.specs.private.Binding.{Extends, IsOverContext, IsUnreadAt}
use Rattle.lego_session.specs.private.Refusals.{reduce_cause}
use Rattle.lego_session.specs.private.Shown.{TypingFailsSo, FormFails, IsNotReached}
use Rattle.lego_session.specs.declared.refusal.Cause.{Cause}
use Rattle.lego_session.specs.declared.refusal.Cause.TheVariants.{Memory}
use Rattle.lego_session.specs.declared.refusal.Reason.{Reason}
use Rattle.lego_session.proofs.ExtendLemmas.{types-entries, extends-same, extends-types}

moved : {limit : ℕ} {c : Contents} {place : Place} {m : Written} {p q : Place} {x y : Cause} → p ≡ q → x ≡ y → HasNoType limit c place m q y → HasNoType limit c place m p x
moved {limit} {c} {place} {m} {p} {q} {x} {y} at is h = subst (λ z. HasNoType limit c place m p z) (sym is) (subst (λ r. HasNoType limit c place m r y) (sym at) h)

-- the term is not read
pub unread_fails : (limit : ℕ) (c : Contents) (place : Place) (m : Written) (reason : Reason) → IsUnreadAt c m limit place reason → TypingFailsSo limit c place m reason
unread_fails limit c place m reason h = inr (moved h.at h.is_cause (HasNoType.unread h.unread))

-- its typing is refused
pub untyped_fails : (c new : Contents) (m : Written) (core : Core) (asked : At) (fault : TypeFault) (reason : Reason) → IsCoreOf c m core → new ≡ with_types_of c m
    → TypingFails new.entries (term_task new core) asked fault → reason.place ≡ asked.place → reason.cause ≡ cause_of fault → TypingFailsSo asked.limit c asked.place m reason
untyped_fails c new m core asked fault reason read is fails at is_cause =
    inr (moved at is_cause (HasNoType.untyped read (subst (λ (x : Contents). TypingFails x.entries (term_task x core) asked fault) is fails)))

-- the term has its type
pub is_typed : (c new : Contents) (m : Written) (core : Core) (asked : At) (settled : Settled) → IsCoreOf c m core → new ≡ with_types_of c m
    → IsSettledTyping new core asked settled → IsTyped c asked.place m core settled.judged settled.values.items
is_typed c new m core asked settled read is h = record {
  read = read;
  inferred = subst (λ (x : Contents). IsInferred x [] core asked.place settled.judged) is h.inferred;
  settled = subst (λ (x : Contents). IsSettled x settled.judged.constraints settled.judged.levels settled.values.items) is h.settled;
}

-- the core is over the context with its universes
pub core_over : (c new : Contents) (m : Written) (core : Core) → IsCoreOf c m core → new ≡ with_types_of c m → IsOverContext new core
core_over c new m core read is = subst (λ x. IsOverContext x core) (sym is) read.over

module _ (names : Names) (c new : Contents) (m : Written) (core : Core) (judged : Judged) (values : Assignment) (asked : At)
    (typed : IsTyped c asked.place m core judged values) (is : new ≡ with_types_of c m) where
  same_entries : new.entries ≡ c.entries
  same_entries = ap (λ (x : Contents). x.entries) is ∙ types-entries c m

  pub shows_type : (text : List ℕ) → IsTypingLine names values new.entries core judged.ty text → ShowsType names c asked.place m text
  shows_type text line = record {
    core = core;
    judged = judged;
    values = values;
    typed = typed;
    line = subst (λ es. IsTypingLine names values es core judged.ty text) same_entries line;
  }

  pub shows_form : (form : Form) (reached : Core) (text : List ℕ) → (steps : ℕ) × Ends (step_to form new.entries) core steps reached × (steps ≤ asked.limit)
      → IsTermLine names values new.entries reached text → ShowsForm form names asked.limit c asked.place m text
  shows_form form reached text ends line = record {
    core = core;
    judged = judged;
    values = values;
    typed = typed;
    steps = ends.0;
    reached = reached;
    ends = subst (λ es. Ends (step_to form es) core ends.0 reached) same_entries ends.1;
    within = ends.2;
    line = subst (λ es. IsTermLine names values es reached text) same_entries line;
  }

  pub form_fails : (form : Form) (reason : Reason) → IsNotReached form new.entries core asked reason → FormFails form asked.limit c asked.place m reason
  form_fails form reason h = by_fault h'.fault h'.fails h'.at h'.is_cause
    where
      h' : IsNotReached form c.entries core asked reason
      h' = subst (λ es. IsNotReached form es core asked reason) same_entries h

      at_place : (x : Cause) → reason.place ≡ asked.place → reason.cause ≡ x → HasNoForm form asked.limit c asked.place m asked.place x → FormFails form asked.limit c asked.place m reason
      at_place x at is_cause f =
          inr (subst (λ z. HasNoForm form asked.limit c asked.place m reason.place z) (sym is_cause)
          (subst (λ p. HasNoForm form asked.limit c asked.place m p x) (sym at) f))

      by_fault : (fault : ReduceFault) → Reduces (step_to form c.entries) core asked.limit (Err fault) → reason.place ≡ asked.place → reason.cause ≡ reduce_cause core fault
          → FormFails form asked.limit c asked.place m reason
      by_fault reduce.Budget f at is_cause = at_place _ at is_cause (HasNoForm.budget typed f)
      by_fault (reduce.TooLarge i j) f at is_cause = at_place _ at is_cause (HasNoForm.too_large f.0 typed f.2 f.3 f.4)
      by_fault reduce.Memory f at is_cause = inl is_cause

-- a term without a type has no form
pub no_type_fails : (form : Form) (limit : ℕ) (c : Contents) (place : Place) (m : Written) (reason : Reason) → TypingFailsSo limit c place m reason → FormFails form limit c place m reason
no_type_fails form limit c place m reason (inl memory) = inl memory
no_type_fails form limit c place m reason (inr h) = inr (HasNoForm.no_type h)

-- typing a term leaves the context, or adds its universes
pub types_extend : (c new : Contents) (m : Written) → (new ≡ c) ⊎ (new ≡ with_types_of c m) → Extends c new
types_extend c new m (inl same) = extends-same c new same
types_extend c new m (inr is) = extends-types c new m is

-- the end of the sequence that was followed is that of the form's steps
pub reaches : (form : Form) (next : Core → Option Core) (es : List Item) (core : Core) (limit : ℕ) (r : Result Reduced ReduceFault) (reduced : Reduced)
    → Reduces next core limit r → r ≡ Ok reduced → next ≡ step_to form es → (steps : ℕ) × Ends (step_to form es) core steps reduced.term × (steps ≤ limit)
reaches form next es core limit r reduced h is same =
    let found : Reduces next core limit (Ok reduced) = subst (λ x. Reduces next core limit x) is h in
    (reduced.steps, subst (λ step. Ends step core reduced.steps reduced.term) same found.0, found.1)
