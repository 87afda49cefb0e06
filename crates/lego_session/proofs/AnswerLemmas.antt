-- What is written for a command is its answer.
use Rattle.std.proofs.Common.{◌≡◌, ℕ, ◌<◌, ◌≤◌, List, length, refl, true, false, Option, Some, None, Result, Ok, Err, IfOk, IfErr, IfSome, OnErr, inl, inr, sym, ◌∙◌, subst}
use Rattle.lego_base.specs.Names.{AreDistinct}
use Rattle.lego_base.specs.declared.place.Place.{Place}
use Rattle.lego_grammar.specs.Grammar.{Names}
use Rattle.lego_grammar.specs.Written.{WrittenCommand}
use Rattle.lego_lexer.specs.Commands.{CommandText}
use Rattle.lego_session.specs.Sessions.{Session, entries_of}
use Rattle.lego_session.specs.Answers.{IsNumbering, IsNumberedCommand, IsUnread, Answers}
use Rattle.lego_session.specs.Names.{AreBoundHeld, IsKnownSession}
use Rattle.lego_session.specs.Reading.{is_built}
use Rattle.lego_session.specs.private.Refusals.{IsRefusalOf}
use Rattle.lego_session.specs.Step.{Step, IsRefusal, bindings_of}
use Rattle.lego_session.specs.private.Unread.{IsUnreadBy, IsWritten}
use Rattle.lego_session.specs.declared.answers.Answered.{Answered}
use Rattle.lego_session.specs.declared.refusal.Cause.{Cause}
use Rattle.lego_session.specs.declared.refusal.Cause.TheVariants.{LongCommand}
use Rattle.lego_session.specs.declared.refusal.Refusal.{Refusal}
use Rattle.lego_session.specs.declared.session.Answer.{Answer}
use Rattle.lego_session.proofs.HeldLemmas.{command_keeps, unread_keeps, names_held}

-- what the count of the names says of their numbering
pub numbered : (names : Names) (count : ℕ) → count ≡ length names → count ≤ 1048576 → AreDistinct names → IsNumbering names
numbered names count e le distinct = record { distinct = distinct; few = subst (λ n. n ≤ 1048576) e le }

-- a step with its outcome written down
pub step_written : (names : Names) (limit : ℕ) (old new : Session) (o : WrittenCommand) (outcome : Result Answer Refusal) (written : Option Answered)
    → IfOk outcome (λ answer. Step names limit old o (record { refused = false; text = answer.text }) new)
    → IfErr outcome (λ refusal. IsRefusal names limit old o refusal.place refusal.cause refusal.text)
    → OnErr outcome (new ≡ old) → IsWritten outcome written
    → IfSome written (λ a. Step names limit old o (record { refused = a.refused; text = a.text }) new)
step_written names limit old new o (Ok answer) None ok cause err w = absurd w
step_written names limit old new o (Ok answer) (Some a) ok cause err w =
    subst (λ r. Step names limit old o (record { refused = r; text = a.text }) new) (sym w.0)
    (subst (λ t. Step names limit old o (record { refused = false; text = t }) new) (sym w.1) ok)
step_written names limit old new o (Err refusal) None ok cause err w = tt
step_written names limit old new o (Err refusal) (Some a) ok (inl memory) err w = absurd (w.0 memory.0)
step_written names limit old new o (Err refusal) (Some a) ok (inr h) err w =
    subst (λ es. Step names limit old o (record { refused = a.refused; text = a.text }) es) (sym err)
    (subst (λ r. Step names limit old o (record { refused = r; text = a.text }) old) (sym w.1)
    (subst (λ t. Step names limit old o (record { refused = true; text = t }) old) (sym (w.2 ∙ h.3)) (Step.refused refusal.place refusal.cause h.0 h.1 h.2)))

-- bytes that are no command, with their refusal written down
pub unread_written : (limit : ℕ) (held names : Names) (es : Session) (c : CommandText) (p : Place) (cause : Cause) (refusal : Refusal) (written : Option Answered)
    → IsNumbering names → IsUnreadBy held names c p cause → IsRefusalOf names (entries_of es) p cause refusal.place refusal.cause refusal.text
    → IsWritten (Err refusal) written
    → IfSome written (λ a. Answers limit held es c (record { refused = a.refused; text = a.text }) names es)
unread_written limit held names es c p cause refusal None numbering unread is w = tt
unread_written limit held names es c p cause refusal (Some a) numbering unread (inl memory) w = absurd (w.0 memory.0)
unread_written limit held names es c p cause refusal (Some a) numbering (inl memory) (inr is) w = absurd (is.0 memory)
unread_written limit held names es c p cause refusal (Some a) numbering (inr h) (inr is) w =
    subst (λ r. Answers limit held es c (record { refused = r; text = a.text }) names es) (sym w.1)
    (subst (λ t. Answers limit held es c (record { refused = true; text = t }) names es) (sym (w.2 ∙ is.3)) (Answers.unread numbering h))

-- too many bytes, with their refusal written down: whichever they are
pub long_written : (names : Names) (es : Session) (p : Place) (count : ℕ) (refusal : Refusal) (written : Option Answered)
    → IsNumbering names → 65536 < count → IsRefusalOf names (entries_of es) p (LongCommand count) refusal.place refusal.cause refusal.text
    → IsWritten (Err refusal) written
    → IfSome written (λ a. (limit : ℕ) (bytes : List ℕ) → count ≡ length bytes
    → Answers limit names es (record { place = p; bytes = bytes }) (record { refused = a.refused; text = a.text }) names es)
long_written names es p count refusal None numbering long is w = tt
long_written names es p count refusal (Some a) numbering long is w = λ limit bytes e.
    unread_written limit names names es (record { place = p; bytes = bytes }) p (LongCommand count) refusal (Some a) numbering
    (inr (subst (λ n. IsUnread names names (record { place = p; bytes = bytes }) p (LongCommand n)) (sym e)
    (IsUnread.long refl (subst (λ n. 65536 < n) e long))))
    is w

-- a command that ran, written down
pub command_written : (limit : ℕ) (held names : Names) (old new : Session) (c : CommandText) (o : WrittenCommand) (written : Option Answered)
    → IsNumbering names → IsNumberedCommand held names c o → is_built o.act ≡ true
    → IfSome written (λ a. Step names limit old o (record { refused = a.refused; text = a.text }) new)
    → IfSome written (λ a. Answers limit held old c (record { refused = a.refused; text = a.text }) names new)
command_written limit held names old new c o None numbering command built step = tt
command_written limit held names old new c o (Some a) numbering command built step = Answers.step numbering command built step

-- the names of the entries stay held, where bytes are a command
pub run_known : {held names : Names} {old new : Session} {c : CommandText} {o : WrittenCommand} (written : Option Answered) → IsNumberedCommand held names c o
    → (IsKnownSession names old → AreBoundHeld names (bindings_of o.act) → IsKnownSession names new) → IsKnownSession held old → IfSome written (λ a. IsKnownSession names new)
run_known None command keeps known = tt
run_known (Some a) command keeps known = keeps (command_keeps command known) (names_held command.command.parsed)

-- and where they are none
pub unread_known : {held left : Names} {s : Session} {c : CommandText} {p : Place} {cause : Cause} (written : Option Answered) (refusal : Refusal)
    → IsUnreadBy held left c p cause → length held ≤ 1048576 → IsRefusalOf left (entries_of s) p cause refusal.place refusal.cause refusal.text
    → IsWritten (Err refusal) written → IsKnownSession held s → IfSome written (λ a. IsKnownSession left s)
unread_known None refusal unread few is w known = tt
unread_known (Some a) refusal unread few (inl memory) w known = absurd (w.0 memory.0)
unread_known (Some a) refusal (inl memory) few (inr is) w known = absurd (is.0 memory)
unread_known {held} {left} {s} (Some a) refusal (inr h) few (inr is) w known = unread_keeps few h known
