-- Each binding of a written form is right: it has its names, with a place for each, and its written terms can be read.
use Rattle.std.proofs.Common.{◌≡◌, ℕ, ◌<◌, List, [], ◌∷◌, length, refl, subst, arith}
use Rattle.std.specs.Prelude.{All}
use Rattle.std.proofs.lemmas.List.Elements.{All-head, All-tail}
use Rattle.lego_grammar.specs.Grammar.{Names, Nested, NameList, names_of, ReadsBinding, ReadsBindings, ReadsAct, ReadsCommand, TermWord, NumberWord, NameWord, LoneWord}
use Rattle.lego_grammar.specs.Surface.{written_command}
use Rattle.lego_grammar.specs.Written.{WrittenBinding, WrittenAct, Bindings, NameAt, WrittenCommand}
use Rattle.lego_grammar.specs.WrittenForm.{IsWrittenForm}
use Rattle.lego_grammar.specs.declared.command.Command.{Command}
use Rattle.lego_grammar.proofs.Proper.{AreProper, IsProperAct, proper_command}
use Rattle.lego_reading.specs.Readable.{CanKindBeRead, CanActBeRead}
use Rattle.lego_session.specs.private.Binding.{HasItsNames, IsRight, AreRight}
use Rattle.lego_session.proofs.LowerLemmas.{parsed_terms_can_be_read}

some_names : {names : Names} {d : ℕ} {ts : List Nested} {xs : List NameAt} → NameList names d ts xs → 0 < length (names_of xs)
some_names (NameList.one h) = omega arith
some_names (NameList.more h rest) = omega arith

its_names : {names : Names} {ts : List Nested} {b : WrittenBinding} → ReadsBinding names ts b → HasItsNames b.kind (length b.names)
its_names (ReadsBinding.assume p q r list type) = some_names list
its_names (ReadsBinding.define p q r s h body) = refl
its_names (ReadsBinding.define_typed p q r s t h body type) = refl

are_right : {names : Names} {ts : List Nested} {bs : List WrittenBinding} → ReadsBindings names ts bs → AreProper bs → All (λ (b : WrittenBinding). CanKindBeRead b.kind) bs → AreRight bs
are_right (ReadsBindings.one {b = b} h) proper read =
    (record { places = proper.0.places; names = its_names h; read = All-head (λ (b : WrittenBinding). CanKindBeRead b.kind) b [] read }, tt)
are_right (ReadsBindings.more {b = b} {bs = bs} h rest) proper read = (
  record { places = proper.0.places; names = its_names h; read = All-head (λ (b : WrittenBinding). CanKindBeRead b.kind) b bs read },
  are_right rest proper.1 (All-tail (λ (b : WrittenBinding). CanKindBeRead b.kind) b bs read),
)

abbrev IsRightAct : WrittenAct → Type 0
IsRightAct (Bindings bs) = AreRight bs
IsRightAct _ = Unit {0}

right_act : {names : Names} {ts : List Nested} {act : WrittenAct} → ReadsAct names ts act → IsProperAct act → CanActBeRead act → IsRightAct act
right_act (ReadsAct.bindings h) proper read = are_right h proper read
right_act (ReadsAct.show h) proper read = tt
right_act (ReadsAct.with_term TermWord.refine h) proper read = tt
right_act (ReadsAct.with_term TermWord.claim h) proper read = tt
right_act (ReadsAct.with_term TermWord.equiv h) proper read = tt
right_act (ReadsAct.with_term TermWord.hnf h) proper read = tt
right_act (ReadsAct.with_term TermWord.normal h) proper read = tt
right_act (ReadsAct.with_term TermWord.goal h) proper read = tt
right_act (ReadsAct.named_goal h k) proper read = tt
right_act (ReadsAct.intros h) proper read = tt
right_act (ReadsAct.with_number NumberWord.next) proper read = tt
right_act (ReadsAct.with_number NumberWord.undo) proper read = tt
right_act (ReadsAct.with_name NameWord.forget h) proper read = tt
right_act (ReadsAct.with_name NameWord.discharge h) proper read = tt
right_act (ReadsAct.with_name NameWord.save h) proper read = tt
right_act (ReadsAct.alone LoneWord.assumption) proper read = tt
right_act (ReadsAct.alone LoneWord.save) proper read = tt
right_act (ReadsAct.alone LoneWord.kill) proper read = tt
right_act (ReadsAct.alone LoneWord.prf) proper read = tt
right_act (ReadsAct.alone LoneWord.ctxt) proper read = tt
right_act (ReadsAct.alone LoneWord.explicit) proper read = tt
right_act (ReadsAct.alone LoneWord.implicit) proper read = tt

right_command : {names : Names} {ts : List Nested} {o : WrittenCommand} → ReadsCommand names ts o → IsProperAct o.act → CanActBeRead o.act → IsRightAct o.act
right_command (ReadsCommand.command p h) proper read = right_act h proper read

-- the command's act, where it is of a known form
module _ (command : Command) (form : IsWrittenForm command) (act : WrittenAct) (is : (written_command command).act ≡ act) where
  pub form_read : CanActBeRead act
  form_read = subst CanActBeRead is (parsed_terms_can_be_read command form)

  pub form_right : (bs : List WrittenBinding) → act ≡ Bindings bs → AreRight bs
  form_right bs same =
      subst IsRightAct same (subst IsRightAct is (right_command form.reads (proper_command form.names form.reads) (parsed_terms_can_be_read command form)))
