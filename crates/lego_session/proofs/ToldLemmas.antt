-- The faults of a context without holes that is asked for a new name.
use Rattle.std.proofs.Common.{◌≡◌, ℕ, List, Some, None}
use Rattle.lego_laws.specs.Places.{Task}
use Rattle.lego_inference.specs.declared.entry.At.{At}
use Rattle.lego_inference.specs.declared.entry.Entry.{Entry as Item}
use Rattle.lego_inference.specs.declared.fault.TypeFault.{TypeFault}
use Rattle.lego_inference.specs.Failures.{TypeFails}
use Rattle.lego_context.specs.Causes.{TypingFails, AddFails}
use Rattle.lego_context.specs.Entries.{position_of}
use Rattle.lego_session.specs.Causes.{IsTold}

type_told : {limit : ℕ} {t : Task} {fault : TypeFault} → TypeFails limit t fault → IsTold fault
type_told (TypeFails.not_a_type r w) = tt
type_told (TypeFails.not_a_function r w) = tt
type_told (TypeFails.not_a_pair r w) = tt
type_told (TypeFails.mismatch r w) = tt
type_told (TypeFails.budget r w) = tt
type_told (TypeFails.too_large w) = tt
type_told (TypeFails.full m w) = tt
type_told TypeFails.memory = tt

pub typing_told : {es : List Item} {t : Task} {asked : At} {fault : TypeFault} → TypingFails es t asked fault → IsTold fault
typing_told (TypingFails.check h) = type_told h
typing_told (TypingFails.universe h) = tt
typing_told (TypingFails.level_too_big h) = tt

pub add_told : {es : List Item} {name : ℕ} {t : Task} {asked : At} {fault : TypeFault} → position_of es name ≡ None → AddFails es name t asked fault → IsTold fault
add_told none (AddFails.name_in_use {at} h) = absurd (cc)
add_told none (AddFails.typing n h) = typing_told h
add_told none (AddFails.full n a l) = tt
