-- A term as a command: its type, with least levels.
use Rattle.std.specs.Prelude.{[], Result, Ok, Err}
use Rattle.lego_term.specs.Trees.{Core}
use Rattle.lego_laws.specs.Places.{Task, AnyType}
use Rattle.lego_inference.specs.declared.entry.At.{At}
use Rattle.lego_inference.specs.declared.fault.TypeFault.{TypeFault}
use Rattle.lego_inference.specs.Calls.{IsTermOver, task_over}
use Rattle.lego_context.specs.declared.context.typing.Settled.{Settled}
use Rattle.lego_context.specs.Contexts.{Contents}
use Rattle.lego_context.specs.Causes.{TypingFails}
use Rattle.lego_context.specs.Calls.{IsInferred}
use Rattle.lego_context.specs.Settling.{IsSettled}

-- the term is over the context, without locals
abbrev pub CanBeTyped : Contents → Core → Type 0
CanBeTyped c m = IsTermOver c.entries [] c.levels m

-- what is to be typed
abbrev pub term_task : Contents → Core → Task
term_task c m = task_over c.entries [] c.levels m AnyType

-- the term has the answered type, and the values are the least that satisfy its constraints together with those held
pub record IsSettledTyping (c : Contents) (m : Core) (asked : At) (answer : Settled) : Type 0 where
  pub inferred : IsInferred c [] m asked.place answer.judged
  pub settled : IsSettled c answer.judged.constraints answer.judged.levels answer.values.items

abbrev pub Types : Contents → Core → At → Result Settled TypeFault → Type 0
Types c m asked (Ok answer) = IsSettledTyping c m asked answer
Types c m asked (Err fault) = TypingFails c.entries (term_task c m) asked fault
