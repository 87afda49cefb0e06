-- How the program ends.
use Rattle.std.specs.Prelude.{◌≡◌, ◌≢◌, ◌⊎◌, ℕ, List, Option}
use Rattle.std.specs.declared.io.ErrorKind.{ErrorKind}
use Rattle.std.specs.declared.io.ErrorKind.TheVariants.{OutOfMemory}
use Rattle.lego_base.specs.Causes.{Rose}
use Rattle.lego_words.specs.Words.{AreWritten, IsUsage}
use Rattle.lego_words.specs.declared.options.Options.{Options}
use Rattle.lego_session.specs.Outcomes.{Outcome, UsageOutcome, IsAcceptable}
use Rattle.lego_session.specs.Statuses.{code_of}
use Rattle.lego_session.specs.declared.status.Status.{Status}
use Rattle.lego_session.specs.declared.status.Status.TheVariants.{Accepted, ReadFault, WriteFault, Memory}

-- A run with these words ended, and the number is that of its status. The source had these bytes left before and behind it, and
-- these counts of faults; the sink had taken these, and had these counts.
pub record EndsRun (words : List (List ℕ)) (left left' : Option (List ℕ)) (read read' : ℕ) (taken taken' : Option (List ℕ)) (sent sent' : ℕ) (number : ℕ) : Type 0 where
  pub status : Status
  pub is_number : number ≡ code_of status
  pub output : (asked : Options) → AreWritten words asked → Outcome asked.steps asked.stop left left' taken taken' status
  pub usage : (index : ℕ) → IsUsage words index → UsageOutcome index taken taken' status
  pub read_fault : status ≡ ReadFault → Rose read read'
  pub write_fault : status ≡ WriteFault → Rose sent sent'
  pub source_kept : status ≢ ReadFault → read' ≡ read
  pub sink_kept : status ≢ WriteFault → sent' ≡ sent
  pub complete : (asked : Options) → AreWritten words asked → IsAcceptable asked.steps asked.stop left
      → (Rose read read' → ⊥) → (Rose sent sent' → ⊥) → (status ≡ Accepted) ⊎ (status ≡ Memory)

-- the system refused the words: for want of memory, or for another cause
abbrev pub EndsWithoutWords : ErrorKind → ℕ → Type 0
EndsWithoutWords kind number = (kind ≡ OutOfMemory → number ≡ code_of Memory) × ((kind ≡ OutOfMemory → ⊥) → number ≡ 9)
