-- What a call of `run` did, by its status: how far it read, and what it wrote. These are seen by the bytes that the source had
-- left and those that the sink had taken, before and behind it.
use Rattle.std.specs.Prelude.{◌≡◌, ℕ, ◌+◌, ◌<◌, ◌≤◌, Bool, true, false, ◌&&◌, List, [], ◌∷◌, ◌++◌, length, take, codes, decimal, Option, Some}
use Rattle.std.specs.Io.KnownBytes.{Appends, Consumes, IsAtEnd}
use Rattle.lego_base.specs.Bytes.{AppendsFront}
use Rattle.lego_lexer.specs.Commands.{HasEnded}
use Rattle.lego_session.specs.Headline.{Headline}
use Rattle.lego_session.specs.Sessions.{context_of}
use Rattle.lego_session.specs.Step.{Reply}
use Rattle.lego_session.specs.Texts.{first_place}
use Rattle.lego_session.specs.Runs.{Run, answers_text, IsClosing, IsOutput, refuses, ends_early}
use Rattle.lego_session.specs.declared.status.Status.{Status}
use Rattle.lego_session.specs.declared.status.Status.TheVariants.{Accepted, Refused, Usage, ReadFault, WriteFault, Memory, OpenProof, TooLong}

-- the script was read to its end, and is these bytes, within the limit
pub record IsReadWhole (left left' : Option (List ℕ)) (bytes : List ℕ) : Type 0 where
  pub consumed : Consumes left left' bytes
  pub at_end : IsAtEnd left'
  pub short : length bytes ≤ 16777216

-- The bytes end with the `;` of the command at which `--stop` ended the run, and fewer than 4,096 more were read.
pub record IsReadToRefused (left left' : Option (List ℕ)) {limit : ℕ} {stop : Bool} {bytes : List ℕ} (run : Run limit stop first_place bytes) : Type 0 where
  pub early : ends_early stop run.answers ≡ true
  pub last : length run.answers ≡ length run.commands
  pub ended : HasEnded first_place bytes run.commands
  pub front : List ℕ
  pub with_semicolon : bytes ≡ front ++ 59 ∷ []
  pub short : length bytes ≤ 16777216
  pub behind : List ℕ
  pub consumed : Consumes left left' (bytes ++ behind)
  pub near : length behind < 4096

-- how far is read where a run comes to its end
pub data IsReadFor (left left' : Option (List ℕ)) {limit : ℕ} {stop : Bool} {bytes : List ℕ} (run : Run limit stop first_place bytes) : Type 0 where
  to_end : ends_early stop run.answers ≡ false → IsReadWhole left left' bytes → IsReadFor left left' run
  to_refused : IsReadToRefused left left' run → IsReadFor left left' run

-- The run came to its end, and all of its output was taken. Where `--stop` didn't end it, the development is printed, and denotes
-- the entries.
pub record Completed (limit : ℕ) (stop : Bool) (left left' taken taken' : Option (List ℕ)) (refused : Bool) : Type 0 where
  pub bytes : List ℕ
  pub run : Run limit stop first_place bytes
  pub reading : IsReadFor left left' run
  pub refusal : refuses run ≡ refused
  pub development : List ℕ
  pub output : List ℕ
  pub is_output : IsOutput run development output
  pub written : Appends taken taken' output
  pub headline : (stop && refused) ≡ false → Headline run.names (context_of run.session) development

-- the commands that ended within the bytes are answered, none of them ended the run, and the answers were taken
pub record AnswersAll (limit : ℕ) (stop : Bool) (bytes : List ℕ) (taken taken' : Option (List ℕ)) : Type 0 where
  pub run : Run limit stop first_place bytes
  pub goes_on : ends_early stop run.answers ≡ false
  pub written : Appends taken taken' (answers_text run.answers)

-- a read failed, and the commands that ended before are answered
pub record Broken (limit : ℕ) (stop : Bool) (left left' taken taken' : Option (List ℕ)) : Type 0 where
  pub read : List ℕ
  pub consumed : Consumes left left' read
  pub short : length read ≤ 16777216
  pub answers : AnswersAll limit stop read taken taken'

-- More bytes came than the limit, by at most 4,096, and the commands that ended within it are answered.
pub record Overlong (limit : ℕ) (stop : Bool) (left left' taken taken' : Option (List ℕ)) : Type 0 where
  pub read : List ℕ
  pub consumed : Consumes left left' read
  pub long : 16777216 < length read
  pub near : length read ≤ 16777216 + 4096
  pub answers : AnswersAll limit stop (take 16777216 read) taken taken'

-- the first text was taken whole, and of the other one a front
abbrev pub AppendsPast : (taken taken' : Option (List ℕ)) (whole other : List ℕ) → Type 0
AppendsPast taken taken' whole other = (n : ℕ) × (n ≤ length other) × Appends taken taken' (whole ++ take n other)

-- Behind some bytes at most 4,096 more were read. The answers to the commands that ended in the former were taken whole, and of
-- those to commands that ended behind them, within the limit, a front.
pub record IsCutAmongAnswers (limit : ℕ) (stop : Bool) (left left' taken taken' : Option (List ℕ)) : Type 0 where
  pub before : List ℕ
  pub piece : List ℕ
  pub consumed : Consumes left left' (before ++ piece)
  pub short : length before ≤ 16777216
  pub near : length piece ≤ 4096
  pub done : Run limit stop first_place before
  pub goes_on : ends_early stop done.answers ≡ false
  pub came : List ℕ
  pub behind : List ℕ
  pub within : take 16777216 (before ++ piece) ≡ came ++ behind
  pub run : Run limit stop first_place came
  pub others : List Reply
  pub answers : run.answers ≡ done.answers ++ others
  pub written : AppendsPast taken taken' (answers_text done.answers) (answers_text others)

-- the script was read to its end, and behind the answers a front of what follows them was taken
pub record IsCutInClosing (limit : ℕ) (stop : Bool) (left left' taken taken' : Option (List ℕ)) : Type 0 where
  pub bytes : List ℕ
  pub reading : IsReadWhole left left' bytes
  pub run : Run limit stop first_place bytes
  pub goes_on : ends_early stop run.answers ≡ false
  pub closing : List ℕ
  pub closes : IsClosing stop run.names run.session run.ending closing
  pub written : AppendsPast taken taken' (answers_text run.answers) closing

-- what was taken is a front of an output
pub data CutOff (limit : ℕ) (stop : Bool) (left left' taken taken' : Option (List ℕ)) : Type 0 where
  among_answers : IsCutAmongAnswers limit stop left left' taken taken' → CutOff limit stop left left' taken taken'
  in_closing : IsCutInClosing limit stop left left' taken taken' → CutOff limit stop left left' taken taken'

-- what a run of a script did; no proof is ever open so far
abbrev pub Outcome : (limit : ℕ) (stop : Bool) (left left' taken taken' : Option (List ℕ)) → Status → Type 0
Outcome limit stop left left' taken taken' Accepted = Completed limit stop left left' taken taken' false
Outcome limit stop left left' taken taken' Refused = Completed limit stop left left' taken taken' true
Outcome limit stop left left' taken taken' Usage = ⊥
Outcome limit stop left left' taken taken' ReadFault = Broken limit stop left left' taken taken'
Outcome limit stop left left' taken taken' WriteFault = CutOff limit stop left left' taken taken'
Outcome limit stop left left' taken taken' Memory = CutOff limit stop left left' taken taken'
Outcome limit stop left left' taken taken' OpenProof = ⊥
Outcome limit stop left left' taken taken' TooLong = Overlong limit stop left left' taken taken'

-- the line that wrong words are answered: the index of the first
abbrev pub usage_line : ℕ → List ℕ
usage_line index = codes "usage " ++ decimal index ++ codes "\n"

-- the line was taken, or a front of it
abbrev pub UsageOutcome : (index : ℕ) (taken taken' : Option (List ℕ)) → Status → Type 0
UsageOutcome index taken taken' Usage = Appends taken taken' (usage_line index)
UsageOutcome index taken taken' WriteFault = AppendsFront taken taken' (usage_line index)
UsageOutcome index taken taken' _ = ⊥

-- the script is known, is within the limit, and each of its commands is accepted
pub record IsAcceptable (limit : ℕ) (stop : Bool) (left : Option (List ℕ)) : Type 0 where
  pub bytes : List ℕ
  pub told : left ≡ Some bytes
  pub short : length bytes ≤ 16777216
  pub accepted : (r : Run limit stop first_place bytes) → refuses r ≡ false
