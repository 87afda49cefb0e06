-- The text of a refusal.
use Rattle.std.specs.Prelude.{ℕ, List, [], ◌++◌, codes, decimal, Option, Some, None}
use Rattle.lego_base.specs.declared.place.Place.{Place}
use Rattle.lego_term.specs.declared.seen.Seen.{Seen}
use Rattle.lego_grammar.specs.Grammar.{Names}
use Rattle.lego_level.specs.declared.constraint.Constraint.{Constraint}
use Rattle.lego_inference.specs.declared.entry.Entry.{Entry as Item}
use Rattle.lego_inference.specs.declared.fault.Counted.{Counted}
use Rattle.lego_inference.specs.declared.fault.Counted.TheVariants.{Entries, Levels}
use Rattle.lego_print.specs.declared.heading.Heading.{Heading}
use Rattle.lego_print.specs.declared.shown.Shown.TheVariants.{Hidden}
use Rattle.lego_print.specs.Names.{Scope, name_text}
use Rattle.lego_print.specs.Texts.{seen_text, typing_text}
use Rattle.lego_print.specs.Lines.{refusal_lines}
use Rattle.lego_print.specs.Refusals.{byte_text}
use Rattle.lego_session.specs.Texts.{entries_scope}
use Rattle.lego_session.specs.declared.refusal.Cause.{Cause}
use Rattle.lego_session.specs.declared.refusal.Cause.TheVariants.{BadByte, OpenComment, LongName, BigLevel, Unexpected, TooDeep, Unended, LongCommand, NamesFull, UnknownName, UnknownGoal, NameInUse, NotAType, NotAFunction, NotAPair, Mismatch, Universe, Budget, TooLarge, LevelTooBig, Full, NotSigma, TooFar, Memory}

-- the heading of a cause; want of memory has none
abbrev pub heading : Cause → Option Heading
heading (BadByte byte) = Some Heading.BadByte
heading OpenComment = Some Heading.OpenComment
heading LongName = Some Heading.LongName
heading BigLevel = Some Heading.BigLevel
heading (Unexpected token) = Some Heading.Unexpected
heading TooDeep = Some Heading.TooDeep
heading Unended = Some Heading.Unended
heading (LongCommand bytes) = Some Heading.LongCommand
heading NamesFull = Some Heading.NamesFull
heading (UnknownName name) = Some Heading.UnknownName
heading (UnknownGoal number) = Some Heading.UnknownGoal
heading (NameInUse name) = Some Heading.NameInUse
heading (NotAType term got) = Some Heading.NotAType
heading (NotAFunction term got) = Some Heading.NotAFunction
heading (NotAPair term got) = Some Heading.NotAPair
heading (Mismatch term have want) = Some Heading.Mismatch
heading (Universe cycle) = Some Heading.Universe
heading (Budget left right) = Some Heading.Budget
heading (TooLarge nodes depth) = Some Heading.TooLarge
heading (LevelTooBig constraint needed) = Some Heading.LevelTooBig
heading (Full of held) = Some Heading.Full
heading (NotSigma got) = Some Heading.NotSigma
heading (TooFar asked held) = Some Heading.TooFar
heading Memory = None

-- a term under the binders around it; levels are hidden
abbrev pub hidden_text : Scope → Seen → List ℕ
hidden_text scope seen = seen_text Hidden scope seen

abbrev pub counted_text : Counted → List ℕ
counted_text Entries = codes "entries "
counted_text Levels = codes "levels "

-- the left side, and a right side behind a comma, where there is one
abbrev pub sides_text : Scope → Seen → Option Seen → List ℕ
sides_text scope left None = hidden_text scope left
sides_text scope left (Some right) = hidden_text scope left ++ codes ", " ++ hidden_text scope right

-- the details of a cause, with the names in scope
abbrev pub details_text : Scope → Cause → List ℕ
details_text scope (BadByte byte) = byte_text byte
details_text scope (Unexpected token) = token
details_text scope (LongCommand bytes) = decimal bytes
details_text scope (UnknownName name) = name_text scope.names name
details_text scope (UnknownGoal number) = codes "?" ++ decimal number
details_text scope (NameInUse name) = name_text scope.names name
details_text scope (NotAType term got) = typing_text Hidden scope term got
details_text scope (NotAFunction term got) = typing_text Hidden scope term got
details_text scope (NotAPair term got) = typing_text Hidden scope term got
details_text scope (Mismatch term have want) =
    hidden_text scope term ++ codes " : " ++ hidden_text scope have ++ codes ", wanted " ++ hidden_text scope want
details_text scope (Budget left right) = sides_text scope left right
details_text scope (TooLarge nodes depth) = decimal nodes ++ codes ", " ++ decimal depth
details_text scope (LevelTooBig constraint needed) = decimal needed
details_text scope (Full of held) = counted_text of ++ decimal held
details_text scope (NotSigma got) = hidden_text scope got
details_text scope (TooFar asked held) = decimal asked ++ codes ", " ++ decimal held
details_text scope _ = []

-- the constraints whose lines follow the first line
abbrev pub cycle_of : Cause → List Constraint
cycle_of (Universe cycle) = cycle
cycle_of _ = []

-- the lines of a refusal, where it has a heading
abbrev pub lines_under : Option Heading → Place → List ℕ → List Constraint → List ℕ
lines_under None place details cycle = []
lines_under (Some heading) place details cycle = refusal_lines place heading details cycle

-- The text of a refusal, with the names of these entries in scope. Levels are hidden; want of memory has no text.
abbrev pub refusal_text : Names → List Item → Place → Cause → List ℕ
refusal_text names es place cause = lines_under (heading cause) place (details_text (entries_scope names es) cause) (cycle_of cause)
