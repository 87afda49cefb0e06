-- Laws of the definitions: what the bytes determine.
use Rattle.std.specs.Prelude.{◌≡◌, ℕ, List, [], ◌∷◌, ◌++◌, take, drop, slice_range}
use Rattle.std.specs.List.{concat}
use Rattle.lego_base.specs.Place.{behind}
use Rattle.lego_base.specs.declared.place.Place.{Place}
use Rattle.lego_lexer.specs.Tokens.{Placed, Tokens, Refused, AllWithinLimits}
use Rattle.lego_lexer.specs.Commands.{IsCut, CommandText, Ending, Whole, Unended, OpenComment, Cuts, HasEnded}
use Rattle.lego_lexer.specs.Cutter.{Ends}
use Rattle.lego_lexer.specs.Pieces.{Answers, AllCuts}
use Rattle.lego_lexer.specs.declared.cutter.Cutter.{Cutter}
use Rattle.lego_lexer.specs.declared.token.LexFault.{LexFault}
use Rattle.lego_lexer.specs.declared.token.Cut as Code
use Rattle.lego_lexer.specs.declared.token.Cut.TheVariants as Cut

-- bytes at a place have at most one list of tokens
abbrev pub TokensAreUnique : Type 0
TokensAreUnique = (place : Place) (bytes : List ℕ) (one other : List Placed) → Tokens place bytes one → Tokens place bytes other → one ≡ other

-- they have at most one first fault, and none where they are tokens within the limits
abbrev pub FaultsAreUnique : Type 0
FaultsAreUnique = (place : Place) (bytes : List ℕ) (one other : LexFault) → Refused place bytes one → Refused place bytes other → one ≡ other

abbrev pub FaultsExcludeTokens : Type 0
FaultsExcludeTokens =
    (place : Place) (bytes : List ℕ) (tokens : List Placed) (fault : LexFault)
    → Tokens place bytes tokens → AllWithinLimits tokens → Refused place bytes fault → ⊥

-- what stands first in bytes is one cut
abbrev pub CutsAreUnique : Type 0
CutsAreUnique = (from : ℕ) (bytes : List ℕ) (one other : Code.Cut) → IsCut from bytes one → IsCut from bytes other → one ≡ other

-- a script has at most one list of commands, and ends in one way
abbrev pub ScriptsAreUnique : Type 0
ScriptsAreUnique =
    (place : Place) (bytes : List ℕ) (one other : List CommandText) (end last : Ending)
    → Cuts place bytes one end → Cuts place bytes other last → (one ≡ other) × (end ≡ last)

-- each script is cut into some commands, and ends in some way
pub record IsCutSomehow (place : Place) (bytes : List ℕ) : Type 0 where
  pub commands : List CommandText
  pub ending : Ending
  pub cuts : Cuts place bytes commands ending

abbrev pub ScriptsAreCut : Type 0
ScriptsAreCut = (place : Place) (bytes : List ℕ) → IsCutSomehow place bytes

-- a command with these indices stands first in a script, and the others behind it
pub record BeginsWith (place : Place) (bytes : List ℕ) (start end : ℕ) (commands : List CommandText) (ending : Ending) : Type 0 where
  pub others : List CommandText
  pub is : commands ≡ record { place = behind place (take start bytes); bytes = slice_range bytes start end } ∷ others
  pub cuts : Cuts (behind place (take end bytes)) (drop end bytes) others ending

-- the commands of a script are what stands first, and then those of the bytes behind its end
abbrev pub GoesOn : Place → List ℕ → Code.Cut → List CommandText → Ending → Type 0
GoesOn place bytes Cut.Blank commands ending = (commands ≡ []) × (ending ≡ Whole)
GoesOn place bytes (Cut.Unended start) commands ending = (commands ≡ []) × (ending ≡ Unended (behind place (take start bytes)))
GoesOn place bytes (Cut.OpenComment start) commands ending = (commands ≡ []) × (ending ≡ OpenComment (behind place (take start bytes)))
GoesOn place bytes (Cut.Command start end) commands ending = BeginsWith place bytes start end commands ending
GoesOn place bytes (Cut.LongCommand start end) commands ending = BeginsWith place bytes start end commands ending

abbrev pub ScriptsGoOn : Type 0
ScriptsGoOn =
    (place : Place) (bytes : List ℕ) (cut : Code.Cut) (commands : List CommandText) (ending : Ending)
    → IsCut 0 bytes cut → Cuts place bytes commands ending → GoesOn place bytes cut commands ending

-- the commands of a front of a script, up to a `;`, are the first of its commands
abbrev pub FrontsStay : Type 0
FrontsStay =
    (place : Place) (bytes more : List ℕ) (commands all : List CommandText) (ending : Ending)
    → HasEnded place bytes commands → Cuts place (bytes ++ more) all ending
    → (others : List CommandText) × (all ≡ commands ++ others) × Cuts (behind place bytes) more others ending

-- the cut of a command that has ended is what stands first, whatever bytes follow
abbrev pub EndsStay : Type 0
EndsStay = (cutter : Cutter) (from : ℕ) (bytes more : List ℕ) (cut : Code.Cut) → Ends cutter from bytes cut → IsCut from (bytes ++ more) cut

-- the cuts of a cutter that is fed pieces are those of the joined bytes
abbrev pub PiecesAreJoined : Type 0
PiecesAreJoined = (from : ℕ) (pieces : List (List ℕ)) (cuts : List Code.Cut) → Answers from [] pieces cuts → AllCuts from (concat pieces) cuts
