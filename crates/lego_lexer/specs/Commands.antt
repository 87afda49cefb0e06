-- Commands cut from bytes.
use Rattle.std.specs.Prelude.{◌≡◌, ◌≢◌, ℕ, ◌+◌, List, [], ◌∷◌, ◌++◌, IsFalse, nat_lt, if◌then◌else◌, length}
use Rattle.lego_base.specs.Place.{behind}
use Rattle.lego_base.specs.declared.place.Place.{Place}
use Rattle.lego_lexer.specs.Bytes.{Gap, IsComment, IsOpenComment, BeginsToken, begins_comment}
use Rattle.lego_lexer.specs.Limits.{MAX_COMMAND}
use Rattle.lego_lexer.specs.declared.token.Cut as Code
use Rattle.lego_lexer.specs.declared.token.Cut.TheVariants as Cut

-- whole comments and other bytes, without a `;` outside comments
pub data Unbroken : List ℕ → Type 0 where
  none : Unbroken []
  byte : {b : ℕ} {bytes : List ℕ} → b ≢ 59 → IsFalse (begins_comment (b ∷ bytes)) → Unbroken bytes → Unbroken (b ∷ bytes)
  comment : {c bytes : List ℕ} → IsComment c → Unbroken bytes → Unbroken (c ++ bytes)

-- the bytes of a command, from its first token through its `;`
pub record IsCommandText (bytes : List ℕ) : Type 0 where
  pub body : List ℕ
  pub is : bytes ≡ body ++ 59 ∷ []
  pub unbroken : Unbroken body
  pub begins : BeginsToken bytes

-- what stands first in bytes, by its parts
pub data First : Type 0 where
  Blank : First
  Unended OpenComment : List ℕ → First
  Command : List ℕ → List ℕ → List ℕ → First

-- a gap alone; behind a gap a first token, which no `;` follows; behind other bytes, without `;`, a comment that does not end;
-- or behind a gap a command, of which the body stands before its `;`, and more bytes
pub data Begins : List ℕ → First → Type 0 where
  blank : {gap : List ℕ} → Gap gap → Begins gap Blank
  unended : {gap body : List ℕ} → Gap gap → Unbroken body → BeginsToken body → Begins (gap ++ body) (Unended gap)
  open_comment : {front comment : List ℕ} → Unbroken front → IsOpenComment comment → Begins (front ++ comment) (OpenComment front)
  command : {gap body bytes : List ℕ} → Gap gap → Unbroken body → BeginsToken (body ++ 59 ∷ bytes)
      → Begins (gap ++ body ++ 59 ∷ bytes) (Command gap body bytes)

-- a command from its first byte to behind its `;`: with too many bytes it is a long one
abbrev pub command_cut : ℕ → ℕ → Code.Cut
command_cut start end = if nat_lt (start + MAX_COMMAND) end then Cut.LongCommand start end else Cut.Command start end

-- the same by indices, where the first of the bytes has this one
abbrev pub cut_of : ℕ → First → Code.Cut
cut_of from Blank = Cut.Blank
cut_of from (Unended gap) = Cut.Unended (from + length gap)
cut_of from (OpenComment front) = Cut.OpenComment (from + length front)
cut_of from (Command gap body bytes) = command_cut (from + length gap) (from + length gap + length body + 1)

-- what stands first in bytes, of which the first has this index
pub record IsCut (from : ℕ) (bytes : List ℕ) (cut : Code.Cut) : Type 0 where
  pub first : First
  pub begins : Begins bytes first
  pub is : cut ≡ cut_of from first

-- how a script ends behind its last `;`
pub data Ending : Type 0 where
  Whole : Ending
  Unended OpenComment : Place → Ending

-- a command's bytes, from its first token through `;`, and where they begin
pub record CommandText : Type 0 where
  pub place : Place
  pub bytes : List ℕ

-- the bytes of a script, which begin at a place, are cut into these commands, and end so
pub data Cuts : Place → List ℕ → List CommandText → Ending → Type 0 where
  whole : {p : Place} {bytes : List ℕ} → Begins bytes First.Blank → Cuts p bytes [] Whole
  unended : {p : Place} {gap bytes : List ℕ} → Begins bytes (First.Unended gap) → Cuts p bytes [] (Unended (behind p gap))
  open_comment : {p : Place} {front bytes : List ℕ} → Begins bytes (First.OpenComment front) → Cuts p bytes [] (OpenComment (behind p front))
  command : {p : Place} {gap body rest bytes : List ℕ} {commands : List CommandText} {ending : Ending}
      → Begins bytes (First.Command gap body rest) → Cuts (behind p (gap ++ body ++ 59 ∷ [])) rest commands ending
      → Cuts p bytes (record { place = behind p gap; bytes = body ++ 59 ∷ [] } ∷ commands) ending

-- the commands that have ended in these bytes: before those of any more bytes they are the commands of both
abbrev pub HasEnded : Place → List ℕ → List CommandText → Type 0
HasEnded place bytes commands =
    (more : List ℕ) (others : List CommandText) (ending : Ending)
    → Cuts (behind place bytes) more others ending → Cuts place (bytes ++ more) (commands ++ others) ending
