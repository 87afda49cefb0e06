-- What the parts of the scanner answer.
use Rattle.std.specs.Prelude.{◌≡◌, ℕ, ◌+◌, ◌≤◌, ◌<◌, List, [], ◌∷◌, ◌++◌, Option, Some, None, Bool, true, false, length, drop, get_or, slice_range}
use Rattle.std.specs.List.{list_all}
use Rattle.lego_lexer.specs.Bytes.{Gap, BeginsToken, IsOpenComment}
use Rattle.lego_base.specs.Place.{behind}
use Rattle.lego_base.specs.declared.limits.TheConstants.{MAX_PLACE}
use Rattle.lego_lexer.specs.Tokens.{IsLongest, WithinLimits, lexeme_of, Point, Reads, FaultAt, placed}
use Rattle.lego_lexer.specs.declared.token.LexFault.{LexFault}
use Rattle.lego_lexer.specs.declared.tokens.Cursor.{Cursor}
use Rattle.lego_lexer.specs.declared.tokens.Next.{Next}
use Rattle.lego_lexer.specs.declared.comment.Stop.{Stop}
use Rattle.lego_lexer.specs.declared.comment.Stop.TheVariants.{At, Open, End}
use Rattle.lego_lexer.specs.declared.scan.Scanned.{Scanned}

-- a walk from an index on, over bytes of a form, ends at wanted bytes, at a comment that does not end, or with the bytes
abbrev pub Stops : (List ℕ → Type 0) → (List ℕ → Type 0) → List ℕ → ℕ → Stop → Type 0
Stops Passed Wanted bytes from (At at) = (from ≤ at) × (at < length bytes) × Passed (slice_range bytes from at) × Wanted (drop at bytes)
Stops Passed Wanted bytes from (Open at) = (from ≤ at) × (at < length bytes) × Passed (slice_range bytes from at) × IsOpenComment (drop at bytes)
Stops Passed Wanted bytes from End = Passed (drop from bytes)

abbrev pub IsGapEnd : List ℕ → ℕ → Stop → Type 0
IsGapEnd = Stops Gap BeginsToken

-- answers about bytes are those of a kind of bytes
abbrev pub Decides : (ℕ → Bool) → (ℕ → Bool → Type 0) → Type 0
Decides kind Answers = (byte : ℕ) (answer : Bool) → byte < 256 → Answers byte answer → answer ≡ kind byte

-- a run of bytes of a kind, from an index on, ends
pub record IsRunEnd (p : ℕ → Bool) (bytes : List ℕ) (at to : ℕ) : Type 0 where
  pub after : at ≤ to
  pub within : to ≤ length bytes
  pub all : list_all p (slice_range bytes at to) ≡ true
  pub stops : to < length bytes → p (get_or bytes to 0) ≡ false

-- the longest token at an index, within the limits
pub record IsScanned (bytes : List ℕ) (at : ℕ) (scanned : Scanned) : Type 0 where
  pub some : at < scanned.to
  pub within : scanned.to ≤ length bytes
  pub longest : IsLongest (slice_range bytes at scanned.to) (drop scanned.to bytes) (lexeme_of bytes scanned.kind at scanned.to)
  pub small : WithinLimits (lexeme_of bytes scanned.kind at scanned.to)

-- a place of a script has room to grow
abbrev pub HasRoom : Cursor → Type 0
HasRoom at = (at.place.line ≤ MAX_PLACE + at.index) × (at.place.column ≤ MAX_PLACE + at.index)

abbrev pub point : Cursor → Point
point at = record { place = at.place; before = at.index }

-- the token that stands at a cursor, and the cursor behind it
pub record IsToken (bytes : List ℕ) (at : Cursor) (next : Next) : Type 0 where
  pub longest : IsLongest (slice_range bytes at.index next.behind.index) (drop next.behind.index bytes) (placed bytes next.token).lexeme
  pub small : WithinLimits (placed bytes next.token).lexeme
  pub place : next.token.place ≡ at.place
  pub from : next.token.from ≡ at.index
  pub to : next.token.to ≡ next.behind.index
  pub after : at.index < next.behind.index
  pub within : next.behind.index ≤ length bytes
  pub behind_place : next.behind.place ≡ behind at.place (slice_range bytes at.index next.behind.index)
  pub room : HasRoom next.behind

abbrev pub IsTokenAt : List ℕ → Cursor → Option Next → Type 0
IsTokenAt bytes at None = ⊥
IsTokenAt bytes at (Some next) = IsToken bytes at next

-- the first token from a cursor on, behind a gap
pub record IsFirst (bytes : List ℕ) (from : Cursor) (next : Next) : Type 0 where
  pub reads : Reads (point from) (drop from.index bytes) (placed bytes next.token ∷ []) (point next.behind) (drop next.behind.index bytes)
  pub small : WithinLimits (placed bytes next.token).lexeme
  pub after : from.index < next.behind.index
  pub within : next.behind.index ≤ length bytes
  pub room : HasRoom next.behind

abbrev pub IsNext : List ℕ → Cursor → Option Next → Type 0
IsNext bytes from None = Gap (drop from.index bytes)
IsNext bytes from (Some next) = IsFirst bytes from next

-- the fault that stands behind a gap
pub record IsFault (bytes : List ℕ) (from : Cursor) (fault : LexFault) : Type 0 where
  pub gap : List ℕ
  pub rest : List ℕ
  pub joins : drop from.index bytes ≡ gap ++ rest
  pub blank : Gap gap
  pub cause : FaultAt (behind from.place gap) rest fault
