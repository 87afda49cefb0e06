-- Behind which bytes a cutter stands.
use Rattle.std.specs.Prelude.{◌≡◌, ℕ, ◌+◌, ◌≤◌, ◌<◌, List, [], ◌∷◌, ◌++◌, IsFalse, true, Option, Some, None, nat_eq, length, take, drop, get_or}
use Rattle.lego_lexer.specs.Bytes.{Gap, BeginsToken, IsOpenComment, begins_comment, behind_comments}
use Rattle.lego_lexer.specs.Commands.{Unbroken, First, Begins, cut_of}
use Rattle.lego_lexer.specs.declared.cutter.Cutter.{Cutter}
use Rattle.lego_lexer.specs.declared.cutter.Fed as Feeding
use Rattle.lego_lexer.specs.declared.cutter.Fed.TheVariants as Fed
use Rattle.lego_lexer.specs.declared.token.Cut as Code
use Rattle.lego_lexer.specs.declared.token.Cut.TheVariants as Cut

-- a last `(` makes no `(*` with the bytes behind it
abbrev pub Apart : ℕ → List ℕ → Type 0
Apart last more = last ≡ 40 → IsFalse (nat_eq (get_or more 0 0) 42)

-- the front of a command, outside comments: it begins with a token and has no `;`, whatever follows
pub record IsFront (last : ℕ) (body : List ℕ) : Type 0 where
  pub unbroken : (more : List ℕ) → Apart last more → Unbroken more → Unbroken (body ++ more)
  pub begins : (more : List ℕ) → Apart last more → BeginsToken (body ++ more)

-- bytes outside comments, of which the first has this index: a gap, or behind a gap the front of a command, with the index of its first byte
pub data Passed (from last : ℕ) : Option ℕ → List ℕ → Type 0 where
  gap : {gap : List ℕ} → Gap gap → Passed from last None gap
  command : {gap body : List ℕ} → Gap gap → IsFront last body → Passed from last (Some (from + length gap)) (gap ++ body)

-- a command has begun, and a `(` at an index stands behind these bytes: it began before this `(`, or begins with it
pub data BeforeHalf (from : ℕ) : Option ℕ → ℕ → List ℕ → Type 0 where
  earlier : {start comment : ℕ} {front : List ℕ} → start < comment → Passed from 40 (Some start) front → BeforeHalf from (Some start) comment front
  here : {comment : ℕ} {front : List ℕ} → Gap front → BeforeHalf from (Some comment) comment front

-- the bytes end with a `(` at this index, which may begin a comment
pub record EndsHalf (from : ℕ) (start : Option ℕ) (comment : ℕ) (bytes : List ℕ) : Type 0 where
  pub front : List ℕ
  pub is : bytes ≡ front ++ 40 ∷ []
  pub there : comment ≡ from + length front
  pub before : BeforeHalf from start comment front

-- the bytes end outside comments
pub record EndsOutside (from last : ℕ) (start : Option ℕ) (comment : ℕ) (bytes : List ℕ) : Type 0 where
  pub passed : Passed from last start bytes
  pub half : last ≡ 40 → EndsHalf from start comment bytes

-- the bytes end inside so many comments, of which the outermost begins at this index
pub record EndsInside (from depth last : ℕ) (start : Option ℕ) (comment : ℕ) (bytes : List ℕ) : Type 0 where
  pub front : List ℕ
  pub text : List ℕ
  pub is : bytes ≡ front ++ text
  pub there : comment ≡ from + length front
  pub before : Passed from 40 start front
  pub begins : begins_comment text ≡ true
  pub inside : (more : List ℕ) → behind_comments 1 (drop 2 text ++ more) ≡ behind_comments depth (last ∷ more)

-- the cutter stands behind these bytes, of which the first has this index and stands behind the last command
pub record Stands (cutter : Cutter) (from : ℕ) (bytes : List ℕ) : Type 0 where
  pub fed : cutter.fed ≡ from + length bytes
  pub outside : cutter.depth ≡ 0 → EndsOutside from cutter.last cutter.start cutter.comment bytes
  pub inside : 0 < cutter.depth → EndsInside from cutter.depth cutter.last cutter.start cutter.comment bytes

-- a command ends with the last of the bytes, and the cutter stands behind it
pub record Ends (cutter : Cutter) (from : ℕ) (bytes : List ℕ) (cut : Code.Cut) : Type 0 where
  pub gap : List ℕ
  pub body : List ℕ
  pub begins : Begins bytes (First.Command gap body [])
  pub is : cut ≡ cut_of from (First.Command gap body [])
  pub stands : Stands cutter (from + length bytes) []

-- what came of one byte, the last of these
abbrev pub IsStep : Cutter → ℕ → List ℕ → Option Code.Cut → Type 0
IsStep cutter from bytes None = Stands cutter from bytes
IsStep cutter from bytes (Some cut) = Ends cutter from bytes cut

-- what came of a piece, which was fed behind these bytes
pub record EndsIn (cutter : Cutter) (from : ℕ) (bytes piece : List ℕ) (used : ℕ) (cut : Code.Cut) : Type 0 where
  pub some : 0 < used
  pub within : used ≤ length piece
  pub ends : Ends cutter from (bytes ++ take used piece) cut

abbrev pub IsFed : Cutter → ℕ → List ℕ → List ℕ → Feeding.Fed → Type 0
IsFed cutter from bytes piece Fed.More = Stands cutter from (bytes ++ piece)
IsFed cutter from bytes piece (Fed.Ended used cut) = EndsIn cutter from bytes piece used cut

-- where the command behind the last one begins, if a token of it has come
pub data HasStarted (from : ℕ) : List ℕ → Option ℕ → Type 0 where
  blank : {gap : List ℕ} → Gap gap → HasStarted from gap None
  open_comment : {gap comment : List ℕ} → Gap gap → IsOpenComment comment → HasStarted from (gap ++ comment) None
  token : {gap body : List ℕ} → Gap gap → BeginsToken body → HasStarted from (gap ++ body) (Some (from + length gap))

-- no command has ended
abbrev pub IsNoCommand : Code.Cut → Type 0
IsNoCommand (Cut.Command start end) = ⊥
IsNoCommand (Cut.LongCommand start end) = ⊥
IsNoCommand Cut.Blank = Unit {0}
IsNoCommand (Cut.Unended start) = Unit {0}
IsNoCommand (Cut.OpenComment start) = Unit {0}
