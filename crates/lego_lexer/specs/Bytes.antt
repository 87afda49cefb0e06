-- Bytes of a script: blanks, letters, digits and comments.
use Rattle.std.specs.Prelude.{◌≡◌, ℕ, zero, suc, List, [], ◌∷◌, ◌++◌, Bool, false, ◌&&◌, ◌||◌, nat_eq, nat_le, if◌then◌else◌, Option, Some, None, IsTrue, IsFalse, drop, get_or}
use Rattle.lego_lexer.specs.declared.comment.Delimiter.{Delimiter}
use Rattle.lego_lexer.specs.declared.comment.Delimiter.TheVariants.{Opens, Closes, Neither}

abbrev pub is_between : ℕ → ℕ → ℕ → Bool
is_between low high byte = nat_le low byte && nat_le byte high

-- space, tabulator, carriage return and line feed
abbrev pub is_blank : ℕ → Bool
is_blank byte = nat_eq byte 0x20 || nat_eq byte 0x09 || nat_eq byte 0x0D || nat_eq byte 0x0A

abbrev pub is_digit : ℕ → Bool
is_digit byte = is_between 48 57 byte

abbrev pub is_letter : ℕ → Bool
is_letter byte = is_between 65 90 byte || is_between 97 122 byte

-- a letter or `_` begins a name, and letters, `_`, digits and `'` go on in one
abbrev pub begins_name : ℕ → Bool
begins_name byte = is_letter byte || nat_eq byte 95

abbrev pub goes_on_in_name : ℕ → Bool
goes_on_in_name byte = begins_name byte || is_digit byte || nat_eq byte 39

-- two bytes: `(*`, `*)`, or neither
abbrev pub delimiter : ℕ → ℕ → Delimiter
delimiter b c = if nat_eq b 40 && nat_eq c 42 then Opens else if nat_eq b 42 && nat_eq c 41 then Closes else Neither

-- the bytes behind so many open comments, where they all end; comments nest
abbrev pub behind_comments : ℕ → List ℕ → Option (List ℕ)
behind_comments zero bytes = Some bytes
behind_comments (suc depth) [] = None
behind_comments (suc depth) (b ∷ []) = None
behind_comments (suc depth) (b ∷ c ∷ bytes) =
    elim (delimiter b c) [
      | Opens ↦ behind_comments (suc (suc depth)) bytes
      | Closes ↦ behind_comments depth bytes
      | Neither ↦ behind_comments (suc depth) (c ∷ bytes)
    ]

-- the bytes begin with these two
abbrev pub begins_with : ℕ → ℕ → List ℕ → Bool
begins_with first second [] = false
begins_with first second (b ∷ []) = false
begins_with first second (b ∷ c ∷ bytes) = nat_eq b first && nat_eq c second

-- the bytes begin with `(*`
abbrev pub begins_comment : List ℕ → Bool
begins_comment bytes = begins_with 40 42 bytes

-- the bytes are one whole comment
pub record IsComment (text : List ℕ) : Type 0 where
  pub begins : IsTrue (begins_comment text)
  pub ends : behind_comments 1 (drop 2 text) ≡ Some []

-- the bytes begin with a comment that they don't end
pub record IsOpenComment (text : List ℕ) : Type 0 where
  pub begins : IsTrue (begins_comment text)
  pub unended : behind_comments 1 (drop 2 text) ≡ None

-- blanks and whole comments
pub data Gap : List ℕ → Type 0 where
  none : Gap []
  blank : {b : ℕ} {bytes : List ℕ} → IsTrue (is_blank b) → Gap bytes → Gap (b ∷ bytes)
  comment : {c bytes : List ℕ} → IsComment c → Gap bytes → Gap (c ++ bytes)

-- there is a first byte, and it is neither a blank nor the first of a comment
pub record BeginsToken (text : List ℕ) : Type 0 where
  pub no_blank : IsFalse (is_blank (get_or text 0 0x20))
  pub no_comment : IsFalse (begins_comment text)
