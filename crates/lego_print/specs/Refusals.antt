-- The texts of refusals: their first lines, and the details that need no context.
use Rattle.std.specs.Prelude.{ℕ, ◌+◌, ◌/◌, ◌%◌, nat_le, nat_lt, nat_eq, ◌&&◌, if◌then◌else◌, List, [], ◌∷◌, ◌++◌, length, codes, decimal}
use Rattle.lego_base.specs.declared.place.Place.{Place}
use Rattle.lego_print.specs.declared.heading.Heading.{Heading}
use Rattle.lego_print.specs.declared.refusal.Details.{Details}
use Rattle.lego_print.specs.declared.refusal.Details.TheVariants.{Nothing, Byte, Text, Count, Counts, Goal, GoalOf, Intro, Entries, Levels, Typing, Wanted, Sides}
use Rattle.lego_print.specs.Headings.{number_of, name_of}

-- a place: its line, a colon, its column
abbrev pub place_text : Place → List ℕ
place_text p = decimal p.line ++ codes ":" ++ decimal p.column

-- a hexadecimal digit, with capital letters
abbrev pub hex_digit : ℕ → ℕ
hex_digit n = if nat_lt n 10 then 48 + n else 55 + n

-- the byte itself where it is from 0x21 to 0x7E, else `\x` and its two hexadecimal digits
abbrev pub byte_text : ℕ → List ℕ
byte_text b = if nat_le 0x21 b && nat_le b 0x7E then b ∷ [] else codes "\\x" ++ hex_digit (b / 16) ∷ hex_digit (b % 16) ∷ []

-- the details that need no context; a goal is written with a `?`
abbrev pub details_text : Details → List ℕ
details_text Nothing = []
details_text (Byte b) = byte_text b
details_text (Text text) = text.now
details_text (Count n) = decimal n
details_text (Counts m n) = decimal m ++ codes ", " ++ decimal n
details_text (Goal n) = codes "?" ++ decimal n
details_text (GoalOf n left) = codes "?" ++ decimal n ++ codes ", " ++ decimal left
details_text (Intro n given found) = codes "?" ++ decimal n ++ codes " " ++ decimal given ++ codes ", " ++ decimal found
details_text (Entries held) = codes "entries " ++ decimal held
details_text (Levels held) = codes "levels " ++ decimal held
details_text (Typing term got) = term.now ++ codes " : " ++ got.now
details_text (Wanted term have want) = term.now ++ codes " : " ++ have.now ++ codes ", wanted " ++ want.now
details_text (Sides left right) = left.now ++ codes ", " ++ right.now

-- details behind a blank, where there are any
abbrev pub behind_blank : List ℕ → List ℕ
behind_blank details = if nat_eq (length details) 0 then [] else codes " " ++ details

-- the name of a refusal and its details
abbrev pub cause_text : Heading → List ℕ → List ℕ
cause_text heading details = name_of heading ++ behind_blank details

-- the first line of a refusal, without its end
abbrev pub refusal_text : Place → Heading → List ℕ → List ℕ
refusal_text p heading details = codes "refused " ++ place_text p ++ codes " " ++ decimal (number_of heading) ++ codes " " ++ cause_text heading details
