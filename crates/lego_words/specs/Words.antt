-- The written form of the words behind the program's name, and the first word that departs from it.
use Rattle.std.specs.Prelude.{◌≡◌, ℕ, suc, ◌≤◌, ◌<◌, List, [], ◌∷◌, ◌++◌, length, take, Bool, true, false, Option, Some, None, unwrap_or, codes, map, String}
use Rattle.std.specs.Str.Parse.{IsNumeral, digits_value}
use Rattle.std.specs.String.{string_bytes}
use Rattle.std.specs.declared.alloc.Global.{Global}
use Rattle.lego_words.specs.declared.options.Options.{Options}

-- the most digits of a number, and the most steps
abbrev pub max_digits : ℕ
max_digits = 8

abbrev pub max_steps : ℕ
max_steps = 10000000

-- the steps where none are given
abbrev pub default_steps : ℕ
default_steps = 100000

-- one to eight decimal digits, which write a number of steps
pub record IsSteps (text : List ℕ) (n : ℕ) : Type 0 where
  pub digits : IsNumeral 10 text
  pub short : length text ≤ max_digits
  pub value : digits_value 10 text ≡ n
  pub low : 1 ≤ n
  pub high : n ≤ max_steps

-- Options in any order, behind words that gave these steps, or none, and `--stop`, or not: each option stands at most once.
pub data WrittenBehind : Option ℕ → Bool → List (List ℕ) → Options → Type 0 where
  End : {steps : Option ℕ} {stop : Bool} → WrittenBehind steps stop [] (record { steps = unwrap_or steps default_steps; stop = stop })
  Steps : {word text : List ℕ} {rest : List (List ℕ)} {n : ℕ} {stop : Bool} {options : Options}
      → word ≡ codes "--steps" → IsSteps text n → WrittenBehind (Some n) stop rest options → WrittenBehind None stop (word ∷ text ∷ rest) options
  Joined : {word text : List ℕ} {rest : List (List ℕ)} {n : ℕ} {stop : Bool} {options : Options}
      → word ≡ codes "--steps=" ++ text → IsSteps text n → WrittenBehind (Some n) stop rest options → WrittenBehind None stop (word ∷ rest) options
  Stop : {word : List ℕ} {rest : List (List ℕ)} {steps : Option ℕ} {options : Options}
      → word ≡ codes "--stop" → WrittenBehind steps true rest options → WrittenBehind steps false (word ∷ rest) options

-- some list of the form begins with these words
abbrev pub BeginsBehind : Option ℕ → Bool → List (List ℕ) → Type 0
BeginsBehind steps stop words = (more : List (List ℕ)) × (options : Options) × WrittenBehind steps stop (words ++ more) options

-- The words are not of the form. Those before the index begin a list of the form, and with the word at the index no more;
-- where there is no such word, a value is missing.
pub record IsUsageBehind (steps : Option ℕ) (stop : Bool) (words : List (List ℕ)) (index : ℕ) : Type 0 where
  pub wrong : (options : Options) → WrittenBehind steps stop words options → ⊥
  pub before : BeginsBehind steps stop (take index words)
  pub with_it : index < length words → BeginsBehind steps stop (take (suc index) words) → ⊥
  pub within : index ≤ length words

-- the same of all words, before which nothing was given
abbrev pub AreWritten : List (List ℕ) → Options → Type 0
AreWritten words options = WrittenBehind None false words options

abbrev pub IsUsage : List (List ℕ) → ℕ → Type 0
IsUsage words index = IsUsageBehind None false words index

-- the words are of the form
abbrev pub AreOfForm : List (List ℕ) → Type 0
AreOfForm words = (options : Options) × AreWritten words options

-- the texts of the words
abbrev pub texts : List (String Global) → List (List ℕ)
texts words = map string_bytes words
