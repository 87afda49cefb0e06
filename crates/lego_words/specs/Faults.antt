-- Why words are refused.
use Rattle.std.specs.Prelude.{ℕ, List}
use Rattle.lego_words.specs.Words.{AreOfForm, IsUsage}
use Rattle.lego_words.specs.declared.options.WordsFault.{WordsFault}
use Rattle.lego_words.specs.declared.options.WordsFault.TheVariants.{Usage, Memory}

-- words that are not of the written form are refused by their index, and want of memory refuses none but those of the form
abbrev pub IsFault : List (List ℕ) → WordsFault → Type 0
IsFault words (Usage index) = IsUsage words index
IsFault words Memory = AreOfForm words
