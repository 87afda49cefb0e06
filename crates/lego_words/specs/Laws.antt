-- What the written form says of a list of words is one thing.
use Rattle.std.specs.Prelude.{◌≡◌, ℕ, List}
use Rattle.lego_words.specs.Words.{AreWritten, IsUsage}
use Rattle.lego_words.specs.declared.options.Options.{Options}

abbrev pub OneMeaning : Type 0
OneMeaning = (words : List (List ℕ)) (one other : Options) → AreWritten words one → AreWritten words other → one ≡ other

abbrev pub OneUsage : Type 0
OneUsage = (words : List (List ℕ)) (i j : ℕ) → IsUsage words i → IsUsage words j → i ≡ j
