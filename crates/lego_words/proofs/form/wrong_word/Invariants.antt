use Rattle.std.proofs.Common.{◌-◌, ◌≤◌, take, length}
use Rattle.lego_words.specs.Words.{texts}
use Rattle.lego_words.specs.private.Given.{Passes, most_words, none_given}
use Rattle.lego_words.proofs.form.wrong_word.Given as goal

-- the words that were passed gave what is given
abbrev pub invariant-loop-at : goal.invariant-loop-at
invariant-loop-at l = record {
  passes : Passes none_given (take l.at (texts l.words)) l.given;
  within : l.at ≤ length l.words;
  few : l.at ≤ most_words l.given;
}

abbrev pub decreases-loop-at : goal.decreases-loop-at
decreases-loop-at l = length l.words - l.at
