-- What the matches of a command hold for the options.
use Rattle.std.specs.Prelude.{◌≡◌, ℕ, List, Bool, true, false, Option, Some, None, codes}
use Rattle.clap.specs.Words.{first_value, found_of, one_text}
use Rattle.clap.specs.declared.parser.matches.ArgMatches.{ArgMatches}
use Rattle.lego_words.specs.Words.{IsSteps, default_steps}
use Rattle.lego_words.specs.declared.options.Options.{Options}

-- the steps, by the text that was given for them, or none
abbrev pub AsksSteps : Option (List ℕ) → ℕ → Type 0
AsksSteps None n = n ≡ default_steps
AsksSteps (Some text) n = IsSteps text n

abbrev pub flag_text : Bool → List ℕ
flag_text false = codes "false"
flag_text true = codes "true"

pub record Gives (matches : ArgMatches) (options : Options) : Type 0 where
  pub steps : AsksSteps (first_value (found_of matches) (codes "steps")) options.steps
  pub stop : one_text (found_of matches) (codes "stop") ≡ Some (flag_text options.stop)
