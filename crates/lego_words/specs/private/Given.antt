-- Words that were passed, and what they gave.
use Rattle.std.specs.Prelude.{◌≡◌, ℕ, ◌+◌, ◌≤◌, ◌↔◌, List, ◌++◌, take, length, Bool, true, false, Option, Some, None}
use Rattle.lego_words.specs.Words.{WrittenBehind, IsSteps}
use Rattle.lego_words.specs.declared.options.Options.{Options}
use Rattle.lego_words.specs.declared.form.Given.{Given}
use Rattle.lego_words.specs.declared.form.Next.{Next}

-- before the first word
abbrev pub none_given : Given
none_given = record { steps = false; stop = false }

-- one number stands for the steps that were given: all let the same words follow
abbrev pub any_steps : Bool → Option ℕ
any_steps false = None
any_steps true = Some 1

-- words that are of the form behind those that gave this
abbrev pub AreOfFormBehind : Given → List (List ℕ) → Type 0
AreOfFormBehind given words = (options : Options) × WrittenBehind (any_steps given.steps) given.stop words options

-- behind these words, with what was given before them, stand just the words that stand with what is given now
abbrev pub Passes : Given → List (List ℕ) → Given → Type 0
Passes old passed new = (more : List (List ℕ)) → AreOfFormBehind old (passed ++ more) ↔ AreOfFormBehind new more

-- how many words may have given this, at most
abbrev pub words_of_steps : Bool → ℕ
words_of_steps false = 0
words_of_steps true = 2

abbrev pub words_of_stop : Bool → ℕ
words_of_stop false = 0
words_of_stop true = 1

abbrev pub most_words : Given → ℕ
most_words given = words_of_steps given.steps + words_of_stop given.stop

-- an option of one word or two, and what is given with it
pub record IsOption (given : Given) (words : List (List ℕ)) (next : Next) : Type 0 where
  pub passes : Passes given (take next.taken words) next.given
  pub some : 1 ≤ next.taken
  pub within : next.taken ≤ length words
  pub counted : most_words given + next.taken ≤ most_words next.given

-- the text writes steps, which are given now beside what was given before
pub record WritesSteps (given : Given) (text : List ℕ) (taken : ℕ) (next : Next) : Type 0 where
  pub n : ℕ
  pub is : IsSteps text n
  pub now : next.given ≡ record { steps = true; stop = given.stop }
  pub taken_is : next.taken ≡ taken
