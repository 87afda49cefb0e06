-- Runs over the bytes of a script, and their output.
use Rattle.std.specs.Prelude.{◌≡◌, ℕ, Bool, true, false, ◌||◌, ◌&&◌, MatchBool, List, [], ◌∷◌, ◌++◌}
use Rattle.std.specs.List.{flat_map, list_any}
use Rattle.lego_base.specs.declared.place.Place.{Place}
use Rattle.lego_lexer.specs.Commands.{CommandText, Cuts, Ending, Whole, Unended, OpenComment}
use Rattle.lego_grammar.specs.Grammar.{Names}
use Rattle.lego_session.specs.Answers.{Answers}
use Rattle.lego_session.specs.Refusals.{refusal_text}
use Rattle.lego_session.specs.Sessions.{Session, empty_session, context_of, entries_of}
use Rattle.lego_session.specs.Step.{Reply}
use Rattle.lego_session.specs.Texts.{IsPrinted}
use Rattle.lego_session.specs.declared.refusal.Cause.TheVariants as Cause

-- Commands are answered one after the other: each over the names and the session that the one before it left, and with this
-- limit of steps for one comparison or reduction. With `--stop` a refused command is the last one that is answered.
pub data Runs (limit : ℕ) (stop : Bool) : Names → Session → List CommandText → List Reply → Names → Session → Type 0 where
  none : {names : Names} {s : Session} → Runs limit stop names s [] [] names s
  more : {held names last : Names} {old mid new : Session} {c : CommandText} {cs : List CommandText} {a : Reply} {answers : List Reply}
      → Answers limit held old c a names mid → (stop && a.refused) ≡ false → Runs limit stop names mid cs answers last new
      → Runs limit stop held old (c ∷ cs) (a ∷ answers) last new
  stops : {held names : Names} {old new : Session} {c : CommandText} {a : Reply} (others : List CommandText)
      → Answers limit held old c a names new → (stop && a.refused) ≡ true → Runs limit stop held old (c ∷ others) (a ∷ []) names new

-- The bytes, of which the first stands at a place, are cut into commands, which are answered, with no name and an empty
-- session at first.
pub record Run (limit : ℕ) (stop : Bool) (place : Place) (bytes : List ℕ) : Type 0 where
  pub commands : List CommandText
  pub ending : Ending
  pub names : Names
  pub answers : List Reply
  pub session : Session
  pub cut : Cuts place bytes commands ending
  pub runs : Runs limit stop [] empty_session commands answers names session

-- what stands behind the last `;` is refused at its first token, or at its open comment
abbrev pub ending_text : Names → Session → Ending → List ℕ
ending_text names s Whole = []
ending_text names s (Unended place) = refusal_text names (entries_of s) place Cause.Unended
ending_text names s (OpenComment place) = refusal_text names (entries_of s) place Cause.OpenComment

abbrev pub is_ending_refused : Ending → Bool
is_ending_refused Whole = false
is_ending_refused (Unended place) = true
is_ending_refused (OpenComment place) = true

abbrev pub answers_text : List Reply → List ℕ
answers_text answers = flat_map (λ a. a.text) answers

abbrev pub some_refused : List Reply → Bool
some_refused answers = list_any (λ a. a.refused) answers

-- `--stop` ends a run among its commands
abbrev pub ends_early : Bool → List Reply → Bool
ends_early stop answers = stop && some_refused answers

-- a text of the development of the session's context; no text, where `--stop` ends the run with what stands behind the last `;`
abbrev pub IsDeveloped : Bool → Names → Session → Ending → List ℕ → Type 0
IsDeveloped stop names s ending text = MatchBool (stop && is_ending_refused ending) (text ≡ []) (IsPrinted names (context_of s) text)

-- What follows the answers, where each command is answered: the refusal of the ending, and a development. Universes of one place
-- may stand there in any order; else the development is one text.
pub record Closes (stop : Bool) (names : Names) (s : Session) (ending : Ending) (development text : List ℕ) : Type 0 where
  pub developed : IsDeveloped stop names s ending development
  pub is : text ≡ ending_text names s ending ++ development

-- what follows them as far as it was made: the refusal of the ending alone, or all
pub data IsClosing (stop : Bool) (names : Names) (s : Session) (ending : Ending) : List ℕ → Type 0 where
  refused : IsClosing stop names s ending (ending_text names s ending)
  developed : {development text : List ℕ} → Closes stop names s ending development text → IsClosing stop names s ending text

-- what follows the answers of a run; nothing where `--stop` ended it among its commands
abbrev pub ClosesRun : {limit : ℕ} {stop : Bool} {place : Place} {bytes : List ℕ} → Run limit stop place bytes → (development text : List ℕ) → Type 0
ClosesRun {stop = stop} r development text =
    MatchBool (ends_early stop r.answers) (text ≡ []) (Closes stop r.names r.session r.ending development text)

-- the output of a run: the answers, and what follows them
pub record IsOutput {limit : ℕ} {stop : Bool} {place : Place} {bytes : List ℕ} (r : Run limit stop place bytes) (development text : List ℕ) : Type 0 where
  pub closing : List ℕ
  pub closes : ClosesRun r development closing
  pub is : text ≡ answers_text r.answers ++ closing

-- some command is refused, or what stands behind the last `;`
abbrev pub refuses : {limit : ℕ} {stop : Bool} {place : Place} {bytes : List ℕ} → Run limit stop place bytes → Bool
refuses r = some_refused r.answers || is_ending_refused r.ending
