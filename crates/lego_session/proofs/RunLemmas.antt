-- A run goes on by one command.
use Rattle.std.proofs.Common.{◌≡◌, ℕ, ◌+◌, Bool, true, false, ◌||◌, ◌&&◌, List, [], ◌∷◌, ◌++◌, refl, sym, ap, ◌∙◌, subst, append-nil, length-append}
use Rattle.std.proofs.Math.Bool.{or-false}
use Rattle.std.proofs.lemmas.List.Folds.{list_any-append}
use Rattle.std.proofs.lemmas.Grind.{flat_map-append}
use mathlib.Core.Bool.{true≢false}
use Rattle.lego_base.specs.Place.{behind}
use Rattle.lego_lexer.specs.Bytes.{Gap}
use Rattle.lego_lexer.specs.Commands.{CommandText, First, Begins, Cuts, Ending, Whole}
use Rattle.lego_lexer.proofs.Fronts.{none_ended, one_ended, ended_join, the_command}
use Rattle.lego_grammar.specs.Grammar.{Names}
use Rattle.lego_session.specs.Sessions.{Session, empty_session}
use Rattle.lego_session.specs.Answers.{Answers}
use Rattle.lego_session.specs.Texts.{first_place}
use Rattle.lego_session.specs.private.Progress.{Reached}
use Rattle.lego_session.specs.Runs.{Run, Runs, answers_text, some_refused, ends_early}
use Rattle.lego_session.specs.Step.{Reply}

-- a refused reply among those behind the first is one among all
not_first : (stop : Bool) (a : Reply) (answers : List Reply) → ends_early stop (a ∷ answers) ≡ false → ends_early stop answers ≡ false
not_first false a answers h = refl
not_first true a answers h = by_case a.refused (some_refused answers) h
  where
    by_case : (r s : Bool) → (r || s) ≡ false → s ≡ false
    by_case true s e = absurd (true≢false e)
    by_case false s e = e

first_not : (stop : Bool) (a : Reply) (answers : List Reply) → (stop && a.refused) ≡ true → ends_early stop (a ∷ answers) ≡ true
first_not false a answers h = h
first_not true a answers h = ap (λ r. r || some_refused answers) h

-- a run of one command
push_one : {limit : ℕ} {stop : Bool} {held last : Names} {old new : Session} (c : CommandText) (a : Reply) → Answers limit held old c a last new
    → (b : Bool) → (stop && a.refused) ≡ b → Runs limit stop held old (c ∷ []) (a ∷ []) last new
push_one c a h true k = Runs.stops [] h k
push_one c a h false k = Runs.more h k Runs.none

-- a run of one command more
pub runs-push : {limit : ℕ} {stop : Bool} {held names last : Names} {old mid new : Session} {cs : List CommandText} {answers : List Reply} (c : CommandText) (a : Reply)
    → Runs limit stop held old cs answers names mid → ends_early stop answers ≡ false → Answers limit names mid c a last new
    → Runs limit stop held old (cs ++ c ∷ []) (answers ++ a ∷ []) last new
runs-push {stop = stop} c a Runs.none e h = push_one c a h (stop && a.refused) refl
runs-push {stop = stop} c a (Runs.more {a = first} {answers = answers} g k r) e h = Runs.more g k (runs-push c a r (not_first stop first answers e) h)
runs-push {stop = stop} c a (Runs.stops {a = first} others g k) e h = absurd (true≢false (sym (first_not stop first [] k) ∙ e))

pub text-push : (answers more : List Reply) → answers_text (answers ++ more) ≡ answers_text answers ++ answers_text more
text-push answers more = flat_map-append (λ (b : Reply). b.text) answers more

pub text-one : (a : Reply) → answers_text (a ∷ []) ≡ a.text
text-one a = append-nil a.text

pub refused-push : (answers : List Reply) (a : Reply) → some_refused (answers ++ a ∷ []) ≡ (some_refused answers || a.refused)
refused-push answers a = list_any-append (λ (b : Reply). b.refused) answers (a ∷ []) ∙ ap (λ b. some_refused answers || b) (or-false a.refused)

-- before the first command
pub reached_first : (limit : ℕ) (stop : Bool) → Reached limit stop [] [] [] empty_session
reached_first limit stop = record { commands = []; ended = none_ended first_place; runs = Runs.none; as_many = refl }

module _ {limit : ℕ} {stop : Bool} {came : List ℕ} {answers : List Reply} {names : Names} {s : Session} (r : Reached limit stop came answers names s) where
  -- one command more is answered
  pub reached_more : ends_early stop answers ≡ false → (bytes gap body : List ℕ) → Begins bytes (First.Command gap body []) → (a : Reply) (last : Names) (new : Session)
      → Answers limit names s (the_command (behind first_place came) gap body) a last new → Reached limit stop (came ++ bytes) (answers ++ a ∷ []) last new
  reached_more on bytes gap body begins a last new h = record {
    commands = r.commands ++ the_command (behind first_place came) gap body ∷ [];
    ended = ended_join first_place came bytes r.commands _ r.ended (one_ended (behind first_place came) bytes gap body begins);
    runs = runs-push _ a r.runs on h;
    as_many = length-append answers (a ∷ []) ∙ (ap (λ n. n + 1) r.as_many ∙ sym (length-append r.commands (the_command (behind first_place came) gap body ∷ [])));
  }

  -- it is a run over the bytes so far, with what stands behind the last command
  abbrev pub run_with : (read bytes : List ℕ) → read ≡ came ++ bytes → (ending : Ending) → Cuts (behind first_place came) bytes [] ending → Run limit stop first_place read
  run_with read bytes parts ending k = record {
    commands = r.commands ++ [];
    ending = ending;
    names = names;
    answers = answers;
    session = s;
    cut = subst (λ xs. Cuts first_place xs (r.commands ++ []) ending) (sym parts) (r.ended bytes [] ending k);
    runs = subst (λ (cs : List CommandText). Runs limit stop [] empty_session cs answers names s) (sym (append-nil r.commands)) r.runs;
  }

  abbrev pub run_here : Run limit stop first_place came
  run_here = record {
    commands = r.commands;
    ending = Whole;
    names = names;
    answers = answers;
    session = s;
    cut = subst (λ (cs : List CommandText). Cuts first_place came cs Whole) (append-nil r.commands)
        (subst (λ xs. Cuts first_place xs (r.commands ++ []) Whole) (append-nil came) (r.ended [] [] Whole (Cuts.whole (Begins.blank Gap.none))));
    runs = r.runs;
  }
