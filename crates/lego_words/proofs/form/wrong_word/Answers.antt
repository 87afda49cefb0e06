use Rattle.std.proofs.Common.{arith, subst, List, ℕ}
use Rattle.std.proofs.lemmas.List.{length-drop, length-map}
use Rattle.std.specs.String.{string_bytes}
use Rattle.lego_words.specs.Words.{texts, IsUsageBehind}
use Rattle.lego_words.specs.private.Given.{IsOption, any_steps, none_given}
use Rattle.lego_words.proofs.PassedLemmas.{passes_on, rest_is, wrong_at, form_all}
use Rattle.lego_words.proofs.form.wrong_word.Goals as goal

pub loop-at-preserved : goal.loop-at-preserved
loop-at-preserved c =
    let words = c.args.words.now in
    let next = c.in-Ok.next in
    let option = subst (λ (ws : List (List ℕ)). IsOption c.loop-at.given ws next) (rest_is words c.loop-at.at) c.in-Ok.ensures.ok in
    record {
      passes = passes_on none_given c.loop-at.given next.given (texts words) c.loop-at.at next.taken c.loop-at.invariant.passes option.passes;
      within = omega (arith, option.within, length-drop c.loop-at.at (texts words), length-map words string_bytes);
      few = omega (arith, option.counted, c.loop-at.invariant.few);
    }

pub returns-in-Err-clause-some : goal.returns-in-Err-clause-some
returns-in-Err-clause-some c =
    let words = c.args.words.now in
    let wrong = subst (λ (ws : List (List ℕ)). IsUsageBehind (any_steps c.loop-at.given.steps) c.loop-at.given.stop ws c.in-Err.behind) (rest_is words c.loop-at.at) c.in-Err.ensures.err in
    wrong_at none_given c.loop-at.given (texts words) c.loop-at.at c.in-Err.behind (omega (arith, length-map words string_bytes)) c.loop-at.invariant.passes wrong

pub returns-clause-none : goal.returns-clause-none
returns-clause-none c =
    let words = c.args.words.now in
    form_all none_given c.loop-at.given (texts words) c.loop-at.at (omega (arith, length-map words string_bytes)) c.loop-at.invariant.passes
