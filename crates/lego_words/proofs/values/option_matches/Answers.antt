use Rattle.std.proofs.Common.{rules, ◌≡◌, ◌∙◌, ap₂}
use Rattle.clap.specs.Words.{app_of, rule_of, with_rule}
use Rattle.lego_words.proofs.MatchLemmas.{command, steps_rule, stop_rule, unnamed_is, matches_give, want_of_memory}
use Rattle.lego_words.proofs.values.option_matches.Goals as goal

pub returns : goal.returns
returns c =
    let steps_is : rule_of c.long-steps.result ≡ steps_rule = search rules in
    let stop_is : rule_of c.action-stop.result ≡ stop_rule = search rules in
    let is : app_of c.in_ok-command.command ≡ command = c.in_ok-command.ensures.shape (search rules)
    ∙ ap₂ with_rule (c.in_ok-arg.ensures.shape (search rules) ∙ ap₂ with_rule (unnamed_is _ _ c.new-3.ensures.app c.no_binary_name.ensures) steps_is) stop_is in
    record {
      ok = λ asked form. matches_give _ is _ _ asked form c.try_get_matches_from.ensures.matches;
      err = λ asked form. want_of_memory _ is _ _ asked form c.try_get_matches_from.ensures.passes;
    }
