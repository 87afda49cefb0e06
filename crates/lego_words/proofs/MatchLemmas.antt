-- What a simple command makes of words of the written form.
use Rattle.std.proofs.Common.{◌≡◌, ℕ, zero, suc, ◌+◌, ◌-◌, ◌∙◌, ◌<◌, List, [], ◌∷◌, ◌++◌, Bool, true, false, Option, Some, None, codes, refl, ap, sym, subst, arith, Result}
use Rattle.std.specs.Prelude.{IfOk, IfErr}
use Rattle.std.proofs.lemmas.Result.{IfErr-weaker, IfOk-weaker}
use Rattle.std.proofs.lemmas.Str.Parse.{digit_from_value}
use Rattle.clap.specs.Simple.{app_of_fields}
use Rattle.clap.specs.declared.builder.command.Command.{Command}
use Rattle.clap.specs.declared.builder.command.Command.TheViews.{out-Command as fields_of}
use Rattle.clap.specs.Words.{App, app_of, HasMatchesOf, Rule, found_of, is_simple, kind_of, matches_of, new_app, new_rule, with_rule, takes, first_of, one_of, rows_of}
use Rattle.clap.specs.declared.parser.matches.ArgMatches.{ArgMatches}
use Rattle.clap.specs.declared.error.Error.{Error}
use Rattle.clap.specs.declared.error.kind.ErrorKind.TheVariants.{OutOfMemory}
use Rattle.clap.specs.declared.builder.ArgAction.TheVariants.{SetTrue}
use Rattle.clap.proofs.OnLiterals.{clap_on_literals}
use Rattle.clap.proofs.WalkLemmas.{first_value-rows, one_text-rows}
use Rattle.lego_words.specs.Words.{AreWritten, IsSteps, End, Steps, Joined, Stop}
use Rattle.lego_words.specs.private.Gives.{AsksSteps, Gives, flag_text}
use Rattle.lego_words.specs.declared.options.Options.{Options}

abbrev pub steps_rule : Rule
steps_rule = record (new_rule (codes "steps")) { long = Some (codes "steps") }

abbrev pub stop_rule : Rule
stop_rule = record (new_rule (codes "stop")) { long = Some (codes "stop"); action = Some SetTrue }

-- no word is the program's name
abbrev pub unnamed : App
unnamed = let a = new_app (codes "lego") in record a { top = record a.top { no_binary_name = true } }

abbrev pub command : App
command = with_rule (with_rule unnamed steps_rule) stop_rule

-- whether the command takes words, and the texts that it finds for the steps and for the flag
abbrev Reading : Type 0
Reading = Bool × Option (List ℕ) × Option (List ℕ)

unfoldable reading : List (List ℕ) → Reading
reading words = (takes command words, first_of (codes "steps") (matches_of command words), one_of (codes "stop") (matches_of command words))

abbrev found : Option (List ℕ) → Bool → Reading
found steps stop = (true, steps, Some (flag_text stop))

no_words : reading [] ≡ found None false
unfolding reading clap_on_literals
no_words = refl

stop_alone : reading (codes "--stop" ∷ []) ≡ found None true
unfolding reading clap_on_literals
stop_alone = refl

joined_alone : (text : List ℕ) → reading ((codes "--steps=" ++ text) ∷ []) ≡ found (Some text) false
unfolding reading clap_on_literals
joined_alone text = refl

joined_stop : (text : List ℕ) → reading ((codes "--steps=" ++ text) ∷ codes "--stop" ∷ []) ≡ found (Some text) true
unfolding reading clap_on_literals
joined_stop text = refl

stop_joined : (text : List ℕ) → reading (codes "--stop" ∷ (codes "--steps=" ++ text) ∷ []) ≡ found (Some text) true
unfolding reading clap_on_literals
stop_joined text = refl

-- what holds of each digit
by_digit : (P : ℕ → Type 0) → P 48 → P 49 → P 50 → P 51 → P 52 → P 53 → P 54 → P 55 → P 56 → P 57 → (k : ℕ) → k < 10 → P (48 + k)
by_digit P p0 p1 p2 p3 p4 p5 p6 p7 p8 p9 zero l = p0
by_digit P p0 p1 p2 p3 p4 p5 p6 p7 p8 p9 (suc zero) l = p1
by_digit P p0 p1 p2 p3 p4 p5 p6 p7 p8 p9 (suc (suc zero)) l = p2
by_digit P p0 p1 p2 p3 p4 p5 p6 p7 p8 p9 (suc (suc (suc zero))) l = p3
by_digit P p0 p1 p2 p3 p4 p5 p6 p7 p8 p9 (suc (suc (suc (suc zero)))) l = p4
by_digit P p0 p1 p2 p3 p4 p5 p6 p7 p8 p9 (suc (suc (suc (suc (suc zero))))) l = p5
by_digit P p0 p1 p2 p3 p4 p5 p6 p7 p8 p9 (suc (suc (suc (suc (suc (suc zero)))))) l = p6
by_digit P p0 p1 p2 p3 p4 p5 p6 p7 p8 p9 (suc (suc (suc (suc (suc (suc (suc zero))))))) l = p7
by_digit P p0 p1 p2 p3 p4 p5 p6 p7 p8 p9 (suc (suc (suc (suc (suc (suc (suc (suc zero)))))))) l = p8
by_digit P p0 p1 p2 p3 p4 p5 p6 p7 p8 p9 (suc (suc (suc (suc (suc (suc (suc (suc (suc zero))))))))) l = p9
by_digit P p0 p1 p2 p3 p4 p5 p6 p7 p8 p9 (suc (suc (suc (suc (suc (suc (suc (suc (suc (suc k)))))))))) l = absurd (omega arith)

-- the command reads a word that follows `--steps` by its first byte

steps_alone : (k : ℕ) (ds : List ℕ) → k < 10 → reading (codes "--steps" ∷ ((48 + k) ∷ ds) ∷ []) ≡ found (Some ((48 + k) ∷ ds)) false
unfolding reading clap_on_literals
steps_alone k ds = by_digit (λ d. reading (codes "--steps" ∷ (d ∷ ds) ∷ []) ≡ found (Some (d ∷ ds)) false) refl refl refl refl refl refl refl refl refl refl k

steps_stop : (k : ℕ) (ds : List ℕ) → k < 10 → reading (codes "--steps" ∷ ((48 + k) ∷ ds) ∷ codes "--stop" ∷ []) ≡ found (Some ((48 + k) ∷ ds)) true
unfolding reading clap_on_literals
steps_stop k ds = by_digit (λ d. reading (codes "--steps" ∷ (d ∷ ds) ∷ codes "--stop" ∷ []) ≡ found (Some (d ∷ ds)) true) refl refl refl refl refl refl refl refl refl refl k

stop_steps : (k : ℕ) (ds : List ℕ) → k < 10 → reading (codes "--stop" ∷ codes "--steps" ∷ ((48 + k) ∷ ds) ∷ []) ≡ found (Some ((48 + k) ∷ ds)) true
unfolding reading clap_on_literals
stop_steps k ds = by_digit (λ d. reading (codes "--stop" ∷ codes "--steps" ∷ (d ∷ ds) ∷ []) ≡ found (Some (d ∷ ds)) true) refl refl refl refl refl refl refl refl refl refl k

-- a text of steps begins with a digit
record Digits (text : List ℕ) : Type 0 where
  pub k : ℕ
  pub ds : List ℕ
  pub small : k < 10
  pub is : text ≡ (48 + k) ∷ ds

digits_of : (text : List ℕ) {n : ℕ} → IsSteps text n → Digits text
digits_of [] t = absurd (omega (arith, t.digits.0))
digits_of (d ∷ ds) t =
    let range = digit_from_value d t.digits.1.0 in
    record { k = d - 48; ds = ds; small = omega (arith, range.1); is = ap (λ x. x ∷ ds) (omega (arith, range.0)) }

record Reads (words : List (List ℕ)) (options : Options) : Type 0 where
  pub steps : Option (List ℕ)
  pub asks : AsksSteps steps options.steps
  pub is : reading words ≡ found steps options.stop

written : {words : List (List ℕ)} {options : Options} → AreWritten words options → Reads words options
written End = record { steps = None; asks = refl; is = no_words }
written (Stop e End) = rw e (record { steps = None; asks = refl; is = stop_alone })
written (Joined {text = text} e t End) = rw e (record { steps = Some text; asks = t; is = joined_alone text })
written (Joined {text = text} e t (Stop f End)) = rw (e, f) (record { steps = Some text; asks = t; is = joined_stop text })
written (Stop f (Joined {text = text} e t End)) = rw (e, f) (record { steps = Some text; asks = t; is = stop_joined text })
written (Steps {text = text} e t End) =
    let d = digits_of text t in rw e (record { steps = Some text; asks = t; is = rw d.is (steps_alone d.k d.ds d.small) })
written (Steps {text = text} e t (Stop f End)) =
    let d = digits_of text t in rw (e, f) (record { steps = Some text; asks = t; is = rw d.is (steps_stop d.k d.ds d.small) })
written (Stop f (Steps {text = text} e t End)) =
    let d = digits_of text t in rw (e, f) (record { steps = Some text; asks = t; is = rw d.is (stop_steps d.k d.ds d.small) })

gives : (m : ArgMatches) {words : List (List ℕ)} {options : Options} → Reads words options → rows_of (found_of m) ≡ matches_of command words → Gives m options
unfolding reading
gives m {words} {options} r e = record {
  steps = subst (λ o. AsksSteps o options.steps)
      (sym (first_value-rows (found_of m) (codes "steps") ∙ ap (first_of (codes "steps")) e ∙ ap (λ (p : Reading). p.1) r.is)) r.asks;
  stop = one_text-rows (found_of m) (codes "stop") ∙ ap (one_of (codes "stop")) e ∙ ap (λ (p : Reading). p.2) r.is;
}

taken : {words : List (List ℕ)} {options : Options} → Reads words options → takes command words ≡ true
unfolding reading
taken r = ap (λ (p : Reading). p.0) r.is

command_simple : is_simple command ≡ true
unfolding clap_on_literals
command_simple = refl

pub unnamed_is : (old new : Command) → app_of old ≡ new_app (codes "lego") → fields_of new ≡ record (fields_of old) { no_binary_name = true } → app_of new ≡ unnamed
unnamed_is old new e f = ap app_of_fields f ∙ ap (λ (a : App). record a { top = record a.top { no_binary_name = true } }) e

module _ (app : App) (is : app ≡ command) (words : List (List ℕ)) (r : Result ArgMatches Error) (asked : Options) (form : AreWritten words asked) where
  pub matches_give : IfOk r (HasMatchesOf app words) → IfOk r (λ m. Gives m asked)
  matches_give = IfOk-weaker r _ _ (λ m h. gives m (written form) ((h (ap is_simple is ∙ command_simple)).0 ∙ ap (λ (a : App). matches_of a words) is))

  pub want_of_memory : IfErr r (λ e. takes app words ≡ true → kind_of e ≡ OutOfMemory) → IfErr r (λ e. kind_of e ≡ OutOfMemory)
  want_of_memory = IfErr-weaker r _ _ (λ e h. h (ap (λ (a : App). takes a words) is ∙ taken (written form)))
