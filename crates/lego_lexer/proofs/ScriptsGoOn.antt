-- What stands first in a script is the first of its commands.
use Rattle.std.proofs.Common.{◌≡◌, ℕ, ◌+◌, ◌-◌, Bool, true, false, List, [], ◌∷◌, ◌++◌, length, take, drop, refl, sym, ap, ◌∙◌, subst, arith, append_assoc, length-append, nat_lt}
use Rattle.std.specs.Prelude.{slice_range, if◌then◌else◌}
use Rattle.std.proofs.Math.Seq.{take-append_seam, drop-append_seam, take-append-add}
use Rattle.lego_base.specs.Place.{behind}
use Rattle.lego_base.specs.declared.place.Place.{Place}
use Rattle.lego_lexer.specs.Commands.{First, Begins, cut_of, CommandText, Ending, Whole, Unended, OpenComment, Cuts}
use Rattle.lego_lexer.specs.Laws.{BeginsWith, GoesOn, ScriptsGoOn}
use Rattle.lego_lexer.specs.Limits.{MAX_COMMAND}
use Rattle.lego_lexer.specs.declared.token.Cut.TheVariants as Cut
use Rattle.lego_lexer.proofs.UniqueCuts.{same_first}
use Rattle.lego_lexer.proofs.Fronts.{the_command}

front_is : (front rest : List ℕ) → take (0 + length front) (front ++ rest) ≡ front
front_is front rest = let n : 0 + length front ≡ length front = omega arith in rw n (take-append_seam front rest)

unended_front : {bytes gap : List ℕ} {first : First} → Begins bytes first → first ≡ First.Unended gap → take (0 + length gap) bytes ≡ gap
unended_front (Begins.blank g) e = absurd (cc)
unended_front {gap = gap} (Begins.unended {gap = h} {body = body} g u b) e = let same : h ≡ gap = cc in subst (λ xs. take (0 + length gap) (xs ++ body) ≡ gap) (sym same) (front_is gap body)
unended_front (Begins.open_comment u o) e = absurd (cc)
unended_front (Begins.command g u b) e = absurd (cc)

open_front : {bytes front : List ℕ} {first : First} → Begins bytes first → first ≡ First.OpenComment front → take (0 + length front) bytes ≡ front
open_front (Begins.blank g) e = absurd (cc)
open_front (Begins.unended g u b) e = absurd (cc)
open_front {front = front} (Begins.open_comment {front = f} {comment = comment} u o) e =
    let same : f ≡ front = cc in subst (λ xs. take (0 + length front) (xs ++ comment) ≡ front) (sym same) (front_is front comment)
open_front (Begins.command g u b) e = absurd (cc)

command_is : {bytes gap body rest : List ℕ} {first : First} → Begins bytes first → first ≡ First.Command gap body rest → bytes ≡ gap ++ body ++ 59 ∷ rest
command_is (Begins.blank g) e = absurd (cc)
command_is (Begins.unended g u b) e = absurd (cc)
command_is (Begins.open_comment u o) e = absurd (cc)
command_is {gap = gap} {body = body} {rest = rest} (Begins.command {gap = g} {body = v} {bytes = more} p u b) e =
    let gaps : g ≡ gap = cc in
    let bodies : v ≡ body = cc in
    let rests : more ≡ rest = cc in
    rw (gaps, bodies, rests) refl

-- the parts of a command by indices
module _ (gap body rest : List ℕ) where
  parted : gap ++ body ++ 59 ∷ rest ≡ gap ++ (body ++ 59 ∷ rest)
  parted = append_assoc gap body (59 ∷ rest)

  pub gap_there : take (0 + length gap) (gap ++ body ++ 59 ∷ rest) ≡ gap
  gap_there = ap (take (0 + length gap)) parted ∙ front_is gap (body ++ 59 ∷ rest)

  tail : drop (0 + length gap) (gap ++ body ++ 59 ∷ rest) ≡ body ++ 59 ∷ rest
  tail = let n : 0 + length gap ≡ length gap = omega arith in ap (drop (0 + length gap)) parted ∙ rw n (drop-append_seam gap (body ++ 59 ∷ rest))

  pub text_there : slice_range (gap ++ body ++ 59 ∷ rest) (0 + length gap) (0 + length gap + length body + 1) ≡ body ++ 59 ∷ []
  text_there =
      let count : 0 + length gap + length body + 1 - (0 + length gap) ≡ length body + 1 = omega arith in
      ap (λ n. take n (drop (0 + length gap) (gap ++ body ++ 59 ∷ rest))) count ∙ (ap (take (length body + 1)) tail ∙ take-append-add body (59 ∷ rest) 1)

  joined : gap ++ body ++ 59 ∷ rest ≡ (gap ++ body ++ 59 ∷ []) ++ rest
  joined = sym (append_assoc (gap ++ body) (59 ∷ []) rest)

  count : 0 + length gap + length body + 1 ≡ length (gap ++ body ++ 59 ∷ [])
  count = omega (arith, length-append (gap ++ body) (59 ∷ []), length-append gap body)

  pub all_there : take (0 + length gap + length body + 1) (gap ++ body ++ 59 ∷ rest) ≡ gap ++ body ++ 59 ∷ []
  all_there = ap (λ n. take n (gap ++ body ++ 59 ∷ rest)) count ∙ (ap (take (length (gap ++ body ++ 59 ∷ []))) joined ∙ take-append_seam (gap ++ body ++ 59 ∷ []) rest)

  pub rest_there : drop (0 + length gap + length body + 1) (gap ++ body ++ 59 ∷ rest) ≡ rest
  rest_there = ap (λ n. drop n (gap ++ body ++ 59 ∷ rest)) count ∙ (ap (drop (length (gap ++ body ++ 59 ∷ []))) joined ∙ drop-append_seam (gap ++ body ++ 59 ∷ []) rest)

either : (place : Place) (bytes : List ℕ) (start end : ℕ) (commands : List CommandText) (ending : Ending) (v : Bool) → BeginsWith place bytes start end commands ending
    → GoesOn place bytes (if v then Cut.LongCommand start end else Cut.Command start end) commands ending
either place bytes start end commands ending true b = b
either place bytes start end commands ending false b = b

with_command : (place : Place) (gap body rest others-bytes : List ℕ) (others : List CommandText) (ending : Ending) → others-bytes ≡ gap ++ body ++ 59 ∷ rest
    → Cuts (behind place (gap ++ body ++ 59 ∷ [])) rest others ending → BeginsWith place others-bytes (0 + length gap) (0 + length gap + length body + 1) (the_command place gap body ∷ others) ending
with_command place gap body rest bytes others ending is c =
    subst (λ xs. BeginsWith place xs (0 + length gap) (0 + length gap + length body + 1) (the_command place gap body ∷ others) ending) (sym is) (record {
      others = others;
      is = rw (gap_there gap body rest, text_there gap body rest) refl;
      cuts = rw (all_there gap body rest, rest_there gap body rest) c;
    })

goes_on : {place : Place} {bytes : List ℕ} {commands : List CommandText} {ending : Ending} (first : First) → Begins bytes first → Cuts place bytes commands ending
    → GoesOn place bytes (cut_of 0 first) commands ending
goes_on {place} {bytes} first b (Cuts.whole d) = subst (λ f. GoesOn place bytes (cut_of 0 f) [] Whole) (same_first d b refl) (refl, refl)
goes_on {place} {bytes} first b (Cuts.unended {gap = gap} d) =
    subst (λ f. GoesOn place bytes (cut_of 0 f) [] (Unended (behind place gap))) (same_first d b refl) (refl, ap (λ xs. Unended (behind place xs)) (sym (unended_front d refl)))
goes_on {place} {bytes} first b (Cuts.open_comment {front = front} d) =
    subst (λ f. GoesOn place bytes (cut_of 0 f) [] (OpenComment (behind place front))) (same_first d b refl) (refl, ap (λ xs. OpenComment (behind place xs)) (sym (open_front d refl)))
goes_on {place} {bytes} first b (Cuts.command {gap = gap} {body = body} {rest = rest} {commands = others} {ending = ending} d more) =
    subst (λ f. GoesOn place bytes (cut_of 0 f) (the_command place gap body ∷ others) ending) (same_first d b refl)
    (either place bytes (0 + length gap) (0 + length gap + length body + 1) _ ending (nat_lt (0 + length gap + MAX_COMMAND) (0 + length gap + length body + 1))
    (with_command place gap body rest bytes others ending (command_is d refl) more))

pub scripts_go_on : ScriptsGoOn
scripts_go_on place bytes cut commands ending c s = subst (λ k. GoesOn place bytes k commands ending) (sym c.is) (goes_on c.first c.begins s)
