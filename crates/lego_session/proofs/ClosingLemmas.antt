-- What follows the answers, and a front of it.
use Rattle.std.proofs.Common.{◌≡◌, ℕ, Bool, true, false, List, [], ◌++◌, Option, arith, refl, sym, ap₂, subst}
use Rattle.std.specs.Prelude.{◌&&◌, MatchBool}
use Rattle.std.proofs.KnownBytes.{Appends-nil}
use Rattle.std.specs.Io.KnownBytes.{Appends}
use Rattle.lego_base.specs.Bytes.{AppendsFront}
use Rattle.lego_grammar.specs.Grammar.{Names}
use Rattle.lego_lexer.specs.Commands.{Ending}
use Rattle.lego_session.specs.Headline.{Headline}
use Rattle.lego_session.specs.Runs.{ending_text, is_ending_refused, IsDeveloped, IsClosing}
use Rattle.lego_session.specs.Sessions.{Session, context_of}
use Rattle.lego_session.specs.private.Gathered.{Gathers}
use Rattle.lego_session.specs.private.Progress.{IsClosed, IsClosedInPart}
use Rattle.lego_session.proofs.GatheredLemmas.{gathers_all, gathers_front}

-- where the test is passed, and where it fails
pub match_passed : (b : Bool) (P Q : Type 0) → b ≡ true → P → MatchBool b P Q
match_passed b P Q e h = subst (λ (x : Bool). MatchBool x P Q) (sym e) h

pub match_failed : (b : Bool) (P Q : Type 0) → b ≡ false → Q → MatchBool b P Q
match_failed b P Q e h = subst (λ (x : Bool). MatchBool x P Q) (sym e) h

-- nothing is a front of any text
front_of_none : (t : Option (List ℕ)) (text : List ℕ) → AppendsFront t t text
front_of_none t text = (0, omega arith, Appends-nil t)

module _ (stop : Bool) (names : Names) (s : Session) (ending : Ending) where
  -- nothing was taken
  pub cut_at_once : (t : Option (List ℕ)) → IsClosedInPart stop names s ending t t
  cut_at_once t = (ending_text names s ending, IsClosing.refused, front_of_none t (ending_text names s ending))

  module _ (refusal : List ℕ) (is : refusal ≡ ending_text names s ending) (t t' : Option (List ℕ)) where
    -- a front of the refusal was taken
    pub cut_refusal : AppendsFront t t' refusal → IsClosedInPart stop names s ending t t'
    cut_refusal f = (ending_text names s ending, IsClosing.refused, subst (AppendsFront t t') is f)

    -- the refusal is gathered
    pub gathered_refusal : (gathered : List ℕ) → Gathers t t' gathered refusal → IsClosedInPart stop names s ending t t'
    gathered_refusal gathered g = cut_refusal (gathers_front t t' gathered refusal g)

    module _ (development made : List ℕ) (same : development ≡ made) (developed : IsDeveloped stop names s ending made) where
      both : refusal ++ development ≡ ending_text names s ending ++ made
      both = ap₂ (λ (xs ys : List ℕ). xs ++ ys) is same

      -- a front of the refusal and of a development
      pub cut_development : AppendsFront t t' (refusal ++ development) → IsClosedInPart stop names s ending t t'
      cut_development f = (ending_text names s ending ++ made, IsClosing.developed (record { developed = developed; is = refl }), subst (AppendsFront t t') both f)

      -- all of both
      pub closed : ((stop && is_ending_refused ending) ≡ false → Headline names (context_of s) made) → (gathered : List ℕ) → gathered ≡ []
          → Gathers t t' gathered (refusal ++ development) → IsClosed stop names s ending t t'
      closed headline gathered none g = record {
        development = made;
        text = ending_text names s ending ++ made;
        closes = record { developed = developed; is = refl };
        written = subst (Appends t t') both (gathers_all t t' gathered (refusal ++ development) none g);
        headline = headline;
      }
