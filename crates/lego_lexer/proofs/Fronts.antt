-- Commands that have ended stay, whatever bytes follow.
use Rattle.std.proofs.Common.{◌≡◌, ℕ, List, [], ◌∷◌, ◌++◌, refl, sym, ap, ◌∙◌, subst, append_assoc}
use Rattle.lego_base.specs.Place.{behind}
use Rattle.lego_base.specs.declared.place.Place.{Place}
use Rattle.lego_base.proofs.PlaceLemmas.{behind-append}
use Rattle.lego_lexer.specs.Bytes.{Gap, BeginsToken}
use Rattle.lego_lexer.specs.Commands.{Unbroken, First, Begins, IsCommandText, CommandText, Cuts, HasEnded}

semicolon_begins : (more : List ℕ) → BeginsToken (59 ∷ more)
semicolon_begins [] = record { no_blank = refl; no_comment = refl }
semicolon_begins (b ∷ more) = record { no_blank = refl; no_comment = refl }

-- what is behind a command's `;` does not matter to its first token
begins_so : (body rest other : List ℕ) → BeginsToken (body ++ 59 ∷ rest) → BeginsToken (body ++ 59 ∷ other)
begins_so [] rest other h = semicolon_begins other
begins_so (b ∷ []) rest other h = record { no_blank = h.no_blank; no_comment = h.no_comment }
begins_so (b ∷ c ∷ body) rest other h = record { no_blank = h.no_blank; no_comment = h.no_comment }

-- the parts of a command that ends with the last of the bytes
pub record IsLast (bytes gap body : List ℕ) : Type 0 where
  pub is : bytes ≡ gap ++ body ++ 59 ∷ []
  pub blank : Gap gap
  pub unbroken : Unbroken body
  pub begins : BeginsToken (body ++ 59 ∷ [])

last_of : {bytes gap body rest : List ℕ} {first : First} → Begins bytes first → first ≡ First.Command gap body rest → rest ≡ [] → IsLast bytes gap body
last_of (Begins.blank g) e h = absurd (cc)
last_of (Begins.unended g u b) e h = absurd (cc)
last_of (Begins.open_comment u o) e h = absurd (cc)
last_of {gap = gap} {body = body} {rest = rest} (Begins.command {gap = i} {body = w} {bytes = more} g u b) e h =
    let same : i ≡ gap = cc in
    let bodies : w ≡ body = cc in
    let none : more ≡ [] = cc in
    record {
      is = rw (same, bodies, none) refl;
      blank = subst Gap same g;
      unbroken = subst Unbroken bodies u;
      begins = subst (λ xs. BeginsToken (xs ++ 59 ∷ [])) bodies (subst (λ xs. BeginsToken (w ++ 59 ∷ xs)) none b);
    }

module _ {bytes gap body : List ℕ} (b : Begins bytes (First.Command gap body [])) where
  pub parts : IsLast bytes gap body
  parts = last_of b refl refl

  pub text_is : IsCommandText (body ++ 59 ∷ [])
  text_is = record { body = body; is = refl; unbroken = parts.unbroken; begins = parts.begins }

  -- the command stands first in more bytes too
  pub command_goes_on : (more : List ℕ) → Begins (bytes ++ more) (First.Command gap body more)
  command_goes_on more =
      let joined : gap ++ body ++ 59 ∷ more ≡ bytes ++ more = sym (ap (λ xs. xs ++ more) parts.is ∙ append_assoc (gap ++ body) (59 ∷ []) more) in
      subst (λ xs. Begins xs (First.Command gap body more)) joined (Begins.command parts.blank parts.unbroken (begins_so body [] more parts.begins))

pub none_ended : (place : Place) → HasEnded place [] []
none_ended place = λ more others ending c. c

abbrev pub the_command : Place → List ℕ → List ℕ → CommandText
the_command place gap body = record { place = behind place gap; bytes = body ++ 59 ∷ [] }

-- one more command
pub one_ended : (place : Place) (bytes gap body : List ℕ) → Begins bytes (First.Command gap body []) → HasEnded place bytes (the_command place gap body ∷ [])
one_ended place bytes gap body b = λ more others ending c.
    Cuts.command (command_goes_on b more) (subst (λ xs. Cuts (behind place xs) more others ending) (parts b).is c)

pub ended_join : (place : Place) (bytes more : List ℕ) (commands others : List CommandText) → HasEnded place bytes commands → HasEnded (behind place bytes) more others
    → HasEnded place (bytes ++ more) (commands ++ others)
ended_join place bytes more commands others p q = λ rest last ending c.
    let there : Cuts (behind (behind place bytes) more) rest last ending = subst (λ (x : Place). Cuts x rest last ending) (behind-append place bytes more) c in
    let all = p (more ++ rest) (others ++ last) ending (q rest last ending there) in
    subst (λ xs. Cuts place xs ((commands ++ others) ++ last) ending) (sym (append_assoc bytes more rest))
    (subst (λ (cs : List CommandText). Cuts place (bytes ++ (more ++ rest)) cs ending) (sym (append_assoc commands others last)) all)
