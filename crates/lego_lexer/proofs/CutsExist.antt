-- All bytes are cut in some way.
use Rattle.std.proofs.Common.{◌≡◌, ℕ, ◌+◌, ◌-◌, ◌<◌, zero, suc, true, false, Bool, ◌&&◌, nat_eq, List, [], ◌∷◌, ◌++◌, length, Option, Some, None, ◌⊎◌, inl, inr, refl, sym, ap, ◌∙◌, subst, arith, append_assoc, length-append}
use Rattle.std.proofs.lemmas.List.{append-nil}
use mathlib.Core.Bool.{true≢false}
use Rattle.lego_base.specs.Place.{behind}
use Rattle.lego_base.specs.declared.place.Place.{Place}
use Rattle.lego_lexer.specs.Bytes.{is_blank, delimiter}
use Rattle.lego_lexer.specs.Commands.{First, Begins, Ending, Cuts}
use Rattle.lego_lexer.specs.Cutter.{EndsOutside, EndsInside}
use Rattle.lego_lexer.specs.Laws.{IsCutSomehow, ScriptsAreCut, FrontsStay}
use Rattle.lego_lexer.specs.declared.comment.Delimiter.{Delimiter}
use Rattle.lego_lexer.specs.declared.comment.Delimiter.TheVariants.{Opens, Closes, Neither}
use Rattle.lego_lexer.proofs.TokenLemmas.{and_true, test_equal}
use Rattle.lego_lexer.proofs.CutterLemmas.{inside_opens, inside_closes, inside_ends, inside_passes, comment_opens, blank_passes, token_passes, token_ends, fresh, blank_cut, unended_cut, open_cut}
use Rattle.lego_lexer.proofs.UniqueCuts.{scripts_unique}
use Rattle.lego_lexer.proofs.Fronts.{command_goes_on, the_command}

-- bytes in which no command has ended
data Position (bytes : List ℕ) : Type 0 where
  outside : {last comment : ℕ} (start : Option ℕ) → EndsOutside 0 last start comment bytes → Position bytes
  inside : {depth last comment : ℕ} {start : Option ℕ} → 0 < depth → EndsInside 0 depth last start comment bytes → Position bytes

record Ended (bytes : List ℕ) : Type 0 where
  pub gap : List ℕ
  pub body : List ℕ
  pub begins : Begins bytes (First.Command gap body [])

apart_of : (last b : ℕ) → (nat_eq last 40 && nat_eq b 42) ≡ false → last ≡ 40 → b ≡ 42 → ⊥
apart_of last b h e f = true≢false (sym (ap (λ n. nat_eq n 40 && nat_eq b 42) e ∙ ap (λ n. nat_eq n 42) f) ∙ h)

inside_next : {bytes : List ℕ} (b depth last : ℕ) {comment : ℕ} {start : Option ℕ} → 0 < depth → EndsInside 0 depth last start comment bytes → Position (bytes ++ b ∷ [])
inside_next {bytes} b depth last {comment} {start} some e = by_two (delimiter last b) refl
  where
    by_depth : (n : ℕ) → depth ≡ n → Closes ≡ delimiter last b → Position (bytes ++ b ∷ [])
    by_depth zero is d = absurd (omega (arith, some, is))
    by_depth (suc zero) is d = Position.outside start (inside_ends e b is d)
    by_depth (suc (suc n)) is d =
        let deep : 0 < depth - 1 = omega (arith, is) in
        Position.inside deep (inside_closes e some b deep d)

    by_two : (d : Delimiter) → d ≡ delimiter last b → Position (bytes ++ b ∷ [])
    by_two Opens d = let deep : 0 < depth + 1 = omega arith in Position.inside deep (inside_opens e some b d)
    by_two Closes d = by_depth depth refl d
    by_two Neither d = Position.inside some (inside_passes e some b d)

outside_next : {bytes : List ℕ} (b last : ℕ) {comment : ℕ} (start : Option ℕ) → EndsOutside 0 last start comment bytes → Position (bytes ++ b ∷ []) ⊎ Ended (bytes ++ b ∷ [])
outside_next {bytes} b last {comment} start o = by_star (nat_eq last 40 && nat_eq b 42) refl
  where
    here : length bytes ≡ 0 + length bytes
    here = omega arith

    by_semicolon : (v : Bool) → nat_eq b 59 ≡ v → (start ≡ None → is_blank b ≡ false) → (last ≡ 40 → b ≡ 42 → ⊥) → Position (bytes ++ b ∷ []) ⊎ Ended (bytes ++ b ∷ [])
    by_semicolon true h blank apart =
        let e = token_ends (length bytes) o here in
        let last : b ≡ 59 = test_equal b 59 h in
        inr (record { gap = e.gap; body = e.body; begins = subst (λ x. Begins (bytes ++ x ∷ []) (First.Command e.gap e.body [])) (sym last) e.begins })
    by_semicolon false h blank apart =
        inl (Position.outside _ (token_passes b (length bytes) o (λ e. true≢false (sym (ap (λ n. nat_eq n 59) e) ∙ h)) blank apart here))

    by_start : (s : Option ℕ) → start ≡ s → (v : Bool) → is_blank b ≡ v → (last ≡ 40 → b ≡ 42 → ⊥) → Position (bytes ++ b ∷ []) ⊎ Ended (bytes ++ b ∷ [])
    by_start None e true h apart = inl (Position.outside None (blank_passes b 0 (subst (λ s. EndsOutside 0 last s comment bytes) e o) h))
    by_start None e false h apart = by_semicolon (nat_eq b 59) refl (λ n. h) apart
    by_start (Some s) e v h apart = by_semicolon (nat_eq b 59) refl (λ n. absurd (cc)) apart

    by_star : (v : Bool) → (nat_eq last 40 && nat_eq b 42) ≡ v → Position (bytes ++ b ∷ []) ⊎ Ended (bytes ++ b ∷ [])
    by_star true h =
        let both = and_true (nat_eq last 40) (nat_eq b 42) h in
        let deep : 0 < 1 = omega arith in
        inl (subst (λ x. Position (bytes ++ x ∷ [])) (sym (test_equal b 42 both.1)) (Position.inside deep (comment_opens o (test_equal last 40 both.0))))
    by_star false h = by_start start refl (is_blank b) refl (apart_of last b h)

pub record HasFirst (bytes : List ℕ) : Type 0 where
  pub first : First
  pub begins : Begins bytes first

at_end : {bytes : List ℕ} → Position bytes → HasFirst bytes
at_end (Position.outside None o) = let c = blank_cut o.passed refl in record { first = c.first; begins = c.begins }
at_end (Position.outside (Some s) o) = let c = unended_cut s o.passed refl in record { first = c.first; begins = c.begins }
at_end (Position.inside some e) = let c = open_cut e some in record { first = c.first; begins = c.begins }

next_position : {bytes : List ℕ} (b : ℕ) → Position bytes → Position (bytes ++ b ∷ []) ⊎ Ended (bytes ++ b ∷ [])
next_position b (Position.outside {last = last} start o) = outside_next b last start o
next_position b (Position.inside {depth = depth} {last = last} some e) = inl (inside_next b depth last some e)

next_first : {bytes : List ℕ} (rest : List ℕ) → (Position bytes → HasFirst (bytes ++ rest)) → Position bytes ⊎ Ended bytes → HasFirst (bytes ++ rest)
next_first rest others (inl q) = others q
next_first rest others (inr e) = record { first = First.Command e.gap e.body rest; begins = command_goes_on e.begins rest }

go_on : (bytes rest : List ℕ) → Position bytes → HasFirst (bytes ++ rest)
go_on bytes [] p = subst HasFirst (sym (append-nil bytes)) (at_end p)
go_on bytes (b ∷ rest) p = subst HasFirst (append_assoc bytes (b ∷ []) rest) (next_first rest (go_on (bytes ++ b ∷ []) rest) (next_position b p))

pub first_exists : (bytes : List ℕ) → HasFirst bytes
first_exists bytes = go_on [] bytes (Position.outside {last = 0} {comment = 0} None (fresh 0 0 0 (λ e. absurd (omega (arith, e)))))

shorter : {bytes gap body rest : List ℕ} {first : First} → Begins bytes first → first ≡ First.Command gap body rest → length rest < length bytes
shorter (Begins.blank g) e = absurd (cc)
shorter (Begins.unended g u b) e = absurd (cc)
shorter (Begins.open_comment u o) e = absurd (cc)
shorter {rest = rest} (Begins.command {gap = g} {body = v} {bytes = more} p u b) e =
    let same : more ≡ rest = cc in omega (arith, ap length same, length-append (g ++ v) (59 ∷ more))

cut_by : (place : Place) (bytes : List ℕ) (others : (p : Place) (rest : List ℕ) → length rest < length bytes → IsCutSomehow p rest) (first : First) → Begins bytes first → IsCutSomehow place bytes
cut_by place bytes others First.Blank b = record { commands = []; ending = Ending.Whole; cuts = Cuts.whole b }
cut_by place bytes others (First.Unended gap) b = record { commands = []; ending = Ending.Unended (behind place gap); cuts = Cuts.unended b }
cut_by place bytes others (First.OpenComment front) b = record { commands = []; ending = Ending.OpenComment (behind place front); cuts = Cuts.open_comment b }
cut_by place bytes others (First.Command gap body rest) b =
    let m = others (behind place (gap ++ body ++ 59 ∷ [])) rest (shorter b refl) in
    record { commands = the_command place gap body ∷ m.commands; ending = m.ending; cuts = Cuts.command b m.cuts }

cut_within : (n : ℕ) (place : Place) (bytes : List ℕ) → length bytes < n → IsCutSomehow place bytes
cut_within zero place bytes h = absurd (omega (arith, h))
cut_within (suc n) place bytes h =
    let f = first_exists bytes in
    cut_by place bytes (λ p rest less. cut_within n p rest (omega (arith, h, less))) f.first f.begins

pub scripts_cut : ScriptsAreCut
scripts_cut place bytes = cut_within (suc (length bytes)) place bytes (omega arith)

-- the commands of a front are the first
pub fronts_stay : FrontsStay
fronts_stay place bytes more commands all ending h c =
    let m = scripts_cut (behind place bytes) more in
    let same = scripts_unique place (bytes ++ more) all (commands ++ m.commands) ending m.ending c (h more m.commands m.ending m.cuts) in
    (m.commands, same.0, subst (λ e. Cuts (behind place bytes) more m.commands e) (sym same.1) m.cuts)
