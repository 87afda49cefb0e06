-- Gaps have no `;` outside comments.
use Rattle.std.proofs.Common.{◌≡◌, ◌≢◌, ℕ, true, false, ◌&&◌, nat_eq, List, [], ◌∷◌, ◌++◌, refl, sym, ap, ◌∙◌, subst, arith, append_assoc}
use Rattle.std.proofs.lemmas.Bool.Decides.{nat_tests}
use mathlib.Core.Bool.{true≢false}
use Rattle.lego_lexer.specs.Bytes.{is_blank, begins_comment, Gap}
use Rattle.lego_lexer.specs.Commands.{Unbroken}

-- a gap has no `;` outside comments
not_blank : (b other : ℕ) → is_blank other ≡ false → is_blank b ≡ true → b ≢ other
not_blank b other n h e = true≢false (sym h ∙ (ap is_blank e ∙ n))

blank_begins_none : (b : ℕ) (bytes : List ℕ) → is_blank b ≡ true → begins_comment (b ∷ bytes) ≡ false
blank_begins_none b [] h = refl
blank_begins_none b (c ∷ bytes) h =
    let other : b ≢ 40 = not_blank b 40 refl h in
    let test : nat_eq b 40 ≡ false = grind (arith, nat_tests) in
    ap (λ v. v && nat_eq c 42) test

pub gap_unbroken : {gap : List ℕ} → Gap gap → Unbroken gap
gap_unbroken Gap.none = Unbroken.none
gap_unbroken (Gap.blank {b = b} {bytes = bytes} h g) = Unbroken.byte (not_blank b 59 refl h) (blank_begins_none b bytes h) (gap_unbroken g)
gap_unbroken (Gap.comment h g) = Unbroken.comment h (gap_unbroken g)

-- a gap, and unbroken bytes behind it
pub gap_then : {gap : List ℕ} (body : List ℕ) → Gap gap → Unbroken body → Unbroken (gap ++ body)
gap_then body Gap.none u = u
gap_then body (Gap.blank {b = b} {bytes = bytes} h g) u = Unbroken.byte (not_blank b 59 refl h) (blank_begins_none b (bytes ++ body) h) (gap_then body g u)
gap_then body (Gap.comment {c = c} {bytes = bytes} h g) u = subst Unbroken (sym (append_assoc c bytes body)) (Unbroken.comment h (gap_then body g u))
