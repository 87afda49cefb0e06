-- Tokens are found by their places.
use Rattle.std.proofs.Common.{◌≡◌, ℕ, ◌+◌, Bool, true, false, ◌&&◌, nat_eq, nat_lt, List, slice_get, Some, refl, sym, ap, ◌∙◌, subst, arith, true≢false}
use Rattle.std.proofs.lemmas.Bool.{eqb-true, eq-eqb, ltb-true, ltb-false}
use Rattle.std.proofs.lemmas.Option.{same_Some}
use Rattle.std.specs.Cmp.Derive.{both_true}
use Rattle.lego_base.specs.declared.place.Place.{Place}
use Rattle.lego_lexer.specs.declared.token.Token.{Token}
use Rattle.lego_session.specs.private.Unread.{FirstStandElsewhere}

-- two places are the same by the test of their numbers
abbrev pub are_same : Place → Place → Bool
are_same p q = nat_eq p.line q.line && nat_eq p.column q.column

both_numbers : (a b : Bool) → (a && b) ≡ true → (a ≡ true) × (b ≡ true)
both_numbers true b e = (refl, e)
both_numbers false b e = absurd (true≢false (sym e))

pub same_place : (p q : Place) → are_same p q ≡ true → p ≡ q
same_place p q e =
    let both = both_numbers (nat_eq p.line q.line) (nat_eq p.column q.column) e in
    let line : p.line ≡ q.line = eqb-true p.line q.line both.0 in
    let column : p.column ≡ q.column = eqb-true p.column q.column both.1 in
    ap (λ n. record { line = n; column = p.column }) line ∙ ap (λ n. record { line = q.line; column = n }) column

pub other_place : (p q : Place) → are_same p q ≡ false → p ≡ q → ⊥
other_place p q e same =
    true≢false (sym (both_true (eq-eqb p.line q.line (ap (λ (x : Place). x.line) same)) (eq-eqb p.column q.column (ap (λ (x : Place). x.column) same))) ∙ e)

-- one token more stands elsewhere
pub elsewhere_more : (tokens : List Token) (p : Place) (i : ℕ) (t : Token) → FirstStandElsewhere tokens p i → slice_get tokens i ≡ Some t
    → are_same t.place p ≡ false → FirstStandElsewhere tokens p (i + 1)
elsewhere_more tokens p i t before at other n u l there = by_test (nat_lt n i) refl
  where
    by_test : (b : Bool) → nat_lt n i ≡ b → u.place ≡ p → ⊥
    by_test true e = before n u (ltb-true n i e) there
    by_test false e =
        let same : n ≡ i = let g = ltb-false n i e in omega (arith, g, l) in
        let one : u ≡ t = same_Some u t (sym there ∙ ap (slice_get tokens) same ∙ at) in
        other_place u.place p (subst (λ (x : Token). are_same x.place p ≡ false) (sym one) other)
