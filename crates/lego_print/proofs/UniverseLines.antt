-- The lines of universes are comments.
use Rattle.std.proofs.Common.{◌≡◌, ℕ, ◌<◌, ◌^◌, Bool, true, false, not, ◌&&◌, nat_eq, if◌then◌else◌, List, [], ◌∷◌, ◌++◌, All, Some, refl, sym, ◌∙◌, subst, append_assoc, arith}
use Rattle.std.specs.Prelude.{decimal, IsPermutation}
use Rattle.std.specs.List.{list_all}
use Rattle.std.proofs.lemmas.Bool.Decides.{nat_tests}
use Rattle.std.proofs.lemmas.List.Elements.{All-cons, All-head, All-tail}
use Rattle.std.proofs.lemmas.List.Sorted.{All-permutation}
use Rattle.lego_term.specs.Levels.{Assignment, node_value}
use Rattle.lego_lexer.specs.Bytes.{is_digit, delimiter, behind_comments, IsComment, Gap}
use Rattle.lego_lexer.specs.declared.comment.Delimiter.TheVariants.{Neither}
use Rattle.lego_lexer.proofs.CommentLemmas.{passed}
use Rattle.lego_lexer.proofs.TokenLemmas.{and_true}
use Rattle.lego_print.specs.declared.universes.Universe.{Universe}
use Rattle.lego_print.specs.Developments.{used_once, universe_line, universe_lines}
use Rattle.lego_print.specs.Denoted.{IsSmall}
use Rattle.lego_print.proofs.ReadTokens.{decimal_text}

-- bytes in which no comment begins or ends
abbrev is_quiet : ℕ → Bool
is_quiet b = not (nat_eq b 40) && not (nat_eq b 42)

abbrev Quiet : List ℕ → Type 0
Quiet text = list_all is_quiet text ≡ true

quiet_join : (a b : List ℕ) → Quiet a → Quiet b → Quiet (a ++ b)
quiet_join [] b p q = q
quiet_join (c ∷ a) b p q =
    let t = and_true (is_quiet c) (list_all is_quiet a) p in
    let rest = quiet_join a b t.1 q in
    rw (t.0, rest) refl

quiet_digit : (b : ℕ) → is_digit b ≡ true → is_quiet b ≡ true
quiet_digit b h = grind (arith, nat_tests)

quiet_digits : (text : List ℕ) → list_all is_digit text ≡ true → Quiet text
quiet_digits [] h = refl
quiet_digits (b ∷ text) h =
    let t = and_true (is_digit b) (list_all is_digit text) h in
    let first = quiet_digit b t.0 in
    let rest = quiet_digits text t.1 in
    rw (first, rest) refl

quiet_decimal : (n : ℕ) → n < 2 ^ 64 → Quiet (decimal n)
quiet_decimal n l = let d = decimal_text n l in subst Quiet (sym d.is) (quiet_digits (d.first ∷ d.rest) d.digits)

no_delimiter : (b c : ℕ) → is_quiet b ≡ true → delimiter b c ≡ Neither
no_delimiter b c h =
    let t = and_true (not (nat_eq b 40)) (not (nat_eq b 42)) h in
    rw (no_test (nat_eq b 40) t.0, no_test (nat_eq b 42) t.1) refl
  where
    no_test : (t : Bool) → not t ≡ true → t ≡ false
    no_test true e = absurd (cc)
    no_test false e = refl

behind_quiet : (x : List ℕ) → Quiet x → behind_comments 1 (x ++ 42 ∷ 41 ∷ []) ≡ Some []
behind_quiet [] h = refl
behind_quiet (b ∷ []) h =
    let t = and_true (is_quiet b) true h in
    sym (passed 1 b 42 (41 ∷ []) (omega arith) (sym (no_delimiter b 42 t.0))) ∙ refl
behind_quiet (b ∷ c ∷ x) h =
    let t = and_true (is_quiet b) (list_all is_quiet (c ∷ x)) h in
    sym (passed 1 b c (x ++ 42 ∷ 41 ∷ []) (omega arith) (sym (no_delimiter b c t.0))) ∙ behind_quiet (c ∷ x) t.1

-- ` universe ` and ` at `
abbrev word_universe : List ℕ
word_universe = 32 ∷ 117 ∷ 110 ∷ 105 ∷ 118 ∷ 101 ∷ 114 ∷ 115 ∷ 101 ∷ 32 ∷ []

abbrev word_at : List ℕ
word_at = 32 ∷ 97 ∷ 116 ∷ 32 ∷ []

-- three numbers in a comment
abbrev inside : (line column value : List ℕ) → List ℕ
inside line column value = ((((word_universe ++ (line ++ 58 ∷ [] ++ column)) ++ word_at) ++ value) ++ 32 ∷ [])

quiet_inside : (line column value : List ℕ) → Quiet line → Quiet column → Quiet value → Quiet (inside line column value)
quiet_inside line column value p q r =
    quiet_join (((word_universe ++ (line ++ 58 ∷ [] ++ column)) ++ word_at) ++ value) (32 ∷ [])
    (quiet_join ((word_universe ++ (line ++ 58 ∷ [] ++ column)) ++ word_at) value
    (quiet_join (word_universe ++ (line ++ 58 ∷ [] ++ column)) word_at
    (quiet_join word_universe (line ++ 58 ∷ [] ++ column) refl (quiet_join (line ++ 58 ∷ []) column (quiet_join line (58 ∷ []) p refl) q)) refl) r) refl

comment_of : (x : List ℕ) → Quiet x → IsComment (40 ∷ 42 ∷ (x ++ 42 ∷ 41 ∷ []))
comment_of x h = record { begins = refl; ends = behind_quiet x h }

one_line : (line column value gap : List ℕ) → (40 ∷ 42 ∷ (inside line column value ++ 42 ∷ 41 ∷ [])) ++ 10 ∷ gap
    ≡ (((((40 ∷ 42 ∷ word_universe) ++ (line ++ 58 ∷ [] ++ column)) ++ word_at) ++ value) ++ 32 ∷ 42 ∷ 41 ∷ 10 ∷ []) ++ gap
one_line line column value gap = simp append_assoc

line_gap : (v : Assignment) (u : Universe) (gap : List ℕ) → IsSmall v u → Gap gap → Gap (universe_line v u ++ gap)
line_gap v u gap small g =
    let line = decimal u.place.line in
    let column = decimal u.place.column in
    let value = decimal (node_value v (Some u.variable)) in
    let quiet = quiet_inside line column value (quiet_decimal u.place.line small.line) (quiet_decimal u.place.column small.column) (quiet_decimal (node_value v (Some u.variable)) small.value) in
    subst Gap (one_line line column value gap) (Gap.comment (comment_of (inside line column value) quiet) (Gap.blank refl g))

lines_gap : (v : Assignment) (us : List Universe) → All (IsSmall v) us → Gap (universe_lines v us)
lines_gap v [] h = Gap.none
lines_gap v (u ∷ us) h =
    line_gap v u (universe_lines v us) (All-head (IsSmall v) u us h) (lines_gap v us (All-tail (IsSmall v) u us h))

used_small : (v : Assignment) (uses : ℕ → Bool) (us : List Universe) → All (IsSmall v) us → All (IsSmall v) (used_once uses us)
used_small v uses [] h = h
used_small v uses (u ∷ us) h =
    by_test (uses u.variable) (used_small v (λ w. uses w && not (nat_eq w u.variable)) us (All-tail (IsSmall v) u us h)) (used_small v uses us (All-tail (IsSmall v) u us h))
  where
    by_test : (b : Bool) → All (IsSmall v) (used_once (λ w. uses w && not (nat_eq w u.variable)) us) → All (IsSmall v) (used_once uses us)
        → All (IsSmall v) (if b then u ∷ used_once (λ w. uses w && not (nat_eq w u.variable)) us else used_once uses us)
    by_test true p q = All-cons (IsSmall v) u (used_once (λ w. uses w && not (nat_eq w u.variable)) us) (All-head (IsSmall v) u us h) p
    by_test false p q = q

-- the lines of listed universes are blank
pub listed_gap : (v : Assignment) (uses : ℕ → Bool) (us listed : List Universe) → All (IsSmall v) us → IsPermutation (used_once uses us) listed → Gap (universe_lines v listed)
listed_gap v uses us listed small same = lines_gap v listed (All-permutation (IsSmall v) (used_once uses us) listed same (used_small v uses us small))
