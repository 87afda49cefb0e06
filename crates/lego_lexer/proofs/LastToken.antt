-- The last token of a command is its `;`.
use Rattle.std.proofs.Common.{◌≡◌, ℕ, Bool, true, false, not, ◌&&◌, nat_eq, List, [], ◌∷◌, ◌++◌, Some, None, refl, sym, ap, ◌∙◌, arith, append_assoc}
use Rattle.std.specs.List.{list_all}
use Rattle.std.proofs.lemmas.List.{append-nil}
use Rattle.std.proofs.lemmas.Bool.Decides.{nat_tests}
use mathlib.Core.Bool.{true≢false}
use Rattle.lego_base.specs.declared.place.Place.{Place}
use Rattle.lego_lexer.specs.Bytes.{is_blank, is_digit, begins_name, goes_on_in_name, begins_comment, Gap, BeginsToken}
use Rattle.lego_lexer.specs.Commands.{Unbroken, IsCommandText}
use Rattle.lego_lexer.specs.Tokens.{Lexeme, OfSymbol, word_text, words, symbol_text, symbols, has_name_form, has_number_form, token_of, Point, Placed, Reads, Tokens}
use Rattle.lego_lexer.specs.declared.token.Symbol.TheVariants.{Semicolon}
use Rattle.lego_lexer.proofs.TokenLemmas.{and_true, not_written}
use Rattle.lego_lexer.proofs.UniqueGaps.{begins_before, blank_not_open, same_comment}
use Rattle.lego_lexer.proofs.UniqueCuts.{halt_semicolon, stable}

-- no `;`, and not the first byte of a comment
abbrev is_quiet : ℕ → Bool
is_quiet b = not (nat_eq b 59) && not (nat_eq b 40)

-- so are all bytes but the first
abbrev has_quiet_tail : List ℕ → Bool
has_quiet_tail [] = true
has_quiet_tail (b ∷ bytes) = list_all is_quiet bytes

name_quiet : (b : ℕ) → goes_on_in_name b ≡ true → is_quiet b ≡ true
name_quiet b h = grind (arith, nat_tests)

digit_quiet : (b : ℕ) → is_digit b ≡ true → is_quiet b ≡ true
digit_quiet b h = grind (arith, nat_tests)

all_quiet : (p : ℕ → Bool) (bytes : List ℕ) → ((b : ℕ) → p b ≡ true → is_quiet b ≡ true) → list_all p bytes ≡ true → list_all is_quiet bytes ≡ true
all_quiet p [] weaker h = refl
all_quiet p (b ∷ bytes) weaker h =
    let t = and_true (p b) (list_all p bytes) h in
    rw (weaker b t.0, all_quiet p bytes weaker t.1) refl

name_tail : (text : List ℕ) → has_name_form text ≡ true → has_quiet_tail text ≡ true
name_tail [] h = refl
name_tail (b ∷ bytes) h = all_quiet goes_on_in_name bytes name_quiet (and_true (begins_name b) (list_all goes_on_in_name bytes) h).1

number_tail : (text : List ℕ) → has_number_form text ≡ true → has_quiet_tail text ≡ true
number_tail [] h = refl
number_tail (b ∷ bytes) h = all_quiet is_digit bytes digit_quiet (and_true (is_digit b) (list_all is_digit bytes) h).1

-- a form whose tail is quiet is none of this text
other_form : (form tail : Bool) → tail ≡ false → (form ≡ true → tail ≡ true) → form ≡ false
other_form true tail e h = absurd (true≢false (sym (h refl) ∙ e))
other_form false tail e h = refl

words_quiet : list_all (λ w. has_quiet_tail (word_text w)) words ≡ true
words_quiet = refl

symbols_quiet : list_all (λ s. has_quiet_tail (symbol_text s)) symbols ≡ true
symbols_quiet = refl

some_none : {X : Type 0} (x : X) → Some x ≡ None → ⊥
some_none x h = cc

no_token : (text : List ℕ) → has_quiet_tail text ≡ false → token_of text ≡ None
no_token text e =
    rw (
      not_written word_text has_quiet_tail text words words_quiet e,
      not_written symbol_text has_quiet_tail text symbols symbols_quiet e,
      other_form (has_name_form text) (has_quiet_tail text) e (name_tail text),
      other_form (has_number_form text) (has_quiet_tail text) e (number_tail text),
    ) refl

token_tail : (text : List ℕ) (l : Lexeme) → token_of text ≡ Some l → has_quiet_tail text ≡ true
token_tail text l h =
    elim (has_quiet_tail text) as (λ v. has_quiet_tail text ≡ v → has_quiet_tail text ≡ true) [
      | true ↦ λ e. e
      | false ↦ λ e. absurd (some_none l (sym h ∙ no_token text e))
    ] refl

no_empty_token : (l : Lexeme) → token_of [] ≡ Some l → ⊥
no_empty_token l h = cc

comment_begins : (b : ℕ) (bytes : List ℕ) → is_quiet b ≡ true → begins_comment (b ∷ bytes) ≡ true → ⊥
comment_begins b [] h e = true≢false (sym e)
comment_begins b (c ∷ bytes) h e = first (nat_eq b 40) (and_true (nat_eq b 40) (nat_eq c 42) e).0 (and_true (not (nat_eq b 59)) (not (nat_eq b 40)) h).1
  where
    first : (v : Bool) → v ≡ true → not v ≡ true → ⊥
    first true h k = true≢false (sym k)
    first false h k = true≢false (sym h)

-- the bytes are unbroken before their last byte, a `;`
record EndsSo (bytes : List ℕ) : Type 0 where
  body : List ℕ
  is : bytes ≡ body ++ 59 ∷ []
  unbroken : Unbroken body

past_quiet : {v : List ℕ} (text bytes : List ℕ) → Unbroken v → list_all is_quiet text ≡ true → text ++ bytes ≡ v ++ 59 ∷ [] → EndsSo bytes
past_quiet {v} [] bytes u q e = record { body = v; is = e; unbroken = u }
past_quiet (b ∷ text) bytes Unbroken.none q e =
    let first : b ≡ 59 = cc in
    absurd (true≢false (sym (and_true (is_quiet b) (list_all is_quiet text) q).0 ∙ ap is_quiet first))
past_quiet (b ∷ text) bytes (Unbroken.byte n f u) q e = past_quiet text bytes u (and_true (is_quiet b) (list_all is_quiet text) q).1 (cc)
past_quiet (b ∷ text) bytes (Unbroken.comment {c = c} {bytes = more} h u) q e =
    absurd (comment_begins b (text ++ bytes) (and_true (is_quiet b) (list_all is_quiet text) q).0
    (ap begins_comment (e ∙ append_assoc c more (59 ∷ [])) ∙ begins_before c (more ++ 59 ∷ []) h.begins))

past_gap : {gap v : List ℕ} (rest : List ℕ) → Gap gap → Unbroken v → gap ++ rest ≡ v ++ 59 ∷ [] → EndsSo rest
past_gap {v = v} rest Gap.none u e = record { body = v; is = e; unbroken = u }
past_gap rest (Gap.blank {b = b} h g) Unbroken.none e =
    let first : b ≡ 59 = cc in
    absurd (true≢false (sym h ∙ ap is_blank first))
past_gap rest (Gap.blank h g) (Unbroken.byte n f u) e = past_gap rest g u (cc)
past_gap rest (Gap.blank {b = b} {bytes = bytes} h g) (Unbroken.comment {c = c} {bytes = more} k u) e =
    absurd (blank_not_open b (bytes ++ rest) h (ap begins_comment (e ∙ append_assoc c more (59 ∷ [])) ∙ begins_before c (more ++ 59 ∷ []) k.begins))
past_gap rest (Gap.comment {c = c} {bytes = bytes} h g) Unbroken.none e =
    absurd (true≢false (sym (begins_before c (bytes ++ rest) h.begins) ∙ ap begins_comment (sym (append_assoc c bytes rest) ∙ e)))
past_gap rest (Gap.comment {c = c} {bytes = bytes} h g) (Unbroken.byte {b = b} {bytes = more} n f u) e =
    absurd (true≢false (sym (begins_before c (bytes ++ rest) h.begins)
    ∙ (ap begins_comment (sym (append_assoc c bytes rest) ∙ e) ∙ stable b more (59 ∷ []) (halt_semicolon []) f)))
past_gap rest (Gap.comment {c = c} {bytes = bytes} h g) (Unbroken.comment {c = d} {bytes = more} k u) e =
    past_gap rest g u (same_comment c d (bytes ++ rest) (more ++ 59 ∷ []) h k (sym (append_assoc c bytes rest) ∙ (e ∙ append_assoc d more (59 ∷ [])))).1

-- the last of the tokens is a `;`
pub record EndWithSemicolon (tokens : List Placed) : Type 0 where
  pub front : List Placed
  pub last : Placed
  pub is : tokens ≡ front ++ last ∷ []
  pub semicolon : last.lexeme ≡ OfSymbol Semicolon

empty_no_semicolon : (body : List ℕ) → [] ≡ body ++ 59 ∷ [] → ⊥
empty_no_semicolon [] e = cc
empty_no_semicolon (b ∷ body) e = cc

some_equal : {X : Type 0} (x y : X) → Some x ≡ Some y → x ≡ y
some_equal x y h = cc

empty_append : (a b : List ℕ) → a ++ b ≡ [] → (a ≡ []) × (b ≡ [])
empty_append [] b e = (refl, e)
empty_append (x ∷ a) b e = absurd (cc)

nothing_read : {at end : Point} {bytes rest : List ℕ} {tokens : List Placed} → Reads at bytes tokens end rest → bytes ≡ [] → tokens ≡ []
nothing_read Reads.none e = refl
nothing_read (Reads.token {gap = gap} {text = text} {bytes = bytes} {lexeme = lexeme} g begins longest more) e =
    let empty = (empty_append gap text (empty_append (gap ++ text) bytes e).0).1 in
    absurd (no_empty_token lexeme (ap token_of (sym empty) ∙ longest.is_token))

-- a token before the end of a command, from what those behind it end with
module _ (text bytes : List ℕ) (t : Placed) (tokens : List Placed) (begins : BeginsToken (text ++ bytes)) (is : token_of text ≡ Some t.lexeme)
    (none : bytes ≡ [] → tokens ≡ []) (others : EndsSo bytes → EndWithSemicolon tokens) where
  semicolon_alone : (x : List ℕ) → text ≡ x → x ++ bytes ≡ 59 ∷ [] → EndWithSemicolon (t ∷ tokens)
  semicolon_alone [] same e = absurd (no_empty_token t.lexeme (ap token_of (sym same) ∙ is))
  semicolon_alone (b ∷ rest) same e =
      let first : b ≡ 59 = cc in
      let both = empty_append rest bytes (cc) in
      let whole : text ≡ 59 ∷ [] = same ∙ (ap (λ (xs : List ℕ). b ∷ xs) both.0 ∙ ap (λ c. c ∷ []) first) in
      record {
        front = [];
        last = t;
        is = ap (λ (ts : List Placed). t ∷ ts) (none both.1);
        semicolon = some_equal t.lexeme (OfSymbol Semicolon) (sym is ∙ ap token_of whole);
      }

  more_behind : {v : List ℕ} (x : List ℕ) → text ≡ x → Unbroken v → (b : ℕ) → x ++ bytes ≡ b ∷ (v ++ 59 ∷ []) → EndWithSemicolon (t ∷ tokens)
  more_behind [] same u b e = absurd (no_empty_token t.lexeme (ap token_of (sym same) ∙ is))
  more_behind (c ∷ rest) same u b e =
      let h = others (past_quiet rest bytes u (ap has_quiet_tail (sym same) ∙ token_tail text t.lexeme is) (cc)) in
      record { front = t ∷ h.front; last = h.last; is = ap (λ (ts : List Placed). t ∷ ts) h.is; semicolon = h.semicolon }

  token_ends : {v : List ℕ} → Unbroken v → text ++ bytes ≡ v ++ 59 ∷ [] → EndWithSemicolon (t ∷ tokens)
  token_ends Unbroken.none e = semicolon_alone text refl e
  token_ends (Unbroken.byte {b = b} n f u) e = more_behind text refl u b e
  token_ends (Unbroken.comment {c = c} {bytes = more} h u) e =
      absurd (true≢false (sym (begins_before c (more ++ 59 ∷ []) h.begins) ∙ (ap begins_comment (sym (e ∙ append_assoc c more (59 ∷ []))) ∙ begins.no_comment)))

reads_end : {at end : Point} {bytes rest : List ℕ} {tokens : List Placed} → Reads at bytes tokens end rest → Gap rest → EndsSo bytes → EndWithSemicolon tokens
reads_end {bytes = bytes} Reads.none gap s =
    let empty = past_gap [] gap s.unbroken (append-nil bytes ∙ s.is) in
    absurd (empty_no_semicolon empty.body empty.is)
reads_end (Reads.token {gap = gap} {text = text} {bytes = bytes} {lexeme = lexeme} {tokens = tokens} g begins longest more) behind s =
    let here = past_gap (text ++ bytes) g s.unbroken (sym (append_assoc gap text bytes) ∙ s.is) in
    token_ends text bytes _ tokens begins longest.is_token (nothing_read more) (reads_end more behind) here.unbroken here.is

-- the tokens of a command's bytes end with its `;`
pub command_ends : {place : Place} {bytes : List ℕ} {tokens : List Placed} → IsCommandText bytes → Tokens place bytes tokens → EndWithSemicolon tokens
command_ends c t = reads_end t.reads t.blank (record { body = c.body; is = c.is; unbroken = c.unbroken })
