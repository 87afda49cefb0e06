-- The ranges of tokens lie in the bytes, and names are short: what a reader of tokens needs.
use Rattle.std.proofs.Common.{◌≡◌, ℕ, ◌+◌, ◌<◌, ◌≤◌, zero, suc, List, [], ◌∷◌, ◌++◌, length, get_or, map, Some, refl, ap, subst, arith, length-append}
use Rattle.std.specs.Prelude.{slice_range}
use Rattle.lego_base.specs.declared.place.Place.{Place}
use Rattle.lego_base.specs.declared.limits.TheConstants.{MAX_NAME}
use Rattle.lego_lexer.specs.Tokens.{Lexeme, token_of, Point, Placed, Reads, Tokens, WithinLimits, AllWithinLimits, lexeme_of, placed}
use Rattle.lego_lexer.specs.declared.token.Token.{Token}
use Rattle.lego_lexer.specs.declared.token.TokenKind.TheVariants as Kind

-- a range, after some bytes and before the end of more
pub record InRange (before end : ℕ) (t : Placed) : Type 0 where
  pub after : before ≤ t.from
  pub some : t.from < t.to
  pub within : t.to ≤ end

no_empty_token : (l : Lexeme) → token_of [] ≡ Some l → ⊥
no_empty_token l e = cc

text_some : (text : List ℕ) (l : Lexeme) → token_of text ≡ Some l → 0 < length text
text_some [] l e = absurd (no_empty_token l e)
text_some (b ∷ text) l e = omega arith

wider : {a b c d : ℕ} {t : Placed} → a ≤ b → c ≤ d → InRange b c t → InRange a d t
wider h k r = record { after = omega (arith, r.after); some = r.some; within = omega (arith, r.within) }

pub reads_in_range : {at end : Point} {xs rest : List ℕ} {ts : List Placed} → Reads at xs ts end rest
    → (i : ℕ) (d : Placed) → i < length ts → InRange at.before (at.before + length xs) (get_or ts i d)
reads_in_range Reads.none i d h = absurd (omega arith)
reads_in_range (Reads.token {at = at} {gap = g} {text = t} {bytes = x} {lexeme = l} gap begins longest more) zero d h =
    let some = text_some t l longest.is_token in
    record { after = omega arith; some = omega arith; within = omega (arith, length-append (g ++ t) x, length-append g t) }
reads_in_range (Reads.token {at = at} {gap = g} {text = t} {bytes = x} {lexeme = l} gap begins longest more) (suc i) d h =
    wider (omega arith) (omega (arith, length-append (g ++ t) x, length-append g t)) (reads_in_range more i d (omega arith))

get_or-map : {X Y : Type 0} (f : X → Y) (xs : List X) (i : ℕ) (d : X) → get_or (map f xs) i (f d) ≡ f (get_or xs i d)
get_or-map f [] i d = refl
get_or-map f (x ∷ xs) zero d = refl
get_or-map f (x ∷ xs) (suc i) d = get_or-map f xs i d

length-map : {X Y : Type 0} (f : X → Y) (xs : List X) → length (map f xs) ≡ length xs
length-map f [] = refl
length-map f (x ∷ xs) = ap suc (length-map f xs)

-- the range of each token that `lex` gives lies in the bytes, and isn't empty
pub token_in_range : (place : Place) (bytes : List ℕ) (tokens : List Token) → Tokens place bytes (map (placed bytes) tokens)
    → (i : ℕ) (d : Token) → i < length tokens → ((get_or tokens i d).from < (get_or tokens i d).to) × ((get_or tokens i d).to ≤ length bytes)
token_in_range place bytes tokens t i d h =
    let within : i < length (map (placed bytes) tokens) = omega (arith, length-map (placed bytes) tokens) in
    let range : InRange 0 (0 + length bytes) (placed bytes (get_or tokens i d)) =
    subst (InRange 0 (0 + length bytes)) (get_or-map (placed bytes) tokens i d) (reads_in_range t.reads i (placed bytes d) within) in
    (range.some, omega (arith, range.within))

-- the range of a name that `lex` gives is no longer than a name may be
pub name_is_short : (bytes : List ℕ) (tokens : List Token) → AllWithinLimits (map (placed bytes) tokens)
    → (i : ℕ) (d : Token) → i < length tokens → (get_or tokens i d).kind ≡ Kind.Name
    → length (slice_range bytes (get_or tokens i d).from (get_or tokens i d).to) ≤ MAX_NAME
name_is_short bytes tokens all i d h e =
    let within : i < length (map (placed bytes) tokens) = omega (arith, length-map (placed bytes) tokens) in
    let t = get_or tokens i d in
    let small : WithinLimits (placed bytes (get_or tokens i d)).lexeme =
    subst (λ x. WithinLimits x.lexeme) (get_or-map (placed bytes) tokens i d) (all i (placed bytes d) within) in
    subst (λ k. WithinLimits (lexeme_of bytes k t.from t.to)) e small
