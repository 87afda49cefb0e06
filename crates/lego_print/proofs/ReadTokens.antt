-- Tokens at the front of bytes.
use Rattle.std.proofs.Common.{◌≡◌, ℕ, ◌+◌, ◌-◌, ◌*◌, ◌/◌, ◌%◌, ◌<◌, ◌≤◌, ◌^◌, Bool, true, false, ◌&&◌, nat_eq, List, [], ◌∷◌, ◌++◌, map, Some, refl, sym, ap, ap₂, ◌∙◌, subst, arith, append_assoc}
use Rattle.std.specs.Prelude.{decimal, fold}
use Rattle.std.specs.List.{list_all}
use Rattle.std.proofs.lemmas.Bool.Decides.{nat_tests}
use Rattle.std.proofs.lemmas.Fmt.{decimal_by_steps}
use Rattle.std.proofs.lemmas.List.{map-append}
use Rattle.lego_base.specs.Place.{behind}
use Rattle.lego_lexer.specs.Bytes.{is_digit, is_blank, begins_name, goes_on_in_name, begins_comment, BeginsToken, Gap}
use Rattle.lego_lexer.specs.Tokens.{Lexeme, Number, OfSymbol, symbol_text, has_name_form, has_number_form, number_value, token_of, IsLongest, Point, Placed, Reads, past, placed_at}
use Rattle.lego_lexer.specs.declared.token.Symbol.{Symbol}
use Rattle.lego_lexer.specs.declared.token.Symbol.TheVariants.{OpenSquare, CloseSquare, OpenBrace, CloseBrace, OpenAngle, CloseAngle, OpenParen, CloseParen, Colon, Semicolon, Comma, Equals, Dot, Hash, Question, Arrow, Bar}
use Rattle.lego_lexer.proofs.TokenLemmas.{Stops, and_true, name_longest, number_longest, symbol_longest, arrow_longest, number_token, digit_no_name, digit_no_symbol}
use Rattle.lego_grammar.specs.Grammar.{Nested, Item, item}
use Rattle.lego_grammar.specs.Denotes.{grammar_tokens}

-- the token that stands here, and the point behind it
abbrev pub here : Point → List ℕ → Lexeme → Placed
here at text lexeme = placed_at (past at []) text lexeme

abbrev pub after : Point → List ℕ → Point
after at text = past (past at []) text

pub lex_one : {at end : Point} {rest : List ℕ} {tokens : List Placed} {lexeme : Lexeme} (text bytes : List ℕ)
    → BeginsToken (text ++ bytes) → IsLongest text bytes lexeme → Reads (after at text) bytes tokens end rest
    → Reads at (text ++ bytes) (here at text lexeme ∷ tokens) end rest
lex_one text bytes b l r = Reads.token Gap.none b l r

-- the parser's tokens are those of the lexer
pub same_join : (ns ms : List Nested) (ts us : List Placed) → map item ns ≡ grammar_tokens ts → map item ms ≡ grammar_tokens us
    → map item (ns ++ ms) ≡ grammar_tokens (ts ++ us)
same_join ns ms ts us h k =
    map-append item ns ms ∙ (ap₂ (λ (xs ys : List Item). xs ++ ys) h k ∙ sym (map-append (λ (t : Placed). record { lexeme = t.lexeme; place = t.place }) ts us))

-- a run of bytes stops before a byte that goes on in no name
pub stops_at : (b : ℕ) (bytes : List ℕ) → goes_on_in_name b ≡ false → Stops goes_on_in_name (b ∷ bytes)
stops_at b bytes h c more e = let same : c ≡ b = cc in ap goes_on_in_name same ∙ h

pub no_comment : (b : ℕ) (bytes : List ℕ) → nat_eq b 40 ≡ false → begins_comment (b ∷ bytes) ≡ false
no_comment b [] h = refl
no_comment b (c ∷ bytes) h = ap (λ v. v && nat_eq c 42) h

pub begins_there : (b : ℕ) (bytes : List ℕ) → is_blank b ≡ false → nat_eq b 40 ≡ false → BeginsToken (b ∷ bytes)
begins_there b bytes blank other = record { no_blank = blank; no_comment = no_comment b bytes other }

-- no symbol goes on in a name
pub symbol_stops : (s : Symbol) (rest : List ℕ) → Stops goes_on_in_name (symbol_text s ++ rest)
symbol_stops OpenSquare rest = stops_at 91 rest refl
symbol_stops CloseSquare rest = stops_at 93 rest refl
symbol_stops OpenBrace rest = stops_at 123 rest refl
symbol_stops CloseBrace rest = stops_at 125 rest refl
symbol_stops OpenAngle rest = stops_at 60 rest refl
symbol_stops CloseAngle rest = stops_at 62 rest refl
symbol_stops OpenParen rest = stops_at 40 rest refl
symbol_stops CloseParen rest = stops_at 41 rest refl
symbol_stops Colon rest = stops_at 58 rest refl
symbol_stops Semicolon rest = stops_at 59 rest refl
symbol_stops Comma rest = stops_at 44 rest refl
symbol_stops Equals rest = stops_at 61 rest refl
symbol_stops Dot rest = stops_at 46 rest refl
symbol_stops Hash rest = stops_at 35 rest refl
symbol_stops Question rest = stops_at 63 rest refl
symbol_stops Arrow rest = stops_at 45 (62 ∷ rest) refl
symbol_stops Bar rest = stops_at 124 rest refl

-- no comment begins where the text stands behind a `(`
pub IsNoStar : List ℕ → Type 0
IsNoStar text = (more : List ℕ) → begins_comment (40 ∷ (text ++ more)) ≡ false

pub no_star_of : (b : ℕ) (t : List ℕ) → nat_eq b 42 ≡ false → IsNoStar (b ∷ t)
unfolding IsNoStar
no_star_of b t h more = h

pub no_star_at : (text more : List ℕ) → IsNoStar text → begins_comment (40 ∷ (text ++ more)) ≡ false
unfolding IsNoStar
no_star_at text more h = h more

pub no_star_more : (a b : List ℕ) → IsNoStar a → IsNoStar (a ++ b)
unfolding IsNoStar
no_star_more a b h more = ap (λ (t : List ℕ). begins_comment (40 ∷ t)) (append_assoc a b more) ∙ h (b ++ more)

-- a symbol is a token wherever it stands, a `(` where no comment begins there
abbrev pub MayStand : Symbol → List ℕ → Type 0
MayStand OpenParen rest = begins_comment (40 ∷ rest) ≡ false
MayStand _ rest = Unit {0}

pub record IsToken (text rest : List ℕ) (lexeme : Lexeme) : Type 0 where
  pub begins : BeginsToken (text ++ rest)
  pub longest : IsLongest text rest lexeme

one_byte : (b : ℕ) (rest : List ℕ) (s : Symbol) → is_blank b ≡ false → nat_eq b 40 ≡ false → IsLongest (b ∷ []) rest (OfSymbol s) → IsToken (b ∷ []) rest (OfSymbol s)
one_byte b rest s blank other long = record { begins = begins_there b rest blank other; longest = long }

pub symbol_stands : (s : Symbol) (rest : List ℕ) → MayStand s rest → IsToken (symbol_text s) rest (OfSymbol s)
symbol_stands OpenSquare rest m = one_byte 91 rest OpenSquare refl refl (symbol_longest 91 rest OpenSquare refl refl refl)
symbol_stands CloseSquare rest m = one_byte 93 rest CloseSquare refl refl (symbol_longest 93 rest CloseSquare refl refl refl)
symbol_stands OpenBrace rest m = one_byte 123 rest OpenBrace refl refl (symbol_longest 123 rest OpenBrace refl refl refl)
symbol_stands CloseBrace rest m = one_byte 125 rest CloseBrace refl refl (symbol_longest 125 rest CloseBrace refl refl refl)
symbol_stands OpenAngle rest m = one_byte 60 rest OpenAngle refl refl (symbol_longest 60 rest OpenAngle refl refl refl)
symbol_stands CloseAngle rest m = one_byte 62 rest CloseAngle refl refl (symbol_longest 62 rest CloseAngle refl refl refl)
symbol_stands OpenParen rest m = record { begins = record { no_blank = refl; no_comment = m }; longest = symbol_longest 40 rest OpenParen refl refl refl }
symbol_stands CloseParen rest m = one_byte 41 rest CloseParen refl refl (symbol_longest 41 rest CloseParen refl refl refl)
symbol_stands Colon rest m = one_byte 58 rest Colon refl refl (symbol_longest 58 rest Colon refl refl refl)
symbol_stands Semicolon rest m = one_byte 59 rest Semicolon refl refl (symbol_longest 59 rest Semicolon refl refl refl)
symbol_stands Comma rest m = one_byte 44 rest Comma refl refl (symbol_longest 44 rest Comma refl refl refl)
symbol_stands Equals rest m = one_byte 61 rest Equals refl refl (symbol_longest 61 rest Equals refl refl refl)
symbol_stands Dot rest m = one_byte 46 rest Dot refl refl (symbol_longest 46 rest Dot refl refl refl)
symbol_stands Hash rest m = one_byte 35 rest Hash refl refl (symbol_longest 35 rest Hash refl refl refl)
symbol_stands Question rest m = one_byte 63 rest Question refl refl (symbol_longest 63 rest Question refl refl refl)
symbol_stands Arrow rest m = record { begins = begins_there 45 (62 ∷ rest) refl refl; longest = arrow_longest rest }
symbol_stands Bar rest m = one_byte 124 rest Bar refl refl (symbol_longest 124 rest Bar refl refl refl)

pub lex_token : {at end : Point} {rest : List ℕ} {tokens : List Placed} {lexeme : Lexeme} (text bytes : List ℕ) → IsToken text bytes lexeme
    → Reads (after at text) bytes tokens end rest → Reads at (text ++ bytes) (here at text lexeme ∷ tokens) end rest
lex_token text bytes t r = lex_one text bytes t.begins t.longest r

-- a name
pub record IsNameText (text : List ℕ) : Type 0 where
  pub first : ℕ
  pub rest : List ℕ
  pub is : text ≡ first ∷ rest
  pub begins : begins_name first ≡ true

name_no_star : (b : ℕ) → begins_name b ≡ true → nat_eq b 42 ≡ false
name_no_star b h = grind (arith, nat_tests)

name_no_paren : (b : ℕ) → begins_name b ≡ true → nat_eq b 40 ≡ false
name_no_paren b h = grind (arith, nat_tests)

name_no_blank : (b : ℕ) → begins_name b ≡ true → is_blank b ≡ false
name_no_blank b h = grind (arith, nat_tests)

pub name_text_is : (text : List ℕ) → has_name_form text ≡ true → IsNameText text
name_text_is [] h = absurd (cc)
name_text_is (b ∷ bytes) h = record { first = b; rest = bytes; is = refl; begins = (and_true (begins_name b) (list_all goes_on_in_name bytes) h).0 }

pub name_stands : (text rest : List ℕ) (lexeme : Lexeme) → IsNameText text → Stops goes_on_in_name rest → token_of text ≡ Some lexeme → IsToken text rest lexeme
name_stands text rest lexeme n stops is =
    subst (λ (t : List ℕ). IsToken t rest lexeme) (sym n.is) (record {
      begins = begins_there n.first (n.rest ++ rest) (name_no_blank n.first n.begins) (name_no_paren n.first n.begins);
      longest = name_longest n.first n.rest rest lexeme n.begins stops (ap token_of (sym n.is) ∙ is);
    })

pub name_star : (text : List ℕ) → IsNameText text → IsNoStar text
name_star text n = subst IsNoStar (sym n.is) (no_star_of n.first n.rest (name_no_star n.first n.begins))

-- a numeral
pub digit_goes_on : (b : ℕ) → is_digit b ≡ true → goes_on_in_name b ≡ true
digit_goes_on b h = grind (arith, nat_tests)

digit_no_star : (b : ℕ) → is_digit b ≡ true → nat_eq b 42 ≡ false
digit_no_star b h = grind (arith, nat_tests)

digit_no_paren : (b : ℕ) → is_digit b ≡ true → nat_eq b 40 ≡ false
digit_no_paren b h = grind (arith, nat_tests)

digit_no_blank : (b : ℕ) → is_digit b ≡ true → is_blank b ≡ false
digit_no_blank b h = grind (arith, nat_tests)

stops_digit : (rest : List ℕ) → Stops goes_on_in_name rest → Stops is_digit rest
stops_digit rest stops c more e = by_test (is_digit c) refl
  where
    by_test : (b : Bool) → is_digit c ≡ b → is_digit c ≡ false
    by_test false h = h
    by_test true h = let no = stops c more e in let yes = digit_goes_on c h in absurd (cc)

all_push : (ds : List ℕ) (d : ℕ) → list_all is_digit ds ≡ true → is_digit d ≡ true → list_all is_digit (ds ++ d ∷ []) ≡ true
all_push [] d h k = rw k refl
all_push (b ∷ ds) d h k = let t = and_true (is_digit b) (list_all is_digit ds) h in rw (t.0, all_push ds d t.1 k) refl

abbrev IsNumeral : ℕ → List ℕ → Type 0
IsNumeral n ds = (has_number_form ds ≡ true) × (number_value ds ≡ n)

one_digit : (n : ℕ) → n < 10 → is_digit (48 + n) ≡ true
one_digit n l = grind (arith, nat_tests)

last_digit : (n : ℕ) → is_digit (48 + n % 10) ≡ true
last_digit n = let l : n % 10 < 10 = omega arith in one_digit (n % 10) l

value_push : (ds : List ℕ) (d m : ℕ) → fold (λ n digit. 10 * n + (digit - 48)) m (ds ++ d ∷ []) ≡ 10 * fold (λ n digit. 10 * n + (digit - 48)) m ds + (d - 48)
value_push [] d m = refl
value_push (b ∷ ds) d m = value_push ds d (10 * m + (b - 48))

form_push : (ds : List ℕ) (d : ℕ) → has_number_form ds ≡ true → is_digit d ≡ true → has_number_form (ds ++ d ∷ []) ≡ true
form_push [] d h k = absurd (cc)
form_push (b ∷ ds) d h k = let t = and_true (is_digit b) (list_all is_digit ds) h in rw (t.0, all_push ds d t.1 k) refl

numeral_more : (n : ℕ) (ds : List ℕ) → 10 ≤ n → IsNumeral (n / 10) ds → IsNumeral n (ds ++ (48 + n % 10) ∷ [])
numeral_more n ds l h = (
  form_push ds (48 + n % 10) h.0 (last_digit n),
  let push = value_push ds (48 + n % 10) 0 in let value : number_value ds ≡ n / 10 = h.1 in
      push ∙ (let e : 10 * (n / 10) + ((48 + n % 10) - 48) ≡ n = omega arith in ap (λ k. 10 * k + ((48 + n % 10) - 48)) value ∙ e),
)

numeral_one : (n : ℕ) → n < 10 → IsNumeral n ((48 + n) ∷ [])
numeral_one n l = (rw (one_digit n l) refl, omega arith)

is_numeral : (n : ℕ) → n < 2 ^ 64 → IsNumeral n (decimal n)
is_numeral n l = decimal_by_steps IsNumeral numeral_one numeral_more n l

pub record IsNumberText (text : List ℕ) (n : ℕ) : Type 0 where
  pub first : ℕ
  pub rest : List ℕ
  pub is : text ≡ first ∷ rest
  pub begins : is_digit first ≡ true
  pub digits : list_all is_digit (first ∷ rest) ≡ true
  pub token : token_of text ≡ Some (Number n)

number_text : (text : List ℕ) (n : ℕ) → IsNumeral n text → IsNumberText text n
number_text [] n h = absurd (cc (h.0))
number_text (b ∷ t) n h =
    let d = and_true (is_digit b) (list_all is_digit t) h.0 in
    record {
      first = b;
      rest = t;
      is = refl;
      begins = d.0;
      digits = h.0;
      token = number_token (b ∷ t) (ap (λ v. v && list_all goes_on_in_name t) (digit_no_name b d.0)) (digit_no_symbol b t d.0) h.0 ∙ ap (λ (k : ℕ). Some (Number k)) h.1;
    }

pub decimal_text : (n : ℕ) → n < 2 ^ 64 → IsNumberText (decimal n) n
decimal_text n l = number_text (decimal n) n (is_numeral n l)

pub number_stands : (text rest : List ℕ) (n : ℕ) → IsNumberText text n → Stops goes_on_in_name rest → IsToken text rest (Number n)
number_stands text rest n t stops =
    subst (λ (x : List ℕ). IsToken x rest (Number n)) (sym t.is) (record {
      begins = begins_there t.first (t.rest ++ rest) (digit_no_blank t.first t.begins) (digit_no_paren t.first t.begins);
      longest = number_longest t.first t.rest rest (Number n) t.begins (stops_digit rest stops) (ap token_of (sym t.is) ∙ t.token);
    })

pub number_star : (text : List ℕ) (n : ℕ) → IsNumberText text n → IsNoStar text
number_star text n t = subst IsNoStar (sym t.is) (no_star_of t.first t.rest (digit_no_star t.first t.begins))

-- a blank before the first token
point_equal : (p : Point) (n m : ℕ) → n ≡ m → record p { before = n } ≡ record p { before = m }
point_equal p n m e = ap (λ (k : ℕ). record p { before = k }) e

pub blank_first : {at end : Point} {bytes rest : List ℕ} {t : Placed} {ts : List Placed} → Reads (past at (32 ∷ [])) bytes (t ∷ ts) end rest
    → Reads at (32 ∷ bytes) (t ∷ ts) end rest
blank_first {at} {end} {rest = rest} (Reads.token {gap = gap} {text = text} {bytes = bytes} {lexeme = lexeme} {tokens = tokens} g b l r) =
    let e : past at (32 ∷ gap) ≡ past (past at (32 ∷ [])) gap =
    ap (λ (k : ℕ). record { place = behind at.place (32 ∷ gap); before = k }) (omega arith) in
    subst (λ (p : Point). Reads at (32 ∷ (gap ++ text ++ bytes)) (placed_at p text lexeme ∷ tokens) end rest) e
    (Reads.token (Gap.blank refl g) b l (subst (λ (p : Point). Reads (past p text) bytes tokens end rest) (sym e) r))
