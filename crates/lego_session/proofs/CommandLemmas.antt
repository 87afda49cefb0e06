-- From what the parser answers to what bytes are, and why they are no command.
use Rattle.std.proofs.Common.{◌≡◌, ℕ, zero, suc, ◌<◌, ◌≤◌, List, [], ◌∷◌, ◌++◌, map, length, slice_get, Some, None, option_map, ◌⊎◌, inl, inr, refl, sym, ap, ◌∙◌, subst, arith, ◌≡◌, false}
use Rattle.std.proofs.lemmas.Option.{slice_get-map, get_or_from_slice_get}
use Rattle.lego_base.specs.declared.place.Place.{Place}
use Rattle.lego_lexer.specs.Tokens.{OfSymbol, lexeme_of, Placed, Tokens, placed, Refused}
use Rattle.lego_lexer.specs.declared.token.LexFault.{LexFault}
use Rattle.lego_lexer.specs.declared.token.LexFault.TheVariants as Lex
use Rattle.lego_lexer.specs.Commands.{CommandText, IsCommandText}
use Rattle.lego_lexer.specs.declared.token.Token.{Token}
use Rattle.lego_lexer.specs.declared.token.TokenKind.{TokenKind}
use Rattle.lego_lexer.specs.declared.token.TokenKind.TheVariants as Kind
use Rattle.lego_lexer.specs.declared.token.Symbol.TheVariants.{Semicolon}
use Rattle.lego_lexer.proofs.LastToken.{command_ends}
use Rattle.lego_lexer.proofs.Ranges.{token_in_range}
use Rattle.lego_grammar.specs.Grammar.{Names, Item, item, item_of, Nested, ReadsCommand}
use Rattle.lego_grammar.specs.Refusals.{IsUnexpected, IsTooDeep}
use Rattle.lego_parser.specs.Parsing.{EndWithSemicolon, ParsesTo, IsNoCommand}
use Rattle.lego_grammar.specs.Written.{WrittenCommand}
use Rattle.lego_parser.specs.declared.fault.ParseFault.{ParseFault}
use Rattle.lego_parser.specs.declared.fault.ParseFault.TheVariants as Fault
use Rattle.lego_parser.specs.Numbering.{names_behind, AreTooMany, IsFront, LeavesNames}
use Rattle.lego_session.specs.Answers.{grammar_tokens, HasTokens, IsCommand, IsNumberedCommand, IsUnread, lex_place, lex_cause}
use Rattle.lego_session.specs.Reading.{is_built}
use Rattle.lego_session.specs.private.Unread.{IsUnreadBy, HasItsToken, IsUnexpectedToken, IsNotParsed}
use Rattle.lego_session.specs.declared.refusal.Cause.{Cause}
use Rattle.lego_session.proofs.TokenLemmas.{tokens_apart}
use Rattle.lego_session.proofs.WrittenFormLemmas.{few_names, small_numerals}
use Rattle.std.specs.Prelude.{All}
use Rattle.lego_grammar.specs.WrittenForm.{IsSmall, count_names, max_written_names, IsWrittenForm}
use Rattle.lego_grammar.specs.declared.command.Command.{Command}
use Rattle.std.proofs.lemmas.Option.{same_Some}

-- the tokens of the code, as the grammar sees them
pub same_items : (bytes : List ℕ) (tokens : List Token) → grammar_tokens (map (placed bytes) tokens) ≡ map (item_of bytes) tokens
same_items bytes [] = refl
same_items bytes (t ∷ ts) = ap (λ xs. item_of bytes t ∷ xs) (same_items bytes ts)

-- what stands in a mapped list is mapped
mapped_at : {A B : Type 0} (f : A → B) (xs : List A) (n : ℕ) (y : B) → slice_get (map f xs) n ≡ Some y → (x : A) × (slice_get xs n ≡ Some x) × (f x ≡ y)
mapped_at f [] n y h = cc
mapped_at f (x ∷ xs) zero y h = (x, refl, same_Some (f x) y h)
mapped_at f (x ∷ xs) (suc n) y h = mapped_at f xs n y h

placed_at : (bytes : List ℕ) (tokens : List Token) (n : ℕ) (t : Token) → slice_get tokens n ≡ Some t → slice_get (map (placed bytes) tokens) n ≡ Some (placed bytes t)
placed_at bytes tokens n t h = slice_get-map (placed bytes) tokens n ∙ ap (option_map (placed bytes)) h

-- the range of a token lies in the bytes
pub token_range : (place : Place) (bytes : List ℕ) (tokens : List Token) (n : ℕ) (t : Token) → Tokens place bytes (map (placed bytes) tokens)
    → slice_get tokens n ≡ Some t → (t.from ≤ t.to) × (t.to ≤ length bytes)
token_range place bytes tokens n t lexed h =
    let within : n < length tokens = within_of tokens n t h in
    let range = subst (λ (x : Token). (x.from < x.to) × (x.to ≤ length bytes)) (get_or_from_slice_get tokens n t t h) (token_in_range place bytes tokens lexed n t within) in
    (omega (arith, range.0), range.1)
  where
    within_of : (xs : List Token) (i : ℕ) (x : Token) → slice_get xs i ≡ Some x → i < length xs
    within_of [] i x e = cc
    within_of (y ∷ ys) zero x e = omega arith
    within_of (y ∷ ys) (suc i) x e = let l = within_of ys i x e in omega (arith, l)

-- the last token of a command is its `;`
is_semicolon : (bytes : List ℕ) (kind : TokenKind) (from to : ℕ) → lexeme_of bytes kind from to ≡ OfSymbol Semicolon → kind ≡ Kind.Symbol Semicolon
is_semicolon bytes Kind.Name from to e = absurd (cc)
is_semicolon bytes (Kind.Number n) from to e = absurd (cc)
is_semicolon bytes (Kind.Word w) from to e = absurd (cc)
is_semicolon bytes (Kind.Symbol s) from to e = cc

one_before : (t : Token) (ts : List Token) → EndWithSemicolon ts → EndWithSemicolon (t ∷ ts)
one_before t ts h = (t ∷ h.0, h.1, ap (λ (xs : List Token). t ∷ xs) h.2, h.3)

last_is : (bytes : List ℕ) (tokens : List Token) (front : List Placed) (last : Placed) → map (placed bytes) tokens ≡ front ++ last ∷ []
    → last.lexeme ≡ OfSymbol Semicolon → EndWithSemicolon tokens
last_is bytes [] [] last e s = absurd (cc)
last_is bytes [] (x ∷ front) last e s = absurd (cc)
last_is bytes (t ∷ []) [] last e s =
    let same : placed bytes t ≡ last = cc in
    ([], t, refl, is_semicolon bytes t.kind t.from t.to (ap (λ (x : Placed). x.lexeme) same ∙ s))
last_is bytes (t ∷ u ∷ ts) [] last e s = absurd (cc)
last_is bytes (t ∷ ts) (x ∷ front) last e s = one_before t ts (last_is bytes ts front last (cc) s)

pub ends_so : (place : Place) (bytes : List ℕ) (tokens : List Token) → IsCommandText bytes → Tokens place bytes (map (placed bytes) tokens)
    → EndWithSemicolon tokens
ends_so place bytes tokens text lexed =
    let h = command_ends text lexed in
    last_is bytes tokens h.front h.last h.is h.semicolon

-- a token stands where the parser says
pub its_token : (held : Names) (bytes : List ℕ) (tokens : List Token) (fault : ParseFault) → IsNoCommand held (map (item_of bytes) tokens) fault → HasItsToken tokens fault
its_token held bytes tokens (Fault.Unexpected p) h =
    let x = mapped_at (item_of bytes) tokens h.0 h.1 h.2 in
    (x.0, record { index = h.0; there = x.1; place = ap (λ (i : Item). i.place) x.2 ∙ h.3 })
its_token held bytes tokens (Fault.TooDeep p) h = tt
its_token held bytes tokens Fault.NamesFull h = tt
its_token held bytes tokens Fault.Memory h = tt

module _ {held left : Names} {c : CommandText} where
  moved : {p q : Place} {k l : Cause} → p ≡ q → k ≡ l → IsUnread held left c q l → IsUnread held left c p k
  moved {p} {q} {k} {l} e f h = subst (λ x. IsUnread held left c x k) (sym e) (subst (λ x. IsUnread held left c q x) (sym f) h)

-- the command that the parser answers
pub is_command : (names : Names) (place : Place) (bytes : List ℕ) (tokens : List Token) (o : WrittenCommand)
    → HasTokens (record { place = place; bytes = bytes }) (map (placed bytes) tokens) → ParsesTo names (map (item_of bytes) tokens) o
    → IsCommand names (record { place = place; bytes = bytes }) o
is_command names place bytes tokens o lexed h =
    let parsed = subst (λ xs. ParsesTo names xs o) (sym (same_items bytes tokens)) h in
    record { tokens = map (placed bytes) tokens; lexed = lexed; parsed = parsed.parses; shallow = parsed.shallow }

-- the command that the parser answers, with its names numbered
pub numbered_command : (held names : Names) (place : Place) (bytes : List ℕ) (tokens : List Token) (o : WrittenCommand)
    → HasTokens (record { place = place; bytes = bytes }) (map (placed bytes) tokens) → ParsesTo names (map (item_of bytes) tokens) o
    → names ≡ names_behind held (map (item_of bytes) tokens) → IsNumberedCommand held names (record { place = place; bytes = bytes }) o
unfolding is_command
numbered_command held names place bytes tokens o lexed h same = record {
  command = is_command names place bytes tokens o lexed h;
  numbers = same ∙ ap (names_behind held) (sym (same_items bytes tokens));
}

-- the command that the parser answers has a written form
pub written_form : (place : Place) (bytes : List ℕ) (tokens : List Token) (command : Command)
    → HasTokens (record { place = place; bytes = bytes }) (map (placed bytes) tokens)
    → (All (λ (t : Item). IsSmall t.lexeme) (map (item_of bytes) tokens) → count_names (map (item_of bytes) tokens) ≤ max_written_names → IsWrittenForm command)
    → IsWrittenForm command
written_form place bytes tokens command lexed form =
    let items = same_items bytes tokens in
    form (subst (λ xs. All (λ (t : Item). IsSmall t.lexeme) xs) items (small_numerals (map (placed bytes) tokens) lexed.within))
    (subst (λ xs. count_names xs ≤ max_written_names) items (few_names lexed.lexed lexed.short))

-- why the tokens are no command, as it is answered
pub not_parsed_unread : (held left : Names) (place : Place) (bytes : List ℕ) (tokens : List Token) (fault : ParseFault) (p : Place) (cause : Cause)
    → HasTokens (record { place = place; bytes = bytes }) (map (placed bytes) tokens) → IsNoCommand held (map (item_of bytes) tokens) fault
    → LeavesNames fault held (map (item_of bytes) tokens) left → IsNotParsed place bytes tokens fault p cause → IsUnreadBy held left (record { place = place; bytes = bytes }) p cause
unfolding is_command
not_parsed_unread held left place bytes tokens (Fault.Unexpected q) p cause lexed h same (t, stands, inl memory) = inl memory
not_parsed_unread held left place bytes tokens (Fault.Unexpected q) p cause lexed h same (t, stands, inr is) =
    let items = sym (same_items bytes tokens) in
    let x = mapped_at (item_of bytes) tokens h.0 h.1 h.2 in
    let at_q : x.0.place ≡ q = ap (λ (i : Item). i.place) x.2 ∙ h.3 in
    let one : h.0 ≡ stands.index =
    tokens_apart lexed.lexed h.0 stands.index (placed bytes x.0) (placed bytes t) (placed_at bytes tokens h.0 x.0 x.1)
    (placed_at bytes tokens stands.index t stands.there) (at_q ∙ sym stands.place) in
    let there : slice_get (map (placed bytes) tokens) h.0 ≡ Some (placed bytes t) =
    ap (slice_get (map (placed bytes) tokens)) one ∙ placed_at bytes tokens stands.index t stands.there in
    let unexpected = subst (λ xs. IsUnexpected xs h.0) items h.4 in
    let shallow = subst (λ (xs : List Item). (i : ℕ) → IsTooDeep xs i → ⊥) items h.5 in
    inr (moved is.0 is.1 (IsUnread.unexpected h.0 same lexed unexpected there shallow))
not_parsed_unread held left place bytes tokens (Fault.TooDeep q) p cause lexed h same k =
    let x = mapped_at (item_of bytes) tokens h.0 h.1 h.2 in
    let at_q : x.0.place ≡ q = ap (λ (i : Item). i.place) x.2 ∙ h.3 in
    let deep = subst (λ xs. IsTooDeep xs h.0) (sym (same_items bytes tokens)) h.4 in
    inr (moved (k.0 ∙ sym at_q) k.1 (IsUnread.too_deep h.0 same lexed deep (placed_at bytes tokens h.0 x.0 x.1)))
not_parsed_unread held left place bytes tokens Fault.NamesFull p cause lexed h same k =
    let command = is_command h.0 place bytes tokens h.1 lexed h.2 in
    let many = subst (AreTooMany held) (sym (same_items bytes tokens)) h.3 in
    inr (moved k.0 k.1 (IsUnread.names_full command many same.0 (subst (λ xs. IsFront left (names_behind held xs)) (sym (same_items bytes tokens)) same.1)))
not_parsed_unread held left place bytes tokens Fault.Memory p cause lexed h same k = inl k

-- a command has a first token
pub first_token : (names : Names) (bytes : List ℕ) (tokens : List Token) (o : WrittenCommand) → ParsesTo names (map (item_of bytes) tokens) o
    → slice_get tokens 0 ≡ None → ⊥
first_token names bytes [] o h e = empty h.parses.reads h.parses.same
  where
    empty : {ts : List Nested} {c : WrittenCommand} → ReadsCommand names ts c → map item ts ≡ [] → ⊥
    empty (ReadsCommand.command p act) same = cc
first_token names bytes (t ∷ ts) o h e = cc

-- a command whose form is not built is refused at its first token
pub unbuilt_unread : (held left : Names) (place : Place) (bytes : List ℕ) (tokens : List Token) (o : WrittenCommand) (t : Token) (p : Place) (cause : Cause)
    → HasTokens (record { place = place; bytes = bytes }) (map (placed bytes) tokens) → ParsesTo left (map (item_of bytes) tokens) o
    → left ≡ names_behind held (map (item_of bytes) tokens) → is_built o.act ≡ false → slice_get tokens 0 ≡ Some t → IsUnexpectedToken bytes t p cause
    → IsUnreadBy held left (record { place = place; bytes = bytes }) p cause
unfolding is_command numbered_command
unbuilt_unread held left place bytes tokens o t p cause lexed h same built there (inl memory) = inl memory
unbuilt_unread held left place bytes tokens o t p cause lexed h same built there (inr is) =
    inr (moved is.0 is.1 (IsUnread.unbuilt (numbered_command held left place bytes tokens o lexed h same) built (placed_at bytes tokens 0 t there)))

-- why the bytes have no tokens
pub not_lexed_unread : (held : Names) (place : Place) (bytes : List ℕ) (fault : LexFault) (p : Place) (cause : Cause)
    → length bytes ≤ 65536 → (fault ≡ Lex.Memory) ⊎ Refused place bytes fault → p ≡ lex_place fault place → cause ≡ lex_cause fault
    → IsUnreadBy held held (record { place = place; bytes = bytes }) p cause
not_lexed_unread held place bytes fault p cause short (inl memory) at is = inl (is ∙ ap lex_cause memory)
not_lexed_unread held place bytes fault p cause short (inr refused) at is = inr (moved at is (IsUnread.lex refl short refused))
