-- How numbers are given to names, token by token.
use Rattle.std.proofs.Common.{◌≡◌, ℕ, zero, suc, ◌<◌, List, [], ◌∷◌, ◌++◌, Bool, true, false, map, length, take, drop, slice_get, get_or, position, Some, None, ◌≤◌, ◌⊎◌, inl, inr, refl, sym, ap, ◌∙◌, subst, append_assoc, arith, length-append}
use Rattle.std.specs.Prelude.{slice_range}
use Rattle.std.proofs.lemmas.List.{get_or-map, append-nil}
use Rattle.std.specs.List.{position_or_len}
use Rattle.std.proofs.lemmas.Bool.Decides.{nat_tests}
use Rattle.std.proofs.lemmas.List.Quantifiers.{position-Some}
use Rattle.std.proofs.lemmas.List.Sums.{fails_before_first}
use Rattle.std.proofs.lemmas.Option.{slice_get-get_or, slice_get_within}
use Rattle.std.proofs.lemmas.Cmp.{nat_list_eq_equiv}
use Rattle.std.specs.Cmp.Lexicographic.{bytes_decides}
use Rattle.lego_base.specs.Names.{same_text, has_name, interned}
use Rattle.lego_base.proofs.NamesLemmas.{true_is_false}
use Rattle.lego_lexer.specs.Tokens.{Lexeme, Name, Number, OfWord, OfSymbol, lexeme_of}
use Rattle.lego_lexer.specs.declared.token.Token.{Token}
use Rattle.lego_lexer.specs.declared.token.TokenKind.{TokenKind}
use Rattle.lego_lexer.specs.declared.token.TokenKind.TheVariants as Kind
use Rattle.std.proofs.lemmas.Bool.{cases_lt}
use Rattle.lego_grammar.specs.Grammar.{Names, Item, item_of}
use Rattle.lego_parser.specs.Numbering.{max_names, names_with, names_behind, AreTooMany, IsFront, LeavesNames}
use Rattle.lego_parser.specs.private.Interning.{HasNumber, IsNumberOf, AreNumbered, FindsNoRoom, IsRoomFault, IsNumberingFault}
use Rattle.lego_parser.specs.declared.fault.ParseFault.{ParseFault}
use Rattle.lego_parser.specs.declared.fault.ParseFault.TheVariants as Fault

pub front_self : (names : Names) → IsFront names names
front_self names = ([], sym (append-nil names))

front_trans : (a b c : Names) → IsFront a b → IsFront b c → IsFront a c
front_trans a b c (xs, e) (ys, f) = (xs ++ ys, f ∙ (ap (λ l. l ++ ys) e ∙ append_assoc a xs ys))

-- names stay where they are
front_with : (names : Names) (x : Lexeme) → IsFront names (names_with names x)
front_with names (Name text) = by_test (has_name names text) refl
  where
    by_test : (b : Bool) → has_name names text ≡ b → IsFront names (interned names text)
    by_test true e = rw e (front_self names)
    by_test false e = rw e (text ∷ [], refl)
front_with names (Number n) = front_self names
front_with names (OfWord w) = front_self names
front_with names (OfSymbol s) = front_self names

pub front_behind : (names : Names) (tokens : List Item) → IsFront names (names_behind names tokens)
front_behind names [] = front_self names
front_behind names (t ∷ tokens) =
    let next = names_with names t.lexeme in
    front_trans names next (names_behind next tokens) (front_with names t.lexeme) (front_behind next tokens)

-- the first tokens, and then the others
pub behind_split : (names : Names) (tokens : List Item) (n : ℕ) → names_behind names tokens ≡ names_behind (names_behind names (take n tokens)) (drop n tokens)
behind_split names tokens zero = refl
behind_split names [] (suc n) = refl
behind_split names (t ∷ tokens) (suc n) = behind_split (names_with names t.lexeme) tokens n

-- one token more
pub behind_next : (names : Names) (tokens : List Item) (n : ℕ) (t : Item) → n < length tokens → ((d : Item) → get_or tokens n d ≡ t)
    → names_behind names (take (suc n) tokens) ≡ names_with (names_behind names (take n tokens)) t.lexeme
behind_next names [] n t lt is = absurd (omega (arith, lt))
behind_next names (u ∷ tokens) zero t lt is = ap (λ (x : Item). names_with names x.lexeme) (is u)
behind_next names (u ∷ tokens) (suc n) t lt is = behind_next (names_with names u.lexeme) tokens n t (omega (arith, lt)) is

pub behind_all : (names : Names) (tokens : List Item) (n : ℕ) → length tokens ≤ n → names_behind names (take n tokens) ≡ names_behind names tokens
behind_all names [] zero h = refl
behind_all names [] (suc n) h = refl
behind_all names (t ∷ tokens) zero h = absurd (omega (arith, h))
behind_all names (t ∷ tokens) (suc n) h = behind_all (names_with names t.lexeme) tokens n (omega (arith, h))

-- a text keeps its number
still_has : (old new : Names) (x : Lexeme) → IsFront old new → HasNumber old x → HasNumber new x
still_has old new (Name text) (rest, same) (n, is) = (n, subst (λ names. slice_get names n ≡ Some text) (sym same) (in_front old rest n text is))
  where
    in_front : (xs ys : Names) (i : ℕ) (x : List ℕ) → slice_get xs i ≡ Some x → slice_get (xs ++ ys) i ≡ Some x
    in_front [] ys i x h = absurd (omega (arith, slice_get_within {A = List ℕ} [] i x h))
    in_front (y ∷ xs) ys zero x h = h
    in_front (y ∷ xs) ys (suc i) x h = in_front xs ys i x h
still_has old new (Number n) g h = tt
still_has old new (OfWord w) g h = tt
still_has old new (OfSymbol s) g h = tt

-- what is among names has a number, and what is put behind them too
has_text : (names : Names) (text : List ℕ) → has_name names text ≡ true → (n : ℕ) × (slice_get names n ≡ Some text)
has_text [] text e = absurd (nothing e)
  where
    nothing : false ≡ true → ⊥
    nothing q = cc
has_text (u ∷ names) text e = by_test (same_text text u) refl (has_text names text)
  where
    by_test : (b : Bool) → same_text text u ≡ b → (has_name names text ≡ true → (n : ℕ) × (slice_get names n ≡ Some text)) → (n : ℕ) × (slice_get (u ∷ names) n ≡ Some text)
    by_test true f later = (0, ap (λ v. Some v) (sym ((bytes_decides text u).0 f)))
    by_test false f later = let r = later (rw f at e) in (suc r.0, r.1)

last_text : (names : Names) (text : List ℕ) → (n : ℕ) × (slice_get (names ++ text ∷ []) n ≡ Some text)
last_text [] text = (0, refl)
last_text (u ∷ names) text = let r = last_text names text in (suc r.0, r.1)

gets_number : (names : Names) (x : Lexeme) → HasNumber (names_with names x) x
gets_number names (Name text) = by_test (has_name names text) refl
  where
    by_test : (b : Bool) → has_name names text ≡ b → HasNumber (interned names text) (Name text)
    by_test true e = rw e (has_text names text e)
    by_test false e = rw e (last_text names text)
gets_number names (Number n) = tt
gets_number names (OfWord w) = tt
gets_number names (OfSymbol s) = tt

pub all_numbered : (names : Names) (tokens : List Item) → AreNumbered (names_behind names tokens) tokens
all_numbered names [] k d lt = absurd (omega (arith, lt))
all_numbered names (t ∷ tokens) zero d lt =
    let next = names_with names t.lexeme in
    still_has next (names_behind next tokens) t.lexeme (front_behind next tokens) (gets_number names t.lexeme)
all_numbered names (t ∷ tokens) (suc k) d lt = all_numbered (names_with names t.lexeme) tokens k d (omega (arith, lt))

-- what a fault of the numbering leaves
module _ (fault : ParseFault) (old : Names) (tokens : List Item) (new : Names) (h : IsNumberingFault fault old tokens new) where
  whole : names_behind old tokens ≡ names_behind new (drop h.n tokens)
  whole = behind_split old tokens h.n ∙ ap (λ names. names_behind names (drop h.n tokens)) (sym h.before)

  front : IsFront new (names_behind old tokens)
  front = subst (IsFront new) (sym whole) (front_behind new (drop h.n tokens))

  by_fault : (f : ParseFault) → IsRoomFault f new h.token.lexeme → LeavesNames f old tokens new
  by_fault (Fault.Unexpected p) why = absurd why
  by_fault (Fault.TooDeep p) why = absurd why
  by_fault Fault.NamesFull why = (full h.token.lexeme why, front)
    where
      full : (x : Lexeme) → FindsNoRoom new x → length new ≡ max_names
      full (Name text) w = w.1
      full (Number n) w = absurd w
      full (OfWord w) v = absurd v
      full (OfSymbol s) w = absurd w
  by_fault Fault.Memory why = front

  pub fault_leaves : LeavesNames fault old tokens new
  fault_leaves = by_fault fault h.why

  -- where the next name finds no room, there are too many
  pub too_many_in_all : FindsNoRoom new h.token.lexeme → AreTooMany old tokens
  too_many_in_all room = subst (λ names. max_names < length names) (sym whole) (grown h.token.lexeme refl room)
    where
      dropped : (ts : List Item) (n : ℕ) → slice_get ts n ≡ Some h.token → drop n ts ≡ h.token ∷ drop (suc n) ts
      dropped [] n e = absurd (omega (arith, slice_get_within {A = Item} [] n h.token e))
      dropped (t ∷ ts) zero e = ap (λ x. x ∷ ts) (the_same e)
        where
          the_same : {a b : Item} → Some a ≡ Some b → a ≡ b
          the_same q = cc
      dropped (t ∷ ts) (suc n) e = dropped ts n e

      longer : (names : Names) (b : List ℕ) (all : Names) → IsFront (names ++ b ∷ []) all → length names < length all
      longer names b all (rest, e) = omega (arith, ap length e, length-append (names ++ b ∷ []) rest, length-append names (b ∷ []))

      grown : (x : Lexeme) → x ≡ h.token.lexeme → FindsNoRoom new x → max_names < length (names_behind new (drop h.n tokens))
      grown (Name text) e (absent, full) =
          let rest = drop (suc h.n) tokens in
          let next : names_behind new (drop h.n tokens) ≡ names_behind (names_with new h.token.lexeme) rest = ap (names_behind new) (dropped tokens h.n h.there) in
          let named : names_with new h.token.lexeme ≡ new ++ text ∷ [] = ap (names_with new) (sym e) ∙ rw absent refl in
          let at : names_behind new (drop h.n tokens) ≡ names_behind (new ++ text ∷ []) rest = next ∙ ap (λ names. names_behind names rest) named in
          omega (arith, full, longer new text (names_behind new (drop h.n tokens)) (subst (IsFront (new ++ text ∷ [])) (sym at) (front_behind (new ++ text ∷ []) rest)))
      grown (Number n) e w = absurd w
      grown (OfWord w) e v = absurd v
      grown (OfSymbol s) e w = absurd w

-- what is found by its bytes is there
text_at : (names : Names) (text : List ℕ) (n : ℕ) → position (same_text text) names ≡ Some n → slice_get names n ≡ Some text
text_at names text n is =
    let at = position-Some (same_text text) names n [] is in
    let same : text ≡ get_or names n [] = (bytes_decides text (get_or names n [])).0 at.1 in
    slice_get-get_or names n [] at.0 ∙ ap (λ u. Some u) (sym same)

pub found_at : (names : Names) (text : List ℕ) (n : ℕ) → position (same_text text) names ≡ Some n → HasNumber names (Name text)
found_at names text n is = (n, text_at names text n is)

-- what is there is found
not_missed : (names : Names) (text : List ℕ) → HasNumber names (Name text) → position (same_text text) names ≡ None → ⊥
not_missed names text (n, is) none =
    let lt : n < length names = slice_get_within names n text is in
    let at : get_or names n text ≡ text = some_same (sym (slice_get-get_or names n text lt) ∙ is) in
    let passes : same_text text (get_or names n text) ≡ true = ap (same_text text) at ∙ nat_list_eq_equiv.refl text in
    by_place (cases_lt n (position_or_len (same_text text) names)) lt passes
  where
    some_same : {x y : List ℕ} → Some x ≡ Some y → x ≡ y
    some_same e = cc

    found : (k : ℕ) → k < length names → position_or_len (same_text text) names ≡ k → ⊥
    found k lt e = grind (arith, nat_tests)

    by_place : (n < position_or_len (same_text text) names) ⊎ (position_or_len (same_text text) names ≤ n) → n < length names → same_text text (get_or names n text) ≡ true → ⊥
    by_place (inl before) lt passes = true_is_false _ passes (fails_before_first (same_text text) names n text before)
    by_place (inr behind) lt passes = found (position_or_len (same_text text) names) (omega (arith, behind, lt)) refl

-- the same of a token of the code that is a name
module _ (bytes : List ℕ) (t : Token) (is : t.kind ≡ Kind.Name) where
  abbrev text_of : List ℕ
  text_of = slice_range bytes t.from t.to

  pub token_with : (old : Names) → interned old text_of ≡ names_with old (lexeme_of bytes t.kind t.from t.to)
  token_with old = ap (λ (k : TokenKind). names_with old (lexeme_of bytes k t.from t.to)) (sym is)

  pub token_full : (names : Names) → has_name names text_of ≡ false → length names ≡ max_names → FindsNoRoom names (lexeme_of bytes t.kind t.from t.to)
  token_full names new long = subst (λ k. FindsNoRoom names (lexeme_of bytes k t.from t.to)) (sym is) (new, long)

  pub token_fits : (names : Names) → FindsNoRoom names (lexeme_of bytes t.kind t.from t.to) → (has_name names text_of ≡ false) × (length names ≡ max_names)
  token_fits names h = subst (λ k. FindsNoRoom names (lexeme_of bytes k t.from t.to)) is h

  pub token_number : (names : Names) (n : ℕ) → position (same_text text_of) names ≡ Some n → IsNumberOf names (lexeme_of bytes t.kind t.from t.to) n
  token_number names n e = subst (λ k. IsNumberOf names (lexeme_of bytes k t.from t.to) n) (sym is) (text_at names text_of n e)

  pub token_not_missed : (names : Names) → HasNumber names (lexeme_of bytes t.kind t.from t.to) → position (same_text text_of) names ≡ None → ⊥
  token_not_missed names h e = not_missed names text_of (subst (λ k. HasNumber names (lexeme_of bytes k t.from t.to)) is h) e

-- a token of another kind gives no name
pub other_with : (bytes : List ℕ) (t : Token) (old : Names) → (t.kind ≡ Kind.Name → ⊥) → old ≡ names_with old (lexeme_of bytes t.kind t.from t.to)
other_with bytes t old other = by_kind t.kind other
  where
    by_kind : (k : TokenKind) → (k ≡ Kind.Name → ⊥) → old ≡ names_with old (lexeme_of bytes k t.from t.to)
    by_kind Kind.Name other = absurd (other refl)
    by_kind (Kind.Number n) other = refl
    by_kind (Kind.Word w) other = refl
    by_kind (Kind.Symbol s) other = refl

-- a token of another kind has the number 0
pub other_number : (bytes : List ℕ) (t : Token) (names : Names) → (t.kind ≡ Kind.Name → ⊥) → IsNumberOf names (lexeme_of bytes t.kind t.from t.to) 0
other_number bytes t names other = by_kind t.kind other
  where
    by_kind : (k : TokenKind) → (k ≡ Kind.Name → ⊥) → IsNumberOf names (lexeme_of bytes k t.from t.to) 0
    by_kind Kind.Name other = absurd (other refl)
    by_kind (Kind.Number n) other = refl
    by_kind (Kind.Word w) other = refl
    by_kind (Kind.Symbol s) other = refl

pub long_as : (bytes : List ℕ) (tokens : List Token) → length (map (item_of bytes) tokens) ≡ length tokens
long_as bytes [] = refl
long_as bytes (t ∷ tokens) = ap suc (long_as bytes tokens)

-- the token at an index, as an item
module _ (bytes : List ℕ) (tokens : List Token) (i : ℕ) (t : Token) (lt : i < length tokens) where
  pub item_at : (d : Item) → get_or (map (item_of bytes) tokens) i d ≡ item_of bytes (get_or tokens i t)
  item_at d = get_or-map (item_of bytes) tokens i t d lt

-- the loop stopped at this token
pub stopped_at : (bytes : List ℕ) (tokens : List Token) (i : ℕ) (t : Token) → i < length tokens → (fault : ParseFault) (old new : Names)
    → new ≡ names_behind old (take i (map (item_of bytes) tokens)) → IsRoomFault fault new (item_of bytes (get_or tokens i t)).lexeme
    → IsNumberingFault fault old (map (item_of bytes) tokens) new
stopped_at bytes tokens i t lt fault old new before why = record {
  n = i;
  token = item_of bytes (get_or tokens i t);
  there =
      slice_get-get_or (map (item_of bytes) tokens) i (item_of bytes t) (omega (arith, lt, long_as bytes tokens))
      ∙ ap (λ x. Some x) (item_at bytes tokens i t lt (item_of bytes t));
  before = before;
  why = why;
}
