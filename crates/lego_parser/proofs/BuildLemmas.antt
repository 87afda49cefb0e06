-- The pass with trees: what of a command's tokens is left ends it, and gives it.
use Rattle.std.proofs.Common.{◌≡◌, ℕ, suc, ◌+◌, ◌<◌, ◌≤◌, List, [], ◌∷◌, Bool, true, false, Option, Some, None, map, length, drop, get_or, slice_get, refl, sym, ap, ◌∙◌, subst, arith, drop-cons}
use Rattle.std.proofs.lemmas.List.{drop_all}
use Rattle.lego_base.specs.Names.{AreDistinct}
use Rattle.lego_lexer.specs.Tokens.{Lexeme, Name, Number, OfWord, OfSymbol, lexeme_of}
use Rattle.lego_lexer.specs.declared.token.Token.{Token}
use Rattle.lego_lexer.specs.declared.token.TokenKind.{TokenKind}
use Rattle.lego_lexer.specs.declared.token.TokenKind.TheVariants as Kind
use Rattle.lego_grammar.specs.Written.{WrittenAct, WrittenCommand}
use Rattle.lego_grammar.specs.Grammar.{Names, Nested, Item, item, item_of, ReadsCommand, Parses}
use Rattle.lego_grammar.specs.private.Machine.{Mode, Done, Frame, State, state, move}
use Rattle.lego_parser.specs.private.Interning.{HasNumber, AreNumbered, IsNumberOf}
use Rattle.lego_grammar.specs.private.Runs.{class}
use Rattle.lego_parser.specs.private.Scanning.{mode_at, IsWhole, HasEnded}
use Rattle.lego_parser.specs.declared.scan.Start.{Start}
use Rattle.lego_grammar.proofs.Transitions.{Fits, Runs}
use Rattle.lego_grammar.proofs.Complete.{kept_act, complete_command}
use Rattle.lego_grammar.proofs.Moving.{move_to}
use Rattle.lego_grammar.proofs.Unique.{kept_whole}
use Rattle.lego_grammar.proofs.Beginnings.{Known, Has, ran, holds}
use Rattle.lego_parser.proofs.Depths.{the}
use Rattle.lego_parser.proofs.Scans.{begin_at, holds_at, ends_as}
use Rattle.lego_parser.proofs.NumberingLemmas.{item_at, long_as}

-- The tokens are read as a command, and the machine with trees, behind the first i of them, goes over the rest to its end.
pub record Left (names : Names) (tokens : List Item) (i : ℕ) (m : Mode) (fs : List Frame) : Type 0 where
  pub order : WrittenCommand
  pub parses : Parses names tokens order
  pub rest : List Nested
  pub same : map item rest ≡ drop i tokens
  pub runs : Runs names true m fs rest (Done order.act) []

-- names that are numbered are known
has_number : (names : Names) (x : Lexeme) → HasNumber names x → Has names x
has_number names (Name text) h = h
has_number names (Number n) h = tt
has_number names (OfWord w) h = tt
has_number names (OfSymbol s) h = tt

known : (names : Names) (tokens : List Item) → AreNumbered names tokens → Known names tokens
known names [] h = tt
known names (t ∷ tokens) h = (has_number names t.lexeme (h 0 t (omega arith)), known names tokens (λ k d lt. h (suc k) d (omega (arith, lt))))

-- all tokens are left, where a scan without trees went over them
pub left_whole : (names : Names) (tokens : List Item) (start : Start) → AreNumbered names tokens → IsWhole tokens (mode_at start) → Left names tokens 0 (mode_at start) []
left_whole names tokens start numbered whole =
    let begin = begin_at start in
    let r = ran names tokens (mode_at start) [] (known names tokens numbered) whole.over in
    let h = holds names false [] (holds_at begin names) r.runs in
    let same_act : kept_act true h.0.act ≡ h.0.act = kept_whole h.0.act in
    record {
      order = h.0;
      parses = record { nested = r.nested; same = r.same; reads = h.1 };
      rest = r.nested;
      same = r.same;
      runs = subst (λ d. Runs names true (mode_at start) [] r.nested (Done d) []) same_act
          (subst (λ m. Runs names true m [] r.nested (Done (kept_act true h.0.act)) []) (ends_as h.0 begin r.runs h.2) (complete_command names true h.1));
    }

no_item : {t : Item} {ts : List Item} {A : Type 0} → ◌≡◌ {A = List Item} [] (t ∷ ts) → A
no_item e = cc

item_none : {t : Item} {ts : List Item} {A : Type 0} → ◌≡◌ {A = List Item} (t ∷ ts) [] → A
item_none e = cc

some_none : {X : Type 0} {x : X} → ◌≡◌ {A = Option X} (Some x) None → ⊥
some_none e = cc

same_deed : {a b : WrittenAct} → Done a ≡ Done b → a ≡ b
same_deed e = cc

-- the number with which the machine goes over a token is the token's
fits_as : (names : Names) → AreDistinct names → (x : Lexeme) (n k : ℕ) → Fits names true x n → IsNumberOf names x k → n ≡ k
fits_as names distinct (Name text) n k f g = f.2 ∙ distinct f.0 k text f.1 g
fits_as names distinct (Number i) n k f g = f ∙ sym g
fits_as names distinct (OfWord w) n k f g = f ∙ sym g
fits_as names distinct (OfSymbol s) n k f g = f ∙ sym g

abbrev head_of : Item → List Item → Item
head_of t [] = t
head_of t (x ∷ xs) = x

abbrev tail_of : List Item → List Item
tail_of [] = []
tail_of (x ∷ xs) = xs

-- the machine's step over the next token, and what is left behind it
record Stepped (names : Names) (tokens : List Item) (i : ℕ) (t : Item) (k : ℕ) (m : Mode) (fs : List Frame) : Type 0 where
  mode : Mode
  frames : List Frame
  moves : move true (class t.lexeme) t.place k (state m fs) ≡ Some (state mode frames)
  left : Left names tokens (suc i) mode frames

stepped : (names : Names) (tokens : List Item) (i : ℕ) (t : Item) (k : ℕ) (m : Mode) (fs : List Frame) → AreDistinct names → drop i tokens ≡ t ∷ drop (suc i) tokens
    → IsNumberOf names t.lexeme k → Left names tokens i m fs → Stepped names tokens i t k m fs
stepped names tokens i t k m fs distinct at is left = go left.rest (left.same ∙ at) left.runs
  where
    go : (rest : List Nested) → map item rest ≡ t ∷ drop (suc i) tokens → Runs names true m fs rest (Done left.order.act) [] → Stepped names tokens i t k m fs
    go [] e r = no_item e
    go (x ∷ rest) e (Runs.go {m' = m'} {fs' = fs'} {n = n} f y r) =
        let first : item x ≡ t = ap (head_of t) e in
        let number : n ≡ k = fits_as names distinct x.lexeme n k f (subst (λ (z : Item). IsNumberOf names z.lexeme k) (sym first) is) in
        record {
          mode = m';
          frames = fs';
          moves = subst (λ j. move true (class t.lexeme) t.place j (state m fs) ≡ Some (state m' fs')) number
              (subst (λ (z : Item). move true (class z.lexeme) z.place n (state m fs) ≡ Some (state m' fs')) first (move_to true y));
          left = record { order = left.order; parses = left.parses; rest = rest; same = ap tail_of e; runs = r };
        }

-- what the machine sees of a token of the code is its kind
class_of : (bytes : List ℕ) (kind : TokenKind) (from to : ℕ) → class (lexeme_of bytes kind from to) ≡ kind
class_of bytes Kind.Name from to = refl
class_of bytes (Kind.Number n) from to = refl
class_of bytes (Kind.Word w) from to = refl
class_of bytes (Kind.Symbol s) from to = refl

-- one step over a token of the code, which has a number
module _ (names : Names) (bytes : List ℕ) (tokens : List Token) (i : ℕ) (d : Token) (lt : i < length tokens) where
  abbrev items : List Item
  items = map (item_of bytes) tokens

  abbrev next : Token
  next = get_or tokens i d

  pub number_at : AreNumbered names items → HasNumber names (lexeme_of bytes next.kind next.from next.to)
  number_at numbered =
      let inside : i < length items = omega (arith, lt, long_as bytes tokens) in
      subst (λ (t : Item). HasNumber names t.lexeme) (item_at bytes tokens i d lt (item_of bytes d)) (numbered i (item_of bytes d) inside)

  module _ (distinct : AreDistinct names) (m : Mode) (fs : List Frame) (left : Left names items i m fs) (k : ℕ) (is : IsNumberOf names (lexeme_of bytes next.kind next.from next.to) k) where
    next_step : Stepped names items i (item_of bytes next) k m fs
    next_step =
        let inside : i < length items = omega (arith, lt, long_as bytes tokens) in
        let at : drop i items ≡ item_of bytes next ∷ drop (suc i) items = drop-cons items i (item_of bytes d) inside ∙ ap (λ t. t ∷ drop (suc i) items) (item_at bytes tokens i d lt (item_of bytes d)) in
        stepped names items i (item_of bytes next) k m fs distinct at is left

    moved : move true next.kind next.place k (state m fs) ≡ Some (state next_step.mode next_step.frames)
    moved = subst (λ c. move true c next.place k (state m fs) ≡ Some (state next_step.mode next_step.frames)) (class_of bytes next.kind next.from next.to) next_step.moves

    -- there is one
    pub has_step : move true next.kind next.place k (state m fs) ≡ None → ⊥
    has_step none = some_none (sym moved ∙ none)

    -- the rest is left behind it
    pub left_more : {m' : Mode} {fs' : List Frame} → move true next.kind next.place k (state m fs) ≡ Some (state m' fs') → Left names items (i + 1) m' fs'
    left_more {m'} {fs'} there =
        let both : state next_step.mode next_step.frames ≡ state m' fs' = the (sym moved ∙ there) in
        let one : suc i ≡ i + 1 = omega arith in
        subst (λ (z : State). Left names items (i + 1) z.mode z.frames) both (subst (λ j. Left names items j next_step.mode next_step.frames) one next_step.left)

-- behind the last token the command has ended
module _ (names : Names) (bytes : List ℕ) (tokens : List Token) (i : ℕ) (m : Mode) (fs : List Frame) (le : length tokens ≤ i) (left : Left names (map (item_of bytes) tokens) i m fs) where
  ended : m ≡ Done left.order.act
  ended = go left.rest (left.same ∙ drop_all i (map (item_of bytes) tokens) (omega (arith, le, long_as bytes tokens))) left.runs
    where
      go : (rest : List Nested) {m : Mode} {fs : List Frame} {act : WrittenAct} → map item rest ≡ [] → Runs names true m fs rest (Done act) [] → m ≡ Done act
      go [] e Runs.stay = refl
      go (x ∷ rest) e r = item_none e

  pub has_ended : HasEnded m
  has_ended = (left.order.act, ended)

  -- what it asks for is read, at the first token
  pub left_parses : (d : WrittenAct) → m ≡ Done d → (t : Item) → slice_get (map (item_of bytes) tokens) 0 ≡ Some t → Parses names (map (item_of bytes) tokens) (record { place = t.place; act = d })
  left_parses d e t g =
      let same_act : left.order.act ≡ d = same_deed (sym ended ∙ e) in
      let p = left.parses in
      let places : left.order.place ≡ t.place = first p.nested left.order p.reads (ap (λ l. slice_get l 0) p.same ∙ g) in
      let order : left.order ≡ record { place = t.place; act = d } = λ z. record { place = places z; act = same_act z } in
      record { nested = p.nested; same = p.same; reads = subst (λ o. ReadsCommand names p.nested o) order p.reads }
    where
      first : (ts : List Nested) (o : WrittenCommand) → ReadsCommand names ts o → slice_get (map item ts) 0 ≡ Some t → o.place ≡ t.place
      first ts o (ReadsCommand.command p r) q = ap (λ (i : Item). i.place) (the q)
