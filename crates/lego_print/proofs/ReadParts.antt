-- The texts of the forms of terms are lexed, parsed and read, where those of the parts are.
use Rattle.std.proofs.Common.{◌≡◌, ℕ, suc, ◌+◌, Bool, true, ◌&&◌, List, [], ◌∷◌, ◌++◌, map, refl, sym, ap, ◌∙◌, subst, arith, append_assoc}
use Rattle.lego_term.specs.Levels.{fixed_level}
use Rattle.lego_term.specs.Trees.{Core, Prop, Univ, Pi, Lam, App, Sigma, Pair}
use Rattle.lego_term.specs.declared.binder.Binder.{Binder}
use Rattle.lego_term.specs.declared.binder.Mark.{Mark}
use Rattle.lego_term.specs.declared.binder.Mark.TheVariants.{Plain}
use Rattle.lego_base.specs.declared.place.Place.{Place}
use Rattle.lego_laws.specs.Entries.{Entry}
use Rattle.lego_lexer.specs.Bytes.{goes_on_in_name}
use Rattle.lego_lexer.specs.Tokens.{Lexeme, Name, Number, OfWord, OfSymbol, symbol_text, Point, Placed, Reads as Lexes, past}
use Rattle.lego_lexer.specs.declared.token.Word.TheVariants as Word
use Rattle.lego_lexer.specs.declared.token.Symbol.{Symbol}
use Rattle.lego_lexer.specs.declared.token.Symbol.TheVariants.{OpenParen, CloseParen, Colon, Comma, Dot}
use Rattle.lego_lexer.proofs.LexLemmas.{reads_join}
use Rattle.lego_lexer.proofs.TokenLemmas.{Stops}
use Rattle.lego_grammar.specs.Grammar.{Names, Nested, Item, Form, Term, Spine, Post, Atom, Reads as Parse, item, symbol, word, token}
use Rattle.lego_grammar.specs.Written.{Written, Named, WrittenProp, TypeAt, Apply, Pair as Pairs, Project}
use Rattle.lego_grammar.specs.declared.surface.Kind.{Kind}
use Rattle.lego_grammar.specs.declared.surface.Kind.TheVariants as Kinds
use Rattle.lego_grammar.specs.declared.surface.Part.{Part}
use Rattle.lego_grammar.specs.Scopes.{Scope, no_variables}
use Rattle.lego_grammar.specs.Reading.{ReadsExplicitly, Annotates, bind_core, project_core, is_sigma}
use Rattle.lego_grammar.specs.Denotes.{MarkedTerm, grammar_tokens}
use Rattle.lego_grammar.specs.Developments.{is_printable, is_written_sigma}
use Rattle.lego_print.specs.ReadBack.{marked, IsHeldText}
use Rattle.lego_print.proofs.ReadTokens.{here, after, same_join, stops_at, symbol_stops, IsNoStar, no_star_at, MayStand, IsToken, symbol_stands, lex_token, IsNameText, name_text_is, name_stands, IsNumberText, number_stands, number_star, blank_first}

-- the text, with the rest behind it, is lexed, parsed in a form, and read as the term
pub record IsRead (names : Names) (es : List Entry) (locals : Scope) (d : ℕ) (form : Form) (at : Point) (text rest : List ℕ) (core : Core) : Type 0 where
  pub first : Placed
  pub others : List Placed
  pub end : Point
  pub nested : List Nested
  pub written : Written
  pub lexed : Lexes at (text ++ rest) (first ∷ others) end rest
  pub same : map item nested ≡ grammar_tokens (first ∷ others)
  pub parsed : Parse names d form nested written
  pub read : ReadsExplicitly es no_variables locals written core
  pub printable : is_printable written ≡ true

-- so wherever it stands
pub record CanRead (names : Names) (es : List Entry) (locals : Scope) (form : Form) (text : List ℕ) (c : MarkedTerm) : Type 0 where
  pub core : Core
  pub is : marked [] core ≡ c
  pub reads : (d : ℕ) (at : Point) (rest : List ℕ) → Stops goes_on_in_name rest → IsRead names es locals d form at text rest core

-- the term of a binder
abbrev pub bind_marked : Kind → Mark → MarkedTerm → MarkedTerm → MarkedTerm
bind_marked Kinds.Lambda mark s t = Lam mark s t
bind_marked Kinds.Pi mark s t = Pi mark s t
bind_marked Kinds.Sigma mark s t = Sigma mark s t

pub bind-marked : (kind : Kind) (x : Binder) (a b : Core) (s t : MarkedTerm) → marked [] a ≡ s → marked [] b ≡ t → marked [] (bind_core kind x a b) ≡ bind_marked kind x.mark s t
bind-marked Kinds.Lambda x a b s t p q = rw (p, q) refl
bind-marked Kinds.Pi x a b s t p q = rw (p, q) refl
bind-marked Kinds.Sigma x a b s t p q = rw (p, q) refl

-- what two parts are together
pub record IsJoined (names : Names) (es : List Entry) (locals : Scope) (d : ℕ) (form : Form) (nested : List Nested) (core : Core) : Type 0 where
  pub written : Written
  pub parsed : Parse names d form nested written
  pub read : ReadsExplicitly es no_variables locals written core
  pub printable : is_printable written ≡ true

-- two written parts that can be printed
pub both_true : (a b : Bool) → a ≡ true → b ≡ true → (a && b) ≡ true
both_true a b p q = rw (p, q) refl

module _ (names : Names) (es : List Entry) where
  -- a form that is another one
  unfoldable pub as_form : {locals : Scope} {form other : Form} {text : List ℕ} {c : MarkedTerm}
      → ((d : ℕ) (ns : List Nested) (w : Written) → Parse names d form ns w → Parse names d other ns w)
      → CanRead names es locals form text c → CanRead names es locals other text c
  as_form f r = record {
    core = r.core;
    is = r.is;
    reads = λ d at rest stops.
        let R = r.reads d at rest stops in
        record {
          first = R.first;
          others = R.others;
          end = R.end;
          nested = R.nested;
          written = R.written;
          lexed = R.lexed;
          same = R.same;
          parsed = f d R.nested R.written R.parsed;
          read = R.read;
          printable = R.printable;
        };
  }

  -- another text that is the same
  pub of_text : {locals : Scope} {form : Form} {text other : List ℕ} {c : MarkedTerm} → text ≡ other → CanRead names es locals form text c → CanRead names es locals form other c
  of_text {locals} {form} {c = c} e r = subst (λ (t : List ℕ). CanRead names es locals form t c) e r

  -- a term of one token
  one_token : {locals : Scope} (text : List ℕ) (lexeme : Lexeme) (written : Point → Written) (core : Core) (c : MarkedTerm)
      → ((rest : List ℕ) → Stops goes_on_in_name rest → IsToken text rest lexeme)
      → ((d : ℕ) (at : Point) → Parse names d Atom (token d at.place lexeme ∷ []) (written at))
      → ((at : Point) → ReadsExplicitly es no_variables locals (written at) core) → marked [] core ≡ c → ((at : Point) → is_printable (written at) ≡ true)
      → CanRead names es locals Atom text c
  one_token text lexeme written core c stands parsed read is printable = record {
    core = core;
    is = is;
    reads = λ d at rest stops.
        record {
          first = here at text lexeme;
          others = [];
          end = after at text;
          nested = token d at.place lexeme ∷ [];
          written = written at;
          lexed = lex_token text rest (stands rest stops) Lexes.none;
          same = refl;
          parsed = parsed d at;
          read = read at;
          printable = printable at;
        };
  }

  pub name_read : {locals : Scope} (text : List ℕ) (h : IsHeldText names text) (core : Core) (c : MarkedTerm) → IsNameText text
      → ((p : Point) → ReadsExplicitly es no_variables locals (Named p.place h.number) core) → marked [] core ≡ c
      → CanRead names es locals Atom text c
  name_read text h core c n read is =
      one_token text (Name text) (λ at. Named at.place h.number) core c (λ rest stops. name_stands text rest (Name text) n stops h.is_name)
      (λ d at. Parse.name at.place h.held) read is (λ at. refl)

  pub prop_read : {locals : Scope} → CanRead names es locals Atom (80 ∷ 114 ∷ 111 ∷ 112 ∷ []) Prop
  prop_read =
      one_token (80 ∷ 114 ∷ 111 ∷ 112 ∷ []) (OfWord Word.Prop) (λ at. WrittenProp) Prop Prop
      (λ rest stops. name_stands (80 ∷ 114 ∷ 111 ∷ 112 ∷ []) rest (OfWord Word.Prop) (name_text_is (80 ∷ 114 ∷ 111 ∷ 112 ∷ []) refl) stops refl)
      (λ d at. Parse.prop at.place) (λ at. ReadsExplicitly.prop) refl (λ at. refl)

  -- two parts with a symbol between
  module _ {locals inner : Scope} (form left right : Form) (s : Symbol) (a b : List ℕ) (x y c : MarkedTerm) (down : ℕ → ℕ) where
    unfoldable pub two_parts : ((rest : List ℕ) → MayStand s rest) → (ra : CanRead names es locals left a x) → (rb : CanRead names es inner right b y)
        → (core : Core) → marked [] core ≡ c
        → ((d : ℕ) (p : Place) (ts us : List Nested) (w u : Written) → Parse names d left ts w → Parse names (down d) right us u
        → ReadsExplicitly es no_variables locals w ra.core → ReadsExplicitly es no_variables inner u rb.core → is_printable w ≡ true → is_printable u ≡ true
        → IsJoined names es locals d form (ts ++ symbol d p s ∷ us) core)
        → CanRead names es locals form ((a ++ symbol_text s) ++ b) c
    two_parts may ra rb core is join = record {
      core = core;
      is = is;
      reads = λ d at rest stops.
          let A = ra.reads d at (symbol_text s ++ (b ++ rest)) (symbol_stops s (b ++ rest)) in
          let B = rb.reads (down d) (after A.end (symbol_text s)) rest stops in
          let J = join d A.end.place A.nested B.nested A.written B.written A.parsed B.parsed A.read B.read A.printable B.printable in
          let middle = here A.end (symbol_text s) (OfSymbol s) in
          let whole : ((a ++ symbol_text s) ++ b) ++ rest ≡ a ++ (symbol_text s ++ (b ++ rest)) = simp append_assoc in
          record {
            first = A.first;
            others = A.others ++ middle ∷ (B.first ∷ B.others);
            end = B.end;
            nested = A.nested ++ symbol d A.end.place s ∷ B.nested;
            written = J.written;
            lexed = subst (λ (t : List ℕ). Lexes at t (A.first ∷ (A.others ++ middle ∷ (B.first ∷ B.others))) B.end rest) (sym whole)
                (reads_join A.lexed (lex_token (symbol_text s) (b ++ rest) (symbol_stands s (b ++ rest) (may (b ++ rest))) B.lexed));
            same = same_join A.nested (symbol d A.end.place s ∷ B.nested) (A.first ∷ A.others) (middle ∷ (B.first ∷ B.others)) A.same
                (ap (λ (ts : List Item). record { lexeme = OfSymbol s; place = A.end.place } ∷ ts) B.same);
            parsed = J.parsed;
            read = J.read;
            printable = J.printable;
          };
    }

  -- a part, a blank, and another part
  pub blank_parts : {locals : Scope} (f a : List ℕ) (x y : MarkedTerm) → CanRead names es locals Spine f x → CanRead names es locals Post a y
      → CanRead names es locals Spine ((f ++ 32 ∷ []) ++ a) (App Plain x y)
  blank_parts {locals} f a x y rf ra = record {
    core = App Plain rf.core ra.core;
    is = rw (rf.is, ra.is) refl;
    reads = λ d at rest stops.
        let F = rf.reads d at (32 ∷ (a ++ rest)) (stops_at 32 (a ++ rest) refl) in
        let A = ra.reads d (past F.end (32 ∷ [])) rest stops in
        let whole : ((f ++ 32 ∷ []) ++ a) ++ rest ≡ f ++ 32 ∷ (a ++ rest) = simp append_assoc in
        record {
          first = F.first;
          others = F.others ++ (A.first ∷ A.others);
          end = A.end;
          nested = F.nested ++ A.nested;
          written = Apply Plain F.written A.written;
          lexed = subst (λ (t : List ℕ). Lexes at t (F.first ∷ (F.others ++ (A.first ∷ A.others))) A.end rest) (sym whole) (reads_join F.lexed (blank_first A.lexed));
          same = same_join F.nested A.nested (F.first ∷ F.others) (A.first ∷ A.others) F.same A.same;
          parsed = Parse.apply F.parsed A.parsed;
          read = ReadsExplicitly.apply F.read A.read;
          printable = both_true (is_printable F.written) (is_printable A.written) F.printable A.printable;
        };
  }

  -- a binder: brackets around a name, a sign and a part, and a body behind them
  module _ {locals inner : Scope} (o sg cl : Symbol) (name a b : List ℕ) (h : IsHeldText names name) (n : IsNameText name) (x y c : MarkedTerm) where
    unfoldable pub binder_parts : ((rest : List ℕ) → MayStand o (name ++ rest)) → ((rest : List ℕ) → MayStand sg rest) → ((rest : List ℕ) → MayStand cl rest)
        → (ra : CanRead names es locals Term a x) → (rb : CanRead names es inner Term b y) → (core : Core) → marked [] core ≡ c
        → ((d : ℕ) (p q r e : Place) (ts us : List Nested) (w u : Written) → Parse names (suc d) Term ts w → Parse names (suc d) Term us u
        → ReadsExplicitly es no_variables locals w ra.core → ReadsExplicitly es no_variables inner u rb.core → is_printable w ≡ true → is_printable u ≡ true
        → IsJoined names es locals d Form.Binder (symbol d p o ∷ token (suc d) q (Name name) ∷ symbol (suc d) r sg ∷ (ts ++ symbol d e cl ∷ us)) core)
        → CanRead names es locals Form.Binder (((((symbol_text o ++ name) ++ symbol_text sg) ++ a) ++ symbol_text cl) ++ b) c
    binder_parts may_o may_sg may_cl ra rb core is join = record {
      core = core;
      is = is;
      reads = λ d at rest stops.
          let at1 = after at (symbol_text o) in
          let at2 = after at1 name in
          let A = ra.reads (suc d) (after at2 (symbol_text sg)) (symbol_text cl ++ (b ++ rest)) (symbol_stops cl (b ++ rest)) in
          let B = rb.reads (suc d) (after A.end (symbol_text cl)) rest stops in
          let J = join d at.place at1.place at2.place A.end.place A.nested B.nested A.written B.written A.parsed B.parsed A.read B.read A.printable B.printable in
          let close = here A.end (symbol_text cl) (OfSymbol cl) in
          let behind_sign = a ++ (symbol_text cl ++ (b ++ rest)) in
          let all : List Placed = here at1 name (Name name) ∷ here at2 (symbol_text sg) (OfSymbol sg) ∷ (A.first ∷ (A.others ++ close ∷ (B.first ∷ B.others))) in
          let whole : (((((symbol_text o ++ name) ++ symbol_text sg) ++ a) ++ symbol_text cl) ++ b) ++ rest ≡ symbol_text o ++ (name ++ (symbol_text sg ++ behind_sign)) = simp append_assoc in
          record {
            first = here at (symbol_text o) (OfSymbol o);
            others = all;
            end = B.end;
            nested = symbol d at.place o ∷ token (suc d) at1.place (Name name) ∷ symbol (suc d) at2.place sg ∷ (A.nested ++ symbol d A.end.place cl ∷ B.nested);
            written = J.written;
            lexed = subst (λ (t : List ℕ). Lexes at t (here at (symbol_text o) (OfSymbol o) ∷ all) B.end rest) (sym whole)
                (lex_token (symbol_text o) (name ++ (symbol_text sg ++ behind_sign)) (symbol_stands o (name ++ (symbol_text sg ++ behind_sign)) (may_o (symbol_text sg ++ behind_sign)))
                (lex_token name (symbol_text sg ++ behind_sign) (name_stands name (symbol_text sg ++ behind_sign) (Name name) n (symbol_stops sg behind_sign) h.is_name)
                (lex_token (symbol_text sg) behind_sign (symbol_stands sg behind_sign (may_sg behind_sign))
                (reads_join A.lexed (lex_token (symbol_text cl) (b ++ rest) (symbol_stands cl (b ++ rest) (may_cl (b ++ rest))) B.lexed)))));
            same = ap (λ (ts : List Item). record { lexeme = OfSymbol o; place = at.place } ∷ record { lexeme = Name name; place = at1.place } ∷ record { lexeme = OfSymbol sg; place = at2.place } ∷ ts)
                (same_join A.nested (symbol d A.end.place cl ∷ B.nested) (A.first ∷ A.others) (close ∷ (B.first ∷ B.others)) A.same
                (ap (λ (ts : List Item). record { lexeme = OfSymbol cl; place = A.end.place } ∷ ts) B.same));
            parsed = J.parsed;
            read = J.read;
            printable = J.printable;
          };
    }

  -- a term in parentheses
  pub parens_read : {locals : Scope} (a : List ℕ) (c : MarkedTerm) → IsNoStar a → CanRead names es locals Term a c
      → CanRead names es locals Atom (((40 ∷ []) ++ a) ++ 41 ∷ []) c
  parens_read {locals} a c star ra = record {
    core = ra.core;
    is = ra.is;
    reads = λ d at rest stops.
        let A = ra.reads (suc d) (after at (40 ∷ [])) (41 ∷ rest) (stops_at 41 rest refl) in
        let close = here A.end (41 ∷ []) (OfSymbol CloseParen) in
        let whole : (((40 ∷ []) ++ a) ++ 41 ∷ []) ++ rest ≡ 40 ∷ (a ++ 41 ∷ rest) = simp append_assoc in
        record {
          first = here at (40 ∷ []) (OfSymbol OpenParen);
          others = A.first ∷ (A.others ++ close ∷ []);
          end = after A.end (41 ∷ []);
          nested = symbol d at.place OpenParen ∷ (A.nested ++ symbol d A.end.place CloseParen ∷ []);
          written = A.written;
          lexed = subst (λ (t : List ℕ). Lexes at t (here at (40 ∷ []) (OfSymbol OpenParen) ∷ (A.first ∷ (A.others ++ close ∷ []))) (after A.end (41 ∷ [])) rest) (sym whole)
              (lex_token (40 ∷ []) (a ++ 41 ∷ rest) (symbol_stands OpenParen (a ++ 41 ∷ rest) (no_star_at a (41 ∷ rest) star))
              (reads_join A.lexed (lex_token (41 ∷ []) rest (symbol_stands CloseParen rest tt) Lexes.none)));
          same = ap (λ (ts : List Item). record { lexeme = OfSymbol OpenParen; place = at.place } ∷ ts)
              (same_join A.nested (symbol d A.end.place CloseParen ∷ []) (A.first ∷ A.others) (close ∷ []) A.same refl);
          parsed = Parse.parens at.place A.end.place A.parsed;
          read = A.read;
          printable = A.printable;
        };
  }

  -- a projection
  module _ {locals : Scope} (digit : ℕ) (part : Part) (a : List ℕ) (x c : MarkedTerm) where
    pub projected : ((rest : List ℕ) → Stops goes_on_in_name rest → IsToken ((48 + digit) ∷ []) rest (Number digit))
        → ((d : ℕ) (p q : Place) (ts : List Nested) (w : Written) → Parse names d Post ts w → Parse names d Post (ts ++ symbol d p Dot ∷ token d q (Number digit) ∷ []) (Project part w))
        → ((m : Core) → marked [] m ≡ x → marked [] (project_core part m) ≡ c)
        → CanRead names es locals Post a x → CanRead names es locals Post (a ++ 46 ∷ (48 + digit) ∷ []) c
    projected stands parse is ra = record {
      core = project_core part ra.core;
      is = is ra.core ra.is;
      reads = λ d at rest stops.
          let A = ra.reads d at (46 ∷ (48 + digit) ∷ rest) (stops_at 46 ((48 + digit) ∷ rest) refl) in
          let dot = here A.end (46 ∷ []) (OfSymbol Dot) in
          let number = here (after A.end (46 ∷ [])) ((48 + digit) ∷ []) (Number digit) in
          record {
            first = A.first;
            others = A.others ++ dot ∷ number ∷ [];
            end = after (after A.end (46 ∷ [])) ((48 + digit) ∷ []);
            nested = A.nested ++ symbol d A.end.place Dot ∷ token d (after A.end (46 ∷ [])).place (Number digit) ∷ [];
            written = Project part A.written;
            lexed = subst (λ (t : List ℕ). Lexes at t (A.first ∷ (A.others ++ dot ∷ number ∷ [])) (after (after A.end (46 ∷ [])) ((48 + digit) ∷ [])) rest)
                (sym (append_assoc a (46 ∷ (48 + digit) ∷ []) rest))
                (reads_join A.lexed (lex_token (46 ∷ []) ((48 + digit) ∷ rest) (symbol_stands Dot ((48 + digit) ∷ rest) tt)
                (lex_token ((48 + digit) ∷ []) rest (stands rest stops) Lexes.none)));
            same = same_join A.nested (symbol d A.end.place Dot ∷ token d (after A.end (46 ∷ [])).place (Number digit) ∷ []) (A.first ∷ A.others) (dot ∷ number ∷ []) A.same refl;
            parsed = parse d A.end.place (after A.end (46 ∷ [])).place A.nested A.written A.parsed;
            read = ReadsExplicitly.project A.read;
            printable = A.printable;
          };
    }

  -- a universe with its level
  pub level_read : {locals : Scope} (digits : List ℕ) (n : ℕ) → IsNumberText digits n
      → CanRead names es locals Atom (((84 ∷ 121 ∷ 112 ∷ 101 ∷ 40 ∷ []) ++ digits) ++ 41 ∷ []) (Univ n)
  level_read {locals} digits n t = record {
    core = Univ (fixed_level n);
    is = let e : 0 + n ≡ n = omega arith in ap (λ (k : ℕ). Univ k) e;
    reads = λ d at rest stops.
        let type : List ℕ = 84 ∷ 121 ∷ 112 ∷ 101 ∷ [] in
        let at1 = after at type in
        let at2 = after at1 (40 ∷ []) in
        let at3 = after at2 digits in
        let word_is = here at type (OfWord Word.AnyType) in
        let all : List Placed = here at1 (40 ∷ []) (OfSymbol OpenParen) ∷ here at2 digits (Number n) ∷ here at3 (41 ∷ []) (OfSymbol CloseParen) ∷ [] in
        let whole : (((84 ∷ 121 ∷ 112 ∷ 101 ∷ 40 ∷ []) ++ digits) ++ 41 ∷ []) ++ rest ≡ type ++ (40 ∷ (digits ++ 41 ∷ rest)) = simp append_assoc in
        record {
          first = word_is;
          others = all;
          end = after at3 (41 ∷ []);
          nested = word d at.place Word.AnyType ∷ symbol d at1.place OpenParen ∷ token (suc d) at2.place (Number n) ∷ symbol d at3.place CloseParen ∷ [];
          written = TypeAt n;
          lexed = subst (λ (t : List ℕ). Lexes at t (word_is ∷ all) (after at3 (41 ∷ [])) rest) (sym whole)
              (lex_token type (40 ∷ (digits ++ 41 ∷ rest)) (name_stands type (40 ∷ (digits ++ 41 ∷ rest)) (OfWord Word.AnyType) (name_text_is type refl) (stops_at 40 (digits ++ 41 ∷ rest) refl) refl)
              (lex_token (40 ∷ []) (digits ++ 41 ∷ rest) (symbol_stands OpenParen (digits ++ 41 ∷ rest) (no_star_at digits (41 ∷ rest) (number_star digits n t)))
              (lex_token digits (41 ∷ rest) (number_stands digits (41 ∷ rest) n t (stops_at 41 rest refl))
              (lex_token (41 ∷ []) rest (symbol_stands CloseParen rest tt) Lexes.none))));
          same = refl;
          parsed = Parse.type_at at.place at1.place at2.place at3.place;
          read = ReadsExplicitly.type_at;
          printable = refl;
        };
  }

  -- a pair, whose written type is read as a Sigma type
  module _ {locals : Scope} (m n a : List ℕ) (x y s t : MarkedTerm) (star : IsNoStar m) where
    pub pair_read : CanRead names es locals Term m x → CanRead names es locals Term n y → (ra : CanRead names es locals Term a (Sigma Plain s t)) → (z : Binder) (k l : Core)
        → ra.core ≡ Sigma z k l → ((d : ℕ) (at : Point) (rest : List ℕ) (stops : Stops goes_on_in_name rest) → is_written_sigma (ra.reads d at rest stops).written ≡ true)
        → CanRead names es locals Atom ((((((40 ∷ []) ++ m) ++ 44 ∷ []) ++ n) ++ 58 ∷ []) ++ a ++ 41 ∷ []) (Pair Plain s t x y)
    pair_read rm rn ra z k l sigma written_sigma = record {
      core = Pair z k l rm.core rn.core;
      is = let e : marked [] (Sigma z k l) ≡ Sigma Plain s t = ap (marked []) (sym sigma) ∙ ra.is in
          let p = rm.is in let q = rn.is in cc;
      reads = λ d at rest stops.
          let at1 = after at (40 ∷ []) in
          let M = rm.reads (suc d) at1 (44 ∷ (n ++ 58 ∷ (a ++ 41 ∷ rest))) (stops_at 44 (n ++ 58 ∷ (a ++ 41 ∷ rest)) refl) in
          let N = rn.reads (suc d) (after M.end (44 ∷ [])) (58 ∷ (a ++ 41 ∷ rest)) (stops_at 58 (a ++ 41 ∷ rest) refl) in
          let A = ra.reads (suc d) (after N.end (58 ∷ [])) (41 ∷ rest) (stops_at 41 rest refl) in
          let comma = here M.end (44 ∷ []) (OfSymbol Comma) in
          let colon = here N.end (58 ∷ []) (OfSymbol Colon) in
          let close = here A.end (41 ∷ []) (OfSymbol CloseParen) in
          let behind_m : List Placed = comma ∷ (N.first ∷ (N.others ++ colon ∷ (A.first ∷ (A.others ++ close ∷ [])))) in
          let nested_m : List Nested = symbol (suc d) M.end.place Comma ∷ (N.nested ++ symbol (suc d) N.end.place Colon ∷ (A.nested ++ symbol d A.end.place CloseParen ∷ [])) in
          let assoc : symbol d at.place OpenParen ∷ M.nested ++ symbol (suc d) M.end.place Comma ∷ N.nested ++ symbol (suc d) N.end.place Colon ∷ A.nested ++ symbol d A.end.place CloseParen ∷ []
          ≡ symbol d at.place OpenParen ∷ (M.nested ++ nested_m) = simp append_assoc in
          let whole : ((((((40 ∷ []) ++ m) ++ 44 ∷ []) ++ n) ++ 58 ∷ []) ++ a ++ 41 ∷ []) ++ rest ≡ 40 ∷ (m ++ 44 ∷ (n ++ 58 ∷ (a ++ 41 ∷ rest))) = simp append_assoc in
          record {
            first = here at (40 ∷ []) (OfSymbol OpenParen);
            others = M.first ∷ (M.others ++ behind_m);
            end = after A.end (41 ∷ []);
            nested = symbol d at.place OpenParen ∷ (M.nested ++ nested_m);
            written = Pairs M.written N.written A.written;
            lexed = subst (λ (u : List ℕ). Lexes at u (here at (40 ∷ []) (OfSymbol OpenParen) ∷ (M.first ∷ (M.others ++ behind_m))) (after A.end (41 ∷ [])) rest) (sym whole)
                (lex_token (40 ∷ []) (m ++ 44 ∷ (n ++ 58 ∷ (a ++ 41 ∷ rest))) (symbol_stands OpenParen (m ++ 44 ∷ (n ++ 58 ∷ (a ++ 41 ∷ rest))) (no_star_at m (44 ∷ (n ++ 58 ∷ (a ++ 41 ∷ rest))) star))
                (reads_join M.lexed (lex_token (44 ∷ []) (n ++ 58 ∷ (a ++ 41 ∷ rest)) (symbol_stands Comma (n ++ 58 ∷ (a ++ 41 ∷ rest)) tt)
                (reads_join N.lexed (lex_token (58 ∷ []) (a ++ 41 ∷ rest) (symbol_stands Colon (a ++ 41 ∷ rest) tt)
                (reads_join A.lexed (lex_token (41 ∷ []) rest (symbol_stands CloseParen rest tt) Lexes.none)))))));
            same = ap (λ (ts : List Item). record { lexeme = OfSymbol OpenParen; place = at.place } ∷ ts)
                (same_join M.nested nested_m (M.first ∷ M.others) behind_m M.same
                (ap (λ (ts : List Item). record { lexeme = OfSymbol Comma; place = M.end.place } ∷ ts)
                (same_join N.nested (symbol (suc d) N.end.place Colon ∷ (A.nested ++ symbol d A.end.place CloseParen ∷ [])) (N.first ∷ N.others) (colon ∷ (A.first ∷ (A.others ++ close ∷ []))) N.same
                (ap (λ (ts : List Item). record { lexeme = OfSymbol Colon; place = N.end.place } ∷ ts)
                (same_join A.nested (symbol d A.end.place CloseParen ∷ []) (A.first ∷ A.others) (close ∷ []) A.same refl)))));
            parsed = subst (λ (ns : List Nested). Parse names d Atom ns (Pairs M.written N.written A.written)) assoc (Parse.pair at.place M.end.place N.end.place A.end.place M.parsed N.parsed A.parsed);
            read = ReadsExplicitly.pair A.read (subst (λ (c : Core). Annotates es locals ra.core c) sigma (Annotates.core (ap is_sigma sigma))) M.read N.read;
            printable = both_true (is_printable M.written) _ M.printable (both_true (is_printable N.written) _ N.printable
                (both_true (is_printable A.written) (is_written_sigma A.written) A.printable (written_sigma (suc d) (after N.end (58 ∷ [])) (41 ∷ rest) (stops_at 41 rest refl))));
          };
    }
