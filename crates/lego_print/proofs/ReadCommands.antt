-- The commands of a development are read as declarations.
use Rattle.std.proofs.Common.{◌≡◌, ℕ, true, List, [], ◌∷◌, ◌++◌, Option, Some, None, option_map, refl, sym, ap, subst, append_assoc}
use Rattle.std.specs.Prelude.{IfSome}
use Rattle.lego_base.specs.declared.place.Place.{Place}
use Rattle.lego_term.specs.Levels.{Assignment}
use Rattle.lego_term.specs.Trees.{Core}
use Rattle.lego_term.specs.declared.binder.Mark.{Mark}
use Rattle.lego_term.specs.declared.binder.Mark.TheVariants.{Plain, Implicit}
use Rattle.lego_laws.specs.Entries.{Entry}
use Rattle.lego_lexer.specs.Bytes.{Gap}
use Rattle.lego_lexer.specs.Tokens.{Name, OfSymbol, symbol_text, Placed, Reads as Lexes, start}
use Rattle.lego_lexer.specs.declared.token.Symbol.TheVariants.{OpenSquare, CloseSquare, Colon, Equals, Semicolon}
use Rattle.lego_lexer.proofs.LexLemmas.{reads_join}
use Rattle.lego_grammar.specs.Grammar.{Names, Nested, Item, Term, symbol, token, sign, NameList, ReadsBinding, ReadsBindings, ReadsAct, ReadsCommand}
use Rattle.lego_grammar.specs.Written.{Assumed, Defined, WrittenBinding, WrittenAct, WrittenCommand}
use Rattle.lego_grammar.specs.Scopes.{no_variables}
use Rattle.lego_grammar.specs.Reading.{ReadsExplicitly}
use Rattle.lego_grammar.specs.Denotes.{MarkedTerm, IsWrittenAs, Declaration, declaration_of, ReadsBody}
use Rattle.lego_grammar.specs.Developments.{is_printable, is_printable_declaration}
use Rattle.lego_print.specs.declared.shown.Shown.{Shown}
use Rattle.lego_print.specs.Names.{Scope}
use Rattle.lego_print.specs.Texts.{term_text}
use Rattle.lego_print.specs.Entries.{declared}
use Rattle.lego_print.specs.ReadBack.{IsLeast, marked, IsHeldText, IsReadable}
use Rattle.lego_print.proofs.Renumbered.{renumbered}
use Rattle.lego_print.proofs.ReadLocals.{AreLocals}
use Rattle.lego_print.proofs.ReadForms.{name_is, may_sign}
use Rattle.lego_print.proofs.ReadParts.{CanRead, both_true}
use Rattle.lego_print.proofs.ReadTerms.{read_term}
use Rattle.lego_print.proofs.ReadTokens.{here, after, same_join, stops_at, symbol_stops, symbol_stands, lex_token, name_stands}

-- the bytes, which begin at this place, are a command that declares a name, with this mark, type and body
pub record IsCommandRead (names : Names) (es : List Entry) (place : Place) (bytes : List ℕ) (name : ℕ) (mark : Mark) (ty : MarkedTerm) (body : Option MarkedTerm) : Type 0 where
  pub command : WrittenCommand
  pub declaration : Declaration
  pub written : IsWrittenAs names (record { place = place; bytes = bytes }) command
  pub declares : declaration_of command.act ≡ Some declaration
  pub name_same : declaration.name ≡ name
  pub mark_same : declaration.mark ≡ mark
  pub ty_core : Core
  pub ty_read : ReadsExplicitly es no_variables [] declaration.ty ty_core
  pub ty_same : marked [] ty_core ≡ ty
  pub body_core : Option Core
  pub body_read : ReadsBody es declaration.body body_core
  pub body_same : option_map (marked []) body_core ≡ body
  pub printable : is_printable_declaration declaration ≡ true

module _ (names : Names) (es : List Entry) (place : Place) where
  -- an assumption
  pub assume_read : (mark : Mark) (name a : List ℕ) (h : IsHeldText names name) (c : MarkedTerm) → CanRead names es [] Term a c
      → IsCommandRead names es place (((((91 ∷ []) ++ name) ++ symbol_text (sign mark)) ++ a) ++ 93 ∷ 59 ∷ []) h.number mark c None
  assume_read mark name a h c ra =
      let sg = symbol_text (sign mark) in
      let at = start place in
      let at1 = after at (91 ∷ []) in
      let at2 = after at1 name in
      let A = ra.reads 1 (after at2 sg) (93 ∷ 59 ∷ []) (stops_at 93 (59 ∷ []) refl) in
      let at4 = after A.end (93 ∷ []) in
      let bracket = here at (91 ∷ []) (OfSymbol OpenSquare) in
      let called = here at1 name (Name name) in
      let signed = here at2 sg (OfSymbol (sign mark)) in
      let close = here A.end (93 ∷ []) (OfSymbol CloseSquare) in
      let semicolon = here at4 (59 ∷ []) (OfSymbol Semicolon) in
      let tokens : List Placed = bracket ∷ called ∷ signed ∷ (A.first ∷ (A.others ++ close ∷ semicolon ∷ [])) in
      let ends : List Nested = symbol 0 A.end.place CloseSquare ∷ symbol 0 at4.place Semicolon ∷ [] in
      let front : List Nested = token 1 at1.place (Name name) ∷ symbol 1 at2.place (sign mark) ∷ (A.nested ++ symbol 0 A.end.place CloseSquare ∷ []) in
      let nested : List Nested = symbol 0 at.place OpenSquare ∷ token 1 at1.place (Name name) ∷ symbol 1 at2.place (sign mark) ∷ (A.nested ++ ends) in
      let binding : WrittenBinding = record { place = at.place; places = at1.place ∷ []; names = h.number ∷ []; kind = Assumed mark A.written } in
      let whole : ((((91 ∷ []) ++ name) ++ sg) ++ a) ++ 93 ∷ 59 ∷ [] ≡ 91 ∷ (name ++ (sg ++ (a ++ 93 ∷ 59 ∷ []))) = simp append_assoc in
      let joined : symbol 0 at.place OpenSquare ∷ (front ++ symbol 0 at4.place Semicolon ∷ []) ≡ nested =
      ap (λ (ns : List Nested). symbol 0 at.place OpenSquare ∷ token 1 at1.place (Name name) ∷ symbol 1 at2.place (sign mark) ∷ ns)
      (append_assoc A.nested (symbol 0 A.end.place CloseSquare ∷ []) (symbol 0 at4.place Semicolon ∷ [])) in
      record {
        command = record { place = at.place; act = WrittenAct.Bindings (binding ∷ []) };
        declaration = record { name = h.number; mark = mark; ty = A.written; body = None };
        written = record {
          tokens = tokens;
          lexed = record {
            end = after at4 (59 ∷ []);
            gap = [];
            reads = subst (λ (t : List ℕ). Lexes at t tokens (after at4 (59 ∷ [])) []) (sym whole)
                (lex_token (91 ∷ []) (name ++ (sg ++ (a ++ 93 ∷ 59 ∷ []))) (symbol_stands OpenSquare (name ++ (sg ++ (a ++ 93 ∷ 59 ∷ []))) tt)
                (lex_token name (sg ++ (a ++ 93 ∷ 59 ∷ [])) (name_stands name (sg ++ (a ++ 93 ∷ 59 ∷ [])) (Name name) (name_is name h.is_name) (symbol_stops (sign mark) (a ++ 93 ∷ 59 ∷ [])) h.is_name)
                (lex_token sg (a ++ 93 ∷ 59 ∷ []) (symbol_stands (sign mark) (a ++ 93 ∷ 59 ∷ []) (may_sign names es mark (a ++ 93 ∷ 59 ∷ [])))
                (reads_join A.lexed (lex_token (93 ∷ []) (59 ∷ []) (symbol_stands CloseSquare (59 ∷ []) tt)
                (lex_token (59 ∷ []) [] (symbol_stands Semicolon [] tt) Lexes.none))))));
            blank = Gap.none;
          };
          parsed = record {
            nested = nested;
            same = ap (λ (ts : List Item). record { lexeme = OfSymbol OpenSquare; place = at.place } ∷ record { lexeme = Name name; place = at1.place } ∷ record { lexeme = OfSymbol (sign mark); place = at2.place } ∷ ts)
                (same_join A.nested ends (A.first ∷ A.others) (close ∷ semicolon ∷ []) A.same refl);
            reads = subst (λ (ns : List Nested). ReadsCommand names ns (record { place = at.place; act = WrittenAct.Bindings (binding ∷ []) })) joined
                (ReadsCommand.command at4.place (ReadsAct.bindings (ReadsBindings.one (ReadsBinding.assume at.place at2.place A.end.place (NameList.one h.held) A.parsed))));
          };
        };
        declares = refl;
        name_same = refl;
        mark_same = refl;
        ty_core = ra.core;
        ty_read = A.read;
        ty_same = ra.is;
        body_core = None;
        body_read = tt;
        body_same = refl;
        printable = both_true (is_printable A.written) true A.printable refl;
      }

  -- a definition
  pub define_read : (name m a : List ℕ) (h : IsHeldText names name) (b c : MarkedTerm) → CanRead names es [] Term m b → CanRead names es [] Term a c
      → IsCommandRead names es place (((((((91 ∷ []) ++ name) ++ 61 ∷ []) ++ m) ++ 58 ∷ []) ++ a) ++ 93 ∷ 59 ∷ []) h.number Plain c (Some b)
  define_read name m a h b c rm ra =
      let at = start place in
      let at1 = after at (91 ∷ []) in
      let at2 = after at1 name in
      let behind_m = a ++ 93 ∷ 59 ∷ [] in
      let M = rm.reads 1 (after at2 (61 ∷ [])) (58 ∷ behind_m) (stops_at 58 behind_m refl) in
      let A = ra.reads 1 (after M.end (58 ∷ [])) (93 ∷ 59 ∷ []) (stops_at 93 (59 ∷ []) refl) in
      let at4 = after A.end (93 ∷ []) in
      let bracket = here at (91 ∷ []) (OfSymbol OpenSquare) in
      let called = here at1 name (Name name) in
      let equals = here at2 (61 ∷ []) (OfSymbol Equals) in
      let colon = here M.end (58 ∷ []) (OfSymbol Colon) in
      let close = here A.end (93 ∷ []) (OfSymbol CloseSquare) in
      let semicolon = here at4 (59 ∷ []) (OfSymbol Semicolon) in
      let types : List Placed = A.first ∷ (A.others ++ close ∷ semicolon ∷ []) in
      let tokens : List Placed = bracket ∷ called ∷ equals ∷ (M.first ∷ (M.others ++ colon ∷ types)) in
      let ends : List Nested = symbol 0 A.end.place CloseSquare ∷ symbol 0 at4.place Semicolon ∷ [] in
      let front : List Nested = token 1 at1.place (Name name) ∷ symbol 1 at2.place Equals ∷ M.nested ++ symbol 1 M.end.place Colon ∷ A.nested ++ symbol 0 A.end.place CloseSquare ∷ [] in
      let nested : List Nested = symbol 0 at.place OpenSquare ∷ token 1 at1.place (Name name) ∷ symbol 1 at2.place Equals ∷ (M.nested ++ symbol 1 M.end.place Colon ∷ (A.nested ++ ends)) in
      let binding : WrittenBinding = record { place = at.place; places = at1.place ∷ []; names = h.number ∷ []; kind = Defined M.written (Some A.written) } in
      let whole : ((((((91 ∷ []) ++ name) ++ 61 ∷ []) ++ m) ++ 58 ∷ []) ++ a) ++ 93 ∷ 59 ∷ [] ≡ 91 ∷ (name ++ 61 ∷ (m ++ 58 ∷ behind_m)) = simp append_assoc in
      let joined : symbol 0 at.place OpenSquare ∷ front ++ symbol 0 at4.place Semicolon ∷ [] ≡ nested = simp append_assoc in
      record {
        command = record { place = at.place; act = WrittenAct.Bindings (binding ∷ []) };
        declaration = record { name = h.number; mark = Plain; ty = A.written; body = Some M.written };
        written = record {
          tokens = tokens;
          lexed = record {
            end = after at4 (59 ∷ []);
            gap = [];
            reads = subst (λ (t : List ℕ). Lexes at t tokens (after at4 (59 ∷ [])) []) (sym whole)
                (lex_token (91 ∷ []) (name ++ 61 ∷ (m ++ 58 ∷ behind_m)) (symbol_stands OpenSquare (name ++ 61 ∷ (m ++ 58 ∷ behind_m)) tt)
                (lex_token name (61 ∷ (m ++ 58 ∷ behind_m)) (name_stands name (61 ∷ (m ++ 58 ∷ behind_m)) (Name name) (name_is name h.is_name) (stops_at 61 (m ++ 58 ∷ behind_m) refl) h.is_name)
                (lex_token (61 ∷ []) (m ++ 58 ∷ behind_m) (symbol_stands Equals (m ++ 58 ∷ behind_m) tt)
                (reads_join M.lexed (lex_token (58 ∷ []) behind_m (symbol_stands Colon behind_m tt)
                (reads_join A.lexed (lex_token (93 ∷ []) (59 ∷ []) (symbol_stands CloseSquare (59 ∷ []) tt)
                (lex_token (59 ∷ []) [] (symbol_stands Semicolon [] tt) Lexes.none))))))));
            blank = Gap.none;
          };
          parsed = record {
            nested = nested;
            same = ap (λ (ts : List Item). record { lexeme = OfSymbol OpenSquare; place = at.place } ∷ record { lexeme = Name name; place = at1.place } ∷ record { lexeme = OfSymbol Equals; place = at2.place } ∷ ts)
                (same_join M.nested (symbol 1 M.end.place Colon ∷ (A.nested ++ ends)) (M.first ∷ M.others) (colon ∷ types) M.same
                (ap (λ (ts : List Item). record { lexeme = OfSymbol Colon; place = M.end.place } ∷ ts)
                (same_join A.nested ends (A.first ∷ A.others) (close ∷ semicolon ∷ []) A.same refl)));
            reads = subst (λ (ns : List Nested). ReadsCommand names ns (record { place = at.place; act = WrittenAct.Bindings (binding ∷ []) })) joined
                (ReadsCommand.command at4.place (ReadsAct.bindings (ReadsBindings.one (ReadsBinding.define_typed at.place at1.place at2.place M.end.place A.end.place h.held M.parsed A.parsed))));
          };
        };
        declares = refl;
        name_same = refl;
        mark_same = refl;
        ty_core = ra.core;
        ty_read = A.read;
        ty_same = ra.is;
        body_core = Some rm.core;
        body_read = M.read;
        body_same = ap (λ (x : MarkedTerm). Some x) rm.is;
        printable = both_true (is_printable A.written) (is_printable M.written) A.printable M.printable;
      }

seven : (o n s m c t e f : List ℕ) → ((((((o ++ n) ++ s) ++ m) ++ c) ++ t) ++ (e ++ f)) ≡ (((o ++ n) ++ (((s ++ m) ++ c) ++ t)) ++ e) ++ f
seven o n s m c t e f = simp append_assoc

-- the command of an entry without its `;`
abbrev pub entry_body : Shown → Scope → List ℕ → Option Core → Mark → Core → List ℕ
entry_body levels scope name body mark ty = (((91 ∷ []) ++ name) ++ declared levels scope body mark ty) ++ 93 ∷ []

module _ (levels : Shown) (v : Assignment) (names : Names) (es : List Entry) (numbers : ℕ → ℕ) (least : IsLeast levels v) (place : Place) (scope : Scope) (none : scope.locals ≡ []) where
  can_read : (t : Core) → IsReadable names es numbers v scope t → CanRead names es [] Term (term_text levels scope 0 t) (renumbered numbers v t)
  can_read t h =
      (read_term levels v names es numbers least t scope [] 0 h (subst (λ (ls : List (Option (List ℕ))). AreLocals names scope.names scope.entries ls []) (sym none) tt)).read

  -- the command of an entry is read
  pub entry_read : (name : List ℕ) (h : IsHeldText names name) (body : Option Core) (mark : Mark) (ty : Core) → IfSome body (λ m. mark ≡ Plain)
      → IsReadable names es numbers v scope ty → IfSome body (λ m. IsReadable names es numbers v scope m)
      → IsCommandRead names es place (entry_body levels scope name body mark ty ++ 59 ∷ []) h.number mark (renumbered numbers v ty) (option_map (renumbered numbers v) body)
  entry_read name h None Plain ty plain t b =
      let T = term_text levels scope 0 ty in
      let same : ((((91 ∷ []) ++ name) ++ 58 ∷ []) ++ T) ++ 93 ∷ 59 ∷ [] ≡ ((((91 ∷ []) ++ name) ++ (58 ∷ [] ++ T)) ++ 93 ∷ []) ++ 59 ∷ [] = simp append_assoc in
      subst (λ (x : List ℕ). IsCommandRead names es place x h.number Plain (renumbered numbers v ty) None) same
      (assume_read names es place Plain name T h (renumbered numbers v ty) (can_read ty t))
  entry_read name h None Implicit ty plain t b =
      let T = term_text levels scope 0 ty in
      let same : ((((91 ∷ []) ++ name) ++ 124 ∷ []) ++ T) ++ 93 ∷ 59 ∷ [] ≡ ((((91 ∷ []) ++ name) ++ (124 ∷ [] ++ T)) ++ 93 ∷ []) ++ 59 ∷ [] = simp append_assoc in
      subst (λ (x : List ℕ). IsCommandRead names es place x h.number Implicit (renumbered numbers v ty) None) same
      (assume_read names es place Implicit name T h (renumbered numbers v ty) (can_read ty t))
  entry_read name h (Some m) mark ty plain t b =
      let T = term_text levels scope 0 ty in
      let M = term_text levels scope 0 m in
      let same = seven (91 ∷ []) name (61 ∷ []) M (58 ∷ []) T (93 ∷ []) (59 ∷ []) in
      subst (λ (k : Mark). IsCommandRead names es place (((((91 ∷ []) ++ name) ++ (((61 ∷ [] ++ M) ++ 58 ∷ []) ++ T)) ++ 93 ∷ []) ++ 59 ∷ []) h.number k (renumbered numbers v ty) (Some (renumbered numbers v m))) (sym plain)
      (subst (λ (x : List ℕ). IsCommandRead names es place x h.number Plain (renumbered numbers v ty) (Some (renumbered numbers v m))) same
      (define_read names es place name M T h (renumbered numbers v m) (renumbered numbers v ty) (can_read m b) (can_read ty t)))
