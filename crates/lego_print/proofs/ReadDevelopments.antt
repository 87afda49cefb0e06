-- A printed development is read as its entries.
use Rattle.std.proofs.Common.{◌≡◌, ℕ, suc, ◌+◌, true, List, [], ◌∷◌, ◌++◌, length, map, All, Option, Some, None, option_map, refl, sym, ap, ◌∙◌, subst, append_assoc, arith}
use Rattle.std.specs.Prelude.{IfSome, slice_get, unwrap_or}
use Rattle.std.proofs.lemmas.List.Elements.{All-nil, All-cons}
use Rattle.lego_base.specs.declared.place.Place.{Place}
use Rattle.lego_base.specs.Place.{behind}
use Rattle.lego_term.specs.Levels.{Assignment}
use Rattle.lego_term.specs.Trees.{Core}
use Rattle.lego_term.specs.declared.binder.Mark.{Mark}
use Rattle.lego_term.specs.declared.binder.Mark.TheVariants.{Plain, Implicit}
use Rattle.std.proofs.lemmas.Option.{same_Some}
use Rattle.lego_laws.specs.Entries.{Entry}
use Rattle.lego_lexer.specs.Bytes.{Gap, BeginsToken}
use Rattle.lego_lexer.specs.Commands.{Begins, CommandText, Cuts, Whole}
use Rattle.lego_lexer.specs.Tokens.{OfWord, OfSymbol, Reads as Lexes, start}
use Rattle.lego_lexer.specs.declared.token.Word.TheVariants as Word
use Rattle.lego_lexer.specs.declared.token.Symbol.TheVariants.{Semicolon}
use Rattle.lego_grammar.specs.Grammar.{Names, LoneWord, ReadsAct, ReadsCommand, word, symbol}
use Rattle.lego_grammar.specs.Scopes.{entry_named}
use Rattle.lego_grammar.specs.Written.{WrittenAct, WrittenCommand}
use Rattle.lego_grammar.specs.Denotes.{IsWrittenAs, AreWrittenAs, Declaration, AreDeclarations, Declares, ReadsDeclarations, declared_entry, Content, MarkedTerm, entry_place}
use Rattle.lego_grammar.specs.Developments.{is_printable_declaration}
use Rattle.lego_print.specs.declared.shown.Shown.{Shown}
use Rattle.lego_print.specs.Names.{Scope, name_text}
use Rattle.lego_print.specs.Texts.{term_text, outer_scope}
use Rattle.lego_print.specs.Entries.{declared, entry_name}
use Rattle.lego_print.specs.ReadBack.{IsLeast, IsReadable, IsHeldText, marked}
use Rattle.lego_print.specs.Developments.{with_entry, entry_commands, universe_lines, occurs_in}
use Rattle.lego_print.specs.Denoted.{AreReadable, PrintedDevelopmentsReadBack}
use Rattle.lego_print.proofs.Renumbered.{renumber, renumbered, settled, moved}
use Rattle.lego_print.proofs.Calm.{Calm, calm_join, calm_name, calm_term, calm_unbroken}
use Rattle.lego_print.proofs.Copies.{IsCopy, AreCopies, one_more, same_length, copy_named, copy_unnamed, copy_stays, front_named, new_place}
use Rattle.lego_print.proofs.ReadCommands.{entry_body, entry_read}
use Rattle.lego_print.proofs.ReadTokens.{here, after, name_stands, name_text_is, symbol_stands, lex_token, stops_at, begins_there}
use Rattle.lego_print.proofs.UniverseLines.{listed_gap}

-- `Explicit`
abbrev explicit : List ℕ
explicit = 69 ∷ 120 ∷ 112 ∷ 108 ∷ 105 ∷ 99 ∷ 105 ∷ 116 ∷ []

explicit_read : (names : Names) (place : Place) → IsWrittenAs names (record { place = place; bytes = explicit ++ 59 ∷ [] }) (record { place = place; act = WrittenAct.Explicit })
explicit_read names place =
    let at = start place in
    let at1 = after at explicit in
    let first = here at explicit (OfWord Word.Explicit) in
    let last = here at1 (59 ∷ []) (OfSymbol Semicolon) in
    record {
      tokens = first ∷ last ∷ [];
      lexed = record {
        end = after at1 (59 ∷ []);
        gap = [];
        reads = lex_token explicit (59 ∷ []) (name_stands explicit (59 ∷ []) (OfWord Word.Explicit) (name_text_is explicit refl) (stops_at 59 [] refl) refl)
            (lex_token (59 ∷ []) [] (symbol_stands Semicolon [] tt) Lexes.none);
        blank = Gap.none;
      };
      parsed = record {
        nested = word 0 at.place Word.Explicit ∷ symbol 0 at1.place Semicolon ∷ [];
        same = refl;
        reads = ReadsCommand.command at1.place (ReadsAct.alone LoneWord.explicit);
      };
    }

-- the first command of a text, behind a gap
cut_one : (gap body rest bytes : List ℕ) {p : Place} {commands : List CommandText} → Gap gap → Calm body → BeginsToken (body ++ 59 ∷ rest)
    → gap ++ body ++ 59 ∷ rest ≡ bytes → Cuts (behind p (gap ++ body ++ 59 ∷ [])) rest commands Whole
    → Cuts p bytes (record { place = behind p gap; bytes = body ++ 59 ∷ [] } ∷ commands) Whole
cut_one gap body rest bytes {p} {commands} g calm begins same r =
    subst (λ (t : List ℕ). Cuts p t (record { place = behind p gap; bytes = body ++ 59 ∷ [] } ∷ commands) Whole) same
    (Cuts.command {gap = gap} {body = body} {rest = rest} (Begins.command {gap = gap} {body = body} {bytes = rest} g (calm_unbroken body calm) begins) r)

-- a fact of each body
if_some : {P Q : Core → Type 0} (o : Option Core) → ((m : Core) → P m → Q m) → IfSome o P → IfSome o Q
if_some None f h = tt
if_some (Some m) f h = f m h

length_push : {X : Type 0} (xs : List X) (x : X) → length (xs ++ x ∷ []) ≡ suc (length xs)
length_push [] x = refl
length_push (y ∷ xs) x = ap suc (length_push xs x)

joined : (g o n s e f others lines : List ℕ) → g ++ (((o ++ n) ++ s) ++ e) ++ (f ++ (others ++ lines)) ≡ g ++ (((((o ++ n) ++ s) ++ (e ++ f)) ++ others) ++ lines)
joined g o n s e f others lines = simp append_assoc

one_command : (name said others lines : List ℕ) → (10 ∷ []) ++ ((((91 ∷ []) ++ name) ++ said) ++ 93 ∷ []) ++ 59 ∷ 10 ∷ (others ++ lines)
    ≡ 10 ∷ ((((((91 ∷ []) ++ name) ++ said) ++ 93 ∷ 59 ∷ 10 ∷ []) ++ others) ++ lines)
one_command name said others lines = joined (10 ∷ []) (91 ∷ []) name said (93 ∷ []) (59 ∷ 10 ∷ []) others lines

no_text : (i : ℕ) (text : List ℕ) → slice_get {X = Option (List ℕ)} [] i ≡ Some (Some text) → ⊥
no_text i text e = absurd (cc)

module _ (levels : Shown) (v : Assignment) (names : Names) (least : IsLeast levels v) (all : List Entry) (lines : List ℕ) (blank : Gap lines) where
  abbrev numbers : ℕ → ℕ
  numbers k = entry_place all k

  -- the bytes are the commands of these entries, behind those that were read
  pub record AreCommands (read : List Entry) (place : Place) (bytes : List ℕ) (es : List Entry) : Type 0 where
    texts : List CommandText
    commands : List WrittenCommand
    declarations : List Declaration
    entries : List Entry
    cut : Cuts place bytes texts Whole
    written : AreWrittenAs names texts commands
    are : AreDeclarations commands declarations
    reads : ReadsDeclarations read declarations entries
    printable : All (λ d. is_printable_declaration d ≡ true) declarations
    copies : AreCopies numbers v (length read) es entries

  -- what stands behind a `;`
  abbrev rest_of : Scope → List Entry → List ℕ
  rest_of scope es = 10 ∷ (entry_commands levels scope es ++ lines)

  module _ (es : List Entry) (scope : Scope) (none : scope.locals ≡ []) where
    calm : (m : Core) → IsReadable names es numbers v scope m → Calm (term_text levels scope 0 m)
    calm m h =
        calm_term levels v names es numbers least m scope 0 h
        (λ i text e. absurd (no_text i text (ap (λ (ls : List (Option (List ℕ))). slice_get ls i) (sym none) ∙ e)))

    calm_declared : (body : Option Core) (mark : Mark) (ty : Core) → IsReadable names es numbers v scope ty → IfSome body (λ m. IsReadable names es numbers v scope m)
        → Calm (declared levels scope body mark ty)
    calm_declared None Plain ty t b = calm_join (58 ∷ []) (term_text levels scope 0 ty) refl (calm ty t)
    calm_declared None Implicit ty t b = calm_join (124 ∷ []) (term_text levels scope 0 ty) refl (calm ty t)
    calm_declared (Some m) mark ty t b =
        calm_join ((61 ∷ [] ++ term_text levels scope 0 m) ++ 58 ∷ []) (term_text levels scope 0 ty)
        (calm_join (61 ∷ [] ++ term_text levels scope 0 m) (58 ∷ []) (calm_join (61 ∷ []) (term_text levels scope 0 m) refl (calm m b)) refl) (calm ty t)

  pub commands_read : (es before read : List Entry) (scope : Scope) (place : Place) → all ≡ before ++ es → scope.locals ≡ [] → AreReadable names v scope before es
      → AreCopies numbers v 0 before read → AreCommands read place (rest_of scope es) es
  commands_read [] before read scope place is none readable copies = record {
    texts = [];
    commands = [];
    declarations = [];
    entries = [];
    cut = Cuts.whole (Begins.blank (Gap.blank refl blank));
    written = AreWrittenAs.none;
    are = AreDeclarations.none;
    reads = ReadsDeclarations.none;
    printable = All-nil (λ d. is_printable_declaration d ≡ true);
    copies = tt;
  }
  commands_read (e ∷ es) before read scope place is none readable copies =
      let r = readable.0 in
      let name = name_text scope.names r.name in
      let held : IsHeldText names name = record { number = r.name; held = r.held; is_name = r.is_name } in
      let found = copy_named numbers v 0 before read copies in
      let ty = moved names before v read numbers found e.ty scope r.ty in
      let body = if_some {P = λ m. IsReadable names before (λ k. k) v scope m} {Q = λ m. IsReadable names read numbers v scope m} e.body (λ m h. moved names before v read numbers found m scope h) r.body in
      let here_is = behind place (10 ∷ []) in
      let C = entry_read levels v names read numbers least here_is scope none name held e.body e.mark e.ty r.plain ty body in
      let d = C.declaration in
      let x = declared_entry (length read) d C.ty_core C.body_core in
      let counted : length read ≡ length before = same_length numbers v 0 before read copies in
      let at_place : numbers e.number ≡ length before = ap (λ (l : List Entry). entry_place l e.number) is ∙ new_place e es before r.new_number in
      let copy : IsCopy numbers v (length read) e x = record {
        place = at_place ∙ sym counted;
        number = refl;
        name = ap (λ (n : ℕ). Some n) C.name_same ∙ sym r.named;
        mark = C.mark_same;
        ty = C.ty_same;
        body = C.body_same;
      } in
      let more = one_more numbers v 0 before read e x copies (subst (λ (n : ℕ). IsCopy numbers v n e x) (let from : length read ≡ 0 + length before = omega (arith, counted) in from) copy) in
      let text = entry_body levels scope name e.body e.mark e.ty in
      let rest = commands_read es (before ++ e ∷ []) (read ++ x ∷ []) (with_entry scope e) (behind place ((10 ∷ []) ++ text ++ 59 ∷ [])) (is ∙ sym (append_assoc before (e ∷ []) es)) none readable.1 more in
      let said = declared levels scope e.body e.mark e.ty in
      let called : name ≡ entry_name scope e = sym (ap (λ (o : Option ℕ). unwrap_or (option_map (name_text scope.names) o) []) r.named) in
      let others = entry_commands levels (with_entry scope e) es in
      let same : (10 ∷ []) ++ text ++ 59 ∷ 10 ∷ (others ++ lines) ≡ rest_of scope (e ∷ es) =
      one_command name said others lines ∙ ap (λ (n : List ℕ). 10 ∷ ((((((91 ∷ []) ++ n) ++ said) ++ 93 ∷ 59 ∷ 10 ∷ []) ++ others) ++ lines)) called in
      let still : Calm text = calm_join (((91 ∷ []) ++ name) ++ said) (93 ∷ [])
      (calm_join ((91 ∷ []) ++ name) said (calm_join (91 ∷ []) name refl (calm_name name r.is_name)) (calm_declared read scope none e.body e.mark e.ty ty body)) refl in
      record {
        texts = record { place = here_is; bytes = text ++ 59 ∷ [] } ∷ rest.texts;
        commands = C.command ∷ rest.commands;
        declarations = d ∷ rest.declarations;
        entries = x ∷ rest.entries;
        cut = cut_one (10 ∷ []) text (rest_of (with_entry scope e) es) (rest_of scope (e ∷ es)) (Gap.blank refl Gap.none) still (begins_there 91 _ refl refl) same rest.cut;
        written = AreWrittenAs.more C.written rest.written;
        are = AreDeclarations.more C.declares rest.are;
        reads = ReadsDeclarations.more
            (ap (entry_named read) C.name_same ∙ copy_unnamed numbers v 0 before read copies r.name r.new_name) C.ty_read C.body_read rest.reads;
        printable = All-cons (λ d. is_printable_declaration d ≡ true) d rest.declarations C.printable rest.printable;
        copies = (copy, subst (λ (n : ℕ). AreCopies numbers v n es rest.entries) (length_push read x) rest.copies);
      }

  -- what is read says what was printed
  module _ (others : ℕ → ℕ) (stays : (n : ℕ) (e : Entry) → entry_named all n ≡ Some e → others (numbers e.number) ≡ numbers e.number) where
    abbrev content : (ℕ → ℕ) → Assignment → Entry → Content
    content f w e = record { name = e.name; mark = e.mark; ty = renumber f (marked w e.ty); body = option_map (λ m. renumber f (marked w m)) e.body }

    same_body : (r e : Option Core) → option_map (marked []) r ≡ option_map (renumbered numbers v) e → IfSome e (λ m. renumber others (renumbered numbers v m) ≡ renumbered numbers v m)
        → option_map (λ m. renumber others (marked [] m)) r ≡ option_map (renumbered numbers v) e
    same_body None None h s = refl
    same_body None (Some m) h s = absurd (cc)
    same_body (Some m) None h s = absurd (cc)
    same_body (Some m) (Some n) h s = ap (λ (t : MarkedTerm). Some t) (ap (renumber others) (same_Some (marked [] m) (renumbered numbers v n) h) ∙ s)

    pub same_contents : (es before rs : List Entry) (scope : Scope) (k : ℕ) → all ≡ before ++ es → AreReadable names v scope before es → AreCopies numbers v k es rs
        → map (content others []) rs ≡ map (content numbers v) es
    same_contents [] before [] scope k is readable copies = refl
    same_contents [] before (r ∷ rs) scope k is readable copies = absurd copies
    same_contents (e ∷ es) before [] scope k is readable copies = absurd copies
    same_contents (e ∷ es) before (r ∷ rs) scope k is readable copies =
        let h = readable.0 in
        let c = copies.0 in
        let stays_before = (λ (n : ℕ) (x : Entry) (found : entry_named before n ≡ Some x). stays n x (ap (λ (l : List Entry). entry_named l n) is ∙ front_named before (e ∷ es) n x found)) in
        let t = settled names before v numbers others stays_before in
        let ty = ap (renumber others) c.ty ∙ t e.ty scope h.ty in
        let body = same_body r.body e.body c.body
        (if_some {P = λ m. IsReadable names before (λ k. k) v scope m} {Q = λ m. renumber others (renumbered numbers v m) ≡ renumbered numbers v m} e.body (λ m p. t m scope p) h.body) in
        let name = c.name in
        let mark = c.mark in
        let rest = same_contents es (before ++ e ∷ []) rs (with_entry scope e) (suc k) (is ∙ sym (append_assoc before (e ∷ []) es)) readable.1 copies.1 in
        λ z. record { name = name z; mark = mark z; ty = ty z; body = body z } ∷ rest z

pub developments_read : PrintedDevelopmentsReadBack
developments_read v given names constant es us text place d readable small =
    let lines = universe_lines v d.listed in
    let blank = listed_gap v (occurs_in es) us d.listed small d.once in
    let scope = outer_scope given constant [] in
    let C = commands_read d.levels v names d.least es lines blank es [] [] scope (behind place (explicit ++ 59 ∷ [])) refl refl readable tt in
    let rest = 10 ∷ (entry_commands d.levels scope es ++ lines) in
    let cut = cut_one [] explicit rest text Gap.none refl (begins_there 69 _ refl refl) (sym d.is) C.cut in
    let first : WrittenCommand = record { place = place; act = WrittenAct.Explicit } in
    let declares : Declares names place text C.declarations = record {
      first = first;
      commands = C.commands;
      script = record { texts = record { place = place; bytes = explicit ++ 59 ∷ [] } ∷ C.texts; cut = cut; written = AreWrittenAs.more (explicit_read names place) C.written };
      is_explicit = refl;
      declarations = C.are;
    } in
    record {
      denotes = record {
        declarations = C.declarations;
        declares = declares;
        entries = C.entries;
        reads = C.reads;
        same = same_contents d.levels v names d.least es lines blank (entry_place C.entries) (copy_stays (entry_place es) v es C.entries C.copies) es [] C.entries scope 0 refl readable C.copies;
      };
      development = record { declarations = C.declarations; declares = declares; printable = C.printable };
    }
