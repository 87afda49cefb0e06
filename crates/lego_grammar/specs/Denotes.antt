-- What the text of a development is, and which entries it denotes.
use Rattle.std.specs.Prelude.{◌≡◌, ℕ, List, [], ◌∷◌, ◌++◌, map, length, nat_eq, Option, Some, None, option_map, unwrap_or, position}
use Rattle.lego_base.specs.declared.place.Place.{Place}
use Rattle.lego_term.specs.Levels.{Assignment, level_value}
use Rattle.lego_term.specs.Trees.{Tree, Core, Const, map_tree, replace_constants}
use Rattle.lego_term.specs.declared.binder.Mark.{Mark}
use Rattle.lego_term.specs.declared.binder.Mark.TheVariants.{Plain}
use Rattle.lego_laws.specs.Entries.{Entry}
use Rattle.lego_lexer.specs.Commands.{CommandText, Cuts, Whole}
use Rattle.lego_lexer.specs.Tokens.{Placed, Tokens}
use Rattle.lego_grammar.specs.Written.{Written, WrittenKind, Assumed, Defined, WrittenAct, WrittenCommand}
use Rattle.lego_grammar.specs.Grammar.{Names, Item, Parses}
use Rattle.lego_grammar.specs.Scopes.{entry_named, no_variables}
use Rattle.lego_grammar.specs.Reading.{ReadsExplicitly}

-- the tokens as the grammar sees them
abbrev pub grammar_tokens : List Placed → List Item
grammar_tokens tokens = map (λ t. record { lexeme = t.lexeme; place = t.place }) tokens

-- the bytes of a command are this command, without limits
pub record IsWrittenAs (names : Names) (text : CommandText) (c : WrittenCommand) : Type 0 where
  pub tokens : List Placed
  pub lexed : Tokens text.place text.bytes tokens
  pub parsed : Parses names (grammar_tokens tokens) c

pub data AreWrittenAs (names : Names) : List CommandText → List WrittenCommand → Type 0 where
  none : AreWrittenAs names [] []
  more : {text : CommandText} {c : WrittenCommand} {texts : List CommandText} {cs : List WrittenCommand}
      → IsWrittenAs names text c → AreWrittenAs names texts cs → AreWrittenAs names (text ∷ texts) (c ∷ cs)

-- the text, whose first byte stands at this place, is these commands, without limits
pub record IsScript (names : Names) (place : Place) (text : List ℕ) (commands : List WrittenCommand) : Type 0 where
  pub texts : List CommandText
  pub cut : Cuts place text texts Whole
  pub written : AreWrittenAs names texts commands

-- an assumption of one name, or a definition with a written type
pub record Declaration : Type 0 where
  pub name : ℕ
  pub mark : Mark
  pub ty : Written
  pub body : Option Written

abbrev pub declared : List ℕ → WrittenKind → Option Declaration
declared (n ∷ []) (Assumed mark ty) = Some (record { name = n; mark = mark; ty = ty; body = None })
declared (n ∷ []) (Defined body (Some ty)) = Some (record { name = n; mark = Plain; ty = ty; body = Some body })
declared _ _ = None

-- the declaration that a context command of one binding is, if it is one
abbrev pub declaration_of : WrittenAct → Option Declaration
declaration_of (WrittenAct.Bindings (b ∷ [])) = declared b.names b.kind
declaration_of _ = None

-- the commands are these declarations
pub data AreDeclarations : List WrittenCommand → List Declaration → Type 0 where
  none : AreDeclarations [] []
  more : {c : WrittenCommand} {d : Declaration} {cs : List WrittenCommand} {ds : List Declaration}
      → declaration_of c.act ≡ Some d → AreDeclarations cs ds → AreDeclarations (c ∷ cs) (d ∷ ds)

-- the text is `Explicit;` and then these declarations, a command for each
pub record Declares (names : Names) (place : Place) (text : List ℕ) (ds : List Declaration) : Type 0 where
  pub first : WrittenCommand
  pub commands : List WrittenCommand
  pub script : IsScript names place text (first ∷ commands)
  pub is_explicit : first.act ≡ WrittenAct.Explicit
  pub declarations : AreDeclarations commands ds

-- the entry of a declaration whose type and body are read as these cores
abbrev pub declared_entry : ℕ → Declaration → Core → Option Core → Entry
declared_entry number d ty body =
    record { number = number; name = Some d.name; mark = d.mark; ty = ty; body = body; hypotheses = 0; constraints = [] }

-- the body is read over the entries before it, where there is one
abbrev pub ReadsBody : List Entry → Option Written → Option Core → Type 0
ReadsBody before None None = Unit {0}
ReadsBody before (Some s) (Some m) = ReadsExplicitly before no_variables [] s m
ReadsBody before _ _ = ⊥

-- Behind the entries before them, the declarations are read, in explicit mode, as these entries. Each name is new, no `Type`
-- is without a level, and the number of an entry is its place in the list.
pub data ReadsDeclarations : List Entry → List Declaration → List Entry → Type 0 where
  none : {before : List Entry} → ReadsDeclarations before [] []
  more : {before : List Entry} {d : Declaration} {ty : Core} {body : Option Core} {ds : List Declaration} {es : List Entry}
      → entry_named before d.name ≡ None → ReadsExplicitly before no_variables [] d.ty ty → ReadsBody before d.body body
      → ReadsDeclarations (before ++ declared_entry (length before) d ty body ∷ []) ds es
      → ReadsDeclarations before (d ∷ ds) (declared_entry (length before) d ty body ∷ es)

-- A term with marks, and without names of binders.
abbrev pub MarkedTerm : Type 0
MarkedTerm = Tree Mark Mark ℕ

-- where the entry of a number stands in the list
abbrev pub entry_place : List Entry → ℕ → ℕ
entry_place es k = unwrap_or (position (λ e. nat_eq e.number k) es) (length es)

-- the term at v, in which each constant has the place of its entry for its number, without the names of binders
abbrev pub marked_at : Assignment → List Entry → Core → MarkedTerm
marked_at v es m = replace_constants (λ k. Some (Const (entry_place es k))) (map_tree (λ x. x.mark) (λ mark. mark) (level_value v) m)

-- what a text says of an entry
pub record Content : Type 0 where
  pub name : Option ℕ
  pub mark : Mark
  pub ty : MarkedTerm
  pub body : Option MarkedTerm

-- The content of the entries at v. Two lists of entries have one content exactly where they are equal but for the numbers of
-- entries and the names of binders: names, marks, types and bodies agree.
abbrev pub contents_at : Assignment → List Entry → List Content
contents_at v es =
    map (λ e. record { name = e.name; mark = e.mark; ty = marked_at v es e.ty; body = option_map (marked_at v es) e.body }) es

-- The text, whose first byte stands at this place, denotes the entries at v: without limits and in explicit mode it is
-- read as them, up to the numbers of entries and the names of binders.
pub record Denotes (names : Names) (place : Place) (text : List ℕ) (v : Assignment) (es : List Entry) : Type 0 where
  pub declarations : List Declaration
  pub declares : Declares names place text declarations
  pub entries : List Entry
  pub reads : ReadsDeclarations [] declarations entries
  pub same : contents_at [] entries ≡ contents_at v es
