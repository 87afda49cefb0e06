-- The grammar: which commands a list of tokens is read as, and how deep each token is nested.
use Rattle.std.specs.Prelude.{◌≡◌, ℕ, suc, List, [], ◌∷◌, ◌++◌, map, Some, None, slice_get}
use Rattle.lego_base.specs.declared.place.Place.{Place}
use Rattle.lego_term.specs.declared.binder.Mark.{Mark}
use Rattle.lego_term.specs.declared.binder.Mark.TheVariants.{Plain, Implicit}
use Rattle.lego_lexer.specs.Tokens.{Lexeme, Name, Number, OfWord, OfSymbol, lexeme_of}
use Rattle.lego_lexer.specs.declared.token.Token.{Token}
use Rattle.lego_lexer.specs.declared.token.Word.{Word}
use Rattle.lego_lexer.specs.declared.token.Symbol.{Symbol}
use Rattle.lego_lexer.specs.declared.token.Symbol.TheVariants.{OpenSquare, CloseSquare, OpenBrace, CloseBrace, OpenAngle, CloseAngle, OpenParen, CloseParen, Colon, Semicolon, Comma, Equals, Dot, Hash, Question, Arrow, Bar}
use Rattle.lego_grammar.specs.declared.surface.Kind.{Kind}
use Rattle.lego_grammar.specs.declared.surface.Kind.TheVariants.{Lambda, Pi, Sigma}
use Rattle.lego_grammar.specs.declared.surface.Part.TheVariants.{First, Second}
use Rattle.lego_grammar.specs.Written.{Written, Named, WrittenProp, AnyType, TypeAt, GoalAt, Bind, Local, Apply, Pair, Project, NameAt, Assumed, Defined, WrittenBinding, WrittenAct, WrittenCommand}

-- A numbering of names: the text of name n stands at n.
abbrev pub Names : Type 0
Names = List (List ℕ)

-- a token at its place, with the number of levels around it
pub record Nested : Type 0 where
  pub nesting : ℕ
  pub place : Place
  pub lexeme : Lexeme

abbrev pub token : ℕ → Place → Lexeme → Nested
token d p k = record { nesting = d; place = p; lexeme = k }

abbrev pub symbol : ℕ → Place → Symbol → Nested
symbol d p s = token d p (OfSymbol s)

abbrev pub word : ℕ → Place → Word → Nested
word d p w = token d p (OfWord w)

-- the brackets of each binder, and the sign before its domain
abbrev pub opening : Kind → Symbol
opening Lambda = OpenSquare
opening Pi = OpenBrace
opening Sigma = OpenAngle

abbrev pub closing : Kind → Symbol
closing Lambda = CloseSquare
closing Pi = CloseBrace
closing Sigma = CloseAngle

abbrev pub sign : Mark → Symbol
sign Plain = Colon
sign Implicit = Bar

-- a Sigma binder is always plain
abbrev pub MayBind : Kind → Mark → Type 0
MayBind Sigma Implicit = ⊥
MayBind _ _ = Unit {0}

abbrev pub places_of : List NameAt → List Place
places_of xs = map (λ x. x.place) xs

abbrev pub names_of : List NameAt → List ℕ
names_of xs = map (λ x. x.name) xs

-- names, with commas between
pub data NameList (names : Names) (d : ℕ) : List Nested → List NameAt → Type 0 where
  one : {p : Place} {n : ℕ} {text : List ℕ}
      → slice_get names n ≡ Some text → NameList names d (token d p (Name text) ∷ []) (record { place = p; name = n } ∷ [])
  more : {p q : Place} {n : ℕ} {text : List ℕ} {ts : List Nested} {ns : List NameAt}
      → slice_get names n ≡ Some text → NameList names d ts ns
      → NameList names d (token d p (Name text) ∷ symbol d q Comma ∷ ts) (record { place = p; name = n } ∷ ns)

-- the forms of a written term
pub data Form : Type 0 where
  Term Ending Sum Spine Post Atom Binder : Form

-- The tokens, which stand at nesting d, are read as this written term.
pub data Reads (names : Names) : ℕ → Form → List Nested → Written → Type 0 where
  term_ending : {d : ℕ} {ts : List Nested} {s : Written} → Reads names d Ending ts s → Reads names d Term ts s
  term_sum : {d : ℕ} {ts : List Nested} {s : Written} → Reads names d Sum ts s → Reads names d Term ts s
  arrow : {d : ℕ} (p : Place) {ts us : List Nested} {a b : Written}
      → Reads names d Sum ts a → Reads names (suc d) Term us b
      → Reads names d Term (ts ++ symbol d p Arrow ∷ us) (Bind Pi Plain [] a b)
  ending_binder : {d : ℕ} {ts : List Nested} {s : Written} → Reads names d Binder ts s → Reads names d Ending ts s
  apply_binder : {d : ℕ} {ts us : List Nested} {f a : Written}
      → Reads names d Spine ts f → Reads names d Binder us a → Reads names d Ending (ts ++ us) (Apply Plain f a)
  apply_bar_binder : {d : ℕ} (p : Place) {ts us : List Nested} {f a : Written}
      → Reads names d Spine ts f → Reads names d Binder us a → Reads names d Ending (ts ++ symbol d p Bar ∷ us) (Apply Implicit f a)
  hash_ending : {d : ℕ} (p : Place) {ts us : List Nested} {a b : Written}
      → Reads names d Spine ts a → Reads names (suc d) Ending us b
      → Reads names d Ending (ts ++ symbol d p Hash ∷ us) (Bind Sigma Plain [] a b)
  sum_spine : {d : ℕ} {ts : List Nested} {s : Written} → Reads names d Spine ts s → Reads names d Sum ts s
  hash_sum : {d : ℕ} (p : Place) {ts us : List Nested} {a b : Written}
      → Reads names d Spine ts a → Reads names (suc d) Sum us b
      → Reads names d Sum (ts ++ symbol d p Hash ∷ us) (Bind Sigma Plain [] a b)
  spine_post : {d : ℕ} {ts : List Nested} {s : Written} → Reads names d Post ts s → Reads names d Spine ts s
  apply : {d : ℕ} {ts us : List Nested} {f a : Written}
      → Reads names d Spine ts f → Reads names d Post us a → Reads names d Spine (ts ++ us) (Apply Plain f a)
  apply_bar : {d : ℕ} (p : Place) {ts us : List Nested} {f a : Written}
      → Reads names d Spine ts f → Reads names d Post us a → Reads names d Spine (ts ++ symbol d p Bar ∷ us) (Apply Implicit f a)
  post_atom : {d : ℕ} {ts : List Nested} {s : Written} → Reads names d Atom ts s → Reads names d Post ts s
  first : {d : ℕ} (p q : Place) {ts : List Nested} {m : Written}
      → Reads names d Post ts m → Reads names d Post (ts ++ symbol d p Dot ∷ token d q (Number 1) ∷ []) (Project First m)
  second : {d : ℕ} (p q : Place) {ts : List Nested} {m : Written}
      → Reads names d Post ts m → Reads names d Post (ts ++ symbol d p Dot ∷ token d q (Number 2) ∷ []) (Project Second m)
  name : {d : ℕ} (p : Place) {n : ℕ} {text : List ℕ}
      → slice_get names n ≡ Some text → Reads names d Atom (token d p (Name text) ∷ []) (Named p n)
  prop : {d : ℕ} (p : Place) → Reads names d Atom (word d p Word.Prop ∷ []) WrittenProp
  any_type : {d : ℕ} (p : Place) → Reads names d Atom (word d p Word.AnyType ∷ []) (AnyType p)
  type_at : {d n : ℕ} (p q r s : Place)
      → Reads names d Atom (word d p Word.AnyType ∷ symbol d q OpenParen ∷ token (suc d) r (Number n) ∷ symbol d s CloseParen ∷ []) (TypeAt n)
  goal : {d n : ℕ} (p q : Place) → Reads names d Atom (symbol d p Question ∷ token d q (Number n) ∷ []) (GoalAt p n)
  parens : {d : ℕ} (p q : Place) {ts : List Nested} {s : Written}
      → Reads names (suc d) Term ts s → Reads names d Atom (symbol d p OpenParen ∷ ts ++ symbol d q CloseParen ∷ []) s
  pair : {d : ℕ} (p q r s : Place) {ts us vs : List Nested} {m n a : Written}
      → Reads names (suc d) Term ts m → Reads names (suc d) Term us n → Reads names (suc d) Term vs a
      → Reads names d Atom
      (symbol d p OpenParen ∷ ts ++ symbol (suc d) q Comma ∷ us ++ symbol (suc d) r Colon ∷ vs ++ symbol d s CloseParen ∷ [])
      (Pair m n a)
  bind : {d : ℕ} (p q r : Place) {kind : Kind} {mark : Mark} {ns ts us : List Nested} {xs : List NameAt} {a m : Written}
      → MayBind kind mark → NameList names (suc d) ns xs → Reads names (suc d) Term ts a → Reads names (suc d) Term us m
      → Reads names d Binder
      (symbol d p (opening kind) ∷ ns ++ symbol (suc d) q (sign mark) ∷ ts ++ symbol d r (closing kind) ∷ us)
      (Bind kind mark (names_of xs) a m)
  local : {d n : ℕ} (p q r s : Place) {text : List ℕ} {ts us : List Nested} {m b : Written}
      → slice_get names n ≡ Some text → Reads names (suc d) Term ts m → Reads names (suc d) Term us b
      → Reads names d Binder
      (symbol d p OpenSquare ∷ token (suc d) q (Name text) ∷ symbol (suc d) r Equals ∷ ts ++ symbol d s CloseSquare ∷ us)
      (Local n m b)

-- one binding of a context command
pub data ReadsBinding (names : Names) : List Nested → WrittenBinding → Type 0 where
  assume : (p q r : Place) {mark : Mark} {ns ts : List Nested} {xs : List NameAt} {a : Written}
      → NameList names 1 ns xs → Reads names 1 Term ts a
      → ReadsBinding names
      (symbol 0 p OpenSquare ∷ ns ++ symbol 1 q (sign mark) ∷ ts ++ symbol 0 r CloseSquare ∷ [])
      (record { place = p; places = places_of xs; names = names_of xs; kind = Assumed mark a })
  define : (p q r s : Place) {n : ℕ} {text : List ℕ} {ts : List Nested} {m : Written}
      → slice_get names n ≡ Some text → Reads names 1 Term ts m
      → ReadsBinding names
      (symbol 0 p OpenSquare ∷ token 1 q (Name text) ∷ symbol 1 r Equals ∷ ts ++ symbol 0 s CloseSquare ∷ [])
      (record { place = p; places = q ∷ []; names = n ∷ []; kind = Defined m None })
  define_typed : (p q r s t : Place) {n : ℕ} {text : List ℕ} {ts us : List Nested} {m a : Written}
      → slice_get names n ≡ Some text → Reads names 1 Term ts m → Reads names 1 Term us a
      → ReadsBinding names
      (symbol 0 p OpenSquare ∷ token 1 q (Name text) ∷ symbol 1 r Equals ∷ ts ++ symbol 1 s Colon ∷ us ++ symbol 0 t CloseSquare ∷ [])
      (record { place = p; places = q ∷ []; names = n ∷ []; kind = Defined m (Some a) })

pub data ReadsBindings (names : Names) : List Nested → List WrittenBinding → Type 0 where
  one : {ts : List Nested} {b : WrittenBinding} → ReadsBinding names ts b → ReadsBindings names ts (b ∷ [])
  more : {ts us : List Nested} {b : WrittenBinding} {bs : List WrittenBinding}
      → ReadsBinding names ts b → ReadsBindings names us bs → ReadsBindings names (ts ++ us) (b ∷ bs)

-- names one after the other
pub data ReadsNames (names : Names) : List Nested → List NameAt → Type 0 where
  none : ReadsNames names [] []
  more : {p : Place} {n : ℕ} {text : List ℕ} {ts : List Nested} {ns : List NameAt}
      → slice_get names n ≡ Some text → ReadsNames names ts ns
      → ReadsNames names (token 0 p (Name text) ∷ ts) (record { place = p; name = n } ∷ ns)

-- the words with a term behind them, with a numeral, with a name, and alone
pub data TermWord : Word → (Written → WrittenAct) → Type 0 where
  refine : TermWord Word.Refine WrittenAct.Refine
  claim : TermWord Word.Claim WrittenAct.Claim
  equiv : TermWord Word.Equiv WrittenAct.Equiv
  hnf : TermWord Word.Hnf WrittenAct.Hnf
  normal : TermWord Word.Normal WrittenAct.Normal
  goal : TermWord Word.Goal (WrittenAct.Goal None)

pub data NumberWord : Word → (ℕ → WrittenAct) → Type 0 where
  next : NumberWord Word.Next WrittenAct.Next
  undo : NumberWord Word.Undo WrittenAct.Undo

pub data NameWord : Word → (NameAt → WrittenAct) → Type 0 where
  forget : NameWord Word.Forget WrittenAct.Forget
  discharge : NameWord Word.Discharge WrittenAct.Discharge
  save : NameWord Word.Save (λ x. WrittenAct.Save (Some x.name))

pub data LoneWord : Word → WrittenAct → Type 0 where
  assumption : LoneWord Word.Assumption WrittenAct.Assumption
  save : LoneWord Word.Save (WrittenAct.Save None)
  kill : LoneWord Word.KillRef WrittenAct.KillRef
  prf : LoneWord Word.Prf WrittenAct.Prf
  ctxt : LoneWord Word.Ctxt WrittenAct.Ctxt
  explicit : LoneWord Word.Explicit WrittenAct.Explicit
  implicit : LoneWord Word.Implicit WrittenAct.Implicit

-- a command without its `;`
pub data ReadsAct (names : Names) : List Nested → WrittenAct → Type 0 where
  bindings : {ts : List Nested} {bs : List WrittenBinding} → ReadsBindings names ts bs → ReadsAct names ts (WrittenAct.Bindings bs)
  show : {ts : List Nested} {s : Written} → Reads names 0 Term ts s → ReadsAct names ts (WrittenAct.Show s)
  with_term : {p : Place} {w : Word} {act : Written → WrittenAct} {ts : List Nested} {s : Written}
      → TermWord w act → Reads names 0 Term ts s → ReadsAct names (word 0 p w ∷ ts) (act s)
  named_goal : {p q r : Place} {n : ℕ} {text : List ℕ} {ts : List Nested} {s : Written}
      → slice_get names n ≡ Some text → Reads names 0 Term ts s
      → ReadsAct names (word 0 p Word.Goal ∷ token 0 q (Name text) ∷ symbol 0 r Colon ∷ ts) (WrittenAct.Goal (Some n) s)
  intros : {p : Place} {t : Nested} {ts : List Nested} {ns : List NameAt}
      → ReadsNames names (t ∷ ts) ns → ReadsAct names (word 0 p Word.Intros ∷ t ∷ ts) (WrittenAct.Intros (places_of ns) (names_of ns))
  with_number : {p q : Place} {w : Word} {act : ℕ → WrittenAct} {n : ℕ}
      → NumberWord w act → ReadsAct names (word 0 p w ∷ token 0 q (Number n) ∷ []) (act n)
  with_name : {p q : Place} {w : Word} {act : NameAt → WrittenAct} {n : ℕ} {text : List ℕ}
      → NameWord w act → slice_get names n ≡ Some text
      → ReadsAct names (word 0 p w ∷ token 0 q (Name text) ∷ []) (act (record { place = q; name = n }))
  alone : {p : Place} {w : Word} {act : WrittenAct} → LoneWord w act → ReadsAct names (word 0 p w ∷ []) act

-- a command, which begins at its first token
pub data ReadsCommand (names : Names) : List Nested → WrittenCommand → Type 0 where
  command : {t : Nested} {ts : List Nested} {act : WrittenAct} (p : Place)
      → ReadsAct names (t ∷ ts) act
      → ReadsCommand names (t ∷ ts ++ symbol 0 p Semicolon ∷ []) (record { place = t.place; act = act })

-- a token at its place
pub record Item : Type 0 where
  pub lexeme : Lexeme
  pub place : Place

-- the token of the code, in the bytes of its text
abbrev pub item_of : List ℕ → Token → Item
item_of bytes t = record { lexeme = lexeme_of bytes t.kind t.from t.to; place = t.place }

abbrev pub item : Nested → Item
item t = record { lexeme = t.lexeme; place = t.place }

-- the tokens are read as the command
pub record Parses (names : Names) (tokens : List Item) (c : WrittenCommand) : Type 0 where
  pub nested : List Nested
  pub same : map item nested ≡ tokens
  pub reads : ReadsCommand names nested c

-- a context command
abbrev pub IsContext : WrittenAct → Type 0
IsContext (WrittenAct.Bindings bs) = Unit {0}
IsContext _ = ⊥
