-- What the machine goes over, the grammar reads.
use Rattle.std.proofs.Common.{◌≡◌, ◌⊎◌, ℕ, suc, List, [], ◌∷◌, ◌++◌, Bool, true, false, Some, None, slice_get, map, sym, ap, ◌∙◌, append_assoc}
use Rattle.lego_base.specs.declared.place.Place.{Place}
use Rattle.lego_term.specs.declared.binder.Mark.{Mark}
use Rattle.lego_term.specs.declared.binder.Mark.TheVariants.{Plain, Implicit}
use Rattle.lego_lexer.specs.Tokens.{Name, Number}
use Rattle.lego_lexer.specs.declared.token.Word.{Word}
use Rattle.lego_lexer.specs.declared.token.Symbol.TheVariants.{OpenSquare, CloseSquare, OpenParen, Colon, Comma, Equals, Dot, Hash, Question, Arrow, Bar}
use Rattle.lego_grammar.specs.declared.surface.Kind.{Kind}
use Rattle.lego_grammar.specs.declared.surface.Kind.TheVariants.{Lambda}
use Rattle.lego_grammar.specs.Written.{Written, AnyType, NameAt, WrittenBinding, WrittenAct, WrittenCommand}
use Rattle.lego_grammar.specs.Grammar.{Names, Nested, token, symbol, word, NameList, Term, Sum, Spine, Post, Reads, ReadsBindings, ReadsNames, ReadsAct, ReadsCommand, places_of, names_of, opening, closing, sign, MayBind}
use Rattle.lego_grammar.specs.private.Machine.{Site, InTerm, InContext, Use, ToShow, ToGoal, Frame, ApplyTo, HashFrom, ArrowFrom, BodyOf, BodyWith, Parens, SecondOf, TypeOf, DomainOf, ValueOf, StatedFor, Whole, Mode, Start, Want, WantLevel, CloseLevel, Behind, WantPart, WantGoal, WantName, BehindName, Between, BehindGoal, BehindGoalName, WantIntros, WantNext, WantUndo, WantForget, WantDischarge, BehindSave, WantEnd, Done, keep, number, height}
use Rattle.lego_grammar.proofs.Transitions.{TermWord, kind_of}
use Rattle.lego_grammar.proofs.Complete.{numbered, kept_binding, kept_act}

pub glue : (ws us : List Nested) (t : Nested) (ts : List Nested) → ws ++ (us ++ t ∷ ts) ≡ (ws ++ (us ++ t ∷ [])) ++ ts
glue ws us t ts = sym (append_assoc ws (us ++ t ∷ []) ts ∙ ap (λ l. ws ++ l) (append_assoc us (t ∷ []) ts))

pub push : {all : List Nested} (ws us : List Nested) (t : Nested) → all ≡ ws ++ us → all ++ t ∷ [] ≡ ws ++ (us ++ t ∷ [])
push {all} ws us t e = ap (λ l. l ++ t ∷ []) e ∙ append_assoc ws us (t ∷ [])

abbrev pub NoApply : List Frame → Type 0
NoApply (ApplyTo _ _ ∷ _) = ⊥
NoApply _ = Unit {0}

abbrev pub NoSum : List Frame → Type 0
NoSum (ApplyTo _ _ ∷ _) = ⊥
NoSum (HashFrom _ ∷ _) = ⊥
NoSum _ = Unit {0}

module _ (names : Names) (b : Bool) where
  -- the words in front of a whole term
  pub data Begins : Use → List Nested → Type 0 where
    show : Begins ToShow []
    goal : {p : Place} → Begins (ToGoal None) (word 0 p Word.Goal ∷ [])
    named : {p q r : Place} (n : ℕ) {text : List ℕ} → slice_get names n ≡ Some text
        → Begins (ToGoal (Some (number b n))) (word 0 p Word.Goal ∷ token 0 q (Name text) ∷ symbol 0 r Colon ∷ [])
    worded : {p : Place} {w : Word} {u : Use} → TermWord w u → Begins u (word 0 p w ∷ [])

  -- the bindings of a context command so far
  pub record SomeBindings (ts : List Nested) (bs : List WrittenBinding) : Type 0 where
    pub items : List WrittenBinding
    pub kept : bs ≡ map (kept_binding b) items
    pub reads : ReadsBindings names ts items ⊎ ((ts ≡ []) × (items ≡ []))

  -- These tokens are gone over where an operand is due above these frames.
  pub data Awaits : List Nested → List Frame → Type 0 where
    whole : {u : Use} {ws : List Nested} → Begins u ws → Awaits ws (Whole u ∷ [])
    apply : {ws ts : List Nested} {fs : List Frame} {f : Written}
        → Awaits ws fs → NoApply fs → Reads names (height fs) Spine ts f → Awaits (ws ++ ts) (ApplyTo Plain (keep b f) ∷ fs)
    apply_bar : {ws ts : List Nested} {fs : List Frame} {f : Written} (p : Place)
        → Awaits ws fs → NoApply fs → Reads names (height fs) Spine ts f → Awaits (ws ++ (ts ++ symbol (height fs) p Bar ∷ [])) (ApplyTo Implicit (keep b f) ∷ fs)
    hash : {ws ts : List Nested} {fs : List Frame} {a : Written} (p : Place)
        → Awaits ws fs → NoApply fs → Reads names (height fs) Spine ts a → Awaits (ws ++ (ts ++ symbol (height fs) p Hash ∷ [])) (HashFrom (keep b a) ∷ fs)
    arrow : {ws ts : List Nested} {fs : List Frame} {a : Written} (p : Place)
        → Awaits ws fs → NoSum fs → Reads names (height fs) Sum ts a → Awaits (ws ++ (ts ++ symbol (height fs) p Arrow ∷ [])) (ArrowFrom (keep b a) ∷ fs)
    body : {ws ns ts : List Nested} {fs : List Frame} {k : Kind} {m : Mark} {xs : List NameAt} {a : Written} (p q r : Place)
        → Awaits ws fs → MayBind k m → NameList names (suc (height fs)) ns xs → Reads names (suc (height fs)) Term ts a
        → Awaits (ws ++ ((symbol (height fs) p (opening k) ∷ ns ++ symbol (suc (height fs)) q (sign m) ∷ ts) ++ symbol (height fs) r (closing k) ∷ []))
        (BodyOf k m (numbered b (names_of xs)) (keep b a) ∷ fs)
    locally : {ws ts : List Nested} {fs : List Frame} (n : ℕ) {text : List ℕ} {m : Written} (p q r s : Place)
        → Awaits ws fs → slice_get names n ≡ Some text → Reads names (suc (height fs)) Term ts m
        → Awaits (ws ++ ((symbol (height fs) p OpenSquare ∷ token (suc (height fs)) q (Name text) ∷ symbol (suc (height fs)) r Equals ∷ ts) ++ symbol (height fs) s CloseSquare ∷ []))
        (BodyWith (number b n) (keep b m) ∷ fs)
    parens : {ws : List Nested} {fs : List Frame} (p : Place) → Awaits ws fs → Awaits (ws ++ symbol (height fs) p OpenParen ∷ []) (Parens ∷ fs)
    second : {ws ts : List Nested} {fs : List Frame} {m : Written} (p q : Place)
        → Awaits ws fs → Reads names (suc (height fs)) Term ts m
        → Awaits (ws ++ ((symbol (height fs) p OpenParen ∷ ts) ++ symbol (suc (height fs)) q Comma ∷ [])) (SecondOf (keep b m) ∷ fs)
    typed : {ws ts us : List Nested} {fs : List Frame} {m n : Written} (p q r : Place)
        → Awaits ws fs → Reads names (suc (height fs)) Term ts m → Reads names (suc (height fs)) Term us n
        → Awaits (ws ++ (((symbol (height fs) p OpenParen ∷ ts) ++ symbol (suc (height fs)) q Comma ∷ us) ++ symbol (suc (height fs)) r Colon ∷ []))
        (TypeOf (keep b m) (keep b n) ∷ fs)
    domain : {ws ns : List Nested} {fs : List Frame} {k : Kind} {m : Mark} {xs : List NameAt} (p q : Place)
        → Awaits ws fs → MayBind k m → NameList names (suc (height fs)) ns xs
        → Awaits (ws ++ ((symbol (height fs) p (opening k) ∷ ns) ++ symbol (suc (height fs)) q (sign m) ∷ []))
        (DomainOf (InTerm k) m (places_of xs) (numbered b (names_of xs)) ∷ fs)
    value : {ws : List Nested} {fs : List Frame} (n : ℕ) {text : List ℕ} (p q r : Place)
        → Awaits ws fs → slice_get names n ≡ Some text
        → Awaits (ws ++ (symbol (height fs) p OpenSquare ∷ token (suc (height fs)) q (Name text) ∷ symbol (suc (height fs)) r Equals ∷ []))
        (ValueOf (InTerm Lambda) q (number b n) ∷ fs)
    assumed : {ws ns : List Nested} {bs : List WrittenBinding} {m : Mark} {xs : List NameAt} (p q : Place)
        → SomeBindings ws bs → NameList names 1 ns xs
        → Awaits (ws ++ ((symbol 0 p OpenSquare ∷ ns) ++ symbol 1 q (sign m) ∷ [])) (DomainOf (InContext p bs) m (places_of xs) (numbered b (names_of xs)) ∷ [])
    defined : {ws : List Nested} {bs : List WrittenBinding} (n : ℕ) {text : List ℕ} (p q r : Place)
        → SomeBindings ws bs → slice_get names n ≡ Some text
        → Awaits (ws ++ (symbol 0 p OpenSquare ∷ token 1 q (Name text) ∷ symbol 1 r Equals ∷ [])) (ValueOf (InContext p bs) q (number b n) ∷ [])
    stated : {ws ts : List Nested} {bs : List WrittenBinding} (n : ℕ) {text : List ℕ} {m : Written} (p q r s : Place)
        → SomeBindings ws bs → slice_get names n ≡ Some text → Reads names 1 Term ts m
        → Awaits (ws ++ ((symbol 0 p OpenSquare ∷ token 1 q (Name text) ∷ symbol 1 r Equals ∷ ts) ++ symbol 1 s Colon ∷ [])) (StatedFor p bs q (number b n) (keep b m) ∷ [])

  -- the operand is `Type`, where a level may follow
  abbrev pub IsType : Bool → ℕ → List Nested → Written → Type 0
  IsType true d ts s = (p : Place) × (ts ≡ word d p Word.AnyType ∷ []) × (s ≡ AnyType p)
  IsType false d ts s = Unit {0}

  -- the tokens before the bracket of names, which stands at a place
  abbrev pub Opened : Site → List Frame → List Nested → Place → Type 0
  Opened (InTerm k) fs ws p = Awaits ws fs
  Opened (InContext q bs) [] ws p = SomeBindings ws bs × (p ≡ q)
  Opened (InContext q bs) (f ∷ fs) ws p = ⊥

  -- names that go on
  abbrev pub NamesTo : ℕ → List Nested → List Place → List ℕ → Type 0
  NamesTo d cs ps ns =
      ((cs ≡ []) × (ps ≡ []) × (ns ≡ []))
      ⊎ ((ts : List Nested) × (xs : List NameAt) × (q : Place) × NameList names d ts xs × (cs ≡ ts ++ symbol d q Comma ∷ []) × (ps ≡ places_of xs) × (ns ≡ numbered b (names_of xs)))

  -- a word with a token behind it, or alone
  abbrev pub Worded : Word → List Frame → List Nested → Type 0
  Worded w [] all = (p : Place) × (all ≡ word 0 p w ∷ [])
  Worded w (f ∷ fs) all = ⊥

  -- These tokens bring the machine to a mode over frames.
  abbrev pub Holds : Mode → List Frame → List Nested → Type 0
  Holds Start [] all = all ≡ []
  Holds Want fs all = Awaits all fs
  Holds (WantLevel v) fs all =
      (ws : List Nested) × (p : Place) × (q : Place) × (all ≡ ws ++ (word (height fs) p Word.AnyType ∷ symbol (height fs) q OpenParen ∷ [])) × Awaits ws fs × (v ≡ keep b (AnyType p))
  Holds (CloseLevel i) fs all =
      (ws : List Nested) × (p : Place) × (q : Place) × (r : Place)
      × (all ≡ ws ++ (word (height fs) p Word.AnyType ∷ symbol (height fs) q OpenParen ∷ token (suc (height fs)) r (Number i) ∷ [])) × Awaits ws fs
  Holds (Behind l v) fs all =
      (ws : List Nested) × (ts : List Nested) × (s : Written) × (all ≡ ws ++ ts) × Awaits ws fs × Reads names (height fs) Post ts s × (v ≡ keep b s) × IsType l (height fs) ts s
  Holds (WantPart v) fs all =
      (ws : List Nested) × (ts : List Nested) × (s : Written) × (p : Place) × (all ≡ ws ++ (ts ++ symbol (height fs) p Dot ∷ [])) × Awaits ws fs
      × Reads names (height fs) Post ts s × (v ≡ keep b s)
  Holds (WantGoal q) fs all = (ws : List Nested) × (all ≡ ws ++ symbol (height fs) q Question ∷ []) × Awaits ws fs
  Holds (WantName site ps ns) fs all =
      (ws : List Nested) × (p : Place) × (cs : List Nested) × Opened site fs ws p × NamesTo (suc (height fs)) cs ps ns × (all ≡ ws ++ (symbol (height fs) p (opening (kind_of site)) ∷ cs))
  Holds (BehindName site ps ns) fs all =
      (ws : List Nested) × (p : Place) × (ts : List Nested) × (xs : List NameAt) × Opened site fs ws p × NameList names (suc (height fs)) ts xs
      × (ps ≡ places_of xs) × (ns ≡ numbered b (names_of xs)) × (all ≡ ws ++ (symbol (height fs) p (opening (kind_of site)) ∷ ts))
  Holds (Between bs) [] all = SomeBindings all bs
  Holds BehindGoal fs all = Worded Word.Goal fs all
  Holds (BehindGoalName q i) [] all =
      (p : Place) × (n : ℕ) × (text : List ℕ) × (slice_get names n ≡ Some text) × (i ≡ number b n) × (all ≡ word 0 p Word.Goal ∷ token 0 q (Name text) ∷ [])
  Holds (WantIntros ps ns) [] all =
      (p : Place) × (ts : List Nested) × (xs : List NameAt) × ReadsNames names ts xs × (ps ≡ places_of xs) × (ns ≡ numbered b (names_of xs)) × (all ≡ word 0 p Word.Intros ∷ ts)
  Holds WantNext fs all = Worded Word.Next fs all
  Holds WantUndo fs all = Worded Word.Undo fs all
  Holds WantForget fs all = Worded Word.Forget fs all
  Holds WantDischarge fs all = Worded Word.Discharge fs all
  Holds BehindSave fs all = Worded Word.Save fs all
  Holds (WantEnd act) [] all =
      (t : Nested) × (ts : List Nested) × (written : WrittenAct) × (all ≡ t ∷ ts) × ReadsAct names (t ∷ ts) written × (act ≡ kept_act b written)
  Holds (Done act) fs all = (c : WrittenCommand) × ReadsCommand names all c × (act ≡ kept_act b c.act)
  Holds _ _ _ = ⊥
