-- The moves of the machine, one by one, each with the nesting of its token.
use Rattle.std.proofs.Common.{◌≡◌, ℕ, suc, List, [], ◌∷◌, ◌++◌, Bool, true, false, Some, None, slice_get}
use Rattle.lego_base.specs.declared.place.Place.{Place}
use Rattle.lego_term.specs.declared.binder.Mark.{Mark}
use Rattle.lego_term.specs.declared.binder.Mark.TheVariants.{Plain, Implicit}
use Rattle.lego_lexer.specs.Tokens.{Lexeme, Name, Number, OfSymbol}
use Rattle.lego_lexer.specs.declared.token.TokenKind.TheVariants as Token
use Rattle.lego_lexer.specs.declared.token.Word.{Word}
use Rattle.lego_lexer.specs.declared.token.Symbol.TheVariants.{OpenSquare, CloseSquare, OpenParen, CloseParen, Colon, Semicolon, Comma, Equals, Dot, Hash, Question, Arrow, Bar}
use Rattle.lego_grammar.specs.declared.surface.Kind.{Kind}
use Rattle.lego_grammar.specs.declared.surface.Kind.TheVariants.{Lambda}
use Rattle.lego_grammar.specs.declared.surface.Part.TheVariants.{First, Second}
use Rattle.lego_grammar.specs.Written.{Written, Named, WrittenProp, AnyType, TypeAt, GoalAt, Pair, Project, WrittenKind, Assumed, Defined, WrittenBinding, WrittenAct}
use Rattle.lego_grammar.specs.Grammar.{Names, Nested, token, symbol, word, opening, closing, sign, MayBind}
use Rattle.lego_grammar.specs.private.Machine.{Site, InTerm, InContext, Use, ToShow, ToRefine, ToClaim, ToEquiv, ToHead, ToNormal, ToGoal, act_for, Frame, ApplyTo, HashFrom, ArrowFrom, BodyOf, BodyWith, Parens, SecondOf, TypeOf, DomainOf, ValueOf, StatedFor, Whole, Mode, Start, Want, WantLevel, CloseLevel, Behind, WantPart, WantGoal, WantName, BehindName, Between, BehindGoal, BehindGoalName, WantIntros, WantNext, WantUndo, WantForget, WantDischarge, BehindSave, WantEnd, Done, keep, number, height, settled, summed, closed}
use Rattle.lego_grammar.specs.private.Runs.{class}

-- the binder of a site
abbrev pub kind_of : Site → Kind
kind_of (InTerm k) = k
kind_of (InContext _ _) = Lambda

-- behind `Type` a parenthesis may open a level
abbrev pub Applies : Bool → Lexeme → Type 0
Applies true (OfSymbol OpenParen) = ⊥
Applies _ _ = Unit {0}

-- the binding that ends at a `]`
abbrev pub binding_at : Place → List Place → List ℕ → WrittenKind → WrittenBinding
binding_at p ps ns kind = record { place = p; places = ps; names = ns; kind = kind }

-- the words that stand in front of a term, with what it is for
pub data TermWord : Word → Use → Type 0 where
  refine : TermWord Word.Refine ToRefine
  claim : TermWord Word.Claim ToClaim
  equiv : TermWord Word.Equiv ToEquiv
  hnf : TermWord Word.Hnf ToHead
  normal : TermWord Word.Normal ToNormal

-- the words behind which one token stands, and those that stand alone
pub data WaitingWord : Word → Mode → Type 0 where
  goal : WaitingWord Word.Goal BehindGoal
  intros : WaitingWord Word.Intros (WantIntros [] [])
  next : WaitingWord Word.Next WantNext
  undo : WaitingWord Word.Undo WantUndo
  forget : WaitingWord Word.Forget WantForget
  discharge : WaitingWord Word.Discharge WantDischarge
  save : WaitingWord Word.Save BehindSave
  assumption : WaitingWord Word.Assumption (WantEnd WrittenAct.Assumption)
  kill : WaitingWord Word.KillRef (WantEnd WrittenAct.KillRef)
  prf : WaitingWord Word.Prf (WantEnd WrittenAct.Prf)
  ctxt : WaitingWord Word.Ctxt (WantEnd WrittenAct.Ctxt)
  explicit : WaitingWord Word.Explicit (WantEnd WrittenAct.Explicit)
  implicit : WaitingWord Word.Implicit (WantEnd WrittenAct.Implicit)

module _ (b : Bool) where
  -- an operand begins
  pub data Operand : List Frame → Nested → ℕ → Mode → List Frame → Type 0 where
    name : {fs : List Frame} {p : Place} {n : ℕ} {text : List ℕ}
        → Operand fs (token (height fs) p (Name text)) n (Behind false (keep b (Named p n))) fs
    prop : {fs : List Frame} {p : Place} {n : ℕ} → Operand fs (word (height fs) p Word.Prop) n (Behind false WrittenProp) fs
    any_type : {fs : List Frame} {p : Place} {n : ℕ} → Operand fs (word (height fs) p Word.AnyType) n (Behind true (keep b (AnyType p))) fs
    goal : {fs : List Frame} {p : Place} {n : ℕ} → Operand fs (symbol (height fs) p Question) n (WantGoal p) fs
    parens : {fs : List Frame} {p : Place} {n : ℕ} → Operand fs (symbol (height fs) p OpenParen) n Want (Parens ∷ fs)
    binder : {fs : List Frame} {p : Place} {n : ℕ} (k : Kind) → Operand fs (symbol (height fs) p (opening k)) n (WantName (InTerm k) [] []) fs

  -- a whole term ends, above this frame
  pub data Closes : Frame → Written → List Frame → Nested → Mode → List Frame → Type 0 where
    parens : {v : Written} {fs : List Frame} {p : Place} → Closes Parens v fs (symbol (height fs) p CloseParen) (Behind false v) fs
    comma : {v : Written} {fs : List Frame} {p : Place} → Closes Parens v fs (symbol (suc (height fs)) p Comma) Want (SecondOf v ∷ fs)
    colon : {m v : Written} {fs : List Frame} {p : Place} → Closes (SecondOf m) v fs (symbol (suc (height fs)) p Colon) Want (TypeOf m v ∷ fs)
    pair : {m n v : Written} {fs : List Frame} {p : Place}
        → Closes (TypeOf m n) v fs (symbol (height fs) p CloseParen) (Behind false (keep b (Pair m n v))) fs
    domain : {k : Kind} {m : Mark} {ps : List Place} {ns : List ℕ} {v : Written} {fs : List Frame} {p : Place}
        → Closes (DomainOf (InTerm k) m ps ns) v fs (symbol (height fs) p (closing k)) Want (BodyOf k m ns v ∷ fs)
    assumption : {q : Place} {bs : List WrittenBinding} {m : Mark} {ps : List Place} {ns : List ℕ} {v : Written} {fs : List Frame} {p : Place}
        → Closes (DomainOf (InContext q bs) m ps ns) v fs (symbol (height fs) p CloseSquare) (Between (bs ++ binding_at q ps ns (Assumed m v) ∷ [])) fs
    value : {k : Kind} {q : Place} {n : ℕ} {v : Written} {fs : List Frame} {p : Place}
        → Closes (ValueOf (InTerm k) q n) v fs (symbol (height fs) p CloseSquare) Want (BodyWith n v ∷ fs)
    definition : {r q : Place} {bs : List WrittenBinding} {n : ℕ} {v : Written} {fs : List Frame} {p : Place}
        → Closes (ValueOf (InContext r bs) q n) v fs (symbol (height fs) p CloseSquare) (Between (bs ++ binding_at r (q ∷ []) (n ∷ []) (Defined v None) ∷ [])) fs
    typed : {r q : Place} {bs : List WrittenBinding} {n : ℕ} {v : Written} {fs : List Frame} {p : Place}
        → Closes (ValueOf (InContext r bs) q n) v fs (symbol (suc (height fs)) p Colon) Want (StatedFor r bs q n v ∷ fs)
    stated : {r q : Place} {bs : List WrittenBinding} {n : ℕ} {m v : Written} {fs : List Frame} {p : Place}
        → Closes (StatedFor r bs q n m) v fs (symbol (height fs) p CloseSquare) (Between (bs ++ binding_at r (q ∷ []) (n ∷ []) (Defined m (Some v)) ∷ [])) fs
    whole : {u : Use} {v : Written} {fs : List Frame} {p : Place} → Closes (Whole u) v fs (symbol (height fs) p Semicolon) (Done (act_for u v)) fs

  -- a token behind a mode over frames, with the number of the name that it is
  pub data Move : Mode → List Frame → Nested → ℕ → Mode → List Frame → Type 0 where
    want : {fs gs : List Frame} {t : Nested} {n : ℕ} {m : Mode} → Operand fs t n m gs → Move Want fs t n m gs
    level_operand : {v : Written} {fs gs : List Frame} {t : Nested} {n : ℕ} {m : Mode}
        → Operand (Parens ∷ ApplyTo Plain (settled b v fs).0 ∷ (settled b v fs).1) t n m gs → Move (WantLevel v) fs t n m gs
    level_number : {v : Written} {fs : List Frame} {p : Place} {i n : ℕ} → Move (WantLevel v) fs (token (suc (height fs)) p (Number i)) n (CloseLevel i) fs
    level_close : {fs : List Frame} {p : Place} {i n : ℕ} → Move (CloseLevel i) fs (symbol (height fs) p CloseParen) n (Behind false (keep b (TypeAt i))) fs
    apply : {l : Bool} {v : Written} {fs gs : List Frame} {t : Nested} {n : ℕ} {m : Mode}
        → Applies l t.lexeme → Operand (ApplyTo Plain (settled b v fs).0 ∷ (settled b v fs).1) t n m gs → Move (Behind l v) fs t n m gs
    open_level : {v : Written} {fs : List Frame} {p : Place} {n : ℕ} → Move (Behind true v) fs (symbol (height fs) p OpenParen) n (WantLevel v) fs
    bar : {l : Bool} {v : Written} {fs : List Frame} {p : Place} {n : ℕ}
        → Move (Behind l v) fs (symbol (height fs) p Bar) n Want (ApplyTo Implicit (settled b v fs).0 ∷ (settled b v fs).1)
    dot : {l : Bool} {v : Written} {fs : List Frame} {p : Place} {n : ℕ} → Move (Behind l v) fs (symbol (height fs) p Dot) n (WantPart v) fs
    first : {v : Written} {fs : List Frame} {p : Place} {n : ℕ} → Move (WantPart v) fs (token (height fs) p (Number 1)) n (Behind false (keep b (Project First v))) fs
    second : {v : Written} {fs : List Frame} {p : Place} {n : ℕ} → Move (WantPart v) fs (token (height fs) p (Number 2)) n (Behind false (keep b (Project Second v))) fs
    hash : {l : Bool} {v : Written} {fs : List Frame} {p : Place} {n : ℕ}
        → Move (Behind l v) fs (symbol (height fs) p Hash) n Want (HashFrom (settled b v fs).0 ∷ (settled b v fs).1)
    arrow : {l : Bool} {v : Written} {fs : List Frame} {p : Place} {n : ℕ}
        → Move (Behind l v) fs (symbol (height (summed b v fs).1) p Arrow) n Want (ArrowFrom (summed b v fs).0 ∷ (summed b v fs).1)
    close : {l : Bool} {v w : Written} {f : Frame} {fs gs hs : List Frame} {t : Nested} {n : ℕ} {m : Mode}
        → closed b v fs ≡ (w, f ∷ gs) → Closes f w gs t m hs → Move (Behind l v) fs t n m hs
    goal_number : {q p : Place} {fs : List Frame} {i n : ℕ} → Move (WantGoal q) fs (token (height fs) p (Number i)) n (Behind false (keep b (GoalAt q i))) fs
    bound_name : {site : Site} {ps : List Place} {ns : List ℕ} {fs : List Frame} {p : Place} {n : ℕ} {text : List ℕ}
        → Move (WantName site ps ns) fs (token (suc (height fs)) p (Name text)) n (BehindName site (ps ++ p ∷ []) (ns ++ n ∷ [])) fs
    comma : {site : Site} {ps : List Place} {ns : List ℕ} {fs : List Frame} {p : Place} {n : ℕ}
        → Move (BehindName site ps ns) fs (symbol (suc (height fs)) p Comma) n (WantName site ps ns) fs
    signed : {site : Site} {mark : Mark} {ps : List Place} {ns : List ℕ} {fs : List Frame} {p : Place} {n : ℕ}
        → MayBind (kind_of site) mark
        → Move (BehindName site ps ns) fs (symbol (suc (height fs)) p (sign mark)) n Want (DomainOf site mark ps ns ∷ fs)
    equals : {site : Site} {q : Place} {i : ℕ} {fs : List Frame} {p : Place} {n : ℕ}
        → kind_of site ≡ Lambda
        → Move (BehindName site (q ∷ []) (i ∷ [])) fs (symbol (suc (height fs)) p Equals) n Want (ValueOf site q i ∷ fs)
    binding : {fs : List Frame} {bs : List WrittenBinding} {p : Place} {n : ℕ} → Move (Between bs) fs (symbol (height fs) p OpenSquare) n (WantName (InContext p bs) [] []) fs
    context : {fs : List Frame} {x : WrittenBinding} {bs : List WrittenBinding} {p : Place} {n : ℕ} → Move (Between (x ∷ bs)) fs (symbol (height fs) p Semicolon) n (Done (WrittenAct.Bindings (x ∷ bs))) fs
    show : {fs : List Frame} {t : Nested} {n : ℕ} {m : Mode} {gs : List Frame} → Operand (Whole ToShow ∷ fs) t n m gs → Move Start fs t n m gs
    term_word : {fs : List Frame} {p : Place} {w : Word} {u : Use} {n : ℕ} → TermWord w u → Move Start fs (word (height fs) p w) n Want (Whole u ∷ fs)
    waiting_word : {fs : List Frame} {p : Place} {w : Word} {m : Mode} {n : ℕ} → WaitingWord w m → Move Start fs (word (height fs) p w) n m fs
    goal_name : {fs : List Frame} {p : Place} {n : ℕ} {text : List ℕ} → Move BehindGoal fs (token (height fs) p (Name text)) n (BehindGoalName p n) fs
    goal_term : {fs : List Frame} {t : Nested} {n : ℕ} {m : Mode} {gs : List Frame}
        → (class t.lexeme ≡ Token.Name → ⊥) → Operand (Whole (ToGoal None) ∷ fs) t n m gs → Move BehindGoal fs t n m gs
    goal_named : {fs : List Frame} {q p : Place} {i n : ℕ} → Move (BehindGoalName q i) fs (symbol (height fs) p Colon) n Want (Whole (ToGoal (Some i)) ∷ fs)
    goal_behind : {fs : List Frame} {q : Place} {i n : ℕ} {t : Nested} {m : Mode} {gs : List Frame}
        → Move (Behind false (keep b (Named q i))) (Whole (ToGoal None) ∷ fs) t n m gs → Move (BehindGoalName q i) fs t n m gs
    intros_name : {fs : List Frame} {ps : List Place} {ns : List ℕ} {p : Place} {n : ℕ} {text : List ℕ}
        → Move (WantIntros ps ns) fs (token (height fs) p (Name text)) n (WantIntros (ps ++ p ∷ []) (ns ++ n ∷ [])) fs
    intros_end : {fs : List Frame} {ps : List Place} {i : ℕ} {ns : List ℕ} {p : Place} {n : ℕ}
        → Move (WantIntros ps (i ∷ ns)) fs (symbol (height fs) p Semicolon) n (Done (WrittenAct.Intros ps (i ∷ ns))) fs
    next : {fs : List Frame} {p : Place} {i n : ℕ} → Move WantNext fs (token (height fs) p (Number i)) n (WantEnd (WrittenAct.Next i)) fs
    undo : {fs : List Frame} {p : Place} {i n : ℕ} → Move WantUndo fs (token (height fs) p (Number i)) n (WantEnd (WrittenAct.Undo i)) fs
    forget : {fs : List Frame} {p : Place} {n : ℕ} {text : List ℕ} → Move WantForget fs (token (height fs) p (Name text)) n (WantEnd (WrittenAct.Forget (record { place = p; name = n }))) fs
    discharge : {fs : List Frame} {p : Place} {n : ℕ} {text : List ℕ} → Move WantDischarge fs (token (height fs) p (Name text)) n (WantEnd (WrittenAct.Discharge (record { place = p; name = n }))) fs
    save_name : {fs : List Frame} {p : Place} {n : ℕ} {text : List ℕ} → Move BehindSave fs (token (height fs) p (Name text)) n (WantEnd (WrittenAct.Save (Some n))) fs
    save : {fs : List Frame} {p : Place} {n : ℕ} → Move BehindSave fs (symbol (height fs) p Semicolon) n (Done (WrittenAct.Save None)) fs
    end : {fs : List Frame} {act : WrittenAct} {p : Place} {n : ℕ} → Move (WantEnd act) fs (symbol (height fs) p Semicolon) n (Done act) fs

-- the number that the machine is given with a token
abbrev pub Fits : Names → Bool → Lexeme → ℕ → Type 0
Fits names b (Name text) n = (i : ℕ) × (slice_get names i ≡ Some text) × (n ≡ number b i)
Fits names b _ n = n ≡ 0

-- the moves over tokens
pub data Runs (names : Names) (b : Bool) : Mode → List Frame → List Nested → Mode → List Frame → Type 0 where
  stay : {m : Mode} {fs : List Frame} → Runs names b m fs [] m fs
  go : {m m' m'' : Mode} {fs fs' fs'' : List Frame} {t : Nested} {ts : List Nested} {n : ℕ}
      → Fits names b t.lexeme n → Move b m fs t n m' fs' → Runs names b m' fs' ts m'' fs'' → Runs names b m fs (t ∷ ts) m'' fs''

pub runs_on : {names : Names} {b : Bool} {m m' m'' : Mode} {fs fs' fs'' : List Frame} {ts us : List Nested}
    → Runs names b m fs ts m' fs' → Runs names b m' fs' us m'' fs'' → Runs names b m fs (ts ++ us) m'' fs''
runs_on Runs.stay r = r
runs_on (Runs.go f x s) r = Runs.go f x (runs_on s r)

pub run_one : {names : Names} {b : Bool} {m m' : Mode} {fs fs' : List Frame} {t : Nested} {n : ℕ}
    → Fits names b t.lexeme n → Move b m fs t n m' fs' → Runs names b m fs (t ∷ []) m' fs'
run_one f x = Runs.go f x Runs.stay
