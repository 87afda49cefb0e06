-- The machine by which the parser goes over tokens: what may come next, and a stack of what is awaited.
-- It is a tool of the parser's own; that it does what the grammar says is shown in proofs/.
use Rattle.std.specs.Prelude.{ℕ, suc, List, [], ◌∷◌, ◌++◌, Bool, true, false, if◌then◌else◌, Option, Some, None, nat_eq}
use Rattle.lego_base.specs.declared.place.Place.{Place}
use Rattle.lego_term.specs.declared.binder.Mark.{Mark}
use Rattle.lego_term.specs.declared.binder.Mark.TheVariants.{Plain, Implicit}
use Rattle.lego_lexer.specs.declared.token.TokenKind.{TokenKind}
use Rattle.lego_lexer.specs.declared.token.TokenKind.TheVariants.{Name, Number, Word as AWord, Symbol as ASymbol}
use Rattle.lego_lexer.specs.declared.token.Word.{Word}
use Rattle.lego_lexer.specs.declared.token.Symbol.TheVariants.{OpenSquare, CloseSquare, OpenBrace, CloseBrace, OpenAngle, CloseAngle, OpenParen, CloseParen, Colon, Semicolon, Comma, Equals, Dot, Hash, Question, Arrow, Bar}
use Rattle.lego_grammar.specs.declared.surface.Kind.{Kind}
use Rattle.lego_grammar.specs.declared.surface.Kind.TheVariants.{Lambda, Pi, Sigma}
use Rattle.lego_grammar.specs.declared.surface.Part.TheVariants.{First, Second}
use Rattle.lego_grammar.specs.Written.{Written, Named, WrittenProp, AnyType, TypeAt, GoalAt, Bind, Local, Apply, Pair, Project, Assumed, Defined, WrittenBinding, WrittenAct}

-- where names are bound: in a term, or in a context command, at a `[` behind other bindings
pub data Site : Type 0 where
  InTerm : Kind → Site
  InContext : Place → List WrittenBinding → Site

-- what a whole term of a command is for
pub data Use : Type 0 where
  ToShow ToRefine ToClaim ToEquiv ToHead ToNormal : Use
  ToGoal : Option ℕ → Use

abbrev pub act_for : Use → Written → WrittenAct
act_for ToShow = WrittenAct.Show
act_for ToRefine = WrittenAct.Refine
act_for ToClaim = WrittenAct.Claim
act_for ToEquiv = WrittenAct.Equiv
act_for ToHead = WrittenAct.Hnf
act_for ToNormal = WrittenAct.Normal
act_for (ToGoal name) = WrittenAct.Goal name

-- What is awaited. The first five wait for what stands to the right of what they hold, and end where it ends;
-- the others wait for a closing token.
pub data Frame : Type 0 where
  ApplyTo : Mark → Written → Frame
  HashFrom ArrowFrom : Written → Frame
  BodyOf : Kind → Mark → List ℕ → Written → Frame
  BodyWith : ℕ → Written → Frame
  Parens : Frame
  SecondOf : Written → Frame
  TypeOf : Written → Written → Frame
  DomainOf : Site → Mark → List Place → List ℕ → Frame
  ValueOf : Site → Place → ℕ → Frame
  StatedFor : Place → List WrittenBinding → Place → ℕ → Written → Frame
  Whole : Use → Frame

-- What may come next.
pub data Mode : Type 0 where
  Start Want : Mode
  WantLevel : Written → Mode
  CloseLevel : ℕ → Mode
  Behind : Bool → Written → Mode
  WantPart : Written → Mode
  WantGoal : Place → Mode
  WantName BehindName : Site → List Place → List ℕ → Mode
  Between : List WrittenBinding → Mode
  BehindGoal : Mode
  BehindGoalName : Place → ℕ → Mode
  WantIntros : List Place → List ℕ → Mode
  WantNext WantUndo WantForget WantDischarge BehindSave : Mode
  WantEnd Done : WrittenAct → Mode

pub record State : Type 0 where
  pub mode : Mode
  pub frames : List Frame

abbrev pub state : Mode → List Frame → State
state m fs = record { mode = m; frames = fs }

abbrev pub moves : Mode → List Frame → Option State
moves m fs = Some (state m fs)

-- Trees are built, or only the shape is followed: then each tree is `Prop`, and each name 0.
abbrev pub keep : Bool → Written → Written
keep build w = if build then w else WrittenProp

abbrev pub number : Bool → ℕ → ℕ
number build n = if build then n else 0

-- what stands behind it is one level deeper
abbrev pub nests : Frame → Bool
nests (ApplyTo _ _) = false
nests (Whole _) = false
nests _ = true

-- the level of the frames: how many of them nest
abbrev pub height : List Frame → ℕ
height [] = 0
height (f ∷ fs) = if nests f then suc (height fs) else height fs

-- the level at which the next token stands
abbrev pub level : State → ℕ
level st = within st.mode (height st.frames)
  where
    within : Mode → ℕ → ℕ
    within (WantLevel v) h = suc h
    within (WantName _ _ _) h = suc h
    within (BehindName _ _ _) h = suc h
    within _ h = h

-- a function that awaits its argument
abbrev pub applies : Frame → Bool
applies (ApplyTo _ _) = true
applies _ = false

-- what a spine behind it ends
abbrev pub sums : Frame → Bool
sums (ApplyTo _ _) = true
sums (HashFrom _) = true
sums _ = false

-- what a whole term behind it ends
abbrev pub pending : Frame → Bool
pending (ApplyTo _ _) = true
pending (HashFrom _) = true
pending (ArrowFrom _) = true
pending (BodyOf _ _ _ _) = true
pending (BodyWith _ _) = true
pending _ = false

-- the term that ends with this one
abbrev pub wrapped : Bool → Frame → Written → Written
wrapped build (ApplyTo m f) v = keep build (Apply m f v)
wrapped build (HashFrom a) v = keep build (Bind Sigma Plain [] a v)
wrapped build (ArrowFrom a) v = keep build (Bind Pi Plain [] a v)
wrapped build (BodyOf k m ns a) v = keep build (Bind k m ns a v)
wrapped build (BodyWith n a) v = keep build (Local n a v)
wrapped build _ v = v

-- an argument goes to its function
abbrev pub settled : Bool → Written → List Frame → Written × List Frame
settled build v [] = (v, [])
settled build v (f ∷ fs) = if applies f then (wrapped build f v, fs) else (v, f ∷ fs)

-- a spine ends the sums of which it is the last part
abbrev pub summed : Bool → Written → List Frame → Written × List Frame
summed build v [] = (v, [])
summed build v (f ∷ fs) = if sums f then summed build (wrapped build f v) fs else (v, f ∷ fs)

-- a term ends all that it is the last part of
abbrev pub closed : Bool → Written → List Frame → Written × List Frame
closed build v [] = (v, [])
closed build v (f ∷ fs) = if pending f then closed build (wrapped build f v) fs else (v, f ∷ fs)

-- an operand begins
abbrev pub operand : Bool → TokenKind → Place → ℕ → List Frame → Option State
operand build Name p n fs = moves (Behind false (keep build (Named p n))) fs
operand build (AWord Word.Prop) p n fs = moves (Behind false WrittenProp) fs
operand build (AWord Word.AnyType) p n fs = moves (Behind true (keep build (AnyType p))) fs
operand build (ASymbol Question) p n fs = moves (WantGoal p) fs
operand build (ASymbol OpenParen) p n fs = moves Want (Parens ∷ fs)
operand build (ASymbol OpenSquare) p n fs = moves (WantName (InTerm Lambda) [] []) fs
operand build (ASymbol OpenBrace) p n fs = moves (WantName (InTerm Pi) [] []) fs
operand build (ASymbol OpenAngle) p n fs = moves (WantName (InTerm Sigma) [] []) fs
operand build _ p n fs = None

-- a whole term ends at this token
abbrev pub closes : Bool → Frame → Written → List Frame → TokenKind → Option State
closes build Parens v fs (ASymbol CloseParen) = moves (Behind false v) fs
closes build Parens v fs (ASymbol Comma) = moves Want (SecondOf v ∷ fs)
closes build (SecondOf m) v fs (ASymbol Colon) = moves Want (TypeOf m v ∷ fs)
closes build (TypeOf m n) v fs (ASymbol CloseParen) = moves (Behind false (keep build (Pair m n v))) fs
closes build (DomainOf (InTerm Lambda) m ps ns) v fs (ASymbol CloseSquare) = moves Want (BodyOf Lambda m ns v ∷ fs)
closes build (DomainOf (InTerm Pi) m ps ns) v fs (ASymbol CloseBrace) = moves Want (BodyOf Pi m ns v ∷ fs)
closes build (DomainOf (InTerm Sigma) m ps ns) v fs (ASymbol CloseAngle) = moves Want (BodyOf Sigma m ns v ∷ fs)
closes build (DomainOf (InContext p bs) m ps ns) v fs (ASymbol CloseSquare) =
    moves (Between (bs ++ record { place = p; places = ps; names = ns; kind = Assumed m v } ∷ [])) fs
closes build (ValueOf (InTerm k) q n) v fs (ASymbol CloseSquare) = moves Want (BodyWith n v ∷ fs)
closes build (ValueOf (InContext p bs) q n) v fs (ASymbol CloseSquare) =
    moves (Between (bs ++ record { place = p; places = q ∷ []; names = n ∷ []; kind = Defined v None } ∷ [])) fs
closes build (ValueOf (InContext p bs) q n) v fs (ASymbol Colon) = moves Want (StatedFor p bs q n v ∷ fs)
closes build (StatedFor p bs q n m) v fs (ASymbol CloseSquare) =
    moves (Between (bs ++ record { place = p; places = q ∷ []; names = n ∷ []; kind = Defined m (Some v) } ∷ [])) fs
closes build (Whole u) v fs (ASymbol Semicolon) = moves (Done (act_for u v)) fs
closes build _ v fs _ = None

-- the frame on top, if there is one, closes
abbrev pub closes_top : Bool → Written × List Frame → TokenKind → Option State
closes_top build (v, f ∷ fs) k = closes build f v fs k
closes_top build (v, []) k = None

-- behind an operand, where `(` may open a level behind `Type`
abbrev pub behind : Bool → TokenKind → Place → ℕ → Bool → Written → List Frame → Option State
behind build (ASymbol Dot) p n l v fs = moves (WantPart v) fs
behind build (ASymbol Bar) p n l v fs = let s = settled build v fs in moves Want (ApplyTo Implicit s.0 ∷ s.1)
behind build (ASymbol Hash) p n l v fs = let s = settled build v fs in moves Want (HashFrom s.0 ∷ s.1)
behind build (ASymbol Arrow) p n l v fs = let s = summed build v fs in moves Want (ArrowFrom s.0 ∷ s.1)
behind build (ASymbol CloseSquare) p n l v fs = closes_top build (closed build v fs) (ASymbol CloseSquare)
behind build (ASymbol CloseBrace) p n l v fs = closes_top build (closed build v fs) (ASymbol CloseBrace)
behind build (ASymbol CloseAngle) p n l v fs = closes_top build (closed build v fs) (ASymbol CloseAngle)
behind build (ASymbol CloseParen) p n l v fs = closes_top build (closed build v fs) (ASymbol CloseParen)
behind build (ASymbol Comma) p n l v fs = closes_top build (closed build v fs) (ASymbol Comma)
behind build (ASymbol Colon) p n l v fs = closes_top build (closed build v fs) (ASymbol Colon)
behind build (ASymbol Semicolon) p n l v fs = closes_top build (closed build v fs) (ASymbol Semicolon)
behind build (ASymbol OpenParen) p n true v fs = moves (WantLevel v) fs
behind build k p n l v fs = let s = settled build v fs in operand build k p n (ApplyTo Plain s.0 ∷ s.1)

-- behind `Type (`
abbrev pub behind_paren : Bool → TokenKind → Place → ℕ → Written → List Frame → Option State
behind_paren build (Number i) p n v fs = moves (CloseLevel i) fs
behind_paren build k p n v fs = let s = settled build v fs in operand build k p n (Parens ∷ ApplyTo Plain s.0 ∷ s.1)

-- where a name may be given a value
abbrev pub defines : Site → Bool
defines (InTerm Pi) = false
defines (InTerm Sigma) = false
defines _ = true

-- where names may be implicit
abbrev pub hides : Site → Bool
hides (InTerm Sigma) = false
hides _ = true

-- one name is given a value
abbrev pub valued : Site → List Place → List ℕ → List Frame → Option State
valued site (q ∷ []) (n ∷ []) fs = moves Want (ValueOf site q n ∷ fs)
valued site _ _ fs = None

-- behind a name that is bound
abbrev pub behind_name : TokenKind → Site → List Place → List ℕ → List Frame → Option State
behind_name (ASymbol Comma) site ps ns fs = moves (WantName site ps ns) fs
behind_name (ASymbol Colon) site ps ns fs = moves Want (DomainOf site Plain ps ns ∷ fs)
behind_name (ASymbol Bar) site ps ns fs = if hides site then moves Want (DomainOf site Implicit ps ns ∷ fs) else None
behind_name (ASymbol Equals) site ps ns fs = if defines site then valued site ps ns fs else None
behind_name _ _ _ _ _ = None

-- behind `.`
abbrev pub part : Bool → TokenKind → Written → List Frame → Option State
part build (Number i) v fs =
    if nat_eq i 1 then moves (Behind false (keep build (Project First v))) fs
    else if nat_eq i 2 then moves (Behind false (keep build (Project Second v))) fs else None
part build _ v fs = None

-- a command begins
abbrev pub starts : Bool → TokenKind → Place → ℕ → List Frame → Option State
starts build (AWord Word.Goal) p n fs = moves BehindGoal fs
starts build (AWord Word.Intros) p n fs = moves (WantIntros [] []) fs
starts build (AWord Word.Refine) p n fs = moves Want (Whole ToRefine ∷ fs)
starts build (AWord Word.Claim) p n fs = moves Want (Whole ToClaim ∷ fs)
starts build (AWord Word.Equiv) p n fs = moves Want (Whole ToEquiv ∷ fs)
starts build (AWord Word.Hnf) p n fs = moves Want (Whole ToHead ∷ fs)
starts build (AWord Word.Normal) p n fs = moves Want (Whole ToNormal ∷ fs)
starts build (AWord Word.Next) p n fs = moves WantNext fs
starts build (AWord Word.Undo) p n fs = moves WantUndo fs
starts build (AWord Word.Forget) p n fs = moves WantForget fs
starts build (AWord Word.Discharge) p n fs = moves WantDischarge fs
starts build (AWord Word.Save) p n fs = moves BehindSave fs
starts build (AWord Word.Assumption) p n fs = moves (WantEnd WrittenAct.Assumption) fs
starts build (AWord Word.KillRef) p n fs = moves (WantEnd WrittenAct.KillRef) fs
starts build (AWord Word.Prf) p n fs = moves (WantEnd WrittenAct.Prf) fs
starts build (AWord Word.Ctxt) p n fs = moves (WantEnd WrittenAct.Ctxt) fs
starts build (AWord Word.Explicit) p n fs = moves (WantEnd WrittenAct.Explicit) fs
starts build (AWord Word.Implicit) p n fs = moves (WantEnd WrittenAct.Implicit) fs
starts build k p n fs = operand build k p n (Whole ToShow ∷ fs)

-- inside and behind an action
abbrev pub acts : Bool → TokenKind → Place → ℕ → Mode → List Frame → Option State
acts build Name p n BehindGoal fs = moves (BehindGoalName p n) fs
acts build k p n BehindGoal fs = operand build k p n (Whole (ToGoal None) ∷ fs)
acts build (ASymbol Colon) p n (BehindGoalName q i) fs = moves Want (Whole (ToGoal (Some i)) ∷ fs)
acts build k p n (BehindGoalName q i) fs = behind build k p n false (keep build (Named q i)) (Whole (ToGoal None) ∷ fs)
acts build Name p n (WantIntros ps ns) fs = moves (WantIntros (ps ++ p ∷ []) (ns ++ n ∷ [])) fs
acts build (ASymbol Semicolon) p n (WantIntros ps (i ∷ ns)) fs = moves (Done (WrittenAct.Intros ps (i ∷ ns))) fs
acts build (Number i) p n WantNext fs = moves (WantEnd (WrittenAct.Next i)) fs
acts build (Number i) p n WantUndo fs = moves (WantEnd (WrittenAct.Undo i)) fs
acts build Name p n WantForget fs = moves (WantEnd (WrittenAct.Forget (record { place = p; name = n }))) fs
acts build Name p n WantDischarge fs = moves (WantEnd (WrittenAct.Discharge (record { place = p; name = n }))) fs
acts build Name p n BehindSave fs = moves (WantEnd (WrittenAct.Save (Some n))) fs
acts build (ASymbol Semicolon) p n BehindSave fs = moves (Done (WrittenAct.Save None)) fs
acts build (ASymbol Semicolon) p n (WantEnd act) fs = moves (Done act) fs
acts build _ p n _ fs = None

-- between the bindings of a context command
abbrev pub between : TokenKind → Place → List WrittenBinding → List Frame → Option State
between (ASymbol OpenSquare) p bs fs = moves (WantName (InContext p bs) [] []) fs
between (ASymbol Semicolon) p (b ∷ bs) fs = moves (Done (WrittenAct.Bindings (b ∷ bs))) fs
between _ p bs fs = None

-- behind `Type ( n`
abbrev pub level_closes : Bool → TokenKind → ℕ → List Frame → Option State
level_closes build (ASymbol CloseParen) i fs = moves (Behind false (keep build (TypeAt i))) fs
level_closes build _ i fs = None

-- behind `?`
abbrev pub goal_numbered : Bool → TokenKind → Place → List Frame → Option State
goal_numbered build (Number i) q fs = moves (Behind false (keep build (GoalAt q i))) fs
goal_numbered build _ q fs = None

-- a name that is bound
abbrev pub names_one : TokenKind → Place → ℕ → Site → List Place → List ℕ → List Frame → Option State
names_one Name p n site ps ns fs = moves (BehindName site (ps ++ p ∷ []) (ns ++ n ∷ [])) fs
names_one _ p n site ps ns fs = None

-- one token: its kind, its place, and the number of the name that it is
abbrev pub move : Bool → TokenKind → Place → ℕ → State → Option State
move build k p n st = go st.mode st.frames
  where
    go : Mode → List Frame → Option State
    go Start fs = starts build k p n fs
    go Want fs = operand build k p n fs
    go (WantLevel v) fs = behind_paren build k p n v fs
    go (CloseLevel i) fs = level_closes build k i fs
    go (Behind l v) fs = behind build k p n l v fs
    go (WantPart v) fs = part build k v fs
    go (WantGoal q) fs = goal_numbered build k q fs
    go (WantName site ps ns) fs = names_one k p n site ps ns fs
    go (BehindName site ps ns) fs = behind_name k site ps ns fs
    go (Between bs) fs = between k p bs fs
    go m fs = acts build k p n m fs
