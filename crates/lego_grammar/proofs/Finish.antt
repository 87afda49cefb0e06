-- From each state that the machine reaches it can go on to the end of some command.
use Rattle.std.proofs.Common.{◌≡◌, ℕ, suc, List, [], ◌∷◌, ◌++◌, Bool, false, Some, None, slice_get, refl}
use Rattle.lego_base.specs.declared.place.Place.{Place}
use Rattle.lego_term.specs.declared.binder.Mark.TheVariants.{Plain}
use Rattle.lego_lexer.specs.Tokens.{Name, Number}
use Rattle.lego_lexer.specs.declared.token.Word.TheVariants as Word
use Rattle.lego_lexer.specs.declared.token.Symbol.TheVariants.{OpenSquare, CloseSquare, CloseParen, Colon, Semicolon}
use Rattle.lego_grammar.specs.declared.surface.Kind.{Kind}
use Rattle.lego_grammar.specs.declared.surface.Kind.TheVariants.{Lambda, Pi, Sigma}
use Rattle.lego_grammar.specs.Written.{Written, WrittenProp, WrittenBinding, WrittenAct}
use Rattle.lego_grammar.specs.Grammar.{Names, Nested, token, symbol, word, closing, MayBind}
use Rattle.lego_grammar.specs.private.Machine.{Site, InContext, ToGoal, Frame, BodyOf, BodyWith, Parens, SecondOf, TypeOf, DomainOf, Whole, Mode, Start, Want, WantLevel, CloseLevel, Behind, WantPart, WantGoal, WantName, BehindName, Between, BehindGoal, BehindGoalName, WantIntros, WantNext, WantUndo, WantForget, WantDischarge, BehindSave, WantEnd, Done, keep, number, height, closed}
use Rattle.lego_grammar.proofs.Transitions.{Operand, Closes, Move, Fits, WaitingWord, Runs, run_one, kind_of}
use Rattle.lego_grammar.proofs.Sound.{Awaits, Holds}
use Rattle.lego_grammar.proofs.SoundSteps.{step}

-- a place for the tokens that end a command
abbrev here : Place
here = record { line = 1; column = 1 }

module _ (names : Names) (b : Bool) (i : ℕ) (text : List ℕ) (known : slice_get names i ≡ Some text) where
  -- the machine goes on to an end
  pub record Finish (m : Mode) (fs : List Frame) : Type 0 where
    pub tokens : List Nested
    pub act : WrittenAct
    pub frames : List Frame
    pub runs : Runs names b m fs tokens (Done act) frames

  one_token : {m m' : Mode} {fs gs : List Frame} {n : ℕ} (t : Nested) → Fits names b t.lexeme n → Move b m fs t n m' gs → Finish m' gs → Finish m fs
  one_token t f x r = record { tokens = t ∷ r.tokens; act = r.act; frames = r.frames; runs = Runs.go f x r.runs }

  -- a closing token behind an operand, and the rest
  record Way (v : Written) (fs : List Frame) : Type 0 where
    frame : Frame
    below : List Frame
    value : Written
    ends : closed b v fs ≡ (value, frame ∷ below)
    token : Nested
    mode : Mode
    frames : List Frame
    fits : Fits names b token.lexeme 0
    closes : Closes b frame value below token mode frames
    rest : Finish mode frames

  behind : {l : Bool} {v : Written} {fs : List Frame} → Way v fs → Finish (Behind l v) fs
  behind w = one_token {n = 0} w.token w.fits (Move.close w.ends w.closes) w.rest

  end_context : (bs : List WrittenBinding) (x : WrittenBinding) → Finish (Between (bs ++ x ∷ [])) []
  end_context [] x = record { tokens = symbol 0 here Semicolon ∷ []; act = _; frames = []; runs = run_one {n = 0} refl Move.context }
  end_context (y ∷ bs) x = record { tokens = symbol 0 here Semicolon ∷ []; act = _; frames = []; runs = run_one {n = 0} refl Move.context }

  close_symbol : (k : Kind) (d : ℕ) → Fits names b (symbol d here (closing k)).lexeme 0
  close_symbol k d = refl

  -- an operand, and what finishes behind it
  prop : {fs : List Frame} → Way WrittenProp fs → Finish Want fs
  prop {fs} w = one_token {n = 0} (word (height fs) here Word.Prop) refl (Move.want Operand.prop) (behind w)

  way : {ws : List Nested} {fs : List Frame} → Awaits names b ws fs → (v : Written) → Way v fs
  way (Awaits.whole g) v = record {
    frame = _;
    below = [];
    value = v;
    ends = refl;
    token = symbol 0 here Semicolon;
    mode = _;
    frames = [];
    fits = refl;
    closes = Closes.whole;
    rest = record { tokens = []; act = _; frames = []; runs = Runs.stay };
  }
  way (Awaits.apply a n r) v = let w = way a (keep b _) in record { frame = w.frame; below = w.below; value = w.value; ends = w.ends; token = w.token; mode = w.mode; frames = w.frames; fits = w.fits; closes = w.closes; rest = w.rest }
  way (Awaits.apply_bar p a n r) v = let w = way a (keep b _) in record { frame = w.frame; below = w.below; value = w.value; ends = w.ends; token = w.token; mode = w.mode; frames = w.frames; fits = w.fits; closes = w.closes; rest = w.rest }
  way (Awaits.hash p a n r) v = let w = way a (keep b _) in record { frame = w.frame; below = w.below; value = w.value; ends = w.ends; token = w.token; mode = w.mode; frames = w.frames; fits = w.fits; closes = w.closes; rest = w.rest }
  way (Awaits.arrow p a n r) v = let w = way a (keep b _) in record { frame = w.frame; below = w.below; value = w.value; ends = w.ends; token = w.token; mode = w.mode; frames = w.frames; fits = w.fits; closes = w.closes; rest = w.rest }
  way (Awaits.body p q r a mb nl ra) v = let w = way a (keep b _) in record { frame = w.frame; below = w.below; value = w.value; ends = w.ends; token = w.token; mode = w.mode; frames = w.frames; fits = w.fits; closes = w.closes; rest = w.rest }
  way (Awaits.locally n p q r s a e rm) v = let w = way a (keep b _) in record { frame = w.frame; below = w.below; value = w.value; ends = w.ends; token = w.token; mode = w.mode; frames = w.frames; fits = w.fits; closes = w.closes; rest = w.rest }
  way (Awaits.parens {fs = fs} p a) v = record {
    frame = Parens;
    below = fs;
    value = v;
    ends = refl;
    token = symbol (height fs) here CloseParen;
    mode = Behind false v;
    frames = fs;
    fits = refl;
    closes = Closes.parens;
    rest = behind (way a v);
  }
  way (Awaits.second {fs = fs} {m = m} p q a r) v = record {
    frame = SecondOf (keep b m);
    below = fs;
    value = v;
    ends = refl;
    token = symbol (suc (height fs)) here Colon;
    mode = Want;
    frames = TypeOf (keep b m) v ∷ fs;
    fits = refl;
    closes = Closes.colon;
    rest = prop (record {
      frame = TypeOf (keep b m) v;
      below = fs;
      value = WrittenProp;
      ends = refl;
      token = symbol (height fs) here CloseParen;
      mode = _;
      frames = fs;
      fits = refl;
      closes = Closes.pair;
      rest = behind (way a _);
    });
  }
  way (Awaits.typed {fs = fs} {m = m} {n = n} p q r a rm rn) v = record {
    frame = TypeOf (keep b m) (keep b n);
    below = fs;
    value = v;
    ends = refl;
    token = symbol (height fs) here CloseParen;
    mode = _;
    frames = fs;
    fits = refl;
    closes = Closes.pair;
    rest = behind (way a _);
  }
  way (Awaits.domain {fs = fs} {k = k} {m = m} p q a mb nl) v = record {
    frame = _;
    below = fs;
    value = v;
    ends = refl;
    token = symbol (height fs) here (closing k);
    mode = Want;
    frames = BodyOf k m _ v ∷ fs;
    fits = refl;
    closes = Closes.domain;
    rest = prop (let w = way a (keep b _) in record { frame = w.frame; below = w.below; value = w.value; ends = w.ends; token = w.token; mode = w.mode; frames = w.frames; fits = w.fits; closes = w.closes; rest = w.rest });
  }
  way (Awaits.value {fs = fs} n p q r a e) v = record {
    frame = _;
    below = fs;
    value = v;
    ends = refl;
    token = symbol (height fs) here CloseSquare;
    mode = Want;
    frames = BodyWith (number b n) v ∷ fs;
    fits = refl;
    closes = Closes.value;
    rest = prop (let w = way a (keep b _) in record { frame = w.frame; below = w.below; value = w.value; ends = w.ends; token = w.token; mode = w.mode; frames = w.frames; fits = w.fits; closes = w.closes; rest = w.rest });
  }
  way (Awaits.assumed {bs = bs} p q sb nl) v = record {
    frame = _;
    below = [];
    value = v;
    ends = refl;
    token = symbol 0 here CloseSquare;
    mode = _;
    frames = [];
    fits = refl;
    closes = Closes.assumption;
    rest = end_context bs _;
  }
  way (Awaits.defined {bs = bs} n p q r sb e) v = record {
    frame = _;
    below = [];
    value = v;
    ends = refl;
    token = symbol 0 here CloseSquare;
    mode = _;
    frames = [];
    fits = refl;
    closes = Closes.definition;
    rest = end_context bs _;
  }
  way (Awaits.stated {bs = bs} n p q r s sb e rm) v = record {
    frame = _;
    below = [];
    value = v;
    ends = refl;
    token = symbol 0 here CloseSquare;
    mode = _;
    frames = [];
    fits = refl;
    closes = Closes.stated;
    rest = end_context bs _;
  }

  want : {ws : List Nested} {fs : List Frame} → Awaits names b ws fs → Finish Want fs
  want a = prop (way a WrittenProp)

  may_be_plain : (k : Kind) → MayBind k Plain
  may_be_plain Lambda = tt
  may_be_plain Pi = tt
  may_be_plain Sigma = tt

  behind_name : (all : List Nested) (site : Site) {ps : List Place} {ns : List ℕ} {fs : List Frame} → Holds names b (BehindName site ps ns) fs all → Finish (BehindName site ps ns) fs
  behind_name all site {ps} {ns} {fs} h =
      let x : Move b (BehindName site ps ns) fs (symbol (suc (height fs)) here Colon) 0 Want (DomainOf site Plain ps ns ∷ fs) = Move.signed (may_be_plain (kind_of site)) in
      one_token {n = 0} (symbol (suc (height fs)) here Colon) refl x (want (step names b all h refl x))

  want_name : (all : List Nested) (site : Site) {ps : List Place} {ns : List ℕ} {fs : List Frame} → Holds names b (WantName site ps ns) fs all → Finish (WantName site ps ns) fs
  want_name all site {ps} {ns} {fs} h =
      let x : Move b (WantName site ps ns) fs (token (suc (height fs)) here (Name text)) (number b i) (BehindName site (ps ++ here ∷ []) (ns ++ number b i ∷ [])) fs = Move.bound_name in
      one_token {n = number b i} (token (suc (height fs)) here (Name text)) (i, known, refl) x (behind_name _ site (step names b all h (i, known, refl) x))

  end_act : (act : WrittenAct) → Finish (WantEnd act) []
  end_act act = record { tokens = symbol 0 here Semicolon ∷ []; act = act; frames = []; runs = run_one {n = 0} refl Move.end }

  pub finish : (all : List Nested) (m : Mode) (fs : List Frame) → Holds names b m fs all → Finish m fs
  finish all Start [] h = one_token {n = 0} (word 0 here Word.Explicit) refl (Move.waiting_word WaitingWord.explicit) (end_act WrittenAct.Explicit)
  finish all Want fs h = want h
  finish all (WantLevel v) fs h =
      one_token {n = 0} (token (suc (height fs)) here (Number 0)) refl Move.level_number
      (one_token {n = 0} (symbol (height fs) here CloseParen) refl Move.level_close (behind (way h.4 _)))
  finish all (CloseLevel j) fs h = one_token {n = 0} (symbol (height fs) here CloseParen) refl Move.level_close (behind (way h.5 _))
  finish all (Behind l v) fs h = behind (way h.4 v)
  finish all (WantPart v) fs h = one_token {n = 0} (token (height fs) here (Number 1)) refl Move.first (behind (way h.5 _))
  finish all (WantGoal q) fs h = one_token {n = 0} (token (height fs) here (Number 0)) refl Move.goal_number (behind (way h.2 _))
  finish all (WantName site ps ns) fs h = want_name all site h
  finish all (BehindName site ps ns) fs h = behind_name all site h
  finish all (Between []) [] h = one_token {n = 0} (symbol 0 here OpenSquare) refl Move.binding (want_name _ (InContext here []) (step names b all h refl opens))
    where
      opens : Move b (Between []) [] (symbol 0 here OpenSquare) 0 (WantName (InContext here []) [] []) []
      opens = Move.binding
  finish all (Between (x ∷ bs)) [] h = record { tokens = symbol 0 here Semicolon ∷ []; act = _; frames = []; runs = run_one {n = 0} refl Move.context }
  finish all BehindGoal [] h =
      let x : Move b BehindGoal [] (word 0 here Word.Prop) 0 (Behind false WrittenProp) (Whole (ToGoal None) ∷ []) = Move.goal_term (λ e. cc) Operand.prop in
      let y = step names b all h refl x in one_token {n = 0} (word 0 here Word.Prop) refl x (behind (way y.4 WrittenProp))
  finish all (BehindGoalName q j) [] h =
      let x : Move b (BehindGoalName q j) [] (symbol 0 here Colon) 0 Want (Whole (ToGoal (Some j)) ∷ []) = Move.goal_named in one_token {n = 0} (symbol 0 here Colon) refl x (want (step names b all h refl x))
  finish all (WantIntros ps []) [] h =
      one_token {n = number b i} (token 0 here (Name text)) (i, known, refl) Move.intros_name
      (record { tokens = symbol 0 here Semicolon ∷ []; act = _; frames = []; runs = run_one {n = 0} refl Move.intros_end })
  finish all (WantIntros ps (j ∷ ns)) [] h = record { tokens = symbol 0 here Semicolon ∷ []; act = _; frames = []; runs = run_one {n = 0} refl Move.intros_end }
  finish all WantNext [] h = one_token {n = 0} (token 0 here (Number 0)) refl Move.next (end_act _)
  finish all WantUndo [] h = one_token {n = 0} (token 0 here (Number 0)) refl Move.undo (end_act _)
  finish all WantForget [] h = one_token {n = number b i} (token 0 here (Name text)) (i, known, refl) Move.forget (end_act _)
  finish all WantDischarge [] h = one_token {n = number b i} (token 0 here (Name text)) (i, known, refl) Move.discharge (end_act _)
  finish all BehindSave [] h = record { tokens = symbol 0 here Semicolon ∷ []; act = _; frames = []; runs = run_one {n = 0} refl Move.save }
  finish all (WantEnd act) [] h = end_act act
  finish all (Done act) fs h = record { tokens = []; act = act; frames = fs; runs = Runs.stay }
  finish all _ _ h = absurd h
