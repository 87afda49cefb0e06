-- The brackets that are open in a state are those of the tokens: so where a context command stands inside a binding, no `;` ends a command.
use Rattle.std.proofs.Common.{◌≡◌, ◌⊎◌, inl, inr, ℕ, suc, ◌+◌, ◌≤◌, List, [], ◌∷◌, ◌++◌, Bool, false, Some, None, map, take, refl, ap, ◌∙◌, arith}
use Rattle.lego_base.specs.declared.place.Place.{Place}
use Rattle.lego_term.specs.declared.binder.Mark.TheVariants.{Plain, Implicit}
use Rattle.lego_lexer.specs.Tokens.{Lexeme, OfSymbol}
use Rattle.lego_lexer.specs.declared.token.Word.{Word}
use Rattle.lego_lexer.specs.declared.token.Symbol.TheVariants.{OpenSquare, CloseSquare, OpenBrace, CloseBrace, OpenAngle, CloseAngle, OpenParen, CloseParen}
use Rattle.lego_grammar.specs.declared.surface.Kind.TheVariants.{Lambda, Pi, Sigma}
use Rattle.lego_grammar.specs.Written.{Written, WrittenAct, WrittenCommand}
use Rattle.lego_grammar.specs.Grammar.{Names, Nested, Item, item, Parses, IsContext}
use Rattle.lego_grammar.specs.Refusals.{EndsInBinding, Prevails}
use Rattle.lego_grammar.specs.private.Machine.{Frame, ApplyTo, HashFrom, ArrowFrom, BodyOf, BodyWith, Whole, Mode, Start, Want, Behind, WantPart, WantGoal, WantLevel, CloseLevel, WantName, BehindName, Between, Done, State, state, settled, summed, closed, wrapped}
use Rattle.lego_grammar.specs.private.Runs.{goes, start_of}
use Rattle.lego_parser.specs.private.Scanning.{Begin, Inside, Prevailing}
use Rattle.lego_grammar.proofs.Transitions.{Operand, Closes, Move, WaitingWord, Runs}
use Rattle.lego_grammar.proofs.Complete.{complete_command}
use Rattle.lego_grammar.proofs.Beginnings.{texts, unexpected_at}
use Rattle.lego_parser.proofs.Sides.{WrittenBinding, InBindings, run_in_bindings}
use Rattle.lego_parser.proofs.Scans.{holds_at, kind, finished, begun}
use Rattle.lego_parser.proofs.Prevailing.{end, begins_context}

abbrev up : Lexeme → ℕ
up (OfSymbol OpenSquare) = 1
up (OfSymbol OpenBrace) = 1
up (OfSymbol OpenAngle) = 1
up (OfSymbol OpenParen) = 1
up _ = 0

abbrev down : Lexeme → ℕ
down (OfSymbol CloseSquare) = 1
down (OfSymbol CloseBrace) = 1
down (OfSymbol CloseAngle) = 1
down (OfSymbol CloseParen) = 1
down _ = 0

abbrev ups : List Item → ℕ
ups [] = 0
ups (i ∷ is) = up i.lexeme + ups is

abbrev downs : List Item → ℕ
downs [] = 0
downs (i ∷ is) = down i.lexeme + downs is

-- the frames that stand for an open bracket
abbrev depth : List Frame → ℕ
depth [] = 0
depth (ApplyTo _ _ ∷ fs) = depth fs
depth (HashFrom _ ∷ fs) = depth fs
depth (ArrowFrom _ ∷ fs) = depth fs
depth (BodyOf _ _ _ _ ∷ fs) = depth fs
depth (BodyWith _ _ ∷ fs) = depth fs
depth (Whole _ ∷ fs) = depth fs
depth (f ∷ fs) = suc (depth fs)

-- the brackets that are open in a state
abbrev unclosed : Mode → List Frame → ℕ
unclosed (WantLevel _) fs = suc (depth fs)
unclosed (CloseLevel _) fs = suc (depth fs)
unclosed (WantName _ _ _) fs = suc (depth fs)
unclosed (BehindName _ _ _) fs = suc (depth fs)
unclosed _ fs = depth fs

module _ (b : Bool) where
  depth-settled : (v : Written) (fs : List Frame) → depth (settled b v fs).1 ≡ depth fs
  depth-settled v [] = refl
  depth-settled v (ApplyTo m f ∷ fs) = refl
  depth-settled v (f ∷ fs) = refl

  depth-summed : (v : Written) (fs : List Frame) → depth (summed b v fs).1 ≡ depth fs
  depth-summed v [] = refl
  depth-summed v (ApplyTo m f ∷ fs) = depth-summed (wrapped b (ApplyTo m f) v) fs
  depth-summed v (HashFrom a ∷ fs) = depth-summed (wrapped b (HashFrom a) v) fs
  depth-summed v (f ∷ fs) = refl

  depth-closed : (v : Written) (fs : List Frame) → depth (closed b v fs).1 ≡ depth fs
  depth-closed v [] = refl
  depth-closed v (ApplyTo m f ∷ fs) = depth-closed (wrapped b (ApplyTo m f) v) fs
  depth-closed v (HashFrom a ∷ fs) = depth-closed (wrapped b (HashFrom a) v) fs
  depth-closed v (ArrowFrom a ∷ fs) = depth-closed (wrapped b (ArrowFrom a) v) fs
  depth-closed v (BodyOf k m ns a ∷ fs) = depth-closed (wrapped b (BodyOf k m ns a) v) fs
  depth-closed v (BodyWith n a ∷ fs) = depth-closed (wrapped b (BodyWith n a) v) fs
  depth-closed v (f ∷ fs) = refl

  operand_opens : {fs gs : List Frame} {t : Nested} {n : ℕ} {m : Mode} → Operand b fs t n m gs → unclosed m gs + down t.lexeme ≡ depth fs + up t.lexeme
  operand_opens Operand.name = refl
  operand_opens Operand.prop = refl
  operand_opens Operand.any_type = refl
  operand_opens Operand.goal = refl
  operand_opens Operand.parens = omega arith
  operand_opens (Operand.binder Lambda) = omega arith
  operand_opens (Operand.binder Pi) = omega arith
  operand_opens (Operand.binder Sigma) = omega arith

  closes_opens : {f : Frame} {v : Written} {fs gs : List Frame} {t : Nested} {m : Mode} → Closes b f v fs t m gs → unclosed m gs + down t.lexeme ≡ depth (f ∷ fs) + up t.lexeme
  closes_opens Closes.parens = omega arith
  closes_opens Closes.comma = omega arith
  closes_opens Closes.colon = omega arith
  closes_opens Closes.pair = omega arith
  closes_opens (Closes.domain {k = Lambda}) = omega arith
  closes_opens (Closes.domain {k = Pi}) = omega arith
  closes_opens (Closes.domain {k = Sigma}) = omega arith
  closes_opens Closes.assumption = omega arith
  closes_opens Closes.value = omega arith
  closes_opens Closes.definition = omega arith
  closes_opens Closes.typed = omega arith
  closes_opens Closes.stated = omega arith
  closes_opens Closes.whole = omega arith

  waits : {w : Word} {m : Mode} (fs : List Frame) → WaitingWord w m → unclosed m fs ≡ depth fs
  waits fs WaitingWord.goal = refl
  waits fs WaitingWord.intros = refl
  waits fs WaitingWord.next = refl
  waits fs WaitingWord.undo = refl
  waits fs WaitingWord.forget = refl
  waits fs WaitingWord.discharge = refl
  waits fs WaitingWord.save = refl
  waits fs WaitingWord.assumption = refl
  waits fs WaitingWord.kill = refl
  waits fs WaitingWord.prf = refl
  waits fs WaitingWord.ctxt = refl
  waits fs WaitingWord.explicit = refl
  waits fs WaitingWord.implicit = refl

  opens : {m m' : Mode} {fs gs : List Frame} {t : Nested} {n : ℕ} → Move b m fs t n m' gs → unclosed m' gs + down t.lexeme ≡ unclosed m fs + up t.lexeme
  opens (Move.want o) = operand_opens o
  opens (Move.level_operand {v = v} {fs = fs} o) = let h = depth-settled v fs in let k = operand_opens o in omega (arith, h, k)
  opens (Move.apply {v = v} {fs = fs} a o) = let h = depth-settled v fs in let k = operand_opens o in omega (arith, h, k)
  opens (Move.bar {v = v} {fs = fs}) = let h = depth-settled v fs in omega (arith, h)
  opens (Move.hash {v = v} {fs = fs}) = let h = depth-settled v fs in omega (arith, h)
  opens (Move.arrow {v = v} {fs = fs}) = let h = depth-summed v fs in omega (arith, h)
  opens (Move.close {v = v} {fs = fs} e x) =
      let h = depth-closed v fs in let k = closes_opens x in let q = ap (λ (y : Written × List Frame). depth y.1) e in omega (arith, h, k, q)
  opens (Move.show o) = operand_opens o
  opens (Move.goal_term a o) = operand_opens o
  opens (Move.goal_behind x) = opens x
  opens (Move.waiting_word {fs = fs} w) = let h = waits fs w in omega (arith, h)
  opens (Move.signed {mark = Plain} a) = omega arith
  opens (Move.signed {mark = Implicit} a) = omega arith
  opens _ = omega arith

  balance : {names : Names} {m m' : Mode} {fs gs : List Frame} {ts : List Nested} → Runs names b m fs ts m' gs → unclosed m' gs + downs (map item ts) ≡ unclosed m fs + ups (map item ts)
  balance Runs.stay = refl
  balance (Runs.go f x r) = let h = opens x in let k = balance r in omega (arith, h, k)

bound_depth : (fs : List Frame) → WrittenBinding fs → 1 ≤ depth fs
bound_depth [] h = absurd h
bound_depth (Whole u ∷ fs) h = absurd h
bound_depth (ApplyTo m f ∷ fs) h = bound_depth fs h
bound_depth (HashFrom a ∷ fs) h = bound_depth fs h
bound_depth (ArrowFrom a ∷ fs) h = bound_depth fs h
bound_depth (BodyOf k m ns a ∷ fs) h = bound_depth fs h
bound_depth (BodyWith n a ∷ fs) h = bound_depth fs h
bound_depth (f ∷ fs) h = omega arith

inside_unclosed : (m : Mode) (fs : List Frame) → InBindings m fs → Inside m → 1 ≤ unclosed m fs
inside_unclosed (Between bs) fs h k = absurd k
inside_unclosed (Done d) fs h k = absurd k
inside_unclosed (WantName site ps ns) fs h k = omega arith
inside_unclosed (BehindName site ps ns) fs h k = omega arith
inside_unclosed (WantLevel v) fs h k = omega arith
inside_unclosed (CloseLevel i) fs h k = omega arith
inside_unclosed Want fs h k = bound_depth fs h
inside_unclosed (Behind l v) fs h k = bound_depth fs h
inside_unclosed (WantPart v) fs h k = bound_depth fs h
inside_unclosed (WantGoal q) fs h k = bound_depth fs h
inside_unclosed _ fs h k = absurd h

ups_end : (is : List Item) (p : Place) → ups (is ++ end p ∷ []) ≡ ups is
ups_end [] p = refl
ups_end (i ∷ is) p = ap (λ k. up i.lexeme + k) (ups_end is p)

downs_end : (is : List Item) (p : Place) → downs (is ++ end p ∷ []) ≡ downs is
downs_end [] p = refl
downs_end (i ∷ is) p = ap (λ k. down i.lexeme + k) (downs_end is p)

start_closed : (d : WrittenAct) → unclosed (start_of d) [] ≡ 0
start_closed d = pick (kind d)
  where
    pick : (IsContext d × (start_of d ≡ Between [])) ⊎ ((IsContext d → ⊥) × (start_of d ≡ Start)) → unclosed (start_of d) [] ≡ 0
    pick (inl h) = ap (λ m. unclosed m []) h.1
    pick (inr h) = ap (λ m. unclosed m []) h.1

-- where a bracket is open, no `;` ends a command
no_end : {names : Names} {st : State} (is : List Item) (m : Mode) → Begin m → goes is (Some (state m [])) ≡ Some st → 1 ≤ unclosed st.mode st.frames
    → (p : Place) (c : WrittenCommand) → Parses names (is ++ end p ∷ []) c → ⊥
no_end {names} {st} is m begin e h p c x =
    let f = finished is begin e in
    let first = balance false f.first in
    let whole = balance false (complete_command names false x.reads) in
    let zero_start = start_closed c.act in
    let zero_here = at_zero begin in
    let ups_f = ap ups f.same in
    let downs_f = ap downs f.same in
    let ups_x : ups (map item x.nested) ≡ ups is = ap ups x.same ∙ ups_end is p in
    let downs_x : downs (map item x.nested) ≡ downs is = ap downs x.same ∙ downs_end is p in
    omega (arith, first, whole, zero_start, zero_here, ups_f, downs_f, ups_x, downs_x, h)
  where
    at_zero : {x : Mode} → Begin x → unclosed x [] ≡ 0
    at_zero Begin.other = refl
    at_zero Begin.context = refl

-- IN A BINDING, by the mode alone. The code hands: both scans stopped at n, and the state of the scan of contexts is in a mode
-- other than `Between` and `Done`. So it need not look for a `;` in the other state.
pub context_bound : (tokens : List Item) (n : ℕ) {st : State} → goes (take n tokens) (Some (state (Between []) [])) ≡ Some st
    → goes (take (suc n) tokens) (Some (state (Between []) [])) ≡ None → goes (take (suc n) tokens) (Some (state Start [])) ≡ None
    → Inside st.mode → Prevailing tokens n (Between []) st
context_bound tokens n {st} e f h i = record {
  begin = Begin.context;
  there = e;
  unexpected = unexpected_at tokens n (Between []) (holds_at Begin.context (texts (take n tokens))) e h f;
  prevails = λ act s. Prevails.in_binding (begins_context act s) inside;
  only = λ names more c p v. pick c.act v (kind c.act);
}
  where
    inside : EndsInBinding (take n tokens)
    inside =
        let y = finished (take n tokens) Begin.context e in
        let one = inside_unclosed st.mode st.frames (run_in_bindings false y.first tt) i in
        record {
          names = y.names;
          more = map item y.rest;
          command = y.command;
          is_context = begins_context y.command.act y.start;
          begins = begun y;
          inside = λ ns p c x. no_end {names = ns} (take n tokens) (Between []) Begin.context e one p c x;
        }

    pick : (d : WrittenAct) → Prevails (take n tokens) d → (IsContext d × (start_of d ≡ Between [])) ⊎ ((IsContext d → ⊥) × (start_of d ≡ Start)) → start_of d ≡ Between []
    pick d v (inl k) = k.1
    pick d (Prevails.in_binding c x) (inr k) = absurd (k.0 c)
    pick d (Prevails.alone c x) (inr k) = absurd (k.0 c)
    pick d (Prevails.other c x) (inr k) = absurd (x inside)
