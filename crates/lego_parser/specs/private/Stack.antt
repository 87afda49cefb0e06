-- What the parser's stack stands for.
use Rattle.std.specs.Prelude.{◌≡◌, ℕ, List, [], ◌∷◌, Bool, true, false, Option, Some, None, MatchOption, Result, IfOk, ◌<◌, length}
use Rattle.lego_base.specs.declared.place.Place.{Place}
use Rattle.lego_lexer.specs.declared.token.TokenKind.{TokenKind}
use Rattle.lego_term.specs.declared.binder.Mark.{Mark}
use Rattle.lego_grammar.specs.declared.surface.Surface.{Surface}
use Rattle.lego_parser.specs.private.Trees.{built}
use Rattle.lego_grammar.specs.private.Machine.{State, state, acts}
use Rattle.lego_grammar.specs.Written.{Written}
use Rattle.lego_grammar.specs.private.Machine as M
use Rattle.lego_parser.specs.private.Frames.{frame_of, frames_of, mode_of}
use Rattle.lego_parser.specs.declared.modes.Frame.{Frame}
use Rattle.lego_parser.specs.declared.modes.Mode.{Mode}
use Rattle.lego_parser.specs.declared.stack.Stack.{Stack}
use Rattle.lego_parser.specs.declared.machine.Machine.{Machine}

abbrev pub awaited : Stack → List M.Frame
awaited s = frames_of s.frames.items

-- the number is that of `BUILDING`, 0 or 1
abbrev pub stack : {n : ℕ} → Machine n → List M.Frame
stack m = awaited m.stack

-- the mode and the stack behind a token are these, or none is possible
abbrev pub Gives : {n : ℕ} → Option State → Option Mode → Machine n → Type 0
Gives wanted mode after = MatchOption mode (wanted ≡ None) (λ m. wanted ≡ Some (state (mode_of m) (stack after)))

-- so, unless memory ran out
abbrev pub Moves : {n : ℕ} {E : Type 0} → Option State → Result (Option Mode) E → Machine n → Type 0
Moves wanted result after = IfOk result (λ mode. Gives wanted mode after)

-- unless memory ran out, the term that goes on and the stack are these
abbrev pub Leaves : {n : ℕ} {E : Type 0} → Written × List M.Frame → Result Surface E → Machine n → Type 0
Leaves wanted result after = IfOk result (λ term. wanted ≡ (built term, stack after))

-- a frame of this kind for a term, above the others
abbrev pub awaits : (Written → M.Frame) → Written × List M.Frame → List M.Frame
awaits frame s = frame s.0 ∷ s.1

-- an operand is due, which is an argument with this mark
abbrev pub applied_to : Bool → Mark → Written → List M.Frame → List M.Frame
applied_to building mark v fs = awaits (M.ApplyTo mark) (M.settled building v fs)

-- no frame of this kind is on top
abbrev pub Stops : (M.Frame → Bool) → List M.Frame → Type 0
Stops kind [] = Unit {0}
Stops kind (f ∷ fs) = kind f ≡ false

-- the frame on top is taken where it is of this kind; else none is
abbrev pub Takes : (M.Frame → Bool) → List M.Frame → Option Frame → List M.Frame → Type 0
Takes kind before taken after =
    MatchOption taken ((before ≡ after) × Stops kind after) (λ f. (before ≡ frame_of f ∷ after) × (kind (frame_of f) ≡ true))

-- A term ends a part of what it is the last part of: with the term that this makes, as much is left to end as before; or nothing
-- is left.
abbrev pub Ends : (Written → List M.Frame → Written × List M.Frame) → Bool → Written → List M.Frame → Written → List M.Frame → Type 0
Ends ends true v fs w gs = (ends v fs ≡ ends w gs) × (length gs < length fs)
Ends ends false v fs w gs = ends v fs ≡ (w, gs)

-- the mode behind a token inside or behind an action, whatever is awaited
abbrev pub Acts : TokenKind → Place → ℕ → M.Mode → Option Mode → Type 0
Acts kind place name mode next = (build : Bool) (n : ℕ) (m : Machine n) → Gives (acts build kind place name mode (stack m)) next m
