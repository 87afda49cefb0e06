-- Which kind of command the machine goes over, from each of its two starts.
use Rattle.std.proofs.Common.{ℕ, List, [], ◌∷◌, Bool, subst}
use Rattle.lego_lexer.specs.declared.token.Word.{Word}
use Rattle.lego_grammar.specs.Written.{Written}
use Rattle.lego_grammar.specs.Grammar.{Names, Nested, IsContext}
use Rattle.lego_grammar.specs.private.Machine.{InTerm, InContext, Use, ToShow, ToRefine, ToClaim, ToEquiv, ToHead, ToNormal, ToGoal, act_for, Frame, ApplyTo, HashFrom, ArrowFrom, BodyOf, BodyWith, DomainOf, ValueOf, StatedFor, Whole, Mode, Want, WantLevel, CloseLevel, Behind, WantPart, WantGoal, WantName, BehindName, Between, WantEnd, Done, settled, summed, closed, wrapped}
use Rattle.lego_grammar.proofs.Transitions.{Operand, Closes, Move, WaitingWord, Runs}

-- the frames of a context command: the lowest one awaits the end of a binding
abbrev pub WrittenBinding : List Frame → Type 0
WrittenBinding [] = ⊥
WrittenBinding (Whole _ ∷ fs) = ⊥
WrittenBinding (DomainOf (InContext _ _) _ _ _ ∷ fs) = Unit {0}
WrittenBinding (ValueOf (InContext _ _) _ _ ∷ fs) = Unit {0}
WrittenBinding (StatedFor _ _ _ _ _ ∷ fs) = Unit {0}
WrittenBinding (f ∷ fs) = WrittenBinding fs

-- the frames of another command: none awaits the end of a binding of a context
abbrev pub Free : List Frame → Type 0
Free [] = Unit {0}
Free (DomainOf (InContext _ _) _ _ _ ∷ fs) = ⊥
Free (ValueOf (InContext _ _) _ _ ∷ fs) = ⊥
Free (StatedFor _ _ _ _ _ ∷ fs) = ⊥
Free (f ∷ fs) = Free fs

-- the states of a context command
abbrev pub InBindings : Mode → List Frame → Type 0
InBindings Want fs = WrittenBinding fs
InBindings (WantLevel _) fs = WrittenBinding fs
InBindings (CloseLevel _) fs = WrittenBinding fs
InBindings (Behind _ _) fs = WrittenBinding fs
InBindings (WantPart _) fs = WrittenBinding fs
InBindings (WantGoal _) fs = WrittenBinding fs
InBindings (WantName (InTerm _) _ _) fs = WrittenBinding fs
InBindings (BehindName (InTerm _) _ _) fs = WrittenBinding fs
InBindings (WantName (InContext _ _) _ _) fs = Unit {0}
InBindings (BehindName (InContext _ _) _ _) fs = Unit {0}
InBindings (Between _) fs = Unit {0}
InBindings (Done act) fs = IsContext act
InBindings _ fs = ⊥

-- the states of another command
abbrev pub Elsewhere : Mode → List Frame → Type 0
Elsewhere (WantName (InContext _ _) _ _) fs = ⊥
Elsewhere (BehindName (InContext _ _) _ _) fs = ⊥
Elsewhere (Between _) fs = ⊥
Elsewhere (WantEnd act) fs = (IsContext act → ⊥) × Free fs
Elsewhere (Done act) fs = IsContext act → ⊥
Elsewhere _ fs = Free fs

module _ (b : Bool) where
  bound_settled : (v : Written) (fs : List Frame) → WrittenBinding fs → WrittenBinding (settled b v fs).1
  bound_settled v [] h = h
  bound_settled v (ApplyTo m f ∷ fs) h = h
  bound_settled v (f ∷ fs) h = h

  bound_summed : (v : Written) (fs : List Frame) → WrittenBinding fs → WrittenBinding (summed b v fs).1
  bound_summed v [] h = h
  bound_summed v (ApplyTo m f ∷ fs) h = bound_summed (wrapped b (ApplyTo m f) v) fs h
  bound_summed v (HashFrom a ∷ fs) h = bound_summed (wrapped b (HashFrom a) v) fs h
  bound_summed v (f ∷ fs) h = h

  bound_closed : (v : Written) (fs : List Frame) → WrittenBinding fs → WrittenBinding (closed b v fs).1
  bound_closed v [] h = h
  bound_closed v (ApplyTo m f ∷ fs) h = bound_closed (wrapped b (ApplyTo m f) v) fs h
  bound_closed v (HashFrom a ∷ fs) h = bound_closed (wrapped b (HashFrom a) v) fs h
  bound_closed v (ArrowFrom a ∷ fs) h = bound_closed (wrapped b (ArrowFrom a) v) fs h
  bound_closed v (BodyOf k m ns a ∷ fs) h = bound_closed (wrapped b (BodyOf k m ns a) v) fs h
  bound_closed v (BodyWith n a ∷ fs) h = bound_closed (wrapped b (BodyWith n a) v) fs h
  bound_closed v (f ∷ fs) h = h

  free_settled : (v : Written) (fs : List Frame) → Free fs → Free (settled b v fs).1
  free_settled v [] h = h
  free_settled v (ApplyTo m f ∷ fs) h = h
  free_settled v (f ∷ fs) h = h

  free_summed : (v : Written) (fs : List Frame) → Free fs → Free (summed b v fs).1
  free_summed v [] h = h
  free_summed v (ApplyTo m f ∷ fs) h = free_summed (wrapped b (ApplyTo m f) v) fs h
  free_summed v (HashFrom a ∷ fs) h = free_summed (wrapped b (HashFrom a) v) fs h
  free_summed v (f ∷ fs) h = h

  free_closed : (v : Written) (fs : List Frame) → Free fs → Free (closed b v fs).1
  free_closed v [] h = h
  free_closed v (ApplyTo m f ∷ fs) h = free_closed (wrapped b (ApplyTo m f) v) fs h
  free_closed v (HashFrom a ∷ fs) h = free_closed (wrapped b (HashFrom a) v) fs h
  free_closed v (ArrowFrom a ∷ fs) h = free_closed (wrapped b (ArrowFrom a) v) fs h
  free_closed v (BodyOf k m ns a ∷ fs) h = free_closed (wrapped b (BodyOf k m ns a) v) fs h
  free_closed v (BodyWith n a ∷ fs) h = free_closed (wrapped b (BodyWith n a) v) fs h
  free_closed v (f ∷ fs) h = h

  bound_operand : {fs gs : List Frame} {t : Nested} {n : ℕ} {m : Mode} → Operand b fs t n m gs → WrittenBinding fs → InBindings m gs
  bound_operand Operand.name h = h
  bound_operand Operand.prop h = h
  bound_operand Operand.any_type h = h
  bound_operand Operand.goal h = h
  bound_operand Operand.parens h = h
  bound_operand (Operand.binder k) h = h

  free_operand : {fs gs : List Frame} {t : Nested} {n : ℕ} {m : Mode} → Operand b fs t n m gs → Free fs → Elsewhere m gs
  free_operand Operand.name h = h
  free_operand Operand.prop h = h
  free_operand Operand.any_type h = h
  free_operand Operand.goal h = h
  free_operand Operand.parens h = h
  free_operand (Operand.binder k) h = h

  bound_closes : {f : Frame} {v : Written} {fs gs : List Frame} {t : Nested} {m : Mode} → Closes b f v fs t m gs → WrittenBinding (f ∷ fs) → InBindings m gs
  bound_closes Closes.parens h = h
  bound_closes Closes.comma h = h
  bound_closes Closes.colon h = h
  bound_closes Closes.pair h = h
  bound_closes Closes.domain h = h
  bound_closes Closes.assumption h = tt
  bound_closes Closes.value h = h
  bound_closes Closes.definition h = tt
  bound_closes Closes.typed h = tt
  bound_closes Closes.stated h = tt
  bound_closes Closes.whole h = absurd h

  no_context : (u : Use) (v : Written) → IsContext (act_for u v) → ⊥
  no_context ToShow v h = h
  no_context ToRefine v h = h
  no_context ToClaim v h = h
  no_context ToEquiv v h = h
  no_context ToHead v h = h
  no_context ToNormal v h = h
  no_context (ToGoal n) v h = h

  free_closes : {f : Frame} {v : Written} {fs gs : List Frame} {t : Nested} {m : Mode} → Closes b f v fs t m gs → Free (f ∷ fs) → Elsewhere m gs
  free_closes Closes.parens h = h
  free_closes Closes.comma h = h
  free_closes Closes.colon h = h
  free_closes Closes.pair h = h
  free_closes Closes.domain h = h
  free_closes Closes.assumption h = absurd h
  free_closes Closes.value h = h
  free_closes Closes.definition h = absurd h
  free_closes Closes.typed h = absurd h
  free_closes Closes.stated h = absurd h
  free_closes (Closes.whole {u = u} {v = v}) h = no_context u v

  in_bindings : {m m' : Mode} {fs gs : List Frame} {t : Nested} {n : ℕ} → Move b m fs t n m' gs → InBindings m fs → InBindings m' gs
  in_bindings (Move.want o) h = bound_operand o h
  in_bindings (Move.level_operand {v = v} {fs = fs} o) h = bound_operand o (bound_settled v fs h)
  in_bindings (Move.apply {v = v} {fs = fs} a o) h = bound_operand o (bound_settled v fs h)
  in_bindings (Move.bar {v = v} {fs = fs}) h = bound_settled v fs h
  in_bindings (Move.hash {v = v} {fs = fs}) h = bound_settled v fs h
  in_bindings (Move.arrow {v = v} {fs = fs}) h = bound_summed v fs h
  in_bindings (Move.close {v = v} {fs = fs} e x) h = bound_closes x (subst (λ (y : Written × List Frame). WrittenBinding y.1) e (bound_closed v fs h))
  in_bindings (Move.comma {site = InTerm k}) h = h
  in_bindings (Move.comma {site = InContext p bs}) h = tt
  in_bindings (Move.bound_name {site = InTerm k}) h = h
  in_bindings (Move.bound_name {site = InContext p bs}) h = tt
  in_bindings (Move.signed {site = InTerm k} a) h = h
  in_bindings (Move.signed {site = InContext p bs} a) h = tt
  in_bindings (Move.equals {site = InTerm k} a) h = h
  in_bindings (Move.equals {site = InContext p bs} a) h = tt
  in_bindings Move.level_number h = h
  in_bindings Move.level_close h = h
  in_bindings Move.open_level h = h
  in_bindings Move.dot h = h
  in_bindings Move.first h = h
  in_bindings Move.second h = h
  in_bindings Move.goal_number h = h
  in_bindings Move.binding h = tt
  in_bindings Move.context h = tt
  in_bindings _ h = absurd h

  waits : {w : Word} {m : Mode} (fs : List Frame) → WaitingWord w m → Free fs → Elsewhere m fs
  waits fs WaitingWord.goal h = h
  waits fs WaitingWord.intros h = h
  waits fs WaitingWord.next h = h
  waits fs WaitingWord.undo h = h
  waits fs WaitingWord.forget h = h
  waits fs WaitingWord.discharge h = h
  waits fs WaitingWord.save h = h
  waits fs WaitingWord.assumption h = (λ k. k, h)
  waits fs WaitingWord.kill h = (λ k. k, h)
  waits fs WaitingWord.prf h = (λ k. k, h)
  waits fs WaitingWord.ctxt h = (λ k. k, h)
  waits fs WaitingWord.explicit h = (λ k. k, h)
  waits fs WaitingWord.implicit h = (λ k. k, h)

  elsewhere : {m m' : Mode} {fs gs : List Frame} {t : Nested} {n : ℕ} → Move b m fs t n m' gs → Elsewhere m fs → Elsewhere m' gs
  elsewhere (Move.want o) h = free_operand o h
  elsewhere (Move.level_operand {v = v} {fs = fs} o) h = free_operand o (free_settled v fs h)
  elsewhere (Move.apply {v = v} {fs = fs} a o) h = free_operand o (free_settled v fs h)
  elsewhere (Move.bar {v = v} {fs = fs}) h = free_settled v fs h
  elsewhere (Move.hash {v = v} {fs = fs}) h = free_settled v fs h
  elsewhere (Move.arrow {v = v} {fs = fs}) h = free_summed v fs h
  elsewhere (Move.close {v = v} {fs = fs} e x) h = free_closes x (subst (λ (y : Written × List Frame). Free y.1) e (free_closed v fs h))
  elsewhere (Move.comma {site = InTerm k}) h = h
  elsewhere (Move.comma {site = InContext p bs}) h = absurd h
  elsewhere (Move.bound_name {site = InTerm k}) h = h
  elsewhere (Move.bound_name {site = InContext p bs}) h = absurd h
  elsewhere (Move.signed {site = InTerm k} a) h = h
  elsewhere (Move.signed {site = InContext p bs} a) h = absurd h
  elsewhere (Move.equals {site = InTerm k} a) h = h
  elsewhere (Move.equals {site = InContext p bs} a) h = absurd h
  elsewhere Move.binding h = absurd h
  elsewhere Move.context h = absurd h
  elsewhere (Move.show o) h = free_operand o h
  elsewhere (Move.goal_term a o) h = free_operand o h
  elsewhere (Move.goal_behind x) h = elsewhere x h
  elsewhere (Move.waiting_word {fs = fs} w) h = waits fs w h
  elsewhere Move.level_number h = h
  elsewhere Move.level_close h = h
  elsewhere Move.open_level h = h
  elsewhere Move.dot h = h
  elsewhere Move.first h = h
  elsewhere Move.second h = h
  elsewhere Move.goal_number h = h
  elsewhere (Move.term_word w) h = h
  elsewhere Move.goal_name h = h
  elsewhere Move.goal_named h = h
  elsewhere Move.intros_name h = h
  elsewhere Move.intros_end h = λ k. k
  elsewhere Move.next h = (λ k. k, h)
  elsewhere Move.undo h = (λ k. k, h)
  elsewhere Move.forget h = (λ k. k, h)
  elsewhere Move.discharge h = (λ k. k, h)
  elsewhere Move.save_name h = (λ k. k, h)
  elsewhere Move.save h = λ k. k
  elsewhere Move.end h = h.0

  pub run_in_bindings : {names : Names} {m m' : Mode} {fs gs : List Frame} {ts : List Nested} → Runs names b m fs ts m' gs → InBindings m fs → InBindings m' gs
  run_in_bindings Runs.stay h = h
  run_in_bindings (Runs.go f x r) h = run_in_bindings r (in_bindings x h)

  pub run_elsewhere : {names : Names} {m m' : Mode} {fs gs : List Frame} {ts : List Nested} → Runs names b m fs ts m' gs → Elsewhere m fs → Elsewhere m' gs
  run_elsewhere Runs.stay h = h
  run_elsewhere (Runs.go f x r) h = run_elsewhere r (elsewhere x h)
