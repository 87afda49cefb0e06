-- What a scan over tokens begins, reads, and ends with.
use Rattle.std.proofs.Common.{◌≡◌, ◌⊎◌, inl, inr, ℕ, zero, suc, ◌≤◌, List, [], ◌∷◌, ◌++◌, false, Option, Some, None, map, take, refl, sym, ap, ◌∙◌, subst, arith}
use Rattle.lego_grammar.specs.Written.{WrittenAct, WrittenCommand}
use Rattle.lego_grammar.specs.Grammar.{Names, Nested, Item, item, ReadsCommand, Parses, IsContext}
use Rattle.lego_grammar.specs.private.Machine.{Frame, Mode, Start, Between, Done, State, state, move}
use Rattle.lego_grammar.specs.private.Runs.{class, goes, start_of}
use Rattle.lego_parser.specs.private.Scanning.{Begin, mode_at}
use Rattle.lego_parser.specs.declared.scan.Start.{Start as Code}
use Rattle.lego_grammar.proofs.Transitions.{Move, Runs, runs_on}
use Rattle.lego_grammar.proofs.Complete.{kept_act, complete_command}
use Rattle.lego_grammar.proofs.Sound.{Holds}
use Rattle.lego_grammar.proofs.Finish.{finish}
use Rattle.lego_grammar.proofs.Beginnings.{goes_none, ran, texts, known_texts, some_text, holds, no_bindings, gone, map-both}
use Rattle.lego_parser.proofs.Sides.{run_in_bindings, run_elsewhere}

pub begin_at : (s : Code) → Begin (mode_at s)
begin_at Code.Context = Begin.context
begin_at Code.Other = Begin.other

pub holds_at : {m : Mode} → Begin m → (names : Names) → Holds names false m [] []
holds_at Begin.other names = refl
holds_at Begin.context names = no_bindings names false

-- which start a command has
pub kind : (d : WrittenAct) → (IsContext d × (start_of d ≡ Between [])) ⊎ ((IsContext d → ⊥) × (start_of d ≡ Start))
kind (WrittenAct.Bindings bs) = inl (tt, refl)
kind (WrittenAct.Goal n s) = inr (λ k. k, refl)
kind (WrittenAct.Intros ps ns) = inr (λ k. k, refl)
kind (WrittenAct.Refine s) = inr (λ k. k, refl)
kind (WrittenAct.Claim s) = inr (λ k. k, refl)
kind (WrittenAct.Equiv s) = inr (λ k. k, refl)
kind (WrittenAct.Hnf s) = inr (λ k. k, refl)
kind (WrittenAct.Normal s) = inr (λ k. k, refl)
kind (WrittenAct.Show s) = inr (λ k. k, refl)
kind (WrittenAct.Next n) = inr (λ k. k, refl)
kind (WrittenAct.Undo n) = inr (λ k. k, refl)
kind WrittenAct.Assumption = inr (λ k. k, refl)
kind WrittenAct.KillRef = inr (λ k. k, refl)
kind WrittenAct.Prf = inr (λ k. k, refl)
kind WrittenAct.Ctxt = inr (λ k. k, refl)
kind WrittenAct.Explicit = inr (λ k. k, refl)
kind WrittenAct.Implicit = inr (λ k. k, refl)
kind (WrittenAct.Save n) = inr (λ k. k, refl)
kind (WrittenAct.Forget x) = inr (λ k. k, refl)
kind (WrittenAct.Discharge x) = inr (λ k. k, refl)

kept_context : (d : WrittenAct) → IsContext d → IsContext (kept_act false d)
kept_context (WrittenAct.Bindings bs) h = tt
kept_context _ h = absurd h

context_kept : (d : WrittenAct) → IsContext (kept_act false d) → IsContext d
context_kept (WrittenAct.Bindings bs) h = tt
context_kept (WrittenAct.Goal n s) h = h
context_kept (WrittenAct.Intros ps ns) h = h
context_kept (WrittenAct.Refine s) h = h
context_kept (WrittenAct.Claim s) h = h
context_kept (WrittenAct.Equiv s) h = h
context_kept (WrittenAct.Hnf s) h = h
context_kept (WrittenAct.Normal s) h = h
context_kept (WrittenAct.Show s) h = h
context_kept (WrittenAct.Next n) h = h
context_kept (WrittenAct.Undo n) h = h
context_kept WrittenAct.Assumption h = h
context_kept WrittenAct.KillRef h = h
context_kept WrittenAct.Prf h = h
context_kept WrittenAct.Ctxt h = h
context_kept WrittenAct.Explicit h = h
context_kept WrittenAct.Implicit h = h
context_kept (WrittenAct.Save n) h = h
context_kept (WrittenAct.Forget x) h = h
context_kept (WrittenAct.Discharge x) h = h

-- what a run ends with has the run's start
pub ends_as : {names : Names} {m : Mode} {gs : List Frame} {ts : List Nested} {act : WrittenAct} (c : WrittenCommand) → Begin m → Runs names false m [] ts (Done act) gs → act ≡ kept_act false c.act
    → start_of c.act ≡ m
ends_as c Begin.other r e = pick (kind c.act)
  where
    pick : (IsContext c.act × (start_of c.act ≡ Between [])) ⊎ ((IsContext c.act → ⊥) × (start_of c.act ≡ Start)) → start_of c.act ≡ Start
    pick (inl h) = absurd (run_elsewhere false r tt (subst IsContext (sym e) (kept_context c.act h.0)))
    pick (inr h) = h.1
ends_as c Begin.context r e = pick (kind c.act)
  where
    pick : (IsContext c.act × (start_of c.act ≡ Between [])) ⊎ ((IsContext c.act → ⊥) × (start_of c.act ≡ Start)) → start_of c.act ≡ Between []
    pick (inl h) = h.1
    pick (inr h) = absurd (h.0 (context_kept c.act (subst IsContext e (run_in_bindings false r tt))))

-- a command that a scan over its first tokens goes on to
pub record Finished (is : List Item) (m : Mode) (st : State) : Type 0 where
  pub names : Names
  pub nested : List Nested
  pub rest : List Nested
  pub same : map item nested ≡ is
  pub command : WrittenCommand
  pub reads : ReadsCommand names (nested ++ rest) command
  pub start : start_of command.act ≡ m
  pub act : WrittenAct
  pub frames : List Frame
  pub first : Runs names false m [] nested st.mode st.frames
  pub behind : Runs names false st.mode st.frames rest (Done act) frames

pub finished : {m : Mode} {st : State} (is : List Item) → Begin m → goes is (Some (state m [])) ≡ Some st → Finished is m st
finished {m} {st} is begin e =
    let r = ran (texts is) is m [] (known_texts is) e in
    let k = some_text is in
    let w = finish (texts is) false k.0 k.1 k.2 r.nested st.mode st.frames (holds (texts is) false [] (holds_at begin (texts is)) r.runs) in
    let y = holds (texts is) false [] (holds_at begin (texts is)) (runs_on r.runs w.runs) in
    record {
      names = texts is;
      nested = r.nested;
      rest = w.tokens;
      same = r.same;
      command = y.0;
      reads = y.1;
      start = ends_as y.0 begin (runs_on r.runs w.runs) y.2;
      act = w.act;
      frames = w.frames;
      first = r.runs;
      behind = w.runs;
    }

-- the command that it is, as some command begins with its tokens
pub begun : {is : List Item} {m : Mode} {st : State} (f : Finished is m st) → Parses f.names (is ++ map item f.rest) f.command
begun {is} f = record { nested = f.nested ++ f.rest; same = map-both f.nested f.rest ∙ ap (λ l. l ++ map item f.rest) f.same; reads = f.reads }

-- a scan in two parts
pub goes_append : (is js : List Item) (o : Option State) → goes (is ++ js) o ≡ goes js (goes is o)
goes_append is js None = goes_none (is ++ js) ∙ sym (ap (λ o. goes js o) (goes_none is) ∙ goes_none js)
goes_append [] js (Some s) = refl
goes_append (i ∷ is) js (Some s) = goes_append is js (move false (class i.lexeme) i.place 0 s)

none_some : {X : Type 0} {x : X} → ◌≡◌ {A = Option X} None (Some x) → ⊥
none_some e = cc

-- a command is gone over from its start
pub over : {names : Names} {is : List Item} {c : WrittenCommand} → Parses names is c → goes is (Some (state (start_of c.act) [])) ≡ Some (state (Done (kept_act false c.act)) [])
over {names} {c = c} p = ap (λ l. goes l (Some (state (start_of c.act) []))) (sym p.same) ∙ gone names (complete_command names false p.reads)

-- no command begins so with tokens that its start does not go over
pub begins_not : {names : Names} (is more : List Item) (c : WrittenCommand) (m : Mode) → Parses names (is ++ more) c → start_of c.act ≡ m → goes is (Some (state m [])) ≡ None → ⊥
begins_not is more c m p s e =
    none_some (sym (goes_none more) ∙ (ap (λ o. goes more o) (sym e) ∙ (sym (goes_append is more (Some (state m []))) ∙ (ap (λ x. goes (is ++ more) (Some (state x []))) (sym s) ∙ over p))))

-- What stopped once, has stopped.
pub none_on : (tokens : List Item) (o : Option State) (j k : ℕ) → j ≤ k → goes (take j tokens) o ≡ None → goes (take k tokens) o ≡ None
none_on tokens None j k h e = goes_none (take k tokens)
none_on tokens (Some s) zero k h e = absurd (none_some (sym e))
none_on tokens (Some s) (suc j) zero h e = absurd (omega (arith, h))
none_on [] (Some s) (suc j) (suc k) h e = absurd (none_some (sym e))
none_on (i ∷ is) (Some s) (suc j) (suc k) h e = none_on is (move false (class i.lexeme) i.place 0 s) j k (omega (arith, h)) e

-- nothing moves a command that has ended
pub no_move : {m m' : Mode} {fs gs : List Frame} {t : Nested} {n : ℕ} (d : WrittenAct) → Move false m fs t n m' gs → m ≡ Done d → ⊥
no_move d (Move.want o) e = cc
no_move d (Move.level_operand o) e = cc
no_move d (Move.apply a o) e = cc
no_move d (Move.close c x) e = cc
no_move d (Move.show o) e = cc
no_move d (Move.goal_term a o) e = cc
no_move d (Move.goal_behind x) e = cc
no_move d _ e = cc
