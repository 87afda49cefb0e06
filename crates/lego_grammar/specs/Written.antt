-- Written terms and commands, as plain trees: one argument and one projection at a time.
use Rattle.std.specs.Prelude.{ℕ, List, Option}
use Rattle.lego_base.specs.declared.place.Place.{Place}
use Rattle.lego_term.specs.declared.binder.Mark.{Mark}
use Rattle.lego_grammar.specs.declared.surface.Kind.{Kind}
use Rattle.lego_grammar.specs.declared.surface.Part.{Part}

-- A written term. A binder without names is an arrow or a `#`; one of several names repeats its domain.
pub data Written : Type 0 where
  Named : Place → ℕ → Written
  WrittenProp : Written
  AnyType : Place → Written
  TypeAt : ℕ → Written
  GoalAt : Place → ℕ → Written
  Bind : Kind → Mark → List ℕ → Written → Written → Written
  Local : ℕ → Written → Written → Written
  Apply : Mark → Written → Written → Written
  Pair : Written → Written → Written → Written
  Project : Part → Written → Written

-- a name at its place
pub record NameAt : Type 0 where
  pub place : Place
  pub name : ℕ

-- what a binding of a context command says of its names
pub data WrittenKind : Type 0 where
  Assumed : Mark → Written → WrittenKind
  Defined : Written → Option Written → WrittenKind

-- one binding of a context command, at its `[`, with the places of its names
pub record WrittenBinding : Type 0 where
  pub place : Place
  pub places : List Place
  pub names : List ℕ
  pub kind : WrittenKind

pub data WrittenAct : Type 0 where
  Bindings : List WrittenBinding → WrittenAct
  Goal : Option ℕ → Written → WrittenAct
  Intros : List Place → List ℕ → WrittenAct
  Refine Claim Equiv Hnf Normal Show : Written → WrittenAct
  Next Undo : ℕ → WrittenAct
  Assumption KillRef Prf Ctxt Explicit Implicit : WrittenAct
  Save : Option ℕ → WrittenAct
  Forget Discharge : NameAt → WrittenAct

-- a command, at its first token
pub record WrittenCommand : Type 0 where
  pub place : Place
  pub act : WrittenAct
