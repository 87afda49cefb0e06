-- What stands around the head of a term: arguments and projections.
use Rattle.std.specs.Prelude.{◌≡◌, Bool, true, false, ◌⊎◌, Option, Some, None, List, [], ◌∷◌, Result, Ok, Err}
use Rattle.lego_term.specs.Trees.{Core, App, Fst, Snd}
use Rattle.lego_term.specs.Sequences.{contract_app, contract_fst, contract_snd}
use Rattle.lego_term.specs.Parts.{IsTooLarge}
use Rattle.lego_term.specs.declared.fault.TermFault.{TermFault}
use Rattle.lego_term.specs.declared.fault.TermFault.TheVariants as term
use Rattle.lego_reduce.specs.declared.fault.ReduceFault.{ReduceFault}
use Rattle.lego_reduce.specs.declared.fault.ReduceFault.TheVariants.{Budget, TooLarge, Memory}
use Rattle.lego_reduce.specs.declared.frames.Frame.{Frame}
use Rattle.lego_reduce.specs.declared.frames.Frame.TheVariants.{Argument, First, Second}
use Rattle.lego_reduce.specs.declared.head_form.Turn.{Turn}
use Rattle.lego_reduce.specs.declared.head_form.Turn.TheVariants.{Stepped, Stopped}

abbrev pub plug_one : Frame → Core → Core
plug_one (Argument k n) m = App k m n
plug_one First m = Fst m
plug_one Second m = Snd m

-- the term with the frames around it, the outermost first
abbrev pub plug : List Frame → Core → Core
plug [] m = m
plug (f ∷ fs) m = plug_one f (plug fs m)

-- what the redex of the frame and the term goes to, where they are one
abbrev pub contract_one : Frame → Core → Option Core
contract_one (Argument k n) m = contract_app m n
contract_one First m = contract_fst m
contract_one Second m = contract_snd m

-- neither an application nor a projection
abbrev pub IsHead : Core → Type 0
IsHead (App k m n) = ⊥
IsHead (Fst m) = ⊥
IsHead (Snd m) = ⊥
IsHead _ = Unit {0}

-- the answer is the tree, or numbers of a subtree of it over a limit, unless memory ran out
abbrev pub Rebuilt : Core → Result Core TermFault → Type 0
Rebuilt t (Ok made) = made ≡ t
Rebuilt t (Err (term.TooLarge nodes levels)) = IsTooLarge t nodes levels
Rebuilt t (Err term.Memory) = Unit {0}

-- the next term of a head, which `next` gives, or there is none, or there is no budget for it
abbrev pub Contracted : Option Core → Bool → Result (Option Core) ReduceFault → Type 0
Contracted next budget (Ok (Some made)) = (budget ≡ true) × (next ≡ Some made)
Contracted next budget (Ok None) = next ≡ None
Contracted next budget (Err Budget) = (budget ≡ false) × ((u : Core) × (next ≡ Some u))
Contracted next budget (Err (TooLarge nodes levels)) = (budget ≡ true) × ((u : Core) × (next ≡ Some u) × IsTooLarge u nodes levels)
Contracted next budget (Err Memory) = Unit {0}

-- the next term of `whole`, which `next` gives, is wanted, and there is none or there is no budget for it
abbrev pub Turns : Core → Option Core → Bool → (Core → Core) → Result Turn ReduceFault → Type 0
Turns whole next budget around (Ok (Stepped made)) = (budget ≡ true) × (next ≡ Some (around made))
Turns whole next budget around (Ok (Stopped made)) = (next ≡ None) × (around made ≡ whole)
Turns whole next budget around (Err Budget) = (budget ≡ false) × ((u : Core) × (next ≡ Some u))
Turns whole next budget around (Err (TooLarge nodes levels)) =
    IsTooLarge whole nodes levels ⊎ ((budget ≡ true) × ((u : Core) × (next ≡ Some u) × IsTooLarge u nodes levels))
Turns whole next budget around (Err Memory) = Unit {0}

-- a refusal has numbers of a subtree over a limit, unless memory ran out
abbrev pub StaysWithin : Core → Result (Unit {0}) TermFault → Type 0
StaysWithin t (Ok u) = Unit {0}
StaysWithin t (Err (term.TooLarge nodes levels)) = IsTooLarge t nodes levels
StaysWithin t (Err term.Memory) = Unit {0}
