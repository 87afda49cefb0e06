-- Lists of constants whose types and bodies are reduced.
use Rattle.std.specs.Prelude.{◌≡◌, Option, Some, None, List, [], ◌∷◌}
use Rattle.lego_term.specs.Trees.{Term}
use Rattle.lego_term.specs.Steps.{Step}
use Rattle.lego_laws.specs.Parallel.{TermBodies, Star}
use Rattle.lego_laws.specs.Entries.{Constant, bodies_of}
use Rattle.lego_laws.specs.Judgement.{Has}
use Rattle.lego_laws.specs.Valid.{AreValid}

-- steps lead from the one body to the other, where there is one
abbrev pub BodyReduces : TermBodies → Option Term → Option Term → Type 0
BodyReduces b None None = Unit {0}
BodyReduces b (Some m) (Some m') = Star (Step b) m m'
BodyReduces b _ _ = ⊥

-- the second list is the first with types and bodies to which steps lead
pub data ReducesTo : List Constant → List Constant → Type 0 where
  nothing : ReducesTo [] []
  reduced : {e e' : Constant} {es es' : List Constant}
      → e'.number ≡ e.number → Star (Step (bodies_of es')) e.ty e'.ty → BodyReduces (bodies_of es') e.body e'.body
      → ReducesTo es es' → ReducesTo (e ∷ es) (e' ∷ es')

-- a valid list stays valid where types and bodies are reduced
abbrev pub ReducedListsAreValid : Type 0
ReducedListsAreValid = (es es' : List Constant) → AreValid es → ReducesTo es es' → AreValid es'

-- and a judgement stands over it
abbrev pub JudgementsOverReducedLists : Type 0
JudgementsOverReducedLists =
    (es es' : List Constant) → AreValid es → ReducesTo es es' → (g : List Term) (m a : Term) → Has es g m a → Has es' g m a
