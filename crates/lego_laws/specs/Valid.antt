-- Valid lists of entries.
use Rattle.std.specs.Prelude.{List, [], ◌∷◌, IfSome}
use Rattle.lego_term.specs.Levels.{Assignment, SatisfiesAll}
use Rattle.lego_laws.specs.Entries.{Entry, Constant, entries_at, kept}
use Rattle.lego_laws.specs.Judgement.{Valid, Has}

-- each body has its entry's type over the entries before it
abbrev pub BodiesFit : List Constant → Type 0
BodiesFit [] = Unit {0}
BodiesFit (e ∷ before) = IfSome e.body (λ m. Has before [] m e.ty) × BodiesFit before

-- a valid list, whose bodies have their types
pub record AreValid (es : List Constant) : Type 0 where
  pub valid : Valid es []
  pub bodies : BodiesFit es

-- the entries are valid at each assignment that satisfies their constraints
abbrev pub AlwaysValid : List Entry → Type 0
AlwaysValid es = (v : Assignment) → SatisfiesAll v (kept es) → AreValid (entries_at v es)
