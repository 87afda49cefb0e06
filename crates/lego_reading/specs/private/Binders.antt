-- Binders of several names, and applications.
use Rattle.std.specs.Prelude.{ℕ, List, [], ◌∷◌, Some}
use Rattle.lego_term.specs.declared.binder.Mark.{Mark}
use Rattle.lego_term.specs.Trees.{Core}
use Rattle.lego_laws.specs.Entries.{Entry}
use Rattle.lego_grammar.specs.Written.{Written}
use Rattle.lego_grammar.specs.Surface.{written}
use Rattle.lego_grammar.specs.declared.surface.Surface.{Surface}
use Rattle.lego_grammar.specs.Scopes.{LocalVariable, Scope, TypeVariables}
use Rattle.lego_reading.specs.private.Parts.{IsReading}

abbrev pub written_argument : Mark × Surface → Mark × Written
written_argument x = (x.0, written x.1)

-- the scope under these names
abbrev pub inner_scope : Scope → List ℕ → Scope
inner_scope scope [] = scope
inner_scope scope (n ∷ names) = inner_scope (LocalVariable.Bound (Some n) ∷ scope) names

-- the cores of a domain, one under each front of the names
pub data AreDomains (es : List Entry) (types : TypeVariables) (s : Written) : Scope → List ℕ → List Core → Type 0 where
  none : {scope : Scope} → AreDomains es types s scope [] []
  some : {scope : Scope} {n : ℕ} {names : List ℕ} {a : Core} {cores : List Core} → IsReading es types scope s a
      → AreDomains es types s (LocalVariable.Bound (Some n) ∷ scope) names cores → AreDomains es types s scope (n ∷ names) (a ∷ cores)
