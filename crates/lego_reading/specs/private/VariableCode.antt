-- A code for local variables, by which a proof tells them apart.
use Rattle.std.specs.Prelude.{◌≡◌, ℕ, Option, Some, None, refl}
use Rattle.std.specs.Coded.{Coded, code_by, coded×, coded_ℕ, coded_option}
use Rattle.lego_term.specs.private.TreeCode.{tree_code}
use Rattle.lego_term.specs.Trees.{Core}
use Rattle.lego_grammar.specs.Scopes.{LocalVariable}

abbrev from_variable : LocalVariable → Option ℕ × Option Core
from_variable (LocalVariable.Bound name) = (name, None)
from_variable (LocalVariable.Defined name value) = (Some name, Some value)

abbrev to_variable : Option ℕ → Option Core → LocalVariable
to_variable name None = LocalVariable.Bound name
to_variable None (Some value) = LocalVariable.Bound None
to_variable (Some name) (Some value) = LocalVariable.Defined name value

pub variable_back : (x : LocalVariable) → to_variable (from_variable x).0 (from_variable x).1 ≡ x
variable_back (LocalVariable.Bound name) = refl
variable_back (LocalVariable.Defined name value) = refl

abbrev pub local_code : Coded LocalVariable
local_code =
    code_by (Option ℕ × Option Core) (coded× (coded_option coded_ℕ) (coded_option tree_code)) from_variable (λ p. to_variable p.0 p.1) variable_back
