-- Local variables as the code keeps them.
use Rattle.std.specs.Prelude.{◌≤◌, [], ◌∷◌, length, Option, Some, None}
use Rattle.lego_term.specs.Trees.{Core, loose}
use Rattle.lego_grammar.specs.Scopes.{LocalVariable, Scope}
use Rattle.lego_reading.specs.declared.scope.Variable.{Variable}
use Rattle.lego_reading.specs.declared.scope.Variable.TheVariants as kept

abbrev pub variable_of : Variable → LocalVariable
variable_of (kept.Bound name) = LocalVariable.Bound name
variable_of (kept.Defined name value) = LocalVariable.Defined name value

abbrev pub value_of : LocalVariable → Option Core
value_of (LocalVariable.Bound name) = None
value_of (LocalVariable.Defined name value) = Some value

-- each value is over the variables outside it
abbrev pub AreOver : Scope → Type 0
AreOver [] = Unit {0}
AreOver (LocalVariable.Bound name ∷ scope) = AreOver scope
AreOver (LocalVariable.Defined name value ∷ scope) = (loose value ≤ length scope) × AreOver scope
