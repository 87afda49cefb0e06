-- What is in scope where a written term stands, and what its names stand for.
use Rattle.std.specs.Prelude.{ℕ, suc, List, [], ◌∷◌, Bool, false, nat_eq, Option, Some, None, option_map, unwrap_or, find, if◌then◌else◌}
use Rattle.lego_base.specs.declared.place.Place.{Place}
use Rattle.lego_term.specs.Trees.{Core, lift, put}
use Rattle.lego_laws.specs.Entries.{Entry}

-- A variable that a written term binds: by a binder, where an arrow or a `#` gives it no name; or by a local definition,
-- with the core of its value.
pub data LocalVariable : Type 0 where
  Bound : Option ℕ → LocalVariable
  Defined : ℕ → Core → LocalVariable

-- the innermost first
abbrev pub Scope : Type 0
Scope = List LocalVariable

abbrev pub local_name : LocalVariable → Option ℕ
local_name (LocalVariable.Bound name) = name
local_name (LocalVariable.Defined name value) = Some name

-- the name is n
abbrev pub is_named : ℕ → Option ℕ → Bool
is_named n name = unwrap_or (option_map (nat_eq n) name) false

-- the innermost local variable of a name: the number of local variables inside it
abbrev pub local_named : Scope → ℕ → Option ℕ
local_named [] n = None
local_named (x ∷ scope) n = if is_named n (local_name x) then Some 0 else option_map suc (local_named scope n)

-- the entry of a name
abbrev pub entry_named : List Entry → ℕ → Option Entry
entry_named es n = find (λ e. is_named n e.name) es

-- The term with the values of the local definitions in scope put for their variables; all other variables keep their
-- numbers. `depth` counts the local variables gone by.
abbrev pub put_values : Scope → ℕ → Core → Core
put_values [] depth m = m
put_values (LocalVariable.Bound name ∷ scope) depth m = put_values scope (suc depth) m
put_values (LocalVariable.Defined name value ∷ scope) depth m = put_values scope (suc depth) (lift depth 1 (put depth value m))

-- the level variable that stands for each written `Type`, by its place; so copies of one text share it
abbrev pub TypeVariables : Type 0
TypeVariables = Place → Option ℕ

-- no written `Type` stands for a level variable
abbrev pub no_variables : TypeVariables
no_variables place = None
