-- The level variables that stand for the written `Type`s of a term.
use Rattle.std.specs.Prelude.{ℕ, ◌+◌, List, [], ◌∷◌, ◌++◌, Bool, ◌&&◌, nat_eq, if◌then◌else◌, position, option_map}
use Rattle.std.specs.List.{list_any}
use Rattle.lego_base.specs.declared.place.Place.{Place}
use Rattle.lego_grammar.specs.Written.{Written, AnyType, Bind, Local, Apply, Pair, Project}
use Rattle.lego_grammar.specs.Scopes.{TypeVariables}
use Rattle.lego_context.specs.Contexts.{Contents}
use Rattle.lego_context.specs.Changes.{with_universe}

-- the places of the written `Type`s, in the order of reading
abbrev pub type_places : Written → List Place
type_places (AnyType p) = p ∷ []
type_places (Bind kind mark names s t) = type_places s ++ type_places t
type_places (Local n s t) = type_places s ++ type_places t
type_places (Apply mark s t) = type_places s ++ type_places t
type_places (Pair m n t) = type_places t ++ type_places m ++ type_places n
type_places (Project part s) = type_places s
type_places _ = []

abbrev pub is_place : Place → Place → Bool
is_place p q = nat_eq p.line q.line && nat_eq p.column q.column

-- the places, and behind them the place, or the listed ones in order, where they are not held yet
abbrev pub with_place : List Place → Place → List Place
with_place held p = if list_any (is_place p) held then held else held ++ p ∷ []

abbrev pub with_places : List Place → List Place → List Place
with_places held [] = held
with_places held (p ∷ ps) = with_places (with_place held p) ps

-- the places of the written `Type`s, each once, in the order of reading
abbrev pub places_of : Written → List Place
places_of s = with_places [] (type_places s)

-- the level variables of these places: the next ones, in order
abbrev pub variables_for : ℕ → List Place → TypeVariables
variables_for next places p = option_map (λ i. next + i) (position (is_place p) places)

-- the context with a universe more for each place, in order
abbrev pub with_universes : Contents → List Place → Contents
with_universes c [] = c
with_universes c (p ∷ ps) = with_universes (with_universe c p) ps

-- the context with a universe more for each place of a written `Type`
abbrev pub with_types_of : Contents → Written → Contents
with_types_of c s = with_universes c (places_of s)
