-- Entries, lists of entries, and both at fixed numbers.
use Rattle.std.specs.Prelude.{ℕ, List, [], ◌∷◌, ◌++◌, map, reverse, Option, Some, None, option_map, option_and_then, nat_eq, if◌then◌else◌, Bool, false, ◌||◌, unwrap_or, IsTrue}
use Rattle.std.specs.List.{list_any}
use Rattle.lego_term.specs.Levels.{Assignment, LevelPair}
use Rattle.lego_term.specs.Trees.{Core, Term, at, uses_level, is_over}
use Rattle.lego_term.specs.declared.binder.Mark.{Mark}

-- One assumption, definition or hole. A hole has no name; the number of its hypotheses is that of the first products of
-- its type that are locals where it stands. A definition and a filled hole have a body.
pub record Entry : Type 0 where
  pub number : ℕ
  pub name : Option ℕ
  pub mark : Mark
  pub ty : Core
  pub body : Option Core
  pub hypotheses : ℕ
  pub constraints : List LevelPair

-- the constraints kept with the entries
abbrev pub kept : List Entry → List LevelPair
kept [] = []
kept (e ∷ es) = e.constraints ++ kept es

-- the entry of a number
abbrev pub entry_of : List Entry → ℕ → Option Entry
entry_of [] k = None
entry_of (e ∷ es) k = if nat_eq e.number k then Some e else entry_of es k

-- the body of a constant, where its entry has one
abbrev pub core_bodies : List Entry → ℕ → Option Core
core_bodies es k = option_and_then (λ e. e.body) (entry_of es k)

-- whether the level variable occurs in the entry: in its type, body or constraints
abbrev pub entry_uses : ℕ → Entry → Bool
entry_uses u e =
    uses_level u e.ty || unwrap_or (option_map (uses_level u) e.body) false
    || list_any (λ c. is_over u c.low || is_over u c.high) e.constraints

-- the level variable is one of the entries, the local types or the terms
abbrev pub IsHeld : ℕ → List Entry → List Core → List Core → Type 0
IsHeld u es g ms = IsTrue (list_any (entry_uses u) es || list_any (uses_level u) g || list_any (uses_level u) ms)

-- an entry at fixed numbers, as the rules see it
pub record Constant : Type 0 where
  pub number : ℕ
  pub ty : Term
  pub body : Option Term

abbrev pub entry_at : Assignment → Entry → Constant
entry_at v e = record { number = e.number; ty = at v e.ty; body = option_map (at v) e.body }

-- the entries at fixed numbers, the newest first
abbrev pub entries_at : Assignment → List Entry → List Constant
entries_at v es = reverse (map (entry_at v) es)

abbrev pub constant_of : List Constant → ℕ → Option Constant
constant_of [] k = None
constant_of (e ∷ es) k = if nat_eq e.number k then Some e else constant_of es k

abbrev pub bodies_of : List Constant → ℕ → Option Term
bodies_of es k = option_and_then (λ e. e.body) (constant_of es k)
