-- What the call asks, and what it answers.
use Rattle.std.specs.Prelude.{◌≡◌, ℕ, suc, max, ◌+◌, ◌<◌, ◌≤◌, [], length, Result, Ok, Err}
use Rattle.lego_term.specs.Trees.{Core}
use Rattle.lego_grammar.specs.Written.{Written, Bind, Local, Apply, Pair, Project}
use Rattle.lego_grammar.specs.ReadingOrder.{ReadsWithin}
use Rattle.lego_inference.specs.Calls.{IsTermOver}
use Rattle.lego_inference.specs.Entries.{laws_entries}
use Rattle.lego_context.specs.Contexts.{Contents}
use Rattle.lego_reading.specs.declared.fault.ReadFault.{ReadFault}
use Rattle.lego_reading.specs.declared.fault.ReadFault.TheVariants.{Full, Memory}
use Rattle.lego_reading.specs.Universes.{places_of, variables_for, with_types_of}
use Rattle.lego_reading.specs.Written.{HasSmallLevels}
use Rattle.lego_reading.specs.Failures.{Fails}

-- a bound on the local variables in scope at the parts of a written term
abbrev pub locals_within : Written → ℕ
locals_within (Bind kind mark names s t) = suc (length names) + max (locals_within s) (locals_within t)
locals_within (Local n s t) = suc (max (locals_within s) (locals_within t))
locals_within (Apply mark s t) = max (locals_within s) (locals_within t)
locals_within (Pair m n t) = max (locals_within t) (max (locals_within m) (locals_within n))
locals_within (Project part s) = locals_within s
locals_within _ = 0

-- few enough local variables are in scope at once, and the explicit levels are small
pub record CanBeRead (s : Written) : Type 0 where
  pub few : locals_within s ≤ 61536
  pub small : HasSmallLevels s

-- the context may hold a level variable more for each place of a written `Type`
abbrev pub HasRoom : Contents → Written → Type 0
HasRoom c s = c.levels + length (places_of s) ≤ 1048576

-- The core is that of the written term over the entries, where the places of its written `Type`s stand for the next level
-- variables, in the order of reading, and no part's core passes a limit. It names only entries and level variables of the context
-- that has these, its explicit levels are at most 1,000,000, and it has no loose variable.
pub record IsCoreOf (c : Contents) (s : Written) (core : Core) : Type 0 where
  pub room : HasRoom c s
  pub within : ReadsWithin (laws_entries c.entries) (variables_for c.levels (places_of s)) [] s core
  pub over : IsTermOver (with_types_of c s).entries [] (with_types_of c s).levels core

-- There is no room for so many level variables, which is told first; or there is, and the reading fails; or memory ran out.
pub data IsUnread (c : Contents) (s : Written) (limit : ℕ) : ReadFault → Type 0 where
  full : 1048576 < c.levels + length (places_of s) → IsUnread c s limit (Full 1048576)
  fails : {fault : ReadFault} → HasRoom c s
      → Fails (laws_entries c.entries) (variables_for c.levels (places_of s)) limit [] s fault → IsUnread c s limit fault
  memory : IsUnread c s limit Memory

-- The core, and a universe more for each place of a written `Type`. Or the reading is refused, and the context is as it was.
abbrev pub Reads : Contents → Written → ℕ → Contents → Result Core ReadFault → Type 0
Reads old s limit new (Ok core) = IsCoreOf old s core × (new ≡ with_types_of old s)
Reads old s limit new (Err fault) = IsUnread old s limit fault × (new ≡ old)
