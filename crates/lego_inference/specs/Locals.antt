-- Local variables, the innermost first, and the terms that are over a signature and locals.
use Rattle.std.specs.Prelude.{ℕ, ◌≤◌, List, map, reverse, length, IsSome}
use Rattle.lego_term.specs.Trees.{Core, loose}
use Rattle.lego_term.specs.declared.level.Level.{Level}
use Rattle.lego_term.specs.declared.binder.Binder.{Binder}
use Rattle.lego_term.specs.declared.seen.Seen.{Seen}
use Rattle.lego_laws.specs.Entries.{Entry, entry_of}
use Rattle.lego_laws.specs.Places.{Site}
use Rattle.lego_laws.specs.Ranges.{levels_bound}
use Rattle.lego_inference.specs.declared.locals.Local.{Local}
use Rattle.lego_inference.specs.Binders.{EachPart}

abbrev pub types_of : List Local → List Core
types_of locals = map (λ l. l.ty) locals

abbrev pub binders_of : List Local → List Binder
binders_of locals = map (λ l. l.binder) locals

-- the site below the locals; the first node there takes this level variable
abbrev pub site_of : List Local → ℕ → Site
site_of locals first = record { types = types_of locals; binders = binders_of locals; first = first }

-- a term with the binders around it, which are listed the innermost first, the outermost first
abbrev pub seen_under : List Binder → Core → Seen
seen_under binders m = record { under = reverse binders; term = m }

abbrev pub seen_at : Site → Core → Seen
seen_at s m = seen_under s.binders m

-- each constant and each level of the tree is so
abbrev pub EachLeaf : (constant : ℕ → Type 0) → (level : Level → Type 0) → Core → Type 0
EachLeaf c l t = EachPart (λ kind x. Unit {0}) c l t

-- each constant has an entry, and each level is a number or a variable plus a number, which is at most 1,000,000
abbrev pub NamesEntries : List Entry → Core → Type 0
NamesEntries es t = EachLeaf (λ k. IsSome (entry_of es k)) (λ l. l.plus ≤ 1000000) t

-- the term names only entries, locals and level variables below a number, and its levels are small
pub record IsOver (es : List Entry) (types : List Core) (levels : ℕ) (m : Core) : Type 0 where
  pub names : NamesEntries es m
  pub variables : loose m ≤ length types
  pub levels_within : levels_bound m ≤ levels
