-- The lines of entries.
use Rattle.std.specs.Prelude.{ℕ, List, [], ◌∷◌, ◌++◌, codes}
use Rattle.lego_laws.specs.Entries.{Entry}
use Rattle.lego_print.specs.declared.shown.Shown.{Shown}
use Rattle.lego_print.specs.Names.{Scope}
use Rattle.lego_print.specs.Entries.{entry_text}
use Rattle.lego_print.specs.Developments.{with_entry}

-- a line for each entry, with its end; in scope are the entries before the first, and those of the list before it
abbrev pub entry_lines : Shown → Scope → List Entry → List ℕ
entry_lines levels scope [] = []
entry_lines levels scope (e ∷ es) = entry_text levels scope e ++ codes "\n" ++ entry_lines levels (with_entry scope e) es
