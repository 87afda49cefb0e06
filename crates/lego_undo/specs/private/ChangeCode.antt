-- A code for changes, by which a proof tells them apart.
use Rattle.std.specs.Prelude.{◌≡◌, ℕ, Option, Some, None, refl}
use Rattle.std.specs.Coded.{Coded, code_by, coded×, coded_option, coded_ℕ}
use Rattle.lego_context.specs.Contexts.{Contents, empty}
use Rattle.lego_context.specs.ContentsCode.{contents_code}
use Rattle.lego_undo.specs.declared.change.Change.{Change}
use Rattle.lego_undo.specs.declared.change.Change.TheVariants.{Cut, Whole}

abbrev to_parts : Change → Option (ℕ × (ℕ × ℕ)) × Contents
to_parts (Cut extent) = (Some (extent.entries, (extent.universes, extent.levels)), empty)
to_parts (Whole state) = (None, state.context)

abbrev of_option : Option (ℕ × (ℕ × ℕ)) → Contents → Change
of_option (Some e) context = Cut (record { entries = e.0; universes = e.1.0; levels = e.1.1 })
of_option None context = Whole (record { context = context })

abbrev of_parts : Option (ℕ × (ℕ × ℕ)) × Contents → Change
of_parts p = of_option p.0 p.1

abbrev back : (c : Change) → of_parts (to_parts c) ≡ c
back (Cut extent) = refl
back (Whole state) = refl

abbrev pub change_code : Coded Change
change_code =
    code_by (Option (ℕ × (ℕ × ℕ)) × Contents) (coded× (coded_option (coded× coded_ℕ (coded× coded_ℕ coded_ℕ))) contents_code) to_parts of_parts back
