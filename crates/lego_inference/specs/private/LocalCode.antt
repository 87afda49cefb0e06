-- A code for local variables, by which a proof tells them apart.
use Rattle.std.specs.Prelude.{ℕ, Option, refl}
use Rattle.std.specs.Coded.{Coded, code_by, coded×, coded_ℕ, coded_option}
use Rattle.lego_term.specs.private.TreeCode.{tree_code}
use Rattle.lego_term.specs.Trees.{Core}
use Rattle.lego_term.specs.declared.binder.Mark.{Mark}
use Rattle.lego_inference.specs.declared.locals.Local.{Local}
use Rattle.lego_inference.specs.private.EntryCode.{mark_code}

abbrev pub local_code : Coded Local
local_code =
    code_by (Option ℕ × (Mark × Core)) (coded× (coded_option coded_ℕ) (coded× mark_code tree_code))
    (λ l. (l.binder.name, (l.binder.mark, l.ty))) (λ p. record { binder = record { name = p.0; mark = p.1.0 }; ty = p.1.1 }) (λ _. refl)
