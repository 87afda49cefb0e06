-- A code for the local variables of a printer, by which a proof tells them apart.
use Rattle.std.specs.Prelude.{ℕ, List, Option, refl}
use Rattle.std.specs.Coded.{Coded, code_by, coded×, coded_ℕ, coded_list, coded_option}
use Rattle.lego_print.specs.private.Numbered.{Numbered}

abbrev to_parts : Numbered → List ℕ × (Option ℕ × ℕ)
to_parts n = (n.text, (n.wished, n.number))

abbrev pub numbered_code : Coded Numbered
numbered_code =
    code_by (List ℕ × (Option ℕ × ℕ)) (coded× (coded_list coded_ℕ) (coded× (coded_option coded_ℕ) coded_ℕ)) to_parts
    (λ p. record { text = p.0; wished = p.1.0; number = p.1.1 }) (λ _. refl)

abbrev pub locals_code : Coded (List (Option Numbered))
locals_code = coded_list (coded_option numbered_code)
