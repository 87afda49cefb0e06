-- A code for contexts, by which a proof tells them apart.
use Rattle.std.specs.Prelude.{ℕ, List, refl}
use Rattle.std.specs.Coded.{Coded, code_by, coded×, coded_ℕ, coded_list}
use Rattle.lego_base.specs.declared.place.Place.{Place}
use Rattle.lego_inference.specs.declared.entry.Entry.{Entry as Item}
use Rattle.lego_inference.specs.declared.entry.Universe.{Universe}
use Rattle.lego_inference.specs.private.EntryCode.{entry_code}
use Rattle.lego_context.specs.Contexts.{Contents}

abbrev place_code : Coded Place
place_code = code_by (ℕ × ℕ) (coded× coded_ℕ coded_ℕ) (λ p. (p.line, p.column)) (λ p. record { line = p.0; column = p.1 }) (λ _. refl)

abbrev universe_code : Coded Universe
universe_code = code_by (ℕ × Place) (coded× coded_ℕ place_code) (λ u. (u.variable, u.place)) (λ p. record { variable = p.0; place = p.1 }) (λ _. refl)

abbrev pub contents_code : Coded Contents
contents_code =
    code_by (List Item × (List Universe × ℕ)) (coded× (coded_list entry_code) (coded× (coded_list universe_code) coded_ℕ))
    (λ c. (c.entries, (c.universes, c.levels))) (λ p. record { entries = p.0; universes = p.1.0; levels = p.1.1 }) (λ _. refl)
