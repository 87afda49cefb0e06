-- A code for entries, by which a proof tells them apart.
use Rattle.std.specs.Prelude.{◌≡◌, ℕ, zero, suc, Option, refl}
use Rattle.std.specs.Coded.{Coded, code_by, coded×, coded_ℕ, coded_list, coded_option}
use Rattle.lego_base.specs.declared.place.Place.{Place}
use Rattle.lego_term.specs.private.TreeCode.{tree_code}
use Rattle.lego_term.specs.Trees.{Core}
use Rattle.lego_term.specs.declared.binder.Mark.{Mark}
use Rattle.lego_term.specs.declared.binder.Mark.TheVariants.{Plain, Implicit}
use Rattle.lego_term.specs.declared.level.Level.{Level}
use Rattle.lego_level.specs.declared.constraint.Constraint.{Constraint}
use Rattle.lego_inference.specs.declared.entry.Entry.{Entry as Item}
use Rattle.lego_inference.specs.declared.entry.EntryKind.{EntryKind}
use Rattle.lego_inference.specs.declared.entry.EntryKind.TheVariants.{Assumed, Defined, Hole, Filled}
use Rattle.std.specs.Prelude.{List}

abbrev from_mark : Mark → ℕ
from_mark Plain = 0
from_mark Implicit = 1

abbrev to_mark : ℕ → Mark
to_mark zero = Plain
to_mark (suc n) = Implicit

pub mark_back : (m : Mark) → to_mark (from_mark m) ≡ m
mark_back Plain = refl
mark_back Implicit = refl

abbrev pub mark_code : Coded Mark
mark_code = code_by ℕ coded_ℕ from_mark to_mark mark_back

abbrev from_kind : EntryKind → ℕ
from_kind Assumed = 0
from_kind Defined = 1
from_kind Hole = 2
from_kind Filled = 3

abbrev to_kind : ℕ → EntryKind
to_kind zero = Assumed
to_kind (suc zero) = Defined
to_kind (suc (suc zero)) = Hole
to_kind (suc (suc (suc n))) = Filled

pub kind_back : (k : EntryKind) → to_kind (from_kind k) ≡ k
kind_back Assumed = refl
kind_back Defined = refl
kind_back Hole = refl
kind_back Filled = refl

abbrev kind_code : Coded EntryKind
kind_code = code_by ℕ coded_ℕ from_kind to_kind kind_back

abbrev level_code : Coded Level
level_code = code_by (Option ℕ × ℕ) (coded× (coded_option coded_ℕ) coded_ℕ) (λ l. (l.base, l.plus)) (λ p. record { base = p.0; plus = p.1 }) (λ _. refl)

abbrev place_code : Coded Place
place_code = code_by (ℕ × ℕ) (coded× coded_ℕ coded_ℕ) (λ p. (p.line, p.column)) (λ p. record { line = p.0; column = p.1 }) (λ _. refl)

abbrev constraint_code : Coded Constraint
constraint_code =
    code_by (Level × (Level × Option Place)) (coded× level_code (coded× level_code (coded_option place_code)))
    (λ c. (c.low, (c.high, c.place))) (λ p. record { low = p.0; high = p.1.0; place = p.1.1 }) (λ _. refl)

abbrev pub entry_code : Coded Item
entry_code =
    code_by ((ℕ × (Option ℕ × (Mark × EntryKind))) × (Core × (Option Core × (ℕ × List Constraint))))
    (coded× (coded× coded_ℕ (coded× (coded_option coded_ℕ) (coded× mark_code kind_code))) (coded× tree_code (coded× (coded_option tree_code) (coded× coded_ℕ (coded_list constraint_code)))))
    (λ e. ((e.number, (e.name, (e.mark, e.kind))), (e.ty, (e.body, (e.hypotheses, e.constraints)))))
    (λ p. record {
      number = p.0.0;
      name = p.0.1.0;
      mark = p.0.1.1.0;
      kind = p.0.1.1.1;
      ty = p.1.0;
      body = p.1.1.0;
      hypotheses = p.1.1.1.0;
      constraints = p.1.1.1.1;
    })
    (λ _. refl)
