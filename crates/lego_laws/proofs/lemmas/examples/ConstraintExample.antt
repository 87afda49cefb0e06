-- The constraints of a core that is one universe.
use Rattle.std.proofs.Common.{◌≡◌, ℕ, List, [], refl, ap, ◌∙◌}
use Rattle.lego_term.specs.declared.level.Level.{Level}
use Rattle.lego_term.specs.Levels.{variable_level}
use Rattle.lego_term.specs.Trees.{Core, Univ}
use Rattle.lego_laws.specs.Entries.{Entry}
use Rattle.lego_laws.specs.RuleTypes.{RuleType}
use Rattle.lego_laws.specs.Places.{Want, Nothing, Stated, AnyType, OfWrittenType, Site, Part, Within, Task, Stands, IsConstraintOfCore}
use Rattle.lego_laws.specs.Ranges.{raised_level}
use Rattle.lego_laws.specs.Examples.{one_more, ConstraintOfUniverse}

abbrev task : Task
task = record { entries = []; site = record { types = []; binders = []; first = 1 }; core = Univ (variable_level 0); aim = AnyType }

-- a universe has no parts
no_part : {es : List Entry} {s s' : Site} {m n : Core} {w w' : Want} {i : ℕ} {l : Level} → Part es s m w i s' n w' → m ≡ Univ l → ⊥
no_part Part.pi_domain e = cc
no_part Part.pi_body e = cc
no_part Part.lam_domain e = cc
no_part Part.lam_body e = cc
no_part Part.function e = cc
no_part (Part.argument r h) e = cc
no_part Part.sigma_domain e = cc
no_part Part.sigma_body e = cc
no_part Part.pair_domain e = cc
no_part Part.pair_body e = cc
no_part Part.pair_first e = cc
no_part Part.pair_second e = cc
no_part Part.fst_operand e = cc
no_part Part.snd_operand e = cc
no_part Part.local_value e = cc
no_part Part.local_body e = cc

within_root : {s : Site} {n : Core} {w : Want} → Within [] task.site task.core Nothing s n w → (s.first ≡ 1) × (n ≡ Univ (variable_level 0)) × (w ≡ Nothing)
within_root Within.itself = (refl, refl, refl)
within_root (Within.part h p) = absurd (no_part p (within_root h).1)

not_written : {a : Core} → AnyType ≡ OfWrittenType a → ⊥
not_written e = cc

only_root : {s : Site} {n : Core} {w : Want} → Stands task s n w → (s.first ≡ 1) × (n ≡ Univ (variable_level 0)) × (w ≡ Nothing)
only_root (Stands.in_core h) = within_root h
only_root (Stands.in_written e h) = absurd (not_written e)

level_is : {l m : Level} → ◌≡◌ {A = Core} (Univ l) (Univ m) → l ≡ m
level_is e = cc

rule_of_universe : {w : ℕ → ℕ} {g : List Core} {i : ℕ} {n got : Core} {l : Level} → RuleType [] w g i n got → n ≡ Univ l → got ≡ Univ (variable_level (w i))
rule_of_universe (RuleType.variable p) e = cc
rule_of_universe (RuleType.constant p) e = cc
rule_of_universe RuleType.prop e = cc
rule_of_universe RuleType.universe e = refl
rule_of_universe (RuleType.pi_prop r h) e = cc
rule_of_universe (RuleType.pi_type r h d) e = cc
rule_of_universe RuleType.sigma e = cc
rule_of_universe (RuleType.lambda r) e = cc
rule_of_universe (RuleType.application r h) e = cc
rule_of_universe RuleType.pair e = cc
rule_of_universe (RuleType.local r) e = cc
rule_of_universe (RuleType.first r h) e = cc
rule_of_universe (RuleType.second r h) e = cc

not_stated : {a : Core} → Stated a ≡ Nothing → ⊥
not_stated e = cc

only_one : (low high : Level) → IsConstraintOfCore task low high → (low ≡ one_more.low) × (high ≡ one_more.high)
only_one _ _ (IsConstraintOfCore.universe {s = s} {l = l} {m = m} st r) =
    let o = only_root st in
    (ap raised_level (level_is o.1), level_is (rule_of_universe r refl) ∙ ap variable_level o.0)
only_one _ _ (IsConstraintOfCore.part st k r p q h) = absurd (no_part p (only_root st).1)
only_one _ _ (IsConstraintOfCore.wanted p a) = absurd (not_stated (only_root p.stands).2)

pub constraint_of_universe : ConstraintOfUniverse
constraint_of_universe = (task, refl, refl, IsConstraintOfCore.universe (Stands.in_core Within.itself) RuleType.universe, only_one)
