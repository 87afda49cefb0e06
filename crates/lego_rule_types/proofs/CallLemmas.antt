-- What the call answers of a whole term.
use Rattle.std.proofs.Common.{◌≡◌, ℕ, ◌+◌, ◌≤◌, ◌<◌, List, [], Ok, Err, sym, subst, ⊎_elim}
use Rattle.lego_term.specs.declared.fault.TermFault.{TermFault}
use Rattle.lego_term.specs.declared.fault.TermFault.TheVariants as term
use Rattle.lego_term.specs.declared.weight.Extent.{Extent}
use Rattle.lego_term.specs.Trees.{Core}
use Rattle.lego_term.specs.Weight.{IsMeasured}
use Rattle.lego_laws.specs.Entries.{Entry}
use Rattle.lego_laws.specs.Places.{Site, RuleTypeAt}
use Rattle.lego_laws.specs.RuleTypes.{nodes}
use Rattle.lego_inference.specs.declared.entry.Entry.{Entry as Item}
use Rattle.lego_inference.specs.declared.entry.Judged.{Judged}
use Rattle.lego_inference.specs.declared.fault.Counted.TheVariants.{Levels}
use Rattle.lego_inference.specs.declared.fault.TypeFault.{TypeFault}
use Rattle.lego_inference.specs.declared.fault.TypeFault.TheVariants.{TooLarge, Full, Memory}
use Rattle.lego_inference.specs.declared.locals.Local.{Local}
use Rattle.lego_inference.specs.Calls.{AreHeld, IsTermOver}
use Rattle.lego_inference.specs.Entries.{laws_entries, AreClosedEntries}
use Rattle.lego_inference.specs.Locals.{site_of, types_of, IsOver}
use Rattle.lego_inference.specs.private.Faults.{of_term}
use Rattle.lego_inference.proofs.CallLemmas.{type_over}
use Rattle.lego_rule_types.specs.Failures.{HasRoom, RuleTypeFails}
use Rattle.lego_rule_types.specs.Calls.{IsRuleType}
use Rattle.lego_rule_types.specs.private.Counting.{IsBehind}

pub has_room : (s : Site) (m : Core) (x : Extent) → IsMeasured m (Ok x) → s.first + nodes m ≤ 1048576 → HasRoom s m
has_room s m x measured levels = record { high = measured.2; heavy = measured.3; levels = levels }

pub measured_fails : (es : List Entry) (limit : ℕ) (s : Site) (m : Core) (fault : TermFault) → IsMeasured m (Err fault) → RuleTypeFails es limit s m (of_term fault)
measured_fails es limit s m (term.TooLarge size depth) h =
    subst (λ z. RuleTypeFails es limit s m (TooLarge z depth)) (sym h.0) (subst (λ z. RuleTypeFails es limit s m (TooLarge 1048577 z)) (sym h.1) (RuleTypeFails.measured h.2))
measured_fails es limit s m term.Memory h = RuleTypeFails.memory

pub counted_fails : (es : List Entry) (limit : ℕ) (s : Site) (m : Core) (x : Extent) (fault : TypeFault) → IsMeasured m (Ok x) → IsBehind (s.first + nodes m) (Err fault) → RuleTypeFails es limit s m fault
counted_fails es limit s m x fault h b =
    ⊎_elim (λ (e : fault ≡ Memory). subst (RuleTypeFails es limit s m) (sym e) (RuleTypeFails.memory))
    (λ (e : (fault ≡ Full Levels 1048576) × (1048576 < s.first + nodes m)). subst (RuleTypeFails es limit s m) (sym e.0) (RuleTypeFails.full h.2 h.3 e.1)) b

pub rule_whole : (es : List Item) (locals : List Local) (levels : ℕ) (m : Core) (x : Extent) (judged : Judged) → AreClosedEntries (laws_entries es) → AreHeld es locals levels → IsTermOver es locals levels m → IsMeasured m (Ok x)
    → RuleTypeAt (laws_entries es) (site_of locals levels) m judged.ty → judged.constraints ≡ [] → judged.levels ≡ levels + nodes m → levels + nodes m ≤ 1048576
    → IsRuleType (laws_entries es) (site_of locals levels) m judged
rule_whole es locals levels m x judged closed held over measured rule none count within =
    record {
      rule = rule;
      over = subst (λ z. IsOver (laws_entries es) (types_of locals) z judged.ty) (sym count) (type_over es locals levels m judged.ty x closed held over measured rule);
      unconstrained = none;
      count = count;
      room = has_room (site_of locals levels) m x measured within;
    }
