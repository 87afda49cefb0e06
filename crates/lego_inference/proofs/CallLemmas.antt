-- What the calls need of a whole term, and how they answer.
use Rattle.std.proofs.Common.{◌≡◌, ℕ, ◌+◌, ◌≤◌, List, Ok, Err, refl, sym, ap, ◌∙◌, subst, length, arith}
use Rattle.lego_term.specs.declared.fault.TermFault.{TermFault}
use Rattle.lego_term.specs.declared.fault.TermFault.TheVariants.{TooLarge, Memory}
use Rattle.lego_term.specs.declared.weight.Extent.{Extent}
use Rattle.lego_term.specs.Trees.{Core}
use Rattle.lego_term.specs.Weight.{IsMeasured}
use Rattle.lego_laws.specs.Entries.{Entry}
use Rattle.lego_laws.specs.Places.{Task, Site, behind, RuleTypeAt}
use Rattle.lego_laws.specs.RuleTypes.{nodes}
use Rattle.lego_level.specs.declared.constraint.Constraint.{Constraint}
use Rattle.lego_inference.specs.declared.entry.Entry.{Entry as Item}
use Rattle.lego_inference.specs.declared.entry.Judged.{Judged}
use Rattle.lego_inference.specs.declared.locals.Local.{Local}
use Rattle.lego_inference.specs.Entries.{laws_entries, AreClosedEntries}
use Rattle.lego_inference.specs.Locals.{site_of, types_of, IsOver}
use Rattle.lego_inference.specs.Calls.{AreHeld, IsTermOver}
use Rattle.lego_inference.specs.Causes.{IsWhole, TooLargeCause}
use Rattle.lego_inference.specs.Failures.{TypeFails}
use Rattle.lego_inference.specs.private.Faults.{of_term}
use Rattle.lego_inference.specs.private.Judging.{IsReady}
use Rattle.lego_inference.proofs.LocalLemmas.{length-map}
use Rattle.lego_inference.proofs.OverLemmas.{rule_type_over}

pub ready_whole : (es : List Item) (locals : List Local) (levels : ℕ) (m : Core) (x : Extent) → AreClosedEntries (laws_entries es) → AreHeld es locals levels → IsTermOver es locals levels m → IsMeasured m (Ok x) → IsReady (laws_entries es) (site_of locals levels) m
ready_whole es locals levels m x closed held over measured =
    let few = held.few_locals in
    let high = measured.2 in
    record {
      closed = closed;
      scoped = held.scoped;
      few = omega (arith, length-map (λ (z : Local). z.ty) locals);
      over = over;
    }

pub type_over : (es : List Item) (locals : List Local) (levels : ℕ) (m a : Core) (x : Extent) → AreClosedEntries (laws_entries es) → AreHeld es locals levels → IsTermOver es locals levels m → IsMeasured m (Ok x) → RuleTypeAt (laws_entries es) (site_of locals levels) m a → IsOver (laws_entries es) (types_of locals) (levels + nodes m) a
type_over es locals levels m a x closed held over measured rule =
    rule_type_over (laws_entries es) (site_of locals levels) m a held.entries held.types held.named_entries held.named_types (ready_whole es locals levels m x closed held over measured) rule

pub measured_fails : (limit : ℕ) (t : Task) (u : Core) (fault : TermFault) → IsWhole t u → IsMeasured u (Err fault) → TypeFails limit t (of_term fault)
measured_fails limit t u (TooLarge size depth) whole h =
    TypeFails.too_large (subst (λ z. TooLargeCause limit t z depth) (sym h.0) (subst (λ z. TooLargeCause limit t 1048577 z) (sym h.1) (TooLargeCause.measured whole h.2)))
measured_fails limit t u Memory whole h = TypeFails.memory

pub judged_is : (j : Judged) (a : Core) (k : List Constraint) (n : ℕ) → j.ty ≡ a → j.constraints ≡ k → j.levels ≡ n → j ≡ record { ty = a; constraints = k; levels = n }
judged_is j a k n e f g =
    ap (λ z. record { ty = z; constraints = j.constraints; levels = j.levels }) e
    ∙ ap (λ z. record { ty = a; constraints = z; levels = j.levels }) f
    ∙ ap (λ z. record { ty = a; constraints = k; levels = z }) g

pub ready_behind : {es : List Entry} {s : Site} {m : Core} (n : ℕ) → IsReady es s m → IsReady es (behind n s) m
ready_behind n r =
    let within = r.over.levels_within in
    record { closed = r.closed; scoped = r.scoped; few = r.few; over = record { names = r.over.names; variables = r.over.variables; levels_within = omega arith } }
