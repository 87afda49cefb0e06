-- The whole call.
use Rattle.std.proofs.Common.{◌≡◌, ℕ, ◌+◌, ◌≤◌, ◌<◌, List, [], length, IsSome, Ok, Err, refl, sym, ap, ◌∙◌, subst, arith}
use Rattle.std.specs.List.{AllByRecursion}
use Rattle.lego_base.specs.declared.place.Place.{Place}
use Rattle.lego_term.specs.Trees.{Core}
use Rattle.lego_grammar.specs.Written.{Written}
use Rattle.lego_inference.specs.Entries.{laws_entries}
use Rattle.lego_context.specs.Contexts.{Contents, AreOverFronts}
use Rattle.lego_reading.specs.declared.fault.ReadFault.{ReadFault}
use Rattle.lego_reading.specs.declared.fault.ReadFault.TheVariants as fault
use Rattle.lego_reading.specs.Universes.{type_places, places_of, variables_for, with_universes}
use Rattle.lego_reading.specs.Failures.{Fails}
use Rattle.lego_reading.specs.Calls.{CanBeRead, HasRoom, IsUnread, Reads}
use Rattle.lego_reading.specs.private.Parts.{IsReady, IsReading, Stops}
use Rattle.lego_reading.proofs.UniverseLemmas.{all_held}
use Rattle.lego_reading.proofs.OverLemmas.{core_over}

pub ready : (c : Contents) (places : List Place) (s : Written) → CanBeRead s → places ≡ places_of s → c.levels + length places ≤ 1048576
    → IsReady c places [] s
ready c places s can is room = record {
  few = (let f = can.few in omega arith);
  held = subst (λ ps. AllByRecursion (λ p. IsSome (variables_for c.levels ps p)) (type_places s)) (sym is) (all_held c.levels [] (type_places s));
  room = room;
  over = tt;
}

module _ (c : Contents) (places : List Place) (s : Written) (limit : ℕ) (is : places ≡ places_of s) where
  room : c.levels + length places ≤ 1048576 → HasRoom c s
  room le = subst (λ ps. c.levels + length ps ≤ 1048576) is le

  pub read_core : (core : Core) (new : Contents) → c.levels + length places ≤ 1048576 → AreOverFronts c → CanBeRead s
      → IsReading (laws_entries c.entries) (variables_for c.levels places) [] s core
      → new ≡ with_universes c places → Reads c s limit new (Ok core)
  read_core core new le over can r e =
      let whole : IsReading (laws_entries c.entries) (variables_for c.levels (places_of s)) [] s core =
      subst (λ ps. IsReading (laws_entries c.entries) (variables_for c.levels ps) [] s core) is r in (
        record {
          room = room le;
          within = whole.within;
          over = core_over c (places_of s) s core over can.small whole.within.reads whole.over;
        },
        e ∙ ap (with_universes c) is,
      )

  pub read_full : 1048576 < c.levels + length places → Reads c s limit c (Err (fault.Full 1048576))
  read_full lt = (IsUnread.full (subst (λ ps. 1048576 < c.levels + length ps) is lt), refl)

  pub read_memory : (new : Contents) → new ≡ c → Reads c s limit new (Err fault.Memory)
  read_memory new e = (IsUnread.memory, e)

  pub read_stops : (given : ReadFault) → c.levels + length places ≤ 1048576
      → Stops (laws_entries c.entries) (variables_for c.levels places) limit [] s given → Reads c s limit c (Err given)
  read_stops given le (Stops.fails h) =
      (IsUnread.fails (room le) (subst (λ ps. Fails (laws_entries c.entries) (variables_for c.levels ps) limit [] s given) is h), refl)
  read_stops given le Stops.memory = (IsUnread.memory, refl)
