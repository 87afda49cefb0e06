-- When a state is so much of another one as its extent says.
use Rattle.std.proofs.Common.{◌≡◌, ◌≤◌, ◌<◌, inr, List, length, take, All, refl, sym, ap, subst, arith}
use Rattle.std.proofs.lemmas.List.{length-take, length-take-le}
use Rattle.lego_laws.specs.Valid.{AlwaysValid}
use Rattle.lego_laws.specs.Principal.{entries_bound}
use Rattle.lego_inference.specs.declared.entry.Entry.{Entry as Item}
use Rattle.lego_inference.specs.declared.entry.Universe.{Universe}
use Rattle.lego_inference.specs.Entries.{laws_entries}
use Rattle.lego_context.specs.Contexts.{IsContext}
use Rattle.lego_undo.specs.Histories.{HasExtent, extent_of, front}
use Rattle.lego_undo.specs.Changes.{IsFrontOf}
use Rattle.lego_undo.specs.declared.state.State.{State}
use Rattle.lego_undo.specs.declared.change.Extent.{Extent}

pub no_longer : {X : Type 0} (xs ys : List X) → take (length xs) ys ≡ xs → length xs ≤ length ys
no_longer xs ys h = omega (arith, length-take (length xs) ys, ap length h)

-- the front of an extent has it
pub extent_of_front : (extent : Extent) (new : State) → HasExtent extent new → extent_of (front extent new) ≡ extent
extent_of_front extent new h =
    let entries : length (take extent.entries new.context.entries) ≡ extent.entries = length-take-le extent.entries new.context.entries h.entries_within in
    let universes : length (take extent.universes new.context.universes) ≡ extent.universes = length-take-le extent.universes new.context.universes h.universes_within in
    rw (entries, universes) refl

-- a state that holds the old one as its front has the old one's extent, since that is a context
pub front_of_extent : (old new : State) → IsContext old.context → IsFrontOf old new → HasExtent (extent_of old) new
front_of_extent old new c x =
    let entries : take (length old.context.entries) new.context.entries ≡ old.context.entries = ap (λ (s : State). s.context.entries) x.is in
    let universes : take (length old.context.universes) new.context.universes ≡ old.context.universes = ap (λ (s : State). s.context.universes) x.is in
    record {
      entries_within = no_longer old.context.entries new.context.entries entries;
      universes_within = no_longer old.context.universes new.context.universes universes;
      levels_within = x.levels;
      alone = inr (subst (λ (es : List Item). AlwaysValid (laws_entries es)) (sym entries) c.valid);
      entries_held = subst (λ (es : List Item). entries_bound (laws_entries es) ≤ old.context.levels) (sym entries) c.entries_held;
      universes_held = subst (λ (us : List Universe). All (λ u. u.variable < old.context.levels) us) (sym universes) c.universes_held;
    }
