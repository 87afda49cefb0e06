-- States with one universe more, and entries that are no holes.
use Rattle.std.proofs.Common.{◌≡◌, ℕ, ◌≤◌, [], ◌∷◌, ◌++◌, take, length, inl, refl, subst, arith}
use Rattle.std.proofs.Math.Seq.{take-length, take-append_seam}
use Rattle.std.proofs.lemmas.List.Elements.{All-take}
use Rattle.lego_base.specs.declared.place.Place.{Place}
use Rattle.lego_term.specs.Trees.{Core, Univ}
use Rattle.lego_term.specs.declared.level.Level.{Level}
use Rattle.lego_term.specs.Levels.{variable_level}
use Rattle.lego_inference.specs.declared.entry.Entry.{Entry as Item}
use Rattle.lego_inference.specs.declared.entry.Universe.{Universe}
use Rattle.lego_context.specs.Entries.{HasNoHole, IsNoHole}
use Rattle.lego_context.specs.Contexts.{Contents, IsContext}
use Rattle.lego_context.specs.Changes.{with_universe}
use Rattle.lego_context.specs.Calls.{CanTakeType}
use Rattle.lego_context.specs.Forgetting.{CanBeForgotten}
use Rattle.lego_undo.specs.declared.state.State.{State}
use Rattle.lego_undo.specs.declared.change.Extent.{Extent}
use Rattle.lego_undo.specs.Histories.{HasExtent, extent_of, front}
use Rattle.lego_undo.proofs.FrontLemmas.{front_of_extent}

-- behind one universe more, the state before has its extent, and is the front of it
pub universe_behind : {old new : Contents} (place : Place) {level : Level} {extent : Extent} → extent ≡ extent_of (record { context = old }) → IsContext old
    → (level ≡ variable_level old.levels) × (new ≡ with_universe old place)
    → HasExtent extent (record { context = new }) × (front extent (record { context = new }) ≡ record { context = old })
universe_behind {old} {new} place e c made =
    let u : Universe = record { variable = old.levels; place = place } in
    let entries : take (length old.entries) old.entries ≡ old.entries = take-length old.entries in
    let universes : take (length old.universes) (old.universes ++ u ∷ []) ≡ old.universes = take-append_seam old.universes (u ∷ []) in
    let before : State = record { context = old } in
    let behind : State = record { context = with_universe old place } in
    let is : front (extent_of before) behind ≡ before = rw (entries, universes) refl in
    let has = front_of_extent before behind c (record { is = is; levels = omega arith }) in
    rw (e, made.1) (has, is)

-- the universe of the next level variable is over the context that holds it
pub universe_is_over : (old : Contents) {new : Contents} (place : Place) {level : Level} {ty : Core} → (level ≡ variable_level old.levels) × (new ≡ with_universe old place)
    → ty ≡ Univ level → HasNoHole new.entries → CanTakeType new ty
universe_is_over old {new} place {level} {ty} made is none =
    let next : CanTakeType (with_universe old place) (Univ (variable_level old.levels)) = record {
      no_hole = subst (λ (c : Contents). HasNoHole c.entries) made.1 none;
      term = record { names = omega arith; variables = omega arith; levels_within = omega arith };
    } in
    rw (is, made.0, made.1) next

-- entries without a hole can stand alone
pub can_be_forgotten : (c : Contents) (at : ℕ) → at ≤ length c.entries → HasNoHole c.entries → CanBeForgotten c at
can_be_forgotten c at within none = record { within = within; alone = inl (All-take (λ (e : Item). IsNoHole e.kind) at c.entries none) }
