-- Universes that are taken back.
use Rattle.std.proofs.Common.{◌≡◌, ℕ, ◌<◌, ◌≤◌, List, [], ◌∷◌, ◌++◌, All, take, length, inr, refl, sym, ◌∙◌, subst, arith}
use Rattle.std.proofs.lemmas.List.{take_all, take-append-le, length-append}
use Rattle.lego_base.specs.declared.place.Place.{Place}
use Rattle.lego_laws.specs.Principal.{entries_bound}
use Rattle.lego_laws.specs.Valid.{AlwaysValid}
use Rattle.lego_inference.specs.declared.entry.Entry.{Entry as Item}
use Rattle.lego_inference.specs.declared.entry.Universe.{Universe}
use Rattle.lego_inference.specs.Entries.{laws_entries}
use Rattle.lego_context.specs.Contexts.{Contents, IsContext}
use Rattle.lego_context.specs.Changes.{with_universe}
use Rattle.lego_context.specs.Cutting.{CanBeCut, cut_of}

module _ (c : Contents) (place : Place) where
  abbrev made : Universe
  made = record { variable = c.levels; place = place }

  same_entries : take (length c.entries) c.entries ≡ c.entries
  same_entries = take_all (length c.entries) c.entries (omega arith)

  same_universes : take (length c.universes) (c.universes ++ made ∷ []) ≡ c.universes
  same_universes = take-append-le (length c.universes) c.universes (made ∷ []) (omega arith) ∙ take_all (length c.universes) c.universes (omega arith)

  pub can_take_back : IsContext c → CanBeCut (with_universe c place) (length c.entries) (length c.universes) c.levels
  can_take_back h = record {
    entries_within = omega arith;
    universes_within = omega (arith, length-append c.universes (made ∷ []));
    levels_within = omega arith;
    alone = inr (subst (λ (es : List Item). AlwaysValid (laws_entries es)) (sym same_entries) h.valid);
    entries_held = subst (λ (es : List Item). entries_bound (laws_entries es) ≤ c.levels) (sym same_entries) h.entries_held;
    universes_held = subst (All (λ (u : Universe). u.variable < c.levels)) (sym same_universes) h.universes_held;
  }

  pub taken_back : cut_of (with_universe c place) (length c.entries) (length c.universes) c.levels ≡ c
  taken_back = rw (same_entries, same_universes) refl

-- the same, by what the calls answer
pub can_take_back_to : (c new : Contents) (place : Place) (n u l : ℕ) → IsContext c → new ≡ with_universe c place → n ≡ length c.entries → u ≡ length c.universes → l ≡ c.levels → CanBeCut new n u l
can_take_back_to c new place n u l h is entries universes levels = rw (is, entries, universes, levels) (can_take_back c place h)

pub taken_back_to : (c new after : Contents) (place : Place) (n u l : ℕ) → new ≡ with_universe c place → n ≡ length c.entries → u ≡ length c.universes → l ≡ c.levels → after ≡ cut_of new n u l → after ≡ c
taken_back_to c new after place n u l is entries universes levels cut =
    let back : cut_of new n u l ≡ c = rw (is, entries, universes, levels) (taken_back c place) in
    cut ∙ back
