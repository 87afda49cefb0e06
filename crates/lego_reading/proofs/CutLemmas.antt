-- Universes added to a context can be taken back.
use Rattle.std.proofs.Common.{◌≡◌, ℕ, ◌+◌, ◌≤◌, ◌<◌, inr, List, [], ◌∷◌, length, take, Err, refl, sym, ap, ◌∙◌, subst, arith, length-append}
use Rattle.std.specs.Prelude.{All}
use Rattle.std.proofs.lemmas.List.{take_all, take-append-le}
use Rattle.lego_base.specs.declared.place.Place.{Place}
use Rattle.lego_laws.specs.Valid.{AlwaysValid}
use Rattle.lego_laws.specs.Principal.{entries_bound}
use Rattle.lego_inference.specs.declared.entry.Entry.{Entry as Item}
use Rattle.lego_inference.specs.declared.entry.Universe.{Universe}
use Rattle.lego_inference.specs.Entries.{laws_entries}
use Rattle.lego_context.specs.Contexts.{Contents, IsContext}
use Rattle.lego_inference.specs.declared.fault.TypeFault.{TypeFault}
use Rattle.lego_inference.specs.declared.fault.TypeFault.TheVariants as fault
use Rattle.lego_context.specs.Calls.{MakesLevel}
use Rattle.lego_context.specs.Changes.{with_universe}
use Rattle.lego_context.specs.Cutting.{CanBeCut, cut_of}
use Rattle.lego_reading.specs.Universes.{with_universes}

pub entries_stay : (c : Contents) (ps : List Place) → (with_universes c ps).entries ≡ c.entries
entries_stay c [] = refl
entries_stay c (p ∷ ps) = entries_stay (with_universe c p) ps

pub levels_grow : (c : Contents) (ps : List Place) → (with_universes c ps).levels ≡ c.levels + length ps
levels_grow c [] = omega arith
levels_grow c (p ∷ ps) = let e = levels_grow (with_universe c p) ps in omega arith

universes_grow : (c : Contents) (ps : List Place) → length c.universes ≤ length (with_universes c ps).universes
universes_grow c [] = omega arith
universes_grow c (p ∷ ps) =
    let le = universes_grow (with_universe c p) ps in
    let e = length-append c.universes (record { variable = c.levels; place = p } ∷ []) in omega arith

universes_front : (c : Contents) (ps : List Place) (n : ℕ) → n ≤ length c.universes → take n (with_universes c ps).universes ≡ take n c.universes
universes_front c [] n le = refl
universes_front c (p ∷ ps) n le =
    let one : List Universe = record { variable = c.levels; place = p } ∷ [] in
    let e = length-append c.universes one in
    universes_front (with_universe c p) ps n (omega arith) ∙ take-append-le n c.universes one le

universes_stay : (c : Contents) (ps : List Place) → take (length c.universes) (with_universes c ps).universes ≡ c.universes
universes_stay c ps = universes_front c ps (length c.universes) (omega arith) ∙ take_all (length c.universes) c.universes (omega arith)

front_stays : (c : Contents) (ps : List Place) → take (length c.entries) (with_universes c ps).entries ≡ c.entries
front_stays c ps = ap (take (length c.entries)) (entries_stay c ps) ∙ take_all (length c.entries) c.entries (omega arith)

pub can_be_cut : (c : Contents) (ps : List Place) → IsContext c → CanBeCut (with_universes c ps) (length c.entries) (length c.universes) c.levels
can_be_cut c ps is = record {
  entries_within = (let e = ap (λ (es : List Item). length es) (entries_stay c ps) in omega arith);
  universes_within = universes_grow c ps;
  levels_within = (let e = levels_grow c ps in omega arith);
  alone = inr (subst (λ es. AlwaysValid (laws_entries es)) (sym (front_stays c ps)) is.valid);
  entries_held = subst (λ es. entries_bound (laws_entries es) ≤ c.levels) (sym (front_stays c ps)) is.entries_held;
  universes_held = subst (All (λ u. u.variable < c.levels)) (sym (universes_stay c ps)) is.universes_held;
}

pub taken_back : (c : Contents) (ps : List Place) → cut_of (with_universes c ps) (length c.entries) (length c.universes) c.levels ≡ c
taken_back c ps = λ z. record { entries = front_stays c ps z; universes = universes_stay c ps z; levels = c.levels }

-- where no universe is added, the context stays
pub no_level : (old new : Contents) (p : Place) (f : TypeFault) → MakesLevel old p new (Err f) → new ≡ old
no_level old new p (fault.NotAType t g) h = absurd h
no_level old new p (fault.NotAFunction t g) h = absurd h
no_level old new p (fault.NotAPair t g) h = absurd h
no_level old new p (fault.Mismatch t g w) h = absurd h
no_level old new p (fault.Universe k) h = absurd h
no_level old new p (fault.Budget l r) h = absurd h
no_level old new p (fault.TooLarge i j) h = absurd h
no_level old new p (fault.LevelTooBig k n) h = absurd h
no_level old new p (fault.Full of held) h = h.3
no_level old new p (fault.Circular n) h = absurd h
no_level old new p (fault.NameInUse n) h = absurd h
no_level old new p fault.Memory h = h

-- the context to which some universes were added, by the numbers taken before
module _ (c new : Contents) (ps : List Place) (entries universes levels : ℕ)
    (grown : new ≡ with_universes c ps) (a : entries ≡ length c.entries) (b : universes ≡ length c.universes) (l : levels ≡ c.levels) where
  pub cut_back : IsContext c → CanBeCut new entries universes levels
  cut_back is = rw (grown, a, b, l) (can_be_cut c ps is)

  pub cut_is : cut_of new entries universes levels ≡ c
  cut_is = rw (grown, a, b, l) (taken_back c ps)
