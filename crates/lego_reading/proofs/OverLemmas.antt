-- The core of a written term names only entries and level variables of the context, and its levels are small.
use Rattle.std.proofs.Common.{◌≡◌, ℕ, zero, suc, ◌+◌, ◌≤◌, ◌<◌, Bool, true, false, nat_eq, if◌then◌else◌, List, [], ◌∷◌, length, take, position, slice_get, Option, Some, None, option_map, option_and_then, IsSome, IfSome, refl, sym, ◌∙◌, subst, arith}
use Rattle.std.proofs.lemmas.Bool.Decides.{nat_tests}
use Rattle.lego_base.specs.declared.place.Place.{Place}
use Rattle.lego_term.specs.declared.binder.Binder.{Binder}
use Rattle.lego_term.specs.declared.level.Level.{Level}
use Rattle.lego_term.specs.Trees.{Core, Var, Const, Prop, Univ, Pi, Lam, App, Sigma, Pair, Fst, Snd, Let, loose}
use Rattle.lego_laws.specs.Entries.{Entry, entry_of, core_bodies}
use Rattle.lego_laws.specs.Ranges.{level_bound, levels_bound}
use Rattle.lego_grammar.specs.Written.{Written}
use Rattle.lego_grammar.specs.Scopes.{is_named, entry_named}
use Rattle.lego_grammar.specs.Reading.{ReadsExplicitly}
use Rattle.lego_inference.specs.declared.entry.Entry.{Entry as Item}
use Rattle.lego_inference.specs.Entries.{laws_entry, laws_entries}
use Rattle.lego_inference.specs.Locals.{EachLeaf, IsOver}
use Rattle.lego_inference.specs.Calls.{IsTermOver}
use Rattle.lego_context.specs.Contexts.{Contents, AreOverFronts}
use Rattle.lego_inference.specs.Binders.{BinderKind, EachPart}
use Rattle.lego_inference.proofs.PartLemmas.{parts_follow}
use Rattle.lego_reading.specs.Written.{HasSmallLevels}
use Rattle.lego_reading.specs.Universes.{is_place, variables_for, with_universes}
use Rattle.lego_reading.proofs.EntryLemmas.{position-cons}
use Rattle.lego_reading.proofs.CoreLemmas.{core_parts}
use Rattle.lego_reading.proofs.CutLemmas.{entries_stay, levels_grow}

abbrev AnyBinder : BinderKind → Binder → Type 0
AnyBinder kind x = Unit {0}

-- the level is held, and is small
abbrev IsHeldLevel : ℕ → Level → Type 0
IsHeldLevel n l = (l.plus ≤ 1000000) × (level_bound l ≤ n)

module _ (C : ℕ → Type 0) (n : ℕ) where
  parts_of_leaves : (t : Core) → EachLeaf C (λ l. l.plus ≤ 1000000) t → levels_bound t ≤ n → EachPart AnyBinder C (IsHeldLevel n) t
  parts_of_leaves (Var i) h b = tt
  parts_of_leaves (Const k) h b = h
  parts_of_leaves Prop h b = tt
  parts_of_leaves (Univ l) h b = (h, b)
  parts_of_leaves (Pi x a r) h b = (tt, parts_of_leaves a h.1 (omega arith), parts_of_leaves r h.2 (omega arith))
  parts_of_leaves (Lam x a r) h b = (tt, parts_of_leaves a h.1 (omega arith), parts_of_leaves r h.2 (omega arith))
  parts_of_leaves (App k a r) h b = (parts_of_leaves a h.0 (omega arith), parts_of_leaves r h.1 (omega arith))
  parts_of_leaves (Sigma x a r) h b = (tt, parts_of_leaves a h.1 (omega arith), parts_of_leaves r h.2 (omega arith))
  parts_of_leaves (Pair x a r m o) h b =
      (tt, parts_of_leaves a h.1 (omega arith), parts_of_leaves r h.2 (omega arith), parts_of_leaves m h.3 (omega arith), parts_of_leaves o h.4 (omega arith))
  parts_of_leaves (Fst m) h b = parts_of_leaves m h b
  parts_of_leaves (Snd m) h b = parts_of_leaves m h b
  parts_of_leaves (Let x a r) h b = (tt, parts_of_leaves a h.1 (omega arith), parts_of_leaves r h.2 (omega arith))

  leaves_of_parts : (t : Core) → EachPart AnyBinder C (IsHeldLevel n) t → EachLeaf C (λ l. l.plus ≤ 1000000) t
  leaves_of_parts t h = parts_follow {P = AnyBinder} {P' = AnyBinder} {C = C} {C' = C} {L = IsHeldLevel n} {L' = λ l. l.plus ≤ 1000000} (λ kind x i. i) (λ k i. i) (λ l i. i.0) t h

  bound_of_parts : (t : Core) → EachPart AnyBinder C (IsHeldLevel n) t → levels_bound t ≤ n
  bound_of_parts (Var i) h = omega arith
  bound_of_parts (Const k) h = omega arith
  bound_of_parts Prop h = omega arith
  bound_of_parts (Univ l) h = h.1
  bound_of_parts (Pi x a r) h = let p = bound_of_parts a h.1 in let q = bound_of_parts r h.2 in omega arith
  bound_of_parts (Lam x a r) h = let p = bound_of_parts a h.1 in let q = bound_of_parts r h.2 in omega arith
  bound_of_parts (App k a r) h = let p = bound_of_parts a h.0 in let q = bound_of_parts r h.1 in omega arith
  bound_of_parts (Sigma x a r) h = let p = bound_of_parts a h.1 in let q = bound_of_parts r h.2 in omega arith
  bound_of_parts (Pair x a r m o) h =
      let p = bound_of_parts a h.1 in let q = bound_of_parts r h.2 in let u = bound_of_parts m h.3 in let v = bound_of_parts o h.4 in omega arith
  bound_of_parts (Fst m) h = bound_of_parts m h
  bound_of_parts (Snd m) h = bound_of_parts m h
  bound_of_parts (Let x a r) h = let p = bound_of_parts a h.1 in let q = bound_of_parts r h.2 in omega arith

-- an entry of a front is one of all
found : (es : List Item) (at k : ℕ) → IsSome (entry_of (laws_entries (take at es)) k) → IsSome (entry_of (laws_entries es) k)
found es zero k h = cc
found [] (suc at) k h = cc
found (e ∷ es) (suc at) k h =
    elim (nat_eq e.number k) as (λ b. IsSome (if b then Some (laws_entry e) else entry_of (laws_entries (take at es)) k)
    → IsSome (if b then Some (laws_entry e) else entry_of (laws_entries es) k)) [
      | true ↦ λ i. refl
      | false ↦ λ i. found es at k i
    ] h

-- an entry that has the body
record HasBody (es : List Item) (t : Core) : Type 0 where
  at : ℕ
  entry : Item
  there : slice_get es at ≡ Some entry
  body : entry.body ≡ Some t

body_at : (es : List Item) (k : ℕ) (t : Core) → core_bodies (laws_entries es) k ≡ Some t → HasBody es t
body_at [] k t e = cc
body_at (x ∷ es) k t e =
    elim (nat_eq x.number k) as (λ b. option_and_then (λ (y : Entry). y.body) (if b then Some (laws_entry x) else entry_of (laws_entries es) k) ≡ Some t → HasBody (x ∷ es) t) [
      | true ↦ λ is. record { at = 0; entry = x; there = refl; body = is }
      | false ↦ λ is. (let r = body_at es k t is in record { at = suc r.at; entry = r.entry; there = r.there; body = r.body })
    ] e

some_body : (P : Core → Type 0) (o : Option Core) (t : Core) → IfSome o P → o ≡ Some t → P t
some_body P None t h e = cc
some_body P (Some m) t h e = let same : m ≡ t = cc in subst P same h

named_entry : (es : List Entry) (n : ℕ) (e : Entry) → entry_named es n ≡ Some e → IsSome (entry_of es e.number)
named_entry [] n e is = cc
named_entry (x ∷ es) n e is =
    elim (is_named n x.name) as (λ b. (if b then Some x else entry_named es n) ≡ Some e → IsSome (entry_of (x ∷ es) e.number)) [
      | true ↦ λ h. here h
      | false ↦ λ h. later (nat_eq x.number e.number) (named_entry es n e h)
    ] is
  where
    itself : (k : ℕ) → nat_eq k k ≡ true
    itself k = grind (arith, nat_tests)

    here : Some x ≡ Some e → IsSome (entry_of (x ∷ es) e.number)
    here h = let same : x ≡ e = cc in subst (λ (y : Entry). IsSome (entry_of (x ∷ es) y.number)) same (rw (itself x.number) refl)

    later : (b : Bool) → IsSome (entry_of es e.number) → IsSome (if b then Some x else entry_of es e.number)
    later true h = refl
    later false h = h

below_later : (o : Option ℕ) (n i : ℕ) → ((j : ℕ) → o ≡ Some j → j < n) → option_map suc o ≡ Some i → i < suc n
below_later None n i h e = cc
below_later (Some j) n i h e = let l = h j refl in let is : suc j ≡ i = cc in omega arith

position_below : (q : Place → Bool) (ps : List Place) (i : ℕ) → position q ps ≡ Some i → i < length ps
position_below q [] i e = cc
position_below q (p ∷ ps) i e =
    elim (q p) as (λ b. (if b then Some 0 else option_map suc (position q ps)) ≡ Some i → i < suc (length ps)) [
      | true ↦ λ h. (let is : 0 ≡ i = cc in omega arith)
      | false ↦ λ h. below_later (position q ps) (length ps) i (λ j a. position_below q ps j a) h
    ] (sym (position-cons q p ps) ∙ e)

variable_below : (next : ℕ) (ps : List Place) (p : Place) (u : ℕ) → variables_for next ps p ≡ Some u → suc u ≤ next + length ps
variable_below next ps p u e = by_place (position (is_place p) ps) refl e
  where
    by_place : (o : Option ℕ) → position (is_place p) ps ≡ o → option_map (λ i. next + i) o ≡ Some u → suc u ≤ next + length ps
    by_place None a h = cc
    by_place (Some i) a h = let l = position_below (is_place p) ps i a in let is : next + i ≡ u = cc in omega arith

module _ (c : Contents) where
  each_body : (n : ℕ) → c.levels ≤ n → AreOverFronts c → (k : ℕ) (t : Core) → core_bodies (laws_entries c.entries) k ≡ Some t
      → EachPart AnyBinder (λ j. IsSome (entry_of (laws_entries c.entries) j)) (IsHeldLevel n) t
  each_body n more over k t e =
      let found_body = body_at c.entries k t e in
      let is_over : IsTermOver (take found_body.at c.entries) [] c.levels t = some_body _ found_body.entry.body t (over found_body.at found_body.entry found_body.there).body found_body.body in
      parts_of_leaves (λ j. IsSome (entry_of (laws_entries c.entries) j)) n t
      (parts_follow {P = AnyBinder} {P' = AnyBinder} {C = λ j. IsSome (entry_of (laws_entries (take found_body.at c.entries)) j)}
      {C' = λ j. IsSome (entry_of (laws_entries c.entries) j)} {L = λ l. l.plus ≤ 1000000} {L' = λ l. l.plus ≤ 1000000} (λ kind x i. i) (λ j h. found c.entries found_body.at j h) (λ l i. i) t is_over.names)
      (let l = is_over.levels_within in omega arith)

  core_is_over : (ps : List Place) (s : Written) (core : Core) → AreOverFronts c → HasSmallLevels s
      → ReadsExplicitly (laws_entries c.entries) (variables_for c.levels ps) [] s core → loose core ≤ 0
      → IsOver (laws_entries c.entries) [] (c.levels + length ps) core
  core_is_over ps s core over small r closed =
      let n = c.levels + length ps in
      let es = laws_entries c.entries in
      let C : ℕ → Type 0 = λ j. IsSome (entry_of es j) in
      let parts : EachPart AnyBinder C (IsHeldLevel n) core =
      core_parts AnyBinder C (IsHeldLevel n) (λ k. k ≤ 1000000) es (variables_for c.levels ps) (each_body n (omega arith) over)
      (λ m e is. named_entry es m e is) (λ p u is. (omega arith, variable_below c.levels ps p u is)) (λ m h. (h, omega arith)) r tt small in
      record { names = leaves_of_parts C n core parts; variables = closed; levels_within = bound_of_parts C n core parts }

pub core_over : (c : Contents) (ps : List Place) (s : Written) (core : Core) → AreOverFronts c → HasSmallLevels s
    → ReadsExplicitly (laws_entries c.entries) (variables_for c.levels ps) [] s core → loose core ≤ 0
    → IsTermOver (with_universes c ps).entries [] (with_universes c ps).levels core
core_over c ps s core over small r closed =
    subst (λ es. IsOver (laws_entries es) [] (with_universes c ps).levels core) (sym (entries_stay c ps))
    (subst (λ n. IsOver (laws_entries c.entries) [] n core) (sym (levels_grow c ps)) (core_is_over c ps s core over small r closed))
