-- What holds of each binder, constant and level that a written term says, and of those in the bodies of the entries, holds of the
-- core's.
use Rattle.std.proofs.Common.{◌≡◌, ℕ, IsTrue, List, [], ◌∷◌, map, Some, None}
use Rattle.std.proofs.lemmas.List.Elements.{All-head, All-tail}
use Rattle.lego_base.specs.declared.place.Place.{Place}
use Rattle.lego_term.specs.declared.binder.Binder.{Binder}
use Rattle.lego_term.specs.declared.binder.Mark.{Mark}
use Rattle.lego_term.specs.declared.level.Level.{Level}
use Rattle.lego_term.specs.Levels.{fixed_level, variable_level}
use Rattle.lego_term.specs.Trees.{Core, Sigma}
use Rattle.lego_laws.specs.Entries.{Entry, core_bodies}
use Rattle.lego_grammar.specs.declared.surface.Kind.{Kind}
use Rattle.lego_grammar.specs.declared.surface.Part.{Part}
use Rattle.lego_grammar.specs.Written.{Written}
use Rattle.lego_grammar.specs.Scopes.{Scope, TypeVariables, entry_named}
use Rattle.lego_grammar.specs.Reading.{binder, bind_core, project_core, under_first, ReadsExplicitly}
use Rattle.lego_inference.specs.Binders.{BinderKind, EachPart, EachBinder}
use Rattle.lego_inference.specs.Entries.{HoldsInEntries}
use Rattle.lego_inference.proofs.RuleTypeParts.{body_holds}
use Rattle.lego_reading.specs.Written.{kind_of, EachWritten, EachWrittenBinder}
use Rattle.lego_reading.specs.Binders.{ReadCoresKeepBinders}
use Rattle.lego_reading.proofs.NodeLemmas.{EachValue, parts_of_annotation}

module _ (B : BinderKind → Binder → Type 0) (C : ℕ → Type 0) (L : Level → Type 0) (N : ℕ → Type 0) (es : List Entry) (types : TypeVariables)
    (each : (k : ℕ) (t : Core) → core_bodies es k ≡ Some t → EachPart B C L t)
    (entries : (n : ℕ) (e : Entry) → entry_named es n ≡ Some e → C e.number)
    (variables : (p : Place) (u : ℕ) → types p ≡ Some u → L (variable_level u))
    (numbers : (n : ℕ) → N n → L (fixed_level n)) where
  bound_parts : (kind : Kind) (x : Binder) (a b : Core) → B (kind_of kind) x → EachPart B C L a → EachPart B C L b → EachPart B C L (bind_core kind x a b)
  bound_parts Kind.Lambda x a b h k l = (h, k, l)
  bound_parts Kind.Pi x a b h k l = (h, k, l)
  bound_parts Kind.Sigma x a b h k l = (h, k, l)

  projected_parts : (part : Part) (m : Core) → EachPart B C L m → EachPart B C L (project_core part m)
  projected_parts Part.First m h = h
  projected_parts Part.Second m h = h

  under : (kind : Kind) (mark : Mark) (n : ℕ) (names : List ℕ) (s t : Written)
      → EachWritten B N (Written.Bind kind mark (n ∷ names) s t) → EachWritten B N (under_first kind mark names s t)
  under kind mark n [] s t h = h.2
  under kind mark n (m ∷ names) s t h = (All-tail (B (kind_of kind)) (binder (Some n) mark) (map (λ k. binder (Some k) mark) (m ∷ names)) h.0, h.1, h.2)

  pub core_parts : {scope : Scope} {s : Written} {c : Core}
      → ReadsExplicitly es types scope s c → EachValue B C L scope → EachWritten B N s → EachPart B C L c
  core_parts (ReadsExplicitly.local e) v h = tt
  core_parts (ReadsExplicitly.entry {n = n} {e = e} none is) v h = entries n e is
  core_parts ReadsExplicitly.prop v h = tt
  core_parts (ReadsExplicitly.any_type {p = p} {u = u} is) v h = variables p u is
  core_parts (ReadsExplicitly.type_at {n = n}) v h = numbers n h
  core_parts (ReadsExplicitly.nameless {kind = kind} {mark = mark} {a = a} {b = b} r q) v h =
      bound_parts kind (binder None mark) a b (All-head (B (kind_of kind)) (binder None mark) [] h.0) (core_parts r v h.1) (core_parts q v h.2)
  core_parts (ReadsExplicitly.named {kind = kind} {mark = mark} {n = n} {names = names} {s = s} {t = t} {a = a} {b = b} r q) v h =
      bound_parts kind (binder (Some n) mark) a b (All-head (B (kind_of kind)) (binder (Some n) mark) (map (λ k. binder (Some k) mark) names) h.0)
      (core_parts r v h.1) (core_parts q v (under kind mark n names s t h))
  core_parts (ReadsExplicitly.local_definition r q) v h =
      let m = core_parts r v h.1 in (h.0, m, core_parts q (m, v) h.2)
  core_parts (ReadsExplicitly.apply r q) v h = (core_parts r v h.0, core_parts q v h.1)
  core_parts {scope} (ReadsExplicitly.pair {x = x} {c = c} {a = a} {b = b} r is q o) v h =
      let annotated = parts_of_annotation B C L es scope c (Sigma x a b) each v (core_parts r v h.2) is in
      (annotated.0, annotated.1, annotated.2, core_parts q v h.0, core_parts o v h.1)
  core_parts (ReadsExplicitly.project {part = part} {m = m} r) v h = projected_parts part m (core_parts r v h)

-- what holds of each binder of a written term, and of each of the entries, holds of each binder of its core
pub kept_binders : (B : BinderKind → Binder → Type 0) (es : List Entry) (types : TypeVariables) (s : Written) (core : Core)
    → HoldsInEntries (EachBinder B) es → EachWrittenBinder B s → ReadsExplicitly es types [] s core → EachBinder B core
kept_binders B es types s core held said r =
    core_parts B (λ k. Unit {0}) (λ l. Unit {0}) (λ n. Unit {0}) es types
    (body_holds (EachBinder B) es held) (λ n e is. tt) (λ q u is. tt) (λ n h. tt) r tt said

pub binders_are_kept : ReadCoresKeepBinders
binders_are_kept test es types s core = kept_binders (λ kind x. IsTrue (test kind x)) es types s core
