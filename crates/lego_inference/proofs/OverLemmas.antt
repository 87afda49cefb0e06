-- A rule type is over the entries, the locals and the level variables of the context and of the term's nodes.
use Rattle.std.proofs.Common.{ℕ, ◌+◌, ◌≤◌, Option, Some, None, IfSome, IsSome, List, [], ◌∷◌, arith}
use Rattle.std.specs.List.{AllByRecursion}
use Rattle.lego_term.specs.Trees.{Core, Var, Const, Prop, Univ, Pi, Lam, App, Sigma, Pair, Fst, Snd, Let}
use Rattle.lego_laws.specs.Entries.{Entry, entry_of}
use Rattle.lego_laws.specs.Principal.{body_bound, entries_bound}
use Rattle.lego_laws.specs.RuleTypes.{nodes}
use Rattle.lego_laws.specs.Places.{Site, RuleTypeAt}
use Rattle.lego_laws.specs.Ranges.{level_bound, levels_bound, locals_bound}
use Rattle.lego_inference.specs.Binders.{EachPart}
use Rattle.lego_inference.specs.Entries.{HoldsInEntries}
use Rattle.lego_inference.specs.Locals.{NamesEntries, IsOver}
use Rattle.lego_inference.specs.private.Judging.{IsReady}
use Rattle.lego_inference.proofs.PartLemmas.{parts_follow}
use Rattle.lego_inference.proofs.RuleTypeParts.{rule_type_parts}
use Rattle.lego_inference.proofs.ReadyLemmas.{loose_of}

-- each constant has an entry, and each level is small, and its variable is below a number
module _ (es : List Entry) (top : ℕ) where
  abbrev IsWithin : Core → Type 0
  IsWithin t = EachPart (λ kind x. Unit {0}) (λ k. IsSome (entry_of es k)) (λ l. (l.plus ≤ 1000000) × (level_bound l ≤ top)) t

  named_within : (t : Core) → NamesEntries es t → levels_bound t ≤ top → IsWithin t
  named_within (Var i) h le = tt
  named_within (Const k) h le = h
  named_within Prop h le = tt
  named_within (Univ l) h le = (h, le)
  named_within (Pi x a r) h le = (tt, named_within a h.1 (omega arith), named_within r h.2 (omega arith))
  named_within (Lam x a m) h le = (tt, named_within a h.1 (omega arith), named_within m h.2 (omega arith))
  named_within (Sigma x a r) h le = (tt, named_within a h.1 (omega arith), named_within r h.2 (omega arith))
  named_within (Let x m n) h le = (tt, named_within m h.1 (omega arith), named_within n h.2 (omega arith))
  named_within (App k m n) h le = (named_within m h.0 (omega arith), named_within n h.1 (omega arith))
  named_within (Pair x a r m n) h le =
      (tt, named_within a h.1 (omega arith), named_within r h.2 (omega arith), named_within m h.3 (omega arith), named_within n h.4 (omega arith))
  named_within (Fst m) h le = named_within m h le
  named_within (Snd m) h le = named_within m h le

  levels_within : (t : Core) → IsWithin t → levels_bound t ≤ top
  levels_within (Var i) h = omega arith
  levels_within (Const k) h = omega arith
  levels_within Prop h = omega arith
  levels_within (Univ l) h = h.1
  levels_within (Pi x a r) h = let i = levels_within a h.1 in let j = levels_within r h.2 in omega arith
  levels_within (Lam x a m) h = let i = levels_within a h.1 in let j = levels_within m h.2 in omega arith
  levels_within (Sigma x a r) h = let i = levels_within a h.1 in let j = levels_within r h.2 in omega arith
  levels_within (Let x m n) h = let i = levels_within m h.1 in let j = levels_within n h.2 in omega arith
  levels_within (App k m n) h = let i = levels_within m h.0 in let j = levels_within n h.1 in omega arith
  levels_within (Pair x a r m n) h =
      let i = levels_within a h.1 in
      let j = levels_within r h.2 in
      let k = levels_within m h.3 in
      let l = levels_within n h.4 in
      omega arith
  levels_within (Fst m) h = levels_within m h
  levels_within (Snd m) h = levels_within m h

  body_within : (o : Option Core) → IfSome o (NamesEntries es) → body_bound o ≤ top → IfSome o IsWithin
  body_within None h le = tt
  body_within (Some m) h le = named_within m h le

  entries_within : (xs : List Entry) → HoldsInEntries (NamesEntries es) xs → entries_bound xs ≤ top → HoldsInEntries IsWithin xs
  entries_within [] h le = tt
  entries_within (e ∷ xs) h le = ((named_within e.ty h.0.0 (omega arith), body_within e.body h.0.1 (omega arith)), entries_within xs h.1 (omega arith))

  types_within : (g : List Core) → AllByRecursion (NamesEntries es) g → locals_bound g ≤ top → AllByRecursion IsWithin g
  types_within [] h le = tt
  types_within (a ∷ g) h le = (named_within a h.0 (omega arith), types_within g h.1 (omega arith))

pub rule_type_over : (es : List Entry) (s : Site) (m a : Core) → entries_bound es ≤ s.first → locals_bound s.types ≤ s.first → HoldsInEntries (NamesEntries es) es → AllByRecursion (NamesEntries es) s.types → IsReady es s m → RuleTypeAt es s m a → IsOver es s.types (s.first + nodes m) a
rule_type_over es s m a le lg in_entries in_types ready rule =
    let top = s.first + nodes m in
    let lm = ready.over.levels_within in
    let within =
    rule_type_parts (λ kind x. Unit {0}) (λ k. IsSome (entry_of es k)) (λ l. (l.plus ≤ 1000000) × (level_bound l ≤ top)) es (entries_within es top es in_entries (omega arith)) (omega arith, omega arith) (λ i. i) top (λ i lt. (omega arith, omega arith)) (omega arith) (types_within es top s.types in_types (omega arith)) (named_within es top m ready.over.names (omega arith)) rule in
    record {
      names = parts_follow {P = λ kind x. Unit {0}} (λ kind x h. h) (λ k h. h) (λ l h. h.0) a within;
      variables = loose_of ready rule;
      levels_within = levels_within es top a within;
    }
