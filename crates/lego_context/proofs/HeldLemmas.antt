-- The entries of a context and local types over it name its entries alone.
use Rattle.std.proofs.Common.{◌≡◌, ℕ, ◌≤◌, Bool, true, false, IsTrue, is_some, IsSome, nat_eq, List, [], ◌∷◌, ◌++◌, take, length, slice_get, Option, Some, None, IfSome, refl, sym, ap, ◌∙◌, subst, append_assoc}
use Rattle.std.proofs.lemmas.List.{map-append}
use Rattle.lego_term.specs.Trees.{Core}
use Rattle.lego_laws.specs.Entries.{Entry, entry_of}
use Rattle.lego_laws.proofs.lemmas.typing.Rules.{known}
use Rattle.lego_inference.specs.declared.entry.Entry.{Entry as Item}
use Rattle.lego_inference.specs.declared.locals.Local.{Local}
use Rattle.lego_inference.specs.Calls.{AreHeld, IsTermOver}
use Rattle.lego_inference.specs.Entries.{laws_entry, laws_entries, HoldsInEntries}
use Rattle.lego_inference.specs.Locals.{types_of, NamesEntries}
use Rattle.lego_context.specs.Calls.{AreLocals}
use Rattle.lego_context.specs.Contexts.{Contents, IsContext}
use Rattle.lego_context.proofs.ContextLemmas.{held, scoped}
use Rattle.lego_context.proofs.FrontLemmas.{are_over_fronts}
use Rattle.lego_context.proofs.LeafLemmas.{leaves-weaker}

-- what has an entry among the first has one among all
entry_among : (es ds : List Entry) (k : ℕ) → IsTrue (is_some (entry_of es k)) → IsTrue (is_some (entry_of (es ++ ds) k))
entry_among [] ds k h = cc
entry_among (e ∷ es) ds k h = by_test (nat_eq e.number k) refl (entry_among es ds k)
  where
    by_test : (b : Bool) → nat_eq e.number k ≡ b → (IsTrue (is_some (entry_of es k)) → IsTrue (is_some (entry_of (es ++ ds) k))) → IsTrue (is_some (entry_of (e ∷ (es ++ ds)) k))
    by_test true t rest = rw t refl
    by_test false t rest = rw t (rest (rw t at h))

module _ {X : Type 0} where
  item_behind : (xs : List X) (x : X) (ys : List X) → slice_get (xs ++ x ∷ ys) (length xs) ≡ Some x
  item_behind [] x ys = refl
  item_behind (z ∷ xs) x ys = item_behind xs x ys

  front_taken : (xs ys : List X) → take (length xs) (xs ++ ys) ≡ xs
  front_taken [] ys = refl
  front_taken (x ∷ xs) ys = ap (λ zs. x ∷ zs) (front_taken xs ys)

module _ (c : Contents) (x : IsContext c) where
  -- a term over the first entries names entries
  names_more : (before after : List Item) → c.entries ≡ before ++ after → (levels : ℕ) (m : Core) → IsTermOver before [] levels m → NamesEntries (laws_entries c.entries) m
  names_more before after is levels m h =
      subst (λ (es : List Entry). NamesEntries es m) (sym (ap laws_entries is ∙ map-append laws_entry before after))
      (leaves-weaker (λ k. IsSome (entry_of (laws_entries before) k)) (λ k. IsSome (entry_of (laws_entries before ++ laws_entries after) k)) (λ l. l.plus ≤ 1000000) (λ k found. entry_among (laws_entries before) (laws_entries after) k found) m h.names)

  body_names : (before after : List Item) → c.entries ≡ before ++ after → (levels : ℕ) (o : Option Core) → IfSome o (λ m. IsTermOver before [] levels m) → IfSome o (NamesEntries (laws_entries c.entries))
  body_names before after is levels None h = tt
  body_names before after is levels (Some m) h = names_more before after is levels m h

  each_names : (before after : List Item) → c.entries ≡ before ++ after → HoldsInEntries (NamesEntries (laws_entries c.entries)) (laws_entries after)
  each_names before [] is = tt
  each_names before (e ∷ after) is =
      let there : slice_get c.entries (length before) ≡ Some e = ap (λ (es : List Item). slice_get es (length before)) is ∙ item_behind before e after in
      let first : take (length before) c.entries ≡ before = ap (λ (es : List Item). take (length before) es) is ∙ front_taken before (e ∷ after) in
      let over = are_over_fronts c x (length before) e there in (
        (
          names_more before (e ∷ after) is c.levels e.ty (subst (λ (es : List Item). IsTermOver es [] c.levels e.ty) first over.type),
          body_names before (e ∷ after) is c.levels e.body (subst (λ (es : List Item). IfSome e.body (λ m. IsTermOver es [] c.levels m)) first over.body),
        ),
        each_names (before ++ e ∷ []) after (is ∙ sym (append_assoc before (e ∷ []) after)),
      )

  -- the types and bodies of entries name entries
  pub named_entries : HoldsInEntries (NamesEntries (laws_entries c.entries)) (laws_entries c.entries)
  named_entries = each_names [] c.entries refl

  pub are_held : (locals : List Local) → AreLocals c locals → AreHeld c.entries locals c.levels
  are_held locals l = record {
    entries = x.entries_held;
    types = l.levels;
    named_entries = named_entries;
    named_types = l.names;
    scoped = let v = held c x in scoped c x v.0 (types_of locals) (known (l.types v.0 v.1)).locals;
    few_locals = l.few;
    few_levels = x.few_levels;
  }
