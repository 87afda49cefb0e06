-- Values of levels that are numbers of 64 bits.
use Rattle.std.proofs.Common.{ℕ, ◌+◌, ◌<◌, ◌≤◌, ◌^◌, List, [], ◌∷◌, ◌++◌, length, get_or, take, All, Option, Some, None, subst, arith}
use Rattle.std.proofs.lemmas.List.{take_all}
use Rattle.std.proofs.lemmas.List.Elements.{All-nil, All-cons, All-append, All-map}
use Rattle.lego_term.specs.Levels.{Assignment, node_value, level_value}
use Rattle.lego_term.specs.declared.level.Level.{Level}
use Rattle.lego_print.specs.declared.item.Item.{Item}
use Rattle.lego_print.specs.Entries.{item_entry, item_entries}
use Rattle.lego_print.specs.Showable.{IsSmallEntry}

abbrev pub AreSmallLevels : Assignment → List Level → Type 0
AreSmallLevels v ls = All (λ l. level_value v l < 2 ^ 64) ls

pub level_small : (v : Assignment) (l : Level) → ((u : ℕ) → get_or v u 0 < 2 ^ 63) → l.plus < 2 ^ 32 → level_value v l < 2 ^ 64
level_small v l h p = by_base l.base
  where
    by_base : (o : Option ℕ) → node_value v o + l.plus < 2 ^ 64
    by_base None = omega arith
    by_base (Some u) = let small = h u in omega arith

pub one_small : (v : Assignment) (l : Level) → level_value v l < 2 ^ 64 → AreSmallLevels v (l ∷ [])
one_small v l h = All-cons (λ (l : Level). level_value v l < 2 ^ 64) l [] h (All-nil (λ (l : Level). level_value v l < 2 ^ 64))

pub both_small : (v : Assignment) (xs ys : List Level) → AreSmallLevels v xs → AreSmallLevels v ys → AreSmallLevels v (xs ++ ys)
both_small v xs ys h k = All-append (λ (l : Level). level_value v l < 2 ^ 64) xs ys h k

-- what holds of the items, of their entries
pub entries_small : (v : Assignment) (items : List Item) (i : ℕ) → length items ≤ i → All (λ x. IsSmallEntry v (item_entry x)) (take i items) → All (IsSmallEntry v) (item_entries items)
entries_small v items i past h = All-map (IsSmallEntry v) item_entry items (subst (All (λ x. IsSmallEntry v (item_entry x))) (take_all i items past) h)
