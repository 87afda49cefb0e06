-- Which entries an entry reaches by mention.
use Rattle.std.specs.Prelude.{◌≡◌, ℕ, List, Some, IsTrue, Bool, false, not, nat_eq, ◌||◌, unwrap_or, option_map}
use Rattle.lego_term.specs.Levels.{Assignment}
use Rattle.lego_term.specs.Trees.{Core, mentions}
use Rattle.lego_laws.specs.Entries.{Entry, entry_of, entry_at}
use Rattle.lego_laws.specs.Strengthening.{EntryMentions}

-- the entry mentions the constant, in its type or body
abbrev pub entry_mentions : ℕ → Entry → Bool
entry_mentions k e = mentions k e.ty || unwrap_or (option_map (mentions k) e.body) false

-- the term reaches the constant: it mentions it, or it reaches one whose entry mentions it
pub data Reaches (es : List Entry) (m : Core) : ℕ → Type 0 where
  mentioned : {k : ℕ} → IsTrue (mentions k m) → Reaches es m k
  further : {i k : ℕ} {e : Entry} → Reaches es m i → entry_of es i ≡ Some e → IsTrue (entry_mentions k e) → Reaches es m k

-- the entry reaches the constant, through its type or its body
pub data EntryReaches (es : List Entry) (e : Entry) : ℕ → Type 0 where
  by_type : {k : ℕ} → Reaches es e.ty k → EntryReaches es e k
  by_body : {m : Core} {k : ℕ} → e.body ≡ Some m → Reaches es m k → EntryReaches es e k

-- neither an entry that doesn't reach a constant, nor an entry that it reaches, mentions it, at any assignment
abbrev pub UnreachedIsUnmentioned : Type 0
UnreachedIsUnmentioned =
    (es : List Entry) (e : Entry) (k : ℕ) → (EntryReaches es e k → ⊥) → (v : Assignment)
    → EntryMentions (λ i. not (nat_eq k i)) (entry_at v e)
    × ((i : ℕ) (x : Entry) → EntryReaches es e i → entry_of es i ≡ Some x → EntryMentions (λ i. not (nat_eq k i)) (entry_at v x))
