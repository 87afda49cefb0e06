-- Entries whose level variables are renamed.
use Rattle.std.specs.Prelude.{◌≡◌, ℕ, ◌↔◌, List, map, option_map}
use Rattle.lego_term.specs.Levels.{Assignment, LevelPair, SatisfiesAll}
use Rattle.lego_laws.specs.Entries.{Entry, entries_at, kept}
use Rattle.lego_laws.specs.RuleTypeLaws.{renamed_level, renamed}

abbrev pub renamed_pair : (ℕ → ℕ) → LevelPair → LevelPair
renamed_pair f c = record { low = renamed_level f c.low; high = renamed_level f c.high }

-- the entry with its level variables renamed, in its type, its body and its constraints
abbrev pub renamed_entry : (ℕ → ℕ) → Entry → Entry
renamed_entry f e =
    record {
      number = e.number;
      name = e.name;
      mark = e.mark;
      ty = renamed f e.ty;
      body = option_map (renamed f) e.body;
      hypotheses = e.hypotheses;
      constraints = map (renamed_pair f) e.constraints;
    }

-- renamed entries at an assignment are the entries at another, which satisfies their constraints where the first satisfies
-- the renamed ones
abbrev pub RenamedEntriesAreEntries : Type 0
RenamedEntriesAreEntries =
    (f : ℕ → ℕ) (es : List Entry) (v : Assignment)
    → (v' : Assignment) × (entries_at v (map (renamed_entry f) es) ≡ entries_at v' es)
    × (SatisfiesAll v (kept (map (renamed_entry f) es)) ↔ SatisfiesAll v' (kept es))
