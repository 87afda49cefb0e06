-- Paths of parts through one of the terms that are compared.
use Rattle.std.specs.Prelude.{◌≡◌, ℕ, suc, Some, slice_get}
use Rattle.lego_term.specs.Trees.{Core}
use Rattle.lego_term.specs.Parts.{Branch, parts_of, IsTooLarge}
use Rattle.lego_term.specs.Sequences.{head_step, after, HeadForm}
use Rattle.lego_laws.specs.Parallel.{CoreBodies}

mutual
  -- a path of so many parts, from the term on, and then head steps to another
  pub data Leads (b : CoreBodies) : Core → ℕ → Core → Type 0 where
    l_steps : {t u : Core} (i : ℕ) → after (head_step b) i t ≡ Some u → Leads b t 0 u
    l_heads : {t h u : Core} {n : ℕ} → HeadForm b t h → FormLeads b h n u → Leads b t n u

  -- the same from a head form on, through one of its parts
  pub data FormLeads (b : CoreBodies) : Core → ℕ → Core → Type 0 where
    l_part : {h u : Core} {n : ℕ} {p : Branch} (i : ℕ) → slice_get (parts_of h) i ≡ Some p → Leads b p.term n u → FormLeads b h (suc n) u

-- a path leads to a term over a limit of terms, or has `room` parts, one more than may follow
pub data Large (Leading : ℕ → Core → Type 0) (room : ℕ) : ℕ → ℕ → Type 0 where
  tree : {n nodes levels : ℕ} {u : Core} → Leading n u → IsTooLarge u nodes levels → Large Leading room nodes levels
  path : {u : Core} → Leading room u → Large Leading room 1048577 2001

-- a path through the term leads to one that is too large, or has more than 2,000 parts
abbrev pub IsLargeOnAPath : CoreBodies → Core → ℕ → ℕ → Type 0
IsLargeOnAPath b t nodes levels = Large (Leads b t) 2001 nodes levels
