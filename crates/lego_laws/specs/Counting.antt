-- The steps of a walk through two terms are among those of their normalisation sequences.
use Rattle.std.specs.Prelude.{◌≡◌, ℕ, ◌+◌, ◌≤◌, ◌<◌, Some, List, [], ◌∷◌}
use Rattle.lego_term.specs.Trees.{Core, Equal}
use Rattle.lego_term.specs.Parts.{Branch, parts_of}
use Rattle.lego_term.specs.Sequences.{head_step, normal_step, after, Ends, CostMoreThan}
use Rattle.lego_laws.specs.Parallel.{CoreBodies}
use Rattle.lego_laws.specs.HeadForms.{IsHeadForm}

-- the term's normalisation sequence has n steps, and perhaps more
abbrev pub HasSteps : CoreBodies → Core → ℕ → Type 0
HasSteps b t n = (u : Core) × (after (normal_step b) n t ≡ Some u)

-- the sequences of these parts, from the left on, have n steps together, and perhaps more
pub data PartsHaveSteps (b : CoreBodies) : List Branch → ℕ → Type 0 where
  up_to_here : {ps : List Branch} → PartsHaveSteps b ps 0
  and_then : (i : ℕ) {n : ℕ} {p : Branch} {ps : List Branch} → HasSteps b p.term i → PartsHaveSteps b ps n → PartsHaveSteps b (p ∷ ps) (i + n)

mutual
  -- a walk through the head forms of two terms that aren't equal and then their parts in pairs, from the left on, which
  -- may stop anywhere, with the numbers of head steps that it made on both sides
  pub data Walked (b : CoreBodies) : Core → Core → ℕ → ℕ → Type 0 where
    unvisited : {t u : Core} → Walked b t u 0 0
    on_the_way : {t t' u u' : Core} (i j : ℕ)
        → (Equal t u → ⊥) → after (head_step b) i t ≡ Some t' → after (head_step b) j u ≡ Some u' → Walked b t u i j
    through_parts : {t t' u u' : Core} {i j m n : ℕ}
        → (Equal t u → ⊥) → Ends (head_step b) t i t' → Ends (head_step b) u j u' → PartsWalked b (parts_of t') (parts_of u') m n → Walked b t u (i + m) (j + n)

  pub data PartsWalked (b : CoreBodies) : List Branch → List Branch → ℕ → ℕ → Type 0 where
    stopped : {ps qs : List Branch} → PartsWalked b ps qs 0 0
    next_part : {p q : Branch} {ps qs : List Branch} {i j m n : ℕ}
        → Walked b p.term q.term i j → PartsWalked b ps qs m n → PartsWalked b (p ∷ ps) (q ∷ qs) (i + m) (j + n)

-- head steps are the first steps of the normalisation sequence
abbrev pub HeadStepsAreCounted : Type 0
HeadStepsAreCounted =
    (b : CoreBodies) (t u : Core) (i n : ℕ) → after (head_step b) i t ≡ Some u → HasSteps b u n → HasSteps b t (i + n)

-- what the normalisation sequence of a term on the head sequence reaches, the whole sequence reaches; where it ends, it ends
abbrev pub HeadStepsComeFirst : Type 0
HeadStepsComeFirst =
    (b : CoreBodies) (t h u : Core) (i n : ℕ) → after (head_step b) i t ≡ Some h
    → (after (normal_step b) n h ≡ Some u → after (normal_step b) (i + n) t ≡ Some u)
    × (Ends (normal_step b) h n u → Ends (normal_step b) t (i + n) u)

-- the steps of a head form's parts are steps of the head form
abbrev pub PartsStepsAreCounted : Type 0
PartsStepsAreCounted = (b : CoreBodies) (t : Core) (n : ℕ) → IsHeadForm b t → PartsHaveSteps b (parts_of t) n → HasSteps b t n

-- a sequence that has n steps has fewer too
abbrev pub FewerStepsAreCounted : Type 0
FewerStepsAreCounted = (b : CoreBodies) (t : Core) (m n : ℕ) → HasSteps b t n → m ≤ n → HasSteps b t m

-- a walk's steps on each side are steps of that side's sequence
abbrev pub WalkedStepsAreCounted : Type 0
WalkedStepsAreCounted = (b : CoreBodies) (t u : Core) (i j : ℕ) → Walked b t u i j → HasSteps b t i × HasSteps b u j

-- a walk of more than n steps shows that the two sequences together have more than n
abbrev pub LongWalksAreCostly : Type 0
LongWalksAreCostly = (b : CoreBodies) (t u : Core) (i j n : ℕ) → Walked b t u i j → n < i + j → CostMoreThan b t u n

-- what the parts' sequences reach after n steps together, where all steps of a part come before those of the next
pub data PartsReach (b : CoreBodies) : List Branch → ℕ → List Branch → Type 0 where
  unmoved : {ps : List Branch} → PartsReach b ps 0 ps
  within : (i : ℕ) {p : Branch} {ps : List Branch} {u : Core}
      → after (normal_step b) i p.term ≡ Some u → PartsReach b (p ∷ ps) i (record { under = p.under; term = u } ∷ ps)
  behind : (i : ℕ) {n : ℕ} {p : Branch} {ps qs : List Branch} {u : Core}
      → Ends (normal_step b) p.term i u → PartsReach b ps n qs → PartsReach b (p ∷ ps) (i + n) (record { under = p.under; term = u } ∷ qs)

-- the ends of the parts' sequences, of n steps together
pub data PartsEnd (b : CoreBodies) : List Branch → ℕ → List Branch → Type 0 where
  no_part : PartsEnd b [] 0 []
  one_more : (i : ℕ) {n : ℕ} {p : Branch} {ps qs : List Branch} {u : Core}
      → Ends (normal_step b) p.term i u → PartsEnd b ps n qs → PartsEnd b (p ∷ ps) (i + n) (record { under = p.under; term = u } ∷ qs)

-- what the sequences of a head form's parts reach, its own sequence reaches in its parts
abbrev pub PartsAreReached : Type 0
PartsAreReached =
    (b : CoreBodies) (t : Core) (n : ℕ) (qs : List Branch) → IsHeadForm b t → PartsReach b (parts_of t) n qs
    → (u : Core) × (after (normal_step b) n t ≡ Some u) × (parts_of u ≡ qs)

-- where they end, its own sequence ends
abbrev pub PartsEndTogether : Type 0
PartsEndTogether =
    (b : CoreBodies) (t : Core) (n : ℕ) (qs : List Branch) → IsHeadForm b t → PartsEnd b (parts_of t) n qs
    → (u : Core) × Ends (normal_step b) t n u × (parts_of u ≡ qs)
