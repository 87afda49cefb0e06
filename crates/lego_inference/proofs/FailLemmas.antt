-- Why a check that comes to a term is refused.
use Rattle.std.proofs.Common.{◌≡◌, ℕ, ◌+◌, ◌≤◌, ◌<◌, ◌⊎◌, inl, inr, List, Some, None, refl, ⊎_elim, arith}
use Rattle.lego_base.specs.declared.place.Place.{Place}
use Rattle.lego_term.specs.Trees.{Core}
use Rattle.lego_term.specs.Made.{Fits}
use Rattle.lego_term.specs.Parts.{IsTooLargeOnTheWay, tree}
use Rattle.lego_laws.specs.Parallel.{AreClosed}
use Rattle.lego_laws.specs.Entries.{Entry, core_bodies}
use Rattle.lego_laws.specs.Places.{Want, Nothing, Stated, Site, RuleTypeAt, Part, WantsHead, AreShaped, ArePartsShaped, Comes, IsReached, WantedHead, WantedPair, Fulfils, BelowAtZero}
use Rattle.lego_laws.proofs.lemmas.principal.Shaped.{typed_cores_have_wanted_heads, typed_cores_have_wanted_pairs}
use Rattle.lego_level.specs.declared.constraint.Constraint.{Constraint}
use Rattle.lego_compare.specs.Answers.{ReachesTooLarge}
use Rattle.lego_inference.specs.declared.fault.Counted.TheVariants.{Levels}
use Rattle.lego_inference.specs.declared.fault.TypeFault.{TypeFault}
use Rattle.lego_inference.specs.declared.fault.TypeFault.TheVariants.{Full, Memory, TooLarge}
use Rattle.lego_inference.specs.Causes.{WrongHead, BudgetCause, IsMet, IsPassed, TooLargeCause, TakesLevel, FullCause}
use Rattle.lego_inference.specs.Failures.{TypeFails}
use Rattle.lego_inference.specs.Locals.{seen_at}
use Rattle.lego_inference.specs.private.Judging.{Root, task_on, Inferred, Fails, FailsAt, HeadFails, PairFails, MakingFails, wrong}
use Rattle.lego_inference.proofs.SizeLemmas.{too_large_differs}
use Rattle.lego_inference.proofs.PlaceLemmas.{wanted_stands}

something : {w : Want} → WantsHead w → w ≡ Nothing → ⊥
something WantsHead.a_type e = cc
something WantsHead.a_function e = cc
something WantsHead.a_pair e = cc

stated_some : {a : Core} → Stated a ≡ Nothing → ⊥
stated_some e = cc

module _ {es : List Entry} {s : Site} {m : Core} {place : Place} {k : List Constraint} {got : Core} where
  wanted : {w : Want} → Inferred es place s m k got → WantsHead w → (r : Root) → IsReached (task_on es r) s m w → WantedHead (task_on es r) s m w got
  wanted judged kind r reached = record { kind = kind; stands = wanted_stands (something kind) reached; rule = judged.rule }

  pair_at : {want : Core} → Inferred es place s m k got → (r : Root) → IsReached (task_on es r) s m (Stated want) → WantedPair (task_on es r) s m got want
  pair_at judged r reached = record { stands = wanted_stands stated_some reached; rule = judged.rule }

module _ {es : List Entry} {limit : ℕ} {s : Site} {m : Core} where
  -- the refusal of a part is one of the whole
  pub fails_part : {fault : TypeFault} {s' : Site} {m' : Core} {w' : Want} {i : ℕ} → Part es s m Nothing i s' m' w' → AreShaped es s m Nothing i → Fails es limit s' m' fault → Fails es limit s m fault
  fails_part {w' = w'} p before f = λ r w begun comes. f r w' begun (Comes.part comes p before)

  pub fails_at_part : {fault : TypeFault} {s' : Site} {m' : Core} {w' : Want} {i : ℕ} → Part es s m Nothing i s' m' w' → AreShaped es s m Nothing i → FailsAt es limit s' m' w' fault → Fails es limit s m fault
  fails_at_part p before f = λ r w begun comes. f r begun (Comes.part comes p before) (λ ps. IsReached.part comes p before ps)

  pub fails_memory : Fails es limit s m Memory
  fails_memory = λ r w begun comes. TypeFails.memory

  pub fails_full : 1048576 ≤ s.first → TakesLevel m → Fails es limit s m (Full Levels 1048576)
  fails_full le takes = λ r w begun comes. TypeFails.full begun.measured (FullCause.no_room comes takes le)

  -- a rule type that passes a limit
  pub fails_made : {a : Core} {fault : TypeFault} → RuleTypeAt es s m a → ArePartsShaped es s m Nothing → MakingFails a fault → Fails es limit s m fault
  fails_made rule parts (MakingFails.too_large l) = λ r w begun comes. TypeFails.too_large (TooLargeCause.met (IsMet.rule comes parts rule) l)
  fails_made rule parts MakingFails.memory = fails_memory

  -- a part that passes a limit: the body of a local definition with the value put in
  pub fails_put : {fault : TypeFault} {s' : Site} {m' : Core} {w' : Want} {i : ℕ} → Part es s m Nothing i s' m' w' → AreShaped es s m Nothing i → MakingFails m' fault → Fails es limit s m fault
  fails_put p before (MakingFails.too_large l) = λ r w begun comes. TypeFails.too_large (TooLargeCause.met (IsMet.comes (Comes.part comes p before)) l)
  fails_put p before MakingFails.memory = fails_memory

  -- whatever is wanted of the term
  pub at_any : {fault : TypeFault} (w : Want) → Fails es limit s m fault → FailsAt es limit s m w fault
  at_any w f = λ r begun comes reach. f r w begun comes

  wrong_fails : (r : Root) {w : Want} {got : Core} → WantsHead w → IsReached (task_on es r) s m w → WrongHead (task_on es r) s m w got → TypeFails limit (task_on es r) (wrong w (seen_at s m) (seen_at s got))
  wrong_fails r WantsHead.a_type reached cause = TypeFails.not_a_type reached cause
  wrong_fails r WantsHead.a_function reached cause = TypeFails.not_a_function reached cause
  wrong_fails r WantsHead.a_pair reached cause = TypeFails.not_a_pair reached cause

  -- the head form of the term's rule type isn't found, or is not as wanted
  pub at_head : {place : Place} {k : List Constraint} {w : Want} {got : Core} {fault : TypeFault} → AreClosed (core_bodies es) → WantsHead w → Inferred es place s m k got → HeadFails es limit s.binders m w got fault → FailsAt es limit s m w fault
  at_head {w = w} {got = got} closed kind judged (HeadFails.unfit {h = h} p unfit) = λ r begun comes reach.
      let reached = reach judged.parts in
      let place = wanted judged kind r reached in
      wrong_fails r kind reached (record {
        place = place;
        head = h;
        is_head = p;
        unfit = unfit;
        no_typing = λ v satisfied typed. unfit (typed_cores_have_wanted_heads (task_on es r) v closed begun.new typed s m w got h place p);
      })
  at_head {w = w} closed kind judged (HeadFails.budget more) = λ r begun comes reach.
      let reached = reach judged.parts in
      TypeFails.budget reached (BudgetCause.head (wanted judged kind r reached) more)
  at_head {w = w} closed kind judged (HeadFails.too_large i le after large) = λ r begun comes reach.
      let reached = reach judged.parts in
      TypeFails.too_large (TooLargeCause.passed (IsPassed.head i reached (wanted judged kind r reached) le after) (tree large))
  at_head closed kind judged HeadFails.memory = λ r begun comes reach. TypeFails.memory

  -- the term's rule type isn't compared with the stated type, or is not below it
  pub at_pair : {place : Place} {k : List Constraint} {have want : Core} {fault : TypeFault} → AreClosed (core_bodies es) → Inferred es place s m k have → PairFails es limit s.binders m have want fault → FailsAt es limit s m (Stated want) fault
  at_pair {have = have} {want = want} closed judged (PairFails.mismatch apart) = λ r begun comes reach.
      let reached = reach judged.parts in
      let place = pair_at judged r reached in
      TypeFails.mismatch reached (record {
        place = place;
        apart = apart;
        no_typing = λ v satisfied typed. apart (typed_cores_have_wanted_pairs (task_on es r) v closed begun.new typed s m have want place);
      })
  at_pair closed judged (PairFails.budget differ cost) = λ r begun comes reach.
      let reached = reach judged.parts in
      TypeFails.budget reached (BudgetCause.pair (pair_at judged r reached) differ cost)
  at_pair closed judged (PairFails.too_large differ large) = λ r begun comes reach.
      let reached = reach judged.parts in
      let place = pair_at judged r reached in
      TypeFails.too_large (⊎_elim (λ p. TooLargeCause.passed (IsPassed.have p.steps reached place differ p.within p.reaches) p.large) (λ p. TooLargeCause.passed (IsPassed.stated p.steps reached place differ p.within p.reaches) p.large) large)
  at_pair closed judged PairFails.memory = λ r begun comes reach. TypeFails.memory

  -- the stated type passes a limit, which the term's rule type doesn't
  pub at_stated : {place : Place} {k : List Constraint} {have want : Core} {fault : TypeFault} → Inferred es place s m k have → Fits have → MakingFails want fault → FailsAt es limit s m (Stated want) fault
  at_stated {have = have} {want = want} judged fits (MakingFails.too_large l) = λ r begun comes reach.
      let reached = reach judged.parts in
      TypeFails.too_large (TooLargeCause.passed (IsPassed.stated 0 reached (pair_at judged r reached) (too_large_differs have want _ _ fits l) (omega arith) refl) (tree l))
  at_stated judged fits MakingFails.memory = λ r begun comes reach. TypeFails.memory
