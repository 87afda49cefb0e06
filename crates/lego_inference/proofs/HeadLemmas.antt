-- Head forms that are as wanted, or not.
use Rattle.std.proofs.Common.{◌≡◌, ℕ, ◌≤◌, ◌⊎◌, inl, inr, List, Option, Some, None, Result, Ok, Err, IfOk, IfErr, refl, sym, ap, ◌∙◌, subst, ⊎_elim}
use Rattle.lego_term.specs.declared.binder.Binder.{Binder}
use Rattle.lego_term.specs.declared.level.Level.{Level}
use Rattle.lego_term.specs.declared.seen.Seen.{Seen}
use Rattle.lego_term.specs.declared.term.Node.{Node}
use Rattle.lego_term.specs.declared.term.Node.TheVariants as node
use Rattle.lego_term.specs.Node.{shown}
use Rattle.lego_term.specs.Trees.{Core, Pi, Sigma}
use Rattle.lego_term.specs.BodyMap.{BodyMap, bodies_in, AreClosed}
use Rattle.lego_term.specs.Sequences.{HeadForm, head_step}
use Rattle.lego_reduce.specs.declared.fault.ReduceFault.{ReduceFault}
use Rattle.lego_reduce.specs.declared.fault.ReduceFault.TheVariants as reduce
use Rattle.lego_reduce.specs.declared.head_form.Reduced.{Reduced}
use Rattle.lego_reduce.specs.Reduction.{Reduces}
use Rattle.lego_laws.specs.Entries.{Entry, core_bodies}
use Rattle.lego_laws.specs.Places.{Want, AType, AFunction, APair, Fulfils}
use Rattle.lego_inference.specs.declared.entry.At.{At}
use Rattle.lego_inference.specs.declared.fault.TypeFault.{TypeFault}
use Rattle.lego_inference.specs.declared.fault.TypeFault.TheVariants as fault
use Rattle.lego_inference.specs.declared.head.Wanted.{Wanted}
use Rattle.lego_inference.specs.declared.head.Wanted.TheVariants.{Sort, Function, Pair}
use Rattle.lego_inference.specs.Entries.{AreClosedEntries}
use Rattle.lego_inference.specs.Locals.{seen_under}
use Rattle.lego_inference.specs.private.Judging.{FindsHead, HeadFails}
use Rattle.lego_inference.specs.private.Wanting.{want_of, LacksHead, Wrongs, IsIn}

-- the bodies that a signature keeps are those of its entries
pub closed_map : (b : BodyMap) (es : List Entry) → bodies_in b ≡ core_bodies es → AreClosedEntries es → AreClosed b
closed_map b es are closed = λ k t e. closed.bodies k t (sym (ap (λ (f : ℕ → Option Core). f k) are) ∙ e)

pub reduces_in : (b : BodyMap) (es : List Entry) (t : Core) (limit : ℕ) (r : Result Reduced ReduceFault) → bodies_in b ≡ core_bodies es → Reduces (head_step (bodies_in b)) t limit r → Reduces (head_step (core_bodies es)) t limit r
reduces_in b es t limit r are h = subst (λ (f : ℕ → Option Core). Reduces (head_step f) t limit r) are h

module _ (es : List Entry) (limit : ℕ) (xs : List Binder) (got : Core) where
  pub found_head : (r : Reduced) → Reduces (head_step (core_bodies es)) got limit (Ok r) → HeadForm (core_bodies es) got r.term
  found_head r h = (r.steps, h.0)

  pub lacks_budget : (seen : Seen) (f : ReduceFault) → f ≡ reduce.Budget → seen ≡ seen_under xs got → Reduces (head_step (core_bodies es)) got limit (Err f) → LacksHead es limit xs got (fault.Budget seen None)
  lacks_budget seen f e is h =
      subst (λ z. LacksHead es limit xs got (fault.Budget z None)) (sym is) (LacksHead.budget (subst (λ z. Reduces (head_step (core_bodies es)) got limit (Err z)) e h))

  pub lacks_large : (f : ReduceFault) (size depth : ℕ) → f ≡ reduce.TooLarge size depth → Reduces (head_step (core_bodies es)) got limit (Err f) → LacksHead es limit xs got (fault.TooLarge size depth)
  lacks_large f size depth e h = let k = subst (λ z. Reduces (head_step (core_bodies es)) got limit (Err z)) e h in LacksHead.too_large k.0 k.2 k.3 k.4

  lacking : (m : Core) (w : Want) (why : TypeFault) → LacksHead es limit xs got why → HeadFails es limit xs m w got why
  lacking m w _ (LacksHead.budget more) = HeadFails.budget more
  lacking m w _ (LacksHead.too_large i le after large) = HeadFails.too_large i le after large
  lacking m w _ LacksHead.memory = HeadFails.memory

  unfitting : (m h : Core) (w : Want) (why : TypeFault) → HeadForm (core_bodies es) got h → (Fulfils w h → ⊥) → Wrongs w xs m got why → HeadFails es limit xs m w got why
  unfitting m h w _ head unfit Wrongs.unfit = HeadFails.unfit head unfit
  unfitting m h w _ head unfit Wrongs.memory = HeadFails.memory

pub lacks : {T : Type 0} (head_of : T → Core) (es : List Entry) (asked : At) (xs : List Binder) (m : Core) (w : Want) (got : Core) (why : TypeFault) → LacksHead es asked.limit xs got why → FindsHead head_of es asked xs m w got (Err why)
lacks head_of es asked xs m w got why h = lacking es asked.limit xs got m w why h

-- what is in the head form is found
pub found_in : {T : Type 0} (head_of : T → Core) (es : List Entry) (asked : At) (xs : List Binder) (m : Core) (w : Want) (got h : Core) (r : Result T TypeFault) → HeadForm (core_bodies es) got h → IsIn head_of w xs m got h r → FindsHead head_of es asked xs m w got r
found_in head_of es asked xs m w got h (Ok found) head is = subst (HeadForm (core_bodies es) got) is head
found_in head_of es asked xs m w got h (Err why) head e =
    ⊎_elim (λ (i : why ≡ fault.Memory). subst (HeadFails es asked.limit xs m w got) (sym i) HeadFails.memory)
    (λ (i : (Fulfils w h → ⊥) × Wrongs w xs m got why). unfitting es asked.limit xs got m h w why head i.0 i.1) e

module _ (xs : List Binder) (m got : Core) (term seen : Seen) (is : term ≡ seen_under xs m) (sees : seen ≡ seen_under xs got) where
  pub wrong_type : (w : Wanted) → w ≡ Sort → Wrongs (want_of w) xs m got (fault.NotAType term seen)
  wrong_type w e = subst (λ z. Wrongs (want_of z) xs m got (fault.NotAType term seen)) (sym e) (subst (λ z. Wrongs AType xs m got (fault.NotAType z seen)) (sym is) (subst (λ z. Wrongs AType xs m got (fault.NotAType (seen_under xs m) z)) (sym sees) Wrongs.unfit))

  pub wrong_function : (w : Wanted) → w ≡ Function → Wrongs (want_of w) xs m got (fault.NotAFunction term seen)
  wrong_function w e = subst (λ z. Wrongs (want_of z) xs m got (fault.NotAFunction term seen)) (sym e) (subst (λ z. Wrongs AFunction xs m got (fault.NotAFunction z seen)) (sym is) (subst (λ z. Wrongs AFunction xs m got (fault.NotAFunction (seen_under xs m) z)) (sym sees) Wrongs.unfit))

  pub wrong_pair : (w : Wanted) → w ≡ Pair → Wrongs (want_of w) xs m got (fault.NotAPair term seen)
  wrong_pair w e = subst (λ z. Wrongs (want_of z) xs m got (fault.NotAPair term seen)) (sym e) (subst (λ z. Wrongs APair xs m got (fault.NotAPair z seen)) (sym is) (subst (λ z. Wrongs APair xs m got (fault.NotAPair (seen_under xs m) z)) (sym sees) Wrongs.unfit))
