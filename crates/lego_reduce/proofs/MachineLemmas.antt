-- What a turn answers at a frame, and around it.
use Rattle.std.proofs.Common.{◌≡◌, ℕ, ◌+◌, ◌-◌, ◌<◌, inl, inr, Bool, true, Option, Some, None, List, ◌∷◌, length, get_or, take, drop, ap, sym, subst, ◌∙◌, arith, Result, Ok, Err}
use Rattle.std.proofs.lemmas.List.{drop_more}
use Rattle.lego_term.specs.Trees.{Core, Lam, Pair, Bodies, instantiate}
use Rattle.lego_term.specs.Sequences.{head_step}
use Rattle.lego_term.specs.Parts.{IsTooLarge}
use Rattle.lego_term.specs.Made.{Makes, Rebuilds}
use Rattle.lego_term.specs.declared.binder.Binder.{Binder}
use Rattle.lego_term.specs.declared.binder.Mark.{Mark}
use Rattle.lego_term.specs.declared.level.Level.{Level}
use Rattle.lego_term.specs.declared.fault.TermFault.{TermFault}
use Rattle.lego_term.specs.declared.fault.TermFault.TheVariants as term
use Rattle.lego_reduce.specs.declared.fault.ReduceFault.{ReduceFault}
use Rattle.lego_reduce.specs.declared.fault.ReduceFault.TheVariants.{Budget, TooLarge, Memory}
use Rattle.lego_reduce.specs.declared.frames.Frame.{Frame}
use Rattle.lego_reduce.specs.declared.frames.Frame.TheVariants.{Argument, First, Second}
use Rattle.lego_reduce.specs.declared.head_form.Turn.{Turn}
use Rattle.lego_reduce.specs.declared.head_form.Turn.TheVariants.{Stepped, Stopped}
use Rattle.lego_reduce.specs.private.Faults.{of_term}
use Rattle.lego_reduce.specs.private.Frames.{plug, plug_one, contract_one, Rebuilt, Contracted, Turns}
use Rattle.lego_reduce.proofs.LargeLemmas.{first_over-large, large_whole}
use Rattle.lego_reduce.proofs.FrameLemmas.{steps_in, redex_steps, none_around, too_large_in, plug-split}

pub beta_redex : (f : Frame) (u : Core) (k : Mark) (x : Binder) (a m n : Core) → f ≡ Argument k n → Lam x a m ≡ u → contract_one f u ≡ Some (instantiate m n)
beta_redex f u k x a m n e r = ap (contract_one f) (sym r) ∙ ap (λ g. contract_one g (Lam x a m)) e

pub first_redex : (f : Frame) (u : Core) (x : Binder) (a b m n : Core) → f ≡ First → Pair x a b m n ≡ u → contract_one f u ≡ Some m
first_redex f u x a b m n e r = ap (contract_one f) (sym r) ∙ ap (λ g. contract_one g (Pair x a b m n)) e

pub second_redex : (f : Frame) (u : Core) (x : Binder) (a b m n : Core) → f ≡ Second → Pair x a b m n ≡ u → contract_one f u ≡ Some n
second_redex f u x a b m n e r = ap (contract_one f) (sym r) ∙ ap (λ g. contract_one g (Pair x a b m n)) e

-- a step whose term passes a limit
pub step_fault : (w v : Core) (next : Option Core) (b : Bool) (around : Core → Core) (e : TermFault) → b ≡ true → next ≡ Some v → Rebuilds v (Err e) → Turns w next b around (Err (of_term e))
step_fault w v next b around (term.TooLarge i j) t s over = inr (t, (v, s, first_over-large v i j over))
step_fault w v next b around term.Memory t s over = tt

-- what a head goes to passes a limit
pub contracted_fault : (v : Core) (next : Option Core) (b : Bool) (e : TermFault) → b ≡ true → next ≡ Some v → Rebuilds v (Err e) → Contracted next b (Err (of_term e))
contracted_fault v next b (term.TooLarge i j) t s over = (t, (v, s, first_over-large v i j over))
contracted_fault v next b term.Memory t s over = tt

-- no step, and the whole passes a limit
pub whole_fault : (w : Core) (next : Option Core) (b : Bool) (around : Core → Core) (e : TermFault) → Makes w (Err e) → Turns w next b around (Err (of_term e))
whole_fault w next b around (term.TooLarge i j) h = inl (large_whole w i j h.0 h.1 h.2)
whole_fault w next b around term.Memory h = tt

-- a frame around what is rebuilt
pub rebuilt_fault : (fs : List Frame) (i : ℕ) (f : Frame) (u made : Core) (e : TermFault) → i < length fs
    → f ≡ get_or fs (length fs - 1 - i) f → made ≡ plug (drop (length fs - i) fs) u → Makes (plug_one f made) (Err e) → Rebuilt (plug fs u) (Err e)
rebuilt_fault fs i f u made term.Memory lt is m h = tt
rebuilt_fault fs i f u made (term.TooLarge nodes levels) lt is m h =
    let j : ℕ = length fs - 1 - i in
    let behind : length fs - i ≡ j + 1 = omega arith in
    let front : drop j fs ≡ get_or fs j f ∷ drop (j + 1) fs = drop_more fs j f (omega arith) in
    let around : plug_one f made ≡ plug (drop j fs) u = ap (plug_one f) (m ∙ ap (λ a. plug (drop a fs) u) behind) ∙ (ap (λ g. plug_one g (plug (drop (j + 1) fs) u)) is ∙ ap (λ l. plug l u) (sym front)) in
    let large : IsTooLarge (plug_one f made) nodes levels = large_whole (plug_one f made) nodes levels h.0 h.1 h.2 in
    subst (λ t. IsTooLarge t nodes levels) (sym (plug-split fs j u)) (too_large_in (take j fs) (plug (drop j fs) u) nodes levels (subst (λ t. IsTooLarge t nodes levels) around large))

pub rebuilt_more : (fs : List Frame) (i : ℕ) (f : Frame) (u made : Core) → i < length fs
    → f ≡ get_or fs (length fs - 1 - i) f → made ≡ plug (drop (length fs - i) fs) u → plug_one f made ≡ plug (drop (length fs - (i + 1)) fs) u
rebuilt_more fs i f u made lt is m =
    let j : ℕ = length fs - 1 - i in
    let before : j ≡ length fs - (i + 1) = omega arith in
    let behind : length fs - i ≡ j + 1 = omega arith in
    let front : drop j fs ≡ get_or fs j f ∷ drop (j + 1) fs = drop_more fs j f (omega arith) in
    ap (plug_one f) (m ∙ ap (λ a. plug (drop a fs) u) behind) ∙ (ap (λ g. plug_one g (plug (drop (j + 1) fs) u)) is ∙ (ap (λ l. plug l u) (sym front) ∙ ap (λ a. plug (drop a fs) u) before))

module _ (bodies : Bodies Binder Mark Level) where
  -- a turn at the innermost frame, as a turn of the whole
  pub turns_around : (fs : List Frame) (f : Frame) (u : Core) (b : Bool) (r : Result Turn ReduceFault) → head_step bodies u ≡ None
      → Turns (plug_one f u) (contract_one f u) b (λ v. v) r
      → Turns (plug fs (plug_one f u)) (head_step bodies (plug fs (plug_one f u))) b (plug fs) r
  turns_around fs f u b (Ok (Stepped made)) none h = (h.0, steps_in bodies fs (plug_one f u) made (redex_steps bodies f u made h.1))
  turns_around fs f u b (Ok (Stopped made)) none h = (none_around bodies fs f u none h.0, ap (plug fs) h.1)
  turns_around fs f u b (Err Budget) none h =
      (h.0, (plug fs h.1.0, steps_in bodies fs (plug_one f u) h.1.0 (redex_steps bodies f u h.1.0 h.1.1)))
  turns_around fs f u b (Err (TooLarge i j)) none h =
      elim h [
        | inl p ↦ inl (too_large_in fs (plug_one f u) i j p)
        | inr p ↦ inr (p.0, (plug fs p.1.0, steps_in bodies fs (plug_one f u) p.1.0 (redex_steps bodies f u p.1.0 p.1.1), too_large_in fs p.1.0 i j p.1.2))
      ]
  turns_around fs f u b (Err Memory) none h = tt

  -- a fault at the head, as one of the whole
  pub contracted_around : (fs gs : List Frame) (u : Core) (b : Bool) (e : ReduceFault) → Contracted (head_step bodies u) b (Err e)
      → Turns (plug fs u) (head_step bodies (plug fs u)) b (plug gs) (Err e)
  contracted_around fs gs u b Budget h = (h.0, (plug fs h.1.0, steps_in bodies fs u h.1.0 h.1.1))
  contracted_around fs gs u b (TooLarge i j) h =
      inr (h.0, (plug fs h.1.0, steps_in bodies fs u h.1.0 h.1.1, too_large_in fs h.1.0 i j h.1.2))
  contracted_around fs gs u b Memory h = tt
