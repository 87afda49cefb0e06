-- Histories with one change more, and with the last ones gone.
use Rattle.std.proofs.Common.{◌≡◌, ℕ, suc, ◌+◌, ◌-◌, ◌≤◌, ◌<◌, List, [], ◌∷◌, ◌++◌, length, take, slice_get, Some, refl, sym, ap, ◌∙◌, subst, arith, append_assoc, append-nil}
use Rattle.std.proofs.lemmas.List.{length-append, length-take-le}
use Rattle.lego_undo.proofs.FrontLemmas.{no_longer, extent_of_front, front_of_extent}
use Rattle.std.proofs.Math.Seq.{take-append_seam}
use Rattle.std.specs.Prelude.{Result, Ok, Err, OnOk}
use Rattle.lego_context.specs.Contexts.{IsContext}
use Rattle.lego_context.specs.Forgetting.{front_of}
use Rattle.lego_undo.specs.Histories.{HasExtent, extent_of, before, front, origin, old_states, Fits, GoesWith}
use Rattle.lego_undo.specs.Changes.{IsFrontOf, IsChange, cut, whole, Notes, Undoes}
use Rattle.lego_undo.specs.private.Last.{UndoesLast, Undone}
use Rattle.lego_undo.specs.declared.state.State.{State}
use Rattle.lego_undo.specs.declared.change.Change.{Change}
use Rattle.lego_undo.specs.declared.change.Extent.{Extent}
use Rattle.lego_undo.specs.declared.change.Change.TheVariants.{Cut, Whole}

origin-push : (cs : List Change) (c : Change) (s : State) → origin (cs ++ c ∷ []) s ≡ origin cs (before c s)
origin-push [] c s = refl
origin-push (x ∷ cs) c s = ap (before x) (origin-push cs c s)

pub states-push : (cs : List Change) (c : Change) (s : State) → old_states (cs ++ c ∷ []) s ≡ old_states cs (before c s) ++ before c s ∷ []
states-push [] c s = refl
states-push (x ∷ cs) c s = rw (origin-push cs c s, states-push cs c s) refl

pub goes-push : (cs : List Change) (c : Change) (s : State) → Fits c s → GoesWith cs (before c s) → GoesWith (cs ++ c ∷ []) s
goes-push [] c s f g = (f, tt)
goes-push (x ∷ cs) c s f g = (rw (origin-push cs c s) g.0, goes-push cs c s f g.1)

pub goes-last : (cs : List Change) (c : Change) (s : State) → GoesWith (cs ++ c ∷ []) s → Fits c s × GoesWith cs (before c s)
goes-last [] c s g = (g.0, tt)
goes-last (x ∷ cs) c s g =
    let rest = goes-last cs c s g.1 in
    (rest.0, (rw (origin-push cs c s) at g.0, rest.1))

pub noted : (cs : List Change) (old new : State) (c : Change) {after : List Change} → after ≡ cs ++ c ∷ [] → IsChange old new c → before c new ≡ old → Fits c new
    → GoesWith cs old → Notes cs old new after
noted cs old new c e which back f g = record {
  change = c;
  last = e;
  which = which;
  states = rw e (subst (λ o. old_states (cs ++ c ∷ []) new ≡ old_states cs o ++ o ∷ []) back (states-push cs c new));
  goes = rw e (goes-push cs c new f (subst (GoesWith cs) (sym back) g));
}

pub length_states : (cs : List Change) (s : State) → length (old_states cs s) ≡ length cs
length_states [] s = refl
length_states (c ∷ cs) s = ap suc (length_states cs s)

states-append : (front back : List Change) (s : State) → old_states (front ++ back) s ≡ old_states front (origin back s) ++ old_states back s
states-append [] back s = refl
states-append (x ∷ front) back s = rw (origin-append front, states-append front back s) refl
  where
    origin-append : (cs : List Change) → origin (cs ++ back) s ≡ origin cs (origin back s)
    origin-append [] = refl
    origin-append (y ∷ cs) = ap (before y) (origin-append cs)

pub undone-none : (cs : List Change) (s : State) → GoesWith cs s → Undone cs s 0 cs s
undone-none cs s g = record { dropped = []; joins = sym (append-nil cs); many = refl; is = refl; goes = g }

pub undone-more : {cs after fewer : List Change} {s new older : State} {n : ℕ} → Undone cs s n after new → UndoesLast after new fewer older → Undone cs s (n + 1) fewer older
undone-more {cs} {after} {fewer} {s} {new} {older} u l = record {
  dropped = l.change ∷ u.dropped;
  joins = u.joins ∙ (ap (λ (xs : List Change). xs ++ u.dropped) l.last ∙ append_assoc fewer (l.change ∷ []) u.dropped);
  many = omega (arith, u.many);
  is = l.is ∙ ap (before l.change) u.is;
  goes = l.goes;
}

at_seam : {X : Type 0} (xs : List X) (x : X) (ys : List X) → slice_get (xs ++ x ∷ ys) (length xs) ≡ Some x
at_seam [] x ys = refl
at_seam (z ∷ xs) x ys = at_seam xs x ys

pub undoes : {cs after : List Change} {s new : State} {n : ℕ} → Undone cs s n after new → Undoes cs s n after new
undoes {cs} {after} {s} {new} {n} u = record {
  few = omega (arith, total);
  kept = rw place (rw u.joins (sym (take-append_seam after u.dropped)));
  states = rw (place, states) (rw (← length_states after new) (sym (take-append_seam (old_states after new) (old_states u.dropped s))));
  nothing = λ z. u.is ∙ no_change u.dropped (u.many ∙ z);
  last = λ some. rw (place, states) (last_of u.dropped (omega (arith, u.many)) u.is);
  goes = u.goes;
}
  where
    total : length cs ≡ length after + n
    total = ap length u.joins ∙ (length-append after u.dropped ∙ ap (λ k. length after + k) u.many)

    place : length cs - n ≡ length after
    place = omega (arith, total)

    states : old_states cs s ≡ old_states after new ++ old_states u.dropped s
    states = ap (λ (xs : List Change). old_states xs s) u.joins
        ∙ (states-append after u.dropped s ∙ ap (λ (x : State). old_states after x ++ old_states u.dropped s) (sym u.is))

    no_change : (ds : List Change) → length ds ≡ 0 → origin ds s ≡ s
    no_change [] e = refl
    no_change (d ∷ ds) e = absurd (omega arith)

    last_of : (ds : List Change) → 0 < length ds → new ≡ origin ds s → slice_get (old_states after new ++ old_states ds s) (length after) ≡ Some new
    last_of [] l e = absurd (omega arith)
    last_of (d ∷ ds) l e = rw (← e, ← length_states after new) (at_seam (old_states after new) new (old_states ds s))

-- the kinds of steps

pub growth : (cs : List Change) (extent : Extent) (new : State) {after : List Change} → HasExtent extent new → GoesWith cs (front extent new)
    → after ≡ cs ++ Cut extent ∷ [] → Notes cs (front extent new) new after
growth cs extent new h g e = noted cs (front extent new) new (Cut extent) e is refl h g
  where
    same : extent_of (front extent new) ≡ extent
    same = extent_of_front extent new h

    is : IsChange (front extent new) new (Cut extent)
    is = subst (λ n. IsChange (front extent new) new (Cut n)) same (cut (record { is = ap (λ n. front n new) same; levels = h.levels_within }))

pub extended : (cs : List Change) (old new : State) {after : List Change} → IsContext old.context → IsFrontOf old new → GoesWith cs old
    → after ≡ cs ++ Cut (extent_of old) ∷ [] → Notes cs old new after
extended cs old new c x g e = noted cs old new (Cut (extent_of old)) e (cut x) x.is (front_of_extent old new c x) g

pub replaced : (cs : List Change) (old new : State) {after : List Change} → (IsFrontOf old new → ⊥) → GoesWith cs old
    → after ≡ cs ++ Whole old ∷ [] → Notes cs old new after
replaced cs old new x g e = noted cs old new (Whole old) e (whole x) refl tt g

pub shorter : (old : State) (at : ℕ) → at < length old.context.entries → IsFrontOf old (record { context = front_of old.context at }) → ⊥
shorter old at l x =
    let same : take (length old.context.entries) (take at old.context.entries) ≡ old.context.entries = ap (λ (s : State). s.context.entries) x.is in
    let longer = no_longer old.context.entries (take at old.context.entries) same in
    absurd (omega (arith, length-take-le at old.context.entries (omega arith)))

pub last_undone : {cs after : List Change} (c : Change) {s new : State} → cs ≡ after ++ c ∷ [] → GoesWith cs s → new ≡ before c s → UndoesLast cs s after new
last_undone {cs} {after} c {s} {new} e g is = record {
  change = c;
  last = e;
  is = is;
  goes = rw is (goes-last after c s (rw e at g)).1;
}

pub last_fits : {cs : List Change} (after : List Change) (c : Change) (s : State) → cs ≡ after ++ c ∷ [] → GoesWith cs s → Fits c s
last_fits after c s e g = (goes-last after c s (rw e at g)).0

pub some_left : {cs after : List Change} {s new : State} {k n : ℕ} → Undone cs s k after new → k < n → n ≤ length cs → 0 < length after
some_left {after = after} u l m = omega (arith, u.many, ap length u.joins, length-append after u.dropped)

pub on_ok : {T E P Q : Type 0} (r : Result T E) → (P → Q) → OnOk r P → OnOk r Q
on_ok (Ok x) f h = f h
on_ok (Err e) f h = tt
