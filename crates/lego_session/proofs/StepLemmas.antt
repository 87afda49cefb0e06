-- What each command makes of a session, from what it makes of its parts.
use Rattle.std.proofs.Common.{◌≡◌, ℕ, zero, suc, ◌-◌, ◌<◌, ◌≤◌, List, [], ◌∷◌, ◌++◌, take, drop, length, slice_get, Some, refl, sym, ap, ap₂, ◌∙◌, subst, inr, arith}
use Rattle.std.specs.Prelude.{codes, decimal}
use Rattle.std.proofs.lemmas.List.{length-drop, take_all}
use Rattle.lego_base.specs.declared.place.Place.{Place}
use Rattle.lego_grammar.specs.Grammar.{Names}
use Rattle.lego_grammar.specs.Written.{WrittenBinding}
use Rattle.lego_grammar.specs.Written as written
use Rattle.lego_context.specs.Entries.{position_of}
use Rattle.lego_context.specs.Forgetting.{front_of}
use Rattle.lego_undo.specs.Histories.{old_states, front, extent_of}
use Rattle.lego_undo.specs.Changes.{Notes, Undoes as Undone, IsTooFar as IsTooFarBack}
use Rattle.lego_undo.specs.declared.change.Change.{Change}
use Rattle.lego_undo.specs.declared.change.Extent.{Extent}
use Rattle.lego_undo.specs.declared.state.State.{State}
use Rattle.lego_undo.specs.declared.undo_fault.UndoFault.{UndoFault}
use Rattle.lego_undo.specs.declared.undo_fault.UndoFault.TheVariants as Undo
use Rattle.lego_session.specs.Sessions.{Session, Undoes}
use Rattle.lego_session.specs.Sessions as sessions
use Rattle.lego_session.specs.Step.{IsRefused, IsRefusal}
use Rattle.lego_session.specs.Texts.{AreEntryLines}
use Rattle.lego_session.specs.commands.Bindings.{BindsAll, AddsBindings}
use Rattle.lego_session.specs.commands.Undo.{IsTooFar}
use Rattle.lego_session.specs.commands.Forget.{Forgets}
use Rattle.lego_session.specs.private.Binding.{ShowsAdded}
use Rattle.lego_session.specs.private.Refusals.{undo_cause, IsRefusalOf}
use Rattle.lego_session.specs.declared.refusal.Cause.{Cause}
use Rattle.lego_session.specs.declared.refusal.Cause.TheVariants.{TooFar}
use Rattle.lego_session.specs.declared.refusal.Refusal.{Refusal}
use Rattle.lego_session.proofs.BindingLemmas.{split_at}
use Rattle.lego_session.proofs.BindingsLemmas.{extends-binds}
use Rattle.lego_session.proofs.ExtendLemmas.{front_back}
use Rattle.lego_session.proofs.RefusalLemmas.{refusal, refused_so}

-- the session of a state and what undoes the steps so far
abbrev pub session : List Change → State → Session
session h s = record { now = s; history = old_states h s }

pub adds : (names : Names) (h h' : List Change) (s s' : State) (bs : List WrittenBinding) (text : List ℕ) (extent : Extent) → extent ≡ extent_of s
    → BindsAll s.context bs s'.context → Notes h (front extent s') s' h' → ShowsAdded names s'.context extent.entries text
    → AddsBindings names (session h s) bs text (session h' s')
adds names h h' s s' bs text extent is made noted shown = record {
  context = s'.context;
  binds = made;
  moves =
      ap (λ (ss : List State). record { now = s'; history = ss })
      (noted.states ∙ ap (λ (x : State). old_states h x ++ x ∷ []) (front_back s s' extent is (extends-binds made)));
  values = shown.values;
  settled = shown.settled;
  lines = subst (λ n. AreEntryLines names shown.values s'.context.entries n text) (ap (λ (e : Extent). e.entries) is) shown.lines;
}

pub forgets : (h h' : List Change) (s s' : State) (name at : ℕ) (text : List ℕ) → position_of s.context.entries name ≡ Some at
    → s' ≡ record { context = front_of s.context at } → Notes h s s' h' → text ≡ codes "forgot " ++ decimal (length s.context.entries - at) ++ codes "\n"
    → Forgets (session h s) name text (session h' s')
forgets h h' s s' name at text found is noted says = record {
  at = at;
  there = found;
  moves = ap₂ (λ (x : State) (ss : List State). record { now = x; history = ss }) is noted.states;
  is_text = says;
}

states_length : (h : List Change) (s : State) → length (old_states h s) ≡ length h
states_length [] s = refl
states_length (c ∷ h) s = ap suc (states_length h s)

pub takes-back : (h h' : List Change) (s s' : State) (n : ℕ) → Undone h s n h' s' → Undoes (session h s) n (session h' s')
takes-back h h' s s' zero u =
    let same : s' ≡ s = u.nothing refl in
    let all : take (length h - 0) (old_states h s) ≡ old_states h s = take_all (length h - 0) (old_states h s) (omega (arith, states_length h s)) in
    let new : session h' s' ≡ session h s = ap₂ (λ (x : State) (hs : List State). record { now = x; history = hs }) same (u.states ∙ all) in
    subst (λ x. Undoes (session h s) 0 x) (sym new) sessions.Undoes.nothing
takes-back h h' s s' (suc n) u =
    let hs = old_states h s in
    let at = length h - suc n in
    let split = split_at hs at s' (u.last (omega arith)) in
    let count : length (drop (suc at) hs) ≡ n = omega (arith, length-drop (suc at) hs, states_length h s, u.few) in
    subst (λ (ss : List State). Undoes (session h s) (suc n) (record { now = s'; history = ss })) (sym u.states)
    (subst (λ k. Undoes (session h s) (suc k) (record { now = s'; history = take at hs })) count
    (sessions.Undoes.steps {kept = take at hs} (drop (suc at) hs) {back = s'} split))

pub too-far : (h : List Change) (s : State) (n : ℕ) (fault : UndoFault) → IsTooFarBack h n fault → IsTooFar (session h s) n (undo_cause fault)
too-far h s n (Undo.TooFar asked count) f =
    let few : length (old_states h s) < n = omega (arith, f.0, states_length h s) in
    record { more = few; is_cause = ap₂ (λ a b. TooFar a b) f.1 (f.2 ∙ sym (states_length h s)) }

-- the refusal of an `Undo` that asks for too many steps
pub not-taken-back : (names : Names) (limit : ℕ) (h : List Change) (s s' : State) (n : ℕ) (place : Place) (fault : UndoFault) (cause : Cause) (r : Refusal)
    → IsTooFarBack h n fault → s' ≡ s → cause ≡ undo_cause fault → IsRefusalOf names s'.context.entries place cause r.place r.cause r.text
    → IsRefusal names limit (session h s) (record { place = place; act = written.Undo n }) r.place r.cause r.text
not-taken-back names limit h s s' n place fault cause r far same is made =
    let es = s.context.entries in
    let far' : IsTooFar (session h s) n cause = subst (λ x. IsTooFar (session h s) n x) (sym is) (too-far h s n fault far) in
    let here = subst (λ (x : State). IsRefusalOf names x.context.entries place cause r.place r.cause r.text) same made in
    refusal names limit (session h s) (record { place = place; act = written.Undo n }) es r.place r.cause r.text
    (refused_so names es (λ q x. IsRefused limit (session h s) place (written.Undo n) es q x) place r.place cause r.cause r.text (inr (refl, refl, far')) here)
