-- What holds of the contexts throughout a session goes on to hold.
use Rattle.std.proofs.Common.{◌≡◌, refl, ℕ, List, [], ◌∷◌, ◌++◌, sym, subst, arith, length-append}
use Rattle.std.specs.Prelude.{All}
use Rattle.std.proofs.lemmas.List.{get_or_append_left}
use Rattle.std.specs.List.{AllByRecursion}
use Rattle.lego_base.specs.declared.place.Place.{Place}
use Rattle.lego_grammar.specs.Grammar.{Names}
use Rattle.lego_grammar.specs.Written.{WrittenBinding, WrittenAct, WrittenCommand}
use Rattle.lego_grammar.specs.Written as written
use Rattle.lego_context.specs.Contexts.{Contents}
use Rattle.lego_context.specs.Forgetting.{front_of}
use Rattle.lego_undo.specs.declared.state.State.{State}
use Rattle.lego_session.specs.Sessions.{Session, Undoes, HoldsThroughout, context_of, moved_to}
use Rattle.lego_session.specs.Step.{Reply, Step, Accepts}
use Rattle.lego_session.specs.commands.Bindings.{BindsAll}

pub all_push : {X : Type 0} (P : X → Type 0) (xs : List X) (x : X) → AllByRecursion P xs → P x → AllByRecursion P (xs ++ x ∷ [])
all_push P [] x all p = (p, tt)
all_push P (y ∷ xs) x all p = (all.0, all_push P xs x all.1 p)

pub all_front : {X : Type 0} (P : X → Type 0) (xs ys : List X) → AllByRecursion P (xs ++ ys) → AllByRecursion P xs
all_front P [] ys all = tt
all_front P (x ∷ xs) ys all = (all.0, all_front P xs ys all.1)

pub all_back : {X : Type 0} (P : X → Type 0) (xs ys : List X) → AllByRecursion P (xs ++ ys) → AllByRecursion P ys
all_back P [] ys all = all
all_back P (x ∷ xs) ys all = all_back P xs ys all.1

-- so in the front of a list, each element at its place
pub All-front : {X : Type 0} (P : X → Type 0) (xs ys : List X) → All P (xs ++ ys) → All P xs
All-front P xs ys all i d l = subst P (get_or_append_left xs ys d i l) (all i d (omega (arith, l, length-append xs ys)))

module _ (P : Contents → Type 0) where
  moved : {old new : Session} (context : Contents) → HoldsThroughout P old → P context → new ≡ moved_to old context → HoldsThroughout P new
  moved {old} context h p is =
      subst (HoldsThroughout P) (sym is) (record { now = p; before = all_push (λ (s : State). P s.context) old.history old.now h.before h.now })

  undone : {old new : Session} {n : ℕ} → HoldsThroughout P old → Undoes old n new → HoldsThroughout P new
  undone h Undoes.nothing = h
  undone {old} h (Undoes.steps {kept = kept} dropped {back = back} is) =
      let all : AllByRecursion (λ (s : State). P s.context) (kept ++ back ∷ dropped) = subst (λ (ss : List State). AllByRecursion (λ (s : State). P s.context) ss) is h.before in
      record {
        now = (all_back (λ (s : State). P s.context) kept (back ∷ dropped) all).0;
        before = all_front (λ (s : State). P s.context) kept (back ∷ dropped) all;
      }

  stayed : {old new : Session} → HoldsThroughout P old → new ≡ old → HoldsThroughout P new
  stayed h is = subst (HoldsThroughout P) (sym is) h

  -- a property that the fronts of a context keep goes on to hold where bindings keep it
  module _ (front : (c : Contents) (at : ℕ) → P c → P (front_of c at)) (names : Names) (limit : ℕ) where
    pub accepted-throughout : {old new : Session} (first : Place) (text : List ℕ) (act : WrittenAct)
        → ((bs : List WrittenBinding) → act ≡ written.Bindings bs → (c c' : Contents) → BindsAll c bs c' → P c → P c')
        → Accepts names limit old first act text new → HoldsThroughout P old → HoldsThroughout P new
    accepted-throughout {old} first text (written.Bindings bs) binds a h = moved a.context h (binds bs refl (context_of old) a.context a.binds h.now) a.moves
    accepted-throughout first text (written.Undo n) binds a h = undone h a.undoes
    accepted-throughout {old} first text (written.Forget x) binds a h = moved (front_of (context_of old) a.at) h (front (context_of old) a.at h.now) a.moves
    accepted-throughout first text written.Ctxt binds a h = stayed h a.0
    accepted-throughout first text (written.Hnf w) binds a h = stayed h a.0
    accepted-throughout first text (written.Normal w) binds a h = stayed h a.0
    accepted-throughout first text (written.Show w) binds a h = stayed h a.0
    accepted-throughout first text (written.Goal x w) binds a h = absurd a
    accepted-throughout first text (written.Intros ps ns) binds a h = absurd a
    accepted-throughout first text (written.Refine w) binds a h = absurd a
    accepted-throughout first text (written.Claim w) binds a h = absurd a
    accepted-throughout first text (written.Equiv w) binds a h = absurd a
    accepted-throughout first text (written.Next n) binds a h = absurd a
    accepted-throughout first text written.Assumption binds a h = absurd a
    accepted-throughout first text written.KillRef binds a h = absurd a
    accepted-throughout first text written.Prf binds a h = absurd a
    accepted-throughout first text written.Explicit binds a h = absurd a
    accepted-throughout first text written.Implicit binds a h = absurd a
    accepted-throughout first text (written.Save x) binds a h = absurd a
    accepted-throughout first text (written.Discharge x) binds a h = absurd a

    pub step-throughout : {old new : Session} {o : WrittenCommand} {a : Reply}
        → ((bs : List WrittenBinding) → o.act ≡ written.Bindings bs → (c c' : Contents) → BindsAll c bs c' → P c → P c')
        → Step names limit old o a new → HoldsThroughout P old → HoldsThroughout P new
    step-throughout {o = o} binds (Step.accepted {text = text} a) h = accepted-throughout o.place text o.act binds a h
    step-throughout binds (Step.refused p cause es r told) h = h
