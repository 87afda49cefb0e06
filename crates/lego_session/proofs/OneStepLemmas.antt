-- A command that reads no term has one reply, and leaves one session.
use Rattle.std.proofs.Common.{◌≡◌, ℕ, suc, ◌+◌, ◌-◌, true, false, List, [], ◌∷◌, ◌++◌, length, Some, None, refl, sym, ap, ◌∙◌, arith, length-append}
use Rattle.std.specs.Prelude.{codes, decimal}
use Rattle.std.proofs.lemmas.Option.{same_Some}
use Rattle.lego_base.specs.declared.place.Place.{Place}
use Rattle.lego_grammar.specs.Grammar.{Names}
use Rattle.lego_grammar.specs.Written.{WrittenAct, WrittenCommand}
use Rattle.lego_grammar.specs.Written as written
use Rattle.lego_inference.specs.declared.entry.Entry.{Entry as Item}
use Rattle.lego_context.specs.Forgetting.{front_of}
use Rattle.lego_undo.specs.declared.state.State.{State}
use Rattle.lego_session.specs.Laws.{ReadsNoTerm, StepsHaveOneReply}
use Rattle.lego_session.specs.Refusals.{refusal_text}
use Rattle.lego_session.specs.Sessions.{Session, context_of, entries_of, moved_to, Undoes}
use Rattle.lego_session.specs.Step.{Reply, Accepts, IsRefused, Step}
use Rattle.lego_session.specs.commands.Forget.{Forgets, IsUnknown}
use Rattle.lego_session.specs.commands.Undo.{IsTooFar}
use Rattle.lego_session.specs.declared.refusal.Cause.{Cause}
use Rattle.lego_session.proofs.OneTextLemmas.{one_least, one_listing}

first_is : {X : Type 0} {x y : X} {xs ys : List X} → ◌≡◌ {A = List X} (x ∷ xs) (y ∷ ys) → x ≡ y
first_is e = cc

rest_is : {X : Type 0} {x y : X} {xs ys : List X} → ◌≡◌ {A = List X} (x ∷ xs) (y ∷ ys) → xs ≡ ys
rest_is e = cc

-- a list is split in one way at a place
pub one_split : {X : Type 0} (xs ys us vs : List X) → length xs ≡ length ys → xs ++ us ≡ ys ++ vs → (xs ≡ ys) × (us ≡ vs)
one_split [] [] us vs l e = (refl, e)
one_split [] (y ∷ ys) us vs l e = absurd (omega (arith, l))
one_split (x ∷ xs) [] us vs l e = absurd (omega (arith, l))
one_split (x ∷ xs) (y ∷ ys) us vs l e =
    let first = first_is e in
    let rest = one_split xs ys us vs (omega (arith, l)) (rest_is e) in
    (λ z. first z ∷ rest.0 z, rest.1)

same_undo : {old new other : Session} {n : ℕ} → Undoes old n new → {m : ℕ} → n ≡ m → Undoes old m other → new ≡ other
same_undo Undoes.nothing e Undoes.nothing = refl
same_undo Undoes.nothing e (Undoes.steps dropped is) = absurd (omega (arith, e))
same_undo (Undoes.steps dropped is) e Undoes.nothing = absurd (omega (arith, e))
same_undo (Undoes.steps {kept = kept} dropped {back = back} is) e (Undoes.steps {kept = kept'} dropped' {back = back'} is') =
    let joined : kept ++ back ∷ dropped ≡ kept' ++ back' ∷ dropped' = sym is ∙ is' in
    let few : length kept ≡ length kept' = omega (arith, e, ap length joined, length-append kept (back ∷ dropped), length-append kept' (back' ∷ dropped')) in
    let parts = one_split kept kept' (back ∷ dropped) (back' ∷ dropped') few joined in
    let same : back ≡ back' = first_is parts.1 in
    λ z. record { now = same z; history = parts.0 z }

too_far : {old new : Session} {n : ℕ} {c : Cause} → IsTooFar old n c → Undoes old n new → ⊥
too_far far Undoes.nothing = omega (arith, far.more)
too_far far (Undoes.steps {kept = kept} dropped {back = back} is) = omega (arith, far.more, ap length is, length-append kept (back ∷ dropped))

-- the same answer of an accepted command
record AreOne (text last : List ℕ) (new other : Session) : Type 0 where
  pub texts : text ≡ last
  pub sessions : new ≡ other

-- the same refusal, in the same scope
record IsOneRefusal (es ds : List Item) (p q : Place) (c d : Cause) : Type 0 where
  pub entries : es ≡ ds
  pub place : p ≡ q
  pub cause : c ≡ d

one_forgetting : {old new other : Session} {n : ℕ} {text last : List ℕ} → Forgets old n text new → Forgets old n last other → AreOne text last new other
one_forgetting {old} p q =
    let same : p.at ≡ q.at = same_Some p.at q.at (sym p.there ∙ q.there) in
    record {
      texts = p.is_text ∙ ap (λ at. codes "forgot " ++ decimal (length (entries_of old) - at) ++ codes "\n") same ∙ sym q.is_text;
      sessions = p.moves ∙ ap (λ at. moved_to old (front_of (context_of old) at)) same ∙ sym q.moves;
    }

some_none : (at : ℕ) → Some at ≡ None → ⊥
some_none at e = cc

module _ (names : Names) (limit : ℕ) (old : Session) (first : Place) where
  -- what an accepted command answers and leaves is one
  one_acceptance : {new other : Session} {text last : List ℕ} (act : WrittenAct) → ReadsNoTerm act → Accepts names limit old first act text new
      → Accepts names limit old first act last other → AreOne text last new other
  one_acceptance (written.Undo n) r p q = record { texts = p.is_text ∙ sym q.is_text; sessions = same_undo p.undoes refl q.undoes }
  one_acceptance (written.Forget x) r p q = one_forgetting p q
  one_acceptance {text = text} {last = last} written.Ctxt r p q = record {
    texts = one_listing names p.1.values q.1.values (entries_of old) 0 text last (one_least p.1.values q.1.values p.1.settled q.1.settled) p.1.lines q.1.lines;
    sessions = p.0 ∙ sym q.0;
  }
  one_acceptance _ r p q = absurd r

  -- a command is refused in one way
  one_refusal : {es ds : List Item} {p q : Place} {c d : Cause} (act : WrittenAct) → ReadsNoTerm act
      → IsRefused limit old first act es p c → IsRefused limit old first act ds q d → IsOneRefusal es ds p q c d
  one_refusal (written.Undo n) n' r s = record { entries = r.0 ∙ sym s.0; place = r.1 ∙ sym s.1; cause = r.2.is_cause ∙ sym s.2.is_cause }
  one_refusal (written.Forget x) n r s = record { entries = r.0 ∙ sym s.0; place = r.1 ∙ sym s.1; cause = r.2.is_cause ∙ sym s.2.is_cause }
  one_refusal written.Ctxt n r s = absurd r
  one_refusal _ n r s = absurd n

  -- an accepted command is not refused
  not_both : (new : Session) (text : List ℕ) (es : List Item) (p : Place) (c : Cause) (act : WrittenAct) → ReadsNoTerm act
      → Accepts names limit old first act text new → IsRefused limit old first act es p c → ⊥
  not_both new text es p c (written.Undo n) r a s = too_far s.2 a.undoes
  not_both new text es p c (written.Forget x) r a s = some_none a.at (sym a.there ∙ s.2.none)
  not_both new text es p c written.Ctxt r a s = s
  not_both new text es p c _ r a s = absurd r

pub steps_have_one_reply : StepsHaveOneReply
steps_have_one_reply names limit old new last o one other reads (Step.accepted p) (Step.accepted q) =
    let same = one_acceptance names limit old o.place o.act reads p q in
    (ap (λ text. record { refused = false; text = text }) same.texts, same.sessions)
steps_have_one_reply names limit old new last o one other reads (Step.accepted p) (Step.refused at cause es r told) =
    absurd (not_both names limit old o.place _ _ es at cause o.act reads p r)
steps_have_one_reply names limit old new last o one other reads (Step.refused at cause es r told) (Step.accepted p) =
    absurd (not_both names limit old o.place _ _ es at cause o.act reads p r)
steps_have_one_reply names limit old new last o one other reads (Step.refused p c es r told) (Step.refused q d ds s told') =
    let same = one_refusal names limit old o.place o.act reads r s in
    (λ z. record { refused = true; text = refusal_text names (same.entries z) (same.place z) (same.cause z) }, refl)
