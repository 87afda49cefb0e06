-- A step from what the command of its form did.
use Rattle.std.proofs.Common.{◌≡◌, ℕ, true, false, List, map, take, Result, Ok, Err, IfOk, IfErr, OnErr, refl, sym, ap, ap₂, ◌∙◌, subst, inl, inr, arith}
use Rattle.std.proofs.lemmas.List.Elements.{All-take}
use Rattle.lego_base.specs.declared.place.Place.{Place}
use Rattle.lego_grammar.specs.Grammar.{Names}
use Rattle.lego_grammar.specs.Surface.{written_act, written_binding, written_command}
use Rattle.lego_grammar.specs.Written.{WrittenAct, WrittenCommand}
use Rattle.lego_grammar.specs.Written as written
use Rattle.lego_grammar.specs.declared.command.Act.{Act}
use Rattle.lego_grammar.specs.declared.command.Binding.{Binding}
use Rattle.lego_grammar.specs.declared.command.Command.{Command}
use Rattle.lego_inference.specs.declared.entry.Entry.{Entry as Item}
use Rattle.lego_context.specs.Contexts.{Contents}
use Rattle.lego_context.specs.Entries.{HasNoHole, IsNoHole}
use Rattle.lego_undo.specs.Histories.{old_states, GoesWith}
use Rattle.lego_undo.specs.declared.change.Change.{Change}
use Rattle.lego_undo.specs.declared.state.State.{State}
use Rattle.lego_session.specs.Sessions.{Session, context_of, entries_of}
use Rattle.lego_session.specs.Step.{Step, Accepts, IsRefused, IsRefusal, IsFeasible}
use Rattle.lego_session.specs.private.Parts.{session_of, HasNoHoles, AreParts}
use Rattle.lego_session.specs.commands.Bindings.{AddsBindings}
use Rattle.lego_session.specs.commands.Undo.{TakesBack}
use Rattle.lego_session.specs.commands.Forget.{Forgets}
use Rattle.lego_session.specs.private.Refusals.{IsRefusedSo}
use Rattle.lego_session.specs.declared.parts.Parts.{Parts}
use Rattle.lego_session.specs.declared.refusal.Cause.{Cause}
use Rattle.lego_session.specs.declared.refusal.Cause.TheVariants.{Memory}
use Rattle.lego_session.specs.declared.refusal.Refusal.{Refusal}
use Rattle.lego_session.specs.declared.session.Answer.{Answer}
use Rattle.lego_session.proofs.BindingsLemmas.{extends-binds}
use Rattle.lego_session.proofs.ExtendLemmas.{no_hole-more}
use Rattle.lego_session.proofs.RefusalLemmas.{refusal, refused_else}
use Rattle.lego_session.proofs.SessionLemmas.{step-throughout}

-- a command that its state permits is refused for want of memory alone
feasible : (limit : ℕ) (old : Session) (first : Place) (act : WrittenAct) (es : List Item) (p : Place) (c : Cause)
    → IsRefused limit old first act es p c → IsFeasible old act → ⊥
feasible limit old first (written.Undo n) es p c r f = omega (arith, r.2.more, f)
feasible limit old first (written.Forget x) es p c r f = let a = r.2.none in let b = f.1 in absurd (cc)
feasible limit old first written.Ctxt es p c r f = r
feasible limit old first (written.Bindings bs) es p c r f = f
feasible limit old first (written.Goal x w) es p c r f = f
feasible limit old first (written.Intros ps ns) es p c r f = f
feasible limit old first (written.Refine w) es p c r f = f
feasible limit old first (written.Claim w) es p c r f = f
feasible limit old first (written.Equiv w) es p c r f = f
feasible limit old first (written.Hnf w) es p c r f = f
feasible limit old first (written.Normal w) es p c r f = f
feasible limit old first (written.Show w) es p c r f = f
feasible limit old first (written.Next n) es p c r f = f
feasible limit old first written.Assumption es p c r f = f
feasible limit old first written.KillRef es p c r f = f
feasible limit old first written.Prf es p c r f = f
feasible limit old first written.Explicit es p c r f = f
feasible limit old first written.Implicit es p c r f = f
feasible limit old first (written.Save x) es p c r f = f
feasible limit old first (written.Discharge x) es p c r f = f

module _ (names : Names) (limit : ℕ) (old new : Session) (o : WrittenCommand) (r : Result Answer Refusal) where
  pub completes : IfErr r (λ e. IsRefusal names limit old o e.place e.cause e.text) → IfErr r (λ e. IsFeasible old o.act → e.cause ≡ Memory)
  completes h = by_result r h
    where
      by_result : (r : Result Answer Refusal) → IfErr r (λ e. IsRefusal names limit old o e.place e.cause e.text)
          → IfErr r (λ e. IsFeasible old o.act → e.cause ≡ Memory)
      by_result (Ok a) h = tt
      by_result (Err e) (inl m) = λ f. m.0
      by_result (Err e) (inr x) = λ f. absurd (feasible limit old o.place o.act x.0 e.place e.cause x.1 f)

  -- no step makes a hole
  pub stays_whole : IfOk r (λ a. Step names limit old o (record { refused = false; text = a.text }) new) → OnErr r (new ≡ old) → HasNoHoles old → HasNoHoles new
  stays_whole ok err h = by_result r ok err
    where
      by_result : (r : Result Answer Refusal) → IfOk r (λ a. Step names limit old o (record { refused = false; text = a.text }) new) → OnErr r (new ≡ old) → HasNoHoles new
      by_result (Ok a) ok err =
          step-throughout (λ (c : Contents). HasNoHole c.entries) (λ c at h. All-take (λ (e : Item). IsNoHole e.kind) at c.entries h) names limit
          (λ bs is c c' binds h. no_hole-more c c' (extends-binds binds) h) ok h
      by_result (Err e) ok err = subst HasNoHoles (sym err) h

  module _ (act : WrittenAct) (is : o.act ≡ act) where
    pub accepts : IfOk r (λ a. Accepts names limit old o.place act a.text new) → IfOk r (λ a. Step names limit old o (record { refused = false; text = a.text }) new)
    accepts h = by_result r h
      where
        by_result : (r : Result Answer Refusal) → IfOk r (λ a. Accepts names limit old o.place act a.text new)
            → IfOk r (λ a. Step names limit old o (record { refused = false; text = a.text }) new)
        by_result (Ok a) h = Step.accepted (subst (λ x. Accepts names limit old o.place x a.text new) (sym is) h)
        by_result (Err e) h = tt

    pub refuses : IfErr r (λ e. IsRefusal names limit old (record { place = o.place; act = act }) e.place e.cause e.text)
        → IfErr r (λ e. IsRefusal names limit old o e.place e.cause e.text)
    refuses h = subst (λ x. IfErr r (λ e. IsRefusal names limit old x e.place e.cause e.text)) (ap (λ x. record { place = o.place; act = x }) (sym is)) h

-- the same parts are the same session
pub same_parts : (p q : Parts) (r : Result Answer Refusal) → OnErr r ((p.state ≡ q.state) × (p.history ≡ q.history)) → OnErr r (session_of p ≡ session_of q)
same_parts p q (Ok a) h = tt
same_parts p q (Err e) h = ap₂ (λ (s : State) (cs : List Change). record { now = s; history = old_states cs s }) h.0 h.1

-- a command that only prints is accepted with the session as it was
pub prints : (names : Names) (limit : ℕ) (old new : Session) (o : WrittenCommand) (act : WrittenAct) (r : Result Answer Refusal) (Shows : List ℕ → Type 0)
    → o.act ≡ act → ((text : List ℕ) → (new ≡ old) → Shows text → Accepts names limit old o.place act text new) → new ≡ old → IfOk r (λ a. Shows a.text)
    → IfOk r (λ a. Step names limit old o (record { refused = false; text = a.text }) new)
prints names limit old new o act (Ok a) Shows is accepted same h = Step.accepted (subst (λ x. Accepts names limit old o.place x a.text new) (sym is) (accepted a.text same h))
prints names limit old new o act (Err e) Shows is accepted same h = tt

-- and refused over the entries as they are
pub not_printed : (names : Names) (limit : ℕ) (old : Session) (o : WrittenCommand) (act : WrittenAct) (r : Result Answer Refusal) (So : Place → Cause → Type 0)
    → o.act ≡ act → ((p : Place) (x : Cause) → So p x → IsRefused limit old o.place act (entries_of old) p x)
    → IfErr r (λ e. IsRefusedSo names (entries_of old) So e.place e.cause e.text) → IfErr r (λ e. IsRefusal names limit old o e.place e.cause e.text)
not_printed names limit old o act (Ok a) So is refused h = tt
not_printed names limit old o act (Err e) So is refused h =
    refusal names limit old o (entries_of old) e.place e.cause e.text
    (refused_else names (entries_of old) So (λ q x. IsRefused limit old o.place o.act (entries_of old) q x) e.place e.cause e.text
    (λ q x k. subst (λ a. IsRefused limit old o.place a (entries_of old) q x) (sym is) (refused q x k)) h)

-- A command of the code, over the parts of a session: those before it, and those that it leaves.
module _ (names : Names) (limit : ℕ) (p q : Parts) (old : Session) (command : Command) (r : Result Answer Refusal) (viewed : session_of p ≡ old) where
  abbrev o : WrittenCommand
  o = written_command command

  abbrev IsStep : Type 0
  IsStep = IfOk r (λ a. Step names limit old o (record { refused = false; text = a.text }) (session_of q))

  -- what it is accepted for, over the session before it
  accepted : (act : WrittenAct) → written_act command.act ≡ act → IfOk r (λ a. Accepts names limit (session_of p) command.place act a.text (session_of q)) → IsStep
  accepted act is h =
      accepts names limit old (session_of q) o r act is
      (subst (λ (s : Session). IfOk r (λ a. Accepts names limit s command.place act a.text (session_of q))) viewed h)

  pub bound : (bindings bs : List Binding) → command.act ≡ Act.Bind bindings → bs ≡ bindings
      → IfOk r (λ a. AddsBindings names (session_of p) (map written_binding bs) a.text (session_of q)) → IsStep
  bound bindings bs is same h = accepted (written.Bindings (map written_binding bs)) (ap written_act is ∙ ap (λ xs. written.Bindings (map written_binding xs)) (sym same)) h

  pub took_back : (count n : ℕ) → command.act ≡ Act.Undo count → n ≡ count → IfOk r (λ a. TakesBack (session_of p) n a.text (session_of q)) → IsStep
  took_back count n is same h = accepted (written.Undo n) (ap written_act is ∙ ap (λ k. written.Undo k) (sym same)) h

  pub forgot : (place : Place) (name : ℕ) → command.act ≡ Act.Forget place name → IfOk r (λ a. Forgets (session_of p) name a.text (session_of q)) → IsStep
  forgot place name is h = accepted (written.Forget (record { place = place; name = name })) (ap written_act is) h

  -- a command that only prints, over the context before it
  pub printed : (act : WrittenAct) (Shows : Contents → List ℕ → Type 0) → written_act command.act ≡ act → q ≡ p
      → ((s : Session) (text : List ℕ) → (session_of q ≡ s) → Shows (context_of s) text → Accepts names limit s command.place act text (session_of q))
      → IfOk r (λ a. Shows p.state.context a.text) → IsStep
  printed act Shows is same accepted h =
      prints names limit old (session_of q) o act r (Shows (context_of old)) is (accepted old) (ap session_of same ∙ viewed)
      (subst (λ (s : Session). IfOk r (λ a. Shows (context_of s) a.text)) viewed h)

  -- why it is refused, over the session before it
  pub not_accepted : (act : WrittenAct) → written_act command.act ≡ act
      → IfErr r (λ e. IsRefusal names limit (session_of p) (record { place = command.place; act = act }) e.place e.cause e.text)
      → IfErr r (λ e. IsRefusal names limit old o e.place e.cause e.text)
  not_accepted act is h =
      refuses names limit old (session_of q) o r act is
      (subst (λ (s : Session). IfErr r (λ e. IsRefusal names limit s (record { place = command.place; act = act }) e.place e.cause e.text)) viewed h)

  pub not_shown : (act : WrittenAct) (So : Contents → Place → Cause → Type 0) → written_act command.act ≡ act
      → ((s : Session) (at : Place) (x : Cause) → So (context_of s) at x → IsRefused limit s command.place act (entries_of s) at x)
      → IfErr r (λ e. IsRefusedSo names p.state.context.entries (So p.state.context) e.place e.cause e.text)
      → IfErr r (λ e. IsRefusal names limit old o e.place e.cause e.text)
  not_shown act So is refused h =
      not_printed names limit old o act r (So (context_of old)) is (refused old)
      (subst (λ (s : Session). IfErr r (λ e. IsRefusedSo names (entries_of s) (So (context_of s)) e.place e.cause e.text)) viewed h)

  -- a refused one leaves the session as it was
  pub left_so : OnErr r ((q.state ≡ p.state) × (q.history ≡ p.history)) → OnErr r (session_of q ≡ old)
  left_so err = subst (λ (s : Session). OnErr r (session_of q ≡ s)) viewed (same_parts q p r err)

  -- and the parts go on to hold
  pub still_parts : IsStep → OnErr r ((q.state ≡ p.state) × (q.history ≡ p.history)) → GoesWith q.history q.state → AreParts p → AreParts q
  still_parts step err goes parts = record {
    goes = goes;
    no_holes = stays_whole names limit old (session_of q) o r step (left_so err) (subst HasNoHoles viewed parts.no_holes);
  }
