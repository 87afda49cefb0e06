-- A step keeps the names of a session's entries held, where those of the command are.
use Rattle.std.proofs.Common.{◌≡◌, ℕ, Bool, true, false, ◌&&◌, List, [], ◌∷◌, ◌++◌, map, Option, Some, None, IsTrue, IfSome, Result, Ok, Err, IfOk, OnErr, refl, sym, ap, ◌∙◌, subst}
use Rattle.std.specs.Prelude.{All}
use Rattle.std.specs.List.{list_all}
use Rattle.std.proofs.lemmas.List.Elements.{All-nil, All-push, All-same, All-take, All-cons, All-head, All-tail}
use Rattle.lego_base.specs.declared.place.Place.{Place}
use Rattle.lego_term.specs.Trees.{Core}
use Rattle.lego_term.specs.declared.binder.Binder.{Binder}
use Rattle.lego_term.specs.declared.binder.Mark.{Mark}
use Rattle.lego_term.specs.Levels.{LevelPair}
use Rattle.lego_grammar.specs.Reading.{binder}
use Rattle.lego_lexer.proofs.TokenLemmas.{and_true}
use Rattle.lego_grammar.specs.Grammar.{Names}
use Rattle.lego_grammar.specs.Written.{Written, WrittenKind, Defined, WrittenBinding, WrittenCommand}
use Rattle.lego_inference.specs.Binders.{BinderKind, BindersPass}
use Rattle.lego_inference.specs.declared.entry.Entry.{Entry as Item}
use Rattle.lego_inference.specs.Entries.{laws_entries, HoldsInEntries}
use Rattle.lego_context.specs.Changes.{assumption, definition, IsDefined, FitsDefinition}
use Rattle.lego_context.specs.Contexts.{Contents}
use Rattle.lego_reading.specs.Written.{EachWrittenBinder, written_binders, kind_of}
use Rattle.lego_reading.specs.Calls.{IsCoreOf}
use Rattle.lego_reading.specs.Universes.{variables_for, places_of, with_types_of}
use Rattle.lego_session.specs.Names.{is_held, is_known_binder, IsKnown, AreKnown, IsKnownSession, AreHeld, IsHeldBinder, AreKindHeld, AreBoundHeld}
use Rattle.lego_session.specs.Reading.{is_plain, has_plain_marks, is_plain_kind, is_built}
use Rattle.lego_session.specs.Sessions.{Session}
use Rattle.lego_session.specs.Step.{Step, Reply, bindings_of}
use Rattle.lego_session.specs.commands.Bindings.{AssumesAll, ReadsDefinition, MakesEntries, BindsAll}
use Rattle.lego_session.proofs.ExtendLemmas.{types-entries}
use Rattle.lego_session.proofs.LowerLemmas.{read_cores_keep_binders, rule_types_keep_binders}
use Rattle.lego_session.proofs.SessionLemmas.{step-throughout}

both : (a b : Bool) → a ≡ true → b ≡ true → (a && b) ≡ true
both true true e f = refl
both true false e f = absurd (cc)
both false b e f = absurd (cc)

-- the binders of a written term that has no implicit mark, and whose names are held, are known
module _ (names : Names) where
  abbrev known_kind : BinderKind → Binder → Type 0
  known_kind kind x = IsTrue (is_known_binder names kind x)

  binders_known : (kind : BinderKind) (mark : Mark) (ns : List ℕ) → is_plain mark ≡ true → All (IsHeldBinder names kind) (written_binders mark ns)
      → All (known_kind kind) (written_binders mark ns)
  binders_known kind mark [] plain h =
      All-cons (known_kind kind) (binder None mark) [] (both (is_plain mark) true plain refl) (All-nil (known_kind kind))
  binders_known kind mark (n ∷ ns) plain h = several (n ∷ ns) h
    where
      several : (ks : List ℕ) → All (IsHeldBinder names kind) (map (λ m. binder (Some m) mark) ks) → All (known_kind kind) (map (λ m. binder (Some m) mark) ks)
      several [] h = All-nil (known_kind kind)
      several (k ∷ ks) h =
          All-cons (known_kind kind) (binder (Some k) mark) (map (λ m. binder (Some m) mark) ks)
          (both (is_plain mark) (is_held names k) plain (All-head (IsHeldBinder names kind) (binder (Some k) mark) (map (λ m. binder (Some m) mark) ks) h))
          (several ks (All-tail (IsHeldBinder names kind) (binder (Some k) mark) (map (λ m. binder (Some m) mark) ks) h))

  written_known : (t : Written) → has_plain_marks t ≡ true → EachWrittenBinder (IsHeldBinder names) t → EachWrittenBinder known_kind t
  written_known (Written.Named p n) plain h = tt
  written_known Written.WrittenProp plain h = tt
  written_known (Written.AnyType p) plain h = tt
  written_known (Written.TypeAt n) plain h = tt
  written_known (Written.GoalAt p n) plain h = tt
  written_known (Written.Bind kind mark ns s t) plain h =
      let form = and_true (is_plain mark) (has_plain_marks s && has_plain_marks t) plain in
      let parts = and_true (has_plain_marks s) (has_plain_marks t) form.1 in
      (binders_known (kind_of kind) mark ns form.0 h.0, written_known s parts.0 h.1, written_known t parts.1 h.2)
  written_known (Written.Local n s t) plain h =
      let parts = and_true (has_plain_marks s) (has_plain_marks t) plain in
      (h.0, written_known s parts.0 h.1, written_known t parts.1 h.2)
  written_known (Written.Apply mark s t) plain h =
      let form = and_true (is_plain mark) (has_plain_marks s && has_plain_marks t) plain in
      let parts = and_true (has_plain_marks s) (has_plain_marks t) form.1 in
      (written_known s parts.0 h.0, written_known t parts.1 h.1)
  written_known (Written.Pair m n t) plain h =
      let form = and_true (has_plain_marks m) (has_plain_marks n && has_plain_marks t) plain in
      let parts = and_true (has_plain_marks n) (has_plain_marks t) form.1 in
      (written_known m form.0 h.0, written_known n parts.0 h.1, written_known t parts.1 h.2)
  written_known (Written.Project part s) plain h = written_known s plain h

  entries_known : (es : List Item) → All (IsKnown names) es → HoldsInEntries (BindersPass (is_known_binder names)) (laws_entries es)
  entries_known [] h = tt
  entries_known (e ∷ es) h =
      let first = All-head (IsKnown names) e es h in
      ((first.ty, first.body), entries_known es (All-tail (IsKnown names) e es h))

  -- an entry more
  one_known : (old new : Contents) (e : Item) → new.entries ≡ old.entries ++ e ∷ [] → AreKnown names old → IsKnown names e → AreKnown names new
  one_known old new e is known h = All-same (IsKnown names) new.entries (old.entries ++ e ∷ []) is (All-push (IsKnown names) old.entries e known h)

  same_known : (old new : Contents) → new.entries ≡ old.entries → AreKnown names old → AreKnown names new
  same_known old new is known = All-same (IsKnown names) new.entries old.entries is known

  assumes_known : {mark : Mark} {ty : Core} {place : Place} {old new : Contents} {ns : List ℕ} → AssumesAll mark ty place old ns new → is_plain mark ≡ true
      → AreHeld names ns → BindersPass (is_known_binder names) ty → AreKnown names old → AreKnown names new
  assumes_known AssumesAll.none plain held binders known = known
  assumes_known {mark} {ty} (AssumesAll.more {old = old} {mid = mid} {n = n} h rest) plain held binders known =
      assumes_known rest plain held.1 binders
      (one_known old mid (assumption h.number n mark ty h.more) (ap (λ (c : Contents). c.entries) h.added) known
      (record { name = held.0; plain = plain; ty = binders; body = tt }))

  core_known : (c : Contents) (t : Written) (core : Core) → IsCoreOf c t core → has_plain_marks t ≡ true → EachWrittenBinder (IsHeldBinder names) t → AreKnown names c
      → BindersPass (is_known_binder names) core
  core_known c t core read plain held known =
      read_cores_keep_binders (is_known_binder names) (laws_entries c.entries) (variables_for c.levels (places_of t)) t core (entries_known c.entries known) (written_known t plain held) read.within.reads

  defined_known : (old new : Contents) (name : ℕ) (body : Core) (ty : Option Core) (place : Place) → IsDefined old name body ty place new → is_held names name ≡ true
      → BindersPass (is_known_binder names) body → IfSome ty (BindersPass (is_known_binder names)) → AreKnown names old → AreKnown names new
  defined_known old new name body ty place h held of_body of_type known =
      one_known old new (definition h.number name h.ty body h.more) (ap (λ (c : Contents). c.entries) h.added) known
      (record { name = held; plain = refl; ty = type_known h.fits of_type; body = of_body })
    where
      type_known : {n n' : ℕ} {written : Option Core} {a : Core} {k : List LevelPair} → FitsDefinition n n' (laws_entries old.entries) body written a k
          → IfSome written (BindersPass (is_known_binder names)) → BindersPass (is_known_binder names) a
      type_known {n} (FitsDefinition.by_rule {ty = a} fits) h =
          rule_types_keep_binders (is_known_binder names) (laws_entries old.entries) (record { types = []; binders = []; first = n }) body a (entries_known old.entries known) tt of_body fits.rule.rule
      type_known (FitsDefinition.as_written fits) h = h

  definition_known : {old mid new : Contents} {place : Place} {m : Written} {t : Option Written} {body : Core} {ty : Option Core} (name : ℕ) → ReadsDefinition old m t body ty mid
      → IsDefined mid name body ty place new → is_plain_kind (Defined m t) ≡ true → is_held names name ≡ true → AreKindHeld names (Defined m t) → AreKnown names old → AreKnown names new
  definition_known {old} {mid} {new} {place} {m} name (ReadsDefinition.untyped {body = body} read) h plain held kinds known =
      defined_known mid new name body None place h held (core_known old m body read plain kinds known) tt (same_known old mid (types-entries old m) known)
  definition_known {old} {mid} {new} {place} {m} name (ReadsDefinition.typed {t = t} {body = body} {ty = ty} read read_type) h plain held kinds known =
      let parts = and_true (has_plain_marks m) (has_plain_marks t) plain in
      let between = same_known old (with_types_of old m) (types-entries old m) known in
      defined_known mid new name body (Some ty) place h held (core_known old m body read parts.0 kinds.0 known)
      (core_known (with_types_of old m) t ty read_type parts.1 kinds.1 between) (same_known (with_types_of old m) mid (types-entries (with_types_of old m) t) between)

  makes_known : {old new : Contents} {place : Place} {ns : List ℕ} {kind : WrittenKind} → MakesEntries old place ns kind new → is_plain_kind kind ≡ true
      → AreHeld names ns → AreKindHeld names kind → AreKnown names old → AreKnown names new
  makes_known {old} (MakesEntries.assumptions {mark = mark} {t = t} {ty = ty} read all) plain held kinds known =
      let form = and_true (is_plain mark) (has_plain_marks t) plain in
      assumes_known all form.0 held (core_known old t ty read form.1 kinds known) (same_known old (with_types_of old t) (types-entries old t) known)
  makes_known (MakesEntries.definition {name = name} read h) plain held kinds known = definition_known name read h plain held.0 kinds known

  binds_known : {old new : Contents} {bs : List WrittenBinding} → BindsAll old bs new → list_all (λ b. is_plain_kind b.kind) bs ≡ true
      → AreBoundHeld names bs → AreKnown names old → AreKnown names new
  binds_known BindsAll.none built held known = known
  binds_known (BindsAll.more {b = b} {bs = bs} h rest) built held known =
      let form = and_true (is_plain_kind b.kind) (list_all (λ (b : WrittenBinding). is_plain_kind b.kind) bs) built in
      binds_known rest form.1 held.1 (makes_known h.makes form.0 held.0.0 held.0.1 known)

  -- a session's step keeps the names of the entries held, where those of the command are
  pub step_keeps : {limit : ℕ} {old new : Session} {o : WrittenCommand} {a : Reply} → Step names limit old o a new → is_built o.act ≡ true
      → IsKnownSession names old → AreBoundHeld names (bindings_of o.act) → IsKnownSession names new
  step_keeps {limit} step built known held = record {
    true_names = known.true_names;
    known =
        step-throughout (AreKnown names) (λ c at h. All-take (IsKnown names) at c.entries h) names limit
        (λ bs is c c' binds before. binds_known binds (sym (ap is_built is) ∙ built) (subst (λ a. AreBoundHeld names (bindings_of a)) is held) before)
        step known.known;
  }

  pub outcome_known : {X E : Type 0} (limit : ℕ) (old new : Session) (o : WrittenCommand) (outcome : Result X E) (answer : X → Reply)
      → is_built o.act ≡ true → IfOk outcome (λ a. Step names limit old o (answer a) new) → OnErr outcome (new ≡ old)
      → IsKnownSession names old → AreBoundHeld names (bindings_of o.act) → IsKnownSession names new
  outcome_known limit old new o (Ok a) answer built ok err known held = step_keeps ok built known held
  outcome_known limit old new o (Err e) answer built ok err known held = subst (IsKnownSession names) (sym err) known
