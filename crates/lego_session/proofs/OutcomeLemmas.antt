-- What a call of `run` did, from what its parts did.
use Rattle.std.proofs.Common.{◌≡◌, ◌≢◌, ℕ, ◌≤◌, Bool, true, false, ◌||◌, ◌&&◌, List, [], ◌++◌, length, take, drop, Option, None, Some, refl, sym, ap, ◌∙◌, subst, inl, inr, arith, append-nil, append_assoc, length-append, length-drop}
use Rattle.std.specs.Prelude.{◌⊎◌, MatchBool}
use Rattle.std.proofs.lemmas.Bool.{false≢true}
use Rattle.std.proofs.lemmas.List.{take-append-drop}
use Rattle.std.specs.Io.KnownBytes.{Appends, Consumes, IsAtEnd, Keeps}
use Rattle.std.proofs.KnownBytes.{Appends-nil, Appends-trans, Consumes-nil, Consumes-trans, Consumes-kept}
use Rattle.lego_base.specs.Causes.{Rose}
use Rattle.lego_base.specs.Place.{behind}
use Rattle.lego_lexer.specs.Commands.{CommandText, Cuts, Ending, HasEnded}
use Rattle.lego_lexer.proofs.CutsExist.{scripts_cut}
use Rattle.lego_words.specs.declared.options.Options.{Options}
use Rattle.lego_grammar.specs.Grammar.{Names}
use Rattle.lego_session.specs.Sessions.{Session}
use Rattle.lego_session.specs.Step.{Reply}
use Rattle.lego_session.specs.Texts.{first_place}
use Rattle.lego_session.specs.Outcomes.{IsReadWhole, IsReadFor, IsReadToRefused, Completed, Broken, Overlong, CutOff, Outcome, IsAcceptable}
use Rattle.lego_session.specs.private.Progress.{HasAnswered, HasAnsweredSome, IsUnderway, IsClosed, IsClosedInPart, IsFinished, IsPassed, IsEnded, IsStopped, IsHalted, IsOverlong, IsCounted}
use Rattle.lego_session.specs.Runs.{Run, Runs, Closes, answers_text, refuses, some_refused, ends_early, is_ending_refused}
use Rattle.lego_session.specs.declared.progress.Progress.{Progress}
use Rattle.lego_session.specs.declared.status.Status.{Status}
use Rattle.lego_session.specs.declared.status.Status.TheVariants.{Accepted, Refused, Usage, ReadFault, WriteFault, Memory, OpenProof, TooLong}
use Rattle.lego_session.proofs.ClosingLemmas.{match_passed, match_failed}
use Rattle.lego_session.proofs.GatheredLemmas.{past_behind}
use Rattle.lego_session.proofs.RunLemmas.{reached_first, run_with, run_here, text-push}

and_left : (a b : Bool) → (a && b) ≡ true → a ≡ true
and_left true b h = refl
and_left false b h = h

and_right : (a b : Bool) → (a && b) ≡ true → b ≡ true
and_right true b h = h
and_right false b h = absurd (false≢true h)

-- no fault of the sink was counted, where none is answered
pub not_counted : (before now : ℕ) (status : Status) → IsCounted before now status → status ≢ WriteFault → now ≡ before
not_counted before now Accepted h none = h
not_counted before now Refused h none = h
not_counted before now Usage h none = h
not_counted before now ReadFault h none = h
not_counted before now WriteFault h none = absurd (none refl)
not_counted before now Memory h none = h
not_counted before now OpenProof h none = h
not_counted before now TooLong h none = h

-- nothing was read yet
pub underway_first : (options : Options) (p : Progress) (l t : Option (List ℕ)) → p.options ≡ options → HasAnswered p [] [] → IsUnderway options p l l t t
underway_first options p l t asked h = record {
  asked = asked;
  read = [];
  answers = [];
  answered = h;
  goes_on = ap (λ r. p.options.stop && r) h.refused ∙ and_none p.options.stop;
  few = omega arith;
  consumed = Consumes-nil l;
  written = Appends-nil t;
}
  where
    and_none : (b : Bool) → (b && false) ≡ false
    and_none true = refl
    and_none false = refl

pub some_underway : (options : Options) (p : Progress) (l l' t t' : Option (List ℕ)) → IsUnderway options p l l' t t' → HasAnsweredSome p
some_underway options p l l' t t' u = record { read = u.read; answers = u.answers; answered = u.answered }

-- what follows the answers, where no command ends the run, and where one does
closes_on : {stop : Bool} {names : Names} {s : Session} {ending : Ending} {development text : List ℕ} {early : Bool} → early ≡ false
    → Closes stop names s ending development text → MatchBool early (text ≡ []) (Closes stop names s ending development text)
closes_on {stop} {names} {s} {ending} {development} {text} {early} e h = match_failed early (text ≡ []) (Closes stop names s ending development text) e h

-- where no refusal ends a run, that of the ending doesn't
ending_goes_on : (stop some ending : Bool) → (stop && (some || ending)) ≡ false → (stop && ending) ≡ false
ending_goes_on false some ending h = refl
ending_goes_on true true ending h = absurd (false≢true (sym h))
ending_goes_on true false ending h = h

module _ (options : Options) (p : Progress) (l l' t t' : Option (List ℕ)) (u : IsUnderway options p l l' t t') where
  on : ends_early p.options.stop u.answers ≡ false
  on = ap (λ r. p.options.stop && r) (sym u.answered.refused) ∙ u.goes_on

  module _ (ending : Ending) (rest : Cuts (behind first_place u.answered.came) u.answered.bytes [] ending) where
    abbrev run_of : Run p.options.steps p.options.stop first_place u.read
    run_of = run_with u.answered.reached u.read u.answered.bytes u.answered.parts ending rest

    -- a read failed
    pub broken : (l'' : Option (List ℕ)) → Keeps l' l'' → Broken options.steps options.stop l l'' t t'
    broken l'' k = subst (λ (o : Options). Broken o.steps o.stop l l'' t t') u.asked (record {
      read = u.read;
      consumed = Consumes-kept l l' l'' u.read u.consumed k;
      short = u.few;
      answers = record { run = run_of; goes_on = on; written = u.written };
    })

    -- the end was read
    module _ (l'' t'' : Option (List ℕ)) (consumed : Consumes l' l'' []) (z : IsAtEnd l'') where
      whole : IsReadWhole l l'' u.read
      whole = record { consumed = subst (Consumes l l'') (append-nil u.read) (Consumes-trans l l' l'' _ _ u.consumed consumed); at_end = z; short = u.few }

      completed : (flag : Bool) → IsClosed p.options.stop p.names p.session ending t' t'' → (p.refused || is_ending_refused ending) ≡ flag
          → Completed p.options.steps p.options.stop l l'' t t'' flag
      completed flag h is =
          let refusal = ap (λ b. b || is_ending_refused ending) (sym u.answered.refused) ∙ is in
          record {
            bytes = u.read;
            run = run_of;
            reading = IsReadFor.to_end on whole;
            refusal = refusal;
            development = h.development;
            output = answers_text u.answers ++ h.text;
            is_output = record { closing = h.text; closes = closes_on on h.closes; is = refl };
            written = Appends-trans t t' t'' _ _ u.written h.written;
            headline = λ none. h.headline (ending_goes_on p.options.stop (some_refused u.answers) (is_ending_refused ending) (ap (λ b. p.options.stop && b) refusal ∙ none));
          }

      in_closing : IsClosedInPart p.options.stop p.names p.session ending t' t'' → CutOff p.options.steps p.options.stop l l'' t t''
      in_closing f = CutOff.in_closing (record {
        bytes = u.read;
        reading = whole;
        run = run_of;
        goes_on = on;
        closing = f.0;
        closes = f.1;
        written = past_behind t t' t'' _ _ u.written f.2;
      })

      finished_so : (status : Status) → IsFinished p.options.stop p.names p.session p.refused ending t' t'' status → Outcome p.options.steps p.options.stop l l'' t t'' status
      finished_so Accepted f = completed false f.0 f.1
      finished_so Refused f = completed true f.0 f.1
      finished_so WriteFault f = in_closing f
      finished_so Memory f = in_closing f
      finished_so Usage f = absurd f
      finished_so ReadFault f = absurd f
      finished_so OpenProof f = absurd f
      finished_so TooLong f = absurd f

      pub finished : (status : Status) → IsFinished p.options.stop p.names p.session p.refused ending t' t'' status → Outcome options.steps options.stop l l'' t t'' status
      finished status f = subst (λ (o : Options). Outcome o.steps o.stop l l'' t t'' status) u.asked (finished_so status f)

    -- the run ended at a piece
    module _ (l'' t'' : Option (List ℕ)) (q : List ℕ) (consumed : Consumes l' l'' q) (near : length q ≤ 4096) where
      all_consumed : Consumes l l'' (u.read ++ q)
      all_consumed = Consumes-trans l l' l'' _ _ u.consumed consumed

      cut_among : IsHalted p.options u.answers (take 16777216 (u.read ++ q)) t' t'' → CutOff p.options.steps p.options.stop l l'' t t''
      cut_among h = CutOff.among_answers (record {
        before = u.read;
        piece = q;
        consumed = all_consumed;
        short = u.few;
        near = near;
        done = run_of;
        goes_on = on;
        came = h.came;
        behind = h.behind;
        within = h.within;
        run = run_here h.reached;
        others = h.more;
        answers = refl;
        written = past_behind t t' t'' _ _ u.written h.written;
      })

      module _ (p' : Progress) (same : p'.options ≡ p.options) where
        stopped : (more : List Reply) (h : IsStopped p' u.read u.answers q more) → length (u.read ++ take h.used q) ≤ 16777216 → Appends t' t'' (answers_text more)
            → Completed p'.options.steps p'.options.stop l l'' t t'' true
        stopped more h short w =
            let early : ends_early p'.options.stop (u.answers ++ more) ≡ true = ap (λ r. p'.options.stop && r) (sym h.answered.refused) ∙ h.stops in
            let all = u.read ++ take h.used q in
            let joined : (u.read ++ take h.used q) ++ drop h.used q ≡ u.read ++ q =
            append_assoc u.read (take h.used q) (drop h.used q) ∙ ap (λ xs. u.read ++ xs) (take-append-drop h.used q) in
            record {
              bytes = u.read ++ take h.used q;
              run = run_here h.answered.reached;
              reading = IsReadFor.to_refused (record {
                early = early;
                last = h.answered.reached.as_many;
                ended = h.answered.reached.ended;
                front = h.answered.front;
                with_semicolon = h.answered.with_semicolon;
                short = short;
                behind = drop h.used q;
                consumed = subst (Consumes l l'') (sym joined) all_consumed;
                near = omega (arith, near, h.some, h.within, length-drop h.used q);
              });
              refusal = ap (λ r. r || false) (and_right p'.options.stop (some_refused (u.answers ++ more)) early);
              development = [];
              output = answers_text (u.answers ++ more) ++ [];
              is_output = record { closing = []; closes = match_passed (ends_early p'.options.stop (u.answers ++ more)) _ _ early refl; is = refl };
              written = subst (Appends t t'') (sym (append-nil (answers_text (u.answers ++ more)) ∙ text-push u.answers more)) (Appends-trans t t' t'' _ _ u.written w);
              headline = λ none. absurd (false≢true (sym none ∙ ap (λ b. b && true) (and_left p'.options.stop (some_refused (u.answers ++ more)) early)));
            }

        overlong : IsOverlong p' u.read u.answers q t' t'' → Overlong p'.options.steps p'.options.stop l l'' t t''
        overlong h = record {
          read = u.read ++ q;
          consumed = all_consumed;
          long = h.many;
          near = omega (arith, u.few, near, length-append u.read q);
          answers = record {
            run = run_with h.answered.reached (take 16777216 (u.read ++ q)) h.answered.bytes h.answered.parts h.ending h.rest;
            goes_on = ap (λ r. p'.options.stop && r) (sym h.answered.refused) ∙ h.goes_on;
            written = subst (Appends t t'') (sym (text-push u.answers h.more)) (Appends-trans t t' t'' _ _ u.written h.written);
          };
        }

        ended_so : (status : Status) → IsEnded p' u.read u.answers q t' t'' status → Outcome p.options.steps p.options.stop l l'' t t'' status
        ended_so Refused e = subst (λ (o : Options). Completed o.steps o.stop l l'' t t'' true) same (stopped e.0 e.1 e.2 e.3)
        ended_so TooLong e = subst (λ (o : Options). Overlong o.steps o.stop l l'' t t'') same (overlong e)
        ended_so WriteFault e = cut_among (subst (λ (o : Options). IsHalted o u.answers (take 16777216 (u.read ++ q)) t' t'') same e)
        ended_so Memory e = cut_among (subst (λ (o : Options). IsHalted o u.answers (take 16777216 (u.read ++ q)) t' t'') same e)
        ended_so Accepted e = absurd e
        ended_so Usage e = absurd e
        ended_so ReadFault e = absurd e
        ended_so OpenProof e = absurd e

        pub ended : (status : Status) → IsEnded p' u.read u.answers q t' t'' status → Outcome options.steps options.stop l l'' t t'' status
        ended status e = subst (λ (o : Options). Outcome o.steps o.stop l l'' t t'' status) u.asked (ended_so status e)

        -- the run goes on behind a piece
        pub passed : IsPassed p' u.read u.answers q t' t'' → IsUnderway options p' l l'' t t''
        passed h = record {
          asked = same ∙ u.asked;
          read = u.read ++ q;
          answers = u.answers ++ h.more;
          answered = h.answered;
          goes_on = h.goes_on;
          few = h.few;
          consumed = all_consumed;
          written = subst (Appends t t'') (sym (text-push u.answers h.more)) (Appends-trans t t' t'' _ _ u.written h.written);
        }

-- what was read of a known script
consumed_front : (bytes read : List ℕ) (l' : Option (List ℕ)) → Consumes (Some bytes) l' read → (more : List ℕ) × (bytes ≡ read ++ more) × (l' ≡ Some more)
consumed_front bytes read None k = absurd k
consumed_front bytes read (Some more) k = (more, k, refl)

-- what stands behind the command at which `--stop` ended a run doesn't matter
runs_stopped : {limit : ℕ} {stop : Bool} {held names : Names} {old new : Session} {cs : List CommandText} {answers : List Reply} (others : List CommandText)
    → Runs limit stop held old cs answers names new → ends_early stop answers ≡ true → Runs limit stop held old (cs ++ others) answers names new
runs_stopped {stop = true} others Runs.none e = absurd (false≢true e)
runs_stopped {stop = false} others Runs.none e = absurd (false≢true e)
runs_stopped {stop = stop} others (Runs.more {a = a} {answers = answers} h k r) e = Runs.more h k (runs_stopped others r (rest_early stop a.refused (some_refused answers) k e))
  where
    rest_early : (stop r s : Bool) → (stop && r) ≡ false → (stop && (r || s)) ≡ true → (stop && s) ≡ true
    rest_early true true s k e = absurd (false≢true (sym k))
    rest_early true false s k e = e
    rest_early false r s k e = e
runs_stopped others (Runs.stops more h k) e = Runs.stops (more ++ others) h k

pub stopped_more : {limit : ℕ} {stop : Bool} (bytes : List ℕ) (run : Run limit stop first_place bytes) → HasEnded first_place bytes run.commands → ends_early stop run.answers ≡ true
    → (more : List ℕ) → (other : Run limit stop first_place (bytes ++ more)) × (other.answers ≡ run.answers)
stopped_more bytes run ended early more =
    let behind_it = scripts_cut (behind first_place bytes) more in (
      record {
        commands = run.commands ++ behind_it.commands;
        ending = behind_it.ending;
        names = run.names;
        answers = run.answers;
        session = run.session;
        cut = ended more behind_it.commands behind_it.ending behind_it.cuts;
        runs = runs_stopped behind_it.commands run.runs early;
      },
      refl,
    )

module _ (limit : ℕ) (stop : Bool) (l l' t t' : Option (List ℕ)) (a : IsAcceptable limit stop l) where
  told : (read : List ℕ) → Consumes l l' read → (more : List ℕ) × (a.bytes ≡ read ++ more) × (l' ≡ Some more)
  told read k = consumed_front a.bytes read l' (subst (λ (x : Option (List ℕ)). Consumes x l' read) a.told k)

  not_whole : (bytes : List ℕ) (run : Run limit stop first_place bytes) → IsReadWhole l l' bytes → refuses run ≡ true → ⊥
  not_whole bytes run r h =
      let f = told bytes r.consumed in
      let end : f.0 ≡ [] = subst IsAtEnd f.2 r.at_end in
      let same : a.bytes ≡ bytes = f.1 ∙ (ap (λ (xs : List ℕ). bytes ++ xs) end ∙ append-nil bytes) in
      let accepted = subst (λ (xs : List ℕ). (r : Run limit stop first_place xs) → refuses r ≡ false) same a.accepted in
      false≢true (sym (accepted run) ∙ h)

  not_to_refused : (bytes : List ℕ) (run : Run limit stop first_place bytes) → IsReadToRefused l l' run → ⊥
  not_to_refused bytes run r =
      let f = told (bytes ++ r.behind) r.consumed in
      let same : a.bytes ≡ bytes ++ (r.behind ++ f.0) = f.1 ∙ append_assoc bytes r.behind f.0 in
      let accepted = subst (λ (xs : List ℕ). (r : Run limit stop first_place xs) → refuses r ≡ false) same a.accepted in
      let other = stopped_more bytes run r.ended r.early (r.behind ++ f.0) in
      let some : some_refused other.0.answers ≡ true = ap some_refused other.1 ∙ and_right stop (some_refused run.answers) r.early in
      false≢true (sym (accepted other.0) ∙ ap (λ b. b || is_ending_refused other.0.ending) some)

  no_refusal : Completed limit stop l l' t t' true → ⊥
  no_refusal h = by_reading h.reading
    where
      by_reading : IsReadFor l l' h.run → ⊥
      by_reading (IsReadFor.to_end _ r) = not_whole h.bytes h.run r h.refusal
      by_reading (IsReadFor.to_refused r) = not_to_refused h.bytes h.run r

  not_long : Overlong limit stop l l' t t' → ⊥
  not_long h =
      let f = told h.read h.consumed in
      absurd (omega (arith, a.short, h.long, ap length f.1, length-append h.read f.0))

  -- without a fault, and where each command is accepted, only memory can be wanting
  pub complete : (before now before' now' : ℕ) (status : Status) → Outcome limit stop l l' t t' status → (status ≡ ReadFault → Rose before now) → (status ≡ WriteFault → Rose before' now')
      → (Rose before now → ⊥) → (Rose before' now' → ⊥) → (status ≡ Accepted) ⊎ (status ≡ Memory)
  complete before now before' now' Accepted o r w s k = inl refl
  complete before now before' now' Memory o r w s k = inr refl
  complete before now before' now' Refused o r w s k = absurd (no_refusal o)
  complete before now before' now' TooLong o r w s k = absurd (not_long o)
  complete before now before' now' ReadFault o r w s k = absurd (s (r refl))
  complete before now before' now' WriteFault o r w s k = absurd (k (w refl))
  complete before now before' now' Usage o r w s k = absurd o
  complete before now before' now' OpenProof o r w s k = absurd o

-- nothing was read and nothing written
pub nothing_done : (limit : ℕ) (stop : Bool) (l t : Option (List ℕ)) → CutOff limit stop l l t t
nothing_done limit stop l t = CutOff.among_answers (record {
  before = [];
  piece = [];
  consumed = Consumes-nil l;
  short = omega arith;
  near = omega arith;
  done = run_here (reached_first limit stop);
  goes_on = none stop;
  came = [];
  behind = [];
  within = refl;
  run = run_here (reached_first limit stop);
  others = [];
  answers = refl;
  written = (0, omega arith, Appends-nil t);
})
  where
    none : (b : Bool) → (b && false) ≡ false
    none true = refl
    none false = refl
