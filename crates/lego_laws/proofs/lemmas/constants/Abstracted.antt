-- Assumptions of a list turned into local variables.
use Rattle.std.proofs.Common.{◌≡◌, ℕ, suc, Bool, true, false, cond, nat_eq, IsTrue, Option, Some, None, option_map, option_and_then, unwrap_or, IfSome, List, [], ◌∷◌, ◌++◌, refl, sym, ap, ap₂, ◌∙◌, arith, subst}
use Rattle.std.proofs.lemmas.Bool.Decides.{nat_tests}
use Rattle.lego_term.specs.Trees.{Term, Var, Const, Prop, Univ, Pi, Lam, App, Sigma, Pair, Fst, Snd, lift, listed_variable, close_over, Let}
use Rattle.lego_term.specs.Steps.{Contracts, Step, Converts}
use Rattle.lego_laws.specs.Parallel.{TermBodies}
use Rattle.lego_laws.specs.Entries.{Constant, constant_of, bodies_of}
use Rattle.lego_laws.specs.Judgement.{Has}
use Rattle.lego_laws.specs.Valid.{AreValid}
use Rattle.lego_laws.specs.Derivations.{types_of, HasLocal, Derives, d_var, d_const, ValidLocals, v_none, v_local, ValidConstants}
use Rattle.lego_laws.specs.Strengthening.{MentionsOnly, EntryMentions}
use Rattle.lego_laws.specs.Orders.{found_in, has_constant, MentionEarlier, AreAmong}
use Rattle.lego_laws.specs.Replacement.{raised, replace, listed_as_locals}
use Rattle.lego_laws.specs.Abstraction.{Abstracts, nothing, keeps, abstracts, Abstraction}
use Rattle.lego_laws.proofs.lemmas.typing.Rules.{known, derived, judged, valid_locals, type_from}
use Rattle.lego_laws.proofs.lemmas.typing.Entries.{Extends, more_derives, more_convert, more_locals, loose_within, types_closed, bodies_closed, types_kept, bodies_kept, body_from, entry_kept}
use Rattle.lego_laws.proofs.lemmas.typing.TypingLaws.{constants_valid, type_correctness_law}
use Rattle.lego_laws.proofs.lemmas.constants.ExpansionLaws.{tail_valid, newest_type}
use Rattle.lego_laws.proofs.lemmas.typing.Renaming.{d-thin}
use Rattle.lego_laws.proofs.lemmas.constants.Replaced.{Stands, r-derives, raised_closed, lift_converts}
use Rattle.lego_laws.proofs.lemmas.constants.Reordered.{found_is, reordering}
use Rattle.lego_laws.proofs.lemmas.constants.Listed.{listed_last, listed_others, others_raised}
use Rattle.lego_laws.proofs.lemmas.constants.KnownConstants.{replaced_agree}
use Rattle.lego_laws.proofs.lemmas.constants.Closing.{closed_over}

-- a term that mentions constants alone which stand for themselves stays
raised_same : (p : ℕ → Bool) (s : ℕ → Term) → ((k : ℕ) → IsTrue (p k) → s k ≡ Const k) → (k : ℕ) → IsTrue (p k) → raised s k ≡ Const k
raised_same p s h k m = ap (lift 0 1) (h k m)

unmentioned : (p : ℕ → Bool) (s : ℕ → Term) → ((k : ℕ) → IsTrue (p k) → s k ≡ Const k) → (t : Term) → MentionsOnly p t → replace s t ≡ t
unmentioned p s h (Var i) m = refl
unmentioned p s h (Const k) m = h k m
unmentioned p s h Prop m = refl
unmentioned p s h (Univ l) m = refl
unmentioned p s h (Pi x a r) m = ap₂ (Pi tt) (unmentioned p s h a m.0) (unmentioned p (raised s) (raised_same p s h) r m.1)
unmentioned p s h (Lam x a r) m = ap₂ (Lam tt) (unmentioned p s h a m.0) (unmentioned p (raised s) (raised_same p s h) r m.1)
unmentioned p s h (App x a r) m = ap₂ (App tt) (unmentioned p s h a m.0) (unmentioned p s h r m.1)
unmentioned p s h (Sigma x a r) m = ap₂ (Sigma tt) (unmentioned p s h a m.0) (unmentioned p (raised s) (raised_same p s h) r m.1)
unmentioned p s h (Let x a r) m = ap₂ (Let tt) (unmentioned p s h a m.0) (unmentioned p (raised s) (raised_same p s h) r m.1)
unmentioned p s h (Pair x a r y z) m =
    let ea = unmentioned p s h a m.0 in
    let er = unmentioned p (raised s) (raised_same p s h) r m.1 in
    let ey = unmentioned p s h y m.2 in
    let ez = unmentioned p s h z m.3 in
    cc (ea, er, ey, ez)
unmentioned p s h (Fst a) m = ap Fst (unmentioned p s h a m)
unmentioned p s h (Snd a) m = ap Snd (unmentioned p s h a m)

none_of : (o : Option Constant) → (IsTrue (found_in o) → ⊥) → o ≡ None
none_of None h = refl
none_of (Some y) h = absurd (h refl)

not_both : {X : Type 0} {o : Option X} {y : X} → o ≡ Some y → o ≡ None → ⊥
not_both e f = cc

other_number : (e : Constant) (es : List Constant) (k : ℕ) (y : Constant) → constant_of es e.number ≡ None → constant_of es k ≡ Some y → nat_eq e.number k ≡ false
other_number e es k y new h = grind (arith, nat_tests)

-- what is known of the kept constants and of the locals
record Abstracted (ns : List ℕ) (es es' : List Constant) (h : List Term) : Type 0 where
  valid : AreValid es
  kept : AreValid es'
  among : AreAmong es' es
  earlier : MentionEarlier es'
  locals : ValidLocals (types_of es') (bodies_of es') h
  apart : (k : ℕ) → IsTrue (has_constant es' k) → listed_variable ns k ≡ None
  listed : (k : ℕ) → constant_of es k ≡ None → listed_variable ns k ≡ None
  stands : Stands (listed_as_locals ns) (types_of es) (bodies_of es) (types_of es') (bodies_of es') h

as_itself : (ns : List ℕ) (k : ℕ) → listed_variable ns k ≡ None → ◌≡◌ {A = Term} (listed_as_locals ns k) (Const k)
as_itself ns k e = ap (λ o. unwrap_or (option_map Var o) (Const k)) e

keep_found : (o : Bool) (e y : Constant) (m' m : Option Constant) → ((z : Constant) → m' ≡ Some z → m ≡ Some z) → cond o (Some e) m' ≡ Some y → cond o (Some e) m ≡ Some y
keep_found true e y m' m f h = h
keep_found false e y m' m f h = f y h

not_first : (o : Bool) (e : Constant) (m : Option Constant) → cond o (Some e) m ≡ None → (o ≡ false) × (m ≡ None)
not_first true e m h = cc
not_first false e m h = (refl, h)

is_number : (n k : ℕ) → nat_eq n k ≡ true → k ≡ n
is_number n k h = grind (arith, nat_tests)

moved : {c b : TermBodies} {g : List Term} {m m' a a' : Term} → m ≡ m' → a ≡ a' → Derives c b g m a → Derives c b g m' a'
moved {c} {b} {g} {m} {m'} {a} {a'} em ea d = subst (λ z. Derives c b g m' z) ea (subst (λ z. Derives c b g z a) em d)

converts_moved : {b : TermBodies} {t t' u u' : Term} → t ≡ t' → u ≡ u' → Converts b t u → Converts b t' u'
converts_moved {b} {t} {t'} {u} {u'} et eu p = subst (λ z. Converts b t' z) eu (subst (λ z. Converts b z u) et p)

module _ (ns : List ℕ) (es es' : List Constant) (h : List Term) (x : Abstracted ns es es' h) where
  s : ℕ → Term
  s = listed_as_locals ns

  valid_before : ValidConstants (types_of es) (bodies_of es)
  valid_before = constants_valid es x.valid

  valid_kept : ValidConstants (types_of es') (bodies_of es')
  valid_kept = constants_valid es' x.kept

  -- over the locals, with the listed constants replaced
  replaced : {m q : Term} → Derives (types_of es) (bodies_of es) [] m q → Derives (types_of es') (bodies_of es') h (replace s m) (replace s q)
  unfolding s
  replaced d =
      r-derives (listed_as_locals ns) (types_of es) (bodies_of es) (types_of es') (bodies_of es') h (types_closed valid_before) (bodies_closed valid_before) (types_closed valid_kept) (bodies_closed valid_kept) x.stands d

  closed_is : {m q : Term} → Derives (types_of es) (bodies_of es) [] m q → close_over ns 0 m ≡ replace s m
  unfolding s
  closed_is {m} d = let le = loose_within d in closed_over ns m (omega arith)

  module _ (e : Constant) (new : constant_of es e.number ≡ None) (full : AreValid (e ∷ es)) where
    new_kept : constant_of es' e.number ≡ None
    new_kept = none_of (constant_of es' e.number) (λ q. let y = found_is (constant_of es' e.number) q in not_both (x.among e.number y.0 y.1) new)

    -- a constant that is kept
    module _ (mentions : EntryMentions (has_constant es') e) where
      grows : Extends (types_of es') (types_of (e ∷ es'))
      grows = types_kept e es' new_kept

      grows' : Extends (bodies_of es') (bodies_of (e ∷ es'))
      grows' = bodies_kept e es' new_kept

      stays : (t : Term) → MentionsOnly (has_constant es') t → replace s t ≡ t
      unfolding s
      stays t m = unmentioned (has_constant es') (listed_as_locals ns) (λ k q. as_itself ns k (x.apart k q)) t m

      itself : (k : ℕ) → k ≡ e.number → s k ≡ Const k
      unfolding s
      itself k is = as_itself ns k (x.listed k (ap (constant_of es) is ∙ new))

      body_mentions : (o : Option Term) (t : Term) → o ≡ Some t → IfSome o (λ m. MentionsOnly (has_constant es') m) → MentionsOnly (has_constant es') t
      body_mentions None t q m = cc
      body_mentions (Some u) t q m = let is : u ≡ t = cc in subst (MentionsOnly (has_constant es')) is m

      typed_at : (k : ℕ) (a : Term) (o : Bool) → nat_eq e.number k ≡ o → option_map (λ e. e.ty) (cond o (Some e) (constant_of es k)) ≡ Some a → Derives (types_of (e ∷ es')) (bodies_of (e ∷ es')) h (s k) (replace s a)
      unfolding s
      typed_at k a true q f =
          let is : e.ty ≡ a = cc in
          let found = ap (λ o. option_map (λ (e : Constant). e.ty) (cond o (Some e) (constant_of es' k))) q ∙ ap Some is in
          moved (sym (itself k (is_number e.number k q))) (sym (stays a (subst (MentionsOnly (has_constant es')) is mentions.0))) (d_const found)
      typed_at k a false q f = more_derives grows grows' (x.stands.typed k a f)

      converts_at : (k : ℕ) (t : Term) (o : Bool) → nat_eq e.number k ≡ o → option_and_then (λ e. e.body) (cond o (Some e) (constant_of es k)) ≡ Some t → Converts (bodies_of (e ∷ es')) (s k) (replace s t)
      unfolding s
      converts_at k t true q f =
          let found = ap (λ o. option_and_then (λ (e : Constant). e.body) (cond o (Some e) (constant_of es' k))) q ∙ f in
          converts_moved (sym (itself k (is_number e.number k q))) (sym (stays t (body_mentions e.body t f mentions.1))) (Converts.step (Step.here (Contracts.unfolds found)))
      converts_at k t false q f = more_convert grows' (x.stands.converts k t f)

      apart_at : (k : ℕ) (o : Bool) → nat_eq e.number k ≡ o → IsTrue (found_in (cond o (Some e) (constant_of es' k))) → listed_variable ns k ≡ None
      apart_at k true q f = x.listed k (ap (constant_of es) (is_number e.number k q) ∙ new)
      apart_at k false q f = x.apart k f

      keep : Abstracted ns (e ∷ es) (e ∷ es') h
      unfolding s
      keep =
          let among : AreAmong (e ∷ es') (e ∷ es) = λ k y q. keep_found (nat_eq e.number k) e y (constant_of es' k) (constant_of es k) (x.among k) q in
          let earlier : MentionEarlier (e ∷ es') = (new_kept, mentions, x.earlier) in
          record {
            valid = full;
            kept = reordering (e ∷ es) (e ∷ es') full among earlier;
            among = among;
            earlier = earlier;
            locals = more_locals grows grows' x.locals;
            apart = λ k q. apart_at k (nat_eq e.number k) refl q;
            listed = λ k q. x.listed k (not_first (nat_eq e.number k) e (constant_of es k) q).1;
            stands = record { typed = λ k a q. typed_at k a (nat_eq e.number k) refl q; converts = λ k t q. converts_at k t (nat_eq e.number k) refl q };
          }

    -- an assumption that becomes a local
    module _ (assumed : e.body ≡ None) where
      b : Term
      b = close_over ns 0 e.ty

      type_before : (j : ℕ) × Derives (types_of es) (bodies_of es) [] e.ty (Univ j)
      type_before = let t = newest_type e es full in (t.0, (derived t.1).0)

      others : (k : ℕ) (y : Constant) → constant_of es k ≡ Some y → listed_as_locals (ns ++ (e.number ∷ [])) k ≡ raised s k
      unfolding s
      others k y q = others_raised ns e.number k (other_number e es k y new q)

      agree : {t q : Term} → Derives (types_of es) (bodies_of es) [] t q → replace (listed_as_locals (ns ++ (e.number ∷ []))) t ≡ lift 0 1 (replace s t)
      unfolding s
      agree {t} d =
          let le = loose_within d in
          replaced_agree (listed_as_locals (ns ++ (e.number ∷ []))) (raised (listed_as_locals ns)) (λ k a q. let y = type_from (constant_of es k) a q in others k y.0 y.1) d
          ∙ raised_closed (listed_as_locals ns) t (omega arith)

      thin : {m a : Term} → Derives (types_of es') (bodies_of es') h m a → Derives (types_of es') (bodies_of es') (close_over ns 0 e.ty ∷ h) (lift 0 1 m) (lift 0 1 a)
      thin d = d-thin (types_of es') (bodies_of es') (types_closed valid_kept) (bodies_closed valid_kept) d (close_over ns 0 e.ty)

      new_typed : (k : ℕ) (a : Term) (o : Bool) → nat_eq e.number k ≡ o → option_map (λ e. e.ty) (cond o (Some e) (constant_of es k)) ≡ Some a → Derives (types_of es') (bodies_of es') (close_over ns 0 e.ty ∷ h) (listed_as_locals (ns ++ (e.number ∷ [])) k) (replace (listed_as_locals (ns ++ (e.number ∷ []))) a)
      unfolding s
      new_typed k a true q f =
          let is : e.ty ≡ a = cc in
          let number = is_number e.number k q in
          let zero_is = ap (λ n. unwrap_or (option_map Var (listed_variable (ns ++ (e.number ∷ [])) n)) (Const n)) number ∙ ap (λ o. unwrap_or (option_map Var o) (Const e.number)) (listed_last ns e.number (x.listed e.number new)) in
          let type_is = ap (lift 0 1) (closed_is type_before.1) ∙ sym (agree type_before.1) ∙ ap (replace (listed_as_locals (ns ++ (e.number ∷ [])))) is in
          moved (sym zero_is) type_is (d_var HasLocal.here)
      new_typed k a false q f =
          let y = type_from (constant_of es k) a f in
          moved (sym (others k y.0 y.1)) (sym (agree (valid_before.types k a f).1)) (thin (x.stands.typed k a f))

      new_converts : (k : ℕ) (t : Term) (o : Bool) → nat_eq e.number k ≡ o → option_and_then (λ e. e.body) (cond o (Some e) (constant_of es k)) ≡ Some t → Converts (bodies_of es') (listed_as_locals (ns ++ (e.number ∷ [])) k) (replace (listed_as_locals (ns ++ (e.number ∷ []))) t)
      unfolding s
      new_converts k t true q f = absurd (not_both f assumed)
      new_converts k t false q f =
          let y = body_from (constant_of es k) t f in
          converts_moved (sym (others k y.0 y.1)) (sym (agree (valid_before.bodies k t f).2)) (lift_converts (bodies_of es) (bodies_of es') (bodies_closed valid_before) (bodies_closed valid_kept) (x.stands.converts k t f))

      listed_none : (k : ℕ) → nat_eq e.number k ≡ false → listed_variable ns k ≡ None → listed_variable (ns ++ (e.number ∷ [])) k ≡ None
      listed_none k q f = listed_others ns e.number k q ∙ ap (option_map suc) f

      abstract_one : Abstracted (ns ++ (e.number ∷ [])) (e ∷ es) es' (close_over ns 0 e.ty ∷ h)
      unfolding s
      abstract_one =
          record {
            valid = full;
            kept = x.kept;
            among = λ k y q. entry_kept e es new k y (x.among k y q);
            earlier = x.earlier;
            locals = v_local x.locals (moved (sym (closed_is type_before.1)) refl (replaced type_before.1));
            apart = λ k q. let y = found_is (constant_of es' k) q in listed_none k (other_number e es k y.0 new (x.among k y.0 y.1)) (x.apart k q);
            listed = λ k q. let n = not_first (nat_eq e.number k) e (constant_of es k) q in listed_none k n.0 (x.listed k n.1);
            stands = record { typed = λ k a q. new_typed k a (nat_eq e.number k) refl q; converts = λ k t q. new_converts k t (nat_eq e.number k) refl q };
          }

  judgement : (m a : Term) → Has es [] m a → Has es' h (close_over ns 0 m) (close_over ns 0 a)
  judgement m a d =
      let f = (derived d).0 in
      let t = type_correctness_law es x.valid [] m a d in
      judged (moved (sym (closed_is f)) (sym (closed_is (derived t.1).0)) (replaced f)) (valid_locals x.kept.valid x.locals)

abstracted : {ns : List ℕ} {es es' : List Constant} {h : List Term} → AreValid es → Abstracts ns es es' h → Abstracted ns es es' h
abstracted v nothing =
    record {
      valid = v;
      kept = v;
      among = λ k y q. q;
      earlier = tt;
      locals = v_none;
      apart = λ k q. refl;
      listed = λ k q. refl;
      stands = record { typed = λ k a q. cc; converts = λ k t q. cc };
    }
abstracted v (keeps {ns = ns} {es = es} {es' = es'} {h = h} {e = e} m a) =
    keep ns es es' h (abstracted (tail_valid e es v) a) e (known v.valid).types.0 v m
abstracted v (abstracts {ns = ns} {es = es} {es' = es'} {h = h} {e = e} q a) =
    abstract_one ns es es' h (abstracted (tail_valid e es v) a) e (known v.valid).types.0 v q

pub abstraction : Abstraction
abstraction ns es es' h v a =
    let x = abstracted v a in
    (x.kept, valid_locals x.kept.valid x.locals, judgement ns es es' h x)
