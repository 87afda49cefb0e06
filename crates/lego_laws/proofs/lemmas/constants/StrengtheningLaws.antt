-- Strengthening, for the thirteen rules.
use Rattle.std.proofs.Common.{◌≡◌, ℕ, Bool, true, false, cond, nat_eq, IsTrue, Option, Some, None, option_map, option_and_then, IfSome, List, [], inl, inr, refl, sym, ap, ◌∙◌, arith, subst}
use Rattle.std.proofs.lemmas.Bool.Decides.{nat_tests}
use Rattle.std.specs.List.{AllByRecursion}
use Rattle.lego_term.specs.Trees.{Term, Univ}
use Rattle.lego_laws.specs.Entries.{Constant, constant_of, bodies_of}
use Rattle.lego_laws.specs.Judgement.{Valid, Has}
use Rattle.lego_laws.specs.Valid.{AreValid}
use Rattle.lego_laws.specs.Derivations.{types_of, Derives, ValidLocals, v_none, v_local}
use Rattle.lego_laws.specs.Strengthening.{MentionsOnly, EntryMentions, Drops, nothing, keeps, drops, DroppedListsAreValid, Strengthening}
use Rattle.lego_laws.proofs.lemmas.typing.Rules.{known, derived, judged, valid_locals, type_from}
use Rattle.lego_laws.proofs.lemmas.typing.Entries.{types_closed, bodies_closed, body_from, found}
use Rattle.lego_laws.proofs.lemmas.typing.TypingLaws.{constants_valid}
use Rattle.lego_laws.proofs.lemmas.constants.ExpansionLaws.{tail_valid, newest_type}
use Rattle.lego_laws.proofs.lemmas.constants.Strengthened.{Restricts, strengthened}

module _ (p : ℕ → Bool) where
  -- a constant that is not kept is no kept one
  other : (n k : ℕ) → (IsTrue (p n) → ⊥) → IsTrue (p k) → (o : Bool) → nat_eq n k ≡ o → o ≡ false
  other n k out kept false e = refl
  other n k out kept true e =
      let same : k ≡ n = grind (arith, nat_tests) in
      absurd (out (subst (λ z. IsTrue (p z)) same kept))

  same_found : {es es' : List Constant} → Drops p es es' → (k : ℕ) → IsTrue (p k) → constant_of es' k ≡ constant_of es k
  same_found nothing k h = refl
  same_found (keeps {e = e} q m d) k h = ap (λ o. cond (nat_eq e.number k) (Some e) o) (same_found d k h)
  same_found (drops {e = e} {es = es} q d) k h =
      same_found d k h ∙ sym (ap (λ o. cond o (Some e) (constant_of es k)) (other e.number k q h (nat_eq e.number k) refl))

  kept_mentions : {es es' : List Constant} → Drops p es es' → (k : ℕ) → IsTrue (p k) → (y : Constant) → constant_of es k ≡ Some y → EntryMentions p y
  kept_mentions nothing k h y e = cc
  kept_mentions (keeps {e = x} {es = es} q m d) k h y e =
      elim (found (nat_eq x.number k) x y (constant_of es k) e) [ inl same ↦ subst (EntryMentions p) same m | inr rest ↦ kept_mentions d k h y rest ]
  kept_mentions (drops {e = x} {es = es} q d) k h y e =
      kept_mentions d k h y (sym (ap (λ o. cond o (Some x) (constant_of es k)) (other x.number k q h (nat_eq x.number k) refl)) ∙ e)

  body_mentions : (o : Option Term) (t : Term) → o ≡ Some t → IfSome o (λ m. MentionsOnly p m) → MentionsOnly p t
  body_mentions None t e h = cc
  body_mentions (Some m) t e h = let is : m ≡ t = cc in subst (MentionsOnly p) is h

  restricts : {es es' : List Constant} → Drops p es es' → Restricts p (types_of es) (bodies_of es) (types_of es') (bodies_of es')
  restricts {es} d =
      record {
        types_same = λ k h. ap (option_map (λ (e : Constant). e.ty)) (same_found d k h);
        bodies_same = λ k h. ap (option_and_then (λ (e : Constant). e.body)) (same_found d k h);
        types_kept = λ k a h q. let y = type_from (constant_of es k) a q in subst (MentionsOnly p) y.2 (kept_mentions d k h y.0 y.1).0;
        bodies_kept = λ k t h q. let y = body_from (constant_of es k) t q in body_mentions y.0.body t y.2 (kept_mentions d k h y.0 y.1).1;
      }

  module _ (es es' : List Constant) (x : AreValid es) (x' : AreValid es') (d : Drops p es es') where
    kept_derives : (g : List Term) → ValidLocals (types_of es) (bodies_of es) g → ValidLocals (types_of es') (bodies_of es') g → AllByRecursion (λ t. MentionsOnly p t) g → (m a : Term) → MentionsOnly p m → MentionsOnly p a → Derives (types_of es) (bodies_of es) g m a → Derives (types_of es') (bodies_of es') g m a
    kept_derives =
        let v = constants_valid es x in
        let v' = constants_valid es' x' in
        strengthened p (types_of es) (bodies_of es) (types_of es') (bodies_of es') (types_closed v) (bodies_closed v) (types_closed v') (bodies_closed v') (restricts d) v v'

    kept_locals : {g : List Term} → ValidLocals (types_of es) (bodies_of es) g → AllByRecursion (λ t. MentionsOnly p t) g → ValidLocals (types_of es') (bodies_of es') g
    kept_locals v_none h = v_none
    kept_locals (v_local {g = g} {a = a} {j = j} v q) h =
        let w = kept_locals v h.1 in
        v_local w (kept_derives g v w h.1 a (Univ j) h.0 tt q)

    pub kept_judgement : (g : List Term) (m a : Term) → AllByRecursion (λ t. MentionsOnly p t) g → MentionsOnly p m → MentionsOnly p a → Has es g m a → Has es' g m a
    kept_judgement g m a hg hm ha q =
        let k = derived q in
        let w = kept_locals k.1.locals hg in
        judged (kept_derives g k.1.locals w hg m a hm ha k.0) (valid_locals x'.valid w)

  kept_body : (es es' : List Constant) (x : AreValid es) (x' : AreValid es') (d : Drops p es es') (o : Option Term) (a : Term) → MentionsOnly p a → IfSome o (λ m. MentionsOnly p m) → IfSome o (λ m. Has es [] m a) → IfSome o (λ m. Has es' [] m a)
  kept_body es es' x x' d None a ha hm h = tt
  kept_body es es' x x' d (Some m) a ha hm h = kept_judgement es es' x x' d [] m a tt hm ha h

  pub dropped : {es es' : List Constant} → AreValid es → Drops p es es' → AreValid es'
  dropped x nothing = x
  dropped x (keeps {e = e} {es = es} {es' = es'} q m d) =
      let y = tail_valid e es x in
      let y' = dropped y d in
      let t = newest_type e es x in
      let fresh = same_found d e.number q ∙ (known x.valid).types.0 in
      record {
        valid = Valid.grow_constant (kept_judgement es es' y y' d [] e.ty (Univ t.0) tt m.0 tt t.1) fresh;
        bodies = (kept_body es es' y y' d e.body e.ty m.0 m.1 x.bodies.0, y'.bodies);
      }
  dropped x (drops {e = e} {es = es} q d) = dropped (tail_valid e es x) d

pub dropped_lists_are_valid : DroppedListsAreValid
dropped_lists_are_valid p es es' x d = dropped p x d

pub strengthening : Strengthening
strengthening p es es' x d g m a hg hm ha q = kept_judgement p es es' x (dropped p x d) d g m a hg hm ha q
