-- Constants in another order.
use Rattle.std.proofs.Common.{◌≡◌, ℕ, Bool, nat_eq, IsTrue, Option, Some, None, option_map, option_and_then, IfSome, List, [], ◌∷◌, inl, inr, refl, sym, ap, ◌∙◌, arith, subst}
use Rattle.std.proofs.lemmas.Bool.Decides.{nat_tests}
use Rattle.std.specs.List.{AllByRecursion}
use Rattle.lego_term.specs.Trees.{Term, Var, Const, Prop, Univ, Pi, Lam, App, Sigma, Pair, Fst, Snd, Let}
use Rattle.lego_laws.specs.Entries.{Constant, constant_of, bodies_of}
use Rattle.lego_laws.specs.Judgement.{Valid, Has}
use Rattle.lego_laws.specs.Valid.{AreValid}
use Rattle.lego_laws.specs.Derivations.{types_of, Derives, ValidLocals, v_none, v_local}
use Rattle.lego_laws.specs.Strengthening.{MentionsOnly, EntryMentions}
use Rattle.lego_laws.specs.Orders.{found_in, has_constant, MentionEarlier, AreAmong, Reordering, ReorderedJudgements}
use Rattle.lego_laws.proofs.lemmas.typing.Rules.{known, derived, judged, valid_locals, type_from}
use Rattle.lego_laws.proofs.lemmas.typing.Entries.{HasItsType, types_closed, bodies_closed, body_from, found, entry_kept, stands}
use Rattle.lego_laws.proofs.lemmas.typing.TypingLaws.{bodies_typed, constants_valid}
use Rattle.lego_laws.proofs.lemmas.constants.Strengthened.{Restricts, strengthened}

mentions_more : (p q : ℕ → Bool) → ((k : ℕ) → IsTrue (p k) → IsTrue (q k)) → (t : Term) → MentionsOnly p t → MentionsOnly q t
mentions_more p q h (Var i) m = tt
mentions_more p q h (Const k) m = h k m
mentions_more p q h Prop m = tt
mentions_more p q h (Univ l) m = tt
mentions_more p q h (Pi x a r) m = (mentions_more p q h a m.0, mentions_more p q h r m.1)
mentions_more p q h (Lam x a r) m = (mentions_more p q h a m.0, mentions_more p q h r m.1)
mentions_more p q h (App k a r) m = (mentions_more p q h a m.0, mentions_more p q h r m.1)
mentions_more p q h (Sigma x a r) m = (mentions_more p q h a m.0, mentions_more p q h r m.1)
mentions_more p q h (Let x a r) m = (mentions_more p q h a m.0, mentions_more p q h r m.1)
mentions_more p q h (Pair x a r y z) m = (mentions_more p q h a m.0, mentions_more p q h r m.1, mentions_more p q h y m.2, mentions_more p q h z m.3)
mentions_more p q h (Fst a) m = mentions_more p q h a m
mentions_more p q h (Snd a) m = mentions_more p q h a m

body_mentions_more : (p q : ℕ → Bool) → ((k : ℕ) → IsTrue (p k) → IsTrue (q k)) → (o : Option Term) → IfSome o (λ m. MentionsOnly p m) → IfSome o (λ m. MentionsOnly q m)
body_mentions_more p q h None m = tt
body_mentions_more p q h (Some t) m = mentions_more p q h t m

pub found_is : (o : Option Constant) → IsTrue (found_in o) → (y : Constant) × (o ≡ Some y)
found_is None h = cc
found_is (Some y) h = (y, refl)

found_more : (e : Constant) (before : List Constant) → constant_of before e.number ≡ None → (k : ℕ) → IsTrue (has_constant before k) → IsTrue (has_constant (e ∷ before) k)
found_more e before new k h =
    let y = found_is (constant_of before k) h in
    ap found_in (entry_kept e before new k y.0 y.1)

-- a constant of the list mentions constants of the list
pub mentions_listed : (es : List Constant) → MentionEarlier es → (k : ℕ) (y : Constant) → constant_of es k ≡ Some y → EntryMentions (has_constant es) y
mentions_listed [] h k y e = cc
mentions_listed (x ∷ before) h k y e =
    let more = found_more x before h.0 in
    let raise : (z : Constant) → EntryMentions (has_constant before) z → EntryMentions (has_constant (x ∷ before)) z = λ z m. (mentions_more (has_constant before) (has_constant (x ∷ before)) more z.ty m.0, body_mentions_more (has_constant before) (has_constant (x ∷ before)) more z.body m.1) in
    elim (found (nat_eq x.number k) x y (constant_of before k) e) [ inl same ↦ subst (EntryMentions (has_constant (x ∷ before))) same (raise x h.1) | inr old ↦ raise y (mentions_listed before h.2 k y old) ]

pub body_mentions : (p : ℕ → Bool) (o : Option Term) (t : Term) → o ≡ Some t → IfSome o (λ m. MentionsOnly p m) → MentionsOnly p t
body_mentions p None t e h = cc
body_mentions p (Some m) t e h = let is : m ≡ t = cc in subst (MentionsOnly p) is h

module _ (es : List Constant) (x : AreValid es) where
  restricts : (before : List Constant) → AreAmong before es → MentionEarlier before → Restricts (has_constant before) (types_of es) (bodies_of es) (types_of before) (bodies_of before)
  restricts before among earlier =
      record {
        types_same = λ k h. let y = found_is (constant_of before k) h in ap (option_map (λ (e : Constant). e.ty)) (y.1 ∙ sym (among k y.0 y.1));
        bodies_same = λ k h. let y = found_is (constant_of before k) h in ap (option_and_then (λ (e : Constant). e.body)) (y.1 ∙ sym (among k y.0 y.1));
        types_kept = λ k a h q.
            let y = found_is (constant_of before k) h in
            let z = type_from (constant_of before k) a (ap (option_map (λ (e : Constant). e.ty)) (y.1 ∙ sym (among k y.0 y.1)) ∙ q) in
            subst (MentionsOnly (has_constant before)) z.2 (mentions_listed before earlier k z.0 z.1).0;
        bodies_kept = λ k t h q.
            let y = found_is (constant_of before k) h in
            let z = body_from (constant_of before k) t (ap (option_and_then (λ (e : Constant). e.body)) (y.1 ∙ sym (among k y.0 y.1)) ∙ q) in
            body_mentions (has_constant before) z.0.body t z.2 (mentions_listed before earlier k z.0 z.1).1;
      }

  pub over_before : (before : List Constant) → AreAmong before es → MentionEarlier before → AreValid before → (g : List Term) → ValidLocals (types_of es) (bodies_of es) g → ValidLocals (types_of before) (bodies_of before) g → AllByRecursion (λ t. MentionsOnly (has_constant before) t) g → (m a : Term) → MentionsOnly (has_constant before) m → MentionsOnly (has_constant before) a → Derives (types_of es) (bodies_of es) g m a → Derives (types_of before) (bodies_of before) g m a
  over_before before among earlier y =
      let v = constants_valid es x in
      let w = constants_valid before y in
      strengthened (has_constant before) (types_of es) (bodies_of es) (types_of before) (bodies_of before) (types_closed v) (bodies_closed v) (types_closed w) (bodies_closed w) (restricts before among earlier) v w

  among_before : (e : Constant) (before : List Constant) → constant_of before e.number ≡ None → AreAmong (e ∷ before) es → AreAmong before es
  among_before e before new among k y h = among k y (entry_kept e before new k y h)

  itself : (e : Constant) (before : List Constant) → constant_of (e ∷ before) e.number ≡ Some e
  itself e before = grind (arith, nat_tests)

  body_over : (before : List Constant) → AreAmong before es → MentionEarlier before → AreValid before → (o : Option Term) (a : Term) → MentionsOnly (has_constant before) a → IfSome o (λ m. MentionsOnly (has_constant before) m) → HasItsType es o a → IfSome o (λ m. Has before [] m a)
  body_over before among earlier y None a ma mo h = tt
  body_over before among earlier y (Some m) a ma mo h = judged (over_before before among earlier y [] v_none v_none tt m a mo ma h) y.valid

  reordered : (es' : List Constant) → AreAmong es' es → MentionEarlier es' → AreValid es'
  reordered [] among earlier = record { valid = Valid.empty; bodies = tt }
  reordered (e ∷ before) among earlier =
      let among' = among_before e before earlier.0 among in
      let y = reordered before among' earlier.2 in
      let k = known x.valid in
      let s = stands es k.types (bodies_typed es x.bodies) e.number e (among e.number e (itself e before)) in
      record {
        valid = Valid.grow_constant (judged (over_before before among' earlier.2 y [] v_none v_none tt e.ty (Univ s.typed.0) earlier.1.0 tt s.typed.1) y.valid) earlier.0;
        bodies = (body_over before among' earlier.2 y e.body e.ty earlier.1.0 earlier.1.1 s.body, y.bodies);
      }

  module _ (es' : List Constant) (among : AreAmong es' es) (earlier : MentionEarlier es') (y : AreValid es') where
    locals_over : {g : List Term} → ValidLocals (types_of es) (bodies_of es) g → AllByRecursion (λ t. MentionsOnly (has_constant es') t) g → ValidLocals (types_of es') (bodies_of es') g
    locals_over v_none h = v_none
    locals_over (v_local {g = g} {a = a} {j = j} v d) h =
        let w = locals_over v h.1 in
        v_local w (over_before es' among earlier y g v w h.1 a (Univ j) h.0 tt d)

    judgement_over : (g : List Term) (m a : Term) → AllByRecursion (λ t. MentionsOnly (has_constant es') t) g → MentionsOnly (has_constant es') m → MentionsOnly (has_constant es') a → Has es g m a → Has es' g m a
    judgement_over g m a hg hm ha d =
        let k = derived d in
        let w = locals_over k.1.locals hg in
        judged (over_before es' among earlier y g k.1.locals w hg m a hm ha k.0) (valid_locals y.valid w)

pub reordering : Reordering
reordering es es' x among earlier = reordered es x es' among earlier

pub reordered_judgements : ReorderedJudgements
reordered_judgements es es' x among earlier g m a hg hm ha d =
    judgement_over es x es' among earlier (reordered es x es' among earlier) g m a hg hm ha d
