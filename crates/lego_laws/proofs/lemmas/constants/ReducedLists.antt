-- Lists of constants whose types and bodies are reduced.
use Rattle.std.proofs.Common.{◌≡◌, ℕ, Bool, true, false, cond, nat_eq, Option, Some, None, option_map, option_and_then, List, [], ◌∷◌, map, refl, sym, ap, ap₂, ◌∙◌, subst}
use Rattle.lego_term.specs.Trees.{Term, Var, Const, Prop, Univ, Pi, Lam, App, Sigma, Pair, Fst, Snd, replace_constants, Let}
use Rattle.lego_term.specs.Steps.{Contracts, Step, Converts}
use Rattle.lego_term.specs.Below.{Below}
use Rattle.lego_laws.specs.Parallel.{Star}
use Rattle.lego_laws.specs.Entries.{Constant, constant_of, bodies_of}
use Rattle.lego_laws.specs.Derivations.{types_of, Derives, d_const, d_cum, ValidLocals, v_none, ValidConstants}
use Rattle.lego_laws.specs.Reduced.{BodyReduces, ReducesTo, nothing, reduced, ReducedListsAreValid, JudgementsOverReducedLists}
use Rattle.lego_laws.proofs.lemmas.reduction.CommonReducts.{convert_run}
use Rattle.lego_laws.proofs.lemmas.typing.Rules.{ValidTypes, known, derived, judged, valid_types, valid_locals}
use Rattle.lego_laws.proofs.lemmas.typing.Entries.{Extends, more_derives, more_convert, HasItsType, ValidBodies, types_kept, bodies_kept, valid_constants, types_closed, bodies_closed}
use Rattle.lego_laws.proofs.lemmas.typing.TypingLaws.{bodies_typed}
use Rattle.lego_laws.proofs.lemmas.constants.Translated.{t-derives, t-locals}
use Rattle.lego_laws.proofs.lemmas.constants.Expanded.{FillsTo, nothing_yet, fresh_if}
use Rattle.lego_laws.proofs.lemmas.constants.ExpansionLaws.{bodies_judged}
use Rattle.lego_laws.proofs.lemmas.inference.Solving.{runs_keep}

-- nothing is replaced
pub none_replaced : (t : Term) → replace_constants (λ k. None) t ≡ t
none_replaced (Var i) = refl
none_replaced (Const k) = refl
none_replaced Prop = refl
none_replaced (Univ l) = refl
none_replaced (Pi x a r) = ap₂ (Pi tt) (none_replaced a) (none_replaced r)
none_replaced (Lam x a r) = ap₂ (Lam tt) (none_replaced a) (none_replaced r)
none_replaced (App k m n) = ap₂ (App tt) (none_replaced m) (none_replaced n)
none_replaced (Sigma x a r) = ap₂ (Sigma tt) (none_replaced a) (none_replaced r)
none_replaced (Let x a r) = ap₂ (Let tt) (none_replaced a) (none_replaced r)
none_replaced (Pair x a r m n) = cc (none_replaced a, none_replaced r, none_replaced m, none_replaced n)
none_replaced (Fst m) = ap Fst (none_replaced m)
none_replaced (Snd m) = ap Snd (none_replaced m)

all_the_same : (g : List Term) → map (replace_constants (λ k. None)) g ≡ g
all_the_same [] = refl
all_the_same (a ∷ g) = ap₂ (λ x y. x ∷ y) (none_replaced a) (all_the_same g)

module _ (e l : List Constant) (v : ValidTypes e) (w : ValidBodies e) (x : FillsTo e l (λ k. None)) where
  valid : ValidConstants (types_of e) (bodies_of e)
  valid = valid_constants e v w

  valid' : ValidConstants (types_of l) (bodies_of l)
  valid' = valid_constants l x.types x.bodies

  pub over : (g : List Term) {m q : Term} → Derives (types_of e) (bodies_of e) g m q → Derives (types_of l) (bodies_of l) g m q
  over g {m} {q} f =
      subst (λ z. Derives (types_of l) (bodies_of l) g m z) (none_replaced q)
      (subst (λ z. Derives (types_of l) (bodies_of l) g z (replace_constants (λ k. None) q)) (none_replaced m)
      (subst (λ z. Derives (types_of l) (bodies_of l) z (replace_constants (λ k. None) m) (replace_constants (λ k. None) q)) (all_the_same g)
      (t-derives (λ k. None) (types_of e) (bodies_of e) (types_of l) (bodies_of l) (types_closed valid) (bodies_closed valid) (types_closed valid') (bodies_closed valid') x.translates f)))

  run : {m m' q : Term} → Star (Step (bodies_of l)) m m' → Derives (types_of l) (bodies_of l) [] m q → Derives (types_of l) (bodies_of l) [] m' q
  run p d = runs_keep (types_of l) (bodies_of l) (types_closed valid') (bodies_closed valid') valid' v_none p d

  module _ (n : ℕ) (a a' : Term) (o o' : Option Term) (new : constant_of e n ≡ None) (j : ℕ) (d : Derives (types_of e) (bodies_of e) [] a (Univ j)) (b : HasItsType e o a) (p : Star (Step (bodies_of l)) a a') (q : BodyReduces (bodies_of l) o o') where
    old : Constant
    old = record { number = n; ty = a; body = o }

    now : Constant
    now = record { number = n; ty = a'; body = o' }

    new_type : Derives (types_of l) (bodies_of l) [] a' (Univ j)
    new_type = run p (over [] d)

    new_body : (o o' : Option Term) → HasItsType e o a → BodyReduces (bodies_of l) o o' → HasItsType l o' a'
    new_body None None h r = tt
    new_body None (Some m') h r = elim r [ ]
    new_body (Some m) None h r = elim r [ ]
    new_body (Some m) (Some m') h r = d_cum (run r (over [] h)) new_type (Below.converts (convert_run p))

    grows : Extends (types_of l) (types_of (now ∷ l))
    unfolding now
    grows = types_kept now l (x.fresh n new)

    grows' : Extends (bodies_of l) (bodies_of (now ∷ l))
    unfolding now
    grows' = bodies_kept now l (x.fresh n new)

    body_converts : (t : Term) (o o' : Option Term) → o ≡ Some t → BodyReduces (bodies_of l) o o' → (m' : Term) × (o' ≡ Some m') × Converts (bodies_of l) t m'
    body_converts t None o' e r = cc
    body_converts t (Some m) None e r = elim r [ ]
    body_converts t (Some m) (Some m') e r = let is : m ≡ t = cc in (m', refl, subst (λ z. Converts (bodies_of l) z m') is (convert_run r))

    typed_at : (k : ℕ) (t : Term) (c : Bool) → nat_eq n k ≡ c → option_map (λ e. e.ty) (cond c (Some old) (constant_of e k)) ≡ Some t → Derives (types_of (now ∷ l)) (bodies_of (now ∷ l)) [] (Const k) (replace_constants (λ i. None) t)
    unfolding old now
    typed_at k t true h f =
        let is : a ≡ t = cc in
        let known_type = d_const (ap (λ c. option_map (λ (e : Constant). e.ty) (cond c (Some (record { number = n; ty = a'; body = o' })) (constant_of l k))) h) in
        let whole = d_cum known_type (more_derives grows grows' (over [] d)) (Below.converts (Converts.back (more_convert grows' (convert_run p)))) in
        subst (λ z. Derives (types_of (record { number = n; ty = a'; body = o' } ∷ l)) (bodies_of (record { number = n; ty = a'; body = o' } ∷ l)) [] (Const k) z) (is ∙ sym (none_replaced t)) whole
    typed_at k t false h f = more_derives grows grows' (x.translates.typed k t f)

    converts_at : (k : ℕ) (t : Term) (c : Bool) → nat_eq n k ≡ c → option_and_then (λ e. e.body) (cond c (Some old) (constant_of e k)) ≡ Some t → Converts (bodies_of (now ∷ l)) (Const k) (replace_constants (λ i. None) t)
    unfolding old now
    converts_at k t true h f =
        let m = body_converts t o o' f q in
        let found = ap (λ c. option_and_then (λ (e : Constant). e.body) (cond c (Some (record { number = n; ty = a'; body = o' })) (constant_of l k))) h ∙ m.1 in
        rw none_replaced (Converts.chain (Converts.step (Step.here (Contracts.unfolds found))) (Converts.back (more_convert grows' m.2)))
    converts_at k t false h f = more_convert grows' (x.translates.converts k t f)

    pub next_reduced : FillsTo (record { number = n; ty = a; body = o } ∷ e) (record { number = n; ty = a'; body = o' } ∷ l) (λ k. None)
    unfolding old now
    next_reduced =
        record {
          types = (x.fresh n new, (j, new_type), x.types);
          bodies = (new_body o o' b q, x.bodies);
          fresh = λ k h. fresh_if (nat_eq n k) (record { number = n; ty = a; body = o }) _ (constant_of e k) (constant_of l k) h (x.fresh k);
          translates = record {
            closed = λ k t h. cc;
            typed = λ k t h. typed_at k t (nat_eq n k) refl h;
            converts = λ k t h. converts_at k t (nat_eq n k) refl h;
          };
        }

renumbered : (e e' : Constant) (es l : List Constant) → e'.number ≡ e.number → FillsTo es (record { number = e.number; ty = e'.ty; body = e'.body } ∷ l) (λ k. None) → FillsTo es (e' ∷ l) (λ k. None)
renumbered e e' es l is f = subst (λ z. FillsTo es (record { number = z; ty = e'.ty; body = e'.body } ∷ l) (λ k. None)) (sym is) f

pub reduces : {es l : List Constant} → ReducesTo es l → ValidTypes es → ValidBodies es → FillsTo es l (λ k. None)
reduces nothing v w = nothing_yet
reduces (reduced {e = e} {e' = e'} {es = es} {es' = l} is p q r) (new, (j, d), v) (t, w) =
    renumbered e e' (e ∷ es) l is (next_reduced es l v w (reduces r v w) e.number e.ty e'.ty e.body e'.body new j d t p q)

pub reduced_lists_are_valid : ReducedListsAreValid
reduced_lists_are_valid es l x r =
    let z = reduces r (known x.valid).types (bodies_typed es x.bodies) in
    record { valid = valid_types l z.types; bodies = bodies_judged l z.types z.bodies }

pub judgements_over_reduced_lists : JudgementsOverReducedLists
judgements_over_reduced_lists es l x r g m a d =
    let k = (known x.valid).types in
    let w = bodies_typed es x.bodies in
    let z = reduces r k w in
    let v = valid_constants es k w in
    let v' = valid_constants l z.types z.bodies in
    let h = derived d in
    let locals = t-locals (λ k. None) (types_of es) (bodies_of es) (types_of l) (bodies_of l) (types_closed v) (bodies_closed v) (types_closed v') (bodies_closed v') z.translates h.1.locals in
    judged (over es l k w z g h.0) (valid_locals (valid_types l z.types) (subst (λ y. ValidLocals (types_of l) (bodies_of l) y) (all_the_same g) locals))
