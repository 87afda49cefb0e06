-- Lists of constants in which some with bodies are put in.
use Rattle.std.proofs.Common.{◌≡◌, ℕ, Bool, true, false, cond, Option, Some, None, option_map, option_and_then, unwrap_or, List, [], ◌∷◌, refl, sym, ap, ◌∙◌, arith, nat_eq}
use Rattle.std.proofs.lemmas.Bool.Decides.{nat_tests}
use Rattle.lego_term.specs.Trees.{Term, Const, Univ, loose, replace_constants}
use Rattle.lego_term.specs.Steps.{Contracts, Step, Converts}
use Rattle.lego_laws.specs.Parallel.{TermBodies}
use Rattle.lego_laws.specs.Derivations.{types_of, Derives, d_const, ValidConstants}
use Rattle.lego_laws.specs.Entries.{Constant, constant_of, bodies_of}
use Rattle.lego_laws.specs.Orders.{fillings, filled, fill_all}
use Rattle.lego_laws.proofs.lemmas.typing.Rules.{ValidTypes}
use Rattle.lego_laws.proofs.lemmas.typing.Entries.{Extends, more_derives, more_convert, loose_within, HasItsType, ValidBodies, types_kept, bodies_kept, valid_constants, types_closed, bodies_closed}
use Rattle.lego_laws.proofs.lemmas.constants.KnownConstants.{replace_agree}
use Rattle.lego_laws.proofs.lemmas.constants.Translated.{Translates, t-derives, loose-replace_constants}

-- the second list is the first with the constants that s replaces put in
pub record FillsTo (e l : List Constant) (s : TermBodies) : Type 0 where
  pub types : ValidTypes l
  pub bodies : ValidBodies l
  pub fresh : (k : ℕ) → constant_of e k ≡ None → constant_of l k ≡ None
  pub translates : Translates s (types_of e) (bodies_of e) (types_of l) (bodies_of l)

pub fresh_if : (o : Bool) (x y : Constant) (m n : Option Constant) → cond o (Some x) m ≡ None → (m ≡ None → n ≡ None) → cond o (Some y) n ≡ None
fresh_if true x y m n h k = cc
fresh_if false x y m n h k = k h

closed_if : (o : Bool) (y z : Option Term) → ((t : Term) → y ≡ Some t → loose t ≡ 0) → ((t : Term) → z ≡ Some t → loose t ≡ 0) → (t : Term) → cond o y z ≡ Some t → loose t ≡ 0
closed_if true y z h k = h
closed_if false y z h k = k

-- a constant of the list is not a new one
differs : (e : List Constant) (n k : ℕ) (a : Term) → constant_of e n ≡ None → types_of e k ≡ Some a → nat_eq n k ≡ false
differs e n k a new h = grind (arith, nat_tests)

others : (e : List Constant) (n : ℕ) → constant_of e n ≡ None → (s : TermBodies) (y : Option Term) (k : ℕ) (a : Term) → types_of e k ≡ Some a → cond (nat_eq n k) y (s k) ≡ s k
others e n new s y k a h = ap (λ o. cond o y (s k)) (differs e n k a new h)

-- the new constant, and what it becomes where it is kept
abbrev newest : ℕ → Term → Option Term → Constant
newest n a o = record { number = n; ty = a; body = o }

abbrev kept_as : TermBodies → ℕ → Term → Option Term → Constant
kept_as s n a o = record { number = n; ty = replace_constants s a; body = option_map (replace_constants s) o }

module _ (e l : List Constant) (s : TermBodies) (v : ValidTypes e) (w : ValidBodies e) (x : FillsTo e l s) (n : ℕ) (a : Term) (new : constant_of e n ≡ None) (j : ℕ) (d : Derives (types_of e) (bodies_of e) [] a (Univ j)) where
  valid : ValidConstants (types_of e) (bodies_of e)
  valid = valid_constants e v w

  valid' : ValidConstants (types_of l) (bodies_of l)
  valid' = valid_constants l x.types x.bodies

  moved : {m q : Term} → Derives (types_of e) (bodies_of e) [] m q → Derives (types_of l) (bodies_of l) [] (replace_constants s m) (replace_constants s q)
  moved f = t-derives s (types_of e) (bodies_of e) (types_of l) (bodies_of l) (types_closed valid) (bodies_closed valid) (types_closed valid') (bodies_closed valid') x.translates f

  same : (y : Option Term) {m q : Term} → Derives (types_of e) (bodies_of e) [] m q → replace_constants s m ≡ replace_constants (λ k. cond (nat_eq n k) y (s k)) m
  same y f = replace_agree s (λ k. cond (nat_eq n k) y (s k)) (λ k a' h. sym (others e n new s y k a' h)) f

  body_moved : (o : Option Term) → HasItsType e o a → HasItsType l (option_map (replace_constants s) o) (replace_constants s a)
  body_moved None h = tt
  body_moved (Some u) h = moved h

  typed_body : (o : Option Term) (t : Term) → o ≡ Some t → HasItsType e o a → Derives (types_of e) (bodies_of e) [] t a
  typed_body None t q h = cc
  typed_body (Some u) t q h = let is : u ≡ t = cc in rw (← is) h

  -- a constant that is kept
  kept_case : (o : Option Term) → HasItsType e o a → FillsTo (newest n a o ∷ e) (kept_as s n a o ∷ l) (λ k. cond (nat_eq n k) None (s k))
  kept_case o b =
      record {
        types = (x.fresh n new, (j, moved d), x.types);
        bodies = (body_moved o b, x.bodies);
        fresh = λ k h. fresh_if (nat_eq n k) (newest n a o) _ (constant_of e k) (constant_of l k) h (x.fresh k);
        translates = record {
          closed = λ k t. closed_if (nat_eq n k) None (s k) (λ t h. cc) (x.translates.closed k) t;
          typed = λ k a' h. typed_at k a' (nat_eq n k) refl h;
          converts = λ k t h. converts_at k t (nat_eq n k) refl h;
        };
      }
    where
      grows : Extends (types_of l) (types_of (kept_as s n a o ∷ l))
      grows = types_kept (kept_as s n a o) l (x.fresh n new)

      grows' : Extends (bodies_of l) (bodies_of (kept_as s n a o ∷ l))
      grows' = bodies_kept (kept_as s n a o) l (x.fresh n new)

      typed_at : (k : ℕ) (a' : Term) (c : Bool) → nat_eq n k ≡ c → option_map (λ e. e.ty) (cond c (Some (newest n a o)) (constant_of e k)) ≡ Some a' → Derives (types_of (kept_as s n a o ∷ l)) (bodies_of (kept_as s n a o ∷ l)) [] (unwrap_or (cond c None (s k)) (Const k)) (replace_constants (λ i. cond (nat_eq n i) None (s i)) a')
      typed_at k a' true q h =
          let is : a ≡ a' = cc in
          d_const (ap (λ c. option_map (λ (e : Constant). e.ty) (cond c (Some (kept_as s n a o)) (constant_of l k))) q ∙ ap Some (same None d ∙ ap (replace_constants (λ i. cond (nat_eq n i) None (s i))) is))
      typed_at k a' false q h =
          rw (← same None (valid.types k a' h).1) (more_derives grows grows' (x.translates.typed k a' h))

      converts_at : (k : ℕ) (t : Term) (c : Bool) → nat_eq n k ≡ c → option_and_then (λ e. e.body) (cond c (Some (newest n a o)) (constant_of e k)) ≡ Some t → Converts (bodies_of (kept_as s n a o ∷ l)) (unwrap_or (cond c None (s k)) (Const k)) (replace_constants (λ i. cond (nat_eq n i) None (s i)) t)
      converts_at k t true q h =
          let f = typed_body o t h b in
          Converts.step (Step.here (Contracts.unfolds (ap (λ c. option_and_then (λ (e : Constant). e.body) (cond c (Some (kept_as s n a o)) (constant_of l k))) q ∙ ap (option_map (replace_constants s)) h ∙ ap Some (same None f))))
      converts_at k t false q h = rw (← same None (valid.bodies k t h).2) (more_convert grows' (x.translates.converts k t h))

  -- a constant that is put in
  definition_case : (u : Term) → Derives (types_of e) (bodies_of e) [] u a → FillsTo (newest n a (Some u) ∷ e) l (λ k. cond (nat_eq n k) (Some (replace_constants s u)) (s k))
  definition_case u f =
      record {
        types = x.types;
        bodies = x.bodies;
        fresh = λ k h. x.fresh k (not_first (nat_eq n k) _ (constant_of e k) h);
        translates = record {
          closed = λ k t. closed_if (nat_eq n k) (Some (replace_constants s u)) (s k) (λ t h. body_closed t h) (x.translates.closed k) t;
          typed = λ k a' h. typed_at k a' (nat_eq n k) h;
          converts = λ k t h. converts_at k t (nat_eq n k) h;
        };
      }
    where
      body_closed : (t : Term) → Some (replace_constants s u) ≡ Some t → loose t ≡ 0
      body_closed t h =
          let is : replace_constants s u ≡ t = cc in
          let z = loose-replace_constants s (types_of e) (bodies_of e) (types_of l) (bodies_of l) (types_closed valid) (bodies_closed valid) (types_closed valid') (bodies_closed valid') x.translates u in
          let q = loose_within f in
          let r : loose (replace_constants s u) ≡ 0 = omega arith in
          ap loose (sym is) ∙ r

      not_first : (c : Bool) (z : Constant) (m : Option Constant) → cond c (Some z) m ≡ None → m ≡ None
      not_first true z m h = cc
      not_first false z m h = h

      typed_at : (k : ℕ) (a' : Term) (c : Bool) → option_map (λ e. e.ty) (cond c (Some (newest n a (Some u))) (constant_of e k)) ≡ Some a' → Derives (types_of l) (bodies_of l) [] (unwrap_or (cond c (Some (replace_constants s u)) (s k)) (Const k)) (replace_constants (λ i. cond (nat_eq n i) (Some (replace_constants s u)) (s i)) a')
      typed_at k a' true h =
          let is : a ≡ a' = cc in
          rw (← is, ← same (Some (replace_constants s u)) d) (moved f)
      typed_at k a' false h = rw (← same (Some (replace_constants s u)) (valid.types k a' h).1) (x.translates.typed k a' h)

      converts_at : (k : ℕ) (t : Term) (c : Bool) → option_and_then (λ e. e.body) (cond c (Some (newest n a (Some u))) (constant_of e k)) ≡ Some t → Converts (bodies_of l) (unwrap_or (cond c (Some (replace_constants s u)) (s k)) (Const k)) (replace_constants (λ i. cond (nat_eq n i) (Some (replace_constants s u)) (s i)) t)
      converts_at k t true h =
          let is : u ≡ t = cc in
          rw (← is, ← same (Some (replace_constants s u)) f) Converts.same
      converts_at k t false h = rw (← same (Some (replace_constants s u)) (valid.bodies k t h).2) (x.translates.converts k t h)

pub nothing_yet : FillsTo [] [] (λ k. None)
nothing_yet = record { types = tt; bodies = tt; fresh = λ k h. refl; translates = record { closed = λ k t h. cc; typed = λ k a h. cc; converts = λ k t h. cc } }

-- the chosen constants with bodies are put in
fill_next : (chosen : ℕ → Bool) (e : List Constant) → ValidTypes e → ValidBodies e → FillsTo e (fill_all chosen e) (fillings chosen e) → (n : ℕ) (a : Term) (o : Option Term) (c : Bool) → constant_of e n ≡ None → (j : ℕ) → Derives (types_of e) (bodies_of e) [] a (Univ j) → HasItsType e o a → FillsTo (newest n a o ∷ e) (filled chosen e n a o c (fill_all chosen e)) (λ k. cond (nat_eq n k) (cond c (option_map (replace_constants (fillings chosen e)) o) None) (fillings chosen e k))
fill_next chosen e v w x n a None true new j d t = kept_case e (fill_all chosen e) (fillings chosen e) v w x n a new j d None t
fill_next chosen e v w x n a None false new j d t = kept_case e (fill_all chosen e) (fillings chosen e) v w x n a new j d None t
fill_next chosen e v w x n a (Some u) true new j d t = definition_case e (fill_all chosen e) (fillings chosen e) v w x n a new j d u t
fill_next chosen e v w x n a (Some u) false new j d t = kept_case e (fill_all chosen e) (fillings chosen e) v w x n a new j d (Some u) t

pub fills : (chosen : ℕ → Bool) (e : List Constant) → ValidTypes e → ValidBodies e → FillsTo e (fill_all chosen e) (fillings chosen e)
fills chosen [] v w = nothing_yet
fills chosen (x ∷ e) (new, (j, d), v) (t, w) = fill_next chosen e v w (fills chosen e v w) x.number x.ty x.body (chosen x.number) new j d t
