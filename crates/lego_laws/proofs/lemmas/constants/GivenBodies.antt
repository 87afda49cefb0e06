-- An assumption that is given a body.
use Rattle.std.proofs.Common.{◌≡◌, ℕ, Bool, true, false, cond, nat_eq, Option, Some, None, option_map, option_and_then, List, [], ◌∷◌, ◌++◌, refl}
use Rattle.lego_term.specs.Trees.{Term}
use Rattle.lego_laws.specs.Entries.{Constant, constant_of, bodies_of}
use Rattle.lego_laws.specs.Derivations.{types_of, Derives}
use Rattle.lego_laws.specs.Orders.{with_body, BodiesMayBeGiven}
use Rattle.lego_laws.proofs.lemmas.typing.Rules.{ValidTypes, known, derived, judged, valid_types, valid_locals}
use Rattle.lego_laws.proofs.lemmas.typing.Entries.{Extends, more_derives, more_locals, HasItsType, ValidBodies}
use Rattle.lego_laws.proofs.lemmas.typing.TypingLaws.{bodies_typed}
use Rattle.lego_laws.proofs.lemmas.constants.ExpansionLaws.{bodies_judged}

module _ (before : List Constant) (e : Constant) (m : Term) (none : e.body ≡ None) where
  abbrev old : List Constant → List Constant
  old later = later ++ (e ∷ before)

  abbrev now : List Constant → List Constant
  now later = later ++ (with_body e m ∷ before)

  -- no constant is new
  fresh_if : (o : Bool) (x y : Constant) (p q : Option Constant) → cond o (Some x) p ≡ None → (p ≡ None → q ≡ None) → cond o (Some y) q ≡ None
  fresh_if true x y p q h k = cc
  fresh_if false x y p q h k = k h

  fresh : (later : List Constant) (k : ℕ) → constant_of (later ++ (e ∷ before)) k ≡ None → constant_of (later ++ (with_body e m ∷ before)) k ≡ None
  fresh [] k h = fresh_if (nat_eq e.number k) e (with_body e m) (constant_of before k) (constant_of before k) h (λ p. p)
  fresh (x ∷ later) k h = fresh_if (nat_eq x.number k) x x (constant_of (later ++ (e ∷ before)) k) (constant_of (later ++ (with_body e m ∷ before)) k) h (fresh later k)

  type_if : (o : Bool) (x y : Constant) (p q : Option Constant) (t : Term) → x.ty ≡ y.ty → option_map (λ c. c.ty) (cond o (Some x) p) ≡ Some t → (option_map (λ (c : Constant). c.ty) p ≡ Some t → option_map (λ (c : Constant). c.ty) q ≡ Some t) → option_map (λ c. c.ty) (cond o (Some y) q) ≡ Some t
  type_if true x y p q t is h k = cc
  type_if false x y p q t is h k = k h

  types : (later : List Constant) → Extends (types_of (later ++ (e ∷ before))) (types_of (later ++ (with_body e m ∷ before)))
  types [] k t h = type_if (nat_eq e.number k) e (with_body e m) (constant_of before k) (constant_of before k) t refl h (λ p. p)
  types (x ∷ later) k t h = type_if (nat_eq x.number k) x x (constant_of (later ++ (e ∷ before)) k) (constant_of (later ++ (with_body e m ∷ before)) k) t refl h (types later k t)

  body_if : (o : Bool) (x y : Constant) (p q : Option Constant) (t : Term) → (x.body ≡ Some t → y.body ≡ Some t) → option_and_then (λ c. c.body) (cond o (Some x) p) ≡ Some t → (option_and_then (λ (c : Constant). c.body) p ≡ Some t → option_and_then (λ (c : Constant). c.body) q ≡ Some t) → option_and_then (λ c. c.body) (cond o (Some y) q) ≡ Some t
  body_if true x y p q t is h k = is h
  body_if false x y p q t is h k = k h

  no_body : (t : Term) → e.body ≡ Some t → Some m ≡ Some t
  no_body t h = cc

  bodies : (later : List Constant) → Extends (bodies_of (later ++ (e ∷ before))) (bodies_of (later ++ (with_body e m ∷ before)))
  bodies [] k t h = body_if (nat_eq e.number k) e (with_body e m) (constant_of before k) (constant_of before k) t (no_body t) h (λ p. p)
  bodies (x ∷ later) k t h = body_if (nat_eq x.number k) x x (constant_of (later ++ (e ∷ before)) k) (constant_of (later ++ (with_body e m ∷ before)) k) t (λ p. p) h (bodies later k t)

  new_types : (later : List Constant) → ValidTypes (later ++ (e ∷ before)) → ValidTypes (later ++ (with_body e m ∷ before))
  new_types [] v = v
  new_types (x ∷ later) (new, (j, d), v) = (fresh later x.number new, (j, more_derives (types later) (bodies later) d), new_types later v)

  body_over : (later : List Constant) (o : Option Term) (a : Term) → HasItsType (later ++ (e ∷ before)) o a → HasItsType (later ++ (with_body e m ∷ before)) o a
  body_over later None a h = tt
  body_over later (Some t) a h = more_derives (types later) (bodies later) h

  new_bodies : (later : List Constant) → ValidBodies (later ++ (e ∷ before)) → Derives (types_of before) (bodies_of before) [] m e.ty → ValidBodies (later ++ (with_body e m ∷ before))
  new_bodies [] w d = (d, w.1)
  new_bodies (x ∷ later) w d = (body_over later x.body x.ty w.0, new_bodies later w.1 d)

pub bodies_may_be_given : BodiesMayBeGiven
bodies_may_be_given later before e m x none d =
    let old = later ++ (e ∷ before) in
    let now = later ++ (with_body e m ∷ before) in
    let k = known x.valid in
    let t = new_types before e m none later k.types in
    let b = new_bodies before e m none later (bodies_typed old x.bodies) (derived d).0 in (
      record { valid = valid_types now t; bodies = bodies_judged now t b },
      λ g u a h.
          let f = derived h in
          judged (more_derives (types before e m none later) (bodies before e m none later) f.0)
          (valid_locals (valid_types now t) (more_locals (types before e m none later) (bodies before e m none later) f.1.locals)),
    )
