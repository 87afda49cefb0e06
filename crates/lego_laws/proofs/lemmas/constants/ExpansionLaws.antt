-- Translation and expansion, for the thirteen rules.
use Rattle.std.proofs.Common.{◌≡◌, ℕ, Bool, true, false, cond, nat_eq, Option, Some, None, option_map, option_and_then, IfSome, IfNone, List, [], ◌∷◌, ◌++◌, map, refl, sym, ap, ap₂, subst}
use Rattle.std.specs.List.{AllByRecursion}
use Rattle.lego_term.specs.Trees.{Term, Univ, replace_constants}
use Rattle.lego_term.specs.Steps.{Converts}
use Rattle.lego_laws.specs.Parallel.{TermBodies, AreClosed}
use Rattle.lego_laws.specs.Entries.{Constant, constant_of, bodies_of}
use Rattle.lego_laws.specs.Judgement.{Valid, Has}
use Rattle.lego_laws.specs.Valid.{AreValid, BodiesFit}
use Rattle.lego_laws.specs.Derivations.{types_of, Derives}
use Rattle.lego_laws.specs.Translation.{standing, StandsFor, Translation}
use Rattle.lego_laws.specs.Expansion.{expand_by, expansions, expand, expand_all, HasPurely, IsPureType, Expansion, JudgementsExpand}
use Rattle.lego_laws.specs.Orders.{fillings, fill, filled, fill_all, FilledListsAreValid, JudgementsFill, PrefixesAreValid}
use Rattle.lego_laws.proofs.lemmas.typing.Rules.{ValidTypes, known, derived, judged, valid_types, valid_locals, type_from}
use Rattle.lego_laws.proofs.lemmas.typing.Entries.{HasItsType, ValidBodies, valid_constants, types_closed, bodies_closed, body_from}
use Rattle.lego_laws.proofs.lemmas.typing.TypingLaws.{bodies_typed, constants_valid}
use Rattle.lego_laws.proofs.lemmas.constants.Translated.{Translates, t-derives, t-locals}
use Rattle.lego_laws.proofs.lemmas.constants.Expanded.{fills}
use Rattle.lego_laws.proofs.lemmas.constants.Unlocal.{flat, expand_is}
use Rattle.lego_laws.proofs.lemmas.constants.PureLists.{flat_constant, Judged, judged_purely, over_flat, no_bodies, no_bodies_closed, pure_locals, pure_list}

body_converts : (es : List Constant) (s : TermBodies) (k : ℕ) (o : Option Term) (t : Term) → o ≡ Some t → IfSome o (λ m. Converts (bodies_of es) (standing s k) (replace_constants s m)) → Converts (bodies_of es) (standing s k) (replace_constants s t)
body_converts es s k None t e h = cc
body_converts es s k (Some m) t e h = let is : m ≡ t = cc in subst (λ z. Converts (bodies_of es) (standing s k) (replace_constants s z)) is h

module _ (es es' : List Constant) (s : TermBodies) (closed : AreClosed s) (stands : (k : ℕ) (e : Constant) → constant_of es k ≡ Some e → StandsFor s es' k e) where
  as_translates : Translates s (types_of es) (bodies_of es) (types_of es') (bodies_of es')
  as_translates =
      record {
        closed = closed;
        typed = λ k a h. let y = type_from (constant_of es k) a h in subst (λ z. Derives (types_of es') (bodies_of es') [] (standing s k) (replace_constants s z)) y.2 (derived (stands k y.0 y.1).typed).0;
        converts = λ k t h. let y = body_from (constant_of es k) t h in body_converts es' s k y.0.body t y.2 (stands k y.0 y.1).body;
      }

pub translation : Translation
translation es es' x x' s closed stands g m a d =
    let v = constants_valid es x in
    let v' = constants_valid es' x' in
    let t = as_translates es es' s closed stands in
    let h = derived d in
    judged (t-derives s (types_of es) (bodies_of es) (types_of es') (bodies_of es') (types_closed v) (bodies_closed v) (types_closed v') (bodies_closed v') t h.0) (valid_locals x'.valid (t-locals s (types_of es) (bodies_of es) (types_of es') (bodies_of es') (types_closed v) (bodies_closed v) (types_closed v') (bodies_closed v') t h.1.locals))

-- the expanded list has assumptions alone
assumed_with : (before : List Constant) (n : ℕ) (a : Term) (o : Option Term) → AllByRecursion (λ e. e.body ≡ None) (expand_all before) → AllByRecursion (λ e. e.body ≡ None) (expand_all (record { number = n; ty = a; body = o } ∷ before))
assumed_with before n a None h = (refl, h)
assumed_with before n a (Some m) h = h

pub assumed : (es : List Constant) → AllByRecursion (λ e. e.body ≡ None) (expand_all es)
assumed [] = tt
assumed (e ∷ before) = assumed_with before e.number e.ty e.body (assumed before)

has_body : (e : List Constant) → Valid e [] → (o : Option Term) (a : Term) → HasItsType e o a → IfSome o (λ m. Has e [] m a)
has_body e v None a h = tt
has_body e v (Some m) a h = judged h v

pub bodies_judged : (e : List Constant) → ValidTypes e → ValidBodies e → BodiesFit e
bodies_judged [] v h = tt
bodies_judged (x ∷ e) v h = (has_body e (valid_types e v.2) x.body x.ty h.0, bodies_judged e v.2 h.1)

pub filled_lists_are_valid : FilledListsAreValid
filled_lists_are_valid chosen es x =
    let z = fills chosen es (known x.valid).types (bodies_typed es x.bodies) in
    record { valid = valid_types (fill_all chosen es) z.types; bodies = bodies_judged (fill_all chosen es) z.types z.bodies }

pub judgements_fill : JudgementsFill
judgements_fill chosen es x g m a d =
    let z = fills chosen es (known x.valid).types (bodies_typed es x.bodies) in
    let v = constants_valid es x in
    let v' = valid_constants (fill_all chosen es) z.types z.bodies in
    let h = derived d in
    judged (t-derives (fillings chosen es) (types_of es) (bodies_of es) (types_of (fill_all chosen es)) (bodies_of (fill_all chosen es)) (types_closed v) (bodies_closed v) (types_closed v') (bodies_closed v') z.translates h.0)
    (valid_locals (valid_types (fill_all chosen es) z.types)
    (t-locals (fillings chosen es) (types_of es) (bodies_of es) (types_of (fill_all chosen es)) (bodies_of (fill_all chosen es)) (types_closed v) (bodies_closed v) (types_closed v') (bodies_closed v') z.translates h.1.locals))

-- an expansion is a filling without local definitions
expansion_at : (before : List Constant) → ((k : ℕ) → expansions before k ≡ option_map flat (fillings (λ i. true) before k)) → (o : Option Term) → option_map (expand_by (expansions before)) o ≡ option_map flat (option_map (replace_constants (fillings (λ i. true) before)) o)
expansion_at before h None = refl
expansion_at before h (Some m) = ap Some (expand_is (expansions before) (fillings (λ i. true) before) h m)

pub expansions_are : (es : List Constant) (k : ℕ) → expansions es k ≡ option_map flat (fillings (λ i. true) es k)
expansions_are [] k = refl
expansions_are (e ∷ before) k = by_test (nat_eq e.number k) (expansions_are before)
  where
    by_test : (o : Bool) → ((i : ℕ) → expansions before i ≡ option_map flat (fillings (λ i. true) before i)) → cond o (option_map (expand_by (expansions before)) e.body) (expansions before k) ≡ option_map flat (cond o (option_map (replace_constants (fillings (λ i. true) before)) e.body) (fillings (λ i. true) before k))
    by_test true h = expansion_at before h e.body
    by_test false h = h k

expansion_is : (es : List Constant) (t : Term) → flat (fill (λ i. true) es t) ≡ expand es t
expansion_is es t = sym (expand_is (expansions es) (fillings (λ i. true) es) (expansions_are es) t)

locals_are : (es : List Constant) (g : List Term) → map flat (map (fill (λ i. true) es) g) ≡ map (expand es) g
locals_are es [] = refl
locals_are es (a ∷ g) = ap₂ (λ x y. x ∷ y) (expansion_is es a) (locals_are es g)

list_with : (before : List Constant) (n : ℕ) (a : Term) (o : Option Term) → map flat_constant (fill_all (λ i. true) before) ≡ expand_all before → map flat_constant (filled (λ i. true) before n a o true (fill_all (λ i. true) before)) ≡ expand_all (record { number = n; ty = a; body = o } ∷ before)
list_with before n a None h = ap₂ (λ t es. record { number = n; ty = t; body = None } ∷ es) (expansion_is before a) h
list_with before n a (Some m) h = h

-- the expanded list is the filled one without local definitions
pub list_is : (es : List Constant) → map flat_constant (fill_all (λ i. true) es) ≡ expand_all es
list_is [] = refl
list_is (e ∷ before) = list_with before e.number e.ty e.body (list_is before)

none_with : (before : List Constant) (n : ℕ) (a : Term) (o : Option Term) → no_bodies (fill_all (λ i. true) before) → no_bodies (filled (λ i. true) before n a o true (fill_all (λ i. true) before))
none_with before n a (Some m) h k = h k
none_with before n a None h k = by_test (nat_eq n k)
  where
    by_test : (o : Bool) → option_and_then (λ (e : Constant). e.body) (cond o (Some (record { number = n; ty = fill (λ i. true) before a; body = None })) (constant_of (fill_all (λ i. true) before) k)) ≡ None
    by_test true = refl
    by_test false = h k

none_left : (es : List Constant) → no_bodies (fill_all (λ i. true) es)
none_left [] k = refl
none_left (e ∷ before) k = none_with before e.number e.ty e.body (none_left before) k

-- a judgement over the expanded list, by the thirteen rules
expanded : (es : List Constant) (g : List Term) (m a : Term) → Judged (map flat_constant (fill_all (λ i. true) es)) (map flat (map (fill (λ i. true) es) g)) (flat (fill (λ i. true) es m)) (flat (fill (λ i. true) es a)) → Judged (expand_all es) (map (expand es) g) (expand es m) (expand es a)
expanded es g m a d =
    subst (λ l. Judged l (map (expand es) g) (expand es m) (expand es a)) (list_is es)
    (subst (λ h. Judged (map flat_constant (fill_all (λ i. true) es)) h (expand es m) (expand es a)) (locals_are es g)
    (subst (λ t. Judged (map flat_constant (fill_all (λ i. true) es)) (map flat (map (fill (λ i. true) es) g)) t (expand es a)) (expansion_is es m)
    (subst (λ q. Judged (map flat_constant (fill_all (λ i. true) es)) (map flat (map (fill (λ i. true) es) g)) (flat (fill (λ i. true) es m)) q) (expansion_is es a) d)))

pub judgements_expand : JudgementsExpand
judgements_expand es x g m a d =
    let full = fill_all (λ i. true) es in
    let h = derived (judgements_fill (λ i. true) es x g m a d) in
    let none = none_left es in
    let l = pure_locals full none (pure_list full h.1.types none) h.1.locals in
    let p = expanded es g m a (judged_purely (over_flat full (no_bodies_closed full none) h.0) l.0 l.1) in
    record { assumed = assumed es; has = p.0; pure = p.1 }

-- the list before the newest constant
pub tail_valid : (e : Constant) (es : List Constant) → AreValid (e ∷ es) → AreValid es
tail_valid e es x = let k = known x.valid in record { valid = valid_types es k.types.2; bodies = x.bodies.1 }

pub newest_type : (e : Constant) (es : List Constant) → AreValid (e ∷ es) → (j : ℕ) × Has es [] e.ty (Univ j)
newest_type e es x = let k = known x.valid in (k.types.1.0, judged k.types.1.1 (valid_types es k.types.2))

none_pure : (before : List Constant) (a : Term) (o : Option Term) → IsPureType (expand_all before) (expand before a) → IfNone o (IsPureType (expand_all before) (expand before a))
none_pure before a None h = h
none_pure before a (Some m) h = tt

some_pure : (before : List Constant) (x : AreValid before) (a : Term) (o : Option Term) → IfSome o (λ m. Has before [] m a) → IfSome o (λ m. HasPurely (expand_all before) [] (expand before m) (expand before a))
some_pure before x a None h = tt
some_pure before x a (Some m) h = judgements_expand before x [] m a h

pub expansion : Expansion
expansion [] x = tt
expansion (e ∷ before) x =
    let y = tail_valid e before x in
    let t = newest_type e before x in
    (none_pure before e.ty e.body (t.0, judgements_expand before y [] e.ty (Univ t.0) t.1), some_pure before y e.ty e.body x.bodies.0, expansion before y)

pub prefixes_are_valid : PrefixesAreValid
prefixes_are_valid [] es x = x
prefixes_are_valid (e ∷ later) es x = prefixes_are_valid later es (tail_valid e (later ++ es) x)
