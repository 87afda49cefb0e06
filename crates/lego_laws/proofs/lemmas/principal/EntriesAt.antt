-- Entries at an assignment.
use Rattle.std.proofs.Common.{◌≡◌, ℕ, ◌≤◌, nat_eq, Bool, true, false, cond, Option, Some, None, option_map, option_and_then, List, [], ◌∷◌, ◌++◌, map, reverse, refl, sym, ap, ◌∙◌, arith, subst, ◌⊎◌, inl, inr, ⊎_elim}
use Rattle.std.proofs.lemmas.Bool.Decides.{nat_tests}
use Rattle.std.proofs.lemmas.List.{reverse-append}
use mathlib.Core.Path.{fun_ext}
use Rattle.lego_term.specs.Levels.{Assignment}
use Rattle.lego_term.specs.Trees.{Core, at}
use Rattle.lego_laws.specs.Parallel.{bodies_at}
use Rattle.lego_laws.specs.Entries.{Entry, Constant, entry_of, core_bodies, entry_at, entries_at, constant_of, bodies_of, kept}
use Rattle.lego_laws.specs.Valid.{AreValid}
use Rattle.lego_laws.specs.Derivations.{types_of, ValidLocals, ValidConstants}
use Rattle.lego_laws.specs.Ranges.{levels_bound, pairs_bound}
use Rattle.lego_laws.specs.Principal.{core_types, body_bound, entries_bound, EntriesAtValues, EntriesAreAContext, EntriesAndLocalsAreAContext}
use Rattle.lego_laws.proofs.lemmas.typing.Rules.{ValidTypes, known}
use Rattle.lego_laws.proofs.lemmas.typing.TypingLaws.{constants_valid}
use Rattle.lego_laws.proofs.lemmas.inference.Agreeing.{pairs_bound-append}

-- the numbers of a list of constants differ
abbrev Distinct : List Constant → Type 0
Distinct [] = Unit {0}
Distinct (x ∷ cs) = (constant_of cs x.number ≡ None) × Distinct cs

distinct : (cs : List Constant) → ValidTypes cs → Distinct cs
distinct [] h = tt
distinct (x ∷ cs) h = (h.0, distinct cs h.2)

none_inside : (o : Bool) (x : Constant) (m : Option Constant) → cond o (Some x) m ≡ None → m ≡ None
none_inside true x m h = cc
none_inside false x m h = h

swapped : (i j k : ℕ) (x y : Constant) (m : Option Constant) → (nat_eq i j ≡ false) → cond (nat_eq j k) (Some y) (cond (nat_eq i k) (Some x) m) ≡ cond (nat_eq i k) (Some x) (cond (nat_eq j k) (Some y) m)
swapped i j k x y m h = grind (arith, nat_tests)

not_found : (o : Bool) (x : Constant) (m : Option Constant) → cond o (Some x) m ≡ None → o ≡ false
not_found true x m h = cc
not_found false x m h = refl

-- the oldest constant is found last, and no other has its number
found_last : (cs : List Constant) (x : Constant) → Distinct (cs ++ (x ∷ [])) → (k : ℕ) → constant_of (cs ++ (x ∷ [])) k ≡ cond (nat_eq x.number k) (Some x) (constant_of cs k)
found_last [] x h k = refl
found_last (y ∷ cs) x h k =
    let at_y = not_found (nat_eq x.number y.number) x (constant_of cs y.number) (sym (found_last cs x h.1 y.number) ∙ h.0) in
    ap (λ m. cond (nat_eq y.number k) (Some y) m) (found_last cs x h.1 k) ∙ swapped x.number y.number k x y (constant_of cs k) at_y

front_distinct : (cs : List Constant) (x : Constant) → Distinct (cs ++ (x ∷ [])) → Distinct cs
front_distinct [] x h = tt
front_distinct (y ∷ cs) x h =
    (none_inside (nat_eq x.number y.number) x (constant_of cs y.number) (sym (found_last cs x h.1 y.number) ∙ h.0), front_distinct cs x h.1)

last_out : (x : Constant) (cs : List Constant) → reverse (x ∷ cs) ≡ reverse cs ++ (x ∷ [])
last_out x cs = reverse-append (x ∷ []) cs

map_choice : (v : Assignment) (o : Bool) (e : Entry) (m : Option Entry) → cond o (Some (entry_at v e)) (option_map (entry_at v) m) ≡ option_map (entry_at v) (cond o (Some e) m)
map_choice v true e m = refl
map_choice v false e m = refl

-- a constant is found in the entries and in the constants alike
pub looked_up : (v : Assignment) (es : List Entry) → Distinct (entries_at v es) → (k : ℕ) → constant_of (entries_at v es) k ≡ option_map (entry_at v) (entry_of es k)
looked_up v [] h k = refl
looked_up v (e ∷ es) h k =
    let is = last_out (entry_at v e) (map (entry_at v) es) in
    let h' = subst Distinct is h in
    ap (λ cs. constant_of cs k) is ∙ found_last (entries_at v es) (entry_at v e) h' k
    ∙ ap (λ m. cond (nat_eq e.number k) (Some (entry_at v e)) m) (looked_up v es (front_distinct (entries_at v es) (entry_at v e) h') k)
    ∙ map_choice v (nat_eq e.number k) e (entry_of es k)

type_of_option : (v : Assignment) (o : Option Entry) → option_map (λ c. c.ty) (option_map (entry_at v) o) ≡ option_map (at v) (option_map (λ e. e.ty) o)
type_of_option v None = refl
type_of_option v (Some e) = refl

body_of_option : (v : Assignment) (o : Option Entry) → option_and_then (λ c. c.body) (option_map (entry_at v) o) ≡ option_map (at v) (option_and_then (λ e. e.body) o)
body_of_option v None = refl
body_of_option v (Some e) = refl

module _ (es : List Entry) (v : Assignment) (x : AreValid (entries_at v es)) where
  numbers_differ : Distinct (entries_at v es)
  numbers_differ = distinct (entries_at v es) (known x.valid).types

  pub types_at : types_of (entries_at v es) ≡ bodies_at v (core_types es)
  types_at = fun_ext (λ k. ap (option_map (λ (c : Constant). c.ty)) (looked_up v es numbers_differ k) ∙ type_of_option v (entry_of es k))

  pub bodies_at_values : bodies_of (entries_at v es) ≡ bodies_at v (core_bodies es)
  bodies_at_values = fun_ext (λ k. ap (option_and_then (λ (c : Constant). c.body)) (looked_up v es numbers_differ k) ∙ body_of_option v (entry_of es k))

pub entries_at_values : EntriesAtValues
entries_at_values es v x k = (ap (λ f. f k) (types_at es v x), ap (λ f. f k) (bodies_at_values es v x))

-- what is found is within the bound
entry_from : (o : Bool) (e : Entry) (m : Option Entry) (y : Entry) → cond o (Some e) m ≡ Some y → (e ≡ y) ⊎ (m ≡ Some y)
entry_from true e m y h = inl (cc)
entry_from false e m y h = inr h

entry_within : (es : List Entry) (k : ℕ) (y : Entry) → entry_of es k ≡ Some y → (levels_bound y.ty ≤ entries_bound es) × (body_bound y.body ≤ entries_bound es)
entry_within [] k y h = cc
entry_within (e ∷ es) k y h =
    ⊎_elim (λ (is : e ≡ y). subst (λ z. (levels_bound z.ty ≤ entries_bound (e ∷ es)) × (body_bound z.body ≤ entries_bound (e ∷ es))) is (omega arith, omega arith)) (λ (r : entry_of es k ≡ Some y). let w = entry_within es k y r in let w0 = w.0 in let w1 = w.1 in (omega arith, omega arith)) (entry_from (nat_eq e.number k) e (entry_of es k) y h)

type_within : (es : List Entry) (k : ℕ) (o : Option Entry) (a : Core) → entry_of es k ≡ o → option_map (λ e. e.ty) o ≡ Some a → levels_bound a ≤ entries_bound es
type_within es k None a q h = cc
type_within es k (Some y) a q h = let is : y.ty ≡ a = cc in subst (λ z. levels_bound z ≤ entries_bound es) is (entry_within es k y q).0

body_option_within : (o : Option Core) (m : Core) (n : ℕ) → o ≡ Some m → body_bound o ≤ n → levels_bound m ≤ n
body_option_within None m n h le = cc
body_option_within (Some t) m n h le = let is : t ≡ m = cc in subst (λ z. levels_bound z ≤ n) is le

body_within : (es : List Entry) (k : ℕ) (o : Option Entry) (m : Core) → entry_of es k ≡ o → option_and_then (λ e. e.body) o ≡ Some m → levels_bound m ≤ entries_bound es
body_within es k None m q h = cc
body_within es k (Some y) m q h = body_option_within y.body m (entries_bound es) h (entry_within es k y q).1

kept_within : (es : List Entry) → pairs_bound (kept es) ≤ entries_bound es
kept_within [] = omega arith
kept_within (e ∷ es) = omega (arith, pairs_bound-append e.constraints (kept es), kept_within es)

pub entries_and_locals_are_a_context : EntriesAndLocalsAreAContext
entries_and_locals_are_a_context es n always ct cb le g lg valid =
    record {
      types_within = λ k a e. let w = type_within es k (entry_of es k) a refl e in omega arith;
      bodies_within = λ k a e. let w = body_within es k (entry_of es k) a refl e in omega arith;
      locals_within = lg;
      held_within = omega (arith, kept_within es);
      closed_types = ct;
      closed_bodies = cb;
      valid = λ v h.
          let x = always v h in
          subst (λ c. ValidConstants c (bodies_at v (core_bodies es))) (types_at es v x) (subst (λ b. ValidConstants (types_of (entries_at v es)) b) (bodies_at_values es v x) (constants_valid (entries_at v es) x));
      locals = λ v h.
          let x = always v h in
          subst (λ c. ValidLocals c (bodies_at v (core_bodies es)) (map (at v) g)) (types_at es v x) (subst (λ b. ValidLocals (types_of (entries_at v es)) b (map (at v) g)) (bodies_at_values es v x) (known (valid v h)).locals);
    }

pub entries_are_a_context : EntriesAreAContext
entries_are_a_context es n always ct cb le = entries_and_locals_are_a_context es n always ct cb le [] (omega arith) (λ v h. (always v h).valid)
