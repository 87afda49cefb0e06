-- What a signature keeps beside its entries.
use Rattle.std.proofs.Common.{◌≡◌, ℕ, zero, suc, ◌+◌, ◌<◌, ◌≤◌, nat_eq, nat_lt, if◌then◌else◌, cond, Bool, true, false, List, [], ◌∷◌, ◌++◌, map, length, position, slice_get, Option, Some, None, option_map, option_and_then, IfSome, Contains, refl, sym, ap, ◌∙◌, subst, arith}
use Rattle.std.specs.List.{list_any, position_or_len}
use Rattle.std.proofs.lemmas.List.{map-append}
use Rattle.std.specs.FinMap.{empty, get-empty, get-insert, nat_cmp-IsAntisymmetric}
use Rattle.std.specs.Ordering.{nat_cmp, eq_by_cmp}
use Rattle.std.specs.Cmp.{nat_cmp_total, eq_by_cmp_equiv}
use Rattle.std.specs.declared.cmp.Ordering.{Ordering}
use Rattle.std.specs.declared.cmp.Ordering.TheVariants.{Less, Equal, Greater}
use Rattle.lego_term.specs.BodyMap.{BodyMap, bodies_in}
use Rattle.lego_term.specs.Trees.{Core, loose}
use Rattle.lego_term.specs.Sequences.{or_else}
use Rattle.std.proofs.Math.Path.{fun_ext}
use Rattle.std.proofs.lemmas.Bool.Decides.{nat_tests}
use Rattle.std.proofs.lemmas.Option.{slice_get_past}
use Rattle.lego_laws.specs.Entries.{Entry, entry_of, core_bodies}
use Rattle.lego_inference.specs.declared.entry.Entry.{Entry as Item}
use Rattle.lego_inference.specs.Entries.{laws_entry, laws_entries, numbers_of, AreClosedEntries, with_body}

eq_swap : (m n : ℕ) → nat_eq m n ≡ nat_eq n m
eq_swap m n = by_tests (nat_eq m n) (nat_eq n m) refl refl
  where
    by_tests : (b c : Bool) → nat_eq m n ≡ b → nat_eq n m ≡ c → nat_eq m n ≡ nat_eq n m
    by_tests true true p q = p ∙ sym q
    by_tests false false p q = p ∙ sym q
    by_tests true false p q = let same : m ≡ n = grind (arith, nat_tests) in absurd (grind (arith, nat_tests))
    by_tests false true p q = let same : n ≡ m = grind (arith, nat_tests) in absurd (grind (arith, nat_tests))

one_more : (n : ℕ) → suc n ≡ 1 + n
one_more n = omega arith

-- the entry at the place of a number, where there is one
at_place : (es : List Item) (number : ℕ) → option_map laws_entry (slice_get es (position_or_len (nat_eq number) (numbers_of es))) ≡ entry_of (laws_entries es) number
at_place [] number = refl
at_place (e ∷ es) number = by_test (nat_eq e.number number) refl (at_place es number)
  where
    by_test : (b : Bool) → nat_eq e.number number ≡ b → option_map laws_entry (slice_get es (position_or_len (nat_eq number) (numbers_of es))) ≡ entry_of (laws_entries es) number → option_map laws_entry (slice_get (e ∷ es) (position_or_len (nat_eq number) (numbers_of (e ∷ es)))) ≡ entry_of (laws_entries (e ∷ es)) number
    by_test true is rest = let same : nat_eq number e.number ≡ true = eq_swap number e.number ∙ is in rw (same, is) refl
    by_test false is rest = let same : nat_eq number e.number ≡ false = eq_swap number e.number ∙ is in rw (same, is) (subst (λ z. option_map laws_entry (slice_get (e ∷ es) z) ≡ entry_of (laws_entries es) number) (one_more (position_or_len (nat_eq number) (numbers_of es))) rest)

length-numbers : (es : List Item) → length (numbers_of es) ≡ length es
length-numbers [] = refl
length-numbers (e ∷ es) = ap suc (length-numbers es)

pub find_entry : (es : List Item) (number at : ℕ) → position (nat_eq number) (numbers_of es) ≡ Some at → option_map laws_entry (slice_get es at) ≡ entry_of (laws_entries es) number
find_entry es number at h = by_test (nat_lt (position_or_len (nat_eq number) (numbers_of es)) (length (numbers_of es))) refl
  where
    by_test : (b : Bool) → nat_lt (position_or_len (nat_eq number) (numbers_of es)) (length (numbers_of es)) ≡ b → option_map laws_entry (slice_get es at) ≡ entry_of (laws_entries es) number
    by_test true is =
        let there : position (nat_eq number) (numbers_of es) ≡ Some (position_or_len (nat_eq number) (numbers_of es)) = rw is refl in
        let same : position_or_len (nat_eq number) (numbers_of es) ≡ at = cc in
        ap (λ z. option_map laws_entry (slice_get es z)) (sym same) ∙ at_place es number
    by_test false is = let none : position (nat_eq number) (numbers_of es) ≡ None = rw is refl in absurd (cc)

pub find_none : (es : List Item) (number : ℕ) → position (nat_eq number) (numbers_of es) ≡ None → entry_of (laws_entries es) number ≡ None
find_none es number h = by_test (nat_lt (position_or_len (nat_eq number) (numbers_of es)) (length (numbers_of es))) refl
  where
    by_test : (b : Bool) → nat_lt (position_or_len (nat_eq number) (numbers_of es)) (length (numbers_of es)) ≡ b → entry_of (laws_entries es) number ≡ None
    by_test true is = let there : position (nat_eq number) (numbers_of es) ≡ Some (position_or_len (nat_eq number) (numbers_of es)) = rw is refl in absurd (cc)
    by_test false is =
        let long : length (numbers_of es) ≤ position_or_len (nat_eq number) (numbers_of es) = grind (arith, nat_tests) in
        let past : slice_get es (position_or_len (nat_eq number) (numbers_of es)) ≡ None = slice_get_past es _ (omega (arith, length-numbers es)) in
        sym (at_place es number) ∙ ap (option_map laws_entry) past

-- the entry of a number is that of the front, or else the last
pub entry_last : (es : List Item) (e : Item) (k : ℕ) → entry_of (laws_entries (es ++ e ∷ [])) k ≡ or_else (entry_of (laws_entries es) k) (if nat_eq e.number k then Some (laws_entry e) else None)
entry_last [] e k = refl
entry_last (x ∷ es) e k = by_test (nat_eq x.number k) refl (entry_last es e k)
  where
    by_test : (b : Bool) → nat_eq x.number k ≡ b → entry_of (laws_entries (es ++ e ∷ [])) k ≡ or_else (entry_of (laws_entries es) k) (if nat_eq e.number k then Some (laws_entry e) else None)
        → entry_of (laws_entries ((x ∷ es) ++ e ∷ [])) k ≡ or_else (entry_of (laws_entries (x ∷ es)) k) (if nat_eq e.number k then Some (laws_entry e) else None)
    by_test true is rest = rw is refl
    by_test false is rest = rw is rest

-- a number that no entry has
absent : (es : List Item) (n : ℕ) → (Contains (numbers_of es) n → ⊥) → entry_of (laws_entries es) n ≡ None
absent [] n h = refl
absent (x ∷ es) n h = by_test (nat_eq x.number n) refl (absent es n (λ (p : Contains (numbers_of es) n). h (behind_first p)))
  where
    behind_first : Contains (numbers_of es) n → Contains (numbers_of (x ∷ es)) n
    behind_first p = (suc p.0, omega (arith, p.1), p.2)

    by_test : (b : Bool) → nat_eq x.number n ≡ b → entry_of (laws_entries es) n ≡ None → entry_of (laws_entries (x ∷ es)) n ≡ None
    by_test true is rest = let same : x.number ≡ n = grind (arith, nat_tests) in absurd (h (0, omega arith, same))
    by_test false is rest = rw is rest

not_listed : (es : List Item) (n : ℕ) → (Contains (numbers_of es) n → ⊥) → list_any (nat_eq n) (numbers_of es) ≡ false
not_listed [] n h = refl
not_listed (x ∷ es) n h = by_test (nat_eq n x.number) refl (not_listed es n (λ (p : Contains (numbers_of es) n). h (suc p.0, omega (arith, p.1), p.2)))
  where
    by_test : (b : Bool) → nat_eq n x.number ≡ b → list_any (nat_eq n) (numbers_of es) ≡ false → list_any (nat_eq n) (numbers_of (x ∷ es)) ≡ false
    by_test true is rest = let same : n ≡ x.number = grind (arith, nat_tests) in absurd (h (0, omega arith, sym same))
    by_test false is rest = rw is rest

module _ (es : List Item) (e : Item) (new : Contains (numbers_of es) e.number → ⊥) where
  -- what holds of each entry, and of the new one, holds of all
  all_entries : (P : Option Entry → Type 0) → ((k : ℕ) → P (entry_of (laws_entries es) k)) → P (Some (laws_entry e)) → P None → (k : ℕ) → P (entry_of (laws_entries (es ++ e ∷ [])) k)
  all_entries P front last none k = subst P (sym (entry_last es e k)) (by_front (entry_of (laws_entries es) k) (front k) (nat_eq e.number k))
    where
      by_front : (o : Option Entry) → P o → (b : Bool) → P (or_else o (if b then Some (laws_entry e) else None))
      by_front (Some y) h b = h
      by_front None h true = last
      by_front None h false = none

  closed_push : AreClosedEntries (laws_entries es) → loose e.ty ≡ 0 → IfSome e.body (λ body. loose body ≡ 0) → AreClosedEntries (laws_entries (es ++ e ∷ []))
  closed_push h ty body = record {
    types = all_entries (λ o. (t : Core) → option_map (λ (y : Entry). y.ty) o ≡ Some t → loose t ≡ 0) h.types (λ t i. let same : e.ty ≡ t = cc in ap (λ (z : Core). loose z) (sym same) ∙ ty) (λ t i. absurd (cc));
    bodies = all_entries (λ o. (t : Core) → option_and_then (λ (y : Entry). y.body) o ≡ Some t → loose t ≡ 0) h.bodies (λ t i. of_body e.body body t i) (λ t i. absurd (cc));
  }
    where
      of_body : (o : Option Core) → IfSome o (λ b. loose b ≡ 0) → (t : Core) → o ≡ Some t → loose t ≡ 0
      of_body (Some b) z t i = let same : b ≡ t = cc in ap (λ (z : Core). loose z) (sym same) ∙ z
      of_body None z t i = absurd (cc)

  pub numbers_push : (keys keys' : List ℕ) → keys ≡ numbers_of es → keys' ≡ (if list_any (nat_eq e.number) keys then keys else keys ++ e.number ∷ []) → keys' ≡ numbers_of (es ++ e ∷ [])
  numbers_push keys keys' is made =
      let none : list_any (nat_eq e.number) keys ≡ false = ap (list_any (nat_eq e.number)) is ∙ not_listed es e.number new in
      let last : keys' ≡ keys ++ e.number ∷ [] = made ∙ rw none refl in
      last ∙ ap (λ z. z ++ e.number ∷ []) is ∙ sym (map-append (λ (y : Item). y.number) es (e ∷ []))

none_at : (k : ℕ) → bodies_in empty k ≡ core_bodies (laws_entries []) k
none_at k = get-empty nat_cmp k

pub no_bodies : bodies_in empty ≡ core_bodies (laws_entries [])
no_bodies = fun_ext none_at

pub new_signature : (es : List Item) (keys : List ℕ) (bodies : BodyMap) → es ≡ [] → keys ≡ [] → bodies ≡ empty → AreClosedEntries (laws_entries es) × (keys ≡ numbers_of es) × (bodies_in bodies ≡ core_bodies (laws_entries es))
new_signature es keys bodies e k b =
    subst (λ (z : List Item). AreClosedEntries (laws_entries z) × (keys ≡ numbers_of z) × (bodies_in bodies ≡ core_bodies (laws_entries z))) (sym e)
    (record { types = λ n t i. absurd (cc); bodies = λ n t i. absurd (cc) }, k, ap (λ (z : BodyMap). bodies_in z) b ∙ no_bodies)

told : (k n : ℕ) → eq_by_cmp nat_cmp k n ≡ true → k ≡ n
told k n h = by_order (nat_cmp k n) refl
  where
    by_order : (o : Ordering) → nat_cmp k n ≡ o → k ≡ n
    by_order Equal is = nat_cmp-IsAntisymmetric k n is
    by_order Less is = let no : false ≡ true = rw is at h in absurd (cc)
    by_order Greater is = let no : false ≡ true = rw is at h in absurd (cc)

-- the order of numbers tells two apart as their equality does
pub same_test : (k n : ℕ) → eq_by_cmp nat_cmp k n ≡ nat_eq n k
same_test k n = by_tests (eq_by_cmp nat_cmp k n) (nat_eq n k) refl refl
  where
    by_tests : (b c : Bool) → eq_by_cmp nat_cmp k n ≡ b → nat_eq n k ≡ c → eq_by_cmp nat_cmp k n ≡ nat_eq n k
    by_tests true true p q = p ∙ sym q
    by_tests false false p q = p ∙ sym q
    by_tests false true p q =
        let same : n ≡ k = grind (arith, nat_tests) in
        let equal : eq_by_cmp nat_cmp k n ≡ true = subst (λ z. eq_by_cmp nat_cmp k z ≡ true) (sym same) ((eq_by_cmp_equiv nat_cmp_total).refl k) in
        absurd (cc)
    by_tests true false p q = let same : k ≡ n = told k n p in let equal : nat_eq n k ≡ true = grind (arith, nat_tests) in absurd (cc)

-- with one body more
body_at : (es : List Item) (e : Item) (k : ℕ) (o : Option Entry) → entry_of (laws_entries es) k ≡ o → (nat_eq e.number k ≡ true → o ≡ None) → (b : Bool) → nat_eq e.number k ≡ b
    → option_and_then (λ (y : Entry). y.body) (or_else o (if b then Some (laws_entry e) else None)) ≡ (if b then (or_else e.body (option_and_then (λ (y : Entry). y.body) o)) else option_and_then (λ (y : Entry). y.body) o)
body_at es e k None is none true t = of_body e.body
  where
    of_body : (o : Option Core) → o ≡ or_else o None
    of_body None = refl
    of_body (Some b) = refl
body_at es e k None is none false t = refl
body_at es e k (Some y) is none true t = absurd (let h = none t in cc)
body_at es e k (Some y) is none false t = refl

module _ (es : List Item) (e : Item) (new : Contains (numbers_of es) e.number → ⊥) where
  pub no_other : (k : ℕ) → nat_eq e.number k ≡ true → entry_of (laws_entries es) k ≡ None
  no_other k t = let same : e.number ≡ k = grind (arith, nat_tests) in subst (λ z. entry_of (laws_entries es) z ≡ None) same (absent es e.number new)

  pub bodies_now : (k : ℕ) → core_bodies (laws_entries (es ++ e ∷ [])) k ≡ (if nat_eq e.number k then or_else e.body (core_bodies (laws_entries es) k) else core_bodies (laws_entries es) k)
  bodies_now k = ap (option_and_then (λ (y : Entry). y.body)) (entry_last es e k) ∙ body_at es e k (entry_of (laws_entries es) k) refl (no_other k) (nat_eq e.number k) refl

  put_at : (bodies : BodyMap) (o : Option Core) (k : ℕ) → bodies_in (with_body bodies e.number o) k ≡ (if nat_eq e.number k then or_else o (bodies_in bodies k) else bodies_in bodies k)
  put_at bodies None k = by_test (nat_eq e.number k)
    where
      by_test : (b : Bool) → bodies_in bodies k ≡ (if b then bodies_in bodies k else bodies_in bodies k)
      by_test true = refl
      by_test false = refl
  put_at bodies (Some m) k = get-insert nat_cmp_total bodies e.number m k ∙ ap (λ b. cond b (Some m) (bodies_in bodies k)) (same_test k e.number)

  pub bodies_push : (bodies : BodyMap) → bodies_in bodies ≡ core_bodies (laws_entries es) → bodies_in (with_body bodies e.number e.body) ≡ core_bodies (laws_entries (es ++ e ∷ []))
  bodies_push bodies are = fun_ext at_number
    where
      at_number : (k : ℕ) → bodies_in (with_body bodies e.number e.body) k ≡ core_bodies (laws_entries (es ++ e ∷ [])) k
      at_number k = put_at bodies e.body k ∙ ap (λ (f : ℕ → Option Core). if nat_eq e.number k then or_else e.body (f k) else f k) are ∙ sym (bodies_now k)

  -- the signature with one entry more
  pub push_signature : (all : List Item) (keys keys' : List ℕ) (bodies bodies' : BodyMap) → all ≡ es ++ e ∷ []
      → AreClosedEntries (laws_entries es) × (keys ≡ numbers_of es) × (bodies_in bodies ≡ core_bodies (laws_entries es))
      → loose e.ty ≡ 0 → IfSome e.body (λ body. loose body ≡ 0) → keys' ≡ (if list_any (nat_eq e.number) keys then keys else keys ++ e.number ∷ []) → bodies' ≡ with_body bodies e.number e.body
      → AreClosedEntries (laws_entries all) × (keys' ≡ numbers_of all) × (bodies_in bodies' ≡ core_bodies (laws_entries all))
  push_signature all keys keys' bodies bodies' whole old ty body made put =
      subst (λ (z : List Item). AreClosedEntries (laws_entries z) × (keys' ≡ numbers_of z) × (bodies_in bodies' ≡ core_bodies (laws_entries z))) (sym whole)
      (closed_push es e new old.0 ty body, numbers_push es e new keys keys' old.1 made, ap (λ (z : BodyMap). bodies_in z) put ∙ bodies_push bodies old.2)
