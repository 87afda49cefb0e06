-- Entries that are read, beside the entries that were printed: the n-th has the number n.
use Rattle.std.proofs.Common.{◌≡◌, ℕ, suc, ◌+◌, Bool, true, false, nat_eq, if◌then◌else◌, List, [], ◌∷◌, ◌++◌, length, Some, None, option_map, refl, sym, ap, ◌∙◌, subst, arith}
use Rattle.std.specs.Prelude.{unwrap_or, nat_lt}
use Rattle.std.specs.List.{position_or_len}
use Rattle.std.proofs.lemmas.Bool.Decides.{nat_tests}
use Rattle.lego_term.specs.Levels.{Assignment}
use Rattle.lego_laws.specs.Entries.{Entry, entry_of}
use Rattle.lego_grammar.specs.Scopes.{entry_named, is_named}
use Rattle.lego_grammar.specs.Denotes.{entry_place}
use Rattle.lego_print.specs.ReadBack.{marked}
use Rattle.lego_print.proofs.Renumbered.{renumbered, IsFoundAs}

-- where the entry of a number stands
abbrev first_place : ℕ → List Entry → ℕ
first_place j es = position_or_len (λ (e : Entry). nat_eq e.number j) es

place_within : (j : ℕ) (es : List Entry) → nat_lt (first_place j es) (length es) ≡ true → entry_place es j ≡ first_place j es
place_within j es h = ap (λ (b : Bool). unwrap_or (if b then Some (first_place j es) else None) (length es)) h

number_same : (m n : ℕ) → nat_eq m n ≡ true → m ≡ n
number_same m n h = grind (arith, nat_tests)

same_number : (m n : ℕ) → m ≡ n → nat_eq m n ≡ true
same_number m n h = grind (arith, nat_tests)

first_less : (n : ℕ) → nat_lt 0 (suc n) ≡ true
first_less n = grind (arith, nat_tests)

next_less : (m n : ℕ) → nat_lt m n ≡ true → nat_lt (suc m) (suc n) ≡ true
next_less m n h = grind (arith, nat_tests)

other_number : (y k p j : ℕ) → y ≡ k → p + suc k ≡ j → nat_eq y j ≡ false
other_number y k p j a b = grind (arith, nat_tests)

-- an entry whose number is new behind these stands behind them
module _ (e : Entry) (rest : List Entry) where
  new_is_last : (before : List Entry) → entry_of before e.number ≡ None → first_place e.number (before ++ e ∷ rest) ≡ length before
  new_is_last [] h = let same = same_number e.number e.number refl in rw same refl
  new_is_last (x ∷ before) h = by_test (nat_eq x.number e.number) refl (λ others. new_is_last before others)
    where
      by_test : (b : Bool) → nat_eq x.number e.number ≡ b → (entry_of before e.number ≡ None → first_place e.number (before ++ e ∷ rest) ≡ length before)
          → first_place e.number (x ∷ (before ++ e ∷ rest)) ≡ suc (length before)
      by_test true p r = let found : entry_of (x ∷ before) e.number ≡ Some x = rw p refl in absurd (cc)
      by_test false p r =
          let skip : entry_of (x ∷ before) e.number ≡ entry_of before e.number = rw p refl in
          let at = r (sym skip ∙ h) in
          rw (p, at) (omega arith)

  pub new_place : (before : List Entry) → entry_of before e.number ≡ None → entry_place (before ++ e ∷ rest) e.number ≡ length before
  new_place before h =
      let at = new_is_last before h in
      let within : nat_lt (first_place e.number (before ++ e ∷ rest)) (length (before ++ e ∷ rest)) ≡ true =
      ap (λ (n : ℕ). nat_lt n (length (before ++ e ∷ rest))) at ∙ less before in
      place_within e.number (before ++ e ∷ rest) within ∙ at
    where
      less : (before : List Entry) → nat_lt (length before) (length (before ++ e ∷ rest)) ≡ true
      less [] = first_less (length rest)
      less (x ∷ xs) = next_less (length xs) (length (xs ++ e ∷ rest)) (less xs)

module _ (numbers : ℕ → ℕ) (v : Assignment) where
  -- the entry is the k-th, and is read as this one
  pub record IsCopy (k : ℕ) (e r : Entry) : Type 0 where
    pub place : numbers e.number ≡ k
    pub number : r.number ≡ k
    pub name : r.name ≡ e.name
    pub mark : r.mark ≡ e.mark
    pub ty : marked [] r.ty ≡ renumbered numbers v e.ty
    pub body : option_map (marked []) r.body ≡ option_map (renumbered numbers v) e.body

  abbrev pub AreCopies : ℕ → List Entry → List Entry → Type 0
  AreCopies k [] [] = Unit {0}
  AreCopies k (e ∷ es) (r ∷ rs) = IsCopy k e r × AreCopies (suc k) es rs
  AreCopies k _ _ = ⊥

  pub same_length : (k : ℕ) (es rs : List Entry) → AreCopies k es rs → length rs ≡ length es
  same_length k [] [] c = refl
  same_length k [] (r ∷ rs) c = absurd c
  same_length k (e ∷ es) [] c = absurd c
  same_length k (e ∷ es) (r ∷ rs) c = ap suc (same_length (suc k) es rs c.1)

  pub one_more : (k : ℕ) (es rs : List Entry) (e r : Entry) → AreCopies k es rs → IsCopy (k + length es) e r → AreCopies k (es ++ e ∷ []) (rs ++ r ∷ [])
  one_more k [] [] e r c h = (subst (λ (n : ℕ). IsCopy n e r) (let same : k + 0 ≡ k = omega arith in same) h, tt)
  one_more k [] (x ∷ rs) e r c h = absurd c
  one_more k (x ∷ es) [] e r c h = absurd c
  one_more k (x ∷ es) (y ∷ rs) e r c h =
      (c.0, one_more (suc k) es rs e r c.1 (subst (λ (n : ℕ). IsCopy n e r) (let same : k + suc (length es) ≡ suc k + length es = omega arith in same) h))

  by_name : (n : ℕ) (x : Entry) (es : List Entry) (b : Bool) → is_named n x.name ≡ b → entry_named (x ∷ es) n ≡ (if b then Some x else entry_named es n)
  by_name n x es b h = ap (λ (t : Bool). if t then Some x else entry_named es n) h

  -- what is read has the names of what was printed
  pub copy_named : (k : ℕ) (es rs : List Entry) → AreCopies k es rs → (n : ℕ) (e : Entry) → entry_named es n ≡ Some e → IsFoundAs rs n (numbers e.number)
  copy_named k [] rs c n e h = absurd (cc)
  copy_named k (x ∷ es) [] c n e h = absurd c
  copy_named k (x ∷ es) (y ∷ rs) c n e h = by_test (is_named n x.name) refl (λ found. copy_named (suc k) es rs c.1 n e found)
    where
      by_test : (b : Bool) → is_named n x.name ≡ b → (entry_named es n ≡ Some e → IsFoundAs rs n (numbers e.number)) → IsFoundAs (y ∷ rs) n (numbers e.number)
      by_test true p r =
          let same : x ≡ e = (let s : Some x ≡ Some e = sym (by_name n x es true p) ∙ h in cc) in
          record {
            entry = y;
            named = by_name n y rs true (ap (is_named n) c.0.name ∙ p);
            number_is = let a = c.0.number in let b = c.0.place in a ∙ sym b ∙ ap (λ (z : Entry). numbers z.number) same;
          }
      by_test false p r =
          let f = r (sym (by_name n x es false p) ∙ h) in
          record { entry = f.entry; named = by_name n y rs false (ap (is_named n) c.0.name ∙ p) ∙ f.named; number_is = f.number_is }

  pub copy_unnamed : (k : ℕ) (es rs : List Entry) → AreCopies k es rs → (n : ℕ) → entry_named es n ≡ None → entry_named rs n ≡ None
  copy_unnamed k [] [] c n h = refl
  copy_unnamed k [] (y ∷ rs) c n h = absurd c
  copy_unnamed k (x ∷ es) [] c n h = absurd c
  copy_unnamed k (x ∷ es) (y ∷ rs) c n h = by_test (is_named n x.name) refl (λ none. copy_unnamed (suc k) es rs c.1 n none)
    where
      by_test : (b : Bool) → is_named n x.name ≡ b → (entry_named es n ≡ None → entry_named rs n ≡ None) → entry_named (y ∷ rs) n ≡ None
      by_test true p r = let s : Some x ≡ None = sym (by_name n x es true p) ∙ h in absurd (cc)
      by_test false p r = by_name n y rs false (ap (is_named n) c.0.name ∙ p) ∙ r (sym (by_name n x es false p) ∙ h)

  -- the number of what is read is its place
  copy_place : (k : ℕ) (es rs : List Entry) → AreCopies k es rs → (n : ℕ) (e : Entry) → entry_named es n ≡ Some e
      → (first_place (numbers e.number) rs + k ≡ numbers e.number) × (nat_lt (first_place (numbers e.number) rs) (length rs) ≡ true)
  copy_place k [] rs c n e h = absurd (cc)
  copy_place k (x ∷ es) [] c n e h = absurd c
  copy_place k (x ∷ es) (y ∷ rs) c n e h = by_test (is_named n x.name) refl (λ found. copy_place (suc k) es rs c.1 n e found)
    where
      at_front : (j : ℕ) → nat_eq y.number j ≡ true → first_place j (y ∷ rs) ≡ 0
      at_front j p = rw p refl

      behind_front : (j : ℕ) → nat_eq y.number j ≡ false → first_place j (y ∷ rs) ≡ suc (first_place j rs)
      behind_front j p = rw p (omega arith)

      by_test : (b : Bool) → is_named n x.name ≡ b
          → (entry_named es n ≡ Some e
          → (first_place (numbers e.number) rs + suc k ≡ numbers e.number) × (nat_lt (first_place (numbers e.number) rs) (length rs) ≡ true))
          → (first_place (numbers e.number) (y ∷ rs) + k ≡ numbers e.number) × (nat_lt (first_place (numbers e.number) (y ∷ rs)) (suc (length rs)) ≡ true)
      by_test true p r =
          let same : x ≡ e = (let s : Some x ≡ Some e = sym (by_name n x es true p) ∙ h in cc) in
          let j : numbers e.number ≡ k = ap (λ (z : Entry). numbers z.number) (sym same) ∙ c.0.place in
          let f = at_front (numbers e.number) (same_number y.number (numbers e.number) (c.0.number ∙ sym j)) in (
            ap (λ (m : ℕ). m + k) f ∙ (let z : 0 + k ≡ k = omega arith in z) ∙ sym j,
            ap (λ (m : ℕ). nat_lt m (suc (length rs))) f ∙ first_less (length rs),
          )
      by_test false p r =
          let at = r (sym (by_name n x es false p) ∙ h) in
          let f = behind_front (numbers e.number) (other_number y.number k (first_place (numbers e.number) rs) (numbers e.number) c.0.number at.0) in
          let sum = at.0 in (
            ap (λ (m : ℕ). m + k) f ∙ (let s : suc (first_place (numbers e.number) rs) + k ≡ numbers e.number = omega (arith, sum) in s),
            ap (λ (m : ℕ). nat_lt m (suc (length rs))) f ∙ next_less (first_place (numbers e.number) rs) (length rs) at.1,
          )

  pub copy_stays : (es rs : List Entry) → AreCopies 0 es rs → (n : ℕ) (e : Entry) → entry_named es n ≡ Some e → entry_place rs (numbers e.number) ≡ numbers e.number
  copy_stays es rs c n e h =
      let p = copy_place 0 es rs c n e h in
      place_within (numbers e.number) rs p.1 ∙ (let sum = p.0 in let s : first_place (numbers e.number) rs ≡ numbers e.number = omega (arith, sum) in s)

-- an entry of a front is one of all
pub front_named : (before rest : List Entry) (n : ℕ) (e : Entry) → entry_named before n ≡ Some e → entry_named (before ++ rest) n ≡ Some e
front_named [] rest n e h = absurd (cc)
front_named (x ∷ before) rest n e h = by_test (is_named n x.name) refl (λ found. front_named before rest n e found)
  where
    by_test : (b : Bool) → is_named n x.name ≡ b → (entry_named before n ≡ Some e → entry_named (before ++ rest) n ≡ Some e) → entry_named (x ∷ (before ++ rest)) n ≡ Some e
    by_test true p r = let s : entry_named (x ∷ before) n ≡ Some x = rw p refl in let t : Some x ≡ Some e = sym s ∙ h in rw p t
    by_test false p r = let s : entry_named (x ∷ before) n ≡ entry_named before n = rw p refl in let t = r (sym s ∙ h) in rw p t
