-- Printed names of local variables and entries stand for what they name.
use Rattle.std.proofs.Common.{◌≡◌, ℕ, zero, suc, Bool, true, false, ◌||◌, nat_eq, if◌then◌else◌, List, [], ◌∷◌, Option, Some, None, option_map, refl, sym, ap, ◌∙◌, subst, arith}
use Rattle.std.specs.Prelude.{slice_get}
use Rattle.std.specs.List.{list_any}
use Rattle.std.proofs.lemmas.Bool.Decides.{nat_tests}
use Rattle.std.proofs.lemmas.Cmp.{nat_list_eq_equiv}
use Rattle.std.proofs.lemmas.Option.{same_Some}
use Rattle.lego_base.proofs.NamesLemmas.{true_is_false}
use Rattle.lego_lexer.specs.Tokens.{Name, token_of}
use Rattle.lego_grammar.specs.Grammar.{Names}
use Rattle.lego_grammar.specs.Scopes.{LocalVariable, Scope as Reading, local_name, local_named, is_named}
use Rattle.lego_print.specs.Names.{is_text_of, is_printed_as}
use Rattle.lego_print.specs.ReadBack.{IsHeldText}

eq_self : (n : ℕ) → nat_eq n n ≡ true
eq_self n = grind (arith, nat_tests)

eq_is : (m n : ℕ) → nat_eq m n ≡ true → m ≡ n
eq_is m n h = grind (arith, nat_tests)

-- a local variable with this printed name: the name is no entry's, and no local variable's around it
pub record IsLocalText (names given : Names) (entries : List ℕ) (text : List ℕ) (outer : List (Option (List ℕ))) (x : LocalVariable) : Type 0 where
  pub text_is : IsHeldText names text
  pub name : local_name x ≡ Some text_is.number
  pub no_entry : list_any (is_text_of given text) entries ≡ false
  pub no_local : list_any (is_printed_as text) outer ≡ false

-- the local variables have these printed names
abbrev pub AreLocals : Names → Names → List ℕ → List (Option (List ℕ)) → Reading → Type 0
AreLocals names given entries [] [] = Unit {0}
AreLocals names given entries (None ∷ ls) (x ∷ xs) = (local_name x ≡ None) × AreLocals names given entries ls xs
AreLocals names given entries (Some text ∷ ls) (x ∷ xs) = IsLocalText names given entries text ls x × AreLocals names given entries ls xs
AreLocals names given entries _ _ = ⊥

module _ (names given : Names) (entries : List ℕ) where
  any_there : (ls : List (Option (List ℕ))) (i : ℕ) (text : List ℕ) → slice_get ls i ≡ Some (Some text) → list_any (is_printed_as text) ls ≡ true
  any_there [] i text h = absurd (cc)
  any_there (l ∷ ls) zero text h =
      let same : l ≡ Some text = same_Some l (Some text) h in
      let here : is_printed_as text l ≡ true = ap (is_printed_as text) same ∙ nat_list_eq_equiv.refl text in
      rw here refl
  any_there (l ∷ ls) (suc i) text h = or_true (is_printed_as text l) (list_any (is_printed_as text) ls) (any_there ls i text h)
    where
      or_true : (a b : Bool) → b ≡ true → (a || b) ≡ true
      or_true true b e = refl
      or_true false b e = e

  -- a name that is not this variable's
  next : (x : LocalVariable) (xs : Reading) (n : ℕ) (o : Option ℕ) → is_named n (local_name x) ≡ false → local_named xs n ≡ o → local_named (x ∷ xs) n ≡ option_map suc o
  next x xs n o other rest = ap (λ b. if b then Some 0 else option_map suc (local_named xs n)) other ∙ ap (option_map suc) rest

  other_name : (x : LocalVariable) (n m : ℕ) → local_name x ≡ Some m → (n ≡ m → ⊥) → is_named n (local_name x) ≡ false
  other_name x n m is ne = ap (is_named n) is ∙ by_test (nat_eq n m) refl
    where
      by_test : (b : Bool) → nat_eq n m ≡ b → nat_eq n m ≡ false
      by_test false e = e
      by_test true e = absurd (ne (eq_is n m e))

  no_name : (x : LocalVariable) (n : ℕ) → local_name x ≡ None → is_named n (local_name x) ≡ false
  no_name x n is = ap (is_named n) is

  -- the innermost variable of a printed name is the one that has it
  pub record IsFound (text : List ℕ) (xs : Reading) (i : ℕ) : Type 0 where
    pub text_is : IsHeldText names text
    pub found : local_named xs text_is.number ≡ Some i

  pub local_found : (ls : List (Option (List ℕ))) (xs : Reading) → AreLocals names given entries ls xs → (i : ℕ) (text : List ℕ)
      → slice_get ls i ≡ Some (Some text) → IsFound text xs i
  local_found [] xs a i text h = absurd (cc)
  local_found (None ∷ ls) [] a i text h = absurd a
  local_found (Some t ∷ ls) [] a i text h = absurd a
  local_found (None ∷ ls) (x ∷ xs) a zero text h = absurd (cc)
  local_found (None ∷ ls) (x ∷ xs) a (suc i) text h =
      let f = local_found ls xs a.1 i text h in
      record { text_is = f.text_is; found = next x xs f.text_is.number (Some i) (no_name x f.text_is.number a.0) f.found }
  local_found (Some t ∷ ls) (x ∷ xs) a zero text h =
      let same : t ≡ text = same_Some t text (same_Some (Some t) (Some text) h) in
      let l = a.0 in
      record {
        text_is = record { number = l.text_is.number; held = l.text_is.held ∙ ap (λ (u : List ℕ). Some u) same; is_name = subst (λ (u : List ℕ). token_of u ≡ Some (Name u)) same l.text_is.is_name };
        found = let here : is_named l.text_is.number (local_name x) ≡ true = ap (is_named l.text_is.number) l.name ∙ eq_self l.text_is.number in
            ap (λ b. if b then Some 0 else option_map suc (local_named xs l.text_is.number)) here;
      }
  local_found (Some t ∷ ls) (x ∷ xs) a (suc i) text h =
      let f = local_found ls xs a.1 i text h in
      let l = a.0 in
      record {
        text_is = f.text_is;
        found = next x xs f.text_is.number (Some i) (other_name x f.text_is.number l.text_is.number l.name (λ same.
            let texts : text ≡ t = same_Some text t (sym f.text_is.held ∙ (ap (slice_get names) same ∙ l.text_is.held)) in
            true_is_false (list_any (is_printed_as t) ls) (ap (λ (u : List ℕ). list_any (is_printed_as u) ls) (sym texts) ∙ any_there ls i text h) l.no_local)) f.found;
      }

  -- the name of an entry in scope is no local variable's
  pub local_absent : (ls : List (Option (List ℕ))) (xs : Reading) → AreLocals names given entries ls xs → (n : ℕ) (text : List ℕ)
      → slice_get names n ≡ Some text → list_any (is_text_of given text) entries ≡ true → local_named xs n ≡ None
  local_absent [] [] a n text held there = refl
  local_absent [] (x ∷ xs) a n text held there = absurd a
  local_absent (None ∷ ls) [] a n text held there = absurd a
  local_absent (Some t ∷ ls) [] a n text held there = absurd a
  local_absent (None ∷ ls) (x ∷ xs) a n text held there = next x xs n None (no_name x n a.0) (local_absent ls xs a.1 n text held there)
  local_absent (Some t ∷ ls) (x ∷ xs) a n text held there =
      let l = a.0 in
      next x xs n None (other_name x n l.text_is.number l.name (λ same.
      let texts : text ≡ t = same_Some text t (sym held ∙ (ap (slice_get names) same ∙ l.text_is.held)) in
      true_is_false (list_any (is_text_of given t) entries) (ap (λ (u : List ℕ). list_any (is_text_of given u) entries) (sym texts) ∙ there) l.no_entry))
      (local_absent ls xs a.1 n text held there)
