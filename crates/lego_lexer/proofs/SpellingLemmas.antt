-- A walk down a table of words.
use Rattle.std.proofs.Common.{◌≡◌, ℕ, ◌+◌, ◌<◌, zero, suc, true, false, List, [], ◌∷◌, length, get_or, drop, Some, refl, sym, ap, ◌∙◌, arith, add-one}
use Rattle.std.specs.Borrow.{Bor}
use Rattle.lego_base.specs.Names.{same_text}
use Rattle.lego_lexer.specs.Tokens.{written_as}
use Rattle.lego_lexer.specs.private.Spelled.{IsTableOf, words_in}
use Rattle.lego_lexer.specs.declared.token.Word.{Word}

module _ (text_of : Word → List ℕ) (text : List ℕ) where
  skipped : (w : Word) (all : List Word) → same_text (text_of w) text ≡ false → written_as text_of (w ∷ all) text ≡ written_as text_of all text
  skipped w all h = rw h refl

  taken : (w : Word) (all : List Word) → same_text (text_of w) text ≡ true → written_as text_of (w ∷ all) text ≡ Some w
  taken w all h = rw h refl

  parts : {x y : List ℕ} {xs ys : List (List ℕ)} → x ∷ xs ≡ y ∷ ys → (x ≡ y) × (xs ≡ ys)
  parts e = (cc, cc)

  past_one : (table : List (Bor (List ℕ) × Word)) (i : ℕ) (d : Bor (List ℕ) × Word) → IsTableOf text_of table → i < length table
      → same_text (get_or table i d).0.now text ≡ false → written_as text_of (words_in (drop (suc i) table)) text ≡ written_as text_of (words_in (drop i table)) text
  past_one [] i d is h f = absurd (omega arith)
  past_one (e ∷ table) zero d is h f = sym (skipped e.1 (words_in table) (ap (λ t. same_text t text) (sym (parts is).0) ∙ f))
  past_one (e ∷ table) (suc i) d is h f = past_one table i d (parts is).1 (omega arith) f

  -- an entry that isn't written as the text may be passed by
  pub next_one : (table : List (Bor (List ℕ) × Word)) (i : ℕ) (d : Bor (List ℕ) × Word) → IsTableOf text_of table → i < length table
      → same_text (get_or table i d).0.now text ≡ false → written_as text_of (words_in (drop i table)) text ≡ written_as text_of (words_in table) text
      → written_as text_of (words_in (drop (i + 1) table)) text ≡ written_as text_of (words_in table) text
  next_one table i d is h f was = rw add-one (past_one table i d is h f ∙ was)

  -- an entry that is written as the text is found
  pub this_one : (table : List (Bor (List ℕ) × Word)) (i : ℕ) (d : Bor (List ℕ) × Word) → IsTableOf text_of table → i < length table
      → same_text (get_or table i d).0.now text ≡ true → written_as text_of (words_in (drop i table)) text ≡ Some (get_or table i d).1
  this_one [] i d is h f = absurd (omega arith)
  this_one (e ∷ table) zero d is h f = taken e.1 (words_in table) (ap (λ t. same_text t text) (sym (parts is).0) ∙ f)
  this_one (e ∷ table) (suc i) d is h f = this_one table i d (parts is).1 (omega arith) f
