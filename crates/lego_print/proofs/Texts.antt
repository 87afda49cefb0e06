-- Texts that are equal.
use Rattle.std.proofs.Common.{◌≡◌, ℕ, true, nat_eq, List, [], ◌∷◌, refl}
use Rattle.lego_base.specs.Names.{same_text}
use Rattle.lego_lexer.proofs.TokenLemmas.{and_true, test_equal}

pub same_text_equal : (a b : List ℕ) → same_text a b ≡ true → a ≡ b
same_text_equal [] [] h = refl
same_text_equal [] (y ∷ ys) h = absurd (cc)
same_text_equal (x ∷ xs) [] h = absurd (cc)
same_text_equal (x ∷ xs) (y ∷ ys) h =
    let t = and_true (nat_eq x y) (same_text xs ys) h in
    let e : x ≡ y = test_equal x y t.0 in
    rw (e, same_text_equal xs ys t.1) refl
