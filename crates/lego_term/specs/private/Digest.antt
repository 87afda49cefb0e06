-- A number below 2 ^ 64 for each term, which equal terms share. It is made by sums and products modulo 2 ^ 64 alone,
-- and a level has a part only in its upper half, so the lower half is shared by terms that are equal but for levels.
use Rattle.std.specs.Prelude.{ℕ, suc, ◌+◌, ◌*◌, ◌%◌, ◌^◌, Option, None, Some}
use Rattle.lego_term.specs.Trees.{Core, Tree, Var, Const, Prop, Univ, Pi, Lam, App, Sigma, Pair, Fst, Snd, Let}
use Rattle.lego_term.specs.declared.level.Level.{Level}

-- the sum and the product in 64 bits
abbrev pub plus : ℕ → ℕ → ℕ
plus m n = (m + n) % 2 ^ 64

abbrev pub times : ℕ → ℕ → ℕ
times m n = m * n % 2 ^ 64

-- twice the square of a number and the number: no two numbers below 2 ^ 64 give the same
abbrev pub twisted : ℕ → ℕ
twisted n = times n (plus (times n 2) 1)

-- the digest of what came before, and what comes next
unfoldable pub mixed : ℕ → ℕ → ℕ
mixed before next = twisted (plus (times before 6364136223846793005) next)

-- 0 where there is no variable, and else one more than its number
abbrev pub base_number : Option ℕ → ℕ
base_number None = 0
base_number (Some u) = suc u

-- a level, in the upper half
unfoldable pub level_digest : Level → ℕ
level_digest l = times (mixed (base_number l.base) l.plus) 4294967296

-- the half in which levels have no part
abbrev pub lower_half : ℕ → ℕ
lower_half n = n % 4294967296

-- the digest where a level counts as this number
abbrev pub digest_by : {B M L : Type 0} → (L → ℕ) → Tree B M L → ℕ
digest_by h (Var i) = mixed 1 i
digest_by h (Const k) = mixed 2 k
digest_by h Prop = mixed 3 0
digest_by h (Univ l) = mixed 4 (h l)
digest_by h (Pi x a b) = mixed (mixed 5 (digest_by h a)) (digest_by h b)
digest_by h (Lam x a m) = mixed (mixed 6 (digest_by h a)) (digest_by h m)
digest_by h (App k m n) = mixed (mixed 7 (digest_by h m)) (digest_by h n)
digest_by h (Sigma x a b) = mixed (mixed 8 (digest_by h a)) (digest_by h b)
digest_by h (Pair x a b m n) = mixed (mixed (mixed (mixed 9 (digest_by h a)) (digest_by h b)) (digest_by h m)) (digest_by h n)
digest_by h (Fst m) = mixed 10 (digest_by h m)
digest_by h (Snd m) = mixed 11 (digest_by h m)
digest_by h (Let x m n) = mixed (mixed 12 (digest_by h m)) (digest_by h n)

-- names and marks have no part in it
abbrev pub digest : Core → ℕ
digest = digest_by level_digest
