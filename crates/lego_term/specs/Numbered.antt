-- The parts of a term by number, left to right from 0.
use Rattle.std.specs.Prelude.{ℕ, zero, Bool, true, false, nat_eq, if◌then◌else◌}
use Rattle.lego_term.specs.Trees.{Core, Pi, Lam, App, Sigma, Pair, Fst, Snd, Let}
use Rattle.lego_term.specs.Parts.{Branch}
use Rattle.lego_term.specs.declared.parts.Part.{Part}

abbrev pub branch_of : Part → Branch
branch_of p = record { under = p.under; term = p.term.now }

-- `u` for the part `m` of the number j, where that is the number i
abbrev pub put_at : ℕ → ℕ → Core → Core → Core
put_at i j u m = if nat_eq i j then u else m

-- the term with `u` for its part of the number i, where it has one
abbrev pub put_part : ℕ → Core → Core → Core
put_part i u (Pi x a b) = Pi x (put_at i 0 u a) (put_at i 1 u b)
put_part i u (Lam x a m) = Lam x (put_at i 0 u a) (put_at i 1 u m)
put_part i u (App k m n) = App k (put_at i 0 u m) (put_at i 1 u n)
put_part i u (Sigma x a b) = Sigma x (put_at i 0 u a) (put_at i 1 u b)
put_part i u (Pair x a b m n) = Pair x (put_at i 0 u a) (put_at i 1 u b) (put_at i 2 u m) (put_at i 3 u n)
put_part i u (Fst m) = Fst (put_at i 0 u m)
put_part i u (Snd m) = Snd (put_at i 0 u m)
put_part i u (Let x m n) = Let x (put_at i 0 u m) (put_at i 1 u n)
put_part i u t = t

-- whether the numbered part is the function of an application, or what a projection is taken of
abbrev pub is_at_head : Core → ℕ → Bool
is_at_head (App k m n) zero = true
is_at_head (Fst m) zero = true
is_at_head (Snd m) zero = true
is_at_head t i = false
