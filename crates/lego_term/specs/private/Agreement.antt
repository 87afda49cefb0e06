-- The test by which two terms are compared, one pair of nodes after the other.
use Rattle.std.specs.Prelude.{ℕ, Bool, true, false, ◌&&◌, ◌||◌, not, nat_eq, Option, None, Some}
use Rattle.lego_term.specs.Trees.{Core, Var, Const, Prop, Univ, Pi, Lam, App, Sigma, Pair, Fst, Snd, Let}
use Rattle.lego_term.specs.declared.binder.Binder.{Binder}
use Rattle.lego_term.specs.declared.binder.Mark.{Mark}
use Rattle.lego_term.specs.declared.binder.Mark.TheVariants.{Plain, Implicit}
use Rattle.lego_term.specs.declared.level.Level.{Level}

abbrev pub same_option : Option ℕ → Option ℕ → Bool
same_option None None = true
same_option (Some i) (Some j) = nat_eq i j
same_option _ _ = false

abbrev pub same_mark : Mark → Mark → Bool
same_mark Plain Plain = true
same_mark Implicit Implicit = true
same_mark _ _ = false

abbrev pub same_binder : Binder → Binder → Bool
same_binder x y = same_option x.name y.name && same_mark x.mark y.mark

abbrev pub same_level : Level → Level → Bool
same_level l m = same_option l.base m.base && nat_eq l.plus m.plus

-- the terms agree, where `names` asks for the same names and marks too, and `levels` for the same levels
abbrev pub agrees : Bool → Bool → Core → Core → Bool
agrees names levels (Var i) (Var j) = nat_eq i j
agrees names levels (Const k) (Const n) = nat_eq k n
agrees names levels Prop Prop = true
agrees names levels (Univ l) (Univ m) = not levels || same_level l m
agrees names levels (Pi x a b) (Pi y c d) = (not names || same_binder x y) && agrees names levels a c && agrees names levels b d
agrees names levels (Lam x a b) (Lam y c d) = (not names || same_binder x y) && agrees names levels a c && agrees names levels b d
agrees names levels (App k a b) (App n c d) = (not names || same_mark k n) && agrees names levels a c && agrees names levels b d
agrees names levels (Sigma x a b) (Sigma y c d) = (not names || same_binder x y) && agrees names levels a c && agrees names levels b d
agrees names levels (Pair x a b m n) (Pair y c d p q) =
    (not names || same_binder x y) && agrees names levels a c && agrees names levels b d && agrees names levels m p && agrees names levels n q
agrees names levels (Fst a) (Fst c) = agrees names levels a c
agrees names levels (Snd a) (Snd c) = agrees names levels a c
agrees names levels (Let x a b) (Let y c d) = (not names || same_binder x y) && agrees names levels a c && agrees names levels b d
agrees names levels _ _ = false
