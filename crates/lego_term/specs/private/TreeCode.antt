-- A code for trees, by which a proof tells them apart: a tree is written as nested pairs of numbers.
use Rattle.std.specs.Prelude.{◌≡◌, ℕ, nat_eq, if◌then◌else◌, refl, Option, None, Some}
use base.Stored.{Gv, gnil, gnum, gcons, Coded}
use denote.Struct.Codes.{itself, code_by}
use Rattle.lego_term.specs.Trees.{Core, Var, Const, Prop, Univ, Pi, Lam, App, Sigma, Pair, Fst, Snd, Let}
use Rattle.lego_term.specs.declared.binder.Binder.{Binder}
use Rattle.lego_term.specs.declared.level.Level.{Level}
use Rattle.lego_term.specs.declared.binder.Mark.{Mark}
use Rattle.lego_term.specs.declared.binder.Mark.TheVariants.{Plain, Implicit}

abbrev number : Gv → ℕ
number gnil = 0
number (gnum n) = n
number (gcons a b) = 0

abbrev first : Gv → Gv
first gnil = gnil
first (gnum n) = gnil
first (gcons a b) = a

abbrev second : Gv → Gv
second gnil = gnil
second (gnum n) = gnil
second (gcons a b) = b

abbrev from_option : Option ℕ → Gv
from_option None = gnil
from_option (Some n) = gnum n

abbrev to_option : Gv → Option ℕ
to_option gnil = None
to_option (gnum n) = Some n
to_option (gcons a b) = None

abbrev from_mark : Mark → Gv
from_mark Plain = gnil
from_mark Implicit = gnum 0

abbrev to_mark : Gv → Mark
to_mark gnil = Plain
to_mark (gnum n) = Implicit
to_mark (gcons a b) = Plain

abbrev from_binder : Binder → Gv
from_binder b = gcons (from_option b.name) (from_mark b.mark)

abbrev to_binder : Gv → Binder
to_binder g = record { name = to_option (first g); mark = to_mark (second g) }

abbrev from_level : Level → Gv
from_level l = gcons (from_option l.base) (gnum l.plus)

abbrev to_level : Gv → Level
to_level g = record { base = to_option (first g); plus = number (second g) }

-- a node: its kind, what it holds beside its parts, and up to four parts
abbrev node : ℕ → Gv → Gv → Gv → Gv → Gv → Gv
node kind held a b c d = gcons (gcons (gnum kind) held) (gcons (gcons a b) (gcons c d))

abbrev from_tree : Core → Gv
from_tree (Var i) = node 0 (gnum i) gnil gnil gnil gnil
from_tree (Const k) = node 1 (gnum k) gnil gnil gnil gnil
from_tree Prop = node 2 gnil gnil gnil gnil gnil
from_tree (Univ l) = node 3 (from_level l) gnil gnil gnil gnil
from_tree (Pi b x y) = node 4 (from_binder b) (from_tree x) (from_tree y) gnil gnil
from_tree (Lam b x y) = node 5 (from_binder b) (from_tree x) (from_tree y) gnil gnil
from_tree (App m x y) = node 6 (from_mark m) (from_tree x) (from_tree y) gnil gnil
from_tree (Sigma b x y) = node 7 (from_binder b) (from_tree x) (from_tree y) gnil gnil
from_tree (Pair b x y m n) = node 8 (from_binder b) (from_tree x) (from_tree y) (from_tree m) (from_tree n)
from_tree (Fst m) = node 9 gnil (from_tree m) gnil gnil gnil
from_tree (Snd m) = node 10 gnil (from_tree m) gnil gnil gnil
from_tree (Let b x y) = node 11 (from_binder b) (from_tree x) (from_tree y) gnil gnil

abbrev built : ℕ → Gv → Core → Core → Core → Core → Core
built kind held a b c d =
    if nat_eq kind 0 then Var (number held)
    else (if nat_eq kind 1 then Const (number held)
    else (if nat_eq kind 3 then Univ (to_level held)
    else (if nat_eq kind 4 then Pi (to_binder held) a b
    else (if nat_eq kind 5 then Lam (to_binder held) a b
    else (if nat_eq kind 6 then App (to_mark held) a b
    else (if nat_eq kind 7 then Sigma (to_binder held) a b
    else (if nat_eq kind 8 then Pair (to_binder held) a b c d
    else (if nat_eq kind 9 then Fst a
    else (if nat_eq kind 10 then Snd a
    else (if nat_eq kind 11 then Let (to_binder held) a b
    else Prop))))))))))

abbrev to_tree : Gv → Core
to_tree (gcons kind (gcons (gcons a b) (gcons c d))) = built (number (first kind)) (second kind) (to_tree a) (to_tree b) (to_tree c) (to_tree d)
to_tree _ = Prop

option_back : (o : Option ℕ) → to_option (from_option o) ≡ o
option_back None = refl
option_back (Some n) = refl

mark_back : (m : Mark) → to_mark (from_mark m) ≡ m
mark_back Plain = refl
mark_back Implicit = refl

binder_back : (b : Binder) → to_binder (from_binder b) ≡ b
binder_back b i = record { name = option_back b.name i; mark = mark_back b.mark i }

level_back : (l : Level) → to_level (from_level l) ≡ l
level_back l i = record { base = option_back l.base i; plus = l.plus }

pub tree_back : (t : Core) → to_tree (from_tree t) ≡ t
tree_back (Var n) i = Var n
tree_back (Const k) i = Const k
tree_back Prop i = Prop
tree_back (Univ l) i = Univ (level_back l i)
tree_back (Pi b x y) i = Pi (binder_back b i) (tree_back x i) (tree_back y i)
tree_back (Lam b x y) i = Lam (binder_back b i) (tree_back x i) (tree_back y i)
tree_back (App m x y) i = App (mark_back m i) (tree_back x i) (tree_back y i)
tree_back (Sigma b x y) i = Sigma (binder_back b i) (tree_back x i) (tree_back y i)
tree_back (Pair b x y m n) i = Pair (binder_back b i) (tree_back x i) (tree_back y i) (tree_back m i) (tree_back n i)
tree_back (Fst m) i = Fst (tree_back m i)
tree_back (Snd m) i = Snd (tree_back m i)
tree_back (Let b x y) i = Let (binder_back b i) (tree_back x i) (tree_back y i)

abbrev pub tree_code : Coded Core
tree_code = code_by Gv itself from_tree to_tree tree_back
