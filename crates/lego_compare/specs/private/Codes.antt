-- What the small functions of a comparison answer.
use Rattle.std.specs.Prelude.{ℕ, suc, ◌+◌, ◌-◌, Bool, false, nat_eq, if◌then◌else◌, List, [], ◌∷◌, Option, Some}
use Rattle.lego_base.specs.declared.place.Place.{Place}
use Rattle.lego_level.specs.declared.constraint.Constraint.{Constraint}
use Rattle.lego_reduce.specs.declared.fault.ReduceFault.{ReduceFault}
use Rattle.lego_reduce.specs.declared.fault.ReduceFault.TheVariants as reduce
use Rattle.lego_compare.specs.declared.fault.CompareFault.{CompareFault}
use Rattle.lego_compare.specs.declared.fault.CompareFault.TheVariants as compare
use Rattle.lego_compare.specs.declared.stop.Stop.{Stop}
use Rattle.lego_compare.specs.declared.stop.Stop.TheVariants.{Budget, TooLarge, Memory}
use Rattle.lego_compare.specs.declared.stop.Side.{Side}
use Rattle.lego_term.specs.Parts.{Branch, Shape, shape_of, AnApp, AFst, ASnd}
use Rattle.lego_term.specs.declared.level.Level.{Level}
use Rattle.lego_term.specs.Trees.{Core, Var, Const, Prop, Univ, Pi, Lam, App, Sigma, Pair, Fst, Snd, Let}
use Rattle.lego_laws.specs.Facing.{Order, Cumulativity, Conversion}
use Rattle.lego_compare.specs.declared.relation.Relation.{Relation}
use Rattle.lego_compare.specs.declared.relation.Relation.TheVariants.{Below, Same}
use Rattle.lego_compare.specs.declared.roots.Roots.{Roots}
use Rattle.lego_compare.specs.declared.roots.Roots.TheVariants.{Apart, Universes, Alike}
use Rattle.lego_compare.specs.declared.walk.Position.{Position}

abbrev pub order_of : Relation → Order
order_of Below = Cumulativity
order_of Same = Conversion

abbrev pub relation_at : Relation → Core → ℕ → Relation
relation_at r (Sigma x a b) i = r
relation_at r (Pi x a b) (suc i) = r
relation_at r _ i = Same

abbrev pub alike_if_equal : ℕ → ℕ → Roots
alike_if_equal i j = if nat_eq i j then Alike else Apart

abbrev pub below_universe : Relation → Roots
below_universe Below = Alike
below_universe Same = Apart

-- what the roots of two head forms say of the relation
abbrev pub roots_of : Relation → Core → Core → Roots
roots_of r (Var i) (Var j) = alike_if_equal i j
roots_of r (Const i) (Const j) = alike_if_equal i j
roots_of r Prop Prop = Alike
roots_of r Prop (Univ l) = below_universe r
roots_of r (Univ l) (Univ m) = Universes l m
roots_of r (Pi x a b) (Pi y c d) = Alike
roots_of r (Lam x a b) (Lam y c d) = Alike
roots_of r (App x a b) (App y c d) = Alike
roots_of r (Sigma x a b) (Sigma y c d) = Alike
roots_of r (Pair x a b m n) (Pair y c d p q) = Alike
roots_of r (Fst a) (Fst b) = Alike
roots_of r (Snd a) (Snd b) = Alike
roots_of r _ _ = Apart

abbrev pub term_of : Branch → Core
term_of p = p.term

-- whether the numbered part stands under a binder
abbrev pub binds : Core → ℕ → Bool
binds (Pi x a b) i = nat_eq i 1
binds (Lam x a b) i = nat_eq i 1
binds (Sigma x a b) i = nat_eq i 1
binds (Pair x a b m n) i = nat_eq i 1
binds (Let x m n) i = nat_eq i 1
binds _ i = false

-- whether a head step of a form of this shape may be made in the numbered part
abbrev pub is_at_head : Option Shape → ℕ → Bool
is_at_head (Some AnApp) i = nat_eq i 0
is_at_head (Some AFst) i = nat_eq i 0
is_at_head (Some ASnd) i = nat_eq i 0
is_at_head _ i = false

-- where a walk stands at the numbered part of the term
abbrev pub position_inside : Position → Core → ℕ → Position
position_inside at t i = record {
  relation = relation_at at.relation t i;
  room = at.room - 1;
  deeper = if binds t i then at.deeper + 1 else at.deeper;
  limit = at.limit;
  are_head_forms = is_at_head (shape_of t) i;
}

-- what two universes that face one another ask, at the comparison's place
abbrev pub asked_at : Relation → Level → Level → Place → List Constraint
asked_at Below l m place = record { low = l; high = m; place = Some place } ∷ []
asked_at Same l m place = record { low = l; high = m; place = Some place } ∷ record { low = m; high = l; place = Some place } ∷ []

-- why a reduction on this side stopped the walk
abbrev pub stop_on : Side → ReduceFault → Stop
stop_on side reduce.Budget = Budget
stop_on side (reduce.TooLarge nodes levels) = TooLarge side nodes levels
stop_on side reduce.Memory = Memory

-- the fault of a reduction as one of a comparison
abbrev pub compare_fault : ReduceFault → CompareFault
compare_fault reduce.Budget = compare.Budget
compare_fault (reduce.TooLarge nodes levels) = compare.TooLarge nodes levels
compare_fault reduce.Memory = compare.Memory
