-- Cumulativity keeps where every level is put to 0.
use Rattle.std.proofs.Common.{◌≡◌, Option, Some, None, option_map, refl, ap, subst}
use mathlib.Core.Path.{fun_ext}
use Rattle.lego_term.specs.Levels.{Assignment, level_value}
use Rattle.lego_term.specs.Trees.{Core, Term, map_tree, at, at_zero}
use Rattle.lego_term.specs.Steps.{Converts}
use Rattle.lego_term.specs.Below.{Below}
use Rattle.lego_laws.specs.Parallel.{TermBodies, CoreBodies, bodies_at, bodies_valued}
use Rattle.lego_laws.proofs.lemmas.reduction.Mapping.{converts-map, mapped_bodies}
use Rattle.lego_laws.proofs.lemmas.reduction.Valued.{map_twice}

-- a term at fixed numbers, with all of them put to 0
abbrev pub zeroed : Term → Term
zeroed = map_tree (λ x. x) (λ x. x) (λ l. 0)

below-zero : (b : TermBodies) {t u : Term} → Below b t u → Below (mapped_bodies (λ x. x) (λ x. x) (λ l. 0) b) (zeroed t) (zeroed u)
below-zero b (Below.converts p) = Below.converts (converts-map (λ x. x) (λ x. x) (λ l. 0) b p)
below-zero b Below.prop = Below.prop
below-zero b Below.universe = Below.converts Converts.same
below-zero b (Below.pi p q) = Below.pi (converts-map (λ x. x) (λ x. x) (λ l. 0) b p) (below-zero b q)
below-zero b (Below.sigma p q) = Below.sigma (below-zero b p) (below-zero b q)
below-zero b (Below.chain p q) = Below.chain (below-zero b p) (below-zero b q)

pub zero_twice : (v : Assignment) (t : Core) → zeroed (at v t) ≡ at_zero t
zero_twice v t = map_twice (λ x. tt) (λ x. tt) (level_value v) (λ x. x) (λ x. x) (λ l. 0) t

option_twice : (v : Assignment) (o : Option Core) → option_map zeroed (option_map (at v) o) ≡ option_map at_zero o
option_twice v None = refl
option_twice v (Some t) = ap Some (zero_twice v t)

bodies_twice : (v : Assignment) (b : CoreBodies) → mapped_bodies (λ x. x) (λ x. x) (λ l. 0) (bodies_at v b) ≡ bodies_valued (λ l. 0) b
bodies_twice v b = fun_ext (λ k. option_twice v (b k))

pub below_at_zero : (v : Assignment) (b : CoreBodies) (t u : Core) → Below (bodies_at v b) (at v t) (at v u) → Below (bodies_valued (λ l. 0) b) (at_zero t) (at_zero u)
below_at_zero v b t u p =
    subst (λ z. Below z (at_zero t) (at_zero u)) (bodies_twice v b)
    (subst (λ z. Below (mapped_bodies (λ x. x) (λ x. x) (λ l. 0) (bodies_at v b)) z (at_zero u)) (zero_twice v t)
    (subst (λ z. Below (mapped_bodies (λ x. x) (λ x. x) (λ l. 0) (bodies_at v b)) (zeroed (at v t)) z) (zero_twice v u) (below-zero (bodies_at v b) p)))

-- the same of terms at fixed numbers
pub below_zeroed : (v : Assignment) (b : CoreBodies) {t u : Term} → Below (bodies_at v b) t u → Below (bodies_valued (λ l. 0) b) (zeroed t) (zeroed u)
below_zeroed v b {t} {u} p = subst (λ z. Below z (zeroed t) (zeroed u)) (bodies_twice v b) (below-zero (bodies_at v b) p)
