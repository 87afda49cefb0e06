-- What a stopped walk says of the whole sequences.
use Rattle.std.proofs.Common.{◌≡◌, ℕ, suc, Ok, Err, inl, inr, refl, subst, arith}
use Rattle.lego_term.specs.Trees.{Core, Equal}
use Rattle.lego_term.specs.Sequences.{normal_step, CostMoreThan, MoreThan}
use Rattle.lego_laws.specs.Parallel.{CoreBodies, AreClosed}
use Rattle.lego_laws.specs.Counting.{Walked}
use Rattle.lego_laws.specs.Facing.{Order}
use Rattle.lego_laws.proofs.lemmas.comparison.Counted.{long_walks_are_costly}
use Rattle.lego_reduce.specs.declared.fault.ReduceFault.{ReduceFault}
use Rattle.lego_reduce.specs.declared.fault.ReduceFault.TheVariants as reduce
use Rattle.lego_reduce.specs.declared.head_form.Reduced.{Reduced}
use Rattle.lego_reduce.specs.Reduction.{Reduces}
use Rattle.lego_term.specs.Parts.{tree}
use Rattle.lego_compare.specs.declared.fault.CompareFault.{CompareFault}
use Rattle.lego_compare.specs.declared.fault.CompareFault.TheVariants.{Differ, Budget, TooLarge, Memory}
use Rattle.lego_compare.specs.private.Codes.{compare_fault}
use Rattle.lego_compare.specs.Answers.{DifferAt, IsRefusedBy, IsOverBudget, by_walk, by_left, by_right}
use Rattle.lego_compare.specs.Paths.{IsLargeOnAPath}
use Rattle.lego_compare.specs.private.Causes.{PassesIn}
use Rattle.lego_compare.specs.private.Walks.{Differ as Differing, Apart, TooMany}
use Rattle.lego_compare.proofs.DifferLemmas.{differ_at}
use Rattle.lego_compare.proofs.ReachLemmas.{reaches_large}

pub apart_whole : (b : CoreBodies) → AreClosed b → (o : Order) (t u l r : Core) (n : ℕ) → Apart (Differing b o t u) 0 n l r → DifferAt o b t u l r n
apart_whole b closed o t u l r n p =
    let s = p.sum in
    let e : p.within ≡ n = omega arith in
    differ_at b closed o t u l r n (subst (λ z. Differing b o t u z l r) e p.path)

pub too_many_whole : (b : CoreBodies) (t u : Core) (limit : ℕ) → TooMany (Walked b t u) limit → IsOverBudget b t u limit × CostMoreThan b t u limit
too_many_whole b t u limit m = (by_walk m.walked m.over, long_walks_are_costly b t u m.left m.right limit m.walked m.over)

costly_left : (b : CoreBodies) (t u : Core) (limit : ℕ) → MoreThan (normal_step b) t limit → CostMoreThan b t u limit
costly_left b t u limit m = (suc limit, 0, omega arith, m.0, u, m.1, refl)

costly_right : (b : CoreBodies) (t u : Core) (limit : ℕ) → MoreThan (normal_step b) u limit → CostMoreThan b t u limit
costly_right b t u limit m = (0, suc limit, omega arith, t, m.0, refl, m.1)

pub from_left : (b : CoreBodies) (o : Order) (t u : Core) (limit : ℕ) (fault : CompareFault) → (Equal t u → ⊥) → PassesIn b t limit fault → IsRefusedBy o b t u limit fault
from_left b o t u limit (Differ l r n) d p = absurd p
from_left b o t u limit Budget d p = (by_left p, costly_left b t u limit p.long, d)
from_left b o t u limit (TooLarge nodes levels) d p = (inl p, d)
from_left b o t u limit Memory d p = tt

pub from_right : (b : CoreBodies) (o : Order) (t u : Core) (limit : ℕ) (fault : CompareFault) → (Equal t u → ⊥) → PassesIn b u limit fault → IsRefusedBy o b t u limit fault
from_right b o t u limit (Differ l r n) d p = absurd p
from_right b o t u limit Budget d p = (by_right p, costly_right b t u limit p.long, d)
from_right b o t u limit (TooLarge nodes levels) d p = (inr p, d)
from_right b o t u limit Memory d p = tt

-- a refusal of the term's own reduction
pub of_reduction : (b : CoreBodies) (t : Core) (limit size depth : ℕ) (fault : ReduceFault) → IsLargeOnAPath b t size depth → Reduces (normal_step b) t limit (Err fault) → PassesIn b t limit (compare_fault fault)
of_reduction b t limit size depth reduce.Budget large h = record { nodes = size; levels = depth; large = large; long = h }
of_reduction b t limit size depth (reduce.TooLarge nodes levels) large h = record { steps = h.0; term = h.1; within = h.2; reaches = h.3; large = tree h.4 }
of_reduction b t limit size depth reduce.Memory large h = tt

-- the walk came to a term too large, and the term's own reduction ends
pub of_end : (b : CoreBodies) (t : Core) (limit nodes levels : ℕ) (reduced : Reduced) → Reduces (normal_step b) t limit (Ok reduced) → IsLargeOnAPath b t nodes levels → PassesIn b t limit (TooLarge nodes levels)
of_end b t limit nodes levels reduced h large = reaches_large b t reduced.term reduced.steps limit h.0 h.1 large
