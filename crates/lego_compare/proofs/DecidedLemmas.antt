-- What a walk through both whole terms decides.
use Rattle.std.proofs.Common.{◌≡◌, ℕ, Some, List, [], ◌∷◌, sym, subst, All, arith}
use Rattle.std.proofs.lemmas.List.Elements.{All-nil}
use Rattle.lego_base.specs.declared.place.Place.{Place}
use Rattle.lego_term.specs.Levels.{LevelPair}
use Rattle.lego_term.specs.Trees.{Core, Equal}
use Rattle.lego_laws.specs.Parallel.{CoreBodies, AreClosed}
use Rattle.lego_laws.specs.Counting.{Walked}
use Rattle.lego_laws.specs.Facing.{Order, Cumulativity, root, IsAsked}
use Rattle.lego_laws.specs.Comparison.{Compared, m_equal}
use Rattle.lego_laws.proofs.lemmas.comparison.Comparing.{comparison_is_exact, gathered}
use Rattle.lego_laws.proofs.lemmas.inference.Satisfying.{InOrder}
use Rattle.lego_level.specs.declared.constraint.Constraint.{Constraint}
use Rattle.lego_level.specs.Graphs.{pairs_of}
use Rattle.lego_compare.specs.Answers.{IsDecidedBy, IsLevelIn}
use Rattle.lego_compare.specs.private.Walks.{Passed}
use Rattle.lego_compare.proofs.AskedLemmas.{asked_of_terms, all_of_pairs, whole}
use Rattle.lego_compare.proofs.LevelLemmas.{asked_levels}

-- with every level put to 0 all pairs are in order
all_zero : (k : List LevelPair) → InOrder (λ l. 0) k
all_zero [] = tt
all_zero (c ∷ k) = (omega arith, all_zero k)

module _ (b : CoreBodies) (closed : AreClosed b) (o : Order) (t u : Core) (place : Place) where
  levels_of_asked : (found : List Constraint) → All (λ c. IsAsked o b t u c.low c.high) found → All (λ c. IsLevelIn b t u c.low × IsLevelIn b t u c.high) found
  levels_of_asked found h = λ k d lt. asked_levels o b t u _ _ (h k d lt)

  decide : (found : List Constraint) → Compared b o t u (pairs_of found) → All (λ c. c.place ≡ Some place) found → IsDecidedBy o b t u place found
  decide found c p =
      let asked = all_of_pairs (IsAsked o b t u) found (asked_of_terms o b t u Cumulativity 0 (whole o) (λ h k x y. root x y) c) in
      record {
        walk = c;
        exact = comparison_is_exact b closed o t u (pairs_of found) c;
        zero = gathered (λ l. 0) c (all_zero (pairs_of found));
        asked = asked;
        placed = p;
        levels = levels_of_asked found asked;
      }

  pub decided : (limit steps : ℕ) (found : List Constraint) → Passed (Walked b t u) (Compared b o t u) limit place t u b [] found steps → IsDecidedBy o b t u place found
  decided limit steps found p = subst (λ z. IsDecidedBy o b t u place z) (sym p.added) (decide p.more p.compared p.placed)

  pub decided_equal : Equal t u → IsDecidedBy o b t u place []
  decided_equal e = decide [] (m_equal e) (All-nil _)
