-- What stands above a head form is of the head form's kind.
use Rattle.std.proofs.Common.{ℕ}
use Rattle.lego_term.specs.Levels.{Assignment}
use Rattle.lego_term.specs.Trees.{Core, Term, Prop, Univ, Pi, Sigma, at}
use Rattle.lego_laws.specs.Parallel.{TermBodies}
use Rattle.lego_laws.specs.HeadForms.{PartsBelow}
use Rattle.lego_laws.specs.Places.{AType, AFunction, APair, Fulfils}

module _ (w : Assignment) (b : TermBodies) where
  pub is_sort : (h : Core) (j : ℕ) → PartsBelow b (at w h) (Univ j) → Fulfils AType h
  is_sort Prop j p = Fulfils.a_prop
  is_sort (Univ l) j p = Fulfils.a_universe
  is_sort _ j p = elim p [ ]

  pub is_product : (h : Core) (a r : Term) → PartsBelow b (at w h) (Pi tt a r) → Fulfils AFunction h
  is_product (Pi x a r) _ _ p = Fulfils.a_function
  is_product _ a r p = elim p [ ]

  pub is_sigma : (h : Core) (a r : Term) → PartsBelow b (at w h) (Sigma tt a r) → Fulfils APair h
  is_sigma (Sigma x a r) _ _ p = Fulfils.a_pair
  is_sigma _ a r p = elim p [ ]
