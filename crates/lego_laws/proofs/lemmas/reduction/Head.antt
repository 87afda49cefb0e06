-- Head forms are below each other exactly by their parts.
use Rattle.std.proofs.Common.{ℕ, arith}
use Rattle.lego_term.specs.Trees.{Term, Var, Const, Prop, Univ, Pi, Lam, App, Sigma, Pair, Fst, Snd, Let}
use Rattle.lego_laws.specs.Parallel.{TermBodies, ParallelStep, p_var, p_const, p_prop, p_univ, p_pi, p_lam, p_app, p_sigma, p_pair, p_fst, p_snd, p_let, p_local, p_beta, p_first, p_second, p_unfold, Star, stop, go}
use Rattle.lego_term.specs.Steps.{Converts}
use Rattle.lego_term.specs.Below.{Below}
use Rattle.lego_laws.specs.HeadForms.{IsHeadForm, PartsBelow, at_var, at_const, at_prop, at_prop_univ, at_univ, at_pi, at_lam, at_app, at_sigma, at_pair, at_fst, at_snd, HeadFormsCompare}
use Rattle.lego_laws.specs.Cumulativity.{ByForm}
use Rattle.lego_laws.proofs.lemmas.reduction.CommonReducts.{lam_same, app_same, pair_same, fst_same, snd_same}
use Rattle.lego_laws.proofs.lemmas.reduction.Stuck.{kept}
use Rattle.lego_laws.proofs.lemmas.reduction.Below.{meets, convert_joined, below_of, under-below}

-- runs in the parts
pub data Ran (b : TermBodies) : Term → Term → Type 0 where
  r_var : {i : ℕ} → Ran b (Var i) (Var i)
  r_const : {k : ℕ} → Ran b (Const k) (Const k)
  r_prop : Ran b Prop Prop
  r_univ : {l : ℕ} → Ran b (Univ l) (Univ l)
  r_pi : {a a' c c' : Term} → Star (ParallelStep b) a a' → Star (ParallelStep b) c c' → Ran b (Pi tt a c) (Pi tt a' c')
  r_lam : {a a' c c' : Term} → Star (ParallelStep b) a a' → Star (ParallelStep b) c c' → Ran b (Lam tt a c) (Lam tt a' c')
  r_app : {a a' c c' : Term} → Star (ParallelStep b) a a' → Star (ParallelStep b) c c' → Ran b (App tt a c) (App tt a' c')
  r_sigma : {a a' c c' : Term} → Star (ParallelStep b) a a' → Star (ParallelStep b) c c' → Ran b (Sigma tt a c) (Sigma tt a' c')
  r_pair : {a a' c c' m m' n n' : Term} → Star (ParallelStep b) a a' → Star (ParallelStep b) c c' → Star (ParallelStep b) m m' → Star (ParallelStep b) n n' → Ran b (Pair tt a c m n) (Pair tt a' c' m' n')
  r_fst : {m m' : Term} → Star (ParallelStep b) m m' → Ran b (Fst m) (Fst m')
  r_snd : {m m' : Term} → Star (ParallelStep b) m m' → Ran b (Snd m) (Snd m')

ran_none : (b : TermBodies) (t : Term) → IsHeadForm b t → Ran b t t
ran_none b (Var i) e = r_var
ran_none b (Const k) e = r_const
ran_none b Prop e = r_prop
ran_none b (Univ l) e = r_univ
ran_none b (Pi tt a c) e = r_pi stop stop
ran_none b (Lam tt a c) e = r_lam stop stop
ran_none b (App tt m n) e = r_app stop stop
ran_none b (Sigma tt a c) e = r_sigma stop stop
ran_none b (Let tt m n) e = cc
ran_none b (Pair tt a c m n) e = r_pair stop stop stop stop
ran_none b (Fst m) e = r_fst stop
ran_none b (Snd m) e = r_snd stop

ran_more : {b : TermBodies} {t u v : Term} → ParallelStep b t u → IsHeadForm b t → Ran b u v → Ran b t v
ran_more p_var e r = r
ran_more p_const e r = r
ran_more p_prop e r = r
ran_more p_univ e r = r
ran_more (p_pi p q) e (r_pi r s) = r_pi (go p r) (go q s)
ran_more (p_lam p q) e (r_lam r s) = r_lam (go p r) (go q s)
ran_more (p_app p q) e (r_app r s) = r_app (go p r) (go q s)
ran_more (p_sigma p q) e (r_sigma r s) = r_sigma (go p r) (go q s)
ran_more (p_let p q) e r = cc
ran_more (p_local p q) e r = cc
ran_more (p_pair p q x y) e (r_pair r s w z) = r_pair (go p r) (go q s) (go x w) (go y z)
ran_more (p_fst p) e (r_fst r) = r_fst (go p r)
ran_more (p_snd p) e (r_snd r) = r_snd (go p r)
ran_more (p_beta p q) e r = cc
ran_more (p_first p) e r = cc
ran_more (p_second p) e r = cc
ran_more (p_unfold f) e r = cc

pub ran : {b : TermBodies} {t v : Term} → Star (ParallelStep b) t v → IsHeadForm b t → Ran b t v
ran {b} {t} stop e = ran_none b t e
ran (go s p) e = ran_more s e (ran p (kept s e).stays)

compared : {b : TermBodies} {t u v w : Term} → Ran b t v → ByForm v w → Ran b u w → PartsBelow b t u
compared r_var ByForm.same r_var = at_var
compared r_const ByForm.same r_const = at_const
compared r_prop ByForm.same r_prop = at_prop
compared r_prop ByForm.prop r_univ = at_prop_univ
compared r_univ ByForm.same r_univ = at_univ (omega arith)
compared r_univ (ByForm.universes l) r_univ = at_univ l
compared (r_pi p q) ByForm.same (r_pi r s) = at_pi (convert_joined p r) (Below.converts (convert_joined q s))
compared (r_pi p q) (ByForm.pi l) (r_pi r s) = at_pi (convert_joined p r) (below_of q l s)
compared (r_lam p q) ByForm.same (r_lam r s) = at_lam (convert_joined p r) (convert_joined q s)
compared (r_app p q) ByForm.same (r_app r s) = at_app (convert_joined p r) (convert_joined q s)
compared (r_sigma p q) ByForm.same (r_sigma r s) = at_sigma (Below.converts (convert_joined p r)) (Below.converts (convert_joined q s))
compared (r_sigma p q) (ByForm.sigma k l) (r_sigma r s) = at_sigma (below_of p k r) (below_of q l s)
compared (r_pair p q x y) ByForm.same (r_pair r s w z) = at_pair (convert_joined p r) (convert_joined q s) (convert_joined x w) (convert_joined y z)
compared (r_fst p) ByForm.same (r_fst r) = at_fst (convert_joined p r)
compared (r_snd p) ByForm.same (r_snd r) = at_snd (convert_joined p r)

pub parts_below : {b : TermBodies} {t u : Term} → PartsBelow b t u → Below b t u
parts_below at_var = Below.converts Converts.same
parts_below at_const = Below.converts Converts.same
parts_below at_prop = Below.converts Converts.same
parts_below at_prop_univ = under-below ByForm.prop
parts_below (at_univ l) = under-below (ByForm.universes l)
parts_below (at_pi p q) = Below.pi p q
parts_below (at_lam p q) = Below.converts (lam_same p q)
parts_below (at_app p q) = Below.converts (app_same p q)
parts_below (at_sigma p q) = Below.sigma p q
parts_below (at_pair p q x y) = Below.converts (pair_same p q x y)
parts_below (at_fst p) = Below.converts (fst_same p)
parts_below (at_snd p) = Below.converts (snd_same p)

pub head_forms_compare : HeadFormsCompare
head_forms_compare b closed t u e f = (λ p. let m = meets b closed p in compared (ran m.left e) m.under (ran m.right f), parts_below)
