-- The laws of derivations, for the thirteen rules.
use Rattle.std.proofs.Common.{ℕ, Option, Some, None, List, [], ◌∷◌, inl, inr, sym, subst, IfSome}
use Rattle.lego_term.specs.Trees.{Term, Var, Const, Prop, Univ, Pi, Lam, App, Sigma, Pair, Fst, Snd, lift, instantiate, Let}
use Rattle.lego_term.specs.Below.{Below}
use Rattle.lego_laws.specs.Parallel.{ParallelStep, AreClosed}
use Rattle.lego_laws.specs.Entries.{Constant, constant_of, bodies_of}
use Rattle.lego_laws.specs.Judgement.{Valid, Has, IsType}
use Rattle.lego_laws.specs.Valid.{AreValid, BodiesFit}
use Rattle.lego_laws.specs.Derivations.{types_of, Derives, Generated, ValidLocals, v_local, ValidConstants}
use Rattle.lego_laws.specs.Typing.{RulesAreDerivations, JudgementsStandInValidLists, Thinning, ThinningByConstants, Substitution, Narrowing, TypeCorrectness, SubjectReduction, Generates, Generation}
use Rattle.lego_laws.proofs.lemmas.typing.Rules.{known, derived, judged, list_valid, valid_locals, place_of, type_from}
use Rattle.lego_laws.proofs.lemmas.typing.Entries.{HasItsType, ValidBodies, valid_constants, types_closed, bodies_closed, more_derives, more_locals, types_kept, bodies_kept}
use Rattle.lego_laws.proofs.lemmas.typing.Renaming.{d-thin, d-instantiate, d-narrow}
use Rattle.lego_laws.proofs.lemmas.typing.Inversion.{generation, type_correct}
use Rattle.lego_laws.proofs.lemmas.typing.TypedSteps.{subject_reduction}

has_its_type : (e : List Constant) (o : Option Term) (a : Term) → IfSome o (λ m. Has e [] m a) → HasItsType e o a
has_its_type e None a h = tt
has_its_type e (Some m) a h = (derived h).0

pub bodies_typed : (e : List Constant) → BodiesFit e → ValidBodies e
bodies_typed [] h = tt
bodies_typed (x ∷ e) h = (has_its_type e x.body x.ty h.0, bodies_typed e h.1)

pub constants_valid : (e : List Constant) → AreValid e → ValidConstants (types_of e) (bodies_of e)
constants_valid e v = valid_constants e (known v.valid).types (bodies_typed e v.bodies)

pub rules_are_derivations : RulesAreDerivations
rules_are_derivations e g m a = (λ d. let h = derived d in (list_valid h.1, h.0), λ p. judged p.1 p.0)

pub judgements_stand_in_valid_lists : JudgementsStandInValidLists
judgements_stand_in_valid_lists e g m a d = list_valid (derived d).1

module _ (e : List Constant) (x : AreValid e) where
  private_constants : ValidConstants (types_of e) (bodies_of e)
  private_constants = constants_valid e x

  types_are_closed : AreClosed (types_of e)
  types_are_closed = types_closed private_constants

  bodies_are_closed : AreClosed (bodies_of e)
  bodies_are_closed = bodies_closed private_constants

  pub thinning : (g : List Term) (t m a : Term) → Has e g m a → IsType e g t → Has e (t ∷ g) (lift 0 1 m) (lift 0 1 a)
  thinning g t m a d s =
      judged (d-thin (types_of e) (bodies_of e) types_are_closed bodies_are_closed (derived d).0 t) (Valid.grow_variable s.1)

  pub substitution : (g : List Term) (t m n a : Term) → Has e (t ∷ g) m a → Has e g n t → Has e g (instantiate m n) (instantiate a n)
  substitution g t m n a d p =
      let h = derived p in
      judged (d-instantiate (types_of e) (bodies_of e) types_are_closed bodies_are_closed (derived d).0 h.0) (list_valid h.1)

  pub type_correctness : (g : List Term) (m a : Term) → Has e g m a → IsType e g a
  type_correctness g m a d =
      let h = derived d in
      let t = type_correct (types_of e) (bodies_of e) types_are_closed bodies_are_closed private_constants h.0 h.1.locals in
      (t.0, judged t.1 (list_valid h.1))

  pub subject_reduces : (g : List Term) (m m' a : Term) → Has e g m a → ParallelStep (bodies_of e) m m' → Has e g m' a
  subject_reduces g m m' a d p =
      let h = derived d in
      judged (subject_reduction (types_of e) (bodies_of e) types_are_closed bodies_are_closed private_constants h.0 p h.1.locals) (list_valid h.1)

  outer_type : {g : List Term} {t : Term} → ValidLocals (types_of e) (bodies_of e) (t ∷ g) → (j : ℕ) × Derives (types_of e) (bodies_of e) g t (Univ j)
  outer_type (v_local {j = j} v d) = (j, d)

  pub narrowing : (g : List Term) (t t' m a : Term) → Has e (t ∷ g) m a → IsType e g t' → Below (bodies_of e) t' t → Has e (t' ∷ g) m a
  narrowing g t t' m a d s l =
      let h = derived d in
      judged (d-narrow (types_of e) (bodies_of e) types_are_closed bodies_are_closed h.0 (outer_type h.1.locals).1 l) (Valid.grow_variable s.1)

pub thinning_law : Thinning
thinning_law = thinning

pub substitution_law : Substitution
substitution_law = substitution

pub type_correctness_law : TypeCorrectness
type_correctness_law = type_correctness

pub subject_reduction_law : SubjectReduction
subject_reduction_law = subject_reduces

pub narrowing_law : Narrowing
narrowing_law = narrowing

pub thinning_by_constants : ThinningByConstants
thinning_by_constants es e g m a d v =
    let h = derived d in
    let k = known v in
    let x = types_kept e es k.types.0 in
    let y = bodies_kept e es k.types.0 in
    judged (more_derives x y h.0) (valid_locals v (more_locals x y h.1.locals))

generates : (e : List Constant) (g : List Term) → Valid e g → (m t : Term) → Generated (types_of e) (bodies_of e) g m t → Generates e g m t
generates e g v (Var i) t (a, l, p) = let h = place_of l in (h.0, h.1, subst (λ z. Below (bodies_of e) z t) h.2 p)
generates e g v (Const k) t (a, f, p) = let y = type_from (constant_of e k) a f in (y.0, y.1, subst (λ z. Below (bodies_of e) z t) (sym y.2) p)
generates e g v Prop t p = p
generates e g v (Univ l) t p = p
generates e g v (Pi x a r) t (j, d, inl (f, p)) = let s = judged d v in ((j, s), inl (judged f (Valid.grow_variable s), p))
generates e g v (Pi x a r) t (j, d, inr (f, p)) = let s = judged d v in ((j, s), inr (j, s, judged f (Valid.grow_variable s), p))
generates e g v (Lam x a m) t (j, r, d, f, p) = (r, judged f (Valid.grow_variable (judged d v)), p)
generates e g v (App k m n) t (a, r, d, f, p) = (a, r, judged d v, judged f v, p)
generates e g v (Sigma x a r) t (j, d, f, p) = let s = judged d v in (j, s, judged f (Valid.grow_variable s), p)
generates e g v (Let x m n) t (a, q, d, f, p) = (a, q, judged d v, judged f v, p)
generates e g v (Pair x a r m n) t (i, j, d, f, y, z, p) = ((j, judged f (Valid.grow_variable (judged d v))), judged y v, judged z v, p)
generates e g v (Fst m) t (a, r, d, p) = (a, r, judged d v, p)
generates e g v (Snd m) t (a, r, d, p) = (a, r, judged d v, p)

pub generation_law : Generation
generation_law e g m a d = let h = derived d in generates e g (list_valid h.1) m a (generation h.0)
