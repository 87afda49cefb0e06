-- What has its shape, and is solved at an assignment, is typed there.
use Rattle.std.proofs.Common.{◌≡◌, ℕ, zero, suc, ◌≤◌, max, Option, Some, None, option_map, List, ◌∷◌, map, refl, sym, ap, subst, arith}
use Rattle.lego_term.specs.declared.binder.Binder.{Binder}
use Rattle.lego_term.specs.declared.binder.Mark.{Mark}
use Rattle.lego_term.specs.declared.level.Level.{Level}
use Rattle.lego_term.specs.Levels.{Assignment, level_value, variable_level}
use Rattle.lego_term.specs.Trees.{Core, Term, Var, Const, Prop, Univ, Pi, Lam, App, Sigma, Pair, Fst, Snd, Let, instantiate, at}
use Rattle.lego_term.specs.Below.{Below}
use Rattle.lego_term.specs.Sequences.{HeadForm}
use Rattle.lego_term.specs.Weight.{CountsBy, height}
use Rattle.lego_term.proofs.WeightLemmas.{locals_count_instances}
use Rattle.lego_laws.specs.Parallel.{TermBodies, AreClosed, bodies_at}
use Rattle.lego_laws.specs.Cumulativity.{ByForm}
use Rattle.lego_laws.specs.Derivations.{Derives, d_prop, d_univ, d_var, d_const, d_pi_prop, d_pi, d_lam, d_app, d_sigma, d_pair, d_fst, d_snd, d_let, d_cum, ValidLocals, v_local, ValidConstants}
use Rattle.lego_laws.specs.Entries.{Entry, core_bodies, entries_at}
use Rattle.lego_laws.specs.Judgement.{Has}
use Rattle.lego_laws.specs.Valid.{AreValid}
use Rattle.lego_laws.specs.RuleTypes.{RuleType}
use Rattle.lego_laws.specs.Places.{Want, AType, Stated, Aim, AnyType, BeAType, OfType, OfWrittenType, want_of, Site, RuleTypeAt, Part, Within, Task, Stands, WantsHead, Fulfils, IsFormer, IsFulfilled, HasShape, IsConstraintOfCore}
use Rattle.lego_laws.specs.Principal.{core_types}
use Rattle.lego_laws.specs.Ranges.{sort_term}
use Rattle.lego_laws.specs.Shape.{Meets, IsSolved, HasRuleTypes, ShapedCoresAreTyped}
use Rattle.lego_laws.proofs.lemmas.reduction.Below.{under-below}
use Rattle.lego_laws.proofs.lemmas.reduction.Valued.{head_form_converts}
use Rattle.lego_laws.proofs.lemmas.typing.Inversion.{generation, type_correct}
use Rattle.lego_laws.proofs.lemmas.typing.Renaming.{d-instantiate}
use Rattle.lego_laws.proofs.lemmas.typing.Entries.{types_closed, bodies_closed}
use Rattle.lego_laws.proofs.lemmas.typing.Rules.{derived, judged}
use Rattle.lego_laws.proofs.lemmas.typing.TypingLaws.{constants_valid}
use Rattle.lego_laws.proofs.lemmas.inference.Solving.{runs_keep, head_run, sort_value, sort_sound}
use Rattle.lego_laws.proofs.lemmas.inference.FitsApp.{at-instantiate}
use Rattle.lego_laws.proofs.lemmas.inference.FitsLeaf.{local_at_values}
use Rattle.lego_laws.proofs.lemmas.inference.InferenceLaws.{core_local_at}
use Rattle.lego_laws.proofs.lemmas.principal.EntriesAt.{types_at, bodies_at_values}

-- heights by parts
pub heights : CountsBy (record { leaf = 1; universe = 1; product = 1; node = 1; join = max }) (height {B = Binder} {M = Mark} {L = Level})
heights = locals_count_instances (record { leaf = 1; universe = 1; product = 1; node = 1; join = max })

pub positive : (n : Core) → height n ≤ 0 → ⊥
positive (Var i) le = omega arith
positive (Const k) le = omega arith
positive Prop le = omega arith
positive (Univ l) le = omega arith
positive (Pi x a b) le = omega arith
positive (Lam x a b) le = omega arith
positive (App k m n) le = omega arith
positive (Sigma x a b) le = omega arith
positive (Pair x a b m n) le = omega arith
positive (Fst m) le = omega arith
positive (Snd m) le = omega arith
positive (Let x m n) le = omega arith

-- a head form that a type wants is a sort
pub sort_of : (h : Core) → Fulfils AType h → (s : Option Level) × (h ≡ sort_term s)
sort_of _ Fulfils.a_prop = (None, refl)
sort_of _ (Fulfils.a_universe {l = l}) = (Some l, refl)

constants_moved : {c c' b b' : TermBodies} → c ≡ c' → b ≡ b' → ValidConstants c b → ValidConstants c' b'
constants_moved {c} {c'} {b} {b'} ec eb x = subst (λ z. ValidConstants z b') ec (subst (λ z. ValidConstants c z) eb x)

locals_over : {c c' b b' : TermBodies} {g : List Term} → c ≡ c' → b ≡ b' → ValidLocals c b g → ValidLocals c' b' g
locals_over {c} {c'} {b} {b'} {g} ec eb x = subst (λ z. ValidLocals z b' g) ec (subst (λ z. ValidLocals c z g) eb x)

pub derives_over : {c c' b b' : TermBodies} {g : List Term} {m a : Term} → c ≡ c' → b ≡ b' → Derives c b g m a → Derives c' b' g m a
derives_over {c} {c'} {b} {b'} {g} {m} {a} ec eb d = subst (λ z. Derives z b' g m a) ec (subst (λ z. Derives c z g m a) eb d)

module _ (t : Task) (v : Assignment) (closed : AreClosed (core_bodies t.entries)) (x : AreValid (entries_at v t.entries)) (rules : HasRuleTypes t) (shape : HasShape t) (solved : IsSolved t v) where
  abbrev C : TermBodies
  C = bodies_at v (core_types t.entries)

  abbrev B : TermBodies
  B = bodies_at v (core_bodies t.entries)

  valid : ValidConstants C B
  valid = constants_moved (types_at t.entries v x) (bodies_at_values t.entries v x) (constants_valid (entries_at v t.entries) x)

  tc : AreClosed C
  tc = types_closed valid

  bc : AreClosed B
  bc = bodies_closed valid

  part_stands : {s s' : Site} {n n' : Core} {w w' : Want} {i : ℕ} → Stands t s n w → Part t.entries s n w i s' n' w' → Stands t s' n' w'
  part_stands (Stands.in_core h) p = Stands.in_core (Within.part h p)
  part_stands (Stands.in_written e h) p = Stands.in_written e (Within.part h p)

  fulfilled : {s : Site} {n got : Core} {w : Want} → Stands t s n w → WantsHead w → RuleTypeAt t.entries s n got → IsFulfilled t.entries w got
  fulfilled (Stands.in_core h) k r = shape.core.heads h k r
  fulfilled (Stands.in_written {a = a} e h) k r = (shape.written a e).heads h k r

  -- a term that is to be a type has a sort
  record HasSort (g : List Term) (n : Term) (f : Core) : Type 0 where
    sort : Option Level
    head : HeadForm (core_bodies t.entries) f (sort_term sort)
    derives : Derives C B g n (Univ (sort_value v sort))

  as_sort : (g : List Term) (n : Term) (f : Core) → IsFulfilled t.entries AType f → Derives C B g n (at v f) → HasSort g n f
  as_sort g n f (h, run, is) d =
      let s = sort_of h is in
      let head : HeadForm (core_bodies t.entries) f (sort_term s.0) = subst (HeadForm (core_bodies t.entries) f) s.1 run in
      record { sort = s.0; head = head; derives = sort_sound C (core_bodies t.entries) v g n f s.0 head d }

  raised_to : {g : List Term} {a : Term} {j : ℕ} (k : ℕ) → j ≤ k → Derives C B g a (Univ j) → Derives C B g a (Univ k)
  raised_to k le d = d_cum d d_univ (under-below (ByForm.universes le))

  -- the sort of a part of a former is at most the former's universe
  sort_at_most : {s s' : Site} {n n' f : Core} {l : ℕ} {w : Want} {i : ℕ} → Stands t s n w → IsFormer n → RuleTypeAt t.entries s n (Univ (variable_level l)) → Part t.entries s n w i s' n' AType → RuleTypeAt t.entries s' n' f → (k : Option Level) → HeadForm (core_bodies t.entries) f (sort_term k) → sort_value v k ≤ level_value v (variable_level l)
  sort_at_most st f r p q None h = omega arith
  sort_at_most st f r p q (Some l) h = solved.constraints (IsConstraintOfCore.part st f r p q h)

  -- the type of a function or of a pair, brought to its head form
  at_head : (g : List Core) (n f h : Core) → ValidLocals C B (map (at v) g) → HeadForm (core_bodies t.entries) f h → Derives C B (map (at v) g) (at v n) (at v f) → (j : ℕ) × Derives C B (map (at v) g) (at v h) (Univ j) × Derives C B (map (at v) g) (at v n) (at v h)
  at_head g n f h locals run d =
      let k = type_correct C B tc bc valid d locals in
      let p = runs_keep C B tc bc valid locals (head_run v run) k.1 in
      (k.0, p, d_cum d p (Below.converts (head_form_converts (level_value v) run)))

  -- the stated type of a pair's second part
  sort_put : {g : List Term} {a r m : Term} {j : ℕ} → Derives C B (a ∷ g) r (Univ j) → Derives C B g m a → Derives C B g (instantiate r m) (Univ j)
  unfolding instantiate
  sort_put d e = d-instantiate C B tc bc d e

  second_stated : {g : List Term} {a : Term} (r m : Core) (j : ℕ) → Derives C B (a ∷ g) (at v r) (Univ j) → Derives C B g (at v m) a → Derives C B g (at v (instantiate r m)) (Univ j)
  second_stated r m j d e = rw at-instantiate (sort_put d e)

  pair_typed : {g : List Term} (a b m n tm tn : Core) (i j : ℕ) → Derives C B g (at v a) (Univ i) → Derives C B (at v a ∷ g) (at v b) (Univ j) → Derives C B g (at v m) (at v tm) → Below B (at v tm) (at v a) → Derives C B g (at v n) (at v tn) → Below B (at v tn) (at v (instantiate b m)) → Derives C B g (Pair tt (at v a) (at v b) (at v m) (at v n)) (Sigma tt (at v a) (at v b))
  pair_typed a b m n tm tn i j da db dm lm dn ln =
      let first = d_cum dm da lm in
      let second = d_cum dn (second_stated b m j db first) ln in
      d_pair da db first (rw (← at-instantiate v b m) second)

  typed_at : (k : ℕ) {bs : List Binder} {g : List Core} {i : ℕ} {n a : Core} {w : Want} → Stands t (record { types = g; binders = bs; first = i }) n w → height n ≤ k → ValidLocals C B (map (at v) g) → RuleType t.entries (λ i. i) g i n a → Derives C B (map (at v) g) (at v n) (at v a)
  typed_at zero {n = n} st le locals r = absurd (positive n le)
  typed_at (suc k) st le locals (RuleType.variable {g = g} {i = i} {a = a} p) = d_var (local_at_values v (core_local_at g i a p))
  typed_at (suc k) st le locals (RuleType.constant {k = i} {e = e} p) = d_const (ap (λ o. option_map (at v) (option_map (λ (e : Entry). e.ty) o)) p)
  typed_at (suc k) st le locals RuleType.prop = d_prop
  typed_at (suc k) st le locals (RuleType.universe {n = n} {l = l}) =
      let c = solved.constraints (IsConstraintOfCore.universe st RuleType.universe) in
      d_cum d_univ d_univ (under-below (ByForm.universes (omega arith)))
  typed_at (suc k) st le locals (RuleType.pi_prop {g = g} {x = y} {a = a} {b = b} {t = f} r run) =
      let sa = part_stands st Part.pi_domain in
      let sb = part_stands st Part.pi_body in
      let ra = rules _ _ _ sa in
      let da = as_sort (map (at v) g) (at v a) ra.0 (fulfilled sa WantsHead.a_type ra.1) (typed_at k sa (omega (arith, heights.pi y a b)) locals ra.1) in
      let db = typed_at k sb (omega (arith, heights.pi y a b)) (v_local locals da.derives) r in
      d_pi_prop da.derives (d_cum db d_prop (Below.converts (head_form_converts (level_value v) run)))
  typed_at (suc k) st le locals (RuleType.pi_type {g = g} {n = i} {x = y} {a = a} {b = b} {t = f} r run out) =
      let sa = part_stands st Part.pi_domain in
      let sb = part_stands st Part.pi_body in
      let ra = rules _ _ _ sa in
      let da = as_sort (map (at v) g) (at v a) ra.0 (fulfilled sa WantsHead.a_type ra.1) (typed_at k sa (omega (arith, heights.pi y a b)) locals ra.1) in
      let db = as_sort (at v a ∷ map (at v) g) (at v b) f (fulfilled sb WantsHead.a_type r) (typed_at k sb (omega (arith, heights.pi y a b)) (v_local locals da.derives) r) in
      d_pi (raised_to (level_value v (variable_level i)) (sort_at_most st IsFormer.a_product (RuleType.pi_type r run out) Part.pi_domain ra.1 da.sort da.head) da.derives)
      (raised_to (level_value v (variable_level i)) (sort_at_most st IsFormer.a_product (RuleType.pi_type r run out) Part.pi_body r db.sort db.head) db.derives)
  typed_at (suc k) st le locals (RuleType.sigma {g = g} {n = i} {x = y} {a = a} {b = b}) =
      let sa = part_stands st Part.sigma_domain in
      let sb = part_stands st Part.sigma_body in
      let ra = rules _ _ _ sa in
      let rb = rules _ _ _ sb in
      let da = as_sort (map (at v) g) (at v a) ra.0 (fulfilled sa WantsHead.a_type ra.1) (typed_at k sa (omega (arith, heights.sigma y a b)) locals ra.1) in
      let db = as_sort (at v a ∷ map (at v) g) (at v b) rb.0 (fulfilled sb WantsHead.a_type rb.1) (typed_at k sb (omega (arith, heights.sigma y a b)) (v_local locals da.derives) rb.1) in
      d_sigma (raised_to (level_value v (variable_level i)) (sort_at_most st IsFormer.a_sigma RuleType.sigma Part.sigma_domain ra.1 da.sort da.head) da.derives)
      (raised_to (level_value v (variable_level i)) (sort_at_most st IsFormer.a_sigma RuleType.sigma Part.sigma_body rb.1 db.sort db.head) db.derives)
  typed_at (suc k) st le locals (RuleType.lambda {g = g} {x = y} {a = a} {m = m} r) =
      let sa = part_stands st Part.lam_domain in
      let ra = rules _ _ _ sa in
      let da = as_sort (map (at v) g) (at v a) ra.0 (fulfilled sa WantsHead.a_type ra.1) (typed_at k sa (omega (arith, heights.lam y a m)) locals ra.1) in
      d_lam da.derives (typed_at k (part_stands st Part.lam_body) (omega (arith, heights.lam y a m)) (v_local locals da.derives) r)
  typed_at (suc k) st le locals (RuleType.application {g = g} {k = mark} {x = y} {a = a} {b = b} {f = f} {m = m} {t = ty} r run) =
      let sm = part_stands st (Part.argument r run) in
      let rm = rules _ _ _ sm in
      let df = at_head g f ty (Pi y a b) locals run (typed_at k (part_stands st Part.function) (omega (arith, heights.app mark f m)) locals r) in
      let dm = typed_at k sm (omega (arith, heights.app mark f m)) locals rm.1 in
      let low = solved.pairs (record { stands = sm; rule = rm.1 }) in
      rw at-instantiate (d_app df.2 (d_cum dm (generation df.1).1 low))
  typed_at (suc k) st le locals (RuleType.pair {g = g} {x = y} {a = a} {b = b} {m = m} {m' = n}) =
      let sa = part_stands st Part.pair_domain in
      let sb = part_stands st Part.pair_body in
      let sm = part_stands st Part.pair_first in
      let sn = part_stands st Part.pair_second in
      let ra = rules _ _ _ sa in
      let rb = rules _ _ _ sb in
      let rm = rules _ _ _ sm in
      let rn = rules _ _ _ sn in
      let da = as_sort (map (at v) g) (at v a) ra.0 (fulfilled sa WantsHead.a_type ra.1) (typed_at k sa (omega (arith, heights.pair y a b m n)) locals ra.1) in
      let db = as_sort (at v a ∷ map (at v) g) (at v b) rb.0 (fulfilled sb WantsHead.a_type rb.1) (typed_at k sb (omega (arith, heights.pair y a b m n)) (v_local locals da.derives) rb.1) in
      let tm = typed_at k sm (omega (arith, heights.pair y a b m n)) locals rm.1 in
      let tn = typed_at k sn (omega (arith, heights.pair y a b m n)) locals rn.1 in
      pair_typed a b m n rm.0 rn.0 (sort_value v da.sort) (sort_value v db.sort) da.derives db.derives tm (solved.pairs (record { stands = sm; rule = rm.1 })) tn (solved.pairs (record { stands = sn; rule = rn.1 }))
  typed_at (suc k) st le locals (RuleType.first {g = g} {x = y} {a = a} {b = b} {m = m} {t = ty} r run) =
      let d = at_head g m ty (Sigma y a b) locals run (typed_at k (part_stands st Part.fst_operand) (omega (arith, heights.fst m)) locals r) in
      d_fst d.2
  typed_at (suc k) st le locals (RuleType.second {g = g} {x = y} {a = a} {b = b} {m = m} {t = ty} r run) =
      let d = at_head g m ty (Sigma y a b) locals run (typed_at k (part_stands st Part.snd_operand) (omega (arith, heights.snd m)) locals r) in
      rw at-instantiate (d_snd d.2)
  typed_at (suc k) st le locals (RuleType.local {x = y} {m = m} {b = b} r) =
      let sm = part_stands st Part.local_value in
      let rm = rules _ _ _ sm in
      let dm = typed_at k sm (omega (arith, heights.local y m b)) locals rm.1 in
      let db = typed_at k (part_stands st Part.local_body) (omega (arith, heights.local y m b)) locals r in
      d_let dm (rw (← at-instantiate v b m) db)

  -- the term at the root of the core, or of a written type
  at_root : (s : Site) (n : Core) (w : Want) (st : Stands t s n w) → ValidLocals C B (map (at v) s.types) → Derives C B (map (at v) s.types) (at v n) (at v (rules s n w st).0)
  at_root s n w st locals = typed_at (height n) st (omega arith) locals (rules s n w st).1

  record Wanted (g : List Term) (n : Term) (w : Want) : Type 0 where
    type : Term
    meets : Meets v w type
    derives : Derives C B g n type

  stated_typed : (a : Core) → t.aim ≡ OfWrittenType a → ValidLocals C B (map (at v) t.site.types) → (j : ℕ) × Derives C B (map (at v) t.site.types) (at v a) (Univ j)
  stated_typed a e locals =
      let st = Stands.in_written e Within.itself in
      let s = as_sort (map (at v) t.site.types) (at v a) (rules _ _ _ st).0 (fulfilled st WantsHead.a_type (rules _ _ _ st).1) (at_root _ a AType st locals) in
      (sort_value v s.sort, s.derives)

  -- the core's typing, by what is wanted of it
  wanted : (aim : Aim) → t.aim ≡ aim → ValidLocals C B (map (at v) t.site.types) → ((a : Core) → t.aim ≡ OfType a → (j : ℕ) × Derives C B (map (at v) t.site.types) (at v a) (Univ j)) → Wanted (map (at v) t.site.types) (at v t.core) (want_of aim)
  wanted AnyType e locals typed = let d = at_root t.site t.core (want_of t.aim) (Stands.in_core Within.itself) locals in record { type = _; meets = tt; derives = d }
  wanted BeAType e locals typed =
      let st : Stands t t.site t.core AType = subst (λ z. Stands t t.site t.core (want_of z)) e (Stands.in_core Within.itself) in
      let s = as_sort (map (at v) t.site.types) (at v t.core) (rules _ _ _ st).0 (fulfilled st WantsHead.a_type (rules _ _ _ st).1) (at_root t.site t.core AType st locals) in
      record { type = Univ (sort_value v s.sort); meets = (sort_value v s.sort, refl); derives = s.derives }
  wanted (OfType a) e locals typed =
      let st : Stands t t.site t.core (Stated a) = subst (λ z. Stands t t.site t.core (want_of z)) e (Stands.in_core Within.itself) in
      let d = at_root t.site t.core (Stated a) st locals in
      record { type = at v a; meets = refl; derives = d_cum d (typed a e).1 (solved.pairs (record { stands = st; rule = (rules _ _ _ st).1 })) }
  wanted (OfWrittenType a) e locals typed =
      let st : Stands t t.site t.core (Stated a) = subst (λ z. Stands t t.site t.core (want_of z)) e (Stands.in_core Within.itself) in
      let d = at_root t.site t.core (Stated a) st locals in
      record { type = at v a; meets = refl; derives = d_cum d (stated_typed a e locals).1 (solved.pairs (record { stands = st; rule = (rules _ _ _ st).1 })) }

pub shaped_cores_are_typed : ShapedCoresAreTyped
shaped_cores_are_typed t v closed x locals typed rules shape solved =
    let ec = types_at t.entries v x in
    let eb = bodies_at_values t.entries v x in
    let known = derived (Has.ax locals) in
    let w = wanted t v closed x rules shape solved t.aim refl (locals_over ec eb known.1.locals) (λ a e. let h = typed a e in (h.0, derives_over ec eb (derived h.1).0)) in
    record { valid = x; type = w.type; wanted = w.meets; has = judged (derives_over (sym ec) (sym eb) w.derives) locals }
