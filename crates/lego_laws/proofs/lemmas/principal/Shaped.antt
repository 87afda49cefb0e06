-- A typed core has its shape.
use Rattle.std.proofs.Common.{◌≡◌, ℕ, ◌≤◌, IsTrue, Some, List, [], ◌∷◌, ◌++◌, map, inl, inr, refl, sym, ap, ◌∙◌, subst, arith}
use Rattle.lego_term.specs.Levels.{Assignment, level_value}
use Rattle.lego_term.specs.Trees.{Core, Term, Univ, Pi, Sigma, instantiate, at, at_zero, levels_of, uses_level}
use Rattle.lego_term.specs.Steps.{Converts}
use Rattle.lego_term.specs.Below.{Below}
use Rattle.lego_term.specs.Sequences.{HeadForm}
use Rattle.lego_laws.specs.Parallel.{TermBodies, CoreBodies, AreClosed, bodies_at, bodies_valued}
use Rattle.lego_laws.specs.Derivations.{Derives, d_cum, d_univ, Generated}
use Rattle.lego_laws.specs.Entries.{Entry, entry_of, core_bodies, entries_at, IsHeld}
use Rattle.lego_laws.specs.Judgement.{Has}
use Rattle.lego_laws.specs.Places.{Want, Nothing, AType, AFunction, APair, Stated, stated_in, OfWrittenType, want_of, IsNew, Site, RuleTypeAt, Part, Within, Task, Stands, WantsHead, Fulfils, BelowAtZero}
use Rattle.lego_laws.specs.Principal.{core_types}
use Rattle.lego_laws.specs.Shape.{Meets, IsTyped, RuleTypesAreBelow, TypedCoresHaveWantedHeads, TypedCoresHaveWantedPairs}
use Rattle.lego_laws.proofs.lemmas.typing.Rules.{derived}
use Rattle.lego_laws.proofs.lemmas.typing.TypingLaws.{type_correctness_law}
use Rattle.lego_laws.proofs.lemmas.reduction.Below.{pi_inverts}
use Rattle.lego_laws.proofs.lemmas.reduction.Valued.{closed_valued}
use Rattle.lego_laws.proofs.lemmas.typing.Inversion.{generation}
use Rattle.lego_laws.proofs.lemmas.principal.AtZero.{zeroed, zero_twice, below_zeroed}
use Rattle.lego_laws.proofs.lemmas.principal.HeldVariables.{or_left, or_right}
use Rattle.lego_laws.proofs.lemmas.inference.Solving.{below_with}
use Rattle.lego_laws.proofs.lemmas.inference.FitsApp.{at-instantiate}
use Rattle.lego_laws.proofs.lemmas.principal.EntriesAt.{types_at, bodies_at_values}
use Rattle.lego_laws.proofs.lemmas.principal.Excluding.{is_sort, is_product, is_sigma}
use Rattle.lego_laws.proofs.lemmas.principal.RuleTypesRenamed.{entry_held, entry_body, body_held}
use Rattle.lego_laws.proofs.lemmas.principal.RulePrincipal.{Clean, clean_left, clean_right, clean_instantiate, IsBelow, at_head, against_head, rule_below}

-- new variables occur in no body, and not in the term
new_in_bodies : (n : ℕ) (es : List Entry) (g ms : List Core) → ((u : ℕ) → n ≤ u → IsHeld u es g ms → ⊥) → (k : ℕ) (t : Core) → core_bodies es k ≡ Some t → Clean n t
new_in_bodies n es g ms f k t q i le u =
    let y = entry_body (λ u. u) (entry_of es k) t q in
    f i le (or_left _ _ (or_left _ _ (entry_held es k y.0 y.1 i (or_left _ _ (or_right _ _ (body_held i y.0.body t y.2 u))))))

new_in_term : (n : ℕ) (es : List Entry) (g : List Core) (m : Core) (ms : List Core) → ((u : ℕ) → n ≤ u → IsHeld u es g (m ∷ ms) → ⊥) → Clean n m
new_in_term n es g m ms f i le u = f i le (or_right _ _ (or_left _ _ u))

derives_moved : {c c' b b' : TermBodies} {g : List Term} {m a : Term} → c ≡ c' → b ≡ b' → Derives c b g m a → Derives c' b' g m a
derives_moved {c} {c'} {b} {b'} {g} {m} {a} ec eb d = subst (λ z. Derives z b' g m a) ec (subst (λ z. Derives c z g m a) eb d)

pub rule_types_are_below : RuleTypesAreBelow
rule_types_are_below es closed n g m a f r v x q d =
    let s = rule_below es closed n (new_in_bodies n es g (m ∷ []) f) r (omega arith) (new_in_term n es g m [] f) v q (derives_moved (types_at es v x) (bodies_at_values es v x) (derived d).0) in
    (s.v', s.same, below_with (sym (bodies_at_values es v x)) refl refl s.below)

-- what a place wants, with levels put to 0 where it states a type
abbrev MeetsAtZero : CoreBodies → Want → Term → Type 0
MeetsAtZero b Nothing q = Unit {0}
MeetsAtZero b AType q = (j : ℕ) × (q ≡ Univ j)
MeetsAtZero b AFunction q = (a r : Term) × (q ≡ Pi tt a r)
MeetsAtZero b APair q = (a r : Term) × (q ≡ Sigma tt a r)
MeetsAtZero b (Stated a) q = Below (bodies_valued (λ l. 0) b) (zeroed q) (at_zero a)

stated_at_zero : (b : CoreBodies) (v : Assignment) (a : Core) (q : Term) → q ≡ at v a → Below (bodies_valued (λ l. 0) b) (zeroed q) (at_zero a)
stated_at_zero b v a q e = below_with refl (sym (ap zeroed e ∙ zero_twice v a)) refl (Below.converts Converts.same)

meets_at_zero : (b : CoreBodies) (v : Assignment) (w : Want) (q : Term) → Meets v w q → MeetsAtZero b w q
meets_at_zero b v Nothing q h = tt
meets_at_zero b v AType q h = h
meets_at_zero b v AFunction q h = h
meets_at_zero b v APair q h = h
meets_at_zero b v (Stated a) q h = stated_at_zero b v a q h

module _ (t : Task) (v : Assignment) (closed : AreClosed (core_bodies t.entries)) (fresh : IsNew t) (typed : IsTyped t v) where
  clean_bodies : (k : ℕ) (m : Core) → core_bodies t.entries k ≡ Some m → Clean t.site.first m
  clean_bodies = new_in_bodies t.site.first t.entries t.site.types (t.core ∷ stated_in (want_of t.aim)) fresh

  -- a term at its place: it has a type below one as wanted, and holds no new variable
  record Placed (s : Site) (n : Core) (want : Want) : Type 0 where
    own : Term
    derives : Derives (bodies_at v (core_types t.entries)) (bodies_at v (core_bodies t.entries)) (map (at v) s.types) (at v n) own
    q : Term
    low : Below (bodies_at v (core_bodies t.entries)) own q
    meets : MeetsAtZero (core_bodies t.entries) want q
    clean : Clean t.site.first n
    behind : t.site.first ≤ s.first

  placed_at : {s : Site} {n : Core} {want : Want} (q : Term) → Derives (bodies_at v (core_types t.entries)) (bodies_at v (core_bodies t.entries)) (map (at v) s.types) (at v n) q → MeetsAtZero (core_bodies t.entries) want q → Clean t.site.first n → t.site.first ≤ s.first → Placed s n want
  placed_at q d m c b = record { own = q; derives = d; q = q; low = Below.converts Converts.same; meets = m; clean = c; behind = b }

  rule_of : {s : Site} {n a : Core} {want : Want} → (p : Placed s n want) → RuleTypeAt t.entries s n a → IsBelow t.entries closed t.site.first clean_bodies v a p.q
  rule_of p r =
      let s = rule_below t.entries closed t.site.first clean_bodies r p.behind p.clean v p.own p.derives in
      record { v' = s.v'; same = s.same; below = Below.chain s.below p.low }

  sort_of_body : (g : List Core) (a r : Core) (q : Term) → Generated (bodies_at v (core_types t.entries)) (bodies_at v (core_bodies t.entries)) (map (at v) g) (Pi tt (at v a) (at v r)) q → (i : ℕ) × Derives (bodies_at v (core_types t.entries)) (bodies_at v (core_bodies t.entries)) (at v a ∷ map (at v) g) (at v r) (Univ i)
  sort_of_body g a r q (j, d, inl (e, p)) = (0, d_cum e d_univ Below.prop)
  sort_of_body g a r q (j, d, inr (e, p)) = (j, e)

  inside : {s s' : Site} {n n' : Core} {want want' : Want} {i : ℕ} → Placed s n want → Part t.entries s n want i s' n' want' → Placed s' n' want'
  inside h (Part.pi_domain {a = a} {b = r}) =
      let z = generation h.derives in
      let w = h.behind in
      placed_at (Univ z.0) z.1 (z.0, refl) (clean_left t.site.first (levels_of a) (levels_of r) h.clean) (omega arith)
  inside h (Part.pi_body {s = s} {a = a} {b = r}) =
      let z = sort_of_body s.types a r h.own (generation h.derives) in
      let w = h.behind in
      placed_at (Univ z.0) z.1 (z.0, refl) (clean_right t.site.first (levels_of a) (levels_of r) h.clean) (omega arith)
  inside h (Part.lam_domain {a = a} {m = r}) =
      let z = generation h.derives in
      placed_at (Univ z.0) z.2 (z.0, refl) (clean_left t.site.first (levels_of a) (levels_of r) h.clean) h.behind
  inside h (Part.lam_body {a = a} {m = r}) =
      let z = generation h.derives in
      let w = h.behind in
      placed_at z.1 z.3 tt (clean_right t.site.first (levels_of a) (levels_of r) h.clean) (omega arith)
  inside h (Part.function {m = m} {n = n}) =
      let z = generation h.derives in
      placed_at (Pi tt z.0 z.1) z.2 (z.0, z.1, refl) (clean_left t.site.first (levels_of m) (levels_of n) h.clean) h.behind
  inside h (Part.argument {s = s} {x = x} {m = m} {n = n} {a = a} {b = r} {t = ty} rule run) =
      let z = generation h.derives in
      let w = h.behind in
      let cm = clean_left t.site.first (levels_of m) (levels_of n) h.clean in
      let k = rule_below t.entries closed t.site.first clean_bodies rule h.behind cm v (Pi tt z.0 z.1) z.2 in
      let low = at_head t.entries closed t.site.first clean_bodies k (Pi x a r) run in
      let inv = pi_inverts (bodies_at v (core_bodies t.entries)) (closed_valued (level_value v) (core_bodies t.entries) closed) (at k.v' a) (at k.v' r) z.0 z.1 low in
      let zero = below_zeroed v (core_bodies t.entries) (Below.converts (Converts.back inv.0)) in
      placed_at z.0 z.3 (below_with refl refl (zero_twice k.v' a) zero) (clean_right t.site.first (levels_of m) (levels_of n) h.clean) (omega arith)
  inside h (Part.sigma_domain {a = a} {b = r}) =
      let z = generation h.derives in
      let w = h.behind in
      placed_at (Univ z.0) z.1 (z.0, refl) (clean_left t.site.first (levels_of a) (levels_of r) h.clean) (omega arith)
  inside h (Part.sigma_body {a = a} {b = r}) =
      let z = generation h.derives in
      let w = h.behind in
      placed_at (Univ z.0) z.2 (z.0, refl) (clean_right t.site.first (levels_of a) (levels_of r) h.clean) (omega arith)
  inside h (Part.pair_domain {a = a} {b = r} {m = m} {n = n}) =
      let z = generation h.derives in
      let three = clean_left t.site.first (levels_of a ++ levels_of r ++ levels_of m) (levels_of n) h.clean in
      let both = clean_left t.site.first (levels_of a ++ levels_of r) (levels_of m) three in
      placed_at (Univ z.0) z.2 (z.0, refl) (clean_left t.site.first (levels_of a) (levels_of r) both) h.behind
  inside h (Part.pair_body {a = a} {b = r} {m = m} {n = n}) =
      let z = generation h.derives in
      let w = h.behind in
      let three = clean_left t.site.first (levels_of a ++ levels_of r ++ levels_of m) (levels_of n) h.clean in
      let both = clean_left t.site.first (levels_of a ++ levels_of r) (levels_of m) three in
      placed_at (Univ z.1) z.3 (z.1, refl) (clean_right t.site.first (levels_of a) (levels_of r) both) (omega arith)
  inside h (Part.pair_first {a = a} {b = r} {m = m} {n = n}) =
      let z = generation h.derives in
      let w = h.behind in
      let three = clean_left t.site.first (levels_of a ++ levels_of r ++ levels_of m) (levels_of n) h.clean in
      placed_at (at v a) z.4 (stated_at_zero (core_bodies t.entries) v a (at v a) refl) (clean_right t.site.first (levels_of a ++ levels_of r) (levels_of m) three) (omega arith)
  inside h (Part.pair_second {a = a} {b = r} {m = m} {n = n}) =
      let z = generation h.derives in
      let w = h.behind in
      placed_at (instantiate (at v r) (at v m)) z.5 (stated_at_zero (core_bodies t.entries) v (instantiate r m) (instantiate (at v r) (at v m)) (sym (at-instantiate v r m))) (clean_right t.site.first (levels_of a ++ levels_of r ++ levels_of m) (levels_of n) h.clean) (omega arith)
  inside h Part.fst_operand = let z = generation h.derives in placed_at (Sigma tt z.0 z.1) z.2 (z.0, z.1, refl) h.clean h.behind
  inside h Part.snd_operand = let z = generation h.derives in placed_at (Sigma tt z.0 z.1) z.2 (z.0, z.1, refl) h.clean h.behind
  inside h (Part.local_value {m = m} {n = n}) =
      let z = generation h.derives in
      placed_at z.0 z.2 tt (clean_left t.site.first (levels_of m) (levels_of n) h.clean) h.behind
  inside h (Part.local_body {m = m} {n = n}) =
      let z = generation h.derives in
      let w = h.behind in
      record {
        own = z.1;
        derives = rw at-instantiate z.3;
        q = h.q;
        low = Below.chain z.4 h.low;
        meets = h.meets;
        clean = clean_instantiate t.site.first n m (clean_right t.site.first (levels_of m) (levels_of n) h.clean) (clean_left t.site.first (levels_of m) (levels_of n) h.clean);
        behind = omega arith;
      }

  as_derived : (g : List Core) (m : Core) (q : Term) → Has (entries_at v t.entries) (map (at v) g) (at v m) q → Derives (bodies_at v (core_types t.entries)) (bodies_at v (core_bodies t.entries)) (map (at v) g) (at v m) q
  as_derived g m q d = derives_moved (types_at t.entries v typed.valid) (bodies_at_values t.entries v typed.valid) (derived d).0

  written_type : (a : Core) → t.aim ≡ OfWrittenType a → (j : ℕ) × Has (entries_at v t.entries) (map (at v) t.site.types) (at v a) (Univ j)
  written_type a e =
      let is : typed.type ≡ at v a = subst (λ z. Meets v (want_of z) typed.type) e typed.wanted in
      type_correctness_law (entries_at v t.entries) typed.valid (map (at v) t.site.types) (at v t.core) (at v a) (subst (λ z. Has (entries_at v t.entries) (map (at v) t.site.types) (at v t.core) z) is typed.has)

  stated_held : (a : Core) → t.aim ≡ OfWrittenType a → (i : ℕ) → IsTrue (uses_level i a) → IsHeld i t.entries t.site.types (t.core ∷ stated_in (want_of t.aim))
  stated_held a e i u =
      subst (λ z. IsHeld i t.entries t.site.types (t.core ∷ stated_in (want_of z))) (sym e) (or_right _ _ (or_right _ _ (or_left _ _ u)))

  within : {s₀ : Site} {n₀ : Core} {w₀ : Want} {s : Site} {n : Core} {w : Want} → Placed s₀ n₀ w₀ → Within t.entries s₀ n₀ w₀ s n w → Placed s n w
  within p Within.itself = p
  within p (Within.part h k) = inside (within p h) k

  placed : {s : Site} {n : Core} {want : Want} → Stands t s n want → Placed s n want
  placed (Stands.in_core h) =
      within (placed_at typed.type (as_derived t.site.types t.core typed.type typed.has) (meets_at_zero (core_bodies t.entries) v (want_of t.aim) typed.type typed.wanted) (new_in_term t.site.first t.entries t.site.types t.core (stated_in (want_of t.aim)) fresh) (omega arith)) h
  placed (Stands.in_written {a = a} e h) =
      let k = written_type a e in
      within (placed_at (Univ k.0) (as_derived t.site.types a (Univ k.0) k.1) (k.0, refl) (λ i le u. fresh i le (stated_held a e i u)) (omega arith)) h

  -- the head form of the rule type against the type that the term has
  module _ (s : Site) (n got h : Core) (r : RuleTypeAt t.entries s n got) (run : HeadForm (core_bodies t.entries) got h) where
    as_type : Placed s n AType → Fulfils AType h
    as_type p =
        let s = rule_of p r in
        is_sort s.v' (bodies_at v (core_bodies t.entries)) h p.meets.0 (against_head t.entries closed t.site.first clean_bodies (record { v' = s.v'; same = s.same; below = below_with refl refl p.meets.1 s.below }) h run refl)

    as_function : Placed s n AFunction → Fulfils AFunction h
    as_function p =
        let s = rule_of p r in
        is_product s.v' (bodies_at v (core_bodies t.entries)) h p.meets.0 p.meets.1 (against_head t.entries closed t.site.first clean_bodies (record { v' = s.v'; same = s.same; below = below_with refl refl p.meets.2 s.below }) h run refl)

    as_pair : Placed s n APair → Fulfils APair h
    as_pair p =
        let s = rule_of p r in
        is_sigma s.v' (bodies_at v (core_bodies t.entries)) h p.meets.0 p.meets.1 (against_head t.entries closed t.site.first clean_bodies (record { v' = s.v'; same = s.same; below = below_with refl refl p.meets.2 s.below }) h run refl)

    fulfils : {want : Want} → WantsHead want → Placed s n want → Fulfils want h
    fulfils WantsHead.a_type p = as_type p
    fulfils WantsHead.a_function p = as_function p
    fulfils WantsHead.a_pair p = as_pair p

  below_stated : (s : Site) (n have stated : Core) → RuleTypeAt t.entries s n have → Placed s n (Stated stated) → BelowAtZero t.entries have stated
  below_stated s n have stated r p =
      let k = rule_of p r in
      Below.chain (below_with refl (zero_twice k.v' have) refl (below_zeroed v (core_bodies t.entries) k.below)) p.meets

pub typed_cores_have_wanted_heads : TypedCoresHaveWantedHeads
typed_cores_have_wanted_heads t v closed fresh typed s n w got h head run =
    fulfils t v closed fresh typed s n got h head.rule run head.kind (placed t v closed fresh typed head.stands)

pub typed_cores_have_wanted_pairs : TypedCoresHaveWantedPairs
typed_cores_have_wanted_pairs t v closed fresh typed s n have stated pair =
    below_stated t v closed fresh typed s n have stated pair.rule (placed t v closed fresh typed pair.stands)
