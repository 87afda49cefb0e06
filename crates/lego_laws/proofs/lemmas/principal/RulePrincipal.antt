-- Each type of a term is above its rule type, for some values of the fresh variables.
use Rattle.std.proofs.Common.{◌≡◌, ℕ, zero, suc, ◌+◌, ◌≤◌, ◌<◌, ⊎_elim, Option, Some, None, option_map, IsTrue, List, [], ◌∷◌, ◌++◌, map, get_or, inl, inr, refl, sym, ap, ◌∙◌, arith, subst}
use Rattle.std.proofs.lemmas.Bool.{cases_lt}
use mathlib.Core.Path.{fun_ext}
use Rattle.std.specs.List.{list_any}
use Rattle.lego_term.specs.declared.level.Level.{Level}
use Rattle.lego_term.specs.Levels.{Assignment, level_value, variable_level}
use Rattle.lego_term.specs.Trees.{Core, Term, Prop, Univ, Pi, Sigma, Fst, instantiate, at, uses_level, levels_of, is_over}
use Rattle.lego_term.specs.Steps.{Converts}
use Rattle.lego_term.specs.Below.{Below}
use Rattle.lego_term.specs.Sequences.{HeadForm}
use Rattle.lego_laws.specs.Parallel.{TermBodies, AreClosed, bodies_at}
use Rattle.lego_laws.specs.Cumulativity.{ByForm}
use Rattle.lego_laws.specs.HeadForms.{IsHeadForm, PartsBelow}
use Rattle.lego_laws.specs.Derivations.{Derives, Generated}
use Rattle.lego_laws.specs.Entries.{Entry, core_bodies}
use Rattle.lego_laws.specs.RuleTypes.{RuleType}
use Rattle.lego_laws.specs.Principal.{core_types}
use Rattle.lego_laws.proofs.lemmas.reduction.Below.{pi_inverts, sigma_inverts, under-below}
use Rattle.lego_laws.proofs.lemmas.reduction.Head.{head_forms_compare}
use Rattle.lego_laws.proofs.lemmas.reduction.Valued.{closed_valued, head_form_converts, head_form_valued}
use Rattle.lego_laws.proofs.lemmas.typing.Inversion.{generation}
use Rattle.lego_laws.proofs.lemmas.typing.Renaming.{below-substitute}
use Rattle.lego_laws.proofs.lemmas.reduction.Subst.{one, instantiate_is}
use Rattle.lego_laws.proofs.lemmas.principal.HeldVariables.{any_front, any_back, at_same}
use Rattle.lego_laws.proofs.lemmas.inference.LevelsKept.{levels_put}
use Rattle.lego_laws.proofs.lemmas.principal.LevelsListed.{none_listed, listed_none}
use Rattle.lego_laws.proofs.lemmas.inference.FitsLeaf.{local_at_values, one_local}
use Rattle.lego_laws.proofs.lemmas.inference.FitsApp.{at-instantiate}
use Rattle.lego_laws.proofs.lemmas.inference.InferenceLaws.{core_local_at}
use Rattle.lego_laws.proofs.lemmas.inference.Solving.{below_with}

-- the assignment with another value for one variable
abbrev set_level : ℕ → ℕ → Assignment → Assignment
set_level zero j [] = j ∷ []
set_level zero j (x ∷ v) = j ∷ v
set_level (suc u) j [] = 0 ∷ set_level u j []
set_level (suc u) j (x ∷ v) = x ∷ set_level u j v

set_here : (u j : ℕ) (v : Assignment) → get_or (set_level u j v) u 0 ≡ j
set_here zero j [] = refl
set_here zero j (x ∷ v) = refl
set_here (suc u) j [] = set_here u j []
set_here (suc u) j (x ∷ v) = set_here u j v

nothing_set : (k : ℕ) → get_or {A = ℕ} [] k 0 ≡ 0
nothing_set zero = refl
nothing_set (suc k) = refl

set_other : (u j : ℕ) (v : Assignment) (k : ℕ) → (u ≡ k → ⊥) → get_or (set_level u j v) k 0 ≡ get_or v k 0
set_other zero j [] zero out = absurd (out refl)
set_other zero j [] (suc k) out = nothing_set k
set_other zero j (x ∷ v) zero out = absurd (out refl)
set_other zero j (x ∷ v) (suc k) out = refl
set_other (suc u) j [] zero out = refl
set_other (suc u) j [] (suc k) out = set_other u j [] k (λ e. out (ap suc e)) ∙ nothing_set k
set_other (suc u) j (x ∷ v) zero out = refl
set_other (suc u) j (x ∷ v) (suc k) out = set_other u j v k (λ e. out (ap suc e))

below-instantiated : (b : TermBodies) → AreClosed b → {r r' : Term} (n : Term) → Below b r r' → Below b (instantiate r n) (instantiate r' n)
below-instantiated b closed {r} {r'} n p = rw (instantiate_is r n, instantiate_is r' n) (below-substitute b closed (one n) p)

only_prop : (v : Assignment) (b : TermBodies) (h : Core) → PartsBelow b (at v h) Prop → h ≡ Prop
only_prop v b Prop p = refl
only_prop v b _ p = elim p [ ]

some_is : {X : Type 0} {t u : X} → Some t ≡ Some u → t ≡ u
some_is e = cc

-- no level variable from a number on occurs in the term
abbrev pub Clean : ℕ → Core → Type 0
Clean new t = (i : ℕ) → new ≤ i → IsTrue (uses_level i t) → ⊥

module _ (new : ℕ) where
  pub clean_left : (xs ys : List Level) → ((i : ℕ) → new ≤ i → IsTrue (list_any (is_over i) (xs ++ ys)) → ⊥) → (i : ℕ) → new ≤ i → IsTrue (list_any (is_over i) xs) → ⊥
  clean_left xs ys h i le k = h i le (any_front (is_over i) xs ys k)

  pub clean_right : (xs ys : List Level) → ((i : ℕ) → new ≤ i → IsTrue (list_any (is_over i) (xs ++ ys)) → ⊥) → (i : ℕ) → new ≤ i → IsTrue (list_any (is_over i) ys) → ⊥
  clean_right xs ys h i le k = h i le (any_back (is_over i) xs ys k)

  -- nor in one that is put into another
  pub clean_instantiate : (n m : Core) → Clean new n → Clean new m → Clean new (instantiate n m)
  unfolding instantiate
  clean_instantiate n m h k i le =
      listed_none (is_over i) (instantiate n m)
      (levels_put (λ l. IsTrue (is_over i l) → ⊥) 0 m n (none_listed (is_over i) m (k i le)) (none_listed (is_over i) n (h i le)))

module _ (es : List Entry) (closed : AreClosed (core_bodies es)) (new : ℕ) (clean_bodies : (k : ℕ) (t : Core) → core_bodies es k ≡ Some t → Clean new t) where
  -- values for the fresh variables, at which the rule type is below the type
  pub record IsBelow (v : Assignment) (a : Core) (q : Term) : Type 0 where
    pub v' : Assignment
    pub same : (u : ℕ) → u < new → get_or v' u 0 ≡ get_or v u 0
    pub below : Below (bodies_at v (core_bodies es)) (at v' a) q

  pub steady : (v v' : Assignment) → ((u : ℕ) → u < new → get_or v' u 0 ≡ get_or v u 0) → (t : Core) → Clean new t → at v' t ≡ at v t
  steady v v' same t clean = at_same v' v t (λ u k. ⊎_elim (λ (l : u < new). same u l) (λ (l : new ≤ u). absurd (clean u l k)) (cases_lt u new))

  option_steady : (v v' : Assignment) → ((u : ℕ) → u < new → get_or v' u 0 ≡ get_or v u 0) → (o : Option Core) → ((t : Core) → o ≡ Some t → Clean new t) → option_map (at v') o ≡ option_map (at v) o
  option_steady v v' same None h = refl
  option_steady v v' same (Some t) h = ap Some (steady v v' same t (h t refl))

  pub bodies_steady : (v v' : Assignment) → ((u : ℕ) → u < new → get_or v' u 0 ≡ get_or v u 0) → bodies_at v' (core_bodies es) ≡ bodies_at v (core_bodies es)
  bodies_steady v v' same = fun_ext (λ k. option_steady v v' same (core_bodies es k) (clean_bodies k))

  unchanged : {v : Assignment} {a : Core} {q : Term} → Below (bodies_at v (core_bodies es)) (at v a) q → IsBelow v a q
  unchanged {v} p = record { v' = v; same = λ u out. refl; below = p }

  with_level : {v : Assignment} {q : Term} (n j : ℕ) → new ≤ n → Below (bodies_at v (core_bodies es)) (Univ j) q → IsBelow v (Univ (variable_level n)) q
  with_level {v} n j le p =
      let here = set_here n j v in
      let is : j ≡ get_or (set_level n j v) n 0 + 0 = omega arith in
      record { v' = set_level n j v; same = λ u l. set_other n j v u (λ e. absurd (omega arith)); below = below_with refl (ap Univ is) refl p }

  -- the head form of the rule type against the type
  pub at_head : {v : Assignment} {a : Core} {q : Term} → (s : IsBelow v a q) → (h : Core) → HeadForm (core_bodies es) a h → Below (bodies_at v (core_bodies es)) (at s.v' h) q
  at_head {v} s h p = Below.chain (below_with (bodies_steady v s.v' s.same) refl refl (Below.converts (Converts.back (head_form_converts (level_value s.v') p)))) s.below

  head_stands : {v : Assignment} {a : Core} {q : Term} → (s : IsBelow v a q) → (h : Core) → HeadForm (core_bodies es) a h → IsHeadForm (bodies_at v (core_bodies es)) (at s.v' h)
  head_stands {v} s h p = subst (λ z. IsHeadForm z (at s.v' h)) (bodies_steady v s.v' s.same) (head_form_valued (level_value s.v') p)

  pub against_head : {v : Assignment} {a : Core} {q : Term} → (s : IsBelow v a q) → (h : Core) → HeadForm (core_bodies es) a h → IsHeadForm (bodies_at v (core_bodies es)) q → PartsBelow (bodies_at v (core_bodies es)) (at s.v' h) q
  against_head {v} {a} {q} s h p fq =
      (head_forms_compare (bodies_at v (core_bodies es)) (closed_valued (level_value v) (core_bodies es) closed) (at s.v' h) q (head_stands s h p) fq).0 (at_head s h p)

  -- by the form of the term
  pub rule_below : {g : List Core} {n : ℕ} {m a : Core} → RuleType es (λ i. i) g n m a → new ≤ n → Clean new m → (v : Assignment) (q : Term) → Derives (bodies_at v (core_types es)) (bodies_at v (core_bodies es)) (map (at v) g) (at v m) q → IsBelow v a q
  rule_below (RuleType.variable {g = g} {i = i} {a = a} p) low clean v q d =
      let z = generation d in
      unchanged (below_with refl (one_local z.1 (local_at_values v (core_local_at g i a p))) refl z.2)
  rule_below (RuleType.constant {k = k} {e = e} p) low clean v q d =
      let z = generation d in
      unchanged (below_with refl (some_is (sym z.1 ∙ ap (λ o. option_map (at v) (option_map (λ (e : Entry). e.ty) o)) p)) refl z.2)
  rule_below RuleType.prop low clean v q d = unchanged (generation d)
  rule_below (RuleType.universe {n = n} {l = l}) low clean v q d = with_level n (suc (level_value v l)) low (generation d)
  rule_below (RuleType.pi_prop {g = g} {a = a} {b = b} p h) low clean v q d = by_sort (generation d)
    where
      by_sort : Generated (bodies_at v (core_types es)) (bodies_at v (core_bodies es)) (map (at v) g) (Pi tt (at v a) (at v b)) q → IsBelow v Prop q
      by_sort (j, e, inl (f, le)) = unchanged le
      by_sort (j, e, inr (f, le)) = unchanged (Below.chain (under-below ByForm.prop) le)
  rule_below (RuleType.pi_type {g = g} {n = n} {a = a} {b = b} {t = t} {h = h} p run out) low clean v q d =
      by_sort (λ f. rule_below p (omega arith) (clean_right new (levels_of a) (levels_of b) clean) v Prop f) (generation d)
    where
      by_sort : (Derives (bodies_at v (core_types es)) (bodies_at v (core_bodies es)) (at v a ∷ map (at v) g) (at v b) Prop → IsBelow v t Prop) → Generated (bodies_at v (core_types es)) (bodies_at v (core_bodies es)) (map (at v) g) (Pi tt (at v a) (at v b)) q → IsBelow v (Univ (variable_level n)) q
      by_sort body (j, e, inl (f, le)) =
          let s = body f in
          absurd (out (only_prop s.v' (bodies_at v (core_bodies es)) h (against_head s h run refl)))
      by_sort body (j, e, inr (f, le)) = with_level n j low le
  rule_below (RuleType.sigma {n = n}) low clean v q d = let z = generation d in with_level n z.0 low z.3
  rule_below (RuleType.lambda {a = a} {m = m} {t = t} p) low clean v q d =
      let z = generation d in
      let s = rule_below p (omega arith) (clean_right new (levels_of a) (levels_of m) clean) v z.1 z.3 in
      let ea = steady v s.v' s.same a (clean_left new (levels_of a) (levels_of m) clean) in
      record { v' = s.v'; same = s.same; below = Below.chain (below_with refl (ap (λ y. Pi tt y (at s.v' t)) (sym ea)) refl (Below.pi Converts.same s.below)) z.4 }
  rule_below (RuleType.application {x = x} {a = a} {b = b} {f = f} {m = m} p run) low clean v q d =
      let z = generation d in
      let s = rule_below p (omega arith) (clean_left new (levels_of f) (levels_of m) clean) v (Pi tt z.0 z.1) z.2 in
      let bc = closed_valued (level_value v) (core_bodies es) closed in
      let inv = pi_inverts (bodies_at v (core_bodies es)) bc (at s.v' a) (at s.v' b) z.0 z.1 (at_head s (Pi x a b) run) in
      let em = steady v s.v' s.same m (clean_right new (levels_of f) (levels_of m) clean) in
      let is = ap (instantiate (at s.v' b)) (sym em) ∙ sym (at-instantiate s.v' b m) in
      record { v' = s.v'; same = s.same; below = Below.chain (below_with refl is refl (below-instantiated (bodies_at v (core_bodies es)) bc (at v m) inv.1)) z.4 }
  rule_below RuleType.pair low clean v q d = let z = generation d in unchanged z.6
  rule_below (RuleType.local {m = m} {b = b} p) low clean v q d =
      let z = generation d in
      let own = clean_instantiate new b m (clean_right new (levels_of m) (levels_of b) clean) (clean_left new (levels_of m) (levels_of b) clean) in
      let s = rule_below p (omega arith) own v z.1 (rw at-instantiate z.3) in
      record { v' = s.v'; same = s.same; below = Below.chain s.below z.4 }
  rule_below (RuleType.first {x = x} {a = a} {b = b} {m = m} p run) low clean v q d =
      let z = generation d in
      let s = rule_below p low clean v (Sigma tt z.0 z.1) z.2 in
      let bc = closed_valued (level_value v) (core_bodies es) closed in
      let inv = sigma_inverts (bodies_at v (core_bodies es)) bc (at s.v' a) (at s.v' b) z.0 z.1 (at_head s (Sigma x a b) run) in
      record { v' = s.v'; same = s.same; below = Below.chain inv.0 z.3 }
  rule_below (RuleType.second {x = x} {a = a} {b = b} {m = m} p run) low clean v q d =
      let z = generation d in
      let s = rule_below p low clean v (Sigma tt z.0 z.1) z.2 in
      let bc = closed_valued (level_value v) (core_bodies es) closed in
      let inv = sigma_inverts (bodies_at v (core_bodies es)) bc (at s.v' a) (at s.v' b) z.0 z.1 (at_head s (Sigma x a b) run) in
      let em = steady v s.v' s.same m clean in
      let is = ap (λ y. instantiate (at s.v' b) (Fst y)) (sym em) ∙ sym (at-instantiate s.v' b (Fst m)) in
      record { v' = s.v'; same = s.same; below = Below.chain (below_with refl is refl (below-instantiated (bodies_at v (core_bodies es)) bc (Fst (at v m)) inv.1)) z.3 }
