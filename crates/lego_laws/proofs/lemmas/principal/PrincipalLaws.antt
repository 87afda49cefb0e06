-- Constraints that fit in a range are sound and principal over the entries.
use Rattle.std.proofs.Common.{◌≡◌, ℕ, ◌≤◌, ◌<◌, max, ◌||◌, IsTrue, List, [], ◌∷◌, map, reverse, get_or, Bool, true, false, ◌⊎◌, inl, inr, ⊎_elim, refl, sym, ap, ap₂, ◌∙◌, arith, subst}
use Rattle.std.proofs.lemmas.Bool.{cases_lt}
use Rattle.std.specs.List.{list_any}
use Rattle.lego_term.specs.Levels.{Assignment, LevelPair, SatisfiesAll}
use Rattle.lego_term.specs.Trees.{Core, Term, at, uses_level}
use Rattle.lego_term.specs.Below.{Below}
use Rattle.lego_laws.specs.Parallel.{TermBodies, bodies_at}
use Rattle.lego_laws.specs.Entries.{Entry, core_bodies, entry_at, entries_at, bodies_of, kept, entry_uses, IsHeld}
use Rattle.lego_laws.specs.Judgement.{Has}
use Rattle.lego_laws.specs.Valid.{AlwaysValid}
use Rattle.lego_laws.specs.Derivations.{types_of, Derives, ValidLocals}
use Rattle.lego_laws.specs.Fitting.{top, Extends, ExtendsFrom, IsSound}
use Rattle.lego_laws.specs.Ranges.{locals_bound, Agree, Bounded, Context}
use Rattle.lego_laws.specs.Exclusion.{UnsolvableTermsHaveNoType, UnsolvableChecksHaveNoTyping, UnsolvableDefinitionsHaveNoTyping}
use Rattle.lego_laws.specs.Principal.{core_types, entries_bound, AreSmall, HasSmallSolution, PrincipalTypes, PrincipalRuleTypes, PrincipalChecks, PrincipalDefinitions, SmallTypingsHaveSmallSolutions, SmallChecksHaveSmallSolutions, SmallDefinitionsHaveSmallSolutions}
use Rattle.lego_laws.proofs.lemmas.typing.Rules.{judged, valid_locals}
use Rattle.lego_laws.proofs.lemmas.typing.TypingLaws.{type_correctness_law}
use Rattle.lego_laws.proofs.lemmas.principal.Greatest.{bounded}
use Rattle.lego_laws.proofs.lemmas.principal.Bounding.{bounded_more}
use Rattle.lego_laws.proofs.lemmas.inference.Agreeing.{moved}
use Rattle.lego_laws.proofs.lemmas.inference.Satisfying.{satisfies_append, satisfies_front, satisfies_back}
use Rattle.lego_laws.proofs.lemmas.inference.Solving.{below_with}
use Rattle.lego_laws.proofs.lemmas.principal.EntriesAt.{types_at, bodies_at_values}
use Rattle.lego_laws.proofs.lemmas.principal.HeldVariables.{or_left, or_right, SameOn, at_same, locals_same, satisfies_same, entry_same}
use Rattle.lego_laws.proofs.lemmas.principal.HeldWithin.{only, only_found, only_zero, held_within}

-- entries, and their constraints, at assignments that agree on what they hold
entries_same : (v w : Assignment) (es : List Entry) → SameOn v w (λ u. list_any (entry_uses u) es) → map (entry_at v) es ≡ map (entry_at w) es
entries_same v w [] h = refl
entries_same v w (e ∷ es) h =
    ap₂ (λ x y. x ∷ y) (entry_same v w e (λ u k. h u (or_left (entry_uses u e) (list_any (entry_uses u) es) k))) (entries_same v w es (λ u k. h u (or_right (entry_uses u e) (list_any (entry_uses u) es) k)))

kept_same : (v w : Assignment) (es : List Entry) → SameOn v w (λ u. list_any (entry_uses u) es) → SatisfiesAll v (kept es) → SatisfiesAll w (kept es)
kept_same v w [] h p = tt
kept_same v w (e ∷ es) h p =
    satisfies_append w e.constraints (kept es)
    (satisfies_same v w e.constraints (λ u k. h u (or_left (entry_uses u e) (list_any (entry_uses u) es) (or_right _ _ k))) (satisfies_front v e.constraints (kept es) p))
    (kept_same v w es (λ u k. h u (or_right (entry_uses u e) (list_any (entry_uses u) es) k)) (satisfies_back v e.constraints (kept es) p))

-- the derivation in the words of the context, and back
derives_moved : {c c' b b' : TermBodies} {g : List Term} {m a : Term} → c ≡ c' → b ≡ b' → Derives c b g m a → Derives c' b' g m a
derives_moved {c} {c'} {b} {b'} {g} {m} {a} ec eb d = subst (λ z. Derives z b' g m a) ec (subst (λ z. Derives c z g m a) eb d)

locals_moved : {c c' b b' : TermBodies} {g : List Term} → c ≡ c' → b ≡ b' → ValidLocals c b g → ValidLocals c' b' g
locals_moved {c} {c'} {b} {b'} {g} ec eb d = subst (λ z. ValidLocals z b' g) ec (subst (λ z. ValidLocals c z g) eb d)

module _ (es : List Entry) (n : ℕ) (always : AlwaysValid es) (le : entries_bound es ≤ n) (g : List Core) (x : Context n (core_types es) (core_bodies es) (kept es) g) where
  sound_over : (m a : Core) (k : List LevelPair) → ((v : Assignment) → SatisfiesAll v (kept es) → SatisfiesAll v k → Derives (bodies_at v (core_types es)) (bodies_at v (core_bodies es)) (map (at v) g) (at v m) (at v a)) → IsSound es g m a k
  sound_over m a k f v h s =
      let y = always v h in
      let ec = sym (types_at es v y) in
      let eb = sym (bodies_at_values es v y) in
      judged (derives_moved ec eb (f v h s)) (valid_locals y.valid (locals_moved ec eb (x.locals v h)))

  -- the assignment that keeps the held variables alone
  module _ (ms : List Core) (lm : locals_bound ms ≤ n) (v : Assignment) (h : SatisfiesAll v (kept es)) where
    pub v₀ : Assignment
    v₀ = only (λ u. list_any (entry_uses u) es || list_any (uses_level u) g || list_any (uses_level u) ms) v

    found : SameOn v v₀ (λ u. list_any (entry_uses u) es || list_any (uses_level u) g || list_any (uses_level u) ms)
    unfolding v₀
    found = only_found (λ u. list_any (entry_uses u) es || list_any (uses_level u) g || list_any (uses_level u) ms) v

    lost : (u : ℕ) → (IsHeld u es g ms → ⊥) → get_or v₀ u 0 ≡ 0
    unfolding v₀
    lost = only_zero (λ u. list_any (entry_uses u) es || list_any (uses_level u) g || list_any (uses_level u) ms) v

    on_entries : SameOn v v₀ (λ u. list_any (entry_uses u) es)
    on_entries u k = found u (or_left _ _ (or_left _ _ k))

    on_locals : SameOn v v₀ (λ u. list_any (uses_level u) g)
    on_locals u k = found u (or_left _ _ (or_right _ _ k))

    pub on_terms : SameOn v v₀ (λ u. list_any (uses_level u) ms)
    on_terms u k = found u (or_right _ _ k)

    pub h₀ : SatisfiesAll v₀ (kept es)
    h₀ = kept_same v v₀ es on_entries h

    entries_equal : entries_at v es ≡ entries_at v₀ es
    entries_equal = ap reverse (entries_same v v₀ es on_entries)

    types_equal : types_of (entries_at v es) ≡ bodies_at v₀ (core_types es)
    types_equal = ap types_of entries_equal ∙ types_at es v₀ (always v₀ h₀)

    bodies_equal : bodies_of (entries_at v es) ≡ bodies_at v₀ (core_bodies es)
    bodies_equal = ap bodies_of entries_equal ∙ bodies_at_values es v₀ (always v₀ h₀)

    pub moved_to : (m : Core) {q : Term} → at v m ≡ at v₀ m → (d : Has (entries_at v es) (map (at v) g) (at v m) q) → Bounded (top d) (bodies_at v₀ (core_types es)) (bodies_at v₀ (core_bodies es)) (map (at v₀) g) (at v₀ m) q
    moved_to m e d = moved types_equal bodies_equal (locals_same v v₀ g on_locals) e (bounded d)

    pub extends : (k : List LevelPair) (t : ℕ) (w : Assignment) → Agree n v₀ w → SatisfiesAll w k → ((u : ℕ) → n ≤ u → get_or w u 0 ≤ t) → Extends es g ms k v t w
    extends k t w e s small =
        record {
          same = λ u i. sym (e.same u (held_within u n es g ms le x.locals_within lm i)) ∙ sym (found u i);
          satisfies = s;
          bounded = λ u i. ⊎_elim (λ (l : u < n). let z = lost u i in let q = e.same u (omega arith) in omega arith) (λ (l : n ≤ u). small u l) (cases_lt u n);
        }

    pub below_back : {t u : Term} → Below (bodies_at v₀ (core_bodies es)) t u → Below (bodies_of (entries_at v es)) t u
    below_back p = below_with (sym bodies_equal) refl refl p

-- what fits in a range extends each assignment from the range's beginning on
module _ (es : List Entry) (always : AlwaysValid es) (g : List Core) (v : Assignment) (h : SatisfiesAll v (kept es)) where
  bounded_at : (m : Core) {q : Term} → (d : Has (entries_at v es) (map (at v) g) (at v m) q) → Bounded (top d) (bodies_at v (core_types es)) (bodies_at v (core_bodies es)) (map (at v) g) (at v m) q
  bounded_at m d = let y = always v h in moved (types_at es v y) (bodies_at_values es v y) refl refl (bounded d)

  below_at : {t u : Term} → Below (bodies_at v (core_bodies es)) t u → Below (bodies_of (entries_at v es)) t u
  below_at p = below_with (sym (bodies_at_values es v (always v h))) refl refl p

extends_from : (n : ℕ) (k : List LevelPair) (v : Assignment) (limit : ℕ) (w : Assignment) → Agree n v w → SatisfiesAll w k → ((u : ℕ) → n ≤ u → get_or w u 0 ≤ limit) → ExtendsFrom n k v limit w
extends_from n k v limit w e s small = record { same = λ u l. sym (e.same u (omega arith)); satisfies = s; bounded = small }

-- the variables from the bound on are held by nothing
new_from : (n : ℕ) (es : List Entry) (g ms : List Core) → entries_bound es ≤ n → locals_bound g ≤ n → locals_bound ms ≤ n → (u : ℕ) → n ≤ u → IsHeld u es g ms → ⊥
new_from n es g ms le lg lm u l i = let w = held_within u n es g ms le lg lm i in absurd (omega arith)

pub principal_types : PrincipalTypes
principal_types es n n₁ always le g m a k x lm f =
    record {
      sound = sound_over es n always le g x m a k f.sound;
      principal = λ v h d.
          let w = v₀ es n always le g x (m ∷ []) (omega arith) v h in
          let e = at_same v w m (λ u i. on_terms es n always le g x (m ∷ []) (omega arith) v h u (or_left _ _ i)) in
          let s = f.principal w (h₀ es n always le g x (m ∷ []) (omega arith) v h) (top d) _ (moved_to es n always le g x (m ∷ []) (omega arith) v h m e d) in
          (s.w, extends es n always le g x (m ∷ []) (omega arith) v h k (top d) s.w s.agree s.satisfies s.small, below_back es n always le g x (m ∷ []) (omega arith) v h s.below);
    }

pub principal_rule_types : PrincipalRuleTypes
principal_rule_types es n n₁ always le g m a k x lm rule room f =
    record {
      rule = record { fresh = new_from n es g (m ∷ []) le x.locals_within (omega arith); rule = rule };
      numbered = room;
      within = f.pairs_within;
      fits = principal_types es n n₁ always le g m a k x lm f;
      extends = λ v h d.
          let s = f.principal v h (top d) _ (bounded_at es always g v h m d) in
          (s.w, extends_from n k v (top d) s.w s.agree s.satisfies s.small, below_at es always g v h s.below);
    }

pub principal_checks : PrincipalChecks
principal_checks es n n₁ always le g m a k x lm la f =
    record {
      grows = f.grows;
      fresh = new_from n es g (m ∷ a ∷ []) le x.locals_within (omega arith);
      within = f.pairs_within;
      extends = λ v h d.
          let s = f.principal v h (top d) (bounded_at es always g v h m d) in
          (s.w, extends_from n k v (top d) s.w s.agree s.satisfies s.small);
      sound = sound_over es n always le g x m a k f.sound;
      principal = λ v h d.
          let w = v₀ es n always le g x (m ∷ a ∷ []) (omega arith) v h in
          let e = at_same v w m (λ u i. on_terms es n always le g x (m ∷ a ∷ []) (omega arith) v h u (or_left _ _ i)) in
          let ea = at_same v w a (λ u i. on_terms es n always le g x (m ∷ a ∷ []) (omega arith) v h u (or_right _ _ (or_left _ _ i))) in
          let b = subst (λ z. Bounded (top d) (bodies_at w (core_types es)) (bodies_at w (core_bodies es)) (map (at w) g) (at w m) z) ea (moved_to es n always le g x (m ∷ a ∷ []) (omega arith) v h m e d) in
          let s = f.principal w (h₀ es n always le g x (m ∷ a ∷ []) (omega arith) v h) (top d) b in
          (s.w, extends es n always le g x (m ∷ a ∷ []) (omega arith) v h k (top d) s.w s.agree s.satisfies s.small);
    }

pub principal_definitions : PrincipalDefinitions
principal_definitions es n n₁ always le g m a k x lm la f =
    record {
      grows = f.grows;
      fresh = new_from n es g (m ∷ a ∷ []) le x.locals_within (omega arith);
      within = f.pairs_within;
      extends = λ v h d j e.
          let limit = max (top d) (top e) in
          let bm = bounded_more limit (omega arith) (bounded_at es always g v h m d) in
          let ba = bounded_more limit (omega arith) (bounded_at es always g v h a e) in
          let s = f.principal v h limit j bm ba in
          (s.w, extends_from n k v limit s.w s.agree s.satisfies s.small);
      sound = sound_over es n always le g x m a k f.sound;
      is_type = λ v h s.
          let y = always v h in
          let t = f.is_type v h s in
          let ec = sym (types_at es v y) in
          let eb = sym (bodies_at_values es v y) in
          (t.0, judged (derives_moved ec eb t.1) (valid_locals y.valid (locals_moved ec eb (x.locals v h))));
      principal = λ v h d j e.
          let w = v₀ es n always le g x (m ∷ a ∷ []) (omega arith) v h in
          let limit = max (top d) (top e) in
          let em = at_same v w m (λ u i. on_terms es n always le g x (m ∷ a ∷ []) (omega arith) v h u (or_left _ _ i)) in
          let ea = at_same v w a (λ u i. on_terms es n always le g x (m ∷ a ∷ []) (omega arith) v h u (or_right _ _ (or_left _ _ i))) in
          let bm = subst (λ z. Bounded (top d) (bodies_at w (core_types es)) (bodies_at w (core_bodies es)) (map (at w) g) (at w m) z) ea (moved_to es n always le g x (m ∷ a ∷ []) (omega arith) v h m em d) in
          let ba = moved_to es n always le g x (m ∷ a ∷ []) (omega arith) v h a ea e in
          let s = f.principal w (h₀ es n always le g x (m ∷ a ∷ []) (omega arith) v h) limit j (bounded_more limit (omega arith) bm) (bounded_more limit (omega arith) ba) in
          (s.w, extends es n always le g x (m ∷ a ∷ []) (omega arith) v h k limit s.w s.agree s.satisfies s.small);
    }

-- whether the level variable is held
held_or_not : (b : Bool) → IsTrue b ⊎ (IsTrue b → ⊥)
held_or_not true = inl refl
held_or_not false = inr (λ h. cc)

module _ (es : List Entry) (g ms : List Core) (k : List LevelPair) (v : Assignment) (h : SatisfiesAll v (kept es)) (t : ℕ) (w : Assignment) (e : Extends es g ms k v t w) where
  -- an extension satisfies what is kept, and is small where the assignment is
  pub still_kept : SatisfiesAll w (kept es)
  still_kept = kept_same v w es (λ u i. sym (e.same u (or_left _ _ (or_left _ _ i)))) h

  pub small_extension : (limit : ℕ) → t ≤ limit → AreSmall limit v → HasSmallSolution limit es k
  small_extension limit le small = (w, still_kept, e.satisfies, λ u. bound u)
    where
      bound : (u : ℕ) → get_or w u 0 ≤ limit
      bound u =
          ⊎_elim (λ (i : IsHeld u es g ms). let s = e.same u i in let z = small u in omega arith) (λ (i : IsHeld u es g ms → ⊥). let z = e.bounded u i in omega arith)
          (held_or_not (list_any (entry_uses u) es || list_any (uses_level u) g || list_any (uses_level u) ms))

pub small_typings_have_small_solutions : SmallTypingsHaveSmallSolutions
small_typings_have_small_solutions es g m a k f limit v h small q d le =
    let p = f.principal v h d in
    small_extension es g (m ∷ []) k v h (top d) p.0 p.1 limit le small

pub small_checks_have_small_solutions : SmallChecksHaveSmallSolutions
small_checks_have_small_solutions n n₁ es g m a k f limit v h small d le =
    let p = f.principal v h d in
    small_extension es g (m ∷ a ∷ []) k v h (top d) p.0 p.1 limit le small

pub small_definitions_have_small_solutions : SmallDefinitionsHaveSmallSolutions
small_definitions_have_small_solutions n n₁ es g m a k f limit v h small d ld j e le =
    let p = f.principal v h d j e in
    small_extension es g (m ∷ a ∷ []) k v h (max (top d) (top e)) p.0 p.1 limit (omega arith) small

pub unsolvable_terms_have_no_type : UnsolvableTermsHaveNoType
unsolvable_terms_have_no_type es g m a k f out v h q d =
    let p = f.principal v h d in
    out p.0 (still_kept es g (m ∷ []) k v h (top d) p.0 p.1) p.1.satisfies

pub unsolvable_checks_have_no_typing : UnsolvableChecksHaveNoTyping
unsolvable_checks_have_no_typing n n₁ es g m a k f out v h d =
    let p = f.principal v h d in
    out p.0 (still_kept es g (m ∷ a ∷ []) k v h (top d) p.0 p.1) p.1.satisfies

pub unsolvable_definitions_have_no_typing : UnsolvableDefinitionsHaveNoTyping
unsolvable_definitions_have_no_typing n n₁ es always g m a k f out v h d =
    let t = type_correctness_law (entries_at v es) (always v h) (map (at v) g) (at v m) (at v a) d in
    let p = f.principal v h d t.0 t.1 in
    out p.0 (still_kept es g (m ∷ a ∷ []) k v h (max (top d) (top t.1)) p.0 p.1) p.1.satisfies
