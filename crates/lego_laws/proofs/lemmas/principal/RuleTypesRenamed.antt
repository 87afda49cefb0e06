-- The fresh variables of a rule type may be renamed.
use Rattle.std.proofs.Common.{◌≡◌, ℕ, zero, suc, Option, Some, None, option_map, option_and_then, nat_eq, Bool, true, false, cond, ◌||◌, IsTrue, unwrap_or, List, [], ◌∷◌, ◌++◌, slice_get, refl, sym, ap, ap₂, ◌∙◌, subst}
use Rattle.std.specs.List.{list_any}
use mathlib.Core.Path.{fun_ext}
use Rattle.lego_term.specs.declared.level.Level.{Level}
use Rattle.lego_term.specs.Trees.{Core, Var, Const, Prop, Univ, Pi, Lam, App, Sigma, Pair, Fst, Snd, lift, instantiate, levels_of, is_over, uses_level, Let}
use Rattle.lego_term.specs.Sequences.{head_step, after, HeadForm}
use Rattle.lego_laws.specs.Parallel.{CoreBodies}
use Rattle.lego_laws.specs.Entries.{Entry, entry_of, core_bodies, entry_uses}
use Rattle.lego_laws.specs.RuleTypes.{RuleType}
use Rattle.lego_laws.specs.RuleTypeLaws.{renamed_level, renamed, RuleTypesRename}
use Rattle.lego_laws.proofs.lemmas.reduction.Mapping.{map-lift, map-instantiate, mapped_bodies, head_step-map}
use Rattle.lego_laws.proofs.lemmas.reduction.After.{next, after_one}
use Rattle.lego_laws.proofs.lemmas.principal.HeldVariables.{or_left, or_right, any_front, any_back, equal_test}

module _ (f : ℕ → ℕ) where
  -- the variables that a test finds keep their names
  abbrev Fixes : (ℕ → Bool) → Type 0
  Fixes p = (u : ℕ) → IsTrue (p u) → f u ≡ u

  base_stays : (o : Option ℕ) → Fixes (λ u. unwrap_or (option_map (nat_eq u) o) false) → option_map f o ≡ o
  base_stays None h = refl
  base_stays (Some u) h = ap Some (h u (equal_test u))

  level_stays : (l : Level) → Fixes (λ u. is_over u l) → renamed_level f l ≡ l
  level_stays l h = ap (λ o. record { base = o; plus = l.plus }) (base_stays l.base h)

  front : (xs ys : List Level) → Fixes (λ u. list_any (is_over u) (xs ++ ys)) → Fixes (λ u. list_any (is_over u) xs)
  front xs ys h u k = h u (any_front (is_over u) xs ys k)

  back : (xs ys : List Level) → Fixes (λ u. list_any (is_over u) (xs ++ ys)) → Fixes (λ u. list_any (is_over u) ys)
  back xs ys h u k = h u (any_back (is_over u) xs ys k)

  stays : (t : Core) → Fixes (λ u. uses_level u t) → renamed f t ≡ t
  stays (Var i) h = refl
  stays (Const k) h = refl
  stays Prop h = refl
  stays (Univ l) h = ap Univ (level_stays l (λ u k. h u (or_left (is_over u l) false k)))
  stays (Pi x a r) h = ap₂ (Pi x) (stays a (front (levels_of a) (levels_of r) h)) (stays r (back (levels_of a) (levels_of r) h))
  stays (Lam x a r) h = ap₂ (Lam x) (stays a (front (levels_of a) (levels_of r) h)) (stays r (back (levels_of a) (levels_of r) h))
  stays (App k a r) h = ap₂ (App k) (stays a (front (levels_of a) (levels_of r) h)) (stays r (back (levels_of a) (levels_of r) h))
  stays (Sigma x a r) h = ap₂ (Sigma x) (stays a (front (levels_of a) (levels_of r) h)) (stays r (back (levels_of a) (levels_of r) h))
  stays (Let x a r) h = ap₂ (Let x) (stays a (front (levels_of a) (levels_of r) h)) (stays r (back (levels_of a) (levels_of r) h))
  stays (Pair x a r m n) h =
      let three = front (levels_of a ++ levels_of r ++ levels_of m) (levels_of n) h in
      let both = front (levels_of a ++ levels_of r) (levels_of m) three in
      let ea = stays a (front (levels_of a) (levels_of r) both) in
      let er = stays r (back (levels_of a) (levels_of r) both) in
      let em = stays m (back (levels_of a ++ levels_of r) (levels_of m) three) in
      let en = stays n (back (levels_of a ++ levels_of r ++ levels_of m) (levels_of n) h) in
      cc (ea, er, em, en)
  stays (Fst m) h = ap Fst (stays m h)
  stays (Snd m) h = ap Snd (stays m h)

  -- head sequences of renamed terms
  after-renamed : (b : CoreBodies) (n : ℕ) (t u : Core) → after (head_step b) n t ≡ Some u → after (head_step (mapped_bodies (λ x. x) (λ k. k) (renamed_level f) b)) n (renamed f t) ≡ Some (renamed f u)
  after-renamed b zero t u e = ap (option_map (renamed f)) e
  after-renamed b (suc n) t u e =
      let k = next (head_step b) n (head_step b t) u e in
      after_one (head_step (mapped_bodies (λ x. x) (λ k. k) (renamed_level f) b)) n (renamed f t) (renamed f k.0) (renamed f u)
      (head_step-map (λ x. x) (λ k. k) (renamed_level f) b t ∙ ap (option_map (renamed f)) k.1) (after-renamed b n k.0 u k.2)

  head_form-renamed : (b : CoreBodies) → mapped_bodies (λ x. x) (λ k. k) (renamed_level f) b ≡ b → (t u : Core) → HeadForm b t u → HeadForm b (renamed f t) (renamed f u)
  head_form-renamed b same t u p =
      subst (λ z. HeadForm z (renamed f t) (renamed f u)) same
      (p.0, record { reaches = after-renamed b p.0 t u p.1.reaches; last = head_step-map (λ x. x) (λ k. k) (renamed_level f) b u ∙ ap (option_map (renamed f)) p.1.last })

  prop_from : (h : Core) → renamed f h ≡ Prop → h ≡ Prop
  prop_from Prop e = refl
  prop_from _ e = cc

  -- what the rule type rests on keeps its names
  record Stay (es : List Entry) (g : List Core) (m : Core) : Type 0 where
    types : (k : ℕ) (e : Entry) → entry_of es k ≡ Some e → renamed f e.ty ≡ e.ty
    bodies : mapped_bodies (λ x. x) (λ k. k) (renamed_level f) (core_bodies es) ≡ core_bodies es
    locals : (i : ℕ) (a : Core) → slice_get g i ≡ Some a → renamed f a ≡ a
    term : renamed f m ≡ m

  local_stays : (g : List Core) (a : Core) → renamed f a ≡ a → ((i : ℕ) (t : Core) → slice_get g i ≡ Some t → renamed f t ≡ t) → (i : ℕ) (t : Core) → slice_get (a ∷ g) i ≡ Some t → renamed f t ≡ t
  local_stays g a e h zero t q = let is : a ≡ t = cc q in subst (λ z. renamed f z ≡ z) is e
  local_stays g a e h (suc i) t q = h i t q

  part : {es : List Entry} {g : List Core} {m m' : Core} → Stay es g m → renamed f m' ≡ m' → Stay es g m'
  part h e = record { types = h.types; bodies = h.bodies; locals = h.locals; term = e }

  body : {es : List Entry} {g : List Core} {m a r : Core} → Stay es g m → renamed f a ≡ a → renamed f r ≡ r → Stay es (a ∷ g) r
  body {g = g} {a = a} h e e' = record { types = h.types; bodies = h.bodies; locals = local_stays g a e h.locals; term = e' }

  at_type : {es : List Entry} {w : ℕ → ℕ} {g : List Core} {n : ℕ} {m a a' : Core} → a ≡ a' → RuleType es w g n m a → RuleType es w g n m a'
  at_type {es} {w} {g} {n} {m} e p = subst (RuleType es w g n m) e p

  renames : {es : List Entry} {w : ℕ → ℕ} {g : List Core} {n : ℕ} {m a : Core} → RuleType es w g n m a → Stay es g m → RuleType es (λ i. f (w i)) g n m (renamed f a)
  renames (RuleType.variable {i = i} {a = a} p) h =
      at_type (sym (map-lift (λ x. x) (λ k. k) (renamed_level f) 0 (suc i) a ∙ ap (lift 0 (suc i)) (h.locals i a p))) (RuleType.variable p)
  renames (RuleType.constant {k = k} {e = e} p) h = at_type (sym (h.types k e p)) (RuleType.constant p)
  renames RuleType.prop h = RuleType.prop
  renames RuleType.universe h = RuleType.universe
  renames (RuleType.pi_prop {b = b} {t = t} p q) h =
      let e = h.term in
      RuleType.pi_prop (renames p (body h (cc e) (cc e))) (head_form-renamed _ h.bodies t Prop q)
  renames (RuleType.pi_type {t = t} {h = s} p q out) h =
      let e = h.term in
      RuleType.pi_type (renames p (body h (cc e) (cc e))) (head_form-renamed _ h.bodies t s q) (λ z. out (prop_from s z))
  renames RuleType.sigma h = RuleType.sigma
  renames (RuleType.lambda {x = x} {a = a} {m = m} {t = t} p) h =
      let e = h.term in
      let ea : renamed f a ≡ a = cc e in
      let em : renamed f m ≡ m = cc e in
      at_type (ap (λ z. Pi x z (renamed f t)) (sym ea)) (RuleType.lambda (renames p (body h ea em)))
  renames (RuleType.application {x = x} {a = a} {b = b} {f = m} {m = n} {t = t} p q) h =
      let e = h.term in
      let em : renamed f m ≡ m = cc e in
      let en : renamed f n ≡ n = cc e in
      at_type (ap (instantiate (renamed f b)) (sym en) ∙ sym (map-instantiate (λ x. x) (λ k. k) (renamed_level f) b n))
      (RuleType.application (renames p (part h em)) (head_form-renamed _ h.bodies t (Pi x a b) q))
  renames (RuleType.pair {x = x} {a = a} {b = b}) h =
      let e = h.term in
      let ea : renamed f a ≡ a = cc e in
      let eb : renamed f b ≡ b = cc e in
      at_type (sym (ap₂ (Sigma x) ea eb)) RuleType.pair
  renames (RuleType.local {m = m} {b = b} p) h =
      let e = h.term in
      let em : renamed f m ≡ m = cc e in
      let eb : renamed f b ≡ b = cc e in
      RuleType.local (renames p (part h (map-instantiate (λ x. x) (λ k. k) (renamed_level f) b m ∙ ap₂ instantiate eb em)))
  renames (RuleType.first {x = x} {a = a} {b = b} {m = m} {t = t} p q) h =
      let e = h.term in
      RuleType.first (renames p (part h (cc e))) (head_form-renamed _ h.bodies t (Sigma x a b) q)
  renames (RuleType.second {x = x} {a = a} {b = b} {m = m} {t = t} p q) h =
      let e = h.term in
      let em : renamed f m ≡ m = cc e in
      at_type (ap (λ z. instantiate (renamed f b) (Fst z)) (sym em) ∙ sym (map-instantiate (λ x. x) (λ k. k) (renamed_level f) b (Fst m)))
      (RuleType.second (renames p (part h em)) (head_form-renamed _ h.bodies t (Sigma x a b) q))

-- what an entry uses the list uses
held_by : (es : List Entry) (e y : Entry) (u : ℕ) (o : Bool) (m : Option Entry) → cond o (Some e) m ≡ Some y → (m ≡ Some y → IsTrue (list_any (entry_uses u) es)) → IsTrue (entry_uses u y) → IsTrue (entry_uses u e || list_any (entry_uses u) es)
held_by es e y u true m q rest h = let is : y ≡ e = cc in or_left (entry_uses u e) (list_any (entry_uses u) es) (subst (λ z. IsTrue (entry_uses u z)) is h)
held_by es e y u false m q rest h = or_right (entry_uses u e) (list_any (entry_uses u) es) (rest q)

pub entry_held : (es : List Entry) (k : ℕ) (y : Entry) → entry_of es k ≡ Some y → (u : ℕ) → IsTrue (entry_uses u y) → IsTrue (list_any (entry_uses u) es)
entry_held [] k y q u h = cc
entry_held (e ∷ es) k y q u h = held_by es e y u (nat_eq e.number k) (entry_of es k) q (λ p. entry_held es k y p u h) h

local_held : (g : List Core) (i : ℕ) (a : Core) → slice_get g i ≡ Some a → (u : ℕ) → IsTrue (uses_level u a) → IsTrue (list_any (uses_level u) g)
local_held [] i a q u h = cc
local_held (t ∷ g) zero a q u h = let is : a ≡ t = cc q in or_left (uses_level u t) (list_any (uses_level u) g) (subst (λ z. IsTrue (uses_level u z)) is h)
local_held (t ∷ g) (suc i) a q u h = or_right (uses_level u t) (list_any (uses_level u) g) (local_held g i a q u h)

pub body_held : (u : ℕ) (o : Option Core) (m : Core) → o ≡ Some m → IsTrue (uses_level u m) → IsTrue (unwrap_or (option_map (uses_level u) o) false)
body_held u None m q h = cc
body_held u (Some t) m q h = let is : m ≡ t = cc in subst (λ z. IsTrue (uses_level u z)) is h

body_renamed : (f : ℕ → ℕ) (o : Option Core) → ((m : Core) → o ≡ Some m → renamed f m ≡ m) → option_map (renamed f) o ≡ o
body_renamed f None h = refl
body_renamed f (Some m) h = ap Some (h m refl)

pub entry_body : (f : ℕ → ℕ) (o : Option Entry) (m : Core) → option_and_then (λ e. e.body) o ≡ Some m → (y : Entry) × (o ≡ Some y) × (y.body ≡ Some m)
entry_body f None m q = cc
entry_body f (Some y) m q = (y, refl, q)

pub rule_types_rename : RuleTypesRename
rule_types_rename es w f g n m a fixed p =
    renames f p (record {
      types = λ k e q. stays f e.ty (λ u h. fixed u (or_left _ _ (or_left _ _ (entry_held es k e q u (or_left _ _ (or_left _ _ h))))));
      bodies = fun_ext (λ k. body_renamed f (core_bodies es k) (λ t q. let y = entry_body f (entry_of es k) t q in stays f t (λ u h. fixed u (or_left _ _ (or_left _ _ (entry_held es k y.0 y.1 u (or_left _ _ (or_right _ _ (body_held u y.0.body t y.2 h)))))))));
      locals = λ i t q. stays f t (λ u h. fixed u (or_left _ _ (or_right _ _ (local_held g i t q u h))));
      term = stays f m (λ u h. fixed u (or_right _ _ (or_left _ _ h)));
    })
