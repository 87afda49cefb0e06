-- What each function of a check answers, from what those that it calls do.
use Rattle.std.proofs.Common.{◌≡◌, ℕ, suc, ◌+◌, ◌≤◌, ◌<◌, ◌⊎◌, List, [], ◌∷◌, ◌++◌, Option, Some, None, Result, Ok, Err, IfOk, IfErr, OnOk, refl, sym, ap, ◌∙◌, subst, ⊎_elim, slice_get, length, append_assoc, arith, IsSome}
use Rattle.std.proofs.lemmas.List.{append-nil}
use Rattle.lego_base.specs.declared.place.Place.{Place}
use Rattle.lego_term.specs.declared.binder.Binder.{Binder}
use Rattle.lego_term.specs.declared.binder.Mark.{Mark}
use Rattle.lego_term.specs.declared.level.Level.{Level}
use Rattle.lego_term.specs.Levels.{fixed_level, variable_level}
use Rattle.lego_term.specs.Trees.{Core, Var, Const, Prop, Univ, Pi, Lam, App, Sigma, Pair, Fst, Snd, Let, lift, instantiate}
use Rattle.lego_term.specs.Sequences.{HeadForm}
use Rattle.lego_laws.specs.Entries.{Entry, entry_of, core_bodies}
use Rattle.lego_laws.specs.Parallel.{AreClosed}
use Rattle.lego_laws.specs.RuleTypes.{nodes}
use Rattle.lego_laws.specs.Places.{Want, Nothing, AType, AFunction, APair, Stated, Site, behind, under, Part, WantsHead, Fulfils}
use Rattle.lego_laws.specs.Ranges.{level_bound, raised_level, sort_term}
use Rattle.lego_level.specs.declared.constraint.Constraint.{Constraint}
use Rattle.lego_inference.specs.declared.entry.At.{At}
use Rattle.lego_inference.specs.declared.fault.TypeFault.{TypeFault}
use Rattle.lego_inference.specs.declared.fault.Counted.TheVariants.{Levels}
use Rattle.lego_inference.specs.declared.fault.TypeFault.TheVariants.{Full, Memory}
use Rattle.lego_inference.specs.declared.gathered.Gathered.{Gathered}
use Rattle.lego_inference.specs.declared.head.Former.{Former}
use Rattle.lego_inference.specs.declared.rules.Formed.{Formed}
use Rattle.lego_inference.specs.declared.locals.Local.{Local}
use Rattle.lego_inference.specs.Causes.{TakesLevel}
use Rattle.lego_inference.specs.Locals.{site_of, types_of}
use Rattle.lego_inference.specs.private.Gathering.{asked_at, asked_of_former, asked_of_product, product_sort, FindsUniverse}
use Rattle.lego_inference.specs.private.Judging.{IsReady, Inferred, Fails, FailsAt, Adds, Infers, IsTypeBy, FindsSort, HasStated, ChecksAt, IsFormed, Forms, IsPairOf, Projects, FindsHead, Compares, IsMade, sigma_of}
use Rattle.lego_inference.proofs.FailLemmas.{fails_part, fails_at_part, fails_memory, fails_full, fails_made, fails_put, at_any, at_head, at_pair, at_stated}
use Rattle.lego_inference.proofs.LeafRules.{prop_inferred, variable_inferred, constant_inferred, universe_inferred}
use Rattle.lego_inference.proofs.FormerRules.{product_inferred, sigma_inferred, count_pi, count_sigma}
use Rattle.lego_inference.proofs.OtherRules.{first_inferred, second_inferred}
use Rattle.lego_inference.proofs.ReadyLemmas.{few_locals}
use Rattle.lego_inference.proofs.LocalLemmas.{length-map}
use Rattle.lego_laws.proofs.lemmas.principal.SolvedCores.{heights}
use Rattle.lego_inference.proofs.ShapeLemmas.{none_before, next_shaped, shaped_nothing, shaped_stated}

pub adds_none : (x : Gathered) → Adds x x 0 []
adds_none x = record { constraints = sym (append-nil x.constraints.items); levels = omega arith }

pub adds_then : {old mid new : Gathered} {n m count : ℕ} {k l : List Constraint} → Adds old mid n k → Adds mid new m l → n + m ≡ count → Adds old new count (k ++ l)
adds_then {old} {mid} {new} {k = k} {l = l} p q e =
    record {
      constraints = q.constraints ∙ ap (λ z. z ++ l) p.constraints ∙ append_assoc old.constraints.items k l;
      levels = (let i = p.levels in let j = q.levels in omega arith);
    }

-- the same site, by other names for its locals and its number
pub at_site : (P : Site → Type 0) {l l' : List Local} {n n' : ℕ} → l ≡ l' → n ≡ n' → P (site_of l n) → P (site_of l' n')
at_site P {l} {l'} {n} {n'} e f h = subst (λ z. P (site_of l' z)) f (subst (λ z. P (site_of z n)) e h)

module _ (es : List Entry) (asked : At) (s : Site) where
  -- a rule type that is made
  pub made_infers : (m a : Core) (k : List Constraint) (old new : Gathered) (r : Result Core TypeFault) → Adds old new (nodes m) k → Inferred es asked.place s m k a → IsMade a r → Infers es asked s m old new r
  made_infers m a k old new (Ok made) adds j h = (k, adds, subst (Inferred es asked.place s m k) (sym h) j)
  made_infers m a k old new (Err fault) adds j h = fails_made j.rule j.parts h

  pub prop_infers : (old : Gathered) (r : Result Core TypeFault) → IfOk r (λ ty. ty ≡ Univ (fixed_level 0)) → IfErr r (λ fault. fault ≡ Memory) → Infers es asked s Prop old old r
  prop_infers old (Ok ty) h e = ([], adds_none old, subst (Inferred es asked.place s Prop []) (sym h) (prop_inferred es asked.place s))
  prop_infers old (Err fault) h e = subst (Fails es asked.limit s Prop) (sym e) fails_memory

  pub variable_infers : (i : ℕ) (old : Gathered) (r : Result Core TypeFault) → IfOk r (λ ty. (a : Core) × (slice_get s.types i ≡ Some a) × (ty ≡ lift 0 (suc i) a)) → IfErr r (λ fault. fault ≡ Memory) → Infers es asked s (Var i) old old r
  variable_infers i old (Ok ty) h e = ([], adds_none old, subst (Inferred es asked.place s (Var i) []) (sym h.2) (variable_inferred es asked.place s i h.0 h.1))
  variable_infers i old (Err fault) h e = subst (Fails es asked.limit s (Var i)) (sym e) fails_memory

  pub constant_infers : (k : ℕ) (old : Gathered) (r : Result Core TypeFault) → IfOk r (λ ty. (e : Entry) × (entry_of es k ≡ Some e) × (ty ≡ e.ty)) → IfErr r (λ fault. fault ≡ Memory) → Infers es asked s (Const k) old old r
  constant_infers k old (Ok ty) h e = ([], adds_none old, subst (Inferred es asked.place s (Const k) []) (sym h.2) (constant_inferred es asked.place s k h.0 h.1))
  constant_infers k old (Err fault) h e = subst (Fails es asked.limit s (Const k)) (sym e) fails_memory

  -- there is no level variable for the node, or memory ran out
  pub level_fails : (m : Core) (fault : TypeFault) → TakesLevel m → ◌⊎◌ (fault ≡ Memory) ((fault ≡ Full Levels 1048576) × (1048576 ≤ s.first)) → Fails es asked.limit s m fault
  level_fails m fault takes h =
      ⊎_elim (λ (e : fault ≡ Memory). subst (Fails es asked.limit s m) (sym e) fails_memory)
      (λ (e : (fault ≡ Full Levels 1048576) × (1048576 ≤ s.first)). subst (Fails es asked.limit s m) (sym e.0) (fails_full e.1 takes)) h

  -- a product, whose parts are types
  pub product_infers : (x : Binder) (a b : Core) (old mid new : Gathered) (f : Formed) (r : Result Core TypeFault) → IsReady es s (Pi x a b) → Forms es asked s x a b old mid (Ok f)
      → IfOk r (λ ty. ty ≡ product_sort f) → OnOk r (new.constraints.items ≡ mid.constraints.items ++ asked_of_product f asked.place) → OnOk r (new.levels ≡ mid.levels) → IfErr r (λ fault. fault ≡ Memory)
      → Infers es asked s (Pi x a b) old new r
  product_infers x a b old mid new f (Ok ty) ready (k, adds, formed) is added same e = (
    k ++ asked_of_product f asked.place,
    adds_then {m = 0} adds (record { constraints = added; levels = (omega arith) }) (omega (arith, count_pi x a b)),
    subst (Inferred es asked.place s (Pi x a b) (k ++ asked_of_product f asked.place)) (sym is) (product_inferred es asked.place s x a b k f formed ready.over.levels_within),
  )
  product_infers x a b old mid new f (Err fault) ready forms is added same e = subst (Fails es asked.limit s (Pi x a b)) (sym e) fails_memory

  pub sigma_infers : (x : Binder) (a b : Core) (old mid new : Gathered) (f : Formed) (r : Result Core TypeFault) → IsReady es s (Sigma x a b) → Forms es asked s x a b old mid (Ok f)
      → IfOk r (λ ty. ty ≡ Univ f.own) → OnOk r (new.constraints.items ≡ mid.constraints.items ++ asked_of_former f asked.place) → OnOk r (new.levels ≡ mid.levels) → IfErr r (λ fault. fault ≡ Memory)
      → Infers es asked s (Sigma x a b) old new r
  sigma_infers x a b old mid new f (Ok ty) ready (k, adds, formed) is added same e = (
    k ++ asked_of_former f asked.place,
    adds_then {m = 0} adds (record { constraints = added; levels = (omega arith) }) (omega (arith, count_sigma x a b)),
    subst (Inferred es asked.place s (Sigma x a b) (k ++ asked_of_former f asked.place)) (sym is) (sigma_inferred es asked.place s x a b k f formed ready.over.levels_within),
  )
  sigma_infers x a b old mid new f (Err fault) ready forms is added same e = subst (Fails es asked.limit s (Sigma x a b)) (sym e) fails_memory

  -- a component of a pair
  pub first_infers : (m : Core) (old new : Gathered) (f : Former) → IsReady es s (Fst m) → Projects es asked s m old new (Ok f) → Infers es asked s (Fst m) old new (Ok f.domain)
  first_infers m old new f ready (k, adds, p) = (k, record { constraints = adds.constraints; levels = (let l = adds.levels in omega arith) }, first_inferred es asked.place s m k f ready.over.levels_within p)

  pub second_infers : (m : Core) (old new : Gathered) (f : Former) (r : Result Core TypeFault) → IsReady es s (Snd m) → Projects es asked s m old new (Ok f) → IsMade (instantiate f.body (Fst m)) r → Infers es asked s (Snd m) old new r
  second_infers m old new f r ready (k, adds, p) h =
      made_infers (Snd m) (instantiate f.body (Fst m)) k old new r (record { constraints = adds.constraints; levels = (let l = adds.levels in omega arith) }) (second_inferred es asked.place s m k f ready.over.levels_within p) h

  -- the sort of a term's rule type
  pub sort_found : (m ty : Core) (old new : Gathered) (r : Result (Option Level) TypeFault) → AreClosed (core_bodies es) → Infers es asked s m old new (Ok ty) → FindsHead sort_term es asked s.binders m AType ty r → FindsSort es asked s m old new r
  sort_found m ty old new (Ok sort) closed (k, adds, j) h = (k, adds, record { ty = ty; inferred = j; head = h })
  sort_found m ty old new (Err fault) closed (k, adds, j) h = at_head closed WantsHead.a_type j h

  pub pair_found : (m ty : Core) (old new : Gathered) (r : Result Former TypeFault) → AreClosed (core_bodies es) → Infers es asked s m old new (Ok ty) → FindsHead sigma_of es asked s.binders m APair ty r → Projects es asked s m old new r
  pair_found m ty old new (Ok f) closed (k, adds, j) h = (k, adds, record { ty = ty; inferred = j; head = h })
  pair_found m ty old new (Err fault) closed (k, adds, j) h =
      let at = at_head closed WantsHead.a_pair j h in
      (fails_at_part Part.fst_operand none_before at, fails_at_part Part.snd_operand none_before at)

  -- a term is compared with a stated type
  pub compared : (m have want : Core) (old mid new : Gathered) (r : Result (Unit {0}) TypeFault) → AreClosed (core_bodies es) → Infers es asked s m old mid (Ok have) → Compares es asked s.binders m have want mid new r → ChecksAt es asked s m want old new r
  compared m have want old mid new (Ok done) closed (k, adds, j) (more, added, decided) =
      (k ++ more, adds_then adds added (omega arith), record { have = have; own = k; more = more; split = refl; inferred = j; decided = decided })
  compared m have want old mid new (Err fault) closed (k, adds, j) h = at_pair closed j h

-- a universe
pub universe_infers : (es : List Entry) (asked : At) (g : List Core) (xs : List Binder) (l : Level) (old new : Gathered) (r : Result Core TypeFault) → level_bound l ≤ old.levels → FindsUniverse l asked.place old new r
    → Infers es asked (record { types = g; binders = xs; first = old.levels }) (Univ l) old new r
universe_infers es asked g xs l old new (Ok ty) le h = (
  asked_at (raised_level l) (variable_level old.levels) asked.place,
  record { constraints = h.1; levels = h.2 },
  subst (Inferred es asked.place (record { types = g; binders = xs; first = old.levels }) (Univ l) (asked_at (raised_level l) (variable_level old.levels) asked.place)) (sym h.0) (universe_inferred es asked.place (record { types = g; binders = xs; first = old.levels }) l le),
)
universe_infers es asked g xs l old new (Err fault) le h = level_fails es asked (record { types = g; binders = xs; first = old.levels }) (Univ l) fault TakesLevel.universe h

-- what holds under a binder, by the names of the code and by the rules' site
pub under_code : (P : Site → Type 0) (x : Binder) (a : Core) (l l₁ l₂ : List Local) (n n₁ : ℕ) → l₁ ≡ l → l₂ ≡ record { binder = x; ty = a } ∷ l₁ → n₁ ≡ n + nodes a → P (under x a (site_of l n)) → P (site_of l₂ n₁)
under_code P x a l l₁ l₂ n n₁ same pushed next h =
    at_site P {l = record { binder = x; ty = a } ∷ l} {l' = l₂} {n = n + nodes a} {n' = n₁} (sym (pushed ∙ ap (λ (z : List Local). record { binder = x; ty = a } ∷ z) same)) (sym next) h

pub under_rule : (P : Site → Type 0) (x : Binder) (a : Core) (l l₁ l₂ : List Local) (n n₁ : ℕ) → l₁ ≡ l → l₂ ≡ record { binder = x; ty = a } ∷ l₁ → n₁ ≡ n + nodes a → P (site_of l₂ n₁) → P (under x a (site_of l n))
under_rule P x a l l₁ l₂ n n₁ same pushed next h =
    at_site P {l = l₂} {l' = record { binder = x; ty = a } ∷ l} {n = n₁} {n' = n + nodes a} (pushed ∙ ap (λ (z : List Local). record { binder = x; ty = a } ∷ z) same) next h

pub on_any : {T X P : Type 0} (r : Result T X) → P → OnOk r P
on_any (Ok x) p = p
on_any (Err e) p = tt

-- what is kept by both of two calls
pub then_kept : {T X Y : Type 0} (u v w : Y) (r : Result T X) → OnOk r (u ≡ v) → v ≡ w → OnOk r (u ≡ w)
then_kept u v w (Ok x) p q = p ∙ q
then_kept u v w (Err e) p q = tt

-- a product and a Sigma type of the same parts are ready together, and so are both components of a pair
pub ready_product : {es : List Entry} {s : Site} {x : Binder} {a b : Core} → IsReady es s (Sigma x a b) → IsReady es s (Pi x a b)
ready_product {x = x} {a = a} {b = b} r =
    let few = r.few in
    record {
      closed = r.closed;
      scoped = r.scoped;
      few = omega (arith, heights.pi x a b, heights.sigma x a b);
      over = record { names = r.over.names; variables = r.over.variables; levels_within = r.over.levels_within };
    }

pub ready_first : {es : List Entry} {s : Site} {m : Core} → IsReady es s (Snd m) → IsReady es s (Fst m)
ready_first {m = m} r =
    let few = r.few in
    record {
      closed = r.closed;
      scoped = r.scoped;
      few = omega (arith, heights.fst m, heights.snd m);
      over = record { names = r.over.names; variables = r.over.variables; levels_within = r.over.levels_within };
    }

-- there is room for one local more, and what is over the locals can be compared and lifted
pub few_names : {es : List Entry} {m : Core} (l : List Local) (n : ℕ) → IsReady es (site_of l n) m → length l ≤ 63536
few_names l n r = let k = few_locals r in omega (arith, length-map (λ (x : Local). x.ty) l)
