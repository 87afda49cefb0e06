-- The reading of a written term from that of its parts.
use Rattle.std.proofs.Common.{◌≡◌, ℕ, pred, max, ◌≤◌, ◌⊎◌, inl, inr, List, [], ◌∷◌, length, Result, Ok, Err, OnOk, Some, None, refl, sym, subst, arith}
use Rattle.lego_base.specs.declared.place.Place.{Place}
use Rattle.lego_term.specs.Levels.{fixed_level, variable_level}
use Rattle.lego_term.specs.declared.binder.Binder.{Binder}
use Rattle.lego_term.specs.declared.binder.Mark.{Mark}
use Rattle.lego_term.specs.declared.binder.Mark.TheVariants.{Plain}
use Rattle.lego_term.specs.Trees.{Core, Prop, Univ, Sigma, Pair, App, Let, size, depth, loose}
use Rattle.lego_term.specs.Made.{Fits, Passes}
use Rattle.lego_laws.specs.Entries.{Entry}
use Rattle.lego_grammar.specs.declared.surface.Kind.{Kind}
use Rattle.lego_grammar.specs.declared.surface.Part.{Part}
use Rattle.lego_grammar.specs.Written.{Written}
use Rattle.lego_grammar.specs.Scopes.{LocalVariable, Scope, TypeVariables, local_named, entry_named}
use Rattle.lego_grammar.specs.Reading.{binder, bind_core, project_core, under_first, Annotates, ReadsExplicitly}
use Rattle.lego_grammar.specs.ReadingOrder.{Comes, IsPart, Reaches, ReadsWithin, ReadingRefusal, Refuses, IsRefused}
use Rattle.lego_grammar.proofs.ReadOnce.{one_core}
use Rattle.lego_reading.specs.declared.fault.ReadFault.{ReadFault}
use Rattle.lego_reading.specs.declared.fault.ReadFault.TheVariants as fault
use Rattle.lego_reading.specs.Failures.{Fails}
use Rattle.lego_reading.specs.private.Annotations.{IsNotAnnotated}
use Rattle.lego_reading.specs.private.Parts.{IsReading, Stops, Outcome, IsMade}

fits_not_passes : (c : Core) → Fits c → Passes c → ⊥
fits_not_passes c f (inl p) = omega (arith, f.0)
fits_not_passes c f (inr p) = omega (arith, f.1)

-- the core of each part is this one or passes no limit
abbrev IsSmall : List Entry → TypeVariables → Scope → Written → Core → Type 0
IsSmall es types scope s c =
    (inner : Scope) (r : Written) (d : Core) → IsPart es types scope s inner r → ReadsExplicitly es types inner r d → (d ≡ c) ⊎ Fits d

loose-bind : (kind : Kind) (x : Binder) (a b : Core) → loose (bind_core kind x a b) ≡ max (loose a) (pred (loose b))
loose-bind Kind.Lambda x a b = refl
loose-bind Kind.Pi x a b = refl
loose-bind Kind.Sigma x a b = refl

loose-project : (part : Part) (m : Core) → loose (project_core part m) ≡ loose m
loose-project Part.First m = refl
loose-project Part.Second m = refl

module _ {es : List Entry} {types : TypeVariables} where
  made_within : {scope : Scope} {s : Written} {c : Core} → ReadsExplicitly es types scope s c → IsSmall es types scope s c → Fits c → ReadsWithin es types scope s c
  made_within {c = c} r small fits = record {
    reads = r;
    small = λ inner q d path e. elim (small inner q d path e) [ inl same ↦ subst Fits (sym same) fits | inr f ↦ f ];
  }

  refused_as : {scope : Scope} {s : Written} {x : ReadingRefusal} → Refuses es types scope s x → IsRefused es types scope s x
  refused_as {scope} {s} h = record { inner = scope; part = s; reached = Comes.here; refuses = h }

  -- a written term stops as the part does to which its reading comes
  pub stops_part : {limit : ℕ} {scope inner : Scope} {s r : Written} {f : ReadFault}
      → ((i : Scope) (q : Written) → Reaches es types inner r i q → Reaches es types scope s i q)
      → Stops es types limit inner r f → Stops es types limit scope s f
  stops_part up (Stops.fails (Fails.refused {refusal} h)) =
      Stops.fails (Fails.refused {refusal = refusal} (record { inner = h.inner; part = h.part; reached = up h.inner h.part h.reached; refuses = h.refuses }))
  stops_part up (Stops.fails (Fails.no_head_form {inner} {m} {n} {t} path w none h)) = Stops.fails (Fails.no_head_form (up inner (Written.Pair m n t) path) w none h)
  stops_part up Stops.memory = Stops.memory

  pub stops_at : {limit : ℕ} {a b : Scope} {s : Written} {f : ReadFault} → b ≡ a → Stops es types limit b s f → Stops es types limit a s f
  stops_at {limit} {s = s} {f = f} e h = subst (λ z. Stops es types limit z s f) e h

  pub reading_at : {a b : Scope} {s : Written} {c : Core} → b ≡ a → IsReading es types b s c → IsReading es types a s c
  reading_at {s = s} {c = c} e h = subst (λ z. IsReading es types z s c) e h

  too_large : {limit : ℕ} {scope : Scope} {s : Written} {c : Core} (i j : ℕ) → ReadsExplicitly es types scope s c → IsSmall es types scope s c
      → i ≡ size c → j ≡ depth c → Passes c → Stops es types limit scope s (fault.TooLarge i j)
  too_large {limit} {scope} {s} {c} i j r small a b p =
      let others : (inner : Scope) (q : Written) (d : Core) → IsPart es types scope s inner q → ReadsExplicitly es types inner q d → Passes d → d ≡ c
      = λ inner q d path e over. elim (small inner q d path e) [ inl same ↦ same | inr f ↦ absurd (fits_not_passes d f over) ] in
      let told : Stops es types limit scope s (fault.TooLarge (size c) (depth c)) = Stops.fails (Fails.refused {refusal = ReadingRefusal.TooLarge c} (refused_as (Refuses.too_large r p others))) in
      subst (λ n. Stops es types limit scope s (fault.TooLarge n j)) (sym a) (subst (λ n. Stops es types limit scope s (fault.TooLarge (size c) n)) (sym b) told)

  -- what comes of the core that the written term is read as
  pub outcome : (limit : ℕ) {scope : Scope} {s : Written} {c : Core} (result : Result Core ReadFault)
      → ReadsExplicitly es types scope s c → IsSmall es types scope s c → loose c ≤ length scope → IsMade c result → Outcome es types limit scope s result
  outcome limit {scope} {s} {c} (Ok made) r small l m = record {
    within = subst (ReadsWithin es types scope s) (sym m.0) (made_within r small m.1);
    over = subst (λ t. loose t ≤ length scope) (sym m.0) l;
  }
  outcome limit (Err (fault.TooLarge i j)) r small l m = too_large i j r small m.0 m.1 m.2
  outcome limit (Err fault.Memory) r small l m = Stops.memory
  outcome limit (Err (fault.UnknownName p n)) r small l m = absurd m
  outcome limit (Err (fault.UnknownGoal p n)) r small l m = absurd m
  outcome limit (Err (fault.NotSigma got)) r small l m = absurd m
  outcome limit (Err (fault.Budget left)) r small l m = absurd m
  outcome limit (Err (fault.Full held)) r small l m = absurd m

  -- the forms without parts
  pub named_is : (limit : ℕ) {scope : Scope} {p : Place} {n : ℕ} {c : Core} (result : Result Core ReadFault)
      → ReadsExplicitly es types scope (Written.Named p n) c → loose c ≤ length scope → IsMade c result
      → Outcome es types limit scope (Written.Named p n) result
  named_is limit {scope} {p} {n} {c} result r l m = outcome limit result r small l m
    where
      small : IsSmall es types scope (Written.Named p n) c
      small _ _ d Comes.here e = inl (one_core e r)

  pub unknown_name : {limit : ℕ} {scope : Scope} {p : Place} {n : ℕ} → local_named scope n ≡ None → entry_named es n ≡ None
      → Stops es types limit scope (Written.Named p n) (fault.UnknownName p n)
  unknown_name {p = p} {n = n} l e = Stops.fails (Fails.refused {refusal = ReadingRefusal.UnknownName p n} (refused_as (Refuses.unknown_name l e)))

  pub unknown_goal : {limit : ℕ} {scope : Scope} {p : Place} {n : ℕ} → Stops es types limit scope (Written.GoalAt p n) (fault.UnknownGoal p n)
  unknown_goal {p = p} {n = n} = Stops.fails (Fails.refused {refusal = ReadingRefusal.UnknownGoal p n} (refused_as Refuses.unknown_goal))

  -- a binder without a name
  pub nameless_is : (limit : ℕ) {scope : Scope} (kind : Kind) (mark : Mark) {s t : Written} {a b : Core} (result : Result Core ReadFault)
      → IsReading es types scope s a → IsReading es types (LocalVariable.Bound None ∷ scope) t b
      → IsMade (bind_core kind (binder None mark) a b) result → Outcome es types limit scope (Written.Bind kind mark [] s t) result
  nameless_is limit {scope} kind mark {s} {t} {a} {b} result ra rb m =
      outcome limit result reads small (let l = loose-bind kind (binder None mark) a b in omega (arith, ra.over, rb.over, l)) m
    where
      reads : ReadsExplicitly es types scope (Written.Bind kind mark [] s t) (bind_core kind (binder None mark) a b)
      reads = ReadsExplicitly.nameless ra.within.reads rb.within.reads

      small : IsSmall es types scope (Written.Bind kind mark [] s t) (bind_core kind (binder None mark) a b)
      small _ _ d Comes.here e = inl (one_core e reads)
      small inner q d (Comes.domain p) e = inr (ra.within.small inner q d p e)
      small inner q d (Comes.nameless_body x p) e = inr (rb.within.small inner q d p e)

  pub domain_stops : {limit : ℕ} {scope : Scope} {kind : Kind} {mark : Mark} {names : List ℕ} {s t : Written} {f : ReadFault}
      → Stops es types limit scope s f → Stops es types limit scope (Written.Bind kind mark names s t) f
  domain_stops h = stops_part (λ i q path. Comes.domain path) h

  pub nameless_stops : {limit : ℕ} {scope : Scope} {kind : Kind} {mark : Mark} {s t : Written} {a : Core} {f : ReadFault}
      → IsReading es types scope s a → Stops es types limit (LocalVariable.Bound None ∷ scope) t f
      → Stops es types limit scope (Written.Bind kind mark [] s t) f
  nameless_stops {a = a} ra h = stops_part (λ i q path. Comes.nameless_body (a, ra.within) path) h

  -- the first name of a binder
  pub named_bind_is : (limit : ℕ) {scope : Scope} (kind : Kind) (mark : Mark) {n : ℕ} (names : List ℕ) {s : Written} (t : Written) {a b : Core} (result : Result Core ReadFault)
      → IsReading es types scope s a → IsReading es types (LocalVariable.Bound (Some n) ∷ scope) (under_first kind mark names s t) b
      → IsMade (bind_core kind (binder (Some n) mark) a b) result → Outcome es types limit scope (Written.Bind kind mark (n ∷ names) s t) result
  named_bind_is limit {scope} kind mark {n} names {s} t {a} {b} result ra rb m =
      outcome limit result reads small (let l = loose-bind kind (binder (Some n) mark) a b in omega (arith, ra.over, rb.over, l)) m
    where
      reads : ReadsExplicitly es types scope (Written.Bind kind mark (n ∷ names) s t) (bind_core kind (binder (Some n) mark) a b)
      reads = ReadsExplicitly.named ra.within.reads rb.within.reads

      small : IsSmall es types scope (Written.Bind kind mark (n ∷ names) s t) (bind_core kind (binder (Some n) mark) a b)
      small _ _ d Comes.here e = inl (one_core e reads)
      small inner q d (Comes.domain p) e = inr (ra.within.small inner q d p e)
      small inner q d (Comes.named_body x p) e = inr (rb.within.small inner q d p e)

  pub named_bind_stops : {limit : ℕ} {scope : Scope} {kind : Kind} {mark : Mark} {n : ℕ} {names : List ℕ} {s t : Written} {a : Core} {f : ReadFault}
      → IsReading es types scope s a → Stops es types limit (LocalVariable.Bound (Some n) ∷ scope) (under_first kind mark names s t) f
      → Stops es types limit scope (Written.Bind kind mark (n ∷ names) s t) f
  named_bind_stops {a = a} ra h = stops_part (λ i q path. Comes.named_body (a, ra.within) path) h

  -- a local definition
  pub local_is : (limit : ℕ) {scope : Scope} {n : ℕ} {s t : Written} {m b : Core} (result : Result Core ReadFault)
      → IsReading es types scope s m → IsReading es types (LocalVariable.Defined n m ∷ scope) t b
      → IsMade (Let (binder (Some n) Plain) m b) result → Outcome es types limit scope (Written.Local n s t) result
  local_is limit {scope} {n} {s} {t} {m} {b} result rm rb made = outcome limit result reads small (omega (arith, rm.over, rb.over)) made
    where
      reads : ReadsExplicitly es types scope (Written.Local n s t) (Let (binder (Some n) Plain) m b)
      reads = ReadsExplicitly.local_definition rm.within.reads rb.within.reads

      small : IsSmall es types scope (Written.Local n s t) (Let (binder (Some n) Plain) m b)
      small _ _ d Comes.here e = inl (one_core e reads)
      small inner q d (Comes.value p) e = inr (rm.within.small inner q d p e)
      small inner q d (Comes.local_body x r p) e =
          inr (rb.within.small inner q d (subst (λ z. IsPart es types (LocalVariable.Defined n z ∷ scope) t inner q) (one_core r rm.within.reads) p) e)

  pub value_stops : {limit : ℕ} {scope : Scope} {n : ℕ} {s t : Written} {f : ReadFault}
      → Stops es types limit scope s f → Stops es types limit scope (Written.Local n s t) f
  value_stops h = stops_part (λ i q path. Comes.value path) h

  pub local_stops : {limit : ℕ} {scope : Scope} {n : ℕ} {s t : Written} {m : Core} {f : ReadFault}
      → IsReading es types scope s m → Stops es types limit (LocalVariable.Defined n m ∷ scope) t f
      → Stops es types limit scope (Written.Local n s t) f
  local_stops {m = m} rm h = stops_part (λ i q path. Comes.local_body (m, rm.within) rm.within.reads path) h

  -- an argument
  pub apply_is : (limit : ℕ) {scope : Scope} (mark : Mark) {s t : Written} {f a : Core} (result : Result Core ReadFault)
      → IsReading es types scope s f → IsReading es types scope t a → IsMade (App mark f a) result
      → Outcome es types limit scope (Written.Apply mark s t) result
  apply_is limit {scope} mark {s} {t} {f} {a} result rf ra made = outcome limit result reads small (omega (arith, rf.over, ra.over)) made
    where
      reads : ReadsExplicitly es types scope (Written.Apply mark s t) (App mark f a)
      reads = ReadsExplicitly.apply rf.within.reads ra.within.reads

      small : IsSmall es types scope (Written.Apply mark s t) (App mark f a)
      small _ _ d Comes.here e = inl (one_core e reads)
      small inner q d (Comes.function p) e = inr (rf.within.small inner q d p e)
      small inner q d (Comes.argument x p) e = inr (ra.within.small inner q d p e)

  pub function_stops : {limit : ℕ} {scope : Scope} {mark : Mark} {s t : Written} {f : ReadFault}
      → Stops es types limit scope s f → Stops es types limit scope (Written.Apply mark s t) f
  function_stops h = stops_part (λ i q path. Comes.function path) h

  pub argument_stops : {limit : ℕ} {scope : Scope} {mark : Mark} {s t : Written} {m : Core} {f : ReadFault}
      → IsReading es types scope s m → Stops es types limit scope t f → Stops es types limit scope (Written.Apply mark s t) f
  argument_stops {m = m} rm h = stops_part (λ i q path. Comes.argument (m, rm.within) path) h

  -- a projection
  pub project_is : (limit : ℕ) {scope : Scope} (part : Part) {s : Written} {m : Core} (result : Result Core ReadFault)
      → IsReading es types scope s m → IsMade (project_core part m) result → Outcome es types limit scope (Written.Project part s) result
  project_is limit {scope} part {s} {m} result rm made =
      outcome limit result reads small (let l = loose-project part m in omega (arith, rm.over, l)) made
    where
      reads : ReadsExplicitly es types scope (Written.Project part s) (project_core part m)
      reads = ReadsExplicitly.project rm.within.reads

      small : IsSmall es types scope (Written.Project part s) (project_core part m)
      small _ _ d Comes.here e = inl (one_core e reads)
      small inner q d (Comes.operand p) e = inr (rm.within.small inner q d p e)

  pub operand_stops : {limit : ℕ} {scope : Scope} {part : Part} {s : Written} {f : ReadFault}
      → Stops es types limit scope s f → Stops es types limit scope (Written.Project part s) f
  operand_stops h = stops_part (λ i q path. Comes.operand path) h

  -- a pair
  pub pair_is : (limit : ℕ) {scope : Scope} {x : Binder} {r s t : Written} {c a b m n : Core} (result : Result Core ReadFault)
      → IsReading es types scope t c → Annotates es scope c (Sigma x a b) → loose (Sigma x a b) ≤ length scope
      → IsReading es types scope r m → IsReading es types scope s n
      → IsMade (Pair x a b m n) result → Outcome es types limit scope (Written.Pair r s t) result
  pair_is limit {scope} {x} {r} {s} {t} {c} {a} {b} {m} {n} result rc k l rm rn made =
      outcome limit result reads small (omega (arith, l, rm.over, rn.over)) made
    where
      reads : ReadsExplicitly es types scope (Written.Pair r s t) (Pair x a b m n)
      reads = ReadsExplicitly.pair rc.within.reads k rm.within.reads rn.within.reads

      small : IsSmall es types scope (Written.Pair r s t) (Pair x a b m n)
      small _ _ d Comes.here e = inl (one_core e reads)
      small inner q d (Comes.pair_type p) e = inr (rc.within.small inner q d p e)
      small inner q d (Comes.pair_first y z w v p) e = inr (rm.within.small inner q d p e)
      small inner q d (Comes.pair_second y z w v u p) e = inr (rn.within.small inner q d p e)

  pub pair_type_stops : {limit : ℕ} {scope : Scope} {r s t : Written} {f : ReadFault}
      → Stops es types limit scope t f → Stops es types limit scope (Written.Pair r s t) f
  pair_type_stops h = stops_part (λ i q path. Comes.pair_type path) h

  pub annotation_stops : {limit : ℕ} {scope : Scope} {r s t : Written} {c : Core} {f : ReadFault}
      → IsReading es types scope t c → IsNotAnnotated es limit scope c f → Stops es types limit scope (Written.Pair r s t) f
  annotation_stops {scope} {c = c} rc (IsNotAnnotated.not_sigma k none) =
      Stops.fails (Fails.refused {refusal = ReadingRefusal.NotSigma scope c} (refused_as (Refuses.not_sigma rc.within k none)))
  annotation_stops rc (IsNotAnnotated.no_head_form none h) = Stops.fails (Fails.no_head_form Comes.here rc.within none h)
  annotation_stops rc IsNotAnnotated.memory = Stops.memory

  pub first_stops : {limit : ℕ} {scope : Scope} {x : Binder} {r s t : Written} {c a b : Core} {f : ReadFault}
      → IsReading es types scope t c → Annotates es scope c (Sigma x a b)
      → Stops es types limit scope r f → Stops es types limit scope (Written.Pair r s t) f
  first_stops {c = c} rc k h = stops_part (λ i q path. Comes.pair_first (c, rc.within) rc.within.reads k refl path) h

  pub second_stops : {limit : ℕ} {scope : Scope} {x : Binder} {r s t : Written} {c a b m : Core} {f : ReadFault}
      → IsReading es types scope t c → Annotates es scope c (Sigma x a b) → IsReading es types scope r m
      → Stops es types limit scope s f → Stops es types limit scope (Written.Pair r s t) f
  second_stops {c = c} {m = m} rc k rm h = stops_part (λ i q path. Comes.pair_second (c, rc.within) rc.within.reads k refl (m, rm.within) path) h

-- the forms without parts that need no entry
pub prop_is : (es : List Entry) (types : TypeVariables) (limit : ℕ) (scope : Scope) (result : Result Core ReadFault) → IsMade Prop result → Outcome es types limit scope Written.WrittenProp result
prop_is es types limit scope result m = outcome limit result ReadsExplicitly.prop small (omega arith) m
  where
    small : IsSmall es types scope Written.WrittenProp Prop
    small _ _ d Comes.here e = inl (one_core e ReadsExplicitly.prop)

pub any_type_is : (es : List Entry) (types : TypeVariables) (limit : ℕ) (scope : Scope) (p : Place) (u : ℕ) (result : Result Core ReadFault)
    → types p ≡ Some u → IsMade (Univ (variable_level u)) result → Outcome es types limit scope (Written.AnyType p) result
any_type_is es types limit scope p u result e m = outcome limit result (ReadsExplicitly.any_type e) small (omega arith) m
  where
    small : IsSmall es types scope (Written.AnyType p) (Univ (variable_level u))
    small _ _ d Comes.here r = inl (one_core r (ReadsExplicitly.any_type e))

pub type_at_is : (es : List Entry) (types : TypeVariables) (limit : ℕ) (scope : Scope) (n : ℕ) (result : Result Core ReadFault)
    → IsMade (Univ (fixed_level n)) result → Outcome es types limit scope (Written.TypeAt n) result
type_at_is es types limit scope n result m = outcome limit result ReadsExplicitly.type_at small (omega arith) m
  where
    small : IsSmall es types scope (Written.TypeAt n) (Univ (fixed_level n))
    small _ _ d Comes.here r = inl (one_core r ReadsExplicitly.type_at)

pub on_any : {T X P : Type 0} (r : Result T X) → P → OnOk r P
on_any (Ok x) p = p
on_any (Err e) p = tt
