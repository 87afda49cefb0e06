-- A written term that is refused while it is read has no core.
use Rattle.std.proofs.Common.{◌≡◌, ℕ, inl, inr, true, false, Option, Some, None, List, ◌∷◌, refl, sym, ap, ◌∙◌, subst, arith}
use Rattle.std.proofs.lemmas.Bool.{false≢true}
use Rattle.lego_base.specs.declared.place.Place.{Place}
use Rattle.lego_term.specs.Trees.{Core, Sigma}
use Rattle.lego_term.specs.Made.{Fits, Passes}
use Rattle.lego_laws.specs.Entries.{Entry}
use Rattle.lego_grammar.specs.Written.{Written}
use Rattle.lego_grammar.specs.Scopes.{LocalVariable, Scope, TypeVariables, local_named, entry_named}
use Rattle.lego_grammar.specs.Reading.{is_sigma, Annotates, ReadsExplicitly}
use Rattle.lego_grammar.specs.ReadingOrder.{Comes, IsPart, Reaches, ReadsWithin, ReadingRefusal, NotSigma, TooLarge, Refuses}
use Rattle.lego_grammar.specs.ReadingLaws.{RefusalsExcludeReading, OneReadingRefusal}
use Rattle.lego_grammar.proofs.ReadOnce.{one_core, one_annotation}

not_both : {X : Type 0} {o : Option X} {t : X} → o ≡ Some t → o ≡ None → ⊥
not_both p q = let e = sym p ∙ q in cc

module _ {es : List Entry} {types : TypeVariables} {Before : Scope → Written → Type 0} where
  -- the part to which a reading comes is a part
  pub is_part : {scope inner : Scope} {s r : Written} → Comes es types Before scope s inner r → IsPart es types scope s inner r
  is_part Comes.here = Comes.here
  is_part (Comes.domain p) = Comes.domain (is_part p)
  is_part (Comes.nameless_body b p) = Comes.nameless_body tt (is_part p)
  is_part (Comes.named_body b p) = Comes.named_body tt (is_part p)
  is_part (Comes.value p) = Comes.value (is_part p)
  is_part (Comes.local_body b r p) = Comes.local_body tt r (is_part p)
  is_part (Comes.function p) = Comes.function (is_part p)
  is_part (Comes.argument b p) = Comes.argument tt (is_part p)
  is_part (Comes.pair_type p) = Comes.pair_type (is_part p)
  is_part (Comes.pair_first b r a e p) = Comes.pair_first tt r a e (is_part p)
  is_part (Comes.pair_second b r a e b' p) = Comes.pair_second tt r a e tt (is_part p)
  is_part (Comes.operand p) = Comes.operand (is_part p)

  -- where a written term is read, each part of it is
  pub part_is_read : {scope inner : Scope} {s r : Written} {c : Core}
      → Comes es types Before scope s inner r → ReadsExplicitly es types scope s c → (d : Core) × ReadsExplicitly es types inner r d
  part_is_read Comes.here r = (_, r)
  part_is_read (Comes.domain p) (ReadsExplicitly.nameless r t) = part_is_read p r
  part_is_read (Comes.domain p) (ReadsExplicitly.named r t) = part_is_read p r
  part_is_read (Comes.nameless_body b p) (ReadsExplicitly.nameless r t) = part_is_read p t
  part_is_read (Comes.named_body b p) (ReadsExplicitly.named r t) = part_is_read p t
  part_is_read (Comes.value p) (ReadsExplicitly.local_definition r b) = part_is_read p r
  part_is_read {scope} (Comes.local_body {n = n} {t = t} before q p) (ReadsExplicitly.local_definition {b = core} r b) =
      part_is_read p (subst (λ z. ReadsExplicitly es types (LocalVariable.Defined n z ∷ scope) t core) (one_core r q) b)
  part_is_read (Comes.function p) (ReadsExplicitly.apply r t) = part_is_read p r
  part_is_read (Comes.argument b p) (ReadsExplicitly.apply r t) = part_is_read p t
  part_is_read (Comes.pair_type p) (ReadsExplicitly.pair t a r s) = part_is_read p t
  part_is_read (Comes.pair_first b q a e p) (ReadsExplicitly.pair t a' r s) = part_is_read p r
  part_is_read (Comes.pair_second b q a e b' p) (ReadsExplicitly.pair t a' r s) = part_is_read p s
  part_is_read (Comes.operand p) (ReadsExplicitly.project r) = part_is_read p r

too_large : (c : Core) → Fits c → Passes c → ⊥
too_large c f (inl p) = omega (arith, f.0)
too_large c f (inr p) = omega (arith, f.1)

module _ {es : List Entry} {types : TypeVariables} where
  -- what is read is refused only as too large
  pub read_refusal : {scope : Scope} {s : Written} {c : Core} {x : ReadingRefusal}
      → ReadsExplicitly es types scope s c → Refuses es types scope s x → (x ≡ TooLarge c) × Passes c
  read_refusal (ReadsExplicitly.local p) (Refuses.unknown_name l e) = absurd (not_both p l)
  read_refusal (ReadsExplicitly.entry p q) (Refuses.unknown_name l e) = absurd (not_both q e)
  read_refusal r Refuses.unknown_goal = elim r [ ]
  read_refusal {scope} (ReadsExplicitly.pair {x = x} {a = a} {b = b} t k m n) (Refuses.not_sigma within l no_sigma) =
      let e = one_core t within.reads in
      let same = one_annotation (subst (λ z. Annotates es scope z (Sigma x a b)) e k) l in
      absurd (false≢true (sym no_sigma ∙ sym (ap is_sigma same)))
  read_refusal r (Refuses.too_large q p others) = let e = one_core q r in (ap TooLarge e, subst Passes e p)

  unread_name : {scope : Scope} {p : Place} {n : ℕ} {c : Core}
      → ReadsExplicitly es types scope (Written.Named p n) c → local_named scope n ≡ None → entry_named es n ≡ None → ⊥
  unread_name (ReadsExplicitly.local p) l e = not_both p l
  unread_name (ReadsExplicitly.entry p q) l e = not_both q e

  no_pair : {scope : Scope} {t : Written} {c d a b : Core}
      → ReadsWithin es types scope t c → Annotates es scope c a → is_sigma a ≡ false
      → ReadsExplicitly es types scope t d → Annotates es scope d b → is_sigma b ≡ true → ⊥
  no_pair {scope} {b = b} w k none r l some =
      let same = one_annotation k (subst (λ z. Annotates es scope z b) (one_core r w.reads) l) in
      false≢true (sym none ∙ (ap is_sigma same ∙ some))

  -- where a written term is read within the limits, none of its parts is refused
  pub never_refused : {scope inner : Scope} {s r : Written} {c : Core} {x : ReadingRefusal}
      → ReadsWithin es types scope s c → Reaches es types scope s inner r → Refuses es types inner r x → ⊥
  never_refused {inner = inner} {r = r} within path x =
      let d = part_is_read path within.reads in
      too_large d.0 (within.small inner r d.0 (is_part path) d.1) (read_refusal d.1 x).1

  -- a part that is refused itself comes before its own parts
  first_here : {scope inner : Scope} {s r : Written} {x y : ReadingRefusal}
      → Refuses es types scope s x → Reaches es types scope s inner r → Refuses es types inner r y → x ≡ y
  first_here (Refuses.unknown_name l e) Comes.here (Refuses.unknown_name l' e') = refl
  first_here (Refuses.unknown_name l e) Comes.here (Refuses.too_large r p others) = absurd (unread_name r l e)
  first_here Refuses.unknown_goal Comes.here Refuses.unknown_goal = refl
  first_here Refuses.unknown_goal Comes.here (Refuses.too_large r p others) = elim r [ ]
  first_here {scope} (Refuses.not_sigma w a none) Comes.here (Refuses.not_sigma w' a' none') = ap (NotSigma scope) (one_core w.reads w'.reads)
  first_here (Refuses.not_sigma w a none) Comes.here (Refuses.too_large r p others) = (read_refusal r (Refuses.not_sigma w a none)).0
  first_here (Refuses.not_sigma w a none) (Comes.pair_type path) y = absurd (never_refused w path y)
  first_here (Refuses.not_sigma w a none) (Comes.pair_first b r k e path) y = absurd (no_pair w a none r k e)
  first_here (Refuses.not_sigma w a none) (Comes.pair_second b r k e b' path) y = absurd (no_pair w a none r k e)
  first_here {inner = inner} {r = r} (Refuses.too_large q p others) path y =
      let d = part_is_read path q in
      let z = read_refusal d.1 y in
      ap TooLarge (sym (others inner r d.0 (is_part path) d.1 z.1)) ∙ sym z.0

  -- of two refused parts the one that comes first is the other
  pub one_refusal : {scope i j : Scope} {s r q : Written} {x y : ReadingRefusal}
      → Reaches es types scope s i r → Refuses es types i r x → Reaches es types scope s j q → Refuses es types j q y → x ≡ y
  one_refusal Comes.here x path y = first_here x path y
  one_refusal path x Comes.here y = sym (first_here y path x)
  one_refusal (Comes.domain p) x (Comes.domain q) y = one_refusal p x q y
  one_refusal (Comes.domain p) x (Comes.nameless_body b q) y = absurd (never_refused b.1 p x)
  one_refusal (Comes.domain p) x (Comes.named_body b q) y = absurd (never_refused b.1 p x)
  one_refusal (Comes.nameless_body b p) x (Comes.domain q) y = absurd (never_refused b.1 q y)
  one_refusal (Comes.nameless_body b p) x (Comes.nameless_body b' q) y = one_refusal p x q y
  one_refusal (Comes.named_body b p) x (Comes.domain q) y = absurd (never_refused b.1 q y)
  one_refusal (Comes.named_body b p) x (Comes.named_body b' q) y = one_refusal p x q y
  one_refusal (Comes.value p) x (Comes.value q) y = one_refusal p x q y
  one_refusal (Comes.value p) x (Comes.local_body b r q) y = absurd (never_refused b.1 p x)
  one_refusal (Comes.local_body b r p) x (Comes.value q) y = absurd (never_refused b.1 q y)
  one_refusal {scope} {j = j} {q = f} (Comes.local_body {n = n} {t = t} b r p) x (Comes.local_body b' r' q) y =
      one_refusal p x (subst (λ z. Reaches es types (LocalVariable.Defined n z ∷ scope) t j f) (one_core r' r) q) y
  one_refusal (Comes.function p) x (Comes.function q) y = one_refusal p x q y
  one_refusal (Comes.function p) x (Comes.argument b q) y = absurd (never_refused b.1 p x)
  one_refusal (Comes.argument b p) x (Comes.function q) y = absurd (never_refused b.1 q y)
  one_refusal (Comes.argument b p) x (Comes.argument b' q) y = one_refusal p x q y
  one_refusal (Comes.pair_type p) x (Comes.pair_type q) y = one_refusal p x q y
  one_refusal (Comes.pair_type p) x (Comes.pair_first b r a e q) y = absurd (never_refused b.1 p x)
  one_refusal (Comes.pair_type p) x (Comes.pair_second b r a e b' q) y = absurd (never_refused b.1 p x)
  one_refusal (Comes.pair_first b r a e p) x (Comes.pair_type q) y = absurd (never_refused b.1 q y)
  one_refusal (Comes.pair_first b r a e p) x (Comes.pair_first c r' a' e' q) y = one_refusal p x q y
  one_refusal (Comes.pair_first b r a e p) x (Comes.pair_second c r' a' e' c' q) y = absurd (never_refused c'.1 p x)
  one_refusal (Comes.pair_second b r a e b' p) x (Comes.pair_type q) y = absurd (never_refused b.1 q y)
  one_refusal (Comes.pair_second b r a e b' p) x (Comes.pair_first c r' a' e' q) y = absurd (never_refused b'.1 q y)
  one_refusal (Comes.pair_second b r a e b' p) x (Comes.pair_second c r' a' e' c' q) y = one_refusal p x q y
  one_refusal (Comes.operand p) x (Comes.operand q) y = one_refusal p x q y

pub refusals_exclude_reading : RefusalsExcludeReading
refusals_exclude_reading es types scope s refusal c h w = never_refused w h.reached h.refuses

pub one_reading_refusal : OneReadingRefusal
one_reading_refusal es types scope s one other g h = one_refusal g.reached g.refuses h.reached h.refuses
