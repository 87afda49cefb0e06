-- The places of a term, what is wanted there, and a core's shape. A node's number is its level variable.
use Rattle.std.specs.Prelude.{◌≡◌, ℕ, ◌+◌, ◌≤◌, ◌<◌, List, [], ◌∷◌}
use Rattle.lego_term.specs.declared.level.Level.{Level}
use Rattle.lego_term.specs.Trees.{Core, Prop, Univ, Pi, Lam, App, Sigma, Pair, Fst, Snd, Let, instantiate, at_zero}
use Rattle.lego_term.specs.declared.binder.Mark.{Mark}
use Rattle.lego_term.specs.declared.binder.Binder.{Binder}
use Rattle.lego_term.specs.Below.{Below}
use Rattle.lego_term.specs.Sequences.{HeadForm}
use Rattle.lego_laws.specs.Parallel.{TermBodies, bodies_valued}
use Rattle.lego_laws.specs.Entries.{Entry, core_bodies, IsHeld}
use Rattle.lego_laws.specs.Facing.{Cumulativity, IsAsked}
use Rattle.lego_laws.specs.Ranges.{raised_level}
use Rattle.lego_laws.specs.RuleTypes.{RuleType, nodes}

-- what a place wants of the term that stands there
pub data Want : Type 0 where
  Nothing AType AFunction APair : Want
  Stated : Core → Want

-- where a term stands: the types and the binders of its local variables, the innermost first, and the number of its first node
pub record Site : Type 0 where
  pub types : List Core
  pub binders : List Binder
  pub first : ℕ

-- the same site behind so many nodes, and under a binder
abbrev pub behind : ℕ → Site → Site
behind n s = record { types = s.types; binders = s.binders; first = s.first + n }

abbrev pub under : Binder → Core → Site → Site
under x a s = record { types = a ∷ s.types; binders = x ∷ s.binders; first = s.first + nodes a }

-- the rule type of a term at a site, where each node takes the level variable of its own number
abbrev pub RuleTypeAt : List Entry → Site → Core → Core → Type 0
RuleTypeAt es s m a = RuleType es (λ i. i) s.types s.first m a

-- the second term is a part of the first, of which this is wanted: its number in the order in which parts are checked, where
-- it stands, and what is wanted of it there; the parts of `Let x m n` are m, and n with m put in
pub data Part (es : List Entry) : Site → Core → Want → ℕ → Site → Core → Want → Type 0 where
  pi_domain : {s : Site} {w : Want} {x : Binder} {a b : Core} → Part es s (Pi x a b) w 0 (behind 1 s) a AType
  pi_body : {s : Site} {w : Want} {x : Binder} {a b : Core} → Part es s (Pi x a b) w 1 (under x a (behind 1 s)) b AType
  lam_domain : {s : Site} {w : Want} {x : Binder} {a m : Core} → Part es s (Lam x a m) w 0 s a AType
  lam_body : {s : Site} {w : Want} {x : Binder} {a m : Core} → Part es s (Lam x a m) w 1 (under x a s) m Nothing
  function : {s : Site} {w : Want} {k : Mark} {m n : Core} → Part es s (App k m n) w 0 s m AFunction
  argument : {s : Site} {w : Want} {k : Mark} {x : Binder} {m n a b t : Core}
      → RuleTypeAt es s m t → HeadForm (core_bodies es) t (Pi x a b) → Part es s (App k m n) w 1 (behind (nodes m) s) n (Stated a)
  sigma_domain : {s : Site} {w : Want} {x : Binder} {a b : Core} → Part es s (Sigma x a b) w 0 (behind 1 s) a AType
  sigma_body : {s : Site} {w : Want} {x : Binder} {a b : Core} → Part es s (Sigma x a b) w 1 (under x a (behind 1 s)) b AType
  pair_domain : {s : Site} {w : Want} {x : Binder} {a b m n : Core} → Part es s (Pair x a b m n) w 0 s a AType
  pair_body : {s : Site} {w : Want} {x : Binder} {a b m n : Core} → Part es s (Pair x a b m n) w 1 (under x a s) b AType
  pair_first : {s : Site} {w : Want} {x : Binder} {a b m n : Core}
      → Part es s (Pair x a b m n) w 2 (behind (nodes a + nodes b) s) m (Stated a)
  pair_second : {s : Site} {w : Want} {x : Binder} {a b m n : Core}
      → Part es s (Pair x a b m n) w 3 (behind (nodes a + nodes b + nodes m) s) n (Stated (instantiate b m))
  fst_operand : {s : Site} {w : Want} {m : Core} → Part es s (Fst m) w 0 s m APair
  snd_operand : {s : Site} {w : Want} {m : Core} → Part es s (Snd m) w 0 s m APair
  local_value : {s : Site} {w : Want} {x : Binder} {m n : Core} → Part es s (Let x m n) w 0 s m Nothing
  local_body : {s : Site} {w : Want} {x : Binder} {m n : Core} → Part es s (Let x m n) w 1 (behind (nodes m) s) (instantiate n m) w

-- the second term is the first or stands in it
pub data Within (es : List Entry) (s : Site) (n : Core) (w : Want) : Site → Core → Want → Type 0 where
  itself : Within es s n w s n w
  part : {s' s'' : Site} {n' n'' : Core} {w' w'' : Want} {i : ℕ}
      → Within es s n w s' n' w' → Part es s' n' w' i s'' n'' w'' → Within es s n w s'' n'' w''

-- what is wanted of a whole core: any type, to be a type, this type, or this type that is written with it and checked too
pub data Aim : Type 0 where
  AnyType BeAType : Aim
  OfType OfWrittenType : Core → Aim

abbrev pub want_of : Aim → Want
want_of AnyType = Nothing
want_of BeAType = AType
want_of (OfType a) = Stated a
want_of (OfWrittenType a) = Stated a

-- a core that is to be typed: over these entries, at this site, with what is wanted of it
pub record Task : Type 0 where
  pub entries : List Entry
  pub site : Site
  pub core : Core
  pub aim : Aim

-- the type that a place states
abbrev pub stated_in : Want → List Core
stated_in (Stated a) = a ∷ []
stated_in _ = []

-- the level variables from the site's number on are new: none of the entries, the local types, the core and the stated type
-- holds one
abbrev pub IsNew : Task → Type 0
IsNew t = (u : ℕ) → t.site.first ≤ u → IsHeld u t.entries t.site.types (t.core ∷ stated_in (want_of t.aim)) → ⊥

-- the site of a written type, whose nodes are numbered on behind those of the core
abbrev pub type_site : Task → Site
type_site t = behind (nodes t.core) t.site

-- how many new level variables the check may take: one for each universe, product and Sigma type of what it checks
abbrev pub allowance : Task → ℕ
allowance t = nodes t.core + of_written t.aim
  where
    of_written : Aim → ℕ
    of_written (OfWrittenType a) = nodes a
    of_written _ = 0

-- the term stands in the core, or in the type that is written with it
pub data Stands (t : Task) (s : Site) (n : Core) (w : Want) : Type 0 where
  in_core : Within t.entries t.site t.core (want_of t.aim) s n w → Stands t s n w
  in_written : {a : Core} → t.aim ≡ OfWrittenType a → Within t.entries (type_site t) a AType s n w → Stands t s n w

-- at a place of a stated type: the rule type of the term there, and the stated type
pub record WantedPair (t : Task) (s : Site) (term have stated : Core) : Type 0 where
  pub stands : Stands t s term (Stated stated)
  pub rule : RuleTypeAt t.entries s term have

-- the head form is of the form that a place of another kind wants
pub data Fulfils : Want → Core → Type 0 where
  a_prop : Fulfils AType Prop
  a_universe : {l : Level} → Fulfils AType (Univ l)
  a_function : {x : Binder} {a b : Core} → Fulfils AFunction (Pi x a b)
  a_pair : {x : Binder} {a b : Core} → Fulfils APair (Sigma x a b)

-- a type, a function or a pair is wanted
pub data WantsHead : Want → Type 0 where
  a_type : WantsHead AType
  a_function : WantsHead AFunction
  a_pair : WantsHead APair

-- at a place of such a kind: the rule type of the term there
pub record WantedHead (t : Task) (s : Site) (term : Core) (wanted : Want) (got : Core) : Type 0 where
  pub kind : WantsHead wanted
  pub stands : Stands t s term wanted
  pub rule : RuleTypeAt t.entries s term got

-- the term is a product or a Sigma type
pub data IsFormer : Core → Type 0 where
  a_product : {x : Binder} {a b : Core} → IsFormer (Pi x a b)
  a_sigma : {x : Binder} {a b : Core} → IsFormer (Sigma x a b)

-- The constraints of the core, low <= high: a universe is below that of its rule type, a part of a product or of a Sigma type is
-- at most the universe of the whole, and a wanted pair asks what it asks.
pub data IsConstraintOfCore (t : Task) : Level → Level → Type 0 where
  universe : {s : Site} {l m : Level} {w : Want}
      → Stands t s (Univ l) w → RuleTypeAt t.entries s (Univ l) (Univ m) → IsConstraintOfCore t (raised_level l) m
  part : {s s' : Site} {n n' a : Core} {l m : Level} {w : Want} {i : ℕ}
      → Stands t s n w → IsFormer n → RuleTypeAt t.entries s n (Univ m) → Part t.entries s n w i s' n' AType
      → RuleTypeAt t.entries s' n' a → HeadForm (core_bodies t.entries) a (Univ l) → IsConstraintOfCore t l m
  wanted : {s : Site} {n have stated : Core} {low high : Level}
      → WantedPair t s n have stated → IsAsked Cumulativity (core_bodies t.entries) have stated low high → IsConstraintOfCore t low high

-- the bodies with every level, fixed ones too, put to 0
abbrev pub bodies_at_zero : List Entry → TermBodies
bodies_at_zero es = bodies_valued (λ l. 0) (core_bodies es)

-- a is below b with every level in both and in the bodies put to 0
abbrev pub BelowAtZero : List Entry → Core → Core → Type 0
BelowAtZero es a b = Below (bodies_at_zero es) (at_zero a) (at_zero b)

-- the term has a head form, and it is of the form that the place wants
abbrev pub IsFulfilled : List Entry → Want → Core → Type 0
IsFulfilled es w got = (h : Core) × HeadForm (core_bodies es) got h × Fulfils w h

-- in the term at a place each wanted head has the form that its place wants, and each wanted pair is below with every
-- level put to 0
pub record IsShaped (es : List Entry) (s : Site) (n : Core) (w : Want) : Type 0 where
  pub heads : {s' : Site} {n' got : Core} {w' : Want}
      → Within es s n w s' n' w' → WantsHead w' → RuleTypeAt es s' n' got → IsFulfilled es w' got
  pub pairs : {s' : Site} {n' have stated : Core}
      → Within es s n w s' n' (Stated stated) → RuleTypeAt es s' n' have → BelowAtZero es have stated

-- the core and the type written with it have their shape
pub record HasShape (t : Task) : Type 0 where
  pub core : IsShaped t.entries t.site t.core (want_of t.aim)
  pub written : (a : Core) → t.aim ≡ OfWrittenType a → IsShaped t.entries (type_site t) a AType

-- each part whose number is below this one is shaped, and all parts are
pub record AreShaped (es : List Entry) (s : Site) (n : Core) (w : Want) (end : ℕ) : Type 0 where
  pub parts : {s' : Site} {n' : Core} {w' : Want} {i : ℕ} → Part es s n w i s' n' w' → i < end → IsShaped es s' n' w'

abbrev pub ArePartsShaped : List Entry → Site → Core → Want → Type 0
ArePartsShaped es s n w = AreShaped es s n w 4

-- The check comes to a term: all that is checked before it is shaped. A written type comes behind the core's parts. Of a body of
-- a local definition nothing is wanted yet: what is wanted of the whole is asked of the whole, behind its parts.
pub data Comes (t : Task) : Site → Core → Want → Type 0 where
  root : Comes t t.site t.core (want_of t.aim)
  written : {a : Core} → t.aim ≡ OfWrittenType a → ArePartsShaped t.entries t.site t.core Nothing → Comes t (type_site t) a AType
  part : {s s' : Site} {n n' : Core} {w w' : Want} {i : ℕ}
      → Comes t s n w → Part t.entries s n Nothing i s' n' w' → AreShaped t.entries s n Nothing i → Comes t s' n' w'

-- The check comes to what a place wants of the term there: the term's parts are shaped too, and at the root a written type.
pub data IsReached (t : Task) : Site → Core → Want → Type 0 where
  root : ArePartsShaped t.entries t.site t.core Nothing
      → ((a : Core) → t.aim ≡ OfWrittenType a → IsShaped t.entries (type_site t) a AType) → IsReached t t.site t.core (want_of t.aim)
  written : {a : Core}
      → t.aim ≡ OfWrittenType a → ArePartsShaped t.entries t.site t.core Nothing → ArePartsShaped t.entries (type_site t) a Nothing
      → IsReached t (type_site t) a AType
  part : {s s' : Site} {n n' : Core} {w w' : Want} {i : ℕ}
      → Comes t s n w → Part t.entries s n Nothing i s' n' w' → AreShaped t.entries s n Nothing i → ArePartsShaped t.entries s' n' Nothing
      → IsReached t s' n' w'
