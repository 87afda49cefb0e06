-- Constraints of a term whose new level variables are those of a range.
use Rattle.std.specs.Prelude.{◌≡◌, ℕ, suc, ◌≤◌, Option, Some, None, List, [], ◌∷◌, ◌⊎◌, max, map, get_or}
use Rattle.lego_term.specs.declared.level.Level.{Level}
use Rattle.lego_term.specs.Levels.{Assignment, LevelPair, SatisfiesAll}
use Rattle.lego_term.specs.Trees.{Core, Term, Var, Const, Prop, Univ, Pi, Lam, App, Sigma, Pair, Fst, Snd, instantiate, at, Let}
use Rattle.lego_term.specs.Below.{Below}
use Rattle.lego_laws.specs.Parallel.{TermBodies, CoreBodies, AreClosed, bodies_at}
use Rattle.lego_laws.specs.Derivations.{HasLocal, Derives, ValidLocals, ValidConstants}

-- the bound on the level variables: each is below it
abbrev pub node_bound : Option ℕ → ℕ
node_bound None = 0
node_bound (Some u) = suc u

abbrev pub level_bound : Level → ℕ
level_bound l = node_bound l.base

abbrev pub levels_bound : Core → ℕ
levels_bound (Var i) = 0
levels_bound (Const k) = 0
levels_bound Prop = 0
levels_bound (Univ l) = level_bound l
levels_bound (Pi x a r) = max (levels_bound a) (levels_bound r)
levels_bound (Lam x a m) = max (levels_bound a) (levels_bound m)
levels_bound (App k m n) = max (levels_bound m) (levels_bound n)
levels_bound (Sigma x a r) = max (levels_bound a) (levels_bound r)
levels_bound (Let x a r) = max (levels_bound a) (levels_bound r)
levels_bound (Pair x a r m n) = max (max (levels_bound a) (levels_bound r)) (max (levels_bound m) (levels_bound n))
levels_bound (Fst m) = levels_bound m
levels_bound (Snd m) = levels_bound m

abbrev pub pairs_bound : List LevelPair → ℕ
pairs_bound [] = 0
pairs_bound (k ∷ ks) = max (max (level_bound k.low) (level_bound k.high)) (pairs_bound ks)

abbrev pub locals_bound : List Core → ℕ
locals_bound [] = 0
locals_bound (a ∷ g) = max (levels_bound a) (locals_bound g)

-- two assignments are alike on the variables below a number
pub record Agree (n : ℕ) (v w : Assignment) : Type 0 where
  pub same : (u : ℕ) → suc u ≤ n → get_or v u 0 ≡ get_or w u 0

-- the typing rules, where each rule's universe is at most t, and the last rule asks nothing of the new type
pub data Bounded (t : ℕ) (c b : TermBodies) : List Term → Term → Term → Type 0 where
  b_prop : {g : List Term} → Bounded t c b g Prop (Univ 0)
  b_univ : {g : List Term} {j : ℕ} → suc j ≤ t → Bounded t c b g (Univ j) (Univ (suc j))
  b_var : {g : List Term} {i : ℕ} {a : Term} → HasLocal g i a → Bounded t c b g (Var i) a
  b_const : {g : List Term} {k : ℕ} {a : Term} → c k ≡ Some a → Bounded t c b g (Const k) a
  b_pi_prop : {g : List Term} {a p : Term} {j : ℕ} → Bounded t c b g a (Univ j) → Bounded t c b (a ∷ g) p Prop → Bounded t c b g (Pi tt a p) Prop
  b_pi : {g : List Term} {a r : Term} {j : ℕ}
      → j ≤ t → Bounded t c b g a (Univ j) → Bounded t c b (a ∷ g) r (Univ j) → Bounded t c b g (Pi tt a r) (Univ j)
  b_lam : {g : List Term} {a r m : Term} {j : ℕ} → Bounded t c b g a (Univ j) → Bounded t c b (a ∷ g) m r → Bounded t c b g (Lam tt a m) (Pi tt a r)
  b_app : {g : List Term} {a r m n : Term} → Bounded t c b g m (Pi tt a r) → Bounded t c b g n a → Bounded t c b g (App tt m n) (instantiate r n)
  b_sigma : {g : List Term} {a r : Term} {j : ℕ}
      → j ≤ t → Bounded t c b g a (Univ j) → Bounded t c b (a ∷ g) r (Univ j) → Bounded t c b g (Sigma tt a r) (Univ j)
  b_pair : {g : List Term} {a r m n : Term} {i j : ℕ}
      → Bounded t c b g a (Univ i) → Bounded t c b (a ∷ g) r (Univ j) → Bounded t c b g m a → Bounded t c b g n (instantiate r m)
      → Bounded t c b g (Pair tt a r m n) (Sigma tt a r)
  b_fst : {g : List Term} {a r m : Term} → Bounded t c b g m (Sigma tt a r) → Bounded t c b g (Fst m) a
  b_snd : {g : List Term} {a r m : Term} → Bounded t c b g m (Sigma tt a r) → Bounded t c b g (Snd m) (instantiate r (Fst m))
  b_let : {g : List Term} {a q m n : Term} → Bounded t c b g m a → Bounded t c b g (instantiate n m) q → Bounded t c b g (Let tt m n) q
  b_cum : {g : List Term} {m a a' : Term} → Bounded t c b g m a → Below b a a' → Bounded t c b g m a'

-- what such a derivation says of the parts of its term, by the term's form
abbrev pub GeneratedUpTo : ℕ → TermBodies → TermBodies → List Term → Term → Term → Type 0
GeneratedUpTo t c b g (Var i) q = (a : Term) × HasLocal g i a × Below b a q
GeneratedUpTo t c b g (Const k) q = (a : Term) × (c k ≡ Some a) × Below b a q
GeneratedUpTo t c b g Prop q = Below b (Univ 0) q
GeneratedUpTo t c b g (Univ l) q = (suc l ≤ t) × Below b (Univ (suc l)) q
GeneratedUpTo t c b g (Pi x a r) q =
    (j : ℕ) × Bounded t c b g a (Univ j)
    × ((Bounded t c b (a ∷ g) r Prop × Below b Prop q) ⊎ ((j ≤ t) × Bounded t c b (a ∷ g) r (Univ j) × Below b (Univ j) q))
GeneratedUpTo t c b g (Lam x a m) q = (j : ℕ) × (r : Term) × Bounded t c b g a (Univ j) × Bounded t c b (a ∷ g) m r × Below b (Pi tt a r) q
GeneratedUpTo t c b g (App k m n) q =
    (a : Term) × (r : Term) × Bounded t c b g m (Pi tt a r) × Bounded t c b g n a × Below b (instantiate r n) q
GeneratedUpTo t c b g (Sigma x a r) q =
    (j : ℕ) × (j ≤ t) × Bounded t c b g a (Univ j) × Bounded t c b (a ∷ g) r (Univ j) × Below b (Univ j) q
GeneratedUpTo t c b g (Pair x a r m n) q =
    (i : ℕ) × (j : ℕ) × Bounded t c b g a (Univ i) × Bounded t c b (a ∷ g) r (Univ j) × Bounded t c b g m a
    × Bounded t c b g n (instantiate r m) × Below b (Sigma tt a r) q
GeneratedUpTo t c b g (Fst m) q = (a : Term) × (r : Term) × Bounded t c b g m (Sigma tt a r) × Below b a q
GeneratedUpTo t c b g (Snd m) q = (a : Term) × (r : Term) × Bounded t c b g m (Sigma tt a r) × Below b (instantiate r (Fst m)) q
GeneratedUpTo t c b g (Let x m n) q = (a : Term) × (p : Term) × Bounded t c b g m a × Bounded t c b g (instantiate n m) p × Below b p q

-- constants and locals over the level variables below n, valid wherever the held constraints are satisfied
pub record Context (n : ℕ) (c b : CoreBodies) (held : List LevelPair) (g : List Core) : Type 0 where
  pub types_within : (k : ℕ) (a : Core) → c k ≡ Some a → levels_bound a ≤ n
  pub bodies_within : (k : ℕ) (t : Core) → b k ≡ Some t → levels_bound t ≤ n
  pub locals_within : locals_bound g ≤ n
  pub held_within : pairs_bound held ≤ n
  pub closed_types : AreClosed c
  pub closed_bodies : AreClosed b
  pub valid : (v : Assignment) → SatisfiesAll v held → ValidConstants (bodies_at v c) (bodies_at v b)
  pub locals : (v : Assignment) → SatisfiesAll v held → ValidLocals (bodies_at v c) (bodies_at v b) (map (at v) g)

-- an assignment that is v on the variables below low, at most t on the others, satisfies k, and has a below q
pub record Solution (low : ℕ) (v : Assignment) (b : CoreBodies) (k : List LevelPair) (a : Core) (q : Term) (t : ℕ) : Type 0 where
  pub w : Assignment
  pub agree : Agree low v w
  pub satisfies : SatisfiesAll w k
  pub below : Below (bodies_at v b) (at w a) q
  pub small : (u : ℕ) → low ≤ u → get_or w u 0 ≤ t

-- k fits m : a, where the level variables from low on are new, and those in sight are below high
pub record FitsBetween (low high : ℕ) (c b : CoreBodies) (held : List LevelPair) (g : List Core) (m a : Core) (k : List LevelPair) : Type 0 where
  pub grows : low ≤ high
  pub type_within : levels_bound a ≤ high
  pub pairs_within : pairs_bound k ≤ high
  pub sound : (v : Assignment) → SatisfiesAll v held → SatisfiesAll v k → Derives (bodies_at v c) (bodies_at v b) (map (at v) g) (at v m) (at v a)
  pub principal : (v : Assignment) → SatisfiesAll v held → (t : ℕ) (q : Term) → Bounded t (bodies_at v c) (bodies_at v b) (map (at v) g) (at v m) q
      → Solution low v b k a q t

-- the same for a wanted type a over the variables below low
pub record FitsWantedBetween (low high : ℕ) (c b : CoreBodies) (held : List LevelPair) (g : List Core) (m a : Core) (k : List LevelPair) : Type 0 where
  pub grows : low ≤ high
  pub pairs_within : pairs_bound k ≤ high
  pub sound : (v : Assignment) → SatisfiesAll v held → SatisfiesAll v k → Derives (bodies_at v c) (bodies_at v b) (map (at v) g) (at v m) (at v a)
  pub principal : (v : Assignment) → SatisfiesAll v held → (t : ℕ)
      → Bounded t (bodies_at v c) (bodies_at v b) (map (at v) g) (at v m) (at v a) → Solution low v b k a (at v a) t

-- the same for a type a that is written with m, and is to be a type itself: from a bounded derivation of each
pub record FitsWrittenBetween (low high : ℕ) (c b : CoreBodies) (held : List LevelPair) (g : List Core) (m a : Core) (k : List LevelPair) : Type 0 where
  pub grows : low ≤ high
  pub pairs_within : pairs_bound k ≤ high
  pub sound : (v : Assignment) → SatisfiesAll v held → SatisfiesAll v k → Derives (bodies_at v c) (bodies_at v b) (map (at v) g) (at v m) (at v a)
  pub is_type : (v : Assignment) → SatisfiesAll v held → SatisfiesAll v k → (j : ℕ) × Derives (bodies_at v c) (bodies_at v b) (map (at v) g) (at v a) (Univ j)
  pub principal : (v : Assignment) → SatisfiesAll v held → (t j : ℕ)
      → Bounded t (bodies_at v c) (bodies_at v b) (map (at v) g) (at v m) (at v a)
      → Bounded t (bodies_at v c) (bodies_at v b) (map (at v) g) (at v a) (Univ j) → Solution low v b k a (at v a) t

-- `Prop`, or a universe
abbrev pub sort_term : Option Level → Core
sort_term None = Prop
sort_term (Some l) = Univ l

-- the sort is at most the level
abbrev pub sort_at_most : Option Level → Level → List LevelPair
sort_at_most None w = []
sort_at_most (Some l) w = record { low = l; high = w } ∷ []

-- one more
abbrev pub raised_level : Level → Level
raised_level l = record { base = l.base; plus = suc l.plus }
