-- The rule type of a term, which is read off its form and checks nothing.
use Rattle.std.specs.Prelude.{◌≡◌, ℕ, suc, ◌+◌, ◌≤◌, List, [], ◌∷◌, Some, slice_get}
use Rattle.lego_term.specs.Levels.{fixed_level, variable_level}
use Rattle.lego_term.specs.declared.level.Level.{Level}
use Rattle.lego_term.specs.Trees.{Tree, Core, Var, Const, Prop, Univ, Pi, Lam, App, Sigma, Pair, Fst, Snd, Let, lift, instantiate}
use Rattle.lego_term.specs.declared.binder.Mark.{Mark}
use Rattle.lego_term.specs.declared.binder.Binder.{Binder}
use Rattle.lego_term.specs.Sequences.{HeadForm}
use Rattle.lego_term.specs.Weight.{Counting, count_of}
use Rattle.lego_laws.specs.Entries.{Entry, entry_of, core_bodies, IsHeld}

-- The number of universes, products and Sigma types in a term, where those of `Let x m n` are those of m and of n with m
-- put in: its nodes, each of which may take a level variable of its own.
abbrev pub node_counting : Counting
node_counting = record { leaf = 0; universe = 1; product = 1; node = 0; join = λ m n. m + n }

abbrev pub nodes : {B M L : Type 0} → Tree B M L → ℕ
nodes = count_of node_counting

-- A is the rule type of m over the entries and the local types, the innermost first. The nodes of m are numbered from n on,
-- a node before its parts and these left to right, and node i takes the level variable w i.
pub data RuleType (es : List Entry) (w : ℕ → ℕ) : List Core → ℕ → Core → Core → Type 0 where
  variable : {g : List Core} {n i : ℕ} {a : Core} → slice_get g i ≡ Some a → RuleType es w g n (Var i) (lift 0 (suc i) a)
  constant : {g : List Core} {n k : ℕ} {e : Entry} → entry_of es k ≡ Some e → RuleType es w g n (Const k) e.ty
  prop : {g : List Core} {n : ℕ} → RuleType es w g n Prop (Univ (fixed_level 0))
  universe : {g : List Core} {n : ℕ} {l : Level} → RuleType es w g n (Univ l) (Univ (variable_level (w n)))
  pi_prop : {g : List Core} {n : ℕ} {x : Binder} {a b t : Core}
      → RuleType es w (a ∷ g) (n + 1 + nodes a) b t → HeadForm (core_bodies es) t Prop → RuleType es w g n (Pi x a b) Prop
  pi_type : {g : List Core} {n : ℕ} {x : Binder} {a b t h : Core}
      → RuleType es w (a ∷ g) (n + 1 + nodes a) b t → HeadForm (core_bodies es) t h → (h ≡ Prop → ⊥)
      → RuleType es w g n (Pi x a b) (Univ (variable_level (w n)))
  sigma : {g : List Core} {n : ℕ} {x : Binder} {a b : Core} → RuleType es w g n (Sigma x a b) (Univ (variable_level (w n)))
  lambda : {g : List Core} {n : ℕ} {x : Binder} {a m t : Core}
      → RuleType es w (a ∷ g) (n + nodes a) m t → RuleType es w g n (Lam x a m) (Pi x a t)
  application : {g : List Core} {n : ℕ} {k : Mark} {x : Binder} {a b f m t : Core}
      → RuleType es w g n f t → HeadForm (core_bodies es) t (Pi x a b) → RuleType es w g n (App k f m) (instantiate b m)
  pair : {g : List Core} {n : ℕ} {x : Binder} {a b m m' : Core} → RuleType es w g n (Pair x a b m m') (Sigma x a b)
  first : {g : List Core} {n : ℕ} {x : Binder} {a b m t : Core}
      → RuleType es w g n m t → HeadForm (core_bodies es) t (Sigma x a b) → RuleType es w g n (Fst m) a
  second : {g : List Core} {n : ℕ} {x : Binder} {a b m t : Core}
      → RuleType es w g n m t → HeadForm (core_bodies es) t (Sigma x a b) → RuleType es w g n (Snd m) (instantiate b (Fst m))
  local : {g : List Core} {n : ℕ} {x : Binder} {m b t : Core}
      → RuleType es w g (n + nodes m) (instantiate b m) t → RuleType es w g n (Let x m b) t

-- A is the rule type of m, whose nodes take the level variables from n on, and none of these is held
pub record HasRuleType (n : ℕ) (es : List Entry) (g : List Core) (m a : Core) : Type 0 where
  pub fresh : (u : ℕ) → n ≤ u → IsHeld u es g (m ∷ []) → ⊥
  pub rule : RuleType es (λ i. i) g n m a
