-- Parallel steps, and runs of steps.
use Rattle.std.specs.Prelude.{◌≡◌, ℕ, Some, option_map}
use Rattle.lego_term.specs.Levels.{Assignment, level_value}
use Rattle.lego_term.specs.declared.binder.Binder.{Binder}
use Rattle.lego_term.specs.declared.binder.Mark.{Mark}
use Rattle.lego_term.specs.declared.level.Level.{Level}
use Rattle.lego_term.specs.Trees.{Tree, Var, Const, Prop, Univ, Pi, Lam, App, Sigma, Pair, Fst, Snd, Bodies, instantiate, loose, map_tree, Core, Term, Let}

-- the bodies of the constants of terms at fixed numbers, and of core terms
abbrev pub TermBodies : Type 0
TermBodies = Bodies (Unit {0}) (Unit {0}) ℕ

abbrev pub CoreBodies : Type 0
CoreBodies = Bodies Binder Mark Level

-- the term, and the bodies, with a number for each level and without names and marks
abbrev pub valued : (Level → ℕ) → Core → Term
valued h = map_tree (λ x. tt) (λ k. tt) h

abbrev pub bodies_valued : (Level → ℕ) → CoreBodies → TermBodies
bodies_valued h b k = option_map (valued h) (b k)

-- the bodies at an assignment
abbrev pub bodies_at : Assignment → CoreBodies → TermBodies
bodies_at v = bodies_valued (level_value v)

-- no body has a loose variable
abbrev pub AreClosed : {B M L : Type 0} → Bodies B M L → Type 0
AreClosed {B} {M} {L} b = (k : ℕ) (t : Tree B M L) → b k ≡ Some t → loose t ≡ 0

-- contracts any set of places at once
pub data ParallelStep {B M L : Type 0} (b : Bodies B M L) : Tree B M L → Tree B M L → Type 0 where
  p_var : {i : ℕ} → ParallelStep b (Var i) (Var i)
  p_const : {k : ℕ} → ParallelStep b (Const k) (Const k)
  p_prop : ParallelStep b Prop Prop
  p_univ : {l : L} → ParallelStep b (Univ l) (Univ l)
  p_pi : {x : B} {a a' c c' : Tree B M L} → ParallelStep b a a' → ParallelStep b c c' → ParallelStep b (Pi x a c) (Pi x a' c')
  p_lam : {x : B} {a a' m m' : Tree B M L} → ParallelStep b a a' → ParallelStep b m m' → ParallelStep b (Lam x a m) (Lam x a' m')
  p_app : {k : M} {m m' n n' : Tree B M L} → ParallelStep b m m' → ParallelStep b n n' → ParallelStep b (App k m n) (App k m' n')
  p_sigma : {x : B} {a a' c c' : Tree B M L} → ParallelStep b a a' → ParallelStep b c c' → ParallelStep b (Sigma x a c) (Sigma x a' c')
  p_pair : {x : B} {a a' c c' m m' n n' : Tree B M L}
      → ParallelStep b a a' → ParallelStep b c c' → ParallelStep b m m' → ParallelStep b n n' → ParallelStep b (Pair x a c m n) (Pair x a' c' m' n')
  p_fst : {m m' : Tree B M L} → ParallelStep b m m' → ParallelStep b (Fst m) (Fst m')
  p_snd : {m m' : Tree B M L} → ParallelStep b m m' → ParallelStep b (Snd m) (Snd m')
  p_let : {x : B} {m m' n n' : Tree B M L} → ParallelStep b m m' → ParallelStep b n n' → ParallelStep b (Let x m n) (Let x m' n')
  p_beta : {k : M} {x : B} {a m m' n n' : Tree B M L}
      → ParallelStep b m m' → ParallelStep b n n' → ParallelStep b (App k (Lam x a m) n) (instantiate m' n')
  p_first : {x : B} {a c m m' n : Tree B M L} → ParallelStep b m m' → ParallelStep b (Fst (Pair x a c m n)) m'
  p_second : {x : B} {a c m n n' : Tree B M L} → ParallelStep b n n' → ParallelStep b (Snd (Pair x a c m n)) n'
  p_local : {x : B} {m m' n n' : Tree B M L} → ParallelStep b m m' → ParallelStep b n n' → ParallelStep b (Let x m n) (instantiate n' m')
  p_unfold : {k : ℕ} {t : Tree B M L} → b k ≡ Some t → ParallelStep b (Const k) t

-- none, one or more, one after the other
pub data Star {T : Type 0} (R : T → T → Type 0) : T → T → Type 0 where
  stop : {t : T} → Star R t t
  go : {t u v : T} → R t u → Star R u v → Star R t v
