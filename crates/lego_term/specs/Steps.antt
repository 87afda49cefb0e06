-- Contraction at one place, and the equivalence that it generates.
use Rattle.std.specs.Prelude.{◌≡◌, ℕ, Some}
use Rattle.lego_term.specs.Trees.{Tree, Const, Pi, Lam, App, Sigma, Pair, Fst, Snd, Let, Bodies, instantiate}

-- what is contracted: a redex of beta or sigma, a local definition, or a constant with a body
pub data Contracts {B M L : Type 0} (bodies : Bodies B M L) : Tree B M L → Tree B M L → Type 0 where
  beta : {k : M} {x : B} {a m n : Tree B M L} → Contracts bodies (App k (Lam x a m) n) (instantiate m n)
  first : {x : B} {a b m n : Tree B M L} → Contracts bodies (Fst (Pair x a b m n)) m
  second : {x : B} {a b m n : Tree B M L} → Contracts bodies (Snd (Pair x a b m n)) n
  local : {x : B} {m n : Tree B M L} → Contracts bodies (Let x m n) (instantiate n m)
  unfolds : {k : ℕ} {m : Tree B M L} → bodies k ≡ Some m → Contracts bodies (Const k) m

-- a step contracts one place
pub data Step {B M L : Type 0} (bodies : Bodies B M L) : Tree B M L → Tree B M L → Type 0 where
  here : {m n : Tree B M L} → Contracts bodies m n → Step bodies m n
  pi_domain : {x : B} {a a' b : Tree B M L} → Step bodies a a' → Step bodies (Pi x a b) (Pi x a' b)
  pi_body : {x : B} {a b b' : Tree B M L} → Step bodies b b' → Step bodies (Pi x a b) (Pi x a b')
  lam_domain : {x : B} {a a' m : Tree B M L} → Step bodies a a' → Step bodies (Lam x a m) (Lam x a' m)
  lam_body : {x : B} {a m m' : Tree B M L} → Step bodies m m' → Step bodies (Lam x a m) (Lam x a m')
  function : {k : M} {m m' n : Tree B M L} → Step bodies m m' → Step bodies (App k m n) (App k m' n)
  argument : {k : M} {m n n' : Tree B M L} → Step bodies n n' → Step bodies (App k m n) (App k m n')
  sigma_domain : {x : B} {a a' b : Tree B M L} → Step bodies a a' → Step bodies (Sigma x a b) (Sigma x a' b)
  sigma_body : {x : B} {a b b' : Tree B M L} → Step bodies b b' → Step bodies (Sigma x a b) (Sigma x a b')
  pair_domain : {x : B} {a a' b m n : Tree B M L} → Step bodies a a' → Step bodies (Pair x a b m n) (Pair x a' b m n)
  pair_body : {x : B} {a b b' m n : Tree B M L} → Step bodies b b' → Step bodies (Pair x a b m n) (Pair x a b' m n)
  pair_first : {x : B} {a b m m' n : Tree B M L} → Step bodies m m' → Step bodies (Pair x a b m n) (Pair x a b m' n)
  pair_second : {x : B} {a b m n n' : Tree B M L} → Step bodies n n' → Step bodies (Pair x a b m n) (Pair x a b m n')
  fst_operand : {m m' : Tree B M L} → Step bodies m m' → Step bodies (Fst m) (Fst m')
  snd_operand : {m m' : Tree B M L} → Step bodies m m' → Step bodies (Snd m) (Snd m')
  local_value : {x : B} {m m' n : Tree B M L} → Step bodies m m' → Step bodies (Let x m n) (Let x m' n)
  local_body : {x : B} {m n n' : Tree B M L} → Step bodies n n' → Step bodies (Let x m n) (Let x m n')

-- the least equivalence that contains the steps, on all terms, typed or not
pub data Converts {B M L : Type 0} (bodies : Bodies B M L) : Tree B M L → Tree B M L → Type 0 where
  step : {m n : Tree B M L} → Step bodies m n → Converts bodies m n
  same : {m : Tree B M L} → Converts bodies m m
  back : {m n : Tree B M L} → Converts bodies m n → Converts bodies n m
  chain : {l m n : Tree B M L} → Converts bodies l m → Converts bodies m n → Converts bodies l n
