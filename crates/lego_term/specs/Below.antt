-- Cumulativity.
use Rattle.std.specs.Prelude.{ℕ, suc}
use Rattle.lego_term.specs.Trees.{Prop, Univ, Pi, Sigma, Term, Bodies}
use Rattle.lego_term.specs.Steps.{Converts}

-- The least preorder with conversion, `Prop` below the first universe, each universe below the next, products
-- whose domains convert and whose bodies are below, and Sigma types whose parts are both below.
pub data Below (bodies : Bodies (Unit {0}) (Unit {0}) ℕ) : Term → Term → Type 0 where
  converts : {a b : Term} → Converts bodies a b → Below bodies a b
  prop : Below bodies Prop (Univ 0)
  universe : {j : ℕ} → Below bodies (Univ j) (Univ (suc j))
  pi : {a a' b b' : Term} → Converts bodies a a' → Below bodies b b' → Below bodies (Pi tt a b) (Pi tt a' b')
  sigma : {a a' b b' : Term} → Below bodies a a' → Below bodies b b' → Below bodies (Sigma tt a b) (Sigma tt a' b')
  chain : {a b c : Term} → Below bodies a b → Below bodies b c → Below bodies a c
