-- Judgements under locals as judgements over constants alone.
use Rattle.std.specs.Prelude.{List, [], ◌∷◌}
use Rattle.lego_term.specs.Trees.{Term, Pi, Lam}
use Rattle.lego_laws.specs.Entries.{Constant}
use Rattle.lego_laws.specs.Judgement.{Has}

-- the function, and the product, over all locals, the innermost first
abbrev pub functions : List Term → Term → Term
functions [] m = m
functions (a ∷ g) m = functions g (Lam tt a m)

abbrev pub products : List Term → Term → Term
products [] b = b
products (a ∷ g) b = products g (Pi tt a b)

-- a judgement under locals gives one of the function over them
abbrev pub Generalisation : Type 0
Generalisation = (es : List Constant) (g : List Term) (m a : Term) → Has es g m a → Has es [] (functions g m) (products g a)
