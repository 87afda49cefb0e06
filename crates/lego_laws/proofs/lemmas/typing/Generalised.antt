-- Judgements under locals as judgements over constants alone.
use Rattle.std.proofs.Common.{[], ◌∷◌}
use Rattle.lego_term.specs.Trees.{Pi, Lam}
use Rattle.lego_laws.specs.Judgement.{Has}
use Rattle.lego_laws.specs.Generalisation.{Generalisation}

pub generalisation : Generalisation
generalisation es [] m a d = d
generalisation es (b ∷ g) m a d = generalisation es g (Lam tt b m) (Pi tt b a) (Has.lambda d)
