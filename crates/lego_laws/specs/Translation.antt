-- Constants replaced by closed terms.
use Rattle.std.specs.Prelude.{◌≡◌, ℕ, Some, unwrap_or, List, [], map, IfSome}
use Rattle.lego_term.specs.Trees.{Term, Const, replace_constants}
use Rattle.lego_term.specs.Steps.{Converts}
use Rattle.lego_laws.specs.Parallel.{TermBodies, AreClosed}
use Rattle.lego_laws.specs.Entries.{Constant, constant_of, bodies_of}
use Rattle.lego_laws.specs.Judgement.{Has}
use Rattle.lego_laws.specs.Valid.{AreValid}

-- what stands for a constant: the term that replaces it, or itself
abbrev pub standing : TermBodies → ℕ → Term
standing s k = unwrap_or (s k) (Const k)

-- what stands for a constant has its replaced type, and converts with its replaced body
pub record StandsFor (s : TermBodies) (es : List Constant) (k : ℕ) (e : Constant) : Type 0 where
  pub typed : Has es [] (standing s k) (replace_constants s e.ty)
  pub body : IfSome e.body (λ m. Converts (bodies_of es) (standing s k) (replace_constants s m))

-- a judgement stands where constants are replaced by closed terms of their replaced types
abbrev pub Translation : Type 0
Translation =
    (es es' : List Constant) → AreValid es → AreValid es' → (s : TermBodies) → AreClosed s
    → ((k : ℕ) (e : Constant) → constant_of es k ≡ Some e → StandsFor s es' k e)
    → (g : List Term) (m a : Term) → Has es g m a → Has es' (map (replace_constants s) g) (replace_constants s m) (replace_constants s a)
