-- Assumptions of a list turned into local variables.
use Rattle.std.specs.Prelude.{◌≡◌, ℕ, None, List, [], ◌∷◌, ◌++◌}
use Rattle.lego_term.specs.Trees.{Term, close_over}
use Rattle.lego_laws.specs.Entries.{Constant}
use Rattle.lego_laws.specs.Judgement.{Valid, Has}
use Rattle.lego_laws.specs.Valid.{AreValid}
use Rattle.lego_laws.specs.Strengthening.{EntryMentions}
use Rattle.lego_laws.specs.Orders.{has_constant}

-- The second list is the first without the assumptions whose numbers are listed, the oldest first, and no kept constant
-- mentions one of them. The locals have the assumptions' types, with the earlier ones turned into variables.
pub data Abstracts : List ℕ → List Constant → List Constant → List Term → Type 0 where
  nothing : Abstracts [] [] [] []
  keeps : {ns : List ℕ} {es es' : List Constant} {h : List Term} {e : Constant}
      → EntryMentions (has_constant es') e → Abstracts ns es es' h → Abstracts ns (e ∷ es) (e ∷ es') h
  abstracts : {ns : List ℕ} {es es' : List Constant} {h : List Term} {e : Constant}
      → e.body ≡ None → Abstracts ns es es' h → Abstracts (ns ++ (e.number ∷ [])) (e ∷ es) es' (close_over ns 0 e.ty ∷ h)

-- a judgement stands over the kept constants, under locals that stand for the assumptions
abbrev pub Abstraction : Type 0
Abstraction =
    (ns : List ℕ) (es es' : List Constant) (h : List Term) → AreValid es → Abstracts ns es es' h
    → AreValid es' × Valid es' h × ((m a : Term) → Has es [] m a → Has es' h (close_over ns 0 m) (close_over ns 0 a))
