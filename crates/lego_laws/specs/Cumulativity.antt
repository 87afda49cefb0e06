-- The inversion of cumulativity.
use Rattle.std.specs.Prelude.{◌≡◌, ℕ, ◌≤◌, ◌↔◌}
use Rattle.lego_term.specs.Trees.{Term, Prop, Univ, Pi, Sigma}
use Rattle.lego_term.specs.Steps.{Step, Converts}
use Rattle.lego_term.specs.Below.{Below}
use Rattle.lego_laws.specs.Parallel.{TermBodies, AreClosed, Star}

-- below by the form alone: universes in order, products in their bodies, Sigma types in both parts
pub data ByForm : Term → Term → Type 0 where
  same : {t : Term} → ByForm t t
  prop : {l : ℕ} → ByForm Prop (Univ l)
  universes : {k l : ℕ} → k ≤ l → ByForm (Univ k) (Univ l)
  pi : {a c c' : Term} → ByForm c c' → ByForm (Pi tt a c) (Pi tt a c')
  sigma : {a a' c c' : Term} → ByForm a a' → ByForm c c' → ByForm (Sigma tt a c) (Sigma tt a' c')

-- steps lead to terms of which one is below the other by the form alone
pub record ComeByForm (b : TermBodies) (t u : Term) : Type 0 where
  pub low : Term
  pub high : Term
  pub left : Star (Step b) t low
  pub right : Star (Step b) u high
  pub by_form : ByForm low high

-- cumulativity holds exactly where steps lead to such terms
abbrev pub BelowInverts : Type 0
BelowInverts = (b : TermBodies) → AreClosed b → (t u : Term) → Below b t u ↔ ComeByForm b t u

-- a product is below a product exactly where the domains convert and the bodies are below
abbrev pub PiInverts : Type 0
PiInverts =
    (b : TermBodies) → AreClosed b → (a c a' c' : Term) → Below b (Pi tt a c) (Pi tt a' c') ↔ (Converts b a a' × Below b c c')

-- a Sigma type is below a Sigma type exactly where both parts are below
abbrev pub SigmaInverts : Type 0
SigmaInverts =
    (b : TermBodies) → AreClosed b → (a c a' c' : Term) → Below b (Sigma tt a c) (Sigma tt a' c') ↔ (Below b a a' × Below b c c')

-- universes are below in the order of their numbers, all are above `Prop`, and none is below it
abbrev pub SortsInvert : Type 0
SortsInvert =
    (b : TermBodies) → AreClosed b → (j k : ℕ)
    → (Below b (Univ j) (Univ k) ↔ (j ≤ k)) × Below b Prop (Univ k) × (Below b (Univ j) Prop → ⊥)
    × (Converts b (Univ j) (Univ k) → j ≡ k) × (Converts b Prop (Univ k) → ⊥)
