-- How head forms compare.
use Rattle.std.specs.Prelude.{◌≡◌, ℕ, ◌≤◌, ◌↔◌, None}
use Rattle.lego_term.specs.Trees.{Tree, Term, Bodies, Var, Const, Prop, Univ, Pi, Lam, App, Sigma, Pair, Fst, Snd}
use Rattle.lego_term.specs.Sequences.{head_step}
use Rattle.lego_term.specs.Steps.{Converts}
use Rattle.lego_term.specs.Below.{Below}
use Rattle.lego_laws.specs.Parallel.{TermBodies, AreClosed}

-- the term has no head step
abbrev pub IsHeadForm : {B M L : Type 0} → Bodies B M L → Tree B M L → Type 0
IsHeadForm b t = head_step b t ≡ None

-- the forms agree, and the parts compare
pub data PartsBelow (b : TermBodies) : Term → Term → Type 0 where
  at_var : {i : ℕ} → PartsBelow b (Var i) (Var i)
  at_const : {k : ℕ} → PartsBelow b (Const k) (Const k)
  at_prop : PartsBelow b Prop Prop
  at_prop_univ : {l : ℕ} → PartsBelow b Prop (Univ l)
  at_univ : {k l : ℕ} → k ≤ l → PartsBelow b (Univ k) (Univ l)
  at_pi : {a a' c c' : Term} → Converts b a a' → Below b c c' → PartsBelow b (Pi tt a c) (Pi tt a' c')
  at_lam : {a a' m m' : Term} → Converts b a a' → Converts b m m' → PartsBelow b (Lam tt a m) (Lam tt a' m')
  at_app : {m m' n n' : Term} → Converts b m m' → Converts b n n' → PartsBelow b (App tt m n) (App tt m' n')
  at_sigma : {a a' c c' : Term} → Below b a a' → Below b c c' → PartsBelow b (Sigma tt a c) (Sigma tt a' c')
  at_pair : {a a' c c' m m' n n' : Term}
      → Converts b a a' → Converts b c c' → Converts b m m' → Converts b n n' → PartsBelow b (Pair tt a c m n) (Pair tt a' c' m' n')
  at_fst : {m m' : Term} → Converts b m m' → PartsBelow b (Fst m) (Fst m')
  at_snd : {m m' : Term} → Converts b m m' → PartsBelow b (Snd m) (Snd m')

-- head forms are below each other exactly by their parts
abbrev pub HeadFormsCompare : Type 0
HeadFormsCompare =
    (b : TermBodies) → AreClosed b → (t u : Term) → IsHeadForm b t → IsHeadForm b u → Below b t u ↔ PartsBelow b t u
