-- Constants replaced by terms with variables of an outer list of locals.
use Rattle.std.specs.Prelude.{◌≡◌, ℕ, Some, option_map, unwrap_or, List, [], ◌∷◌, IfSome}
use Rattle.lego_term.specs.Trees.{Tree, Term, Var, Const, lift, loose, listed_variable, close_over, map_leaves}
use Rattle.lego_term.specs.Steps.{Converts}
use Rattle.lego_laws.specs.Entries.{Constant, constant_of, bodies_of}
use Rattle.lego_laws.specs.Judgement.{Valid, Has}
use Rattle.lego_laws.specs.Valid.{AreValid}

-- the replacing terms under one binder more
abbrev pub raised : {B M L : Type 0} → (ℕ → Tree B M L) → ℕ → Tree B M L
raised s k = lift 0 1 (s k)

-- the term with each constant replaced by a term, which is raised under each binder
abbrev pub replace : {B M L : Type 0} → (ℕ → Tree B M L) → Tree B M L → Tree B M L
replace = map_leaves raised (λ s i. Var i) (λ s k. s k)

-- the replacing terms under a list of locals, and the locals replaced, in front of the outer ones
abbrev pub under_locals : (ℕ → Term) → List Term → ℕ → Term
under_locals s [] = s
under_locals s (a ∷ g) = raised (under_locals s g)

abbrev pub replaced_locals : (ℕ → Term) → List Term → List Term → List Term
replaced_locals s h [] = h
replaced_locals s h (a ∷ g) = replace (under_locals s g) a ∷ replaced_locals s h g

-- over the outer locals h, what stands for the constant has its replaced type, and converts with its replaced body
pub record Replaces (s : ℕ → Term) (es : List Constant) (h : List Term) (k : ℕ) (e : Constant) : Type 0 where
  pub typed : Has es h (s k) (replace s e.ty)
  pub body : IfSome e.body (λ m. Converts (bodies_of es) (s k) (replace s m))

-- a judgement stands where constants are replaced by terms over outer locals of their replaced types
abbrev pub Replacement : Type 0
Replacement =
    (es es' : List Constant) → AreValid es → AreValid es' → (s : ℕ → Term) (h : List Term) → Valid es' h
    → ((k : ℕ) (e : Constant) → constant_of es k ≡ Some e → Replaces s es' h k e)
    → (g : List Term) (m a : Term) → Has es g m a
    → Has es' (replaced_locals s h g) (replace (under_locals s g) m) (replace (under_locals s g) a)

-- the variables that stand for the listed constants, the last of them variable 0
abbrev pub listed_as_locals : {B M L : Type 0} → List ℕ → ℕ → Tree B M L
listed_as_locals ns k = unwrap_or (option_map Var (listed_variable ns k)) (Const k)

-- in a term without loose variables, turning listed constants into variables is a replacement
abbrev pub ClosingIsReplacement : Type 0
ClosingIsReplacement = (ns : List ℕ) (m : Term) → loose m ≡ 0 → close_over ns 0 m ≡ replace (listed_as_locals ns) m
