-- Expansion of definitions, and derivations over assumptions alone.
use Rattle.std.specs.Prelude.{◌≡◌, ℕ, List, [], ◌∷◌, Option, Some, None, option_map, unwrap_or, nat_eq, if◌then◌else◌, IfSome, IfNone, map}
use Rattle.std.specs.List.{AllByRecursion}
use Rattle.lego_term.specs.Trees.{Tree, Term, Var, Const, Prop, Univ, Pi, Lam, App, Sigma, Pair, Fst, Snd, Let, instantiate}
use Rattle.lego_term.specs.Steps.{Step, Converts}
use Rattle.lego_term.specs.Below.{Below}
use Rattle.lego_laws.specs.Parallel.{TermBodies, AreClosed}
use Rattle.lego_laws.specs.Cumulativity.{ByForm}
use Rattle.lego_laws.specs.Entries.{Constant, constant_of}
use Rattle.lego_laws.specs.Judgement.{Valid, Has, empty, grow_constant, grow_variable, ax, universe, variable, constant, pi_prop, pi_type, lambda, application, sigma, pair, first, second, local, cumulative}
use Rattle.lego_laws.specs.Valid.{AreValid}

-- the term with each constant that has a value replaced by that, and each `Let x m n` by n with m put in
abbrev pub expand_by : TermBodies → Term → Term
expand_by s (Var i) = Var i
expand_by s (Const k) = unwrap_or (s k) (Const k)
expand_by s Prop = Prop
expand_by s (Univ l) = Univ l
expand_by s (Pi x a b) = Pi x (expand_by s a) (expand_by s b)
expand_by s (Lam x a m) = Lam x (expand_by s a) (expand_by s m)
expand_by s (App k m n) = App k (expand_by s m) (expand_by s n)
expand_by s (Sigma x a b) = Sigma x (expand_by s a) (expand_by s b)
expand_by s (Pair x a b m n) = Pair x (expand_by s a) (expand_by s b) (expand_by s m) (expand_by s n)
expand_by s (Fst m) = Fst (expand_by s m)
expand_by s (Snd m) = Snd (expand_by s m)
expand_by s (Let x m n) = instantiate (expand_by s n) (expand_by s m)

-- what a constant with a body is replaced by: its body's expansion over the entries before it
abbrev pub expansions : List Constant → TermBodies
expansions [] k = None
expansions (e ∷ before) k = if nat_eq e.number k then option_map (expand_by (expansions before)) e.body else expansions before k

abbrev pub expand : List Constant → Term → Term
expand es m = expand_by (expansions es) m

-- the entry without a body, with its type expanded
abbrev pub assumption_of : List Constant → Constant → List Constant → List Constant
assumption_of before e rest = keep e.body
  where
    keep : Option Term → List Constant
    keep (Some m) = rest
    keep None = record { number = e.number; ty = expand before e.ty; body = None } ∷ rest

-- the entries without a body, with expanded types
abbrev pub expand_all : List Constant → List Constant
expand_all [] = []
expand_all (e ∷ before) = assumption_of before e (expand_all before)

-- the derivation is by Luo's thirteen rules: the rule of local definitions isn't used, in the validity of the lists either; that
-- the conversion in them needs no local definition is the law `ConversionNeedsNoLocal`
unfoldable mutual
  pub IsPureList : {es : List Constant} {g : List Term} → Valid es g → Type 0
  IsPureList empty = Unit {0}
  IsPureList (grow_constant d new) = IsPure d
  IsPureList (grow_variable d) = IsPure d

  pub IsPure : {es : List Constant} {g : List Term} {m a : Term} → Has es g m a → Type 0
  IsPure (ax v) = IsPureList v
  IsPure (universe v) = IsPureList v
  IsPure (variable v found) = IsPureList v
  IsPure (constant v found) = IsPureList v
  IsPure (pi_prop d) = IsPure d
  IsPure (pi_type d e) = IsPure d × IsPure e
  IsPure (lambda d) = IsPure d
  IsPure (application d e) = IsPure d × IsPure e
  IsPure (sigma d e) = IsPure d × IsPure e
  IsPure (pair d e f) = IsPure d × IsPure e × IsPure f
  IsPure (first d) = IsPure d
  IsPure (second d) = IsPure d
  IsPure (local d e) = ⊥
  IsPure (cumulative d e low) = IsPure d × IsPure e

-- M has the type A in Luo's system: by the thirteen rules, over a list in which no entry has a body
pub record HasPurely (es : List Constant) (g : List Term) (m a : Term) : Type 0 where
  pub assumed : AllByRecursion (λ e. e.body ≡ None) es
  pub has : Has es g m a
  pub pure : IsPure has

abbrev pub IsPureType : List Constant → Term → Type 0
IsPureType es a = (j : ℕ) × HasPurely es [] a (Univ j)

-- each assumption's type is a type by Luo's rules, and each constant with a body has its type by them, both expanded
abbrev pub HoldsPurely : List Constant → Type 0
HoldsPurely [] = Unit {0}
HoldsPurely (e ∷ before) =
    IfNone e.body (IsPureType (expand_all before) (expand before e.ty))
    × IfSome e.body (λ m. HasPurely (expand_all before) [] (expand before m) (expand before e.ty))
    × HoldsPurely before

-- a valid list expands to pure derivations
abbrev pub Expansion : Type 0
Expansion = (es : List Constant) → AreValid es → HoldsPurely es

-- a judgement over valid constants expands to a pure one
abbrev pub JudgementsExpand : Type 0
JudgementsExpand =
    (es : List Constant) → AreValid es → (g : List Term) (m a : Term) → Has es g m a
    → HasPurely (expand_all es) (map (expand es) g) (expand es m) (expand es a)

-- no local definition in the term
abbrev pub HasNoLocal : {B M L : Type 0} → Tree B M L → Type 0
HasNoLocal (Var i) = Unit {0}
HasNoLocal (Const k) = Unit {0}
HasNoLocal Prop = Unit {0}
HasNoLocal (Univ l) = Unit {0}
HasNoLocal (Pi x a b) = HasNoLocal a × HasNoLocal b
HasNoLocal (Lam x a m) = HasNoLocal a × HasNoLocal m
HasNoLocal (App k m n) = HasNoLocal m × HasNoLocal n
HasNoLocal (Sigma x a b) = HasNoLocal a × HasNoLocal b
HasNoLocal (Pair x a b m n) = HasNoLocal a × HasNoLocal b × HasNoLocal m × HasNoLocal n
HasNoLocal (Fst m) = HasNoLocal m
HasNoLocal (Snd m) = HasNoLocal m
HasNoLocal (Let x m n) = ⊥

-- no term of a pure derivation has a local definition
abbrev pub PureTermsHaveNoLocal : Type 0
PureTermsHaveNoLocal =
    (es : List Constant) (g : List Term) (m a : Term) (d : Has es g m a) → IsPure d
    → HasNoLocal m × HasNoLocal a × AllByRecursion (λ t. HasNoLocal t) g × ((k : ℕ) (e : Constant) → constant_of es k ≡ Some e → HasNoLocal e.ty)

-- the bodies of the constants have no local definition
abbrev pub BodiesHaveNoLocal : TermBodies → Type 0
BodiesHaveNoLocal b = (k : ℕ) (t : Term) → b k ≡ Some t → HasNoLocal t

-- where no body has a local definition, steps bring none
abbrev pub StepsBringNoLocal : Type 0
StepsBringNoLocal = (b : TermBodies) → BodiesHaveNoLocal b → (m n : Term) → Step b m n → HasNoLocal m → HasNoLocal n

-- steps from term to term, none of which has a local definition: so each step contracts a redex of beta or sigma or a constant
pub data ReducesWithoutLocals (b : TermBodies) : Term → Term → Type 0 where
  stays : {m : Term} → HasNoLocal m → ReducesWithoutLocals b m m
  steps : {m n p : Term} → HasNoLocal m → Step b m n → ReducesWithoutLocals b n p → ReducesWithoutLocals b m p

-- such steps lead from both terms to one
abbrev pub ConvertsWithoutLocals : TermBodies → Term → Term → Type 0
ConvertsWithoutLocals b m n = (p : Term) × ReducesWithoutLocals b m p × ReducesWithoutLocals b n p

-- such steps lead to terms of which one is below the other by the form alone
abbrev pub BelowWithoutLocals : TermBodies → Term → Term → Type 0
BelowWithoutLocals b m n = (p q : Term) × ReducesWithoutLocals b m p × ReducesWithoutLocals b n q × ByForm p q

-- over closed bodies without local definitions, terms without them convert, or are below, without them
abbrev pub ConversionNeedsNoLocal : Type 0
ConversionNeedsNoLocal =
    (b : TermBodies) → AreClosed b → BodiesHaveNoLocal b → (m n : Term) → HasNoLocal m → HasNoLocal n
    → (Converts b m n → ConvertsWithoutLocals b m n) × (Below b m n → BelowWithoutLocals b m n)
