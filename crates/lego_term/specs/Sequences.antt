-- Head sequences, normalisation sequences and their lengths.
use Rattle.std.specs.Prelude.{◌≡◌, ℕ, zero, suc, ◌+◌, Option, Some, None, option_map, option_and_then}
use Rattle.lego_term.specs.Trees.{Tree, Var, Const, Prop, Univ, Pi, Lam, App, Sigma, Pair, Fst, Snd, Let, Bodies, instantiate}

-- the first option where it has a value, else the second
abbrev pub or_else : {X : Type 0} → Option X → Option X → Option X
or_else (Some x) other = Some x
or_else None other = other

-- what the redex at the root goes to, where there is one
abbrev pub contract_app : {B M L : Type 0} → Tree B M L → Tree B M L → Option (Tree B M L)
contract_app (Lam x a m) n = Some (instantiate m n)
contract_app _ n = None

abbrev pub contract_fst : {B M L : Type 0} → Tree B M L → Option (Tree B M L)
contract_fst (Pair x a b m n) = Some m
contract_fst _ = None

abbrev pub contract_snd : {B M L : Type 0} → Tree B M L → Option (Tree B M L)
contract_snd (Pair x a b m n) = Some n
contract_snd _ = None

-- The head step, where there is one: it contracts the root, or a place that is reached from the root through
-- functions of applications and operands of projections.
abbrev pub head_step : {B M L : Type 0} → Bodies B M L → Tree B M L → Option (Tree B M L)
head_step bodies (Const k) = bodies k
head_step bodies (App k m n) = or_else (contract_app m n) (option_map (λ m'. App k m' n) (head_step bodies m))
head_step bodies (Fst m) = or_else (contract_fst m) (option_map Fst (head_step bodies m))
head_step bodies (Snd m) = or_else (contract_snd m) (option_map Snd (head_step bodies m))
head_step bodies (Let x m n) = Some (instantiate n m)
head_step bodies _ = None

-- The next step of the normalisation sequence: the head step, else that of the first part, left to right, that has one.
abbrev pub normal_step : {B M L : Type 0} → Bodies B M L → Tree B M L → Option (Tree B M L)
normal_step bodies (Var i) = None
normal_step bodies (Const k) = bodies k
normal_step bodies Prop = None
normal_step bodies (Univ l) = None
normal_step bodies (Pi x a b) =
    or_else (option_map (λ a'. Pi x a' b) (normal_step bodies a)) (option_map (λ b'. Pi x a b') (normal_step bodies b))
normal_step bodies (Lam x a m) =
    or_else (option_map (λ a'. Lam x a' m) (normal_step bodies a)) (option_map (λ m'. Lam x a m') (normal_step bodies m))
normal_step bodies (App k m n) =
    or_else (head_step bodies (App k m n))
    (or_else (option_map (λ m'. App k m' n) (normal_step bodies m)) (option_map (λ n'. App k m n') (normal_step bodies n)))
normal_step bodies (Sigma x a b) =
    or_else (option_map (λ a'. Sigma x a' b) (normal_step bodies a)) (option_map (λ b'. Sigma x a b') (normal_step bodies b))
normal_step bodies (Pair x a b m n) =
    or_else (option_map (λ a'. Pair x a' b m n) (normal_step bodies a))
    (or_else (option_map (λ b'. Pair x a b' m n) (normal_step bodies b))
    (or_else (option_map (λ m'. Pair x a b m' n) (normal_step bodies m)) (option_map (λ n'. Pair x a b m n') (normal_step bodies n))))
normal_step bodies (Fst m) = or_else (head_step bodies (Fst m)) (option_map Fst (normal_step bodies m))
normal_step bodies (Snd m) = or_else (head_step bodies (Snd m)) (option_map Snd (normal_step bodies m))
normal_step bodies (Let x m n) = Some (instantiate n m)

-- the term behind so many steps, where the sequence has them
abbrev pub after : {T : Type 0} → (T → Option T) → ℕ → T → Option T
after next zero t = Some t
after next (suc n) t = option_and_then (after next n) (next t)

-- t's sequence has n steps and ends at u
pub record Ends {T : Type 0} (next : T → Option T) (t : T) (n : ℕ) (u : T) : Type 0 where
  pub reaches : after next n t ≡ Some u
  pub last : next u ≡ None

-- t's sequence has more than n steps
abbrev pub MoreThan : {T : Type 0} → (T → Option T) → T → ℕ → Type 0
MoreThan {T} next t n = (u : T) × (after next (suc n) t ≡ Some u)

-- u is the head form of t
abbrev pub HeadForm : {B M L : Type 0} → Bodies B M L → Tree B M L → Tree B M L → Type 0
HeadForm bodies t u = (n : ℕ) × Ends (head_step bodies) t n u

-- u is the normal form of t
abbrev pub NormalForm : {B M L : Type 0} → Bodies B M L → Tree B M L → Tree B M L → Type 0
NormalForm bodies t u = (n : ℕ) × Ends (normal_step bodies) t n u

-- the normalisation sequences of a and b together have more than n steps
abbrev pub CostMoreThan : {B M L : Type 0} → Bodies B M L → Tree B M L → Tree B M L → ℕ → Type 0
CostMoreThan {B} {M} {L} bodies a b n =
    (i j : ℕ) × (i + j ≡ suc n) × (a' b' : Tree B M L) × (after (normal_step bodies) i a ≡ Some a') × (after (normal_step bodies) j b ≡ Some b')
