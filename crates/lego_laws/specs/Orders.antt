-- Lists of constants in another order, with fewer constants, or with some put in.
use Rattle.std.specs.Prelude.{◌≡◌, ℕ, Bool, true, false, Option, Some, None, option_map, nat_eq, if◌then◌else◌, List, [], ◌∷◌, ◌++◌, map}
use Rattle.std.specs.List.{AllByRecursion}
use Rattle.lego_term.specs.Trees.{Term, replace_constants}
use Rattle.lego_laws.specs.Parallel.{TermBodies}
use Rattle.lego_laws.specs.Entries.{Constant, constant_of}
use Rattle.lego_laws.specs.Judgement.{Has}
use Rattle.lego_laws.specs.Valid.{AreValid}
use Rattle.lego_laws.specs.Strengthening.{MentionsOnly, EntryMentions}

-- whether the list has the constant
abbrev pub found_in : Option Constant → Bool
found_in None = false
found_in (Some e) = true

abbrev pub has_constant : List Constant → ℕ → Bool
has_constant es k = found_in (constant_of es k)

-- the numbers differ, and each constant mentions only constants before it
abbrev pub MentionEarlier : List Constant → Type 0
MentionEarlier [] = Unit {0}
MentionEarlier (e ∷ before) = (constant_of before e.number ≡ None) × EntryMentions (has_constant before) e × MentionEarlier before

-- each constant of the first list is the second's of that number
abbrev pub AreAmong : List Constant → List Constant → Type 0
AreAmong es' es = (k : ℕ) (e : Constant) → constant_of es' k ≡ Some e → constant_of es k ≡ Some e

-- constants of a valid list are valid in each order in which each mentions only earlier ones
abbrev pub Reordering : Type 0
Reordering = (es es' : List Constant) → AreValid es → AreAmong es' es → MentionEarlier es' → AreValid es'

-- a judgement that mentions their constants alone stands over them
abbrev pub ReorderedJudgements : Type 0
ReorderedJudgements =
    (es es' : List Constant) → AreValid es → AreAmong es' es → MentionEarlier es' → (g : List Term) (m a : Term)
    → AllByRecursion (λ t. MentionsOnly (has_constant es') t) g → MentionsOnly (has_constant es') m → MentionsOnly (has_constant es') a
    → Has es g m a → Has es' g m a

-- what the constants that are to be put in are replaced by: their bodies, with earlier such constants put in
abbrev pub fillings : (ℕ → Bool) → List Constant → TermBodies
fillings chosen [] k = None
fillings chosen (e ∷ before) k =
    if nat_eq e.number k then (if chosen e.number then option_map (replace_constants (fillings chosen before)) e.body else None) else fillings chosen before k

abbrev pub fill : (ℕ → Bool) → List Constant → Term → Term
fill chosen es m = replace_constants (fillings chosen es) m

-- the constant with earlier ones put in, unless it is put in itself
abbrev pub filled : (ℕ → Bool) → List Constant → ℕ → Term → Option Term → Bool → List Constant → List Constant
filled chosen before n a (Some m) true rest = rest
filled chosen before n a o c rest = record { number = n; ty = fill chosen before a; body = option_map (fill chosen before) o } ∷ rest

-- the list without the chosen constants that have bodies, with these put in
abbrev pub fill_all : (ℕ → Bool) → List Constant → List Constant
fill_all chosen [] = []
fill_all chosen (e ∷ before) = filled chosen before e.number e.ty e.body (chosen e.number) (fill_all chosen before)

-- a valid list stays valid where constants with bodies are put in and dropped
abbrev pub FilledListsAreValid : Type 0
FilledListsAreValid = (chosen : ℕ → Bool) (es : List Constant) → AreValid es → AreValid (fill_all chosen es)

-- a judgement stands where constants with bodies are put in and dropped
abbrev pub JudgementsFill : Type 0
JudgementsFill =
    (chosen : ℕ → Bool) (es : List Constant) → AreValid es → (g : List Term) (m a : Term) → Has es g m a
    → Has (fill_all chosen es) (map (fill chosen es) g) (fill chosen es m) (fill chosen es a)

-- the constants before any are valid
abbrev pub PrefixesAreValid : Type 0
PrefixesAreValid = (later es : List Constant) → AreValid (later ++ es) → AreValid es

-- the constant with a body
abbrev pub with_body : Constant → Term → Constant
with_body e m = record { number = e.number; ty = e.ty; body = Some m }

-- an assumption may be given a body that has its type over the constants before it: the list stays valid, and each judgement
-- stands
abbrev pub BodiesMayBeGiven : Type 0
BodiesMayBeGiven =
    (later before : List Constant) (e : Constant) (m : Term) → AreValid (later ++ (e ∷ before)) → e.body ≡ None → Has before [] m e.ty
    → AreValid (later ++ (with_body e m ∷ before))
    × ((g : List Term) (t a : Term) → Has (later ++ (e ∷ before)) g t a → Has (later ++ (with_body e m ∷ before)) g t a)
