-- Spines and runs: arguments and projections that come last, and what has none of its own.
use Rattle.std.proofs.Common.{◌≡◌, List, [], ◌∷◌, ◌++◌, false, map, refl, sym, ap, ◌∙◌, length, ◌<◌, arith}
use Rattle.lego_term.specs.declared.binder.Mark.{Mark}
use Rattle.lego_grammar.specs.declared.surface.Part.{Part}
use Rattle.lego_grammar.specs.declared.surface.Surface.{Surface}
use Rattle.lego_grammar.specs.declared.surface.Surface.TheOpen as level
use Rattle.lego_grammar.specs.declared.surface.Surface.TheOpen.{Surface-F}
use Rattle.lego_grammar.specs.declared.surface.Surface.TheVariants as surface
use Rattle.lego_grammar.specs.declared.surface.Surface.TheViews.{roll-Surface}
use Rattle.lego_grammar.specs.declared.surface.Surface.TheFolds.{fold-roll-Surface, ind-Surface}
use Rattle.lego_grammar.specs.Written.{Written, Apply, Project}
use Rattle.lego_grammar.specs.Surface.{applied, projected}
use Rattle.lego_parser.specs.private.Trees.{built, built_step, is_application, is_projection, function_of, operand_of, whole_spine, whole_run, spine_so_far, run_so_far}
use Rattle.lego_parser.specs.private.Frames.{arguments_of}

pub projected-last : (m : Written) (parts : List Part) (part : Part) → projected m (parts ++ part ∷ []) ≡ Project part (projected m parts)
projected-last m [] part = refl
projected-last m (p ∷ parts) part = projected-last (Project p m) parts part

pub applied-last : (f : Written) (xs : List (Mark × Surface)) (m : Mark) (a : Surface)
    → applied f (arguments_of (xs ++ (m, a) ∷ [])) ≡ Apply m (applied f (arguments_of xs)) (built a)
applied-last f [] m a = refl
applied-last f (x ∷ xs) m a = applied-last (Apply x.0 f (built x.1)) xs m a

-- one projection more ends a run, and one argument more a spine
pub run-last : (m : Written) (parts : List Part) (part : Part) → run_so_far m (parts ++ part ∷ []) ≡ Project part (projected (operand_of m) parts)
run-last m [] part = refl
run-last m (p ∷ parts) part = projected-last (operand_of m) (p ∷ parts) part

pub spine-last : (f : Written) (xs : List (Mark × Surface)) (m : Mark) (a : Surface)
    → spine_so_far f (arguments_of (xs ++ (m, a) ∷ [])) ≡ Apply m (applied (function_of f) (arguments_of xs)) (built a)
spine-last f [] m a = refl
spine-last f (x ∷ xs) m a = applied-last (function_of f) (x ∷ xs) m a

pub whole-last : (f : Written) (xs : List (Mark × Surface)) (m : Mark) (a : Surface)
    → whole_spine f (arguments_of (xs ++ (m, a) ∷ [])) ≡ Apply m (applied (function_of f) (arguments_of xs)) (built a)
whole-last f [] m a = refl
whole-last f (x ∷ xs) m a = applied-last (function_of f) (x ∷ xs) m a

-- where there are some, the two are one
pub some-run : (m : Written) (parts : List Part) → 0 < length parts → (projected (operand_of m) parts ≡ run_so_far m parts) × (whole_run m parts ≡ run_so_far m parts)
some-run m [] h = absurd (omega (arith, h))
some-run m (p ∷ parts) h = (refl, refl)

pub some-spine : (f : Written) (xs : List (Mark × Surface)) → 0 < length xs
    → (applied (function_of f) (arguments_of xs) ≡ spine_so_far f (arguments_of xs)) × (whole_spine f (arguments_of xs) ≡ spine_so_far f (arguments_of xs))
some-spine f [] h = absurd (omega (arith, h))
some-spine f (x ∷ xs) h = (refl, refl)

-- arguments make no projection, and projections no application
spine_no_run : (f : Written) (xs : List (Mark × Written)) → is_projection (whole_spine f xs) ≡ false
spine_no_run f [] = refl
spine_no_run f (x ∷ xs) = go xs x.0 (function_of f) x.1
  where
    go : (xs : List (Mark × Written)) (m : Mark) (g a : Written) → is_projection (applied (Apply m g a) xs) ≡ false
    go [] m g a = refl
    go (y ∷ xs) m g a = go xs y.0 (Apply m g a) y.1

run_no_spine : (m : Written) (parts : List Part) → is_application (whole_run m parts) ≡ false
run_no_spine m [] = refl
run_no_spine m (p ∷ parts) = go parts p (operand_of m)
  where
    go : (parts : List Part) (p : Part) (n : Written) → is_application (projected (Project p n) parts) ≡ false
    go [] p n = refl
    go (q ∷ parts) p n = go parts q (Project p n)

-- what is no run of projections isn't built as one
abbrev IsNoRun : Surface → Type 0
IsNoRun s = ((m : Surface) (parts : List Part) → s ≡ surface.Project m parts → ⊥) → is_projection (built s) ≡ false

no_run_at : (x : Surface-F Surface) → IsNoRun (roll-Surface x)
no_run_at (level.Name p n) h = ap is_projection (fold-roll-Surface Written built_step (level.Name p n))
no_run_at level.Prop h = ap is_projection (fold-roll-Surface Written built_step level.Prop)
no_run_at (level.AnyType p) h = ap is_projection (fold-roll-Surface Written built_step (level.AnyType p))
no_run_at (level.TypeAt n) h = ap is_projection (fold-roll-Surface Written built_step (level.TypeAt n))
no_run_at (level.Hole p n) h = ap is_projection (fold-roll-Surface Written built_step (level.Hole p n))
no_run_at (level.Bind k m ns a b) h = ap is_projection (fold-roll-Surface Written built_step (level.Bind k m ns a b))
no_run_at (level.Local n a b) h = ap is_projection (fold-roll-Surface Written built_step (level.Local n a b))
no_run_at (level.Apply f xs) h = ap is_projection (fold-roll-Surface Written built_step (level.Apply f xs)) ∙ spine_no_run (built f) (map (λ x. (x.0, built x.1)) xs)
no_run_at (level.Pair m n a) h = ap is_projection (fold-roll-Surface Written built_step (level.Pair m n a))
no_run_at (level.Project m parts) h = absurd (h m parts (surface.rolls-Project m parts))

pub no_run : (s : Surface) → IsNoRun s
no_run = ind-Surface IsNoRun (λ x y is. no_run_at x)

-- what is no application isn't built as one
abbrev IsNoSpine : Surface → Type 0
IsNoSpine s = ((f : Surface) (xs : List (Mark × Surface)) → s ≡ surface.Apply f xs → ⊥) → is_application (built s) ≡ false

no_spine_at : (x : Surface-F Surface) → IsNoSpine (roll-Surface x)
no_spine_at (level.Name p n) h = ap is_application (fold-roll-Surface Written built_step (level.Name p n))
no_spine_at level.Prop h = ap is_application (fold-roll-Surface Written built_step level.Prop)
no_spine_at (level.AnyType p) h = ap is_application (fold-roll-Surface Written built_step (level.AnyType p))
no_spine_at (level.TypeAt n) h = ap is_application (fold-roll-Surface Written built_step (level.TypeAt n))
no_spine_at (level.Hole p n) h = ap is_application (fold-roll-Surface Written built_step (level.Hole p n))
no_spine_at (level.Bind k m ns a b) h = ap is_application (fold-roll-Surface Written built_step (level.Bind k m ns a b))
no_spine_at (level.Local n a b) h = ap is_application (fold-roll-Surface Written built_step (level.Local n a b))
no_spine_at (level.Apply f xs) h = absurd (h f xs (surface.rolls-Apply f xs))
no_spine_at (level.Pair m n a) h = ap is_application (fold-roll-Surface Written built_step (level.Pair m n a))
no_spine_at (level.Project m parts) h = ap is_application (fold-roll-Surface Written built_step (level.Project m parts)) ∙ run_no_spine (built m) parts

pub no_spine : (s : Surface) → IsNoSpine s
no_spine = ind-Surface IsNoSpine (λ x y is. no_spine_at x)

-- what has no projections of its own is an operand, and what has no arguments of its own a function
pub no_operand : (s : Surface) (m : Written) (parts : List Part) → is_projection (built s) ≡ false → run_so_far m parts ≡ built s
    → projected (operand_of m) parts ≡ built s
no_operand s m [] isnt h = ap operand_of h ∙ rw isnt refl
no_operand s m (p ∷ parts) isnt h = h

pub no_function : (s : Surface) → is_application (built s) ≡ false → function_of (built s) ≡ built s
no_function s h = rw h refl

pub built-Apply : (f : Surface) (xs : List (Mark × Surface)) → built (surface.Apply f xs) ≡ whole_spine (built f) (arguments_of xs)
built-Apply f xs = ap built (sym (surface.rolls-Apply f xs)) ∙ fold-roll-Surface Written built_step (level.Apply f xs)
