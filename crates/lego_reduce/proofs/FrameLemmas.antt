-- Head steps within frames.
use Rattle.std.proofs.Common.{◌≡◌, ℕ, ◌≤◌, Option, Some, None, List, [], ◌∷◌, ◌++◌, length, take, drop, refl, ap, sym, ◌∙◌, arith}
use Rattle.std.specs.Prelude.{option_map}
use Rattle.std.proofs.lemmas.List.{take-append-drop}
use Rattle.lego_term.specs.Trees.{Core, Const, App, Fst, Snd, Let, Bodies, loose, depth}
use Rattle.lego_term.specs.Sequences.{or_else, contract_app, contract_fst, contract_snd, head_step}
use Rattle.lego_term.specs.Parts.{Subtree, part, IsTooLarge, subtree}
use Rattle.lego_term.specs.declared.binder.Binder.{Binder}
use Rattle.lego_term.specs.declared.binder.Mark.{Mark}
use Rattle.lego_term.specs.declared.level.Level.{Level}
use Rattle.lego_reduce.specs.declared.frames.Frame.{Frame}
use Rattle.lego_reduce.specs.declared.frames.Frame.TheVariants.{Argument, First, Second}
use Rattle.lego_reduce.specs.private.Frames.{plug, plug_one, contract_one}

pub plug-push : (fs : List Frame) (f : Frame) (m : Core) → plug (fs ++ f ∷ []) m ≡ plug fs (plug_one f m)
plug-push [] f m = refl
plug-push (g ∷ fs) f m = ap (plug_one g) (plug-push fs f m)

plug-append : (fs gs : List Frame) (u : Core) → plug (fs ++ gs) u ≡ plug fs (plug gs u)
plug-append [] gs u = refl
plug-append (f ∷ fs) gs u = ap (plug_one f) (plug-append fs gs u)

-- an application or a projection
abbrev IsElimination : Core → Type 0
IsElimination (App k m n) = Unit {0}
IsElimination (Fst m) = Unit {0}
IsElimination (Snd m) = Unit {0}
IsElimination _ = ⊥

neither : (g : Core → Core) (o p : Option Core) → o ≡ None → p ≡ None → or_else o (option_map g p) ≡ None
neither g o p e f = ap (λ x. or_else x (option_map g p)) e ∙ ap (option_map g) f

module _ (bodies : Bodies Binder Mark Level) where
  steps_in_one : (f : Frame) (u v : Core) → head_step bodies u ≡ Some v → head_step bodies (plug_one f u) ≡ Some (plug_one f v)
  steps_in_one (Argument k n) (Const i) v e = ap (option_map (λ m. App k m n)) e
  steps_in_one (Argument k n) (App i a b) v e = ap (option_map (λ m. App k m n)) e
  steps_in_one (Argument k n) (Fst a) v e = ap (option_map (λ m. App k m n)) e
  steps_in_one (Argument k n) (Snd a) v e = ap (option_map (λ m. App k m n)) e
  steps_in_one (Argument k n) (Let x a b) v e = ap (option_map (λ m. App k m n)) e
  steps_in_one First (Const i) v e = ap (option_map Fst) e
  steps_in_one First (App i a b) v e = ap (option_map Fst) e
  steps_in_one First (Fst a) v e = ap (option_map Fst) e
  steps_in_one First (Snd a) v e = ap (option_map Fst) e
  steps_in_one First (Let x a b) v e = ap (option_map Fst) e
  steps_in_one Second (Const i) v e = ap (option_map Snd) e
  steps_in_one Second (App i a b) v e = ap (option_map Snd) e
  steps_in_one Second (Fst a) v e = ap (option_map Snd) e
  steps_in_one Second (Snd a) v e = ap (option_map Snd) e
  steps_in_one Second (Let x a b) v e = ap (option_map Snd) e
  steps_in_one _ _ v e = absurd (cc)

  pub steps_in : (fs : List Frame) (u v : Core) → head_step bodies u ≡ Some v → head_step bodies (plug fs u) ≡ Some (plug fs v)
  steps_in [] u v e = e
  steps_in (f ∷ fs) u v e = steps_in_one f (plug fs u) (plug fs v) (steps_in fs u v e)

  pub redex_steps : (f : Frame) (u v : Core) → contract_one f u ≡ Some v → head_step bodies (plug_one f u) ≡ Some v
  redex_steps (Argument k n) u v e = ap (λ o. or_else o (option_map (λ m. App k m n) (head_step bodies u))) e
  redex_steps First u v e = ap (λ o. or_else o (option_map Fst (head_step bodies u))) e
  redex_steps Second u v e = ap (λ o. or_else o (option_map Snd (head_step bodies u))) e

  pub none_in_one : (f : Frame) (u : Core) → head_step bodies u ≡ None → contract_one f u ≡ None → head_step bodies (plug_one f u) ≡ None
  none_in_one (Argument k n) u e c = neither (λ m. App k m n) (contract_app u n) (head_step bodies u) c e
  none_in_one First u e c = neither Fst (contract_fst u) (head_step bodies u) c e
  none_in_one Second u e c = neither Snd (contract_snd u) (head_step bodies u) c e

  none_elimination : (f : Frame) (u : Core) → IsElimination u → contract_one f u ≡ None
  none_elimination (Argument k n) (App i a b) h = refl
  none_elimination (Argument k n) (Fst a) h = refl
  none_elimination (Argument k n) (Snd a) h = refl
  none_elimination First (App i a b) h = refl
  none_elimination First (Fst a) h = refl
  none_elimination First (Snd a) h = refl
  none_elimination Second (App i a b) h = refl
  none_elimination Second (Fst a) h = refl
  none_elimination Second (Snd a) h = refl
  none_elimination _ _ h = absurd h

  one_elimination : (f : Frame) (u : Core) → IsElimination (plug_one f u)
  one_elimination (Argument k n) u = tt
  one_elimination First u = tt
  one_elimination Second u = tt

  plug-elimination : (fs : List Frame) (u : Core) → IsElimination u → IsElimination (plug fs u)
  plug-elimination [] u h = h
  plug-elimination (f ∷ fs) u h = one_elimination f (plug fs u)

  none_in : (fs : List Frame) (u : Core) → IsElimination u → head_step bodies u ≡ None → head_step bodies (plug fs u) ≡ None
  none_in [] u h e = e
  none_in (f ∷ fs) u h e =
      none_in_one f (plug fs u) (none_in fs u h e) (none_elimination f (plug fs u) (plug-elimination fs u h))

  -- a head within a frame that makes no redex has no step, whatever stands around them
  pub none_around : (fs : List Frame) (f : Frame) (u : Core) → head_step bodies u ≡ None → contract_one f u ≡ None → head_step bodies (plug fs (plug_one f u)) ≡ None
  none_around fs f u e c = none_in fs (plug_one f u) (one_elimination f u) (none_in_one f u e c)

-- a subtree of the term within a frame is a subtree of the whole
subtree_in_one : (f : Frame) (u v : Core) → Subtree v u → Subtree v (plug_one f u)
subtree_in_one (Argument k n) u v s = part 0 refl s
subtree_in_one First u v s = part 0 refl s
subtree_in_one Second u v s = part 0 refl s

pub subtree_in : (fs : List Frame) (u v : Core) → Subtree v u → Subtree v (plug fs u)
subtree_in [] u v s = s
subtree_in (f ∷ fs) u v s = subtree_in_one f (plug fs u) v (subtree_in fs u v s)

pub too_large_in : (fs : List Frame) (u : Core) (i j : ℕ) → IsTooLarge u i j → IsTooLarge (plug fs u) i j
too_large_in fs u _ _ (subtree {v} s over) = subtree (subtree_in fs u v s) over

pub loose-plug : (fs : List Frame) (u : Core) → loose u ≤ loose (plug fs u)
loose-plug [] u = omega arith
loose-plug (Argument k n ∷ fs) u = omega (arith, loose-plug fs u)
loose-plug (First ∷ fs) u = loose-plug fs u
loose-plug (Second ∷ fs) u = loose-plug fs u

pub plug-split : (fs : List Frame) (i : ℕ) (u : Core) → plug fs u ≡ plug (take i fs) (plug (drop i fs) u)
plug-split fs i u = ap (λ gs. plug gs u) (sym (take-append-drop i fs)) ∙ plug-append (take i fs) (drop i fs) u

-- a term is deeper than the frames around it are many
pub depth-plug : (fs : List Frame) (u : Core) → length fs ≤ depth (plug fs u)
depth-plug [] u = omega arith
depth-plug (Argument k n ∷ fs) u = omega (arith, depth-plug fs u)
depth-plug (First ∷ fs) u = omega (arith, depth-plug fs u)
depth-plug (Second ∷ fs) u = omega (arith, depth-plug fs u)
