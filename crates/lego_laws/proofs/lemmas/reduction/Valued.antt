-- Terms at an assignment, and with a number for each level.
use Rattle.std.proofs.Common.{◌≡◌, ℕ, Option, Some, None, option_map, refl, sym, ap, ◌∙◌}
use Rattle.lego_term.specs.declared.level.Level.{Level}
use Rattle.lego_term.specs.Levels.{level_value}
use Rattle.lego_term.specs.Trees.{Tree, Core, Var, Const, Prop, Univ, Pi, Lam, App, Sigma, Pair, Fst, Snd, loose, map_tree, Equal, Let}
use Rattle.lego_term.specs.Steps.{Converts}
use Rattle.lego_term.specs.Sequences.{HeadForm}
use Rattle.lego_laws.specs.Parallel.{AreClosed, CoreBodies, valued, bodies_valued}
use Rattle.lego_laws.specs.HeadForms.{IsHeadForm}
use Rattle.lego_laws.specs.Confluence.{StepsKeepAtValues}
use Rattle.lego_laws.proofs.lemmas.reduction.CommonReducts.{convert_run}
use Rattle.lego_laws.proofs.lemmas.reduction.Mapping.{step-map, parallel-map, converts-map, head_step-map}
use Rattle.lego_laws.proofs.lemmas.reduction.HeadSteps.{head_steps}

-- decorations have no loose variables
pub loose-map : {B B' M M' L L' : Type 0} (f : B → B') (g : M → M') (h : L → L') (t : Tree B M L) → loose (map_tree f g h t) ≡ loose t
loose-map f g h (Var i) = refl
loose-map f g h (Const k) = refl
loose-map f g h Prop = refl
loose-map f g h (Univ l) = refl
loose-map f g h (Pi x a b) = cc (loose-map f g h a, loose-map f g h b)
loose-map f g h (Lam x a m) = cc (loose-map f g h a, loose-map f g h m)
loose-map f g h (App k m n) = cc (loose-map f g h m, loose-map f g h n)
loose-map f g h (Sigma x a b) = cc (loose-map f g h a, loose-map f g h b)
loose-map f g h (Let x a b) = cc (loose-map f g h a, loose-map f g h b)
loose-map f g h (Pair x a b m n) = cc (loose-map f g h a, loose-map f g h b, loose-map f g h m, loose-map f g h n)
loose-map f g h (Fst m) = loose-map f g h m
loose-map f g h (Snd m) = loose-map f g h m

mapped_some : {X Y : Type 0} (f : X → Y) (o : Option X) (y : Y) → option_map f o ≡ Some y → (x : X) × (o ≡ Some x) × (f x ≡ y)
mapped_some f None y e = cc
mapped_some f (Some x) y e = (x, refl, cc)

pub closed_valued : (h : Level → ℕ) (b : CoreBodies) → AreClosed b → AreClosed (bodies_valued h b)
closed_valued h b closed k t e =
    let s = mapped_some (valued h) (b k) t e in
    ap loose (sym s.2) ∙ loose-map (λ x. tt) (λ x. tt) h s.0 ∙ closed k s.0 s.1

-- two maps, one after the other
pub map_twice : {B B' B'' M M' M'' L L' L'' : Type 0} (f : B → B') (g : M → M') (h : L → L') (f' : B' → B'') (g' : M' → M'') (h' : L' → L'') (t : Tree B M L) → map_tree f' g' h' (map_tree f g h t) ≡ map_tree (λ x. f' (f x)) (λ x. g' (g x)) (λ x. h' (h x)) t
map_twice f g h f' g' h' (Var i) = refl
map_twice f g h f' g' h' (Const k) = refl
map_twice f g h f' g' h' Prop = refl
map_twice f g h f' g' h' (Univ l) = refl
map_twice f g h f' g' h' (Pi x a b) = cc (map_twice f g h f' g' h' a, map_twice f g h f' g' h' b)
map_twice f g h f' g' h' (Lam x a m) = cc (map_twice f g h f' g' h' a, map_twice f g h f' g' h' m)
map_twice f g h f' g' h' (App k m n) = cc (map_twice f g h f' g' h' m, map_twice f g h f' g' h' n)
map_twice f g h f' g' h' (Sigma x a b) = cc (map_twice f g h f' g' h' a, map_twice f g h f' g' h' b)
map_twice f g h f' g' h' (Let x a b) = cc (map_twice f g h f' g' h' a, map_twice f g h f' g' h' b)
map_twice f g h f' g' h' (Pair x a b m n) = cc (map_twice f g h f' g' h' a, map_twice f g h f' g' h' b, map_twice f g h f' g' h' m, map_twice f g h f' g' h' n)
map_twice f g h f' g' h' (Fst m) = ap Fst (map_twice f g h f' g' h' m)
map_twice f g h f' g' h' (Snd m) = ap Snd (map_twice f g h f' g' h' m)

-- terms that are equal but for names and marks have the same values
pub equal_valued : (h : Level → ℕ) (t u : Core) → Equal t u → valued h t ≡ valued h u
equal_valued h t u e =
    sym (map_twice (λ x. tt) (λ x. tt) (λ l. l) (λ x. tt) (λ x. tt) h t)
    ∙ ap (map_tree (λ x. tt) (λ x. tt) h) e ∙ map_twice (λ x. tt) (λ x. tt) (λ l. l) (λ x. tt) (λ x. tt) h u

-- steps to a head form, and the head form itself, with the numbers put in
pub head_form_converts : (h : Level → ℕ) {b : CoreBodies} {t u : Core} → HeadForm b t u → Converts (bodies_valued h b) (valued h t) (valued h u)
head_form_converts h {b} {t} {u} p = converts-map (λ x. tt) (λ x. tt) h b (convert_run (head_steps b p.0 t u p.1.reaches))

pub head_form_valued : (h : Level → ℕ) {b : CoreBodies} {t u : Core} → HeadForm b t u → IsHeadForm (bodies_valued h b) (valued h u)
head_form_valued h {b} {t} {u} p = head_step-map (λ x. tt) (λ x. tt) h b u ∙ ap (option_map (valued h)) p.1.last

pub steps_keep_at_values : StepsKeepAtValues
steps_keep_at_values v b t u = (
  step-map (λ x. tt) (λ x. tt) (level_value v) b,
  parallel-map (λ x. tt) (λ x. tt) (level_value v) b,
  converts-map (λ x. tt) (λ x. tt) (level_value v) b,
)
