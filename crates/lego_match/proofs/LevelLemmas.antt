-- Terms that are equal but for levels have head forms and normal forms that are equal but for levels.
use Rattle.std.proofs.Common.{◌≡◌, ℕ, zero, suc, Option, Some, None, option_map, option_and_then, refl, sym, ap, ap₂, ◌∙◌, subst, arith}
use Rattle.lego_term.specs.declared.binder.Binder.{Binder}
use Rattle.lego_term.specs.declared.binder.Mark.{Mark}
use Rattle.lego_term.specs.declared.level.Level.{Level}
use Rattle.lego_term.specs.Trees.{Tree, Core, Var, Const, Prop, Univ, Pi, Lam, App, Sigma, Pair, Fst, Snd, Let, Bodies, shape, EqualButLevels}
use Rattle.lego_term.specs.Sequences.{or_else, head_step, normal_step, after, Ends, HeadForm, NormalForm}
use Rattle.lego_laws.specs.Parallel.{CoreBodies}
use Rattle.lego_laws.proofs.lemmas.reduction.After.{next, at_most}
use Rattle.lego_laws.proofs.lemmas.reduction.Mapping.{mapped_bodies, head_step-map}
use Rattle.lego_match.specs.Agreement.{Agree}
use Rattle.lego_match.proofs.AgreementLemmas.{levels_aside}

or_else-map : {X Y : Type 0} (f : X → Y) (o p : Option X) → or_else (option_map f o) (option_map f p) ≡ option_map f (or_else o p)
or_else-map f None p = refl
or_else-map f (Some x) p = refl

map-map : {X Y Z W : Type 0} (f : X → Y) (g : Y → Z) (f' : X → W) (g' : W → Z) → ((x : X) → g (f x) ≡ g' (f' x)) → (o : Option X) → option_map g (option_map f o) ≡ option_map g' (option_map f' o)
map-map f g f' g' h None = refl
map-map f g f' g' h (Some x) = ap Some (h x)

module _ (b : CoreBodies) where
  abbrev Bare : Type 0
  Bare = Tree (Unit {0}) (Unit {0}) (Unit {0})

  abbrev bare : Bodies (Unit {0}) (Unit {0}) (Unit {0})
  bare = mapped_bodies (λ (x : Binder). tt) (λ (k : Mark). tt) (λ (l : Level). tt) b

  -- a part's next term stands in the whole
  in_part : (G : Bare → Bare) (F : Core → Core) → ((z : Core) → G (shape z) ≡ shape (F z)) → (a : Core) → normal_step bare (shape a) ≡ option_map shape (normal_step b a)
      → option_map G (normal_step bare (shape a)) ≡ option_map shape (option_map F (normal_step b a))
  in_part G F h a e = ap (option_map G) e ∙ map-map shape G F shape h (normal_step b a)

  choice : (o p : Option Bare) (o' p' : Option Core) → o ≡ option_map shape o' → p ≡ option_map shape p' → or_else o p ≡ option_map shape (or_else o' p')
  choice o p o' p' e f = ap₂ or_else e f ∙ or_else-map shape o' p'

  head-shape : (t : Core) → head_step bare (shape t) ≡ option_map shape (head_step b t)
  head-shape t = head_step-map (λ (x : Binder). tt) (λ (k : Mark). tt) (λ (l : Level). tt) b t

  -- the next term of the bare tree is the bare next term
  step-shape : (t : Core) → normal_step bare (shape t) ≡ option_map shape (normal_step b t)
  step-shape (Var i) = refl
  step-shape (Const k) = refl
  step-shape Prop = refl
  step-shape (Univ l) = refl
  step-shape (Pi x a r) =
      choice _ _ (option_map (λ z. Pi x z r) (normal_step b a)) (option_map (λ z. Pi x a z) (normal_step b r))
      (in_part (λ z. Pi tt z (shape r)) (λ z. Pi x z r) (λ z. refl) a (step-shape a)) (in_part (λ z. Pi tt (shape a) z) (λ z. Pi x a z) (λ z. refl) r (step-shape r))
  step-shape (Lam x a r) =
      choice _ _ (option_map (λ z. Lam x z r) (normal_step b a)) (option_map (λ z. Lam x a z) (normal_step b r))
      (in_part (λ z. Lam tt z (shape r)) (λ z. Lam x z r) (λ z. refl) a (step-shape a)) (in_part (λ z. Lam tt (shape a) z) (λ z. Lam x a z) (λ z. refl) r (step-shape r))
  step-shape (Sigma x a r) =
      choice _ _ (option_map (λ z. Sigma x z r) (normal_step b a)) (option_map (λ z. Sigma x a z) (normal_step b r))
      (in_part (λ z. Sigma tt z (shape r)) (λ z. Sigma x z r) (λ z. refl) a (step-shape a)) (in_part (λ z. Sigma tt (shape a) z) (λ z. Sigma x a z) (λ z. refl) r (step-shape r))
  step-shape (App k m n) =
      choice _ _ (head_step b (App k m n)) (or_else (option_map (λ z. App k z n) (normal_step b m)) (option_map (λ z. App k m z) (normal_step b n)))
      (head-shape (App k m n))
      (choice _ _ (option_map (λ z. App k z n) (normal_step b m)) (option_map (λ z. App k m z) (normal_step b n))
      (in_part (λ z. App tt z (shape n)) (λ z. App k z n) (λ z. refl) m (step-shape m)) (in_part (λ z. App tt (shape m) z) (λ z. App k m z) (λ z. refl) n (step-shape n)))
  step-shape (Pair x a r m n) =
      choice _ _ (option_map (λ z. Pair x z r m n) (normal_step b a)) (or_else (option_map (λ z. Pair x a z m n) (normal_step b r)) (or_else (option_map (λ z. Pair x a r z n) (normal_step b m)) (option_map (λ z. Pair x a r m z) (normal_step b n))))
      (in_part (λ z. Pair tt z (shape r) (shape m) (shape n)) (λ z. Pair x z r m n) (λ z. refl) a (step-shape a))
      (choice _ _ (option_map (λ z. Pair x a z m n) (normal_step b r)) (or_else (option_map (λ z. Pair x a r z n) (normal_step b m)) (option_map (λ z. Pair x a r m z) (normal_step b n)))
      (in_part (λ z. Pair tt (shape a) z (shape m) (shape n)) (λ z. Pair x a z m n) (λ z. refl) r (step-shape r))
      (choice _ _ (option_map (λ z. Pair x a r z n) (normal_step b m)) (option_map (λ z. Pair x a r m z) (normal_step b n))
      (in_part (λ z. Pair tt (shape a) (shape r) z (shape n)) (λ z. Pair x a r z n) (λ z. refl) m (step-shape m))
      (in_part (λ z. Pair tt (shape a) (shape r) (shape m) z) (λ z. Pair x a r m z) (λ z. refl) n (step-shape n))))
  step-shape (Fst m) = choice _ _ (head_step b (Fst m)) (option_map Fst (normal_step b m)) (head-shape (Fst m)) (in_part Fst Fst (λ z. refl) m (step-shape m))
  step-shape (Snd m) = choice _ _ (head_step b (Snd m)) (option_map Snd (normal_step b m)) (head-shape (Snd m)) (in_part Snd Snd (λ z. refl) m (step-shape m))
  step-shape (Let x m n) = head-shape (Let x m n)

  -- what a sequence reaches, the sequence of bare trees reaches bare
  after-shape : (f : Core → Option Core) (g : Bare → Option Bare) → ((t : Core) → g (shape t) ≡ option_map shape (f t)) → (n : ℕ) (t u : Core) → after f n t ≡ Some u → after g n (shape t) ≡ Some (shape u)
  after-shape f g c zero t u e = let s : t ≡ u = cc e in ap (λ z. Some (shape z)) s
  after-shape f g c (suc n) t u e =
      let k = next f n (f t) u e in
      ap (option_and_then (after g n)) (c t ∙ ap (option_map shape) k.1) ∙ after-shape f g c n k.0 u k.2

  end-shape : (f : Core → Option Core) (g : Bare → Option Bare) → ((t : Core) → g (shape t) ≡ option_map shape (f t)) → (n : ℕ) (t u : Core) → Ends f t n u → Ends g (shape t) n (shape u)
  end-shape f g c n t u e = record { reaches = after-shape f g c n t u e.reaches; last = c u ∙ ap (option_map shape) e.last }

-- a sequence has one end
pub one_end : {T : Type 0} (f : T → Option T) (t u v : T) (m n : ℕ) → Ends f t m u → Ends f t n v → u ≡ v
one_end f t u v m n x y =
    let l = at_most f m n t u x.reaches x.last (v, y.reaches) in
    let r = at_most f n m t v y.reaches y.last (u, x.reaches) in
    let same : m ≡ n = omega arith in
    some_is (sym (subst (λ z. after f z t ≡ Some u) same x.reaches) ∙ y.reaches)
  where
    some_is : {T : Type 0} {a c : T} → Some a ≡ Some c → a ≡ c
    some_is e = cc

-- terms that are equal but for levels have normal forms that agree, and head forms that are equal but for levels
pub levels_agree : (b : CoreBodies) (t u p q : Core) → EqualButLevels t u → NormalForm b t p → NormalForm b u q → Agree p q
levels_agree b t u p q e x y =
    let l = end-shape b (normal_step b) (normal_step (bare b)) (step-shape b) x.0 t p x.1 in
    let r = end-shape b (normal_step b) (normal_step (bare b)) (step-shape b) y.0 u q y.1 in
    levels_aside p q (one_end (normal_step (bare b)) (shape u) (shape p) (shape q) x.0 y.0 (subst (λ z. Ends (normal_step (bare b)) z x.0 (shape p)) e l) r)

pub level_heads : (b : CoreBodies) (t u h k : Core) → EqualButLevels t u → HeadForm b t h → HeadForm b u k → EqualButLevels h k
level_heads b t u h k e x y =
    let l = end-shape b (head_step b) (head_step (bare b)) (head-shape b) x.0 t h x.1 in
    let r = end-shape b (head_step b) (head_step (bare b)) (head-shape b) y.0 u k y.1 in
    one_end (head_step (bare b)) (shape u) (shape h) (shape k) x.0 y.0 (subst (λ z. Ends (head_step (bare b)) z x.0 (shape h)) e l) r
