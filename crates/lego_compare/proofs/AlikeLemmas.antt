-- Head forms whose roots are alike, or both universes.
use Rattle.std.proofs.Common.{◌≡◌, ℕ, zero, suc, drop, Some, None, List, [], ◌∷◌, ◌++◌, refl, sym, ap, ◌∙◌, subst, arith}
use Rattle.std.proofs.lemmas.List.{append-nil, append_assoc}
use Rattle.lego_term.specs.Trees.{Core, Var, Const, Prop, Univ, Pi, Lam, App, Sigma, Pair, Fst, Snd, Let}
use Rattle.lego_term.specs.Parts.{Shape, Branch, parts_of, shape_of}
use Rattle.lego_compare.specs.declared.relation.Relation.{Relation}
use Rattle.lego_compare.specs.declared.relation.Relation.TheVariants.{Below, Same}
use Rattle.lego_compare.specs.declared.roots.Roots.TheVariants.{Alike}
use Rattle.lego_compare.specs.private.Codes.{roots_of}
use Rattle.lego_laws.specs.Parallel.{CoreBodies}
use Rattle.lego_term.specs.Levels.{LevelPair}
use Rattle.lego_laws.specs.Comparison.{Compared, FormsCompared, f_var, f_const, f_prop, f_prop_univ, f_pi, f_lam, f_app, f_sigma, f_pair, f_fst, f_snd}
use Rattle.lego_compare.specs.private.Codes.{order_of, relation_at}
use Rattle.lego_compare.specs.private.Walks.{PartsCompared, c_none, c_next, FormsWalk, PartsWalk}
use Rattle.std.proofs.Common.{Result, Ok, Err, length, Option}
use Rattle.lego_term.specs.Parts.{APi, ALam, AnApp, ASigma, APair, AFst, ASnd, ALet}
use Rattle.lego_base.specs.declared.place.Place.{Place}
use Rattle.lego_level.specs.declared.constraint.Constraint.{Constraint}
use Rattle.lego_level.specs.Graphs.{pairs_of}
use Rattle.lego_compare.specs.declared.stop.Stop.{Stop}
use Rattle.lego_compare.specs.private.Codes.{alike_if_equal}

pub alike_shapes : (r : Relation) (h k : Core) → roots_of r h k ≡ Alike → shape_of h ≡ shape_of k
alike_shapes r (Var i) (Var j) e = refl
alike_shapes r (Const i) (Const j) e = refl
alike_shapes r Prop Prop e = refl
alike_shapes r Prop (Univ l) e = refl
alike_shapes r (Univ l) (Univ m) e = cc
alike_shapes r (Pi x a c) (Pi y a' c') e = refl
alike_shapes r (Lam x a c) (Lam y a' c') e = refl
alike_shapes r (App x a c) (App y a' c') e = refl
alike_shapes r (Sigma x a c) (Sigma y a' c') e = refl
alike_shapes r (Pair x a c m n) (Pair y a' c' m' n') e = refl
alike_shapes r (Fst a) (Fst a') e = refl
alike_shapes r (Snd a) (Snd a') e = refl
alike_shapes r _ _ e = cc

-- the parts of a form with two or one of them, compared
module _ (b : CoreBodies) (r : Relation) (h : Core) where
  pub record Two (i : ℕ) (p q p' q' : Branch) (l : List LevelPair) : Type 0 where
    pub first : List LevelPair
    pub second : List LevelPair
    pub sum : first ++ second ≡ l
    pub one : Compared b (order_of (relation_at r h i)) p.term p'.term first
    pub other : Compared b (order_of (relation_at r h (suc i))) q.term q'.term second

  pub two : {i : ℕ} {p q p' q' : Branch} {l : List LevelPair} → PartsCompared b r h i (p ∷ q ∷ []) (p' ∷ q' ∷ []) l → Two i p q p' q' l
  two (c_next {k = k} c (c_next {k = m} d c_none)) = record { first = k; second = m; sum = ap (λ z. k ++ z) (sym (append-nil m)); one = c; other = d }

pub pi_compared : (b : CoreBodies) (r : Relation) (x y : _) (a c a' c' : Core) (l : List LevelPair) → PartsCompared b r (Pi x a c) 0 (parts_of (Pi x a c)) (parts_of (Pi y a' c')) l → FormsCompared b (order_of r) (Pi x a c) (Pi y a' c') l
pi_compared b r x y a c a' c' l s = let t = two b r (Pi x a c) s in subst (λ z. FormsCompared b (order_of r) (Pi x a c) (Pi y a' c') z) t.sum (f_pi t.one t.other)

pub sigma_compared : (b : CoreBodies) (r : Relation) (x y : _) (a c a' c' : Core) (l : List LevelPair) → PartsCompared b r (Sigma x a c) 0 (parts_of (Sigma x a c)) (parts_of (Sigma y a' c')) l → FormsCompared b (order_of r) (Sigma x a c) (Sigma y a' c') l
sigma_compared b r x y a c a' c' l s = let t = two b r (Sigma x a c) s in subst (λ z. FormsCompared b (order_of r) (Sigma x a c) (Sigma y a' c') z) t.sum (f_sigma t.one t.other)

pub lam_compared : (b : CoreBodies) (r : Relation) (x y : _) (a c a' c' : Core) (l : List LevelPair) → PartsCompared b r (Lam x a c) 0 (parts_of (Lam x a c)) (parts_of (Lam y a' c')) l → FormsCompared b (order_of r) (Lam x a c) (Lam y a' c') l
lam_compared b r x y a c a' c' l s = let t = two b r (Lam x a c) s in subst (λ z. FormsCompared b (order_of r) (Lam x a c) (Lam y a' c') z) t.sum (f_lam t.one t.other)

pub app_compared : (b : CoreBodies) (r : Relation) (x y : _) (a c a' c' : Core) (l : List LevelPair) → PartsCompared b r (App x a c) 0 (parts_of (App x a c)) (parts_of (App y a' c')) l → FormsCompared b (order_of r) (App x a c) (App y a' c') l
app_compared b r x y a c a' c' l s = let t = two b r (App x a c) s in subst (λ z. FormsCompared b (order_of r) (App x a c) (App y a' c') z) t.sum (f_app t.one t.other)

pub pair_compared : (b : CoreBodies) (r : Relation) (x y : _) (a c m n a' c' m' n' : Core) (l : List LevelPair) → PartsCompared b r (Pair x a c m n) 0 (parts_of (Pair x a c m n)) (parts_of (Pair y a' c' m' n')) l → FormsCompared b (order_of r) (Pair x a c m n) (Pair y a' c' m' n') l
pair_compared b r x y a c m n a' c' m' n' _ (c_next {k = i} p (c_next {k = j} q (c_next {k = k} z (c_next {k = l} w c_none)))) =
    let e : (i ++ j) ++ (k ++ l) ≡ i ++ (j ++ (k ++ (l ++ []))) = append_assoc i j (k ++ l) ∙ ap (λ v. i ++ (j ++ (k ++ v))) (sym (append-nil l)) in
    subst (λ v. FormsCompared b (order_of r) (Pair x a c m n) (Pair y a' c' m' n') v) e (f_pair p q z w)

pub none_compared : (b : CoreBodies) (r : Relation) (h : Core) (l : List LevelPair) → PartsCompared b r h 0 [] [] l → l ≡ []
none_compared b r h _ c_none = refl

same_index : (i j : ℕ) → alike_if_equal i j ≡ Alike → i ≡ j
same_index i j e = grind arith

forms_compared : (b : CoreBodies) (r : Relation) (h k : Core) (l : List LevelPair) → roots_of r h k ≡ Alike → PartsCompared b r h 0 (parts_of h) (parts_of k) l → FormsCompared b (order_of r) h k l
forms_compared b r (Var i) (Var j) l e s = rw (none_compared b r (Var i) l s, ← same_index i j e) f_var
forms_compared b r (Const i) (Const j) l e s = rw (none_compared b r (Const i) l s, ← same_index i j e) f_const
forms_compared b r Prop Prop l e s = rw (none_compared b r Prop l s) f_prop
forms_compared b Below Prop (Univ m) l e s = rw (none_compared b Below Prop l s) f_prop_univ
forms_compared b Same Prop (Univ m) l e s = cc
forms_compared b r (Univ l') (Univ m) l e s = cc
forms_compared b r (Pi x a c) (Pi y a' c') l e s = pi_compared b r x y a c a' c' l s
forms_compared b r (Lam x a c) (Lam y a' c') l e s = lam_compared b r x y a c a' c' l s
forms_compared b r (App x a c) (App y a' c') l e s = app_compared b r x y a c a' c' l s
forms_compared b r (Sigma x a c) (Sigma y a' c') l e s = sigma_compared b r x y a c a' c' l s
forms_compared b r (Pair x a c m n) (Pair y a' c' m' n') l e s = pair_compared b r x y a c m n a' c' m' n' l s
forms_compared b r (Fst m) (Fst n) _ e (c_next {k = k} c c_none) = rw (append-nil k) (f_fst c)
forms_compared b r (Snd m) (Snd n) _ e (c_next {k = k} c c_none) = rw (append-nil k) (f_snd c)
forms_compared b r _ _ l e s = cc

pub forms_pass : (b : CoreBodies) (r : Relation) (h k : Core) (limit room before : ℕ) (place : Place) (old new : List Constraint) (result : Result ℕ Stop) → roots_of r h k ≡ Alike → PartsWalk b r h k 0 limit room before place old new result → FormsWalk b r h k limit room before place old new result
forms_pass b r h k limit room before place old new (Ok steps) e w =
    record { more = w.more; added = w.added; compared = forms_compared b r h k (pairs_of w.more) e w.compared; left = w.left; right = w.right; walked = w.walked; sum = w.sum; within = w.within; placed = w.placed }
forms_pass b r h k limit room before place old new (Err why) e w = w

abbrev arity : (t : Core) → Option Shape → ℕ
arity t None = 0
arity t (Some APi) = 2
arity t (Some ALam) = 2
arity t (Some AnApp) = 2
arity t (Some ASigma) = 2
arity t (Some APair) = 4
arity t (Some AFst) = 1
arity t (Some ASnd) = 1
arity t (Some ALet) = 2

part_count : (t : Core) → length (parts_of t) ≡ arity t (shape_of t)
part_count (Var i) = refl
part_count (Const k) = refl
part_count Prop = refl
part_count (Univ l) = refl
part_count (Pi x a c) = refl
part_count (Lam x a c) = refl
part_count (App x a c) = refl
part_count (Sigma x a c) = refl
part_count (Pair x a c m n) = refl
part_count (Fst m) = refl
part_count (Snd m) = refl
part_count (Let x m n) = refl

arity_alone : (t u : Core) (o : Option Shape) → arity t o ≡ arity u o
arity_alone t u None = refl
arity_alone t u (Some APi) = refl
arity_alone t u (Some ALam) = refl
arity_alone t u (Some AnApp) = refl
arity_alone t u (Some ASigma) = refl
arity_alone t u (Some APair) = refl
arity_alone t u (Some AFst) = refl
arity_alone t u (Some ASnd) = refl
arity_alone t u (Some ALet) = refl

pub past_end : {X Y : Type 0} (xs : List X) (ys : List Y) (i : ℕ) → length xs ≡ length ys → drop i xs ≡ [] → drop i ys ≡ []
past_end [] [] zero e d = refl
past_end [] [] (suc i) e d = refl
past_end [] (y ∷ ys) i e d = cc
past_end (x ∷ xs) [] i e d = cc
past_end (x ∷ xs) (y ∷ ys) zero e d = cc
past_end (x ∷ xs) (y ∷ ys) (suc i) e d = past_end xs ys i (cc) d

pub same_count : (h k : Core) → shape_of h ≡ shape_of k → length (parts_of h) ≡ length (parts_of k)
same_count h k e = part_count h ∙ (ap (arity h) e ∙ (arity_alone h k (shape_of k) ∙ sym (part_count k)))
