-- The test of two terms' agreement decides it, and terms agree by their roots and parts.
use Rattle.std.proofs.Common.{◌≡◌, ℕ, Bool, true, false, ◌&&◌, nat_eq, Option, Some, None, option_map, List, [], ◌∷◌, map, slice_get, refl, sym, ap, ◌∙◌, arith, IsTrue, ◌↔◌}
use Rattle.std.proofs.lemmas.Option.{slice_get-map}
use Rattle.std.specs.Cmp.Derive.{both_true}
use Rattle.std.proofs.lemmas.Bool.{false≢true}
use Rattle.std.proofs.lemmas.Bool.Decides.{nat_tests}
use Rattle.lego_term.specs.Trees.{Tree, Core, Var, Const, Prop, Univ, Pi, Lam, App, Sigma, Pair, Fst, Snd, Let, shape, EqualButLevels}
use Rattle.lego_term.specs.Parts.{Shape, shape_of, Branch, parts_of}
use Rattle.lego_match.specs.Agreement.{Agree, with_one_sort}
use Rattle.lego_match.specs.private.Codes.{agrees, agree_at_root}

left : (p q : Bool) → (p && q) ≡ true → p ≡ true
left true q h = refl
left false q h = absurd (false≢true h)

right : (p q : Bool) → (p && q) ≡ true → q ≡ true
right true q h = h
right false q h = absurd (false≢true h)

same_number : (i j : ℕ) → nat_eq i j ≡ true → i ≡ j
same_number i j h = grind (arith, nat_tests)

number_itself : (i j : ℕ) → i ≡ j → nat_eq i j ≡ true
number_itself i j h = grind (arith, nat_tests)

agrees-same : (a b : Core) → agrees a b ≡ true → Agree a b
agrees-same (Var i) (Var j) e = ap Var (same_number i j e)
agrees-same (Const k) (Const n) e = ap Const (same_number k n e)
agrees-same Prop Prop e = refl
agrees-same Prop (Univ l) e = refl
agrees-same (Univ l) Prop e = refl
agrees-same (Univ l) (Univ m) e = refl
agrees-same (Pi x a b) (Pi y c d) e = λ i. Pi tt (agrees-same a c (left _ _ e) i) (agrees-same b d (right _ _ e) i)
agrees-same (Lam x a b) (Lam y c d) e = λ i. Lam tt (agrees-same a c (left _ _ e) i) (agrees-same b d (right _ _ e) i)
agrees-same (App k a b) (App n c d) e = λ i. App tt (agrees-same a c (left _ _ e) i) (agrees-same b d (right _ _ e) i)
agrees-same (Sigma x a b) (Sigma y c d) e = λ i. Sigma tt (agrees-same a c (left _ _ e) i) (agrees-same b d (right _ _ e) i)
agrees-same (Pair x a b m n) (Pair y c d p q) e = λ i.
    let e3 = left _ _ e in
    let e2 = left _ _ e3 in
    Pair tt (agrees-same a c (left _ _ e2) i) (agrees-same b d (right _ _ e2) i) (agrees-same m p (right _ _ e3) i) (agrees-same n q (right _ _ e) i)
agrees-same (Fst a) (Fst c) e = ap Fst (agrees-same a c e)
agrees-same (Snd a) (Snd c) e = ap Snd (agrees-same a c e)
agrees-same (Let x a b) (Let y c d) e = λ i. Let tt (agrees-same a c (left _ _ e) i) (agrees-same b d (right _ _ e) i)
agrees-same _ _ e = absurd (false≢true e)

same-agrees : (a b : Core) → Agree a b → agrees a b ≡ true
same-agrees (Var i) (Var j) e = number_itself i j (cc)
same-agrees (Const k) (Const n) e = number_itself k n (cc)
same-agrees Prop Prop e = refl
same-agrees Prop (Univ l) e = refl
same-agrees (Univ l) Prop e = refl
same-agrees (Univ l) (Univ m) e = refl
same-agrees (Pi x a b) (Pi y c d) e = both_true (same-agrees a c (cc)) (same-agrees b d (cc))
same-agrees (Lam x a b) (Lam y c d) e = both_true (same-agrees a c (cc)) (same-agrees b d (cc))
same-agrees (App k a b) (App n c d) e = both_true (same-agrees a c (cc)) (same-agrees b d (cc))
same-agrees (Sigma x a b) (Sigma y c d) e = both_true (same-agrees a c (cc)) (same-agrees b d (cc))
same-agrees (Pair x a b m n) (Pair y c d p q) e =
    both_true (both_true (both_true (same-agrees a c (cc)) (same-agrees b d (cc))) (same-agrees m p (cc))) (same-agrees n q (cc))
same-agrees (Fst a) (Fst c) e = same-agrees a c (cc)
same-agrees (Snd a) (Snd c) e = same-agrees a c (cc)
same-agrees (Let x a b) (Let y c d) e = both_true (same-agrees a c (cc)) (same-agrees b d (cc))
same-agrees _ _ e = cc

pub agrees_decides : (a b : Core) → IsTrue (agrees a b) ↔ Agree a b
agrees_decides a b = (agrees-same a b, same-agrees a b)

-- terms that are equal but for levels agree
pub levels_aside : (p q : Core) → EqualButLevels p q → Agree p q
levels_aside p q e = ap with_one_sort e

-- two terms agree where their roots and their parts do
pub parts_agree : (p q : Core) → agree_at_root p q ≡ true → ((j : ℕ) (l r : Branch) → slice_get (parts_of p) j ≡ Some l → slice_get (parts_of q) j ≡ Some r → Agree l.term r.term) → Agree p q
parts_agree (Var i) (Var j) e h = ap Var (same_number i j e)
parts_agree (Const k) (Const n) e h = ap Const (same_number k n e)
parts_agree Prop Prop e h = refl
parts_agree Prop (Univ l) e h = refl
parts_agree (Univ l) Prop e h = refl
parts_agree (Univ l) (Univ m) e h = refl
parts_agree (Pi x a b) (Pi y c d) e h = λ i. Pi tt (h 0 _ _ refl refl i) (h 1 _ _ refl refl i)
parts_agree (Lam x a b) (Lam y c d) e h = λ i. Lam tt (h 0 _ _ refl refl i) (h 1 _ _ refl refl i)
parts_agree (App k a b) (App n c d) e h = λ i. App tt (h 0 _ _ refl refl i) (h 1 _ _ refl refl i)
parts_agree (Sigma x a b) (Sigma y c d) e h = λ i. Sigma tt (h 0 _ _ refl refl i) (h 1 _ _ refl refl i)
parts_agree (Pair x a b m n) (Pair y c d p q) e h = λ i. Pair tt (h 0 _ _ refl refl i) (h 1 _ _ refl refl i) (h 2 _ _ refl refl i) (h 3 _ _ refl refl i)
parts_agree (Fst a) (Fst c) e h = ap Fst (h 0 _ _ refl refl)
parts_agree (Snd a) (Snd c) e h = ap Snd (h 0 _ _ refl refl)
parts_agree _ _ e h = absurd (false≢true e)

-- forms with parts, of one form but no local definitions, agree at the root
pub shapes_agree : (h k : Core) (s : Shape) → shape_of h ≡ Some s → shape_of k ≡ Some s → (s ≡ Shape.ALet → ⊥) → agree_at_root h k ≡ true
shapes_agree (Pi x a b) (Pi y c d) s e f n = refl
shapes_agree (Lam x a b) (Lam y c d) s e f n = refl
shapes_agree (App x a b) (App y c d) s e f n = refl
shapes_agree (Sigma x a b) (Sigma y c d) s e f n = refl
shapes_agree (Pair x a b m o) (Pair y c d p q) s e f n = refl
shapes_agree (Fst a) (Fst c) s e f n = refl
shapes_agree (Snd a) (Snd c) s e f n = refl
shapes_agree (Let x a b) (Let y c d) s e f n = absurd (n (cc))
shapes_agree _ _ s e f n = cc

pub root_shapes : (h k : Core) → agree_at_root h k ≡ true → shape_of h ≡ shape_of k
root_shapes (Var i) (Var j) e = refl
root_shapes (Const k) (Const n) e = refl
root_shapes Prop Prop e = refl
root_shapes Prop (Univ l) e = refl
root_shapes (Univ l) Prop e = refl
root_shapes (Univ l) (Univ m) e = refl
root_shapes (Pi x a b) (Pi y c d) e = refl
root_shapes (Lam x a b) (Lam y c d) e = refl
root_shapes (App k a b) (App n c d) e = refl
root_shapes (Sigma x a b) (Sigma y c d) e = refl
root_shapes (Pair x a b m n) (Pair y c d p q) e = refl
root_shapes (Fst a) (Fst c) e = refl
root_shapes (Snd a) (Snd c) e = refl
root_shapes _ _ e = absurd (false≢true e)

-- the form and the parts of a bare tree
abbrev Bare : Type 0
Bare = Tree (Unit {0}) (Unit {0}) (Unit {0})

abbrev bare_form : Bare → Option Shape
bare_form (Pi x a r) = Some Shape.APi
bare_form (Lam x a r) = Some Shape.ALam
bare_form (App k m n) = Some Shape.AnApp
bare_form (Sigma x a r) = Some Shape.ASigma
bare_form (Pair x a r m n) = Some Shape.APair
bare_form (Fst m) = Some Shape.AFst
bare_form (Snd m) = Some Shape.ASnd
bare_form (Let x m n) = Some Shape.ALet
bare_form _ = None

abbrev bare_parts : Bare → List Bare
bare_parts (Pi x a r) = a ∷ r ∷ []
bare_parts (Lam x a r) = a ∷ r ∷ []
bare_parts (App k m n) = m ∷ n ∷ []
bare_parts (Sigma x a r) = a ∷ r ∷ []
bare_parts (Pair x a r m n) = a ∷ r ∷ m ∷ n ∷ []
bare_parts (Fst m) = m ∷ []
bare_parts (Snd m) = m ∷ []
bare_parts (Let x m n) = m ∷ n ∷ []
bare_parts _ = []

-- the term's own are these
record Bared (t : Core) : Type 0 where
  form : bare_form (with_one_sort (shape t)) ≡ shape_of t
  parts : bare_parts (shape t) ≡ map (λ (l : Branch). shape l.term) (parts_of t)
  sorts : bare_parts (with_one_sort (shape t)) ≡ map with_one_sort (bare_parts (shape t))

bared : (t : Core) → Bared t
bared (Var i) = record { form = refl; parts = refl; sorts = refl }
bared (Const k) = record { form = refl; parts = refl; sorts = refl }
bared Prop = record { form = refl; parts = refl; sorts = refl }
bared (Univ l) = record { form = refl; parts = refl; sorts = refl }
bared (Pi x a r) = record { form = refl; parts = refl; sorts = refl }
bared (Lam x a r) = record { form = refl; parts = refl; sorts = refl }
bared (App k m n) = record { form = refl; parts = refl; sorts = refl }
bared (Sigma x a r) = record { form = refl; parts = refl; sorts = refl }
bared (Pair x a r m n) = record { form = refl; parts = refl; sorts = refl }
bared (Fst m) = record { form = refl; parts = refl; sorts = refl }
bared (Snd m) = record { form = refl; parts = refl; sorts = refl }
bared (Let x m n) = record { form = refl; parts = refl; sorts = refl }

-- terms that agree have one form
pub agree_shapes : (p q : Core) → Agree p q → shape_of p ≡ shape_of q
agree_shapes p q e = sym (bared p).form ∙ ap bare_form e ∙ (bared q).form

bare_part : (t : Core) (i : ℕ) (l : Branch) → slice_get (parts_of t) i ≡ Some l → slice_get (bare_parts (shape t)) i ≡ Some (shape l.term)
bare_part t i l x =
    ap (λ z. slice_get z i) (bared t).parts ∙ slice_get-map (λ (l : Branch). shape l.term) (parts_of t) i ∙ ap (option_map (λ (l : Branch). shape l.term)) x

one_sort_part : (t : Core) (i : ℕ) (l : Branch) → slice_get (parts_of t) i ≡ Some l → slice_get (bare_parts (with_one_sort (shape t))) i ≡ Some (with_one_sort (shape l.term))
one_sort_part t i l x =
    ap (λ z. slice_get z i) (bared t).sorts ∙ slice_get-map with_one_sort (bare_parts (shape t)) i ∙ ap (option_map with_one_sort) (bare_part t i l x)

same_bare : {x y : Bare} → Some x ≡ Some y → x ≡ y
same_bare e = cc

-- parts of terms that are equal but for levels are so, and those of terms that agree agree
pub level_parts : (p q : Core) (i : ℕ) (l r : Branch) → EqualButLevels p q → slice_get (parts_of p) i ≡ Some l → slice_get (parts_of q) i ≡ Some r → EqualButLevels l.term r.term
level_parts p q i l r e x y = same_bare (sym (bare_part p i l x) ∙ ap (λ z. slice_get (bare_parts z) i) e ∙ bare_part q i r y)

pub agree_parts : (p q : Core) (i : ℕ) (l r : Branch) → Agree p q → slice_get (parts_of p) i ≡ Some l → slice_get (parts_of q) i ≡ Some r → Agree l.term r.term
agree_parts p q i l r e x y = same_bare (sym (one_sort_part p i l x) ∙ ap (λ z. slice_get (bare_parts z) i) e ∙ one_sort_part q i r y)
