-- The test of two terms' agreement decides that they are equal trees.
use Rattle.std.proofs.Common.{◌≡◌, ℕ, Bool, true, false, ◌&&◌, ◌||◌, not, nat_eq, Option, None, Some, refl, sym, ap, ◌∙◌, arith, IsTrue, ◌↔◌}
use Rattle.std.specs.Cmp.Derive.{both_true}
use Rattle.std.proofs.lemmas.Bool.{false≢true}
use Rattle.std.proofs.lemmas.Bool.Decides.{nat_tests}
use Rattle.lego_term.specs.Trees.{Core, Var, Const, Prop, Univ, Pi, Lam, App, Sigma, Pair, Fst, Snd, Let, map_tree, Equal, EqualButLevels}
use Rattle.lego_term.specs.private.Agreement.{agrees, same_option, same_mark, same_binder, same_level}
use Rattle.lego_term.specs.declared.binder.Binder.{Binder}
use Rattle.lego_term.specs.declared.binder.Mark.{Mark}
use Rattle.lego_term.specs.declared.binder.Mark.TheVariants.{Plain, Implicit}
use Rattle.lego_term.specs.declared.level.Level.{Level}

left : (p q : Bool) → (p && q) ≡ true → p ≡ true
left true q h = refl
left false q h = absurd (false≢true h)

right : (p q : Bool) → (p && q) ≡ true → q ≡ true
right true q h = h
right false q h = absurd (false≢true h)

same_number : (i j : ℕ) → nat_eq i j ≡ true → i ≡ j
same_number i j h = grind (arith, nat_tests)

number_itself : (i j : ℕ) → i ≡ j → nat_eq i j ≡ true
number_itself i j h = grind (arith, nat_tests)

option_from : (o p : Option ℕ) → same_option o p ≡ true → o ≡ p
option_from None None h = refl
option_from (Some i) (Some j) h = ap Some (same_number i j h)
option_from _ _ h = absurd (false≢true h)

option_itself : (o : Option ℕ) → same_option o o ≡ true
option_itself None = refl
option_itself (Some i) = number_itself i i refl

mark_from : (k n : Mark) → same_mark k n ≡ true → k ≡ n
mark_from Plain Plain h = refl
mark_from Implicit Implicit h = refl
mark_from _ _ h = absurd (false≢true h)

mark_itself : (k : Mark) → same_mark k k ≡ true
mark_itself Plain = refl
mark_itself Implicit = refl

binder_from : (x y : Binder) → same_binder x y ≡ true → x ≡ y
binder_from x y h i = record {
  name = option_from x.name y.name (left _ _ h) i;
  mark = mark_from x.mark y.mark (right _ _ h) i;
}

binder_itself : (x : Binder) → same_binder x x ≡ true
binder_itself x = both_true (option_itself x.name) (mark_itself x.mark)

level_from : (l m : Level) → same_level l m ≡ true → l ≡ m
level_from l m h i = record {
  base = option_from l.base m.base (left _ _ h) i;
  plus = same_number l.plus m.plus (right _ _ h) i;
}

level_itself : (l : Level) → same_level l l ≡ true
level_itself l = both_true (option_itself l.base) (number_itself l.plus l.plus refl)

-- What is kept of binders, marks and levels, and that the tests decide whether it is the same.
record Keeps (names levels : Bool) {B M L : Type 0} (f : Binder → B) (g : Mark → M) (h : Level → L) : Type 0 where
  binder : (x y : Binder) → (not names || same_binder x y) ≡ true → f x ≡ f y
  mark : (k n : Mark) → (not names || same_mark k n) ≡ true → g k ≡ g n
  level : (l m : Level) → (not levels || same_level l m) ≡ true → h l ≡ h m
  binder_back : (x y : Binder) → f x ≡ f y → (not names || same_binder x y) ≡ true
  mark_back : (k n : Mark) → g k ≡ g n → (not names || same_mark k n) ≡ true
  level_back : (l m : Level) → h l ≡ h m → (not levels || same_level l m) ≡ true

module _ (names levels : Bool) {B M L : Type 0} (f : Binder → B) (g : Mark → M) (h : Level → L) (keeps : Keeps names levels f g h) where
  agrees-same : (a b : Core) → agrees names levels a b ≡ true → map_tree f g h a ≡ map_tree f g h b
  agrees-same (Var i) (Var j) e = ap Var (same_number i j e)
  agrees-same (Const k) (Const n) e = ap Const (same_number k n e)
  agrees-same Prop Prop e = refl
  agrees-same (Univ l) (Univ m) e = ap Univ (keeps.level l m e)
  agrees-same (Pi x a b) (Pi y c d) e = λ i.
      Pi (keeps.binder x y (left _ _ (left _ _ e)) i) (agrees-same a c (right _ _ (left _ _ e)) i) (agrees-same b d (right _ _ e) i)
  agrees-same (Lam x a b) (Lam y c d) e = λ i.
      Lam (keeps.binder x y (left _ _ (left _ _ e)) i) (agrees-same a c (right _ _ (left _ _ e)) i) (agrees-same b d (right _ _ e) i)
  agrees-same (App k a b) (App n c d) e = λ i.
      App (keeps.mark k n (left _ _ (left _ _ e)) i) (agrees-same a c (right _ _ (left _ _ e)) i) (agrees-same b d (right _ _ e) i)
  agrees-same (Sigma x a b) (Sigma y c d) e = λ i.
      Sigma (keeps.binder x y (left _ _ (left _ _ e)) i) (agrees-same a c (right _ _ (left _ _ e)) i) (agrees-same b d (right _ _ e) i)
  agrees-same (Pair x a b m n) (Pair y c d p q) e = λ i.
      let e4 = left _ _ e in
      let e3 = left _ _ e4 in
      let e2 = left _ _ e3 in
      Pair (keeps.binder x y (left _ _ e2) i) (agrees-same a c (right _ _ e2) i) (agrees-same b d (right _ _ e3) i) (agrees-same m p (right _ _ e4) i) (agrees-same n q (right _ _ e) i)
  agrees-same (Fst a) (Fst c) e = ap Fst (agrees-same a c e)
  agrees-same (Snd a) (Snd c) e = ap Snd (agrees-same a c e)
  agrees-same (Let x a b) (Let y c d) e = λ i.
      Let (keeps.binder x y (left _ _ (left _ _ e)) i) (agrees-same a c (right _ _ (left _ _ e)) i) (agrees-same b d (right _ _ e) i)
  agrees-same _ _ e = absurd (false≢true e)

  same-agrees : (a b : Core) → map_tree f g h a ≡ map_tree f g h b → agrees names levels a b ≡ true
  same-agrees (Var i) (Var j) e = number_itself i j (cc)
  same-agrees (Const k) (Const n) e = number_itself k n (cc)
  same-agrees Prop Prop e = refl
  same-agrees (Univ l) (Univ m) e = keeps.level_back l m (cc)
  same-agrees (Pi x a b) (Pi y c d) e =
      both_true (both_true (keeps.binder_back x y (cc)) (same-agrees a c (cc))) (same-agrees b d (cc))
  same-agrees (Lam x a b) (Lam y c d) e =
      both_true (both_true (keeps.binder_back x y (cc)) (same-agrees a c (cc))) (same-agrees b d (cc))
  same-agrees (App k a b) (App n c d) e =
      both_true (both_true (keeps.mark_back k n (cc)) (same-agrees a c (cc))) (same-agrees b d (cc))
  same-agrees (Sigma x a b) (Sigma y c d) e =
      both_true (both_true (keeps.binder_back x y (cc)) (same-agrees a c (cc))) (same-agrees b d (cc))
  same-agrees (Pair x a b m n) (Pair y c d p q) e =
      both_true (both_true (both_true (both_true (keeps.binder_back x y (cc)) (same-agrees a c (cc))) (same-agrees b d (cc))) (same-agrees m p (cc))) (same-agrees n q (cc))
  same-agrees (Fst a) (Fst c) e = same-agrees a c (cc)
  same-agrees (Snd a) (Snd c) e = same-agrees a c (cc)
  same-agrees (Let x a b) (Let y c d) e =
      both_true (both_true (keeps.binder_back x y (cc)) (same-agrees a c (cc))) (same-agrees b d (cc))
  same-agrees _ _ e = cc

  decides : (a b : Core) → IsTrue (agrees names levels a b) ↔ map_tree f g h a ≡ map_tree f g h b
  decides a b = (agrees-same a b, same-agrees a b)

levels_kept : Keeps false true {B = Unit {0}} {M = Unit {0}} (λ x. tt) (λ k. tt) (λ l. l)
levels_kept = record {
  binder = λ x y e. refl;
  mark = λ k n e. refl;
  level = λ l m e. level_from l m e;
  binder_back = λ x y e. refl;
  mark_back = λ k n e. refl;
  level_back = λ l m e. ap (same_level l) (sym e) ∙ level_itself l;
}

shape_kept : Keeps false false {B = Unit {0}} {M = Unit {0}} {L = Unit {0}} (λ x. tt) (λ k. tt) (λ l. tt)
shape_kept = record {
  binder = λ x y e. refl;
  mark = λ k n e. refl;
  level = λ l m e. refl;
  binder_back = λ x y e. refl;
  mark_back = λ k n e. refl;
  level_back = λ l m e. refl;
}

all_kept : Keeps true true (λ (x : Binder). x) (λ (k : Mark). k) (λ (l : Level). l)
all_kept = record {
  binder = λ x y e. binder_from x y e;
  mark = λ k n e. mark_from k n e;
  level = λ l m e. level_from l m e;
  binder_back = λ x y e. ap (same_binder x) (sym e) ∙ binder_itself x;
  mark_back = λ k n e. ap (same_mark k) (sym e) ∙ mark_itself k;
  level_back = λ l m e. ap (same_level l) (sym e) ∙ level_itself l;
}

map-itself : (t : Core) → map_tree (λ (x : Binder). x) (λ (k : Mark). k) (λ (l : Level). l) t ≡ t
map-itself (Var n) i = Var n
map-itself (Const k) i = Const k
map-itself Prop i = Prop
map-itself (Univ l) i = Univ l
map-itself (Pi x a b) i = Pi x (map-itself a i) (map-itself b i)
map-itself (Lam x a m) i = Lam x (map-itself a i) (map-itself m i)
map-itself (App k m n) i = App k (map-itself m i) (map-itself n i)
map-itself (Sigma x a b) i = Sigma x (map-itself a i) (map-itself b i)
map-itself (Pair x a b m n) i = Pair x (map-itself a i) (map-itself b i) (map-itself m i) (map-itself n i)
map-itself (Fst m) i = Fst (map-itself m i)
map-itself (Snd m) i = Snd (map-itself m i)
map-itself (Let x m n) i = Let x (map-itself m i) (map-itself n i)

pub equal_decides : (a b : Core) → IsTrue (agrees false true a b) ↔ Equal a b
equal_decides = decides false true _ _ _ levels_kept

pub but_levels_decides : (a b : Core) → IsTrue (agrees false false a b) ↔ EqualButLevels a b
but_levels_decides = decides false false _ _ _ shape_kept

pub identical_decides : (a b : Core) → IsTrue (agrees true true a b) ↔ a ≡ b
identical_decides a b =
    let d = decides true true _ _ _ all_kept a b in
    (λ e. sym (map-itself a) ∙ (d.0 e ∙ map-itself b), λ e. d.1 (map-itself a ∙ (e ∙ sym (map-itself b))))
