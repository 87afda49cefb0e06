-- Parts that face one another are related, so a difference excludes every value of the levels.
use Rattle.std.proofs.Common.{◌≡◌, ℕ, zero, suc, Option, Some, None, List, [], ◌∷◌, slice_get, refl, sym, ◌∙◌, subst}
use Rattle.lego_term.specs.declared.level.Level.{Level}
use Rattle.lego_term.specs.Trees.{Core, Var, Const, Prop, Univ, Pi, Lam, App, Sigma, Pair, Fst, Snd, Let}
use Rattle.lego_term.specs.Parts.{Shape, shape_of, Branch, parts_of}
use Rattle.lego_term.specs.Steps.{Converts}
use Rattle.lego_term.specs.Below.{Below}
use Rattle.lego_term.specs.Sequences.{HeadForm}
use Rattle.lego_laws.specs.Parallel.{TermBodies, CoreBodies, AreClosed, valued, bodies_valued}
use Rattle.lego_laws.specs.HeadForms.{IsHeadForm, PartsBelow, at_var, at_const}
use Rattle.lego_laws.specs.Facing.{Order, Cumulativity, Conversion, order_at, Faces, SameRoot}
use Rattle.lego_laws.specs.Comparison.{Related, AreInOrder, same_root, prop_below, DifferenceExcludesBelow, DifferenceExcludesConversion, FacingPartsAreRelated}
use Rattle.lego_laws.proofs.lemmas.reduction.Valued.{closed_valued, head_form_converts, head_form_valued}
use Rattle.lego_laws.proofs.lemmas.comparison.Comparing.{PartsConvert, k_var, k_const, parts_convert, chain, need_pi, need_sigma, as_parts, lam_parts, app_parts, pair_parts, fst_parts, snd_parts}

-- the orders in which the parts of a form are compared
abbrev orders : Order → Option Shape → ℕ → Order
orders o None i = o
orders o (Some s) i = order_at o s i

module _ (b : CoreBodies) (closed : AreClosed b) (value : Level → ℕ) where
  abbrev bodies : TermBodies
  bodies = bodies_valued value b

  bodies_closed : AreClosed (bodies_valued value b)
  bodies_closed = closed_valued value b closed

  -- the parts are related in pairs, as far as both lists go
  abbrev AllRelated : (ℕ → Order) → List Branch → List Branch → Type 0
  AllRelated f [] qs = Unit {0}
  AllRelated f (p ∷ ps) [] = Unit {0}
  AllRelated f (p ∷ ps) (q ∷ qs) =
      Related (f 0) (bodies_valued value b) (valued value p.term) (valued value q.term) × AllRelated (λ i. f (suc i)) ps qs

  related_at : (f : ℕ → Order) (ps qs : List Branch) (i : ℕ) (p q : Branch) → AllRelated f ps qs → slice_get ps i ≡ Some p → slice_get qs i ≡ Some q → Related (f i) (bodies_valued value b) (valued value p.term) (valued value q.term)
  related_at f [] qs i p q h e e' = cc
  related_at f (x ∷ ps) [] i p q h e e' = cc
  related_at f (x ∷ ps) (y ∷ qs) zero p q h e e' =
      let xp : x ≡ p = cc e in
      let yq : y ≡ q = cc e' in
      rw (← xp, ← yq) h.0
  related_at f (x ∷ ps) (y ∷ qs) (suc i) p q h e e' = related_at (λ i. f (suc i)) ps qs i p q h.1 e e'

  as_pairs : (o : Order) (c d : Core) → IsHeadForm (bodies_valued value b) (valued value c) → IsHeadForm (bodies_valued value b) (valued value d) → Related o (bodies_valued value b) (valued value c) (valued value d) → PartsBelow (bodies_valued value b) (valued value c) (valued value d)
  as_pairs o c d = as_parts (bodies_valued value b) bodies_closed o (valued value c) (valued value d)

  parts_related : (o : Order) (c d : Core) → shape_of c ≡ shape_of d → IsHeadForm (bodies_valued value b) (valued value c) → IsHeadForm (bodies_valued value b) (valued value d) → Related o (bodies_valued value b) (valued value c) (valued value d) → AllRelated (orders o (shape_of c)) (parts_of c) (parts_of d)
  parts_related Cumulativity (Pi x a r) (Pi y a' r') e f g h = let s = need_pi (bodies_valued value b) bodies_closed Cumulativity _ _ _ _ h in (s.0, (s.1, tt))
  parts_related Conversion (Pi x a r) (Pi y a' r') e f g h = let s = need_pi (bodies_valued value b) bodies_closed Conversion _ _ _ _ h in (s.0, (s.1, tt))
  parts_related o (Pi x a r) d e f g h = cc
  parts_related Cumulativity (Sigma x a r) (Sigma y a' r') e f g h = let s = need_sigma (bodies_valued value b) bodies_closed Cumulativity _ _ _ _ h in (s.0, (s.1, tt))
  parts_related Conversion (Sigma x a r) (Sigma y a' r') e f g h = let s = need_sigma (bodies_valued value b) bodies_closed Conversion _ _ _ _ h in (s.0, (s.1, tt))
  parts_related o (Sigma x a r) d e f g h = cc
  parts_related o (Let x a r) d e f g h = cc
  parts_related Cumulativity (Lam x a r) (Lam y a' r') e f g h = let s = lam_parts (as_pairs Cumulativity (Lam x a r) (Lam y a' r') f g h) in (s.0, (s.1, tt))
  parts_related Conversion (Lam x a r) (Lam y a' r') e f g h = let s = lam_parts (as_pairs Conversion (Lam x a r) (Lam y a' r') f g h) in (s.0, (s.1, tt))
  parts_related o (Lam x a r) d e f g h = cc
  parts_related Cumulativity (App x a r) (App y a' r') e f g h = let s = app_parts (as_pairs Cumulativity (App x a r) (App y a' r') f g h) in (s.0, (s.1, tt))
  parts_related Conversion (App x a r) (App y a' r') e f g h = let s = app_parts (as_pairs Conversion (App x a r) (App y a' r') f g h) in (s.0, (s.1, tt))
  parts_related o (App x a r) d e f g h = cc
  parts_related Cumulativity (Pair x a r m n) (Pair y a' r' m' n') e f g h = let s = pair_parts (as_pairs Cumulativity (Pair x a r m n) (Pair y a' r' m' n') f g h) in (s.0, (s.1, (s.2, (s.3, tt))))
  parts_related Conversion (Pair x a r m n) (Pair y a' r' m' n') e f g h = let s = pair_parts (as_pairs Conversion (Pair x a r m n) (Pair y a' r' m' n') f g h) in (s.0, (s.1, (s.2, (s.3, tt))))
  parts_related o (Pair x a r m n) d e f g h = cc
  parts_related Cumulativity (Fst m) (Fst m') e f g h = (fst_parts (as_pairs Cumulativity (Fst m) (Fst m') f g h), tt)
  parts_related Conversion (Fst m) (Fst m') e f g h = (fst_parts (as_pairs Conversion (Fst m) (Fst m') f g h), tt)
  parts_related o (Fst m) d e f g h = cc
  parts_related Cumulativity (Snd m) (Snd m') e f g h = (snd_parts (as_pairs Cumulativity (Snd m) (Snd m') f g h), tt)
  parts_related Conversion (Snd m) (Snd m') e f g h = (snd_parts (as_pairs Conversion (Snd m) (Snd m') f g h), tt)
  parts_related o (Snd m) d e f g h = cc
  parts_related o _ d e f g h = tt

  part_related : (o : Order) (c d : Core) (s : Shape) (i : ℕ) (p q : Branch) → shape_of c ≡ Some s → shape_of d ≡ Some s → slice_get (parts_of c) i ≡ Some p → slice_get (parts_of d) i ≡ Some q → IsHeadForm (bodies_valued value b) (valued value c) → IsHeadForm (bodies_valued value b) (valued value d) → Related o (bodies_valued value b) (valued value c) (valued value d) → Related (order_at o s i) (bodies_valued value b) (valued value p.term) (valued value q.term)
  part_related o c d s i p q e e' x y f g h =
      let r = related_at (orders o (shape_of c)) (parts_of c) (parts_of d) i p q (parts_related o c d (e ∙ sym e') f g h) x y in
      subst (λ z. Related (orders o z i) (bodies_valued value b) (valued value p.term) (valued value q.term)) e r

  record Stand (o : Order) (h k : Core) : Type 0 where
    related : Related o (bodies_valued value b) (valued value h) (valued value k)
    left : IsHeadForm (bodies_valued value b) (valued value h)
    right : IsHeadForm (bodies_valued value b) (valued value k)

  headed : (o : Order) (t u h k : Core) → HeadForm b t h → HeadForm b u k → Related o (bodies_valued value b) (valued value t) (valued value u) → Stand o h k
  headed o t u h k p q r =
      record {
        related = chain o _ _ _ _ _ (Converts.back (head_form_converts value p)) r (head_form_converts value q);
        left = head_form_valued value p;
        right = head_form_valued value q;
      }

  facing : {t u : Core} {o : Order} {n : ℕ} {h k : Core} → Faces b t u o n h k → Below (bodies_valued value b) (valued value t) (valued value u) → Stand o h k
  facing (Faces.root p q) r = headed Cumulativity _ _ _ _ p q r
  facing (Faces.turn {o = o} {c = c} {d = d} {h = h} {k = k} {s = s} {p = p} {q = q} i f e e' x y l m) r =
      let w = facing f r in
      headed (order_at o s i) p.term q.term h k l m (part_related o c d s i p q e e' x y w.left w.right w.related)

  both_at : (s : Shape) (i : ℕ) → order_at Conversion s i ≡ Conversion
  both_at s i = refl

  facing_converts : {t u : Core} {o : Order} {n : ℕ} {h k : Core} → Faces b t u o n h k → Converts (bodies_valued value b) (valued value t) (valued value u) → Stand Conversion h k
  facing_converts (Faces.root p q) r = headed Conversion _ _ _ _ p q r
  facing_converts (Faces.turn {c = c} {d = d} {h = h} {k = k} {s = s} {p = p} {q = q} i f e e' x y l m) r =
      let w = facing_converts f r in
      headed Conversion p.term q.term h k l m (part_related Conversion c d s i p q e e' x y w.left w.right w.related)

  var_is : {i j : ℕ} → PartsBelow (bodies_valued value b) (Var i) (Var j) → i ≡ j
  var_is at_var = refl

  const_is : {i j : ℕ} → PartsBelow (bodies_valued value b) (Const i) (Const j) → i ≡ j
  const_is at_const = refl

  var_same : {i j : ℕ} → PartsConvert (bodies_valued value b) (Var i) (Var j) → i ≡ j
  var_same k_var = refl

  const_same : {i j : ℕ} → PartsConvert (bodies_valued value b) (Const i) (Const j) → i ≡ j
  const_same k_const = refl

  roots_in_order : (h k : Core) → PartsBelow (bodies_valued value b) (valued value h) (valued value k) → AreInOrder Cumulativity h k
  roots_in_order (Var i) (Var j) p = subst (λ z. AreInOrder Cumulativity (Var i) (Var z)) (var_is p) (same_root SameRoot.variable)
  roots_in_order (Const i) (Const j) p = subst (λ z. AreInOrder Cumulativity (Const i) (Const z)) (const_is p) (same_root SameRoot.constant)
  roots_in_order Prop Prop p = same_root SameRoot.prop
  roots_in_order Prop (Univ l) p = prop_below
  roots_in_order (Univ l) (Univ m) p = same_root SameRoot.universes
  roots_in_order (Pi x a r) (Pi y a' r') p = same_root (SameRoot.parts refl refl)
  roots_in_order (Lam x a r) (Lam y a' r') p = same_root (SameRoot.parts refl refl)
  roots_in_order (App x a r) (App y a' r') p = same_root (SameRoot.parts refl refl)
  roots_in_order (Sigma x a r) (Sigma y a' r') p = same_root (SameRoot.parts refl refl)
  roots_in_order (Let x a r) (Let y a' r') p = same_root (SameRoot.parts refl refl)
  roots_in_order (Pair x a r m n) (Pair y a' r' m' n') p = same_root (SameRoot.parts refl refl)
  roots_in_order (Fst m) (Fst m') p = same_root (SameRoot.parts refl refl)
  roots_in_order (Snd m) (Snd m') p = same_root (SameRoot.parts refl refl)
  roots_in_order _ _ p = elim p [ ]

  roots_agree : (h k : Core) → PartsConvert (bodies_valued value b) (valued value h) (valued value k) → SameRoot h k
  roots_agree (Var i) (Var j) p = subst (λ z. SameRoot (Var i) (Var z)) (var_same p) SameRoot.variable
  roots_agree (Const i) (Const j) p = subst (λ z. SameRoot (Const i) (Const z)) (const_same p) SameRoot.constant
  roots_agree Prop Prop p = SameRoot.prop
  roots_agree (Univ l) (Univ m) p = SameRoot.universes
  roots_agree (Pi x a r) (Pi y a' r') p = SameRoot.parts refl refl
  roots_agree (Lam x a r) (Lam y a' r') p = SameRoot.parts refl refl
  roots_agree (App x a r) (App y a' r') p = SameRoot.parts refl refl
  roots_agree (Sigma x a r) (Sigma y a' r') p = SameRoot.parts refl refl
  roots_agree (Let x a r) (Let y a' r') p = SameRoot.parts refl refl
  roots_agree (Pair x a r m n) (Pair y a' r' m' n') p = SameRoot.parts refl refl
  roots_agree (Fst m) (Fst m') p = SameRoot.parts refl refl
  roots_agree (Snd m) (Snd m') p = SameRoot.parts refl refl
  roots_agree _ _ p = elim p [ ]

  conversion_agrees : (h k : Core) → Stand Conversion h k → SameRoot h k
  conversion_agrees h k w = roots_agree h k (parts_convert (bodies_valued value b) bodies_closed (valued value h) (valued value k) w.left w.right w.related)

  in_order : (o : Order) (h k : Core) → Stand o h k → AreInOrder o h k
  in_order Cumulativity h k w = roots_in_order h k (as_pairs Cumulativity h k w.left w.right w.related)
  in_order Conversion h k w = same_root (conversion_agrees h k w)

pub facing_parts_are_related : FacingPartsAreRelated
facing_parts_are_related b closed t u o n h k f Cumulativity value p = (facing b closed value f p).related
facing_parts_are_related b closed t u o n h k f Conversion value p = (facing_converts b closed value f p).related

pub difference_excludes_below : DifferenceExcludesBelow
difference_excludes_below b closed t u o n h k f out value p = out (in_order b closed value o h k (facing b closed value f p))

pub difference_excludes_conversion : DifferenceExcludesConversion
difference_excludes_conversion b closed t u o n h k f out value p = out (conversion_agrees b closed value h k (facing_converts b closed value f p))
