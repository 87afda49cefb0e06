-- A difference that a walk comes to, as it stands in the whole terms.
use Rattle.std.proofs.Common.{sym, ◌∙◌, ◌≡◌, ℕ, ◌+◌, ap, subst, arith}
use Rattle.lego_term.specs.declared.level.Level.{Level}
use Rattle.lego_term.specs.Trees.{Core}
use Rattle.lego_term.specs.Sequences.{HeadForm}
use Rattle.lego_laws.specs.Parallel.{CoreBodies, AreClosed}
use Rattle.lego_laws.specs.Facing.{Order, Cumulativity, Conversion, order_at, crossed, Faces, order_under}
use Rattle.lego_laws.specs.Comparison.{AreInOrder, same_root}
use Rattle.lego_laws.proofs.lemmas.comparison.Differing.{difference_excludes_below, difference_excludes_conversion}
use Rattle.lego_compare.specs.Answers.{RelatedAt, DifferAt}
use Rattle.lego_compare.proofs.AskedLemmas.{turned, whole}
use Rattle.lego_compare.proofs.PartLemmas.{crossed_more}
use Rattle.lego_compare.specs.private.Walks.{Differ, d_heads, FormsDiffer, d_here, d_part}

module _ (b : CoreBodies) (t u : Core) where
  record Found (w : Order) (l r : Core) (n : ℕ) : Type 0 where
    f : Order
    faces : Faces b t u f n l r
    roots : AreInOrder (order_under w f) l r → ⊥

  mutual
    found : (w o f : Order) (x y l r : Core) (m n : ℕ) → order_under w f ≡ o → ((h k : Core) → HeadForm b x h → HeadForm b y k → Faces b t u f m h k) → Differ b o x y n l r → Found w l r (m + n)
    found w o f x y l r m n fit front (d_heads {h = h} {k = k} p q d) = found_forms w o f h k l r m n fit (front h k p q) d

    found_forms : (w o f : Order) (h k l r : Core) (m n : ℕ) → order_under w f ≡ o → Faces b t u f m h k → FormsDiffer b o h k n l r → Found w l r (m + n)
    found_forms w o f h k _ _ m _ fit faces (d_here out) =
        let e : m ≡ m + 0 = omega arith in
        record { f = f; faces = subst (λ z. Faces b t u f z h k) e faces; roots = subst (λ z. AreInOrder z h k → ⊥) (sym fit) out }
    found_forms w o f h k l r m _ fit faces (d_part {s = s} {p = p} {q = q} {n = n} i e e' x y d) =
        subst (λ z. Found w l r z) (crossed_more m n p)
        (found w (order_at o s i) (order_at f s i) p.term q.term l r (crossed m p) n (turned w f s i ∙ ap (λ z. order_at z s i) fit) (λ h' k' hp hq. Faces.turn i faces e e' x y hp hq) d)

never : (b : CoreBodies) → AreClosed b → (w : Order) (t u l r : Core) (n : ℕ) (f : Order) → Faces b t u f n l r → (AreInOrder (order_under w f) l r → ⊥) → (value : Level → ℕ) → RelatedAt value w b t u → ⊥
never b closed Cumulativity t u l r n f faces out value p = difference_excludes_below b closed t u f n l r faces out value p
never b closed Conversion t u l r n f faces out value p = difference_excludes_conversion b closed t u f n l r faces (λ s. out (same_root s)) value p

pub differ_at : (b : CoreBodies) → AreClosed b → (w : Order) (t u l r : Core) (n : ℕ) → Differ b w t u n l r → DifferAt w b t u l r n
differ_at b closed w t u l r n d =
    let g = found b t u w w Cumulativity t u l r 0 n (whole w) (λ h k p q. Faces.root p q) d in
    let e : 0 + n ≡ n = omega arith in
    let faces : Faces b t u g.f n l r = subst (λ z. Faces b t u g.f z l r) e g.faces in
    record { on_path = g.f; faces = faces; roots = g.roots; never = never b closed w t u l r n g.f faces g.roots }
