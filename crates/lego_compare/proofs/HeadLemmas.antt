-- Parts of head forms in which a head step may be made are head forms, so a walk takes no steps there.
use Rattle.std.proofs.Common.{◌≡◌, ℕ, zero, suc, ◌+◌, ◌-◌, true, nat_eq, Some, Result, Ok, Err, List, slice_get, option_map, refl, subst, arith}
use Rattle.lego_base.specs.declared.place.Place.{Place}
use Rattle.lego_term.specs.Trees.{Core, Var, Const, Prop, Univ, Pi, Lam, App, Sigma, Pair, Fst, Snd, Let, Equal}
use Rattle.lego_term.specs.Parts.{shape_of, parts_of}
use Rattle.lego_term.specs.Sequences.{head_step, Ends}
use Rattle.lego_laws.specs.Parallel.{CoreBodies}
use Rattle.lego_laws.specs.HeadForms.{IsHeadForm}
use Rattle.lego_laws.specs.Counting.{PartsWalked, through_parts}
use Rattle.lego_laws.specs.Comparison.{m_heads}
use Rattle.lego_laws.proofs.lemmas.reduction.Stuck.{app_stuck, fst_stuck, snd_stuck}
use Rattle.lego_level.specs.declared.constraint.Constraint.{Constraint}
use Rattle.lego_compare.specs.declared.relation.Relation.{Relation}
use Rattle.lego_compare.specs.declared.stop.Stop.{Stop}
use Rattle.lego_compare.specs.Paths.{FormLeads}
use Rattle.lego_compare.specs.private.Codes.{order_of, is_at_head, term_of}
use Rattle.lego_compare.specs.private.Walks.{FormsDiffer, StopsBy, Walks, FormsWalk}
use Rattle.lego_compare.proofs.WalkLemmas.{inner_stops}

not_first : (i : ℕ) → nat_eq (suc i) 0 ≡ true → ⊥
not_first i e = grind arith

-- where the whole has no head step, neither has the part in which one may be made
pub at_head : (b : CoreBodies) (t : Core) (i : ℕ) (x : Core) → is_at_head (shape_of t) i ≡ true → IsHeadForm b t → Some x ≡ option_map term_of (slice_get (parts_of t) i) → IsHeadForm b x
at_head b (App k m n) zero x e h p = let s : m ≡ x = cc in subst (IsHeadForm b) s (app_stuck b k m n h).0
at_head b (Fst m) zero x e h p = let s : m ≡ x = cc in subst (IsHeadForm b) s (fst_stuck b m h).0
at_head b (Snd m) zero x e h p = let s : m ≡ x = cc in subst (IsHeadForm b) s (snd_stuck b m h).0
at_head b (App k m n) (suc i) x e h p = absurd (not_first i e)
at_head b (Fst m) (suc i) x e h p = absurd (not_first i e)
at_head b (Snd m) (suc i) x e h p = absurd (not_first i e)
at_head b (Var j) i x e h p = cc
at_head b (Const j) i x e h p = cc
at_head b Prop i x e h p = cc
at_head b (Univ l) i x e h p = cc
at_head b (Pi y a c) i x e h p = cc
at_head b (Lam y a c) i x e h p = cc
at_head b (Sigma y a c) i x e h p = cc
at_head b (Pair y a c m n) i x e h p = cc
at_head b (Let y m n) i x e h p = cc

pub both_at_head : (b : CoreBodies) (t u : Core) (i : ℕ) (x y : Core) → shape_of t ≡ shape_of u → IsHeadForm b t → IsHeadForm b u
    → Some x ≡ option_map term_of (slice_get (parts_of t) i) → Some y ≡ option_map term_of (slice_get (parts_of u) i)
    → is_at_head (shape_of t) i ≡ true → IsHeadForm b x × IsHeadForm b y
both_at_head b t u i x y form h k p q e = (at_head b t i x e h p, at_head b u i y (subst (λ z. is_at_head z i ≡ true) form e) k q)

ends : (b : CoreBodies) (t : Core) → IsHeadForm b t → Ends (head_step b) t 0 t
ends b t h = record { reaches = refl; last = h }

-- the walk through two head forms is that through their parts
pub heads_walk : (b : CoreBodies) (r : Relation) (t u : Core) (limit room crossed : ℕ) (place : Place) (old new : List Constraint) (result : Result ℕ Stop) → (Equal t u → ⊥) → IsHeadForm b t × IsHeadForm b u
    → FormsWalk b r t u limit room crossed place old new result → Walks b r t u limit room crossed place old new result
heads_walk b r t u limit room crossed place old new (Ok steps) differ h w =
    let sum = w.sum in
    let le = w.within in
    record {
      more = w.more;
      added = w.added;
      compared = m_heads differ (0, ends b t h.0) (0, ends b u h.1) w.compared;
      left = 0 + w.left;
      right = 0 + w.right;
      walked = through_parts differ (ends b t h.0) (ends b u h.1) w.walked;
      sum = omega arith;
      within = omega arith;
      placed = w.placed;
    }
heads_walk b r t u limit room crossed place old new (Err why) differ h w =
    let e : limit ≡ limit - (0 + 0) = omega arith in
    inner_stops b (order_of r) t u differ 0 0 t u (ends b t h.0) (ends b u h.1) limit room crossed why (omega arith)
    (subst (λ z. StopsBy (FormsDiffer b (order_of r) t u) (PartsWalked b (parts_of t) (parts_of u)) (FormLeads b t) (FormLeads b u) z room crossed why) e w)
