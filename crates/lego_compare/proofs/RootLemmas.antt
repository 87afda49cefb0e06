-- What the roots of two head forms say.
use Rattle.std.proofs.Common.{◌≡◌, ℕ, Some, refl, arith}
use Rattle.lego_term.specs.Trees.{Core, Pi, Lam, App, Sigma, Pair, Fst, Snd, Let}
use Rattle.lego_term.specs.Parts.{Shape, shape_of, parts_of}
use Rattle.lego_laws.specs.Parallel.{CoreBodies}
use Rattle.lego_laws.specs.HeadForms.{IsHeadForm}
use Rattle.lego_laws.specs.Counting.{PartsWalked}
use Rattle.lego_laws.specs.Facing.{Order, SameRoot}
use Rattle.lego_laws.specs.Comparison.{AreInOrder, same_root, prop_below}
use Rattle.lego_compare.specs.declared.relation.Relation.{Relation}
use Rattle.lego_compare.specs.declared.relation.Relation.TheVariants.{Below, Same}
use Rattle.lego_compare.specs.declared.roots.Roots.TheVariants.{Apart}
use Rattle.lego_compare.specs.declared.stop.Stop.{Stop}
use Rattle.lego_compare.specs.declared.stop.Stop.TheVariants as stop
use Rattle.lego_compare.specs.Paths.{FormLeads}
use Rattle.lego_compare.specs.private.Walks.{FormsDiffer, d_here, StopsBy, IsApart}
use Rattle.lego_compare.specs.private.Codes.{order_of, roots_of, alike_if_equal}

same_number : (i : ℕ) → alike_if_equal i i ≡ Apart → ⊥
same_number i e = grind arith

same_form : (b : CoreBodies) (r : Relation) (h k : Core) (s : Shape) → IsHeadForm b h → roots_of r h k ≡ Apart → shape_of h ≡ Some s → shape_of k ≡ Some s → ⊥
same_form b r (Pi x a c) (Pi y a' c') s stuck q e f = cc
same_form b r (Lam x a c) (Lam y a' c') s stuck q e f = cc
same_form b r (App x a c) (App y a' c') s stuck q e f = cc
same_form b r (Sigma x a c) (Sigma y a' c') s stuck q e f = cc
same_form b r (Pair x a c m n) (Pair y a' c' m' n') s stuck q e f = cc
same_form b r (Fst a) (Fst a') s stuck q e f = cc
same_form b r (Snd a) (Snd a') s stuck q e f = cc
same_form b r (Let x m n) k s stuck q e f = cc
same_form b r _ _ s stuck q e f = cc

same_roots : (b : CoreBodies) (r : Relation) (h k : Core) → IsHeadForm b h → roots_of r h k ≡ Apart → SameRoot h k → ⊥
same_roots b r _ _ stuck q (SameRoot.variable {i = i}) = same_number i q
same_roots b r _ _ stuck q (SameRoot.constant {k = i}) = same_number i q
same_roots b r _ _ stuck q SameRoot.prop = cc
same_roots b r _ _ stuck q SameRoot.universes = cc
same_roots b r h k stuck q (SameRoot.parts {s = s} e f) = same_form b r h k s stuck q e f

-- roots that are found apart are out of order
apart_at : (b : CoreBodies) (r : Relation) (h k : Core) (o : Order) → IsHeadForm b h → order_of r ≡ o → roots_of r h k ≡ Apart → AreInOrder o h k → ⊥
apart_at b r h k _ stuck e q (same_root s) = same_roots b r h k stuck q s
apart_at b Below _ _ _ stuck e q prop_below = cc
apart_at b Same _ _ _ stuck e q prop_below = cc

pub apart_roots : (b : CoreBodies) (r : Relation) (h k : Core) → IsHeadForm b h → roots_of r h k ≡ Apart → AreInOrder (order_of r) h k → ⊥
apart_roots b r h k stuck q = apart_at b r h k (order_of r) stuck refl q

pub apart_stops : (b : CoreBodies) (r : Relation) (h k : Core) (limit room crossed : ℕ) (why : Stop) → IsHeadForm b h → roots_of r h k ≡ Apart → IsApart h k crossed why → StopsBy (FormsDiffer b (order_of r) h k) (PartsWalked b (parts_of h) (parts_of k)) (FormLeads b h) (FormLeads b k) limit room crossed why
apart_stops b r h k limit room crossed (stop.Differ x y n) stuck q d =
    let e = d.2 in
    record { within = 0; sum = omega arith; path = rw (d.0, d.1) (d_here (apart_roots b r h k stuck q)) }
apart_stops b r h k limit room crossed stop.Budget stuck q d = absurd d
apart_stops b r h k limit room crossed (stop.TooLarge side nodes levels) stuck q d = absurd d
apart_stops b r h k limit room crossed stop.Memory stuck q d = tt
