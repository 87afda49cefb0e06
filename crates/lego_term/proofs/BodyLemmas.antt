-- A change of the map of bodies, as a finite map sees it.
use Rattle.std.proofs.Common.{◌≡◌, ℕ, cond, Option, Some, None, List, [], ◌∷◌, refl, sym, ap, ◌∙◌}
use Rattle.std.specs.Ordering.{nat_cmp, eq_by_cmp}
use Rattle.std.specs.Cmp.{nat_cmp_total, eq_by_cmp_equiv}
use Rattle.std.specs.Map.{lookup}
use Rattle.std.specs.BTreeMap.{BTreeMap, is_at}
use Rattle.std.specs.BTreeMap as tree
use Rattle.std.specs.FinMap as map
use Rattle.std.specs.FinMap.{find, nat_cmp-IsAntisymmetric, same_map, get-from_entries, get-insert, get-remove}
use Rattle.lego_term.specs.Trees.{Core}

find-lookup : (q : ℕ) (es : List (ℕ × Core)) → find nat_cmp q es ≡ lookup (is_at (nat_cmp q)) es
find-lookup q [] = refl
find-lookup q (e ∷ es) = ap (cond (eq_by_cmp nat_cmp q e.0) (Some e.1)) (find-lookup q es)

pub get-bodies : (m : BTreeMap ℕ Core) (q : ℕ) → map.get (map.from_entries {R = nat_cmp} m.entries) q ≡ tree.get nat_cmp m q
get-bodies m q = get-from_entries nat_cmp_total m.entries q ∙ find-lookup q m.entries

get_changed : (m n : BTreeMap ℕ Core) (k : ℕ) (w : Option Core)
    → ((q : ℕ) → tree.get nat_cmp n q ≡ cond (is_at (nat_cmp k) q) w (tree.get nat_cmp m q))
    → (q : ℕ) → map.get (map.from_entries {R = nat_cmp} n.entries) q ≡ cond (eq_by_cmp nat_cmp q k) w (map.get (map.from_entries {R = nat_cmp} m.entries) q)
get_changed m n k w h q =
    get-bodies n q ∙ (h q
    ∙ (ap (λ b. cond b w (tree.get nat_cmp m q)) ((eq_by_cmp_equiv nat_cmp_total).symm k q)
    ∙ ap (cond (eq_by_cmp nat_cmp q k) w) (sym (get-bodies m q))))

pub put_changes : (m n : BTreeMap ℕ Core) (k : ℕ) (v : Core)
    → ((q : ℕ) → tree.get nat_cmp n q ≡ cond (is_at (nat_cmp k) q) (Some v) (tree.get nat_cmp m q))
    → map.from_entries {R = nat_cmp} n.entries ≡ map.insert (map.from_entries m.entries) k v
put_changes m n k v h =
    same_map nat_cmp_total nat_cmp-IsAntisymmetric _ _ (λ q. get_changed m n k (Some v) h q ∙ sym (get-insert nat_cmp_total _ k v q))

pub take_changes : (m n : BTreeMap ℕ Core) (k : ℕ)
    → ((q : ℕ) → tree.get nat_cmp n q ≡ cond (is_at (nat_cmp k) q) None (tree.get nat_cmp m q))
    → map.from_entries {R = nat_cmp} n.entries ≡ map.remove (map.from_entries m.entries) k
take_changes m n k h =
    same_map nat_cmp_total nat_cmp-IsAntisymmetric _ _ (λ q. get_changed m n k None h q ∙ sym (get-remove nat_cmp_total _ k q))
