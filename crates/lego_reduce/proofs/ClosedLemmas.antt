-- Bodies without loose variables, as they are put and taken.
use Rattle.std.proofs.Common.{◌≡◌, ℕ, cond, true, false, Some, None, ap, sym, ◌∙◌}
use Rattle.std.specs.Ordering.{nat_cmp, eq_by_cmp}
use Rattle.std.specs.Cmp.{nat_cmp_total}
use Rattle.std.specs.FinMap as map
use Rattle.std.specs.FinMap.{get-empty, get-insert, get-remove}
use Rattle.lego_term.specs.Trees.{Core, loose}
use Rattle.lego_term.specs.BodyMap.{BodyMap, AreClosed}

pub closed_empty : AreClosed map.empty
closed_empty k t e = absurd (cc (get-empty {X = Core} nat_cmp k))

pub closed_insert : (bodies : BodyMap) (n : ℕ) (body : Core) → AreClosed bodies → loose body ≡ 0 → AreClosed (map.insert bodies n body)
closed_insert bodies n body closed own k t e =
    elim (eq_by_cmp nat_cmp k n) as (λ b. cond b (Some body) (map.get bodies k) ≡ Some t → loose t ≡ 0) [
      | true ↦ λ h. (let same : body ≡ t = cc in ap loose (sym same) ∙ own)
      | false ↦ λ h. closed k t h
    ] (sym (get-insert nat_cmp_total bodies n body k) ∙ e)

pub closed_remove : (bodies : BodyMap) (n : ℕ) → AreClosed bodies → AreClosed (map.remove bodies n)
closed_remove bodies n closed k t e =
    elim (eq_by_cmp nat_cmp k n) as (λ b. cond b None (map.get bodies k) ≡ Some t → loose t ≡ 0) [
      | true ↦ λ h. absurd (cc)
      | false ↦ λ h. closed k t h
    ] (sym (get-remove nat_cmp_total bodies n k) ∙ e)
