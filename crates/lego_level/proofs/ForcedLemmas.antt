-- What forces a least value: the causes lead back to the zero node.
use Rattle.std.proofs.Common.{◌≡◌, ℕ, suc, zero, ◌+◌, ◌<◌, Option, Some, None, List, [], ◌∷◌, ◌++◌, map, sum_by, length, get_or, Contains, refl, sym, ap, inl, inr, ⊎_elim, arith, subst}
use Rattle.std.specs.List.{AllByRecursion}
use Rattle.std.proofs.lemmas.List.Elements.{Contains-push_cases}
use Rattle.std.proofs.lemmas.List.Sums.{sum_by_push}
use Rattle.lego_term.specs.Levels.{node_value}
use Rattle.lego_level.specs.Limits.{MAX_VALUE}
use Rattle.lego_level.specs.declared.constraint.Constraint.{Constraint}
use Rattle.lego_level.specs.declared.draft.Reached.{Reached}
use Rattle.lego_level.specs.Graphs.{IsWalk, Differ, IsKnown, IsForcing, Forces, IsVariableBelow, HasVariablesBelow}
use Rattle.lego_level.specs.private.Lowest.{values_in, IsForced, IsLowest}
use Rattle.lego_level.specs.private.Potentials.{low_of, high_of}
use Rattle.lego_level.proofs.CycleLemmas.{walk_push, once_push}
use Rattle.lego_level.proofs.LeastLemmas.{node_is, least_values}
use Rattle.lego_level.proofs.MemberLemmas.{contains_none}

-- a walk along causes, from the zero node to a node; ranks rise along it
pub record IsLed (cs : List Constraint) (d : Option ℕ → Reached) (w : Option ℕ) (walk : List Constraint) : Type 0 where
  pub walks : IsWalk None walk w
  pub once : Differ (map (λ x. x.low.base) walk)
  pub ranks : AllByRecursion (λ x. (d x.low.base).rank < (d w).rank) walk
  pub known : (x : Constraint) → Contains walk x → IsKnown cs x
  pub total : (d None).value + sum_by (λ x. x.low.plus) walk ≡ (d w).value + sum_by (λ x. x.high.plus) walk

module _ (d : Option ℕ → Reached) where
  -- the walk does not meet the node to which it comes
  ranks_apart : (w : Option ℕ) (walk : List Constraint) → AllByRecursion (λ x. (d x.low.base).rank < (d w).rank) walk → AllByRecursion (λ x. x.low.base ≡ w → ⊥) walk
  ranks_apart w [] all = tt
  ranks_apart w (x ∷ walk) all = ((λ e. let k : (d x.low.base).rank ≡ (d w).rank = ap (λ y. (d y).rank) e in let a = all.0 in absurd (omega (arith, k, a))), ranks_apart w walk all.1)

  end_apart : (w : Option ℕ) (walk : List Constraint) → AllByRecursion (λ x. x.low.base ≡ w → ⊥) walk → AllByRecursion (λ y. w ≡ y → ⊥) (map (λ x. x.low.base) walk)
  end_apart w [] all = tt
  end_apart w (x ∷ walk) all = ((λ e. all.0 (sym e)), end_apart w walk all.1)

  ranks_push : (a b : ℕ) (walk : List Constraint) (y : Constraint) → a < b → AllByRecursion (λ x. (d x.low.base).rank < a) walk → (d y.low.base).rank < b → AllByRecursion (λ x. (d x.low.base).rank < b) (walk ++ y ∷ [])
  ranks_push a b [] y l all h = (h, tt)
  ranks_push a b (x ∷ walk) y l all h = let k = all.0 in (omega (arith, k, l), ranks_push a b walk y l all.1 h)

module _ (cs : List Constraint) (d : Option ℕ → Reached) where
  led_zero : IsLed cs d None []
  led_zero = record { walks = refl; once = tt; ranks = tt; known = λ x h. absurd (contains_none x h); total = omega arith }

  -- a tight constraint leads on
  led_push : (w : Option ℕ) (walk : List Constraint) (y : Constraint) → IsLed cs d y.low.base walk → IsKnown cs y → y.high.base ≡ w → low_of (values_in d) y ≡ high_of (values_in d) y → (d y.low.base).rank < (d w).rank
      → IsLed cs d w (walk ++ y ∷ [])
  led_push w walk y z known high tight rank =
      let t = z.total in let h = sum_by_push (λ (x : Constraint). x.high.plus) walk y in let l = sum_by_push (λ (x : Constraint). x.low.plus) walk y in
      let k : (d y.high.base).value ≡ (d w).value = ap (λ b. (d b).value) high in record {
        walks = subst (λ b. IsWalk None (walk ++ y ∷ []) b) high (walk_push None y.low.base walk y z.walks refl);
        once = once_push walk y z.once (ranks_apart d y.low.base walk z.ranks);
        ranks = ranks_push d (d y.low.base).rank (d w).rank walk y rank z.ranks rank;
        known = λ x m. ⊎_elim {C = IsKnown cs x} (λ n. z.known x n) (λ same. subst (IsKnown cs) same known) (Contains-push_cases walk y x m);
        total = omega (arith, t, h, l, k, tight);
      }

  cause_known : (n u : ℕ) (c : Constraint) → IsForced cs n d u c → IsKnown cs c
  cause_known n u c x = ⊎_elim {C = IsKnown cs c} (λ k. inl k) (λ k. inr (u, k)) x.known

  cause_led : (n u : ℕ) (c : Constraint) (walk : List Constraint) → IsForced cs n d u c → IsLed cs d c.low.base walk → IsLed cs d (Some u) (walk ++ c ∷ [])
  cause_led n u c walk x z = led_push (Some u) walk c z (cause_known n u c x) x.high x.tight x.rank

  -- ranks fall along causes, so they lead back to the zero node
  led : (n : ℕ) → IsLowest cs n d → (fuel : ℕ) (w : Option ℕ) → IsVariableBelow n w → (d w).rank < fuel → (walk : List Constraint) × IsLed cs d w walk
  led n z zero w h less = absurd (omega (arith, less))
  led n z (suc fuel) None h less = ([], led_zero)
  led n z (suc fuel) (Some u) h less =
      let c = (d (Some u)).cause in let x = z.forced u h in let r = x.rank in let before = led n z fuel c.low.base x.below (omega (arith, r, less)) in
      (before.0 ++ c ∷ [], cause_led n u c before.0 x before.1)

-- a least value over the limit, and the cause of its variable
module _ (cs : List Constraint) (n : ℕ) (d : Option ℕ → Reached) (z : IsLowest cs n d) (below : HasVariablesBelow n cs) (xs : List ℕ) (len : length xs ≡ n)
    (values : (u : ℕ) → u < n → get_or xs u 0 + (d None).value ≡ (d (Some u)).value) where
  led_forces : (u : ℕ) (walk : List Constraint) → u < n → IsLed cs d (Some u) walk → IsForcing cs walk u (get_or xs u 0)
  led_forces u walk h w = let t = w.total in let a = values u h in record {
    leads = w.walks;
    once = (end_apart d (Some u) walk (ranks_apart d (Some u) walk w.ranks), w.once);
    total = omega (arith, t, a);
    known = w.known;
  }

  cause_listed : (u : ℕ) (c : Constraint) → u < n → 0 < get_or xs u 0 → IsForced cs n d u c → Contains cs c
  cause_listed u c h pos x = ⊎_elim {C = Contains cs c} (λ k. k)
      (λ k. let a = values u h in let t = x.tight in let low = node_is cs n d z below xs len values c.low.base x.below in let e : (d c.high.base).value ≡ (d (Some u)).value = ap (λ y. (d y).value) x.high in
      let a0 : c.low.plus ≡ 0 = ap (λ (y : Constraint). y.low.plus) k in let b0 : node_value xs c.low.base ≡ 0 = ap (λ (y : Constraint). node_value xs y.low.base) k in
      absurd (omega (arith, a0, b0, low, t, e, a, pos))) x.known

  pub forces_value : (u : ℕ) → u < n → MAX_VALUE < get_or xs u 0 → Forces cs (d (Some u)).cause (get_or xs u 0)
  forces_value u h over =
      let c = (d (Some u)).cause in let x = z.forced u h in let before = led cs d n z ((d c.low.base).rank + 1) c.low.base x.below (omega arith) in record {
        values = xs;
        variable = u;
        before = before.0;
        least = least_values cs n d z below xs len values;
        value = refl;
        over = over;
        forced = led_forces u (before.0 ++ c ∷ []) h (cause_led cs d n u c before.0 x before.1);
        listed = cause_listed u c h (omega (arith, over)) x;
      }
