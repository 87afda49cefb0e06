-- A head step raises the bound on the loose variables nowhere, where the bodies have none.
use Rattle.std.proofs.Common.{◌≡◌, max, ◌≤◌, ◌⊎◌, inl, inr, Option, Some, None, refl, ap, sym, arith}
use Rattle.std.specs.Prelude.{option_map}
use Rattle.lego_term.specs.Trees.{Core, Const, Lam, App, Pair, Fst, Snd, Let, loose, instantiate}
use Rattle.lego_term.specs.Sequences.{or_else, contract_app, contract_fst, contract_snd, head_step}
use Rattle.lego_term.specs.BodyMap.{BodyMap, bodies_in, AreClosed}
use Rattle.lego_term.proofs.LooseLemmas.{loose-instantiate}

pub from_or_else : (o p : Option Core) (v : Core) → or_else o p ≡ Some v → (o ≡ Some v) ⊎ (p ≡ Some v)
from_or_else None p v e = inr e
from_or_else (Some x) p v e = inl e

pub from_map : (f : Core → Core) (o : Option Core) (v : Core) → option_map f o ≡ Some v → (x : Core) × (o ≡ Some x) × (f x ≡ v)
from_map f None v e = absurd (cc)
from_map f (Some x) v e = (x, refl, (cc))

loose_app : (m n v : Core) → contract_app m n ≡ Some v → loose v ≤ max (loose m) (loose n)
loose_app (Lam x a m) n v e =
    let same : instantiate m n ≡ v = cc in
    let bound : loose v ≡ loose (instantiate m n) = ap loose (sym same) in
    omega (arith, loose-instantiate m n)
loose_app _ n v e = absurd (cc)

loose_fst : (m v : Core) → contract_fst m ≡ Some v → loose v ≤ loose m
loose_fst (Pair x a b m n) v e =
    let same : m ≡ v = cc in
    let bound : loose v ≡ loose m = ap loose (sym same) in
    omega arith
loose_fst _ v e = absurd (cc)

loose_snd : (m v : Core) → contract_snd m ≡ Some v → loose v ≤ loose m
loose_snd (Pair x a b m n) v e =
    let same : n ≡ v = cc in
    let bound : loose v ≡ loose n = ap loose (sym same) in
    omega arith
loose_snd _ v e = absurd (cc)

pub loose_step : (bodies : BodyMap) → AreClosed bodies → (u v : Core) → head_step (bodies_in bodies) u ≡ Some v → loose v ≤ loose u
loose_step bodies closed (Const k) v e = omega (arith, closed k v e)
loose_step bodies closed (App k m n) v e =
    elim (from_or_else (contract_app m n) _ v e) [
      | inl p ↦ loose_app m n v p
      | inr p ↦
          (let w = from_map (λ m'. App k m' n) (head_step (bodies_in bodies) m) v p in
          let bound : loose v ≡ loose (App k w.0 n) = ap loose (sym w.2) in
          omega (arith, loose_step bodies closed m w.0 w.1))
    ]
loose_step bodies closed (Fst m) v e =
    elim (from_or_else (contract_fst m) _ v e) [
      | inl p ↦ loose_fst m v p
      | inr p ↦
          (let w = from_map Fst (head_step (bodies_in bodies) m) v p in
          let bound : loose v ≡ loose (Fst w.0) = ap loose (sym w.2) in
          omega (arith, loose_step bodies closed m w.0 w.1))
    ]
loose_step bodies closed (Snd m) v e =
    elim (from_or_else (contract_snd m) _ v e) [
      | inl p ↦ loose_snd m v p
      | inr p ↦
          (let w = from_map Snd (head_step (bodies_in bodies) m) v p in
          let bound : loose v ≡ loose (Snd w.0) = ap loose (sym w.2) in
          omega (arith, loose_step bodies closed m w.0 w.1))
    ]
loose_step bodies closed (Let x m n) v e =
    let same : instantiate n m ≡ v = cc in
    let bound : loose v ≡ loose (instantiate n m) = ap loose (sym same) in
    omega (arith, loose-instantiate n m)
loose_step bodies closed _ v e = absurd (cc)
