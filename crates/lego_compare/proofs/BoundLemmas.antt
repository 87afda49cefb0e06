-- Head forms have no loose variables beyond those of the term.
use Rattle.std.proofs.Common.{◌≡◌, ℕ, zero, suc, ◌≤◌, Some, ap, arith}
use Rattle.lego_term.specs.Trees.{Core, loose}
use Rattle.lego_term.specs.Sequences.{head_step, after}
use Rattle.lego_term.specs.BodyMap.{BodyMap, bodies_in, AreClosed}
use Rattle.lego_laws.proofs.lemmas.reduction.After.{next}
use Rattle.lego_reduce.proofs.StepLemmas.{loose_step}

pub loose_after : (bodies : BodyMap) → AreClosed bodies → (n : ℕ) (t u : Core) → after (head_step (bodies_in bodies)) n t ≡ Some u → loose u ≤ loose t
loose_after bodies closed zero t u e = let s : t ≡ u = cc e in let l = ap loose s in omega arith
loose_after bodies closed (suc n) t u e =
    let k = next (head_step (bodies_in bodies)) n (head_step (bodies_in bodies) t) u e in
    let first = loose_step bodies closed t k.0 k.1 in
    let rest = loose_after bodies closed n k.0 u k.2 in
    omega arith
