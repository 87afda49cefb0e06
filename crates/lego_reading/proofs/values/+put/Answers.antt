use Rattle.std.proofs.Common.{◌≡◌, ◌+◌, ℕ, suc, None, IfOk, ◌∙◌, sym, ap, subst, arith}
use Rattle.lego_term.specs.Trees.{Core, lift}
use Rattle.lego_term.specs.Made.{first_over}
use Rattle.lego_term.proofs.OverLemmas.{first_over-fits, pair_rebuilds}
use Rattle.lego_reading.specs.private.Values.{put_kept}
use Rattle.lego_reading.proofs.ValueLemmas.{put-low, put-here, lift_rebuilds}
use Rattle.lego_reading.proofs.values.+put.Goals as goal

pub returns-then-loose-at : goal.returns-then-loose-at
returns-then-loose-at t c =
    let same : put_kept c.args.at c.args.value.now c.args.t.now ≡ c.args.t.now = put-low c.args.at c.args.value.now c.args.t.now (omega (arith, c.loose.ensures.exact)) in
    (c.in_ok-share.ensures.same ∙ sym same, ap first_over same ∙ first_over-fits c.args.t.now c.share.ensures.limits.0 c.share.ensures.limits.1)

pub returns-then-index-at : goal.returns-then-index-at
returns-then-index-at t c =
    let place : c.args.at + 1 ≡ suc c.args.at = omega arith in
    let same = ap (put_kept c.args.at c.args.value.now) (sym c.in-Var.ensures.root) ∙ put-here c.args.at c.in-Var.index c.args.value.now c.if-index-at.true in
    lift_rebuilds c.args.at c.args.value.now c.args.t.now c.lift.result same c.loose-limits.ensures.limits
    (subst (λ n. IfOk c.lift.result (λ u. u ≡ lift 0 n c.args.value.now)) place c.lift.ensures.ok) c.lift.ensures.err

pub returns-in_ok-n-in-Pair : goal.returns-in_ok-n-in-Pair
returns-in_ok-n-in-Pair t c =
    let put : ℕ → Core → Core = λ at u. put_kept at c.args.value.now u in
    let at = c.args.at in
    let next : at + 1 ≡ suc at = omega arith in
    let b : Core = c.in-Pair.b.now in
    let second : (c.in_ok-b-in-Pair.b ≡ put (suc at) b) × (first_over (put (suc at) b) ≡ None) =
    subst (λ (k : ℕ). (c.in_ok-b-in-Pair.b ≡ put k b) × (first_over (put k b) ≡ None)) next c.in_ok-b-in-Pair.ensures in
    pair_rebuilds c.in-Pair.binder (put at c.in-Pair.a.now) (put (suc at) b) (put at c.in-Pair.m.now) (put at c.in-Pair.n.now)
    c.in_ok-a-in-Pair.a c.in_ok-b-in-Pair.b c.in_ok-m-in-Pair.m c.in_ok-n-in-Pair.n (put at c.args.t.now) c.pair.result
    (sym (ap (put at) c.in-Pair.ensures.root)) c.in_ok-a-in-Pair.ensures second c.in_ok-m-in-Pair.ensures c.in_ok-n-in-Pair.ensures c.pair.ensures
