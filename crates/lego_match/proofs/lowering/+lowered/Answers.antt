use Rattle.std.proofs.Common.{◌+◌, ◌≤◌, refl, ◌∙◌, ap, arith}
use Rattle.std.proofs.lemmas.Result.{err_from_is_err_and}
use Rattle.lego_term.specs.Trees.{Pi, Lam, App, Sigma, Let, loose, lift}
use Rattle.lego_term.proofs.LiftLemmas.{lift-low}
use Rattle.lego_match.proofs.LoweringLemmas.{second_of_two, second_bound, second_of_four, third_of_four, fourth_of_four}
use Rattle.lego_match.proofs.lowering.+lowered.Goals as goal

pub returns-then-loose-from : goal.returns-then-loose-from
returns-then-loose-from t c =
    let low : loose c.args.t.now ≤ c.args.from = omega arith in
    ap (lift c.args.from c.args.by) c.in_ok-share.ensures.same ∙ lift-low c.args.from c.args.by c.args.t.now low

pub returns-in_err-body-in-Pi : goal.returns-in_err-body-in-Pi
returns-in_err-body-in-Pi t c =
    let e = err_from_is_err_and c.from_residual-in_err-body-in-Pi.result c.from_residual-in_err-body-in-Pi.ensures.1 in
    rw (e.1, e.2) (second_bound c.args.by c.args.from (c.args.from + 1) c.args.t.now (Pi c.in-Pi.binder c.in-Pi.domain.now c.in-Pi.body.now) c.in-Pi.domain.now c.in-Pi.body.now c.in_ok-domain-in-Pi.domain c.in_err-body-in-Pi.field-0.0 (omega arith) c.in-Pi.ensures.root refl c.in_ok-domain-in-Pi.ensures c.in_err-body-in-Pi.ensures)

pub returns-in_err-body-in-Lam : goal.returns-in_err-body-in-Lam
returns-in_err-body-in-Lam t c =
    let e = err_from_is_err_and c.from_residual-in_err-body-in-Lam.result c.from_residual-in_err-body-in-Lam.ensures.1 in
    rw (e.1, e.2) (second_bound c.args.by c.args.from (c.args.from + 1) c.args.t.now (Lam c.in-Lam.binder c.in-Lam.domain.now c.in-Lam.body.now) c.in-Lam.domain.now c.in-Lam.body.now c.in_ok-domain-in-Lam.domain c.in_err-body-in-Lam.field-0.0 (omega arith) c.in-Lam.ensures.root refl c.in_ok-domain-in-Lam.ensures c.in_err-body-in-Lam.ensures)

pub returns-in_err-argument-in-App : goal.returns-in_err-argument-in-App
returns-in_err-argument-in-App t c =
    let e = err_from_is_err_and c.from_residual-in_err-argument-in-App.result c.from_residual-in_err-argument-in-App.ensures.1 in
    rw (e.1, e.2) (second_of_two c.args.by c.args.from _ c.args.t.now (App c.in-App.mark c.in-App.function.now c.in-App.argument.now) c.in-App.function.now c.in-App.argument.now c.in_ok-function-in-App.function c.in_err-argument-in-App.field-0.0 c.in-App.ensures.root refl c.in_ok-function-in-App.ensures c.in_err-argument-in-App.ensures)

pub returns-in_err-second-in-Sigma : goal.returns-in_err-second-in-Sigma
returns-in_err-second-in-Sigma t c =
    let e = err_from_is_err_and c.from_residual-in_err-second-in-Sigma.result c.from_residual-in_err-second-in-Sigma.ensures.1 in
    rw (e.1, e.2) (second_bound c.args.by c.args.from (c.args.from + 1) c.args.t.now (Sigma c.in-Sigma.binder c.in-Sigma.first.now c.in-Sigma.second.now) c.in-Sigma.first.now c.in-Sigma.second.now c.in_ok-first-in-Sigma.first c.in_err-second-in-Sigma.field-0.0 (omega arith) c.in-Sigma.ensures.root refl c.in_ok-first-in-Sigma.ensures c.in_err-second-in-Sigma.ensures)

pub returns-in_err-body-in-Local : goal.returns-in_err-body-in-Local
returns-in_err-body-in-Local t c =
    let e = err_from_is_err_and c.from_residual-in_err-body-in-Local.result c.from_residual-in_err-body-in-Local.ensures.1 in
    rw (e.1, e.2) (second_bound c.args.by c.args.from (c.args.from + 1) c.args.t.now (Let c.in-Local.binder c.in-Local.value.now c.in-Local.body.now) c.in-Local.value.now c.in-Local.body.now c.in_ok-value-in-Local.value c.in_err-body-in-Local.field-0.0 (omega arith) c.in-Local.ensures.root refl c.in_ok-value-in-Local.ensures c.in_err-body-in-Local.ensures)

pub returns-in_err-b-in-Pair : goal.returns-in_err-b-in-Pair
returns-in_err-b-in-Pair t c =
    let e = err_from_is_err_and c.from_residual-in_err-b-in-Pair.result c.from_residual-in_err-b-in-Pair.ensures.1 in
    rw (e.1, e.2) (second_of_four c.args.by c.args.from (c.args.from + 1) c.in-Pair.binder c.args.t.now c.in-Pair.a.now c.in-Pair.b.now c.in-Pair.m.now c.in-Pair.n.now c.in_ok-a-in-Pair.a c.in_err-b-in-Pair.field-0.0 (omega arith) c.in-Pair.ensures.root c.in_ok-a-in-Pair.ensures c.in_err-b-in-Pair.ensures)

pub returns-in_err-m-in-Pair : goal.returns-in_err-m-in-Pair
returns-in_err-m-in-Pair t c =
    let e = err_from_is_err_and c.from_residual-in_err-m-in-Pair.result c.from_residual-in_err-m-in-Pair.ensures.1 in
    rw (e.1, e.2) (third_of_four c.args.by c.args.from (c.args.from + 1) c.in-Pair.binder c.args.t.now c.in-Pair.a.now c.in-Pair.b.now c.in-Pair.m.now c.in-Pair.n.now c.in_ok-a-in-Pair.a c.in_ok-b-in-Pair.b c.in_err-m-in-Pair.field-0.0 (omega arith) c.in-Pair.ensures.root c.in_ok-a-in-Pair.ensures c.in_ok-b-in-Pair.ensures c.in_err-m-in-Pair.ensures)

pub returns-in_err-n-in-Pair : goal.returns-in_err-n-in-Pair
returns-in_err-n-in-Pair t c =
    let e = err_from_is_err_and c.from_residual-in_err-n-in-Pair.result c.from_residual-in_err-n-in-Pair.ensures.1 in
    rw (e.1, e.2) (fourth_of_four c.args.by c.args.from (c.args.from + 1) c.in-Pair.binder c.args.t.now c.in-Pair.a.now c.in-Pair.b.now c.in-Pair.m.now c.in-Pair.n.now c.in_ok-a-in-Pair.a c.in_ok-b-in-Pair.b c.in_ok-m-in-Pair.m c.in_err-n-in-Pair.field-0.0 (omega arith) c.in-Pair.ensures.root c.in_ok-a-in-Pair.ensures c.in_ok-b-in-Pair.ensures c.in_ok-m-in-Pair.ensures c.in_err-n-in-Pair.ensures)
