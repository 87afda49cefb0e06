use Rattle.std.proofs.Common.{◌≡◌, [], ◌∷◌, ◌++◌, refl, ap, sym, ◌∙◌, arith}
use Rattle.std.proofs.lemmas.Result.{err_from_is_err_and}
use Rattle.lego_term.specs.Trees.{Pi, Lam, App, Sigma, Pair, Let}
use Rattle.lego_rule_types.specs.private.Counting.{scope_of, nodes_in}
use Rattle.lego_rule_types.proofs.NodeLemmas.{part_over, counted_as, same_count, var_count, app_count, fst_count, snd_count, prop_count, const_count, univ_count, pi_count, lam_count, sigma_count, pair_count, let_count, value_count}
use Rattle.lego_rule_types.proofs.nodes.+nodes.Goals as goal

pub nodes_within-returns-in_err-function-in-App-clause-counted : goal.nodes_within-returns-in_err-function-in-App-clause-counted
nodes_within-returns-in_err-function-in-App-clause-counted t c =
    let xs = c.args.scope.now.items in
    let k = app_count xs c.in-App.field-0 c.in-App.function.now c.in-App.argument.now in
    let p = err_from_is_err_and c.from_residual.result c.from_residual.ensures.1 in
    rw (p.1, p.2) (part_over c.args.most _ xs xs c.in-App.function.now (App c.in-App.field-0 c.in-App.function.now c.in-App.argument.now) c.args.t.now c.in_err-function-in-App.field-0.0 (refl) c.in-App.ensures.root (omega (arith, k)) c.in_err-function-in-App.ensures.counted)

pub nodes_within-returns-in_err-argument-in-App-clause-counted : goal.nodes_within-returns-in_err-argument-in-App-clause-counted
nodes_within-returns-in_err-argument-in-App-clause-counted t c =
    let xs = c.args.scope.now.items in
    let k = app_count xs c.in-App.field-0 c.in-App.function.now c.in-App.argument.now in
    let p = err_from_is_err_and c.from_residual-in_err-argument-in-App.result c.from_residual-in_err-argument-in-App.ensures.1 in
    rw (p.1, p.2) (part_over c.args.most _ xs xs c.in-App.argument.now (App c.in-App.field-0 c.in-App.function.now c.in-App.argument.now) c.args.t.now c.in_err-argument-in-App.field-0.0 (c.in_ok-function-in-App.ensures.kept) c.in-App.ensures.root (omega (arith, k)) c.in_err-argument-in-App.ensures.counted)

pub nodes_within-returns-in_err-a-in-Pi-clause-counted : goal.nodes_within-returns-in_err-a-in-Pi-clause-counted
nodes_within-returns-in_err-a-in-Pi-clause-counted t c =
    let xs = c.args.scope.now.items in
    let k = pi_count xs c.in-Pi.field-0 c.in-Pi.a.now c.in-Pi.b.now in
    let p = err_from_is_err_and c.from_residual-in_err-a-in-Pi.result c.from_residual-in_err-a-in-Pi.ensures.1 in
    rw (p.1, p.2) (part_over c.args.most _ xs xs c.in-Pi.a.now (Pi c.in-Pi.field-0 c.in-Pi.a.now c.in-Pi.b.now) c.args.t.now c.in_err-a-in-Pi.field-0.0 (refl) c.in-Pi.ensures.root (omega (arith, k)) c.in_err-a-in-Pi.ensures.counted)

pub nodes_within-returns-in_err-b-in-Pi-clause-counted : goal.nodes_within-returns-in_err-b-in-Pi-clause-counted
nodes_within-returns-in_err-b-in-Pi-clause-counted t c =
    let xs = c.args.scope.now.items in
    let k = pi_count xs c.in-Pi.field-0 c.in-Pi.a.now c.in-Pi.b.now in
    let p = err_from_is_err_and c.from_residual-in_err-b-in-Pi.result c.from_residual-in_err-b-in-Pi.ensures.1 in
    rw (p.1, p.2) (part_over c.args.most _ (xs ++ 0 ∷ []) xs c.in-Pi.b.now (Pi c.in-Pi.field-0 c.in-Pi.a.now c.in-Pi.b.now) c.args.t.now c.in_err-b-in-Pi.field-0.0 (ap (λ l. l ++ 0 ∷ []) c.in_ok-a-in-Pi.ensures.kept) c.in-Pi.ensures.root (omega (arith, k)) c.in_err-b-in-Pi.ensures.counted)

pub nodes_within-returns-in_err-a-in-Lam-clause-counted : goal.nodes_within-returns-in_err-a-in-Lam-clause-counted
nodes_within-returns-in_err-a-in-Lam-clause-counted t c =
    let xs = c.args.scope.now.items in
    let k = lam_count xs c.in-Lam.field-0 c.in-Lam.a.now c.in-Lam.b.now in
    let p = err_from_is_err_and c.from_residual-in_err-a-in-Lam.result c.from_residual-in_err-a-in-Lam.ensures.1 in
    rw (p.1, p.2) (part_over c.args.most _ xs xs c.in-Lam.a.now (Lam c.in-Lam.field-0 c.in-Lam.a.now c.in-Lam.b.now) c.args.t.now c.in_err-a-in-Lam.field-0.0 (refl) c.in-Lam.ensures.root (omega (arith, k)) c.in_err-a-in-Lam.ensures.counted)

pub nodes_within-returns-in_err-b-in-Lam-clause-counted : goal.nodes_within-returns-in_err-b-in-Lam-clause-counted
nodes_within-returns-in_err-b-in-Lam-clause-counted t c =
    let xs = c.args.scope.now.items in
    let k = lam_count xs c.in-Lam.field-0 c.in-Lam.a.now c.in-Lam.b.now in
    let p = err_from_is_err_and c.from_residual-in_err-b-in-Lam.result c.from_residual-in_err-b-in-Lam.ensures.1 in
    rw (p.1, p.2) (part_over c.args.most _ (xs ++ 0 ∷ []) xs c.in-Lam.b.now (Lam c.in-Lam.field-0 c.in-Lam.a.now c.in-Lam.b.now) c.args.t.now c.in_err-b-in-Lam.field-0.0 (ap (λ l. l ++ 0 ∷ []) c.in_ok-a-in-Lam.ensures.kept) c.in-Lam.ensures.root (omega (arith, k)) c.in_err-b-in-Lam.ensures.counted)

pub nodes_within-returns-in_err-a-in-Sigma-clause-counted : goal.nodes_within-returns-in_err-a-in-Sigma-clause-counted
nodes_within-returns-in_err-a-in-Sigma-clause-counted t c =
    let xs = c.args.scope.now.items in
    let k = sigma_count xs c.in-Sigma.field-0 c.in-Sigma.a.now c.in-Sigma.b.now in
    let p = err_from_is_err_and c.from_residual-in_err-a-in-Sigma.result c.from_residual-in_err-a-in-Sigma.ensures.1 in
    rw (p.1, p.2) (part_over c.args.most _ xs xs c.in-Sigma.a.now (Sigma c.in-Sigma.field-0 c.in-Sigma.a.now c.in-Sigma.b.now) c.args.t.now c.in_err-a-in-Sigma.field-0.0 (refl) c.in-Sigma.ensures.root (omega (arith, k)) c.in_err-a-in-Sigma.ensures.counted)

pub nodes_within-returns-in_err-b-in-Sigma-clause-counted : goal.nodes_within-returns-in_err-b-in-Sigma-clause-counted
nodes_within-returns-in_err-b-in-Sigma-clause-counted t c =
    let xs = c.args.scope.now.items in
    let k = sigma_count xs c.in-Sigma.field-0 c.in-Sigma.a.now c.in-Sigma.b.now in
    let p = err_from_is_err_and c.from_residual-in_err-b-in-Sigma.result c.from_residual-in_err-b-in-Sigma.ensures.1 in
    rw (p.1, p.2) (part_over c.args.most _ (xs ++ 0 ∷ []) xs c.in-Sigma.b.now (Sigma c.in-Sigma.field-0 c.in-Sigma.a.now c.in-Sigma.b.now) c.args.t.now c.in_err-b-in-Sigma.field-0.0 (ap (λ l. l ++ 0 ∷ []) c.in_ok-a-in-Sigma.ensures.kept) c.in-Sigma.ensures.root (omega (arith, k)) c.in_err-b-in-Sigma.ensures.counted)

pub nodes_within-returns-in_err-a-in-Pair-clause-counted : goal.nodes_within-returns-in_err-a-in-Pair-clause-counted
nodes_within-returns-in_err-a-in-Pair-clause-counted t c =
    let xs = c.args.scope.now.items in
    let k = pair_count xs c.in-Pair.field-0 c.in-Pair.a.now c.in-Pair.b.now c.in-Pair.m.now c.in-Pair.n.now in
    let p = err_from_is_err_and c.from_residual-in_err-a-in-Pair.result c.from_residual-in_err-a-in-Pair.ensures.1 in
    rw (p.1, p.2) (part_over c.args.most _ xs xs c.in-Pair.a.now (Pair c.in-Pair.field-0 c.in-Pair.a.now c.in-Pair.b.now c.in-Pair.m.now c.in-Pair.n.now) c.args.t.now c.in_err-a-in-Pair.field-0.0 (refl) c.in-Pair.ensures.root (omega (arith, k)) c.in_err-a-in-Pair.ensures.counted)

pub nodes_within-returns-in_err-b-in-Pair-clause-counted : goal.nodes_within-returns-in_err-b-in-Pair-clause-counted
nodes_within-returns-in_err-b-in-Pair-clause-counted t c =
    let xs = c.args.scope.now.items in
    let k = pair_count xs c.in-Pair.field-0 c.in-Pair.a.now c.in-Pair.b.now c.in-Pair.m.now c.in-Pair.n.now in
    let p = err_from_is_err_and c.from_residual-in_err-b-in-Pair.result c.from_residual-in_err-b-in-Pair.ensures.1 in
    rw (p.1, p.2) (part_over c.args.most _ (xs ++ 0 ∷ []) xs c.in-Pair.b.now (Pair c.in-Pair.field-0 c.in-Pair.a.now c.in-Pair.b.now c.in-Pair.m.now c.in-Pair.n.now) c.args.t.now c.in_err-b-in-Pair.field-0.0 (ap (λ l. l ++ 0 ∷ []) c.in_ok-a-in-Pair.ensures.kept) c.in-Pair.ensures.root (omega (arith, k)) c.in_err-b-in-Pair.ensures.counted)

pub nodes_within-returns-in_err-m-in-Pair-clause-counted : goal.nodes_within-returns-in_err-m-in-Pair-clause-counted
nodes_within-returns-in_err-m-in-Pair-clause-counted t c =
    let xs = c.args.scope.now.items in
    let k = pair_count xs c.in-Pair.field-0 c.in-Pair.a.now c.in-Pair.b.now c.in-Pair.m.now c.in-Pair.n.now in
    let p = err_from_is_err_and c.from_residual-in_err-m-in-Pair.result c.from_residual-in_err-m-in-Pair.ensures.1 in
    rw (p.1, p.2) (part_over c.args.most _ xs xs c.in-Pair.m.now (Pair c.in-Pair.field-0 c.in-Pair.a.now c.in-Pair.b.now c.in-Pair.m.now c.in-Pair.n.now) c.args.t.now c.in_err-m-in-Pair.field-0.0 (c.in_ok-b-in-Pair.ensures.kept ∙ c.in_ok-a-in-Pair.ensures.kept) c.in-Pair.ensures.root (omega (arith, k)) c.in_err-m-in-Pair.ensures.counted)

pub nodes_within-returns-in_err-n-in-Pair-clause-counted : goal.nodes_within-returns-in_err-n-in-Pair-clause-counted
nodes_within-returns-in_err-n-in-Pair-clause-counted t c =
    let xs = c.args.scope.now.items in
    let k = pair_count xs c.in-Pair.field-0 c.in-Pair.a.now c.in-Pair.b.now c.in-Pair.m.now c.in-Pair.n.now in
    let p = err_from_is_err_and c.from_residual-in_err-n-in-Pair.result c.from_residual-in_err-n-in-Pair.ensures.1 in
    rw (p.1, p.2) (part_over c.args.most _ xs xs c.in-Pair.n.now (Pair c.in-Pair.field-0 c.in-Pair.a.now c.in-Pair.b.now c.in-Pair.m.now c.in-Pair.n.now) c.args.t.now c.in_err-n-in-Pair.field-0.0 (c.in_ok-m-in-Pair.ensures.kept ∙ (c.in_ok-b-in-Pair.ensures.kept ∙ c.in_ok-a-in-Pair.ensures.kept)) c.in-Pair.ensures.root (omega (arith, k)) c.in_err-n-in-Pair.ensures.counted)

pub nodes_within-returns-in_err-value-in-Local-clause-counted : goal.nodes_within-returns-in_err-value-in-Local-clause-counted
nodes_within-returns-in_err-value-in-Local-clause-counted t c =
    let xs = c.args.scope.now.items in
    let k = value_count xs c.in-Local.field-0 c.in-Local.value.now c.in-Local.body.now in
    let p = err_from_is_err_and c.from_residual-in_err-value-in-Local.result c.from_residual-in_err-value-in-Local.ensures.1 in
    rw (p.1, p.2) (part_over c.args.most _ xs xs c.in-Local.value.now (Let c.in-Local.field-0 c.in-Local.value.now c.in-Local.body.now) c.args.t.now c.in_err-value-in-Local.field-0.0 (refl) c.in-Local.ensures.root (omega (arith, k)) c.in_err-value-in-Local.ensures.counted)

pub nodes_within-returns-in_err-body-in-Local-clause-counted : goal.nodes_within-returns-in_err-body-in-Local-clause-counted
nodes_within-returns-in_err-body-in-Local-clause-counted t c =
    let xs = c.args.scope.now.items in
    let k = let_count xs c.in-Local.field-0 c.in_ok-value-in-Local.value c.in-Local.value.now c.in-Local.body.now c.in_ok-value-in-Local.ensures.counted in
    let p = err_from_is_err_and c.from_residual-in_err-body-in-Local.result c.from_residual-in_err-body-in-Local.ensures.1 in
    rw (p.1, p.2) (part_over c.args.most _ (xs ++ c.in_ok-value-in-Local.value ∷ []) xs c.in-Local.body.now (Let c.in-Local.field-0 c.in-Local.value.now c.in-Local.body.now) c.args.t.now c.in_err-body-in-Local.field-0.0 (ap (λ l. l ++ c.in_ok-value-in-Local.value ∷ []) c.in_ok-value-in-Local.ensures.kept) c.in-Local.ensures.root (omega (arith, k)) c.in_err-body-in-Local.ensures.counted)

pub nodes_within-returns-in_ok-argument-in-App-clause-counted : goal.nodes_within-returns-in_ok-argument-in-App-clause-counted
nodes_within-returns-in_ok-argument-in-App-clause-counted t c =
    let xs = c.args.scope.now.items in
    let h = c.in_ok-function-in-App.ensures.counted in
    let i : c.in_ok-argument-in-App.argument ≡ nodes_in xs c.in-App.argument.now = c.in_ok-argument-in-App.ensures.counted ∙ ap (λ l. nodes_in l c.in-App.argument.now) c.in_ok-function-in-App.ensures.kept in
    let k = app_count xs c.in-App.field-0 c.in-App.function.now c.in-App.argument.now in
    let r = ap (nodes_in xs) c.in-App.ensures.root in
    counted_as _ _ c.args.most c.within.result (omega (arith, k, r)) c.within.ensures

pub nodes_within-returns-in_ok-b-in-Pi-clause-counted : goal.nodes_within-returns-in_ok-b-in-Pi-clause-counted
nodes_within-returns-in_ok-b-in-Pi-clause-counted t c =
    let xs = c.args.scope.now.items in
    let h = c.in_ok-a-in-Pi.ensures.counted in
    let i : c.in_ok-b-in-Pi.b ≡ nodes_in (xs ++ 0 ∷ []) c.in-Pi.b.now = c.in_ok-b-in-Pi.ensures.counted ∙ ap (λ l. nodes_in (l ++ 0 ∷ []) c.in-Pi.b.now) c.in_ok-a-in-Pi.ensures.kept in
    let k = pi_count xs c.in-Pi.field-0 c.in-Pi.a.now c.in-Pi.b.now in
    let r = ap (nodes_in xs) c.in-Pi.ensures.root in
    counted_as _ _ c.args.most c.within-in-Pi.result (omega (arith, k, r)) c.within-in-Pi.ensures

pub nodes_within-returns-in_ok-b-in-Lam-clause-counted : goal.nodes_within-returns-in_ok-b-in-Lam-clause-counted
nodes_within-returns-in_ok-b-in-Lam-clause-counted t c =
    let xs = c.args.scope.now.items in
    let h = c.in_ok-a-in-Lam.ensures.counted in
    let i : c.in_ok-b-in-Lam.b ≡ nodes_in (xs ++ 0 ∷ []) c.in-Lam.b.now = c.in_ok-b-in-Lam.ensures.counted ∙ ap (λ l. nodes_in (l ++ 0 ∷ []) c.in-Lam.b.now) c.in_ok-a-in-Lam.ensures.kept in
    let k = lam_count xs c.in-Lam.field-0 c.in-Lam.a.now c.in-Lam.b.now in
    let r = ap (nodes_in xs) c.in-Lam.ensures.root in
    counted_as _ _ c.args.most c.within-in-Lam.result (omega (arith, k, r)) c.within-in-Lam.ensures

pub nodes_within-returns-in_ok-b-in-Sigma-clause-counted : goal.nodes_within-returns-in_ok-b-in-Sigma-clause-counted
nodes_within-returns-in_ok-b-in-Sigma-clause-counted t c =
    let xs = c.args.scope.now.items in
    let h = c.in_ok-a-in-Sigma.ensures.counted in
    let i : c.in_ok-b-in-Sigma.b ≡ nodes_in (xs ++ 0 ∷ []) c.in-Sigma.b.now = c.in_ok-b-in-Sigma.ensures.counted ∙ ap (λ l. nodes_in (l ++ 0 ∷ []) c.in-Sigma.b.now) c.in_ok-a-in-Sigma.ensures.kept in
    let k = sigma_count xs c.in-Sigma.field-0 c.in-Sigma.a.now c.in-Sigma.b.now in
    let r = ap (nodes_in xs) c.in-Sigma.ensures.root in
    counted_as _ _ c.args.most c.within-in-Sigma.result (omega (arith, k, r)) c.within-in-Sigma.ensures

pub nodes_within-returns-in_ok-n-in-Pair-clause-counted : goal.nodes_within-returns-in_ok-n-in-Pair-clause-counted
nodes_within-returns-in_ok-n-in-Pair-clause-counted t c =
    let xs = c.args.scope.now.items in
    let first = c.in_ok-a-in-Pair.ensures.kept in
    let second = c.in_ok-b-in-Pair.ensures.kept ∙ first in
    let third = c.in_ok-m-in-Pair.ensures.kept ∙ second in
    let ha = c.in_ok-a-in-Pair.ensures.counted in
    let hb : c.in_ok-b-in-Pair.b ≡ nodes_in (xs ++ 0 ∷ []) c.in-Pair.b.now = c.in_ok-b-in-Pair.ensures.counted ∙ ap (λ l. nodes_in (l ++ 0 ∷ []) c.in-Pair.b.now) first in
    let hm : c.in_ok-m-in-Pair.m ≡ nodes_in xs c.in-Pair.m.now = c.in_ok-m-in-Pair.ensures.counted ∙ ap (λ l. nodes_in l c.in-Pair.m.now) second in
    let hn : c.in_ok-n-in-Pair.n ≡ nodes_in xs c.in-Pair.n.now = c.in_ok-n-in-Pair.ensures.counted ∙ ap (λ l. nodes_in l c.in-Pair.n.now) third in
    let k = pair_count xs c.in-Pair.field-0 c.in-Pair.a.now c.in-Pair.b.now c.in-Pair.m.now c.in-Pair.n.now in
    let r = ap (nodes_in xs) c.in-Pair.ensures.root in
    counted_as _ _ c.args.most c.within-in-Pair.result (omega (arith, k, r)) c.within-in-Pair.ensures

pub nodes_within-returns-in_ok-body-in-Local-clause-counted : goal.nodes_within-returns-in_ok-body-in-Local-clause-counted
nodes_within-returns-in_ok-body-in-Local-clause-counted t c =
    let xs = c.args.scope.now.items in
    let h = c.in_ok-value-in-Local.ensures.counted in
    let i : c.in_ok-body-in-Local.body ≡ nodes_in (xs ++ c.in_ok-value-in-Local.value ∷ []) c.in-Local.body.now = c.in_ok-body-in-Local.ensures.counted ∙ ap (λ l. nodes_in (l ++ c.in_ok-value-in-Local.value ∷ []) c.in-Local.body.now) c.in_ok-value-in-Local.ensures.kept in
    let k = let_count xs c.in-Local.field-0 c.in_ok-value-in-Local.value c.in-Local.value.now c.in-Local.body.now h in
    let r = ap (nodes_in xs) c.in-Local.ensures.root in
    counted_as _ _ c.args.most c.within-in-Local.result (omega (arith, k, r)) c.within-in-Local.ensures

pub nodes_within-returns-in-Fst-clause-counted : goal.nodes_within-returns-in-Fst-clause-counted
nodes_within-returns-in-Fst-clause-counted t c =
    let xs = c.args.scope.now.items in
    same_count c.args.most xs xs c.in-Fst.of.now c.args.t.now c.nodes_within.result (sym (fst_count xs c.in-Fst.of.now) ∙ ap (nodes_in xs) c.in-Fst.ensures.root) c.nodes_within.ensures.counted

pub nodes_within-returns-in-Snd-clause-counted : goal.nodes_within-returns-in-Snd-clause-counted
nodes_within-returns-in-Snd-clause-counted t c =
    let xs = c.args.scope.now.items in
    same_count c.args.most xs xs c.in-Snd.of.now c.args.t.now c.nodes_within-in-Snd.result (sym (snd_count xs c.in-Snd.of.now) ∙ ap (nodes_in xs) c.in-Snd.ensures.root) c.nodes_within-in-Snd.ensures.counted

pub nodes_within-returns-in-Var-clause-counted : goal.nodes_within-returns-in-Var-clause-counted
nodes_within-returns-in-Var-clause-counted t c =
    let xs = c.args.scope.now.items in
    c.counted.ensures ∙ ap (λ l. scope_of l c.in-Var.index) c.as_slice.ensures.value ∙ sym (var_count xs c.in-Var.index) ∙ ap (nodes_in xs) c.in-Var.ensures.root

pub nodes_within-returns-in-Const-clause-counted : goal.nodes_within-returns-in-Const-clause-counted
nodes_within-returns-in-Const-clause-counted t c =
    let xs = c.args.scope.now.items in
    sym (const_count xs c.in-Const.field-0) ∙ ap (nodes_in xs) c.in-Const.ensures.root

pub nodes_within-returns-in-Prop-clause-counted : goal.nodes_within-returns-in-Prop-clause-counted
nodes_within-returns-in-Prop-clause-counted t c =
    let xs = c.args.scope.now.items in
    sym (prop_count xs) ∙ ap (nodes_in xs) c.in-Prop.ensures.root

pub nodes_within-returns-in-Univ-clause-counted : goal.nodes_within-returns-in-Univ-clause-counted
nodes_within-returns-in-Univ-clause-counted t c =
    let xs = c.args.scope.now.items in
    sym (univ_count xs c.in-Univ.field-0) ∙ ap (nodes_in xs) c.in-Univ.ensures.root
