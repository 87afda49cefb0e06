use Rattle.std.proofs.Common.{◌≡◌, ◌+◌, ◌≤◌, max, List, [], ◌∷◌, ◌++◌, refl, ap, sym, ◌∙◌, arith}
use Rattle.std.proofs.lemmas.Result.{err_from_is_err_and}
use Rattle.lego_term.specs.Trees.{Core, Var, Const, Prop, Univ, Pi, Lam, App, Sigma, Pair, Fst, Snd, Let}
use Rattle.lego_term.specs.private.Counted.{scope_of, height_in, weight_in}
use Rattle.lego_term.proofs.CountedLemmas.{part_over, counted_as, leaf_extent, var_counts, app_counts, fst_counts, snd_counts, leaf_counts, const_counts, univ_counts, pi_counts, lam_counts, sigma_counts, pair_counts, let_counts, value_counts}
use Rattle.lego_term.proofs.weight.+measure.Goals as goal

pub measure_within-returns-in_err-function-in-App-clause-counted : goal.measure_within-returns-in_err-function-in-App-clause-counted
measure_within-returns-in_err-function-in-App-clause-counted t c =
    let xs = c.args.scope.now.items in
    let k = app_counts xs c.in-App.field-0 c.in-App.function.now c.in-App.argument.now in
    let p = err_from_is_err_and c.from_residual-in_err-function-in-App.result c.from_residual-in_err-function-in-App.ensures.1 in
    rw (p.1, p.2) (part_over _ xs xs c.in-App.function.now (App c.in-App.field-0 c.in-App.function.now c.in-App.argument.now) c.args.t.now c.in_err-function-in-App.field-0.0 (refl) c.in-App.ensures.root (omega (arith, k.0)) (omega (arith, k.1)) c.in_err-function-in-App.ensures.counted)

pub measure_within-returns-in_err-argument-in-App-clause-counted : goal.measure_within-returns-in_err-argument-in-App-clause-counted
measure_within-returns-in_err-argument-in-App-clause-counted t c =
    let xs = c.args.scope.now.items in
    let k = app_counts xs c.in-App.field-0 c.in-App.function.now c.in-App.argument.now in
    let p = err_from_is_err_and c.from_residual-in_err-argument-in-App.result c.from_residual-in_err-argument-in-App.ensures.1 in
    rw (p.1, p.2) (part_over _ xs xs c.in-App.argument.now (App c.in-App.field-0 c.in-App.function.now c.in-App.argument.now) c.args.t.now c.in_err-argument-in-App.field-0.0 (c.in_ok-function-in-App.ensures.kept) c.in-App.ensures.root (omega (arith, k.0)) (omega (arith, k.1)) c.in_err-argument-in-App.ensures.counted)

pub measure_within-returns-in_err-a-in-Pi-clause-counted : goal.measure_within-returns-in_err-a-in-Pi-clause-counted
measure_within-returns-in_err-a-in-Pi-clause-counted t c =
    let xs = c.args.scope.now.items in
    let k = pi_counts xs c.in-Pi.field-0 c.in-Pi.a.now c.in-Pi.b.now in
    let p = err_from_is_err_and c.from_residual-in_err-a-in-Pi.result c.from_residual-in_err-a-in-Pi.ensures.1 in
    rw (p.1, p.2) (part_over _ xs xs c.in-Pi.a.now (Pi c.in-Pi.field-0 c.in-Pi.a.now c.in-Pi.b.now) c.args.t.now c.in_err-a-in-Pi.field-0.0 (refl) c.in-Pi.ensures.root (omega (arith, k.0)) (omega (arith, k.1)) c.in_err-a-in-Pi.ensures.counted)

pub measure_within-returns-in_err-b-in-Pi-clause-counted : goal.measure_within-returns-in_err-b-in-Pi-clause-counted
measure_within-returns-in_err-b-in-Pi-clause-counted t c =
    let xs = c.args.scope.now.items in
    let k = pi_counts xs c.in-Pi.field-0 c.in-Pi.a.now c.in-Pi.b.now in
    let p = err_from_is_err_and c.from_residual-in_err-b-in-Pi.result c.from_residual-in_err-b-in-Pi.ensures.1 in
    rw (p.1, p.2) (part_over _ (xs ++ leaf_extent ∷ []) xs c.in-Pi.b.now (Pi c.in-Pi.field-0 c.in-Pi.a.now c.in-Pi.b.now) c.args.t.now c.in_err-b-in-Pi.field-0.0 (ap (λ l. l ++ leaf_extent ∷ []) c.in_ok-a-in-Pi.ensures.kept) c.in-Pi.ensures.root (omega (arith, k.0)) (omega (arith, k.1)) c.in_err-b-in-Pi.ensures.counted)

pub measure_within-returns-in_err-a-in-Lam-clause-counted : goal.measure_within-returns-in_err-a-in-Lam-clause-counted
measure_within-returns-in_err-a-in-Lam-clause-counted t c =
    let xs = c.args.scope.now.items in
    let k = lam_counts xs c.in-Lam.field-0 c.in-Lam.a.now c.in-Lam.b.now in
    let p = err_from_is_err_and c.from_residual-in_err-a-in-Lam.result c.from_residual-in_err-a-in-Lam.ensures.1 in
    rw (p.1, p.2) (part_over _ xs xs c.in-Lam.a.now (Lam c.in-Lam.field-0 c.in-Lam.a.now c.in-Lam.b.now) c.args.t.now c.in_err-a-in-Lam.field-0.0 (refl) c.in-Lam.ensures.root (omega (arith, k.0)) (omega (arith, k.1)) c.in_err-a-in-Lam.ensures.counted)

pub measure_within-returns-in_err-b-in-Lam-clause-counted : goal.measure_within-returns-in_err-b-in-Lam-clause-counted
measure_within-returns-in_err-b-in-Lam-clause-counted t c =
    let xs = c.args.scope.now.items in
    let k = lam_counts xs c.in-Lam.field-0 c.in-Lam.a.now c.in-Lam.b.now in
    let p = err_from_is_err_and c.from_residual-in_err-b-in-Lam.result c.from_residual-in_err-b-in-Lam.ensures.1 in
    rw (p.1, p.2) (part_over _ (xs ++ leaf_extent ∷ []) xs c.in-Lam.b.now (Lam c.in-Lam.field-0 c.in-Lam.a.now c.in-Lam.b.now) c.args.t.now c.in_err-b-in-Lam.field-0.0 (ap (λ l. l ++ leaf_extent ∷ []) c.in_ok-a-in-Lam.ensures.kept) c.in-Lam.ensures.root (omega (arith, k.0)) (omega (arith, k.1)) c.in_err-b-in-Lam.ensures.counted)

pub measure_within-returns-in_err-a-in-Sigma-clause-counted : goal.measure_within-returns-in_err-a-in-Sigma-clause-counted
measure_within-returns-in_err-a-in-Sigma-clause-counted t c =
    let xs = c.args.scope.now.items in
    let k = sigma_counts xs c.in-Sigma.field-0 c.in-Sigma.a.now c.in-Sigma.b.now in
    let p = err_from_is_err_and c.from_residual-in_err-a-in-Sigma.result c.from_residual-in_err-a-in-Sigma.ensures.1 in
    rw (p.1, p.2) (part_over _ xs xs c.in-Sigma.a.now (Sigma c.in-Sigma.field-0 c.in-Sigma.a.now c.in-Sigma.b.now) c.args.t.now c.in_err-a-in-Sigma.field-0.0 (refl) c.in-Sigma.ensures.root (omega (arith, k.0)) (omega (arith, k.1)) c.in_err-a-in-Sigma.ensures.counted)

pub measure_within-returns-in_err-b-in-Sigma-clause-counted : goal.measure_within-returns-in_err-b-in-Sigma-clause-counted
measure_within-returns-in_err-b-in-Sigma-clause-counted t c =
    let xs = c.args.scope.now.items in
    let k = sigma_counts xs c.in-Sigma.field-0 c.in-Sigma.a.now c.in-Sigma.b.now in
    let p = err_from_is_err_and c.from_residual-in_err-b-in-Sigma.result c.from_residual-in_err-b-in-Sigma.ensures.1 in
    rw (p.1, p.2) (part_over _ (xs ++ leaf_extent ∷ []) xs c.in-Sigma.b.now (Sigma c.in-Sigma.field-0 c.in-Sigma.a.now c.in-Sigma.b.now) c.args.t.now c.in_err-b-in-Sigma.field-0.0 (ap (λ l. l ++ leaf_extent ∷ []) c.in_ok-a-in-Sigma.ensures.kept) c.in-Sigma.ensures.root (omega (arith, k.0)) (omega (arith, k.1)) c.in_err-b-in-Sigma.ensures.counted)

pub measure_within-returns-in_err-a-in-Pair-clause-counted : goal.measure_within-returns-in_err-a-in-Pair-clause-counted
measure_within-returns-in_err-a-in-Pair-clause-counted t c =
    let xs = c.args.scope.now.items in
    let k = pair_counts xs c.in-Pair.field-0 c.in-Pair.a.now c.in-Pair.b.now c.in-Pair.m.now c.in-Pair.n.now in
    let p = err_from_is_err_and c.from_residual-in_err-a-in-Pair.result c.from_residual-in_err-a-in-Pair.ensures.1 in
    rw (p.1, p.2) (part_over _ xs xs c.in-Pair.a.now (Pair c.in-Pair.field-0 c.in-Pair.a.now c.in-Pair.b.now c.in-Pair.m.now c.in-Pair.n.now) c.args.t.now c.in_err-a-in-Pair.field-0.0 (refl) c.in-Pair.ensures.root (omega (arith, k.0)) (omega (arith, k.1)) c.in_err-a-in-Pair.ensures.counted)

pub measure_within-returns-in_err-b-in-Pair-clause-counted : goal.measure_within-returns-in_err-b-in-Pair-clause-counted
measure_within-returns-in_err-b-in-Pair-clause-counted t c =
    let xs = c.args.scope.now.items in
    let k = pair_counts xs c.in-Pair.field-0 c.in-Pair.a.now c.in-Pair.b.now c.in-Pair.m.now c.in-Pair.n.now in
    let p = err_from_is_err_and c.from_residual-in_err-b-in-Pair.result c.from_residual-in_err-b-in-Pair.ensures.1 in
    rw (p.1, p.2) (part_over _ (xs ++ leaf_extent ∷ []) xs c.in-Pair.b.now (Pair c.in-Pair.field-0 c.in-Pair.a.now c.in-Pair.b.now c.in-Pair.m.now c.in-Pair.n.now) c.args.t.now c.in_err-b-in-Pair.field-0.0 (ap (λ l. l ++ leaf_extent ∷ []) c.in_ok-a-in-Pair.ensures.kept) c.in-Pair.ensures.root (omega (arith, k.0)) (omega (arith, k.1)) c.in_err-b-in-Pair.ensures.counted)

pub measure_within-returns-in_err-m-in-Pair-clause-counted : goal.measure_within-returns-in_err-m-in-Pair-clause-counted
measure_within-returns-in_err-m-in-Pair-clause-counted t c =
    let xs = c.args.scope.now.items in
    let k = pair_counts xs c.in-Pair.field-0 c.in-Pair.a.now c.in-Pair.b.now c.in-Pair.m.now c.in-Pair.n.now in
    let p = err_from_is_err_and c.from_residual-in_err-m-in-Pair.result c.from_residual-in_err-m-in-Pair.ensures.1 in
    rw (p.1, p.2) (part_over _ xs xs c.in-Pair.m.now (Pair c.in-Pair.field-0 c.in-Pair.a.now c.in-Pair.b.now c.in-Pair.m.now c.in-Pair.n.now) c.args.t.now c.in_err-m-in-Pair.field-0.0 (c.in_ok-b-in-Pair.ensures.kept ∙ c.in_ok-a-in-Pair.ensures.kept) c.in-Pair.ensures.root (omega (arith, k.0)) (omega (arith, k.1)) c.in_err-m-in-Pair.ensures.counted)

pub measure_within-returns-in_err-n-in-Pair-clause-counted : goal.measure_within-returns-in_err-n-in-Pair-clause-counted
measure_within-returns-in_err-n-in-Pair-clause-counted t c =
    let xs = c.args.scope.now.items in
    let k = pair_counts xs c.in-Pair.field-0 c.in-Pair.a.now c.in-Pair.b.now c.in-Pair.m.now c.in-Pair.n.now in
    let p = err_from_is_err_and c.from_residual-in_err-n-in-Pair.result c.from_residual-in_err-n-in-Pair.ensures.1 in
    rw (p.1, p.2) (part_over _ xs xs c.in-Pair.n.now (Pair c.in-Pair.field-0 c.in-Pair.a.now c.in-Pair.b.now c.in-Pair.m.now c.in-Pair.n.now) c.args.t.now c.in_err-n-in-Pair.field-0.0 (c.in_ok-m-in-Pair.ensures.kept ∙ (c.in_ok-b-in-Pair.ensures.kept ∙ c.in_ok-a-in-Pair.ensures.kept)) c.in-Pair.ensures.root (omega (arith, k.0)) (omega (arith, k.1)) c.in_err-n-in-Pair.ensures.counted)

pub measure_within-returns-in_err-value-in-Local-clause-counted : goal.measure_within-returns-in_err-value-in-Local-clause-counted
measure_within-returns-in_err-value-in-Local-clause-counted t c =
    let xs = c.args.scope.now.items in
    let k = value_counts xs c.in-Local.field-0 c.in-Local.value.now c.in-Local.body.now in
    let p = err_from_is_err_and c.from_residual-in_err-value-in-Local.result c.from_residual-in_err-value-in-Local.ensures.1 in
    rw (p.1, p.2) (part_over _ xs xs c.in-Local.value.now (Let c.in-Local.field-0 c.in-Local.value.now c.in-Local.body.now) c.args.t.now c.in_err-value-in-Local.field-0.0 (refl) c.in-Local.ensures.root k.0 k.1 c.in_err-value-in-Local.ensures.counted)

pub measure_within-returns-in_err-body-in-Local-clause-counted : goal.measure_within-returns-in_err-body-in-Local-clause-counted
measure_within-returns-in_err-body-in-Local-clause-counted t c =
    let xs = c.args.scope.now.items in
    let v = c.in_ok-value-in-Local.value in
    let h = c.in_ok-value-in-Local.ensures.counted in
    let k = let_counts xs c.in-Local.field-0 v c.in-Local.value.now c.in-Local.body.now h.0 h.1 in
    let p = err_from_is_err_and c.from_residual-in_err-body-in-Local.result c.from_residual-in_err-body-in-Local.ensures.1 in
    rw (p.1, p.2) (part_over _ (xs ++ v ∷ []) xs c.in-Local.body.now (Let c.in-Local.field-0 c.in-Local.value.now c.in-Local.body.now) c.args.t.now c.in_err-body-in-Local.field-0.0 (ap (λ l. l ++ v ∷ []) c.in_ok-value-in-Local.ensures.kept) c.in-Local.ensures.root (omega (arith, k.0)) (omega (arith, k.1)) c.in_err-body-in-Local.ensures.counted)

pub measure_within-returns-in_err-measure_within-in-Fst-clause-counted : goal.measure_within-returns-in_err-measure_within-in-Fst-clause-counted
measure_within-returns-in_err-measure_within-in-Fst-clause-counted t c =
    let xs = c.args.scope.now.items in
    let k = fst_counts xs c.in-Fst.of.now in
    let p = err_from_is_err_and c.from_residual.result c.from_residual.ensures.1 in
    rw (p.1, p.2) (part_over _ xs xs c.in-Fst.of.now (Fst c.in-Fst.of.now) c.args.t.now c.in_err-measure_within-in-Fst.field-0.0 (refl) c.in-Fst.ensures.root (omega (arith, k.0)) (omega (arith, k.1)) c.in_err-measure_within-in-Fst.ensures.counted)

pub measure_within-returns-in_err-measure_within-in-Snd-clause-counted : goal.measure_within-returns-in_err-measure_within-in-Snd-clause-counted
measure_within-returns-in_err-measure_within-in-Snd-clause-counted t c =
    let xs = c.args.scope.now.items in
    let k = snd_counts xs c.in-Snd.of.now in
    let p = err_from_is_err_and c.from_residual-in_err-measure_within-in-Snd.result c.from_residual-in_err-measure_within-in-Snd.ensures.1 in
    rw (p.1, p.2) (part_over _ xs xs c.in-Snd.of.now (Snd c.in-Snd.of.now) c.args.t.now c.in_err-measure_within-in-Snd.field-0.0 (refl) c.in-Snd.ensures.root (omega (arith, k.0)) (omega (arith, k.1)) c.in_err-measure_within-in-Snd.ensures.counted)

pub measure_within-returns-in-Var-clause-counted : goal.measure_within-returns-in-Var-clause-counted
measure_within-returns-in-Var-clause-counted t c =
    let xs = c.args.scope.now.items in
    let k = var_counts xs c.in-Var.index in
    let hr = ap (height_in xs) c.in-Var.ensures.root in
    let wr = ap (weight_in xs) c.in-Var.ensures.root in
    let h = c.counted.ensures.height ∙ ap (λ l. scope_of (λ x. x.height) l c.in-Var.index) c.as_slice.ensures.value in
    let w = c.counted.ensures.weight ∙ ap (λ l. scope_of (λ x. x.weight) l c.in-Var.index) c.as_slice.ensures.value in
    (h ∙ (sym k.0 ∙ hr), w ∙ (sym k.1 ∙ wr), omega (arith, c.counted.ensures.within.0, h, k.0, hr), omega (arith, c.counted.ensures.within.1, w, k.1, wr))

pub measure_within-returns-in_ok-argument-in-App-clause-counted : goal.measure_within-returns-in_ok-argument-in-App-clause-counted
measure_within-returns-in_ok-argument-in-App-clause-counted t c =
    let xs = c.args.scope.now.items in
    let m : Core = c.in-App.function.now in
    let n : Core = c.in-App.argument.now in
    let h1 = c.in_ok-function-in-App.ensures.counted in
    let h2 : c.in_ok-argument-in-App.argument.height ≡ height_in xs n = c.in_ok-argument-in-App.ensures.counted.0 ∙ ap (λ l. height_in l n) (c.in_ok-function-in-App.ensures.kept) in
    let w2 : c.in_ok-argument-in-App.argument.weight ≡ weight_in xs n = c.in_ok-argument-in-App.ensures.counted.1 ∙ ap (λ l. weight_in l n) (c.in_ok-function-in-App.ensures.kept) in
    let k = app_counts xs c.in-App.field-0 m n in
    let r = c.in-App.ensures.root in
    let hr = ap (height_in xs) r in
    let wr = ap (weight_in xs) r in
    counted_as _ _ _ _ c.around-in-App.result (omega (arith, k.0, hr)) (omega (arith, k.1, wr)) c.around-in-App.ensures

pub measure_within-returns-in_ok-b-in-Pi-clause-counted : goal.measure_within-returns-in_ok-b-in-Pi-clause-counted
measure_within-returns-in_ok-b-in-Pi-clause-counted t c =
    let xs = c.args.scope.now.items in
    let m : Core = c.in-Pi.a.now in
    let n : Core = c.in-Pi.b.now in
    let h1 = c.in_ok-a-in-Pi.ensures.counted in
    let h2 : c.in_ok-b-in-Pi.b.height ≡ height_in (xs ++ leaf_extent ∷ []) n = c.in_ok-b-in-Pi.ensures.counted.0 ∙ ap (λ l. height_in l n) (ap (λ l. l ++ leaf_extent ∷ []) c.in_ok-a-in-Pi.ensures.kept) in
    let w2 : c.in_ok-b-in-Pi.b.weight ≡ weight_in (xs ++ leaf_extent ∷ []) n = c.in_ok-b-in-Pi.ensures.counted.1 ∙ ap (λ l. weight_in l n) (ap (λ l. l ++ leaf_extent ∷ []) c.in_ok-a-in-Pi.ensures.kept) in
    let k = pi_counts xs c.in-Pi.field-0 m n in
    let r = c.in-Pi.ensures.root in
    let hr = ap (height_in xs) r in
    let wr = ap (weight_in xs) r in
    counted_as _ _ _ _ c.around-in-Pi.result (omega (arith, k.0, hr)) (omega (arith, k.1, wr)) c.around-in-Pi.ensures

pub measure_within-returns-in_ok-b-in-Lam-clause-counted : goal.measure_within-returns-in_ok-b-in-Lam-clause-counted
measure_within-returns-in_ok-b-in-Lam-clause-counted t c =
    let xs = c.args.scope.now.items in
    let m : Core = c.in-Lam.a.now in
    let n : Core = c.in-Lam.b.now in
    let h1 = c.in_ok-a-in-Lam.ensures.counted in
    let h2 : c.in_ok-b-in-Lam.b.height ≡ height_in (xs ++ leaf_extent ∷ []) n = c.in_ok-b-in-Lam.ensures.counted.0 ∙ ap (λ l. height_in l n) (ap (λ l. l ++ leaf_extent ∷ []) c.in_ok-a-in-Lam.ensures.kept) in
    let w2 : c.in_ok-b-in-Lam.b.weight ≡ weight_in (xs ++ leaf_extent ∷ []) n = c.in_ok-b-in-Lam.ensures.counted.1 ∙ ap (λ l. weight_in l n) (ap (λ l. l ++ leaf_extent ∷ []) c.in_ok-a-in-Lam.ensures.kept) in
    let k = lam_counts xs c.in-Lam.field-0 m n in
    let r = c.in-Lam.ensures.root in
    let hr = ap (height_in xs) r in
    let wr = ap (weight_in xs) r in
    counted_as _ _ _ _ c.around-in-Lam.result (omega (arith, k.0, hr)) (omega (arith, k.1, wr)) c.around-in-Lam.ensures

pub measure_within-returns-in_ok-b-in-Sigma-clause-counted : goal.measure_within-returns-in_ok-b-in-Sigma-clause-counted
measure_within-returns-in_ok-b-in-Sigma-clause-counted t c =
    let xs = c.args.scope.now.items in
    let m : Core = c.in-Sigma.a.now in
    let n : Core = c.in-Sigma.b.now in
    let h1 = c.in_ok-a-in-Sigma.ensures.counted in
    let h2 : c.in_ok-b-in-Sigma.b.height ≡ height_in (xs ++ leaf_extent ∷ []) n = c.in_ok-b-in-Sigma.ensures.counted.0 ∙ ap (λ l. height_in l n) (ap (λ l. l ++ leaf_extent ∷ []) c.in_ok-a-in-Sigma.ensures.kept) in
    let w2 : c.in_ok-b-in-Sigma.b.weight ≡ weight_in (xs ++ leaf_extent ∷ []) n = c.in_ok-b-in-Sigma.ensures.counted.1 ∙ ap (λ l. weight_in l n) (ap (λ l. l ++ leaf_extent ∷ []) c.in_ok-a-in-Sigma.ensures.kept) in
    let k = sigma_counts xs c.in-Sigma.field-0 m n in
    let r = c.in-Sigma.ensures.root in
    let hr = ap (height_in xs) r in
    let wr = ap (weight_in xs) r in
    counted_as _ _ _ _ c.around-in-Sigma.result (omega (arith, k.0, hr)) (omega (arith, k.1, wr)) c.around-in-Sigma.ensures

pub measure_within-returns-in_ok-measure_within-in-Fst-clause-counted : goal.measure_within-returns-in_ok-measure_within-in-Fst-clause-counted
measure_within-returns-in_ok-measure_within-in-Fst-clause-counted t c =
    let xs = c.args.scope.now.items in
    let h1 = c.in_ok-measure_within-in-Fst.ensures.counted in
    let k = fst_counts xs c.in-Fst.of.now in
    let r = c.in-Fst.ensures.root in
    let hr = ap (height_in xs) r in
    let wr = ap (weight_in xs) r in
    counted_as _ _ _ _ c.around.result (omega (arith, k.0, hr)) (omega (arith, k.1, wr)) c.around.ensures

pub measure_within-returns-in_ok-measure_within-in-Snd-clause-counted : goal.measure_within-returns-in_ok-measure_within-in-Snd-clause-counted
measure_within-returns-in_ok-measure_within-in-Snd-clause-counted t c =
    let xs = c.args.scope.now.items in
    let h1 = c.in_ok-measure_within-in-Snd.ensures.counted in
    let k = snd_counts xs c.in-Snd.of.now in
    let r = c.in-Snd.ensures.root in
    let hr = ap (height_in xs) r in
    let wr = ap (weight_in xs) r in
    counted_as _ _ _ _ c.around-in-Snd.result (omega (arith, k.0, hr)) (omega (arith, k.1, wr)) c.around-in-Snd.ensures

pub measure_within-returns-in-Const-clause-counted : goal.measure_within-returns-in-Const-clause-counted
measure_within-returns-in-Const-clause-counted t c =
    let xs = c.args.scope.now.items in
    let k = const_counts xs c.in-Const.field-0 in
    let hr = ap (height_in xs) c.in-Const.ensures.root in
    let wr = ap (weight_in xs) c.in-Const.ensures.root in
    (sym k.0 ∙ hr, sym k.1 ∙ wr, omega (arith, k.0, hr), omega (arith, k.1, wr))

pub measure_within-returns-in-Prop-clause-counted : goal.measure_within-returns-in-Prop-clause-counted
measure_within-returns-in-Prop-clause-counted t c =
    let xs = c.args.scope.now.items in
    let k = leaf_counts xs in
    let hr = ap (height_in xs) c.in-Prop.ensures.root in
    let wr = ap (weight_in xs) c.in-Prop.ensures.root in
    (sym k.0 ∙ hr, sym k.1 ∙ wr, omega (arith, k.0, hr), omega (arith, k.1, wr))

pub measure_within-returns-in-Univ-clause-counted : goal.measure_within-returns-in-Univ-clause-counted
measure_within-returns-in-Univ-clause-counted t c =
    let xs = c.args.scope.now.items in
    let k = univ_counts xs c.in-Univ.field-0 in
    let hr = ap (height_in xs) c.in-Univ.ensures.root in
    let wr = ap (weight_in xs) c.in-Univ.ensures.root in
    (sym k.0 ∙ hr, sym k.1 ∙ wr, omega (arith, k.0, hr), omega (arith, k.1, wr))

pub measure_within-returns-in_ok-n-in-Pair-clause-counted : goal.measure_within-returns-in_ok-n-in-Pair-clause-counted
measure_within-returns-in_ok-n-in-Pair-clause-counted t c =
    let xs = c.args.scope.now.items in
    let a : Core = c.in-Pair.a.now in
    let b : Core = c.in-Pair.b.now in
    let m : Core = c.in-Pair.m.now in
    let n : Core = c.in-Pair.n.now in
    let first = c.in_ok-a-in-Pair.ensures.kept in
    let second = c.in_ok-b-in-Pair.ensures.kept ∙ first in
    let third = c.in_ok-m-in-Pair.ensures.kept ∙ second in
    let ys = xs ++ leaf_extent ∷ [] in
    let ha = c.in_ok-a-in-Pair.ensures.counted in
    let hb : c.in_ok-b-in-Pair.b.height ≡ height_in ys b = c.in_ok-b-in-Pair.ensures.counted.0 ∙ ap (λ l. height_in (l ++ leaf_extent ∷ []) b) first in
    let wb : c.in_ok-b-in-Pair.b.weight ≡ weight_in ys b = c.in_ok-b-in-Pair.ensures.counted.1 ∙ ap (λ l. weight_in (l ++ leaf_extent ∷ []) b) first in
    let hm : c.in_ok-m-in-Pair.m.height ≡ height_in xs m = c.in_ok-m-in-Pair.ensures.counted.0 ∙ ap (λ l. height_in l m) second in
    let wm : c.in_ok-m-in-Pair.m.weight ≡ weight_in xs m = c.in_ok-m-in-Pair.ensures.counted.1 ∙ ap (λ l. weight_in l m) second in
    let hn : c.in_ok-n-in-Pair.n.height ≡ height_in xs n = c.in_ok-n-in-Pair.ensures.counted.0 ∙ ap (λ l. height_in l n) third in
    let wn : c.in_ok-n-in-Pair.n.weight ≡ weight_in xs n = c.in_ok-n-in-Pair.ensures.counted.1 ∙ ap (λ l. weight_in l n) third in
    let k = pair_counts xs c.in-Pair.field-0 a b m n in
    let hr = ap (height_in xs) c.in-Pair.ensures.root in
    let wr = ap (weight_in xs) c.in-Pair.ensures.root in
    counted_as _ _ _ _ c.around-in-Pair.result (omega (arith, k.0, hr)) (omega (arith, k.1, wr)) c.around-in-Pair.ensures

pub measure_within-returns-in_ok-body-in-Local-clause-counted : goal.measure_within-returns-in_ok-body-in-Local-clause-counted
measure_within-returns-in_ok-body-in-Local-clause-counted t c =
    let xs = c.args.scope.now.items in
    let v = c.in_ok-value-in-Local.value in
    let m : Core = c.in-Local.value.now in
    let n : Core = c.in-Local.body.now in
    let h = c.in_ok-value-in-Local.ensures.counted in
    let kept = c.in_ok-value-in-Local.ensures.kept in
    let h2 : c.in_ok-body-in-Local.body.height ≡ height_in (xs ++ v ∷ []) n = c.in_ok-body-in-Local.ensures.counted.0 ∙ ap (λ l. height_in (l ++ v ∷ []) n) kept in
    let w2 : c.in_ok-body-in-Local.body.weight ≡ weight_in (xs ++ v ∷ []) n = c.in_ok-body-in-Local.ensures.counted.1 ∙ ap (λ l. weight_in (l ++ v ∷ []) n) kept in
    let k = let_counts xs c.in-Local.field-0 v m n h.0 h.1 in
    let hr = ap (height_in xs) c.in-Local.ensures.root in
    let wr = ap (weight_in xs) c.in-Local.ensures.root in
    counted_as _ _ _ _ c.around-in-Local.result (omega (arith, k.0, hr)) (omega (arith, k.1, wr)) c.around-in-Local.ensures
