use Rattle.std.proofs.Common.{◌≡◌, ◌+◌, ◌≤◌, length, take, sym, subst, arith}
use Rattle.std.proofs.lemmas.Result.{err_from_is_err_and}
use Rattle.lego_term.specs.Trees.{Core, loose}
use Rattle.lego_grammar.specs.Scopes.{put_values}
use Rattle.lego_reading.proofs.ValueLemmas.{value_over, put_goes, put_fails, next_bound}
use Rattle.lego_reading.proofs.values.with_values.Goals.{in-Some+in_ok-made-2, in_default}
use Rattle.lego_reading.proofs.values.with_values.Goals as goal

pub put-requires : goal.put-requires
put-requires c =
    let h = c.in-Some.ensures in
    let over = value_over c.args.scope.now c.loop-inside.inside h.0 c.in-Some.value.now c.requires.scope h.1 (sym h.2) in
    omega (arith, c.depth-depth.ensures.exact, c.depth-depth.ensures.limit, c.requires.room)

pub returns-in_err-made-2 : goal.returns-in_err-made-2
returns-in_err-made-2 c =
    let h = c.in-Some.ensures in
    let e = err_from_is_err_and c.from_residual-in_err-made-2.result c.from_residual-in_err-made-2.ensures.1 in
    rw (e.1, e.2) (put_fails c.args.scope.now c.loop-inside.inside h.0 c.in-Some.value.now c.args.t.now c.loop-inside.made c.in_err-made-2.field-0.0
    h.1 (sym h.2) c.loop-inside.invariant.0 c.in_err-made-2.ensures)

pub loop-inside-preserved : goal.loop-inside-preserved
loop-inside-preserved c =
    elim c.match-value.branch [
      | in-Some+in_ok-made-2 w ↦
          let h = w.in-Some.ensures in
          subst (λ (z : Core). (z ≡ put_values (take (c.loop-inside.inside + 1) c.args.scope.now) 0 c.args.t.now) × (loose z ≤ length c.args.scope.now)) (sym w.made-is)
          (put_goes c.args.scope.now c.loop-inside.inside h.0 w.in-Some.value.now c.args.t.now c.loop-inside.made w.in_ok-made-2.made
          c.requires.scope h.1 (sym h.2) c.loop-inside.invariant w.in_ok-made-2.ensures)
      | in_default w ↦
          let h = w.in_default.ensures in
          subst (λ (z : Core). (z ≡ put_values (take (c.loop-inside.inside + 1) c.args.scope.now) 0 c.args.t.now) × (loose z ≤ length c.args.scope.now)) (sym w.made-is)
          (next_bound c.args.scope.now c.loop-inside.inside h.0 c.args.t.now c.loop-inside.made h.1 (sym h.2) c.loop-inside.invariant.0, c.loop-inside.invariant.1)
    ]
