use Rattle.std.proofs.Common.{◌≡◌, ◌+◌, ◌-◌, ℕ, List, length, get_or, Some, Ok, Err, subst, arith}
use Rattle.std.proofs.lemmas.Result.{err_from_is_err_and}
use Rattle.lego_term.specs.Trees.{Core}
use Rattle.lego_grammar.specs.Reading.{binder, bind_core}
use Rattle.lego_reading.specs.private.Parts.{IsMade}
use Rattle.lego_reading.proofs.BinderLemmas.{climb_front, close_turn, close_end}
use Rattle.lego_reading.proofs.reading.enclosed.Goals as goal

pub returns-in_err-closed : goal.returns-in_err-closed
returns-in_err-closed c = λ es types limit outer s t h r.
    let names : List ℕ = c.args.head.now.names.now in
    let kind = c.args.head.now.kind in
    let mark = c.args.head.now.mark in
    let at : ℕ = length names - 1 - c.loop-inside.inside in
    let d : Core = c.index-domains-at.result in
    let made : IsMade (bind_core kind (binder (Some (get_or names at 0)) mark) (get_or c.args.domains.now at d) c.loop-inside.closed) (Err c.in_err-closed.field-0.0) =
    subst (λ (z : Core). IsMade (bind_core kind (binder (Some (get_or names at 0)) mark) z c.loop-inside.closed) (Err c.in_err-closed.field-0.0)) c.index-domains-at.is c.in_err-closed.ensures in
    let e = err_from_is_err_and c.from_residual.result c.from_residual.ensures.1 in
    rw (e.1, e.2) (climb_front limit kind mark t at c.in_err-closed.field-0.0 c.requires.names h
    (close_turn limit kind mark t (length names - c.loop-inside.inside) at 0 d (Err c.in_err-closed.field-0.0) (omega arith) (omega arith) h
    (c.loop-inside.invariant es types outer s t h r) made))

pub loop-inside-preserved : goal.loop-inside-preserved
loop-inside-preserved c = λ es types outer s t h r.
    let names : List ℕ = c.args.head.now.names.now in
    let kind = c.args.head.now.kind in
    let mark = c.args.head.now.mark in
    let at : ℕ = length names - 1 - c.loop-inside.inside in
    let left : ℕ = length names - (c.loop-inside.inside + 1) in
    let same : at ≡ left = omega arith in
    let d : Core = c.index-domains-at.result in
    let made : IsMade (bind_core kind (binder (Some (get_or names at 0)) mark) (get_or c.args.domains.now at d) c.loop-inside.closed) (Ok c.in_ok-closed.closed) =
    subst (λ (z : Core). IsMade (bind_core kind (binder (Some (get_or names at 0)) mark) z c.loop-inside.closed) (Ok c.in_ok-closed.closed)) c.index-domains-at.is c.in_ok-closed.ensures in
    close_turn 0 kind mark t (length names - c.loop-inside.inside) left 0 d (Ok c.in_ok-closed.closed) (omega arith) (omega arith) h
    (c.loop-inside.invariant es types outer s t h r)
    (subst (λ n. IsMade (bind_core kind (binder (Some (get_or names n 0)) mark) (get_or c.args.domains.now n d) c.loop-inside.closed) (Ok c.in_ok-closed.closed)) same made)

pub returns : goal.returns
returns c = λ es types limit outer s t h r.
    let names : List ℕ = c.args.head.now.names.now in
    close_end limit c.args.head.now.kind c.args.head.now.mark t outer names (length names - c.loop-inside.inside) c.loop-inside.closed (omega arith)
    c.requires.names (c.loop-inside.invariant es types outer s t h r)
