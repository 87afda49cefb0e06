use Rattle.std.proofs.Common.{List, sym, subst}
use Rattle.std.proofs.lemmas.Result.{err_from_is_err_and}
use Rattle.lego_laws.specs.Places.{AnyType}
use Rattle.lego_level.specs.declared.constraint.Constraint.{Constraint}
use Rattle.lego_inference.specs.declared.locals.Local.{Local}
use Rattle.lego_inference.specs.Calls.{task_over}
use Rattle.lego_inference.specs.Failures.{TypeFails}
use Rattle.lego_context.specs.Calls.{IsInferred}
use Rattle.lego_context.specs.Causes.{together, TypingFails}
use Rattle.lego_context.specs.Contexts.{IsContext}
use Rattle.lego_context.specs.Settling.{CanBeSettled, IsSettled, IsUnsettled}
use Rattle.lego_context.proofs.TypedLemmas.{can_be_inferred, can_be_settled, term_fails}
use Rattle.lego_context.proofs.context.Context.typed.Goals as goal

pub infer-requires : goal.infer-requires
infer-requires c = can_be_inferred c.args.self.now c.new-locals.result c.args.m.now (subst IsContext c.self.view_is c.self.invariant.0) c.new-locals.ensures c.requires

pub settle-requires : goal.settle-requires
settle-requires c =
    let x = subst IsContext c.self.view_is c.self.invariant.0 in
    let judged = c.in_ok-judged.judged in
    let j = subst (λ (l : List Local). IsInferred c.args.self.now l c.args.m.now c.args.asked.place judged) c.new-locals.ensures c.in_ok-judged.ensures in
    subst (λ (k : List Constraint). CanBeSettled c.args.self.now k judged.levels) (sym c.items.ensures) (can_be_settled c.args.self.now x c.args.m.now c.args.asked judged j)

pub returns-in_err-judged : goal.returns-in_err-judged
returns-in_err-judged c =
    let e = err_from_is_err_and c.from_residual.result c.from_residual.ensures.1 in
    let fault = c.in_err-judged.field-0.0 in
    let f = subst (λ (l : List Local). TypeFails c.args.asked.limit (task_over c.args.self.now.entries l c.args.self.now.levels c.args.m.now AnyType) fault) c.new-locals.ensures c.in_err-judged.ensures in
    rw (e.1, e.2) (TypingFails.check f)

pub returns-in_err-values : goal.returns-in_err-values
returns-in_err-values c =
    let e = err_from_is_err_and c.from_residual-in_err-values.result c.from_residual-in_err-values.ensures.1 in
    let x = subst IsContext c.self.view_is c.self.invariant.0 in
    let fault = c.in_err-values.field-0.0 in
    let judged = c.in_ok-judged.judged in
    let j = subst (λ (l : List Local). IsInferred c.args.self.now l c.args.m.now c.args.asked.place judged) c.new-locals.ensures c.in_ok-judged.ensures in
    let h = subst (λ (k : List Constraint). IsUnsettled (together c.args.self.now.entries k) fault) c.items.ensures c.in_err-values.ensures.refused in
    rw (e.1, e.2) (term_fails c.args.self.now x c.args.m.now c.args.asked judged j fault h)

pub returns : goal.returns
returns c =
    let judged = c.in_ok-judged.judged in
    record {
      inferred = subst (λ (l : List Local). IsInferred c.args.self.now l c.args.m.now c.args.asked.place judged) c.new-locals.ensures c.in_ok-judged.ensures;
      settled = subst (λ (k : List Constraint). IsSettled c.args.self.now k judged.levels c.in_ok-values.values.items) c.items.ensures c.in_ok-values.ensures.settled;
    }
