use Rattle.std.proofs.Common.{◌≡◌, ◌+◌, ◌∙◌, suc, ap, arith}
use Rattle.lego_term.specs.Trees.{lift}
use Rattle.lego_inference.specs.declared.locals.Local.{Local}
use Rattle.lego_inference.specs.Locals.{types_of}
use Rattle.lego_inference.proofs.LocalLemmas.{local_scoped, length-map}
use Rattle.lego_rule_types.proofs.ScopeLemmas.{local_at}
use Rattle.lego_rule_types.proofs.scope.variable.Goals as goal

pub lift-requires : goal.lift-requires
lift-requires c =
    let at = local_at (λ (l : Local). l.ty) c.args.locals.now c.args.index c.len.result (record { binder = c.get.result.0; ty = c.get.result.1.now }) c.len.ensures.exact c.requires.within c.get.ensures in
    let le = local_scoped (types_of c.args.locals.now) c.args.index c.get.result.1.now c.requires.scoped at in
    let same = length-map (λ (l : Local). l.ty) c.args.locals.now in
    let few = c.len.ensures.limit in
    let exact = c.len.ensures.exact in
    omega arith

pub returns-in-Ok-clause-ok : goal.returns-in-Ok-clause-ok
returns-in-Ok-clause-ok c =
    let next : c.args.index + 1 ≡ suc c.args.index = omega arith in (
      c.get.result.1.now,
      local_at (λ (l : Local). l.ty) c.args.locals.now c.args.index c.len.result (record { binder = c.get.result.0; ty = c.get.result.1.now }) c.len.ensures.exact c.requires.within c.get.ensures,
      c.in-Ok.ensures.ok ∙ ap (λ n. lift 0 n c.get.result.1.now) next,
    )
