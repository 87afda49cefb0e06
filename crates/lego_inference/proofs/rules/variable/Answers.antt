use Rattle.std.proofs.Common.{arith, ◌≡◌, slice_get, Some, sym, ap, map}
use Rattle.lego_inference.specs.Locals.{types_of}
use Rattle.lego_inference.proofs.LocalLemmas.{local_scoped, length-map}
use Rattle.lego_inference.specs.declared.locals.Local.{Local}
use Rattle.lego_inference.proofs.rules.variable.Goals as goal

pub lift-requires : goal.lift-requires
lift-requires c =
    let at : slice_get (types_of c.args.locals.now) c.args.index ≡ Some c.in-Some.ty.now = sym c.in-Some.ensures in
    let le = local_scoped (types_of c.args.locals.now) c.args.index c.in-Some.ty.now c.requires.scoped at in
    let same = length-map (λ (l : Local). l.ty) c.args.locals.now in
    let few = c.len-count.ensures.limit in
    let exact = c.len-count.ensures.exact in
    omega arith
