use Rattle.lego_inference.specs.Locals.{binders_of}
use Rattle.lego_inference.specs.private.Wanting.{Wrongs}
use Rattle.lego_inference.proofs.HeadLemmas.{wrong_type, wrong_function, wrong_pair}
use Rattle.lego_inference.proofs.head.wrong.Goals as goal

pub returns-in_default : goal.returns-in_default
returns-in_default c = Wrongs.memory

pub returns-in-Sort : goal.returns-in-Sort
returns-in-Sort c = wrong_type (binders_of c.args.locals.now) c.args.term.now c.args.ty.now c.in-Ok-Ok.term c.in-Ok-Ok.got c.in-Ok-Ok.ensures c.in-Ok-Ok.ensures' c.args.wanted c.in-Sort.is

pub returns-in-Function : goal.returns-in-Function
returns-in-Function c = wrong_function (binders_of c.args.locals.now) c.args.term.now c.args.ty.now c.in-Ok-Ok.term c.in-Ok-Ok.got c.in-Ok-Ok.ensures c.in-Ok-Ok.ensures' c.args.wanted c.in-Function.is

pub returns-in-Pair : goal.returns-in-Pair
returns-in-Pair c = wrong_pair (binders_of c.args.locals.now) c.args.term.now c.args.ty.now c.in-Ok-Ok.term c.in-Ok-Ok.got c.in-Ok-Ok.ensures c.in-Ok-Ok.ensures' c.args.wanted c.in-Pair.is
