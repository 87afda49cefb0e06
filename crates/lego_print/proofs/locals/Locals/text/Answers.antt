use Rattle.std.proofs.Common.{◌≡◌, ◌-◌, ◌<◌, length, Some, None, sym, ap, ◌∙◌, arith}
use Rattle.std.specs.Prelude.{slice_get}
use Rattle.std.proofs.lemmas.Option.{slice_get-get_or}
use Rattle.lego_print.specs.private.Numbered.{printed}
use Rattle.lego_print.proofs.LocalsLemmas.{local_at, text_at}
use Rattle.lego_print.proofs.locals.Locals.text.Goals as goal

pub returns-in-Some : goal.returns-in-Some
returns-in-Some c =
    let frames = c.self.inside.frames.items in
    let i = c.args.index in
    let within : i < length frames = omega (arith, c.if-index-len.false) in
    let there : slice_get frames (length frames - 1 - i) ≡ Some (Some c.in-Some.frame) =
    slice_get-get_or frames (length frames - 1 - i) c.index.result.now (omega arith) ∙ cc in
    c.as_slice.ensures.value
    ∙ sym (text_at (printed c.args.self.now) i (Some (Some c.in-Some.frame.text.items))
    (ap (λ ls. slice_get (printed ls) i) (sym c.self.view_is) ∙ local_at frames i (Some c.in-Some.frame) within there))

pub returns-in-None : goal.returns-in-None
returns-in-None c =
    let frames = c.self.inside.frames.items in
    let i = c.args.index in
    let within : i < length frames = omega (arith, c.if-index-len.false) in
    let there : slice_get frames (length frames - 1 - i) ≡ Some None =
    slice_get-get_or frames (length frames - 1 - i) c.index.result.now (omega arith) ∙ cc in
    sym (text_at (printed c.args.self.now) i (Some None)
    (ap (λ ls. slice_get (printed ls) i) (sym c.self.view_is) ∙ local_at frames i None within there))
