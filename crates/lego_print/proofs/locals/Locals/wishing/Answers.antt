use Rattle.std.proofs.Common.{◌≡◌, ◌<◌, length, Some, ◌∙◌, subst, arith}
use Rattle.std.specs.Prelude.{slice_get}
use Rattle.std.proofs.lemmas.Option.{slice_get-get_or}
use Rattle.lego_print.specs.private.Numbered.{numbered_frame}
use Rattle.lego_print.specs.private.Counted.{IsAmong}
use Rattle.lego_print.proofs.LocalsLemmas.{frame_among, same_wish}
use Rattle.lego_print.proofs.locals.Locals.wishing.Goals as goal

pub returns-in-Some : goal.returns-in-Some
returns-in-Some c =
    let frames = c.self.inside.frames.items in
    let within : c.args.place < length frames = omega (arith, c.if-place-len.false) in
    let there : slice_get frames c.args.place ≡ Some (Some c.in-Some.frame) =
    slice_get-get_or frames c.args.place c.index.result.now within ∙ cc in
    (subst (λ ls. IsAmong ls (numbered_frame c.in-Some.frame)) c.self.view_is (frame_among frames c.args.place c.in-Some.frame within there), same_wish c.in-Some.frame.wished c.args.wished c.if-eq.ensures)
