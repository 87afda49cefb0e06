use Rattle.std.proofs.Common.{◌≡◌, None, [], ◌∷◌, ◌++◌, sym, ap, ◌∙◌, arith}
use Rattle.lego_print.specs.private.Numbered.{frame_texts}
use Rattle.lego_print.proofs.LocalsLemmas.{texts-none}
use Rattle.lego_print.proofs.locals.Locals.enter_unnamed.Goals as goal

pub invariant_of-self-2 : goal.invariant_of-self-2
invariant_of-self-2 c =
    let items : c.push.new.self.items ≡ c.self.inside.frames.items ++ None ∷ [] = c.in_ok-push.ensures.items in (
      c.self.invariant.0 ∙ sym (texts-none c.self.inside.frames.items) ∙ ap frame_texts (sym items),
      omega (arith, c.in_ok-push.ensures.len, c.self.invariant.1),
    )
