use Rattle.std.proofs.Common.{◌≡◌, Some, [], ◌∷◌, ◌++◌, sym, ap, ◌∙◌, arith}
use Rattle.std.specs.List.{list_any}
use Rattle.lego_print.specs.Names.{is_printed_as}
use Rattle.lego_print.specs.private.Numbered.{frame_texts, printed}
use Rattle.lego_print.proofs.LocalsLemmas.{keys-push}
use Rattle.lego_print.proofs.locals.Locals.enter.Goals as goal

pub invariant_of-self-2 : goal.invariant_of-self-2
invariant_of-self-2 c =
    let items : c.push.new.self.items ≡ c.self.inside.frames.items ++ Some c.args.frame ∷ [] = cc (c.in-Ok-push.ensures.items, c.in_ok-reserve.ensures.items) in (
      keys-push (λ t. t.items) c.self.inside.texts.keys c.insert.new.self.keys c.in_ok-text.text c.self.inside.frames.items c.args.frame
          c.self.invariant.0 (c.in_ok-text.ensures.items ∙ c.as_slice.ensures.value) (ap (λ ls. list_any (is_printed_as c.args.frame.text.items) (printed ls)) c.self.view_is ∙ c.requires) c.in-Ok.ensures.keys
          ∙ ap frame_texts (sym items),
      omega (arith, c.in-Ok-push.ensures.len, c.in_ok-reserve.ensures.len, c.self.invariant.1),
    )
