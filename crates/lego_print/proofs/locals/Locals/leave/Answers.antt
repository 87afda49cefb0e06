use Rattle.std.proofs.Common.{◌≡◌, Some, None, [], ◌∷◌, ◌++◌, ap, ◌∙◌, arith}
use Rattle.lego_print.specs.private.Numbered.{frame_texts}
use Rattle.lego_print.proofs.LocalsLemmas.{keys-pop, texts-none}
use Rattle.lego_print.proofs.locals.Locals.leave.Goals as goal

pub invariant_of-self : goal.invariant_of-self
invariant_of-self c =
    let items : c.self.inside.frames.items ≡ c.pop.new.self.items ++ Some c.in-Some-Some._frame ∷ [] = cc (c.in-Some-Some.ensures.items) in (
      keys-pop (λ t. t.items) c.self.inside.texts.keys c.pop-text.new.self.keys c.pop-text.result c.self.inside.frames.items c.pop.new.self.items c.in-Some-Some._frame
          c.self.invariant.0 items c.pop-text.ensures.keys c.pop-text.ensures.found,
      omega (arith, c.in-Some-Some.ensures.len, c.self.invariant.1),
    )

pub invariant_of-self-in-Some-None : goal.invariant_of-self-in-Some-None
invariant_of-self-in-Some-None c =
    let items : c.self.inside.frames.items ≡ c.pop.new.self.items ++ None ∷ [] = cc (c.in-Some-None.ensures.items) in (
      c.self.invariant.0 ∙ ap frame_texts items ∙ texts-none c.pop.new.self.items,
      omega (arith, c.in-Some-None.ensures.len, c.self.invariant.1),
    )
