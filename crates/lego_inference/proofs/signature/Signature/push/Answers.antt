use Rattle.std.proofs.Common.{◌≡◌, ◌∙◌, ◌∷◌, ◌++◌, [], List, ℕ, sym, ap, subst}
use Rattle.std.specs.Prelude.{Contains}
use Rattle.lego_inference.specs.Entries.{numbers_of}
use Rattle.lego_inference.specs.declared.entry.Entry.{Entry as Item}
use Rattle.lego_inference.proofs.SignatureLemmas.{push_signature}
use Rattle.lego_inference.proofs.signature.Signature.push.Goals as goal

pub invariant_of-self-2 : goal.invariant_of-self-2
invariant_of-self-2 c =
    let es = c.self.inside.entries.items in
    push_signature es c.args.entry (subst (λ (z : List Item). Contains (numbers_of z) c.args.entry.number → ⊥) (sym c.self.view_is) c.requires.new)
    c.push.new.self.items c.self.inside.numbers.keys c.insert.new.self.keys c.self.inside.bodies c.keep_body.new.bodies
    (c.in-Ok-push.ensures.items ∙ ap (λ (z : List Item). z ++ c.args.entry ∷ []) c.in_ok-reserve.ensures.items)
    c.self.invariant c.requires.closed_type c.requires.closed_body c.in-Ok.ensures.keys c.in-Ok-keep_body.ensures.ok
