use Rattle.std.proofs.Common.{◌≡◌, ◌∙◌, List, None, Some, position, nat_eq, sym, ap, option_map, slice_get, ℕ}
use Rattle.std.specs.Option.{option_copied}
use Rattle.lego_laws.specs.Entries.{entry_of}
use Rattle.lego_inference.specs.Entries.{laws_entry, laws_entries}
use Rattle.lego_inference.specs.declared.entry.Entry.{Entry as Item}
use Rattle.lego_inference.proofs.SignatureLemmas.{find_entry, find_none}
use Rattle.lego_inference.proofs.signature.Signature.find.Goals as goal

pub returns-in-None : goal.returns-in-None
returns-in-None c =
    let there = ap (λ (ks : List ℕ). position (nat_eq c.args.number) ks) (sym c.self.invariant.1) ∙ sym c.in-None.ensures.index in
    sym (find_none c.self.inside.entries.items c.args.number there) ∙ ap (λ (es : List Item). entry_of (laws_entries es) c.args.number) c.self.view_is

pub returns-in-Some : goal.returns-in-Some
returns-in-Some c =
    let there = ap (λ (ks : List ℕ). position (nat_eq c.args.number) ks) (sym c.self.invariant.1) ∙ sym c.in-Some.ensures.index in
    ap (option_map laws_entry) c.entry.ensures
    ∙ ap (λ (es : List Item). option_map laws_entry (slice_get es c.in-Some.at)) (sym c.self.view_is)
    ∙ find_entry c.self.inside.entries.items c.args.number c.in-Some.at there
    ∙ ap (λ (es : List Item). entry_of (laws_entries es) c.args.number) c.self.view_is
