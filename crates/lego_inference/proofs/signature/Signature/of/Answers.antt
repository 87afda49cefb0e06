use Rattle.std.proofs.Common.{◌≡◌, ◌+◌, ◌<◌, ◌≤◌, ◌∙◌, List, take, length, sym, ap, subst, arith}
use Rattle.lego_term.specs.BodyMap.{BodyMap, bodies_in}
use Rattle.lego_laws.specs.Entries.{core_bodies}
use Rattle.lego_level.specs.Graphs.{Differ}
use Rattle.lego_inference.specs.declared.entry.Entry.{Entry as Item}
use Rattle.lego_inference.specs.Entries.{laws_entries, numbers_of}
use Rattle.lego_inference.proofs.SignatureLemmas.{no_bodies}
use Rattle.lego_inference.proofs.SignatureLists.{numbers_more, bodies_more, all_taken}
use Rattle.lego_inference.proofs.signature.Signature.of.Goals as goal

pub loop-entry-init : goal.loop-entry-init
loop-entry-init c = record {
  numbers = c.new-numbers.ensures.empty;
  bodies = ap (λ (b : BodyMap). bodies_in b) c.new-bodies.ensures ∙ no_bodies;
}

pub loop-entry-preserved : goal.loop-entry-preserved
loop-entry-preserved c =
    let es = c.deref-entry-items.result.now in
    let i = c.loop-entry.entry-index in
    let e = c.entry-item.result in
    let held = c.loop-entry.invariant in
    let differ = subst (λ (xs : List Item). Differ (numbers_of xs)) (sym c.deref-entry-items.ensures.value) c.requires.numbers in
    record {
      numbers = numbers_more es i e (omega arith) c.entry-item.is differ c.loop-entry.numbers.keys c.insert.new.self.keys held.numbers c.in-Ok.ensures.keys;
      bodies = bodies_more es i e (omega arith) c.entry-item.is differ c.loop-entry.bodies c.keep_body.new.bodies held.bodies c.in_ok-keep_body.ensures.ok;
    }

pub invariant_of-result : goal.invariant_of-result
invariant_of-result c =
    let same = c.deref-entry-items.ensures.value in
    let i = c.loop-entry.entry-index in
    let held = c.loop-entry.invariant in
    all_taken c.args.entries.items i c.loop-entry.numbers.keys c.loop-entry.bodies (omega (arith, ap (λ (xs : List Item). length xs) same)) c.requires.closed
    (held.numbers ∙ ap (λ (xs : List Item). numbers_of (take i xs)) same) (held.bodies ∙ ap (λ (xs : List Item). core_bodies (laws_entries (take i xs))) same)
