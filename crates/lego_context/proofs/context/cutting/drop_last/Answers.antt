use Rattle.std.proofs.Common.{◌≡◌, ℕ, ◌-◌, ◌<◌, ◌∙◌, take, length, Option, Some, None, IfSome, refl, ap, ap₂, sym, subst, arith}
use Rattle.lego_context.specs.private.Kept.{IsKept}
use Rattle.lego_context.proofs.CutLemmas.{named_last, fewer_constraints, kept-pop, taken_last}
use Rattle.lego_context.proofs.context.cutting.drop_last.Goals as goal

pub drop_name-requires : goal.drop_name-requires
drop_name-requires c = by_name c.in-Some.entry.name refl
  where
    by_name : (o : Option ℕ) → c.in-Some.entry.name ≡ o → IfSome o (λ _. 0 < length c.args.names.now.entries)
    by_name None is = tt
    by_name (Some name) is = named_last 0 c.args.signature.now c.pop.new.self c.in-Some.entry c.args.names.now.entries name c.in-Some.ensures.entries c.requires.kept.names is

pub overflow_sub-held : goal.overflow_sub-held
overflow_sub-held c =
    let fewer = fewer_constraints c.args.signature.now c.pop.new.self c.in-Some.entry c.args.graph.now c.in-Some.ensures.entries c.requires.kept.graph in
    let held : c.len.result ≡ length c.args.graph.now = c.len.ensures in
    let own : c.items.result.now ≡ c.in-Some.entry.constraints = c.items.ensures in
    let long : length c.items.result.now ≡ length c.in-Some.entry.constraints = ap (λ cs. length cs) own in
    omega (arith, fewer, held, long)

pub returns-clause-entries : goal.returns-clause-entries
returns-clause-entries c = taken_last c.args.signature.now c.pop.new.self c.in-Some.entry c.in-Some.ensures.entries

pub returns-clause-kept : goal.returns-clause-kept
returns-clause-kept c =
    let held : c.len.result ≡ length c.args.graph.now = c.len.ensures in
    let own : c.items.result.now ≡ c.in-Some.entry.constraints = c.items.ensures in
    let cut = c.cut_to.ensures ∙ ap₂ (λ a b. take (a - b) c.args.graph.now) held (ap (λ cs. length cs) own) in
    subst (λ n. IsKept c.pop.new.self c.drop_name.new.names.entries c.cut_to.new.self n) (sym c.min.ensures)
    (kept-pop c.args.signature.now c.pop.new.self c.in-Some.entry c.args.names.now.entries c.drop_name.new.names.entries c.args.graph.now c.cut_to.new.self c.args.free
    c.in-Some.ensures.entries c.requires.kept c.in-Some.ensures.number c.drop_name.ensures cut)
