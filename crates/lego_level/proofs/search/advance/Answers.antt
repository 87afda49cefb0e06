use Rattle.std.proofs.Common.{refl, sym, ap, ◌∙◌, subst, arith}
use Rattle.std.specs.Option.{MatchOption}
use Rattle.lego_level.specs.declared.draft.Reached.{Reached}
use Rattle.lego_level.specs.declared.search.Search.{Search}
use Rattle.lego_level.specs.private.Potentials.{value_at}
use Rattle.lego_level.specs.private.Searches.{reached_or, Searches, Stops}
use Rattle.lego_level.proofs.SearchLemmas.{marks}
use Rattle.lego_level.proofs.StepLemmas.{skips}
use Rattle.lego_level.proofs.CountLemmas.{reached_below, falls_skip, falls_visit}
use Rattle.lego_level.proofs.search.advance.Goals as goal

pub returns-then-from : goal.returns-then-from
returns-then-from c =
    let s = c.args.search.now in let n : Search = record { draft = s.draft; queue = c.pop.new.self; work = s.work } in (
      skips c.args.task (value_at c.args.potential.now) c.args.edges.now s n c.in-Some._gain c.in-Some.node c.requires.searches refl (ap (λ (r : Reached). r.done) (sym c.get-from.ensures) ∙ c.if-from.true) c.in-Some.ensures.keeps c.in-Some.ensures.only,
      falls_skip c.args.task c.args.edges.now s n refl c.in-Some.ensures.len,
    )

pub scan-requires-clause-scans : goal.scan-requires-clause-scans
scan-requires-clause-scans c =
    let s = c.args.search.now in let n : Search = record { draft = c.put.new.self; queue = c.pop.new.self; work = s.work } in
    marks c.args.task (value_at c.args.potential.now) c.args.edges.now s n c.in-Some._gain c.in-Some.node c.get-from.result c.requires.searches c.in-Some.ensures.was (sym c.get-from.ensures) c.if-from.false
    c.in_ok-put.ensures.at c.in_ok-put.ensures.other c.in_ok-put.ensures.touched c.in-Some.ensures.keeps c.in-Some.ensures.only c.in-Some.ensures.greatest

pub returns-in-None : goal.returns-in-None
returns-in-None c =
    let t = c.args.task in let v = value_at c.args.potential.now in let cs = c.args.edges.now in
    let s = c.args.search.now in let m : Search = record { draft = c.put.new.self; queue = c.pop.new.self; work = s.work } in let n = c.scan.new.search in
    let queued = c.requires.searches.grown.queue c.in-Some._gain c.in-Some.node c.in-Some.ensures.was in let p = queued.positive in let w = queued.within in
    let len = c.in_ok-stopped.ensures.waiting in let popped = c.in-Some.ensures.len in (
      subst (λ o. MatchOption o (Searches t v cs n) (Stops t v cs n)) c.in-None.is c.in_ok-stopped.ensures.scanned,
      falls_visit t cs s m n c.in-Some.node (reached_below t v cs s c.in-Some.node c.requires.searches (omega (arith, p, w)))
          (ap (λ (r : Reached). r.done) (sym c.get-from.ensures) ∙ c.if-from.false)
          (ap (λ o. (reached_or o).done) c.in_ok-put.ensures.at)
          (λ u ne. ap (λ o. (reached_or o).done) (c.in_ok-put.ensures.other u ne))
          c.in_ok-stopped.ensures.done len popped,
    )
