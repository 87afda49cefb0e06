use Rattle.std.specs.Ordering.{nat_cmp}
use Rattle.std.specs.BTreeMap.{get}
use Rattle.lego_term.specs.BodyMap.{bodies_in}
use Rattle.lego_match.specs.Holes.{listed}
use Rattle.lego_match.proofs.VerdictLemmas.{answer_found, answer_agreed, answer_refused}
use Rattle.lego_match.proofs.matching.candidate.Goals as goal

pub returns-clause-found : goal.returns-clause-found
returns-clause-found c = answer_found (bodies_in c.args.ctx_bodies.now) (get nat_cmp c.in_ok-free.free) (listed c.args.free.now) c.in_ok-free.ensures c.args.depth c.args.limit c.args.a.now c.args.b.now c.matched.result c.matched.ensures

pub returns-clause-agreed : goal.returns-clause-agreed
returns-clause-agreed c = answer_agreed (bodies_in c.args.ctx_bodies.now) (get nat_cmp c.in_ok-free.free) (listed c.args.free.now) c.in_ok-free.ensures c.args.depth c.args.limit c.args.a.now c.args.b.now c.matched.result c.matched.ensures

pub returns-clause-refused : goal.returns-clause-refused
returns-clause-refused c = answer_refused (bodies_in c.args.ctx_bodies.now) (get nat_cmp c.in_ok-free.free) (listed c.args.free.now) c.in_ok-free.ensures c.args.depth c.args.limit c.args.a.now c.args.b.now c.matched.result c.matched.ensures
