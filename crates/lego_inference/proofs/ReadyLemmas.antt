-- The parts of a term that can be checked can be checked, and are less high.
use Rattle.std.proofs.Common.{ℕ, suc, ◌+◌, ◌≤◌, ◌<◌, List, ◌∷◌, length, IsSome, arith}
use Rattle.lego_term.specs.declared.binder.Binder.{Binder}
use Rattle.lego_term.specs.Trees.{Core, loose}
use Rattle.lego_term.specs.Weight.{height}
use Rattle.lego_term.proofs.LooseLemmas.{loose-instantiate}
use Rattle.lego_term.specs.Sequences.{HeadForm}
use Rattle.lego_laws.specs.Entries.{Entry, entry_of, core_bodies}
use Rattle.lego_laws.specs.RuleTypes.{nodes}
use Rattle.lego_laws.specs.Places.{Want, Site, RuleTypeAt, Part}
use Rattle.lego_laws.specs.Ranges.{levels_bound}
use Rattle.lego_laws.proofs.lemmas.principal.Scoped.{rule_types_are_scoped, scoped_head}
use Rattle.lego_laws.proofs.lemmas.principal.SolvedCores.{heights, positive}
use Rattle.lego_laws.proofs.lemmas.inference.LevelsWithin.{levels-instantiate}
use Rattle.lego_inference.specs.Locals.{NamesEntries}
use Rattle.lego_inference.specs.private.Judging.{IsReady}
use Rattle.lego_inference.proofs.PartLemmas.{parts-instantiate}

-- the site from another node on, and the same under a binder
abbrev pub from_node : Site → ℕ → Site
from_node s first = record { types = s.types; binders = s.binders; first = first }

abbrev pub under_from : Binder → Core → Site → ℕ → Site
under_from x a s first = record { types = a ∷ s.types; binders = x ∷ s.binders; first = first }

-- a term that is less high, whose leaves are among those of one that is ready, is ready at a later node
smaller : {es : List Entry} {s : Site} {m m' : Core} (first : ℕ) → s.first ≤ first → IsReady es s m → height m' < height m → NamesEntries es m' → loose m' ≤ loose m → levels_bound m' ≤ levels_bound m → IsReady es (from_node s first) m'
smaller {s = s} first le r h names l b =
    let few = r.few in
    let variables = r.over.variables in
    let within = r.over.levels_within in
    record { closed = r.closed; scoped = r.scoped; few = omega arith; over = record { names = names; variables = omega arith; levels_within = omega arith } }

-- the same under a binder, whose domain is over the locals
smaller_under : {es : List Entry} {s : Site} {m a m' : Core} {x : Binder} (first : ℕ) → s.first ≤ first → IsReady es s m → height m' < height m → NamesEntries es m' → loose a ≤ loose m → loose m' ≤ suc (loose m) → levels_bound m' ≤ levels_bound m → IsReady es (under_from x a s first) m'
smaller_under {s = s} first le r h names la l b =
    let few = r.few in
    let variables = r.over.variables in
    let within = r.over.levels_within in
    record { closed = r.closed; scoped = (omega arith, r.scoped); few = omega arith; over = record { names = names; variables = omega arith; levels_within = omega arith } }

-- each part of a term that is ready is ready where it stands
pub ready_part : {es : List Entry} {s s' : Site} {m m' : Core} {w w' : Want} {i : ℕ} → IsReady es s m → Part es s m w i s' m' w' → IsReady es s' m'
ready_part {s = s} r (Part.pi_domain {x = x} {a = a} {b = b}) = smaller (s.first + 1) (omega arith) r (omega (arith, heights.pi x a b)) r.over.names.1 (omega arith) (omega arith)
ready_part {s = s} r (Part.pi_body {x = x} {a = a} {b = b}) = smaller_under (s.first + 1 + nodes a) (omega arith) r (omega (arith, heights.pi x a b)) r.over.names.2 (omega arith) (omega arith) (omega arith)
ready_part {s = s} r (Part.lam_domain {x = x} {a = a} {m = b}) = smaller s.first (omega arith) r (omega (arith, heights.lam x a b)) r.over.names.1 (omega arith) (omega arith)
ready_part {s = s} r (Part.lam_body {x = x} {a = a} {m = b}) = smaller_under (s.first + nodes a) (omega arith) r (omega (arith, heights.lam x a b)) r.over.names.2 (omega arith) (omega arith) (omega arith)
ready_part {s = s} r (Part.function {k = k} {m = m} {n = n}) = smaller s.first (omega arith) r (omega (arith, heights.app k m n)) r.over.names.0 (omega arith) (omega arith)
ready_part {s = s} r (Part.argument {k = k} {m = m} {n = n} t h) = smaller (s.first + nodes m) (omega arith) r (omega (arith, heights.app k m n)) r.over.names.1 (omega arith) (omega arith)
ready_part {s = s} r (Part.sigma_domain {x = x} {a = a} {b = b}) = smaller (s.first + 1) (omega arith) r (omega (arith, heights.sigma x a b)) r.over.names.1 (omega arith) (omega arith)
ready_part {s = s} r (Part.sigma_body {x = x} {a = a} {b = b}) = smaller_under (s.first + 1 + nodes a) (omega arith) r (omega (arith, heights.sigma x a b)) r.over.names.2 (omega arith) (omega arith) (omega arith)
ready_part {s = s} r (Part.pair_domain {x = x} {a = a} {b = b} {m = m} {n = n}) = smaller s.first (omega arith) r (omega (arith, heights.pair x a b m n)) r.over.names.1 (omega arith) (omega arith)
ready_part {s = s} r (Part.pair_body {x = x} {a = a} {b = b} {m = m} {n = n}) = smaller_under (s.first + nodes a) (omega arith) r (omega (arith, heights.pair x a b m n)) r.over.names.2 (omega arith) (omega arith) (omega arith)
ready_part {s = s} r (Part.pair_first {x = x} {a = a} {b = b} {m = m} {n = n}) = smaller (s.first + (nodes a + nodes b)) (omega arith) r (omega (arith, heights.pair x a b m n)) r.over.names.3 (omega arith) (omega arith)
ready_part {s = s} r (Part.pair_second {x = x} {a = a} {b = b} {m = m} {n = n}) = smaller (s.first + (nodes a + nodes b + nodes m)) (omega arith) r (omega (arith, heights.pair x a b m n)) r.over.names.4 (omega arith) (omega arith)
ready_part {s = s} r (Part.fst_operand {m = m}) = smaller s.first (omega arith) r (omega (arith, heights.fst m)) r.over.names (omega arith) (omega arith)
ready_part {s = s} r (Part.snd_operand {m = m}) = smaller s.first (omega arith) r (omega (arith, heights.snd m)) r.over.names (omega arith) (omega arith)
ready_part {s = s} r (Part.local_value {x = x} {m = m} {n = n}) = smaller s.first (omega arith) r (omega (arith, heights.local x m n)) r.over.names.1 (omega arith) (omega arith)
ready_part {es} {s} r (Part.local_body {x = x} {m = m} {n = n}) =
    smaller (s.first + nodes m) (omega arith) r (omega (arith, heights.local x m n))
    (parts-instantiate (λ kind x. Unit {0}) (λ k. IsSome (entry_of es k)) (λ l. l.plus ≤ 1000000) n m r.over.names.2 r.over.names.1) (omega (arith, loose-instantiate n m)) (omega (arith, levels-instantiate n m))

-- the loose variables of a rule type are locals
pub loose_of : {es : List Entry} {s : Site} {m a : Core} → IsReady es s m → RuleTypeAt es s m a → loose a ≤ length s.types
loose_of {es} {s} {m} {a} r t = rule_types_are_scoped es r.closed.types r.closed.bodies (λ i. i) s.types r.scoped s.first m a r.over.variables t

-- the same of its head form
pub loose_head : {es : List Entry} {s : Site} {m a h : Core} → IsReady es s m → RuleTypeAt es s m a → HeadForm (core_bodies es) a h → loose h ≤ length s.types
loose_head {es} r t p = let l = loose_of r t in let k = scoped_head (core_bodies es) r.closed.bodies p in omega arith

-- there are few locals
pub few_locals : {es : List Entry} {s : Site} {m : Core} → IsReady es s m → length s.types ≤ 63536
few_locals r = let f = r.few in omega arith

-- also one binder further
pub few_under : {es : List Entry} {s s' : Site} {m m' : Core} {w w' : Want} {i : ℕ} → IsReady es s m → Part es s m w i s' m' w' → length s'.types ≤ 63535
few_under {m' = m'} r p = let q = ready_part r p in let f = q.few in let o = positive m' in omega arith
