-- The parts from which a rule type is read can be looked at, and are less high.
use Rattle.std.proofs.Common.{◌≡◌, ℕ, zero, suc, ◌+◌, ◌≤◌, ◌<◌, List, Ok, refl, arith}
use Rattle.lego_term.specs.declared.binder.Binder.{Binder}
use Rattle.lego_term.specs.declared.binder.Mark.{Mark}
use Rattle.lego_term.specs.declared.binder.Mark.TheVariants.{Plain}
use Rattle.lego_term.specs.declared.level.Level.{Level}
use Rattle.lego_term.specs.declared.weight.Extent.{Extent}
use Rattle.lego_term.specs.Levels.{variable_level}
use Rattle.lego_term.specs.Trees.{Core, Var, Const, Prop, Univ, Pi, Lam, App, Sigma, Pair, Fst, Snd, Let, instantiate, size, depth, loose}
use Rattle.lego_term.specs.Weight.{bound, count, heights as by_height, weights as by_weight, CountsBy, height, weight, IsMeasured}
use Rattle.lego_term.specs.Made.{Fits}
use Rattle.lego_term.proofs.WeightLemmas.{locals_count_instances}
use Rattle.lego_laws.specs.Entries.{Entry}
use Rattle.lego_laws.specs.RuleTypes.{nodes}
use Rattle.lego_laws.specs.Places.{Nothing, AType, Site, behind, under, Part, RuleTypeAt}
use Rattle.lego_laws.proofs.lemmas.principal.Nodes.{nodes_are_counted}
use Rattle.lego_laws.proofs.lemmas.principal.SolvedCores.{heights}
use Rattle.lego_inference.specs.declared.entry.Entry.{Entry as Item}
use Rattle.lego_inference.specs.declared.fault.TypeFault.{TypeFault}
use Rattle.lego_inference.specs.declared.fault.TypeFault.TheVariants.{Memory}
use Rattle.lego_inference.specs.declared.locals.Local.{Local}
use Rattle.lego_inference.specs.Calls.{AreHeld, IsTermOver}
use Rattle.lego_inference.specs.Entries.{laws_entries, AreClosedEntries}
use Rattle.lego_inference.specs.Locals.{site_of}
use Rattle.lego_inference.specs.private.Judging.{IsReady, MakingFails}
use Rattle.lego_inference.proofs.CallLemmas.{ready_whole}
use Rattle.lego_inference.proofs.ReadyLemmas.{ready_part, loose_of}
use Rattle.lego_inference.proofs.SizeLemmas.{too_large_differs}
use Rattle.lego_rule_types.specs.private.Finding.{IsPlaced}

-- weights by parts
pub weights : CountsBy (record { leaf = 1; universe = 1; product = 1; node = 1; join = λ m n. m + n }) (weight {B = Binder} {M = Mark} {L = Level})
weights = locals_count_instances (record { leaf = 1; universe = 1; product = 1; node = 1; join = λ m n. m + n })

-- nodes by parts
pub nodes_pi : (x : Binder) (a b : Core) → nodes (Pi x a b) ≡ suc (nodes a + nodes b)
nodes_pi x a b = (nodes_are_counted x Plain 0 (variable_level 0) a b a a).4

pub nodes_lam : (x : Binder) (a m : Core) → nodes (Lam x a m) ≡ nodes a + nodes m
nodes_lam x a m = (nodes_are_counted x Plain 0 (variable_level 0) a a m m).5

pub nodes_let : (x : Binder) (m b : Core) → nodes (Let x m b) ≡ nodes m + nodes (instantiate b m)
nodes_let x m b = (nodes_are_counted x Plain 0 (variable_level 0) m m m b).11

placed_part : {es : List Entry} {s s' : Site} {m m' : Core} → IsPlaced es s m → IsReady es s' m' → height m' < height m → weight m' < weight m → s'.first + nodes m' ≤ s.first + nodes m → IsPlaced es s' m'
placed_part p ready lower lighter within =
    let high = p.high in
    let heavy = p.heavy in
    let room = p.room in
    record { ready = ready; high = omega arith; heavy = omega arith; room = omega arith }

pub placed_product_body : {es : List Entry} {s : Site} {x : Binder} {a b : Core} → IsPlaced es s (Pi x a b) → IsPlaced es (under x a (behind 1 s)) b
placed_product_body {x = x} {a = a} {b = b} p =
    placed_part p (ready_part p.ready (Part.pi_body {w = AType})) (omega (arith, heights.pi x a b)) (omega (arith, weights.pi x a b)) (omega (arith, nodes_pi x a b))

pub placed_function_body : {es : List Entry} {s : Site} {x : Binder} {a b : Core} → IsPlaced es s (Lam x a b) → IsPlaced es (under x a s) b
placed_function_body {x = x} {a = a} {b = b} p =
    placed_part p (ready_part p.ready (Part.lam_body {w = Nothing})) (omega (arith, heights.lam x a b)) (omega (arith, weights.lam x a b)) (omega (arith, nodes_lam x a b))

pub placed_local_body : {es : List Entry} {s : Site} {x : Binder} {m b : Core} → IsPlaced es s (Let x m b) → IsPlaced es (behind (nodes m) s) (instantiate b m)
placed_local_body {x = x} {m = m} {b = b} p =
    placed_part p (ready_part p.ready (Part.local_body {w = Nothing})) (omega (arith, heights.local x m b)) (omega (arith, weights.local x m b)) (omega (arith, nodes_let x m b))

-- the loose variables of a term and of its rule type are few
pub few_loose_type : {es : List Entry} {s : Site} {m a : Core} → IsPlaced es s m → RuleTypeAt es s m a → loose a ≤ 65536
few_loose_type p r = let f = p.ready.few in let l = loose_of p.ready r in omega arith

-- a term is not larger than it weighs, and not deeper than it is high
abbrev IsPositive : (ℕ → ℕ) → Type 0
IsPositive scope = (i : ℕ) → 1 ≤ scope i

bound_positive : (n : ℕ) (scope : ℕ → ℕ) → 1 ≤ n → IsPositive scope → IsPositive (bound n scope)
bound_positive n scope p q zero = p
bound_positive n scope p q (suc i) = q i

size_weighs : (scope : ℕ → ℕ) → IsPositive scope → (t : Core) → (1 ≤ size t) × (size t ≤ count by_weight scope t)
size_weighs scope p (Var i) = (omega arith, p i)
size_weighs scope p (Const k) = (omega arith, omega arith)
size_weighs scope p Prop = (omega arith, omega arith)
size_weighs scope p (Univ l) = (omega arith, omega arith)
size_weighs scope p (Pi x a b) =
    let i = size_weighs scope p a in let j = size_weighs (bound 1 scope) (bound_positive 1 scope (omega arith) p) b in (omega arith, omega (arith, i.1, j.1))
size_weighs scope p (Lam x a b) =
    let i = size_weighs scope p a in let j = size_weighs (bound 1 scope) (bound_positive 1 scope (omega arith) p) b in (omega arith, omega (arith, i.1, j.1))
size_weighs scope p (Sigma x a b) =
    let i = size_weighs scope p a in let j = size_weighs (bound 1 scope) (bound_positive 1 scope (omega arith) p) b in (omega arith, omega (arith, i.1, j.1))
size_weighs scope p (App k m n) = let i = size_weighs scope p m in let j = size_weighs scope p n in (omega arith, omega (arith, i.1, j.1))
size_weighs scope p (Pair x a b m n) =
    let i = size_weighs scope p a in
    let j = size_weighs (bound 1 scope) (bound_positive 1 scope (omega arith) p) b in
    let k = size_weighs scope p m in
    let l = size_weighs scope p n in
    (omega arith, omega (arith, i.1, j.1, k.1, l.1))
size_weighs scope p (Fst m) = let i = size_weighs scope p m in (omega arith, omega (arith, i.1))
size_weighs scope p (Snd m) = let i = size_weighs scope p m in (omega arith, omega (arith, i.1))
size_weighs scope p (Let x m n) =
    let i = size_weighs scope p m in
    let j = size_weighs (bound (count by_weight scope m) scope) (bound_positive (count by_weight scope m) scope (omega (arith, i.0, i.1)) p) n in
    (omega arith, omega (arith, i.1, j.1))

depth_high : (scope : ℕ → ℕ) → IsPositive scope → (t : Core) → (1 ≤ depth t) × (depth t ≤ count by_height scope t)
depth_high scope p (Var i) = (omega arith, p i)
depth_high scope p (Const k) = (omega arith, omega arith)
depth_high scope p Prop = (omega arith, omega arith)
depth_high scope p (Univ l) = (omega arith, omega arith)
depth_high scope p (Pi x a b) =
    let i = depth_high scope p a in let j = depth_high (bound 1 scope) (bound_positive 1 scope (omega arith) p) b in (omega arith, omega (arith, i.1, j.1))
depth_high scope p (Lam x a b) =
    let i = depth_high scope p a in let j = depth_high (bound 1 scope) (bound_positive 1 scope (omega arith) p) b in (omega arith, omega (arith, i.1, j.1))
depth_high scope p (Sigma x a b) =
    let i = depth_high scope p a in let j = depth_high (bound 1 scope) (bound_positive 1 scope (omega arith) p) b in (omega arith, omega (arith, i.1, j.1))
depth_high scope p (App k m n) = let i = depth_high scope p m in let j = depth_high scope p n in (omega arith, omega (arith, i.1, j.1))
depth_high scope p (Pair x a b m n) =
    let i = depth_high scope p a in
    let j = depth_high (bound 1 scope) (bound_positive 1 scope (omega arith) p) b in
    let k = depth_high scope p m in
    let l = depth_high scope p n in
    (omega arith, omega (arith, i.1, j.1, k.1, l.1))
depth_high scope p (Fst m) = let i = depth_high scope p m in (omega arith, omega (arith, i.1))
depth_high scope p (Snd m) = let i = depth_high scope p m in (omega arith, omega (arith, i.1))
depth_high scope p (Let x m n) =
    let i = depth_high scope p m in
    let j = depth_high (bound (count by_height scope m) scope) (bound_positive (count by_height scope m) scope (omega (arith, i.0, i.1)) p) n in
    (omega arith, omega (arith, i.1, j.1))

placed_fits : {es : List Entry} {s : Site} {m : Core} → IsPlaced es s m → Fits m
placed_fits {m = m} p =
    let high = p.high in
    let heavy = p.heavy in
    let i : size m ≤ weight m = (size_weighs (λ i. 1) (λ i. omega arith) m).1 in
    let j : depth m ≤ height m = (depth_high (λ i. 1) (λ i. omega arith) m).1 in
    (omega arith, omega arith)

fits_made : (t : Core) (fault : TypeFault) → Fits t → MakingFails t fault → fault ≡ Memory
fits_made t _ fits (MakingFails.too_large {size = i} {depth = j} large) = absurd (too_large_differs t t i j fits large refl)
fits_made t _ fits MakingFails.memory = refl

-- a value that is put in passes no limit
pub put_memory : {es : List Entry} {s : Site} {x : Binder} {m b : Core} (fault : TypeFault) → IsPlaced es s (Let x m b) → MakingFails (instantiate b m) fault → fault ≡ Memory
put_memory {m = m} {b = b} fault p h = fits_made (instantiate b m) fault (placed_fits (placed_local_body p)) h

pub placed_whole : (es : List Item) (locals : List Local) (levels : ℕ) (m : Core) (x : Extent) → AreClosedEntries (laws_entries es) → AreHeld es locals levels → IsTermOver es locals levels m → IsMeasured m (Ok x) → levels + nodes m ≤ 1048576 → IsPlaced (laws_entries es) (site_of locals levels) m
placed_whole es locals levels m x closed held over measured room =
    record { ready = ready_whole es locals levels m x closed held over measured; high = measured.2; heavy = measured.3; room = room }
