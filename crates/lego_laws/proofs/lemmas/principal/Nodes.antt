-- The nodes of a term and of its parts.
use Rattle.std.proofs.Common.{◌≡◌, ℕ, zero, suc, ◌+◌, ◌≤◌, ◌<◌, List, None, refl, sym, ap, ◌∙◌, arith}
use Rattle.lego_term.specs.declared.binder.Mark.{Mark}
use Rattle.lego_term.specs.declared.binder.Mark.TheVariants.{Plain}
use Rattle.lego_term.specs.declared.level.Level.{Level}
use Rattle.lego_term.specs.Trees.{Core, Prop, Pi, Lam, App, Sigma, Pair, Fst, Snd, Let, instantiate}
use Rattle.lego_term.specs.Sequences.{HeadForm}
use Rattle.lego_laws.specs.Entries.{Entry, core_bodies}
use Rattle.lego_term.specs.Weight.{CountsBy, bound, count}
use Rattle.lego_term.proofs.WeightLemmas.{locals_count_instances}
use Rattle.lego_laws.specs.RuleTypes.{node_counting, nodes}
use Rattle.lego_term.specs.declared.binder.Binder.{Binder}
use Rattle.lego_laws.specs.Places.{Want, Nothing, AType, AFunction, APair, Stated, Site, behind, under, RuleTypeAt, Part}
use Rattle.lego_laws.specs.RuleTypeLaws.{NodesAreCounted, PartsStandApart, PartsAreNumbered}
use Rattle.lego_laws.proofs.lemmas.principal.RuleTypesUnique.{one_rule_type, one_head, pi_parts}

-- each term counts by its parts
by_parts : CountsBy node_counting (nodes {B = Binder} {M = Mark} {L = Level})
by_parts = locals_count_instances node_counting

abbrev any_binder : Binder
any_binder = record { name = None; mark = Plain }

nodes_under : (b : Core) → count node_counting (bound 0 (λ i. 0)) b ≡ nodes b
nodes_under b = let e = by_parts.lam any_binder Prop b in omega arith

nodes_put : (m n : Core) → count node_counting (bound (nodes m) (λ i. 0)) n ≡ nodes (instantiate n m)
nodes_put m n = let e = by_parts.local any_binder m n in omega arith

pub nodes_are_counted : NodesAreCounted
nodes_are_counted x y i l a b m n =
    let eb = nodes_under b in
    let em = nodes_under m in
    let en = nodes_put m n in
    (refl, refl, refl, refl, omega arith, omega arith, omega arith, omega arith, omega arith, omega arith, omega arith, omega arith)

-- where a part's nodes begin and end
part_within : {es : List Entry} {s s₁ : Site} {n n₁ : Core} {w w₁ : Want} {i : ℕ} → Part es s n w i s₁ n₁ w₁ → (s.first ≤ s₁.first) × (s₁.first + nodes n₁ ≤ s.first + nodes n)
part_within (Part.pi_domain {b = b}) = (omega arith, omega arith)
part_within (Part.pi_body {b = b}) = let e = nodes_under b in (omega arith, omega arith)
part_within Part.lam_domain = (omega arith, omega arith)
part_within (Part.lam_body {m = b}) = let e = nodes_under b in (omega arith, omega arith)
part_within Part.function = (omega arith, omega arith)
part_within (Part.argument r h) = (omega arith, omega arith)
part_within Part.sigma_domain = (omega arith, omega arith)
part_within (Part.sigma_body {b = b}) = let e = nodes_under b in (omega arith, omega arith)
part_within Part.pair_domain = (omega arith, omega arith)
part_within (Part.pair_body {b = b}) = let e = nodes_under b in (omega arith, omega arith)
part_within (Part.pair_first {b = b}) = let e = nodes_under b in (omega arith, omega arith)
part_within (Part.pair_second {b = b}) = let e = nodes_under b in (omega arith, omega arith)
part_within Part.fst_operand = (omega arith, omega arith)
part_within Part.snd_operand = (omega arith, omega arith)
part_within Part.local_value = (omega arith, omega arith)
part_within (Part.local_body {m = m} {n = n}) = let e = nodes_put m n in (omega arith, omega arith)

-- how many nodes of a term come before each part, and behind all parts
start : Core → ℕ → ℕ
start (Pi x a b) zero = 1
start (Pi x a b) (suc zero) = 1 + nodes a
start (Lam x a m) zero = 0
start (Lam x a m) (suc zero) = nodes a
start (App k m n) zero = 0
start (App k m n) (suc zero) = nodes m
start (Sigma x a b) zero = 1
start (Sigma x a b) (suc zero) = 1 + nodes a
start (Pair x a b m n) zero = 0
start (Pair x a b m n) (suc zero) = nodes a
start (Pair x a b m n) (suc (suc zero)) = nodes a + nodes b
start (Pair x a b m n) (suc (suc (suc zero))) = nodes a + nodes b + nodes m
start (Let x m n) zero = 0
start (Let x m n) (suc zero) = nodes m
start (Fst m) zero = 0
start (Snd m) zero = 0
start t i = nodes t

begins : {es : List Entry} {s s₁ : Site} {n n₁ : Core} {w w₁ : Want} {i : ℕ} → Part es s n w i s₁ n₁ w₁ → s₁.first ≡ s.first + start n i
unfolding start
begins Part.pi_domain = refl
begins Part.pi_body = omega arith
begins Part.lam_domain = omega arith
begins Part.lam_body = refl
begins Part.function = omega arith
begins (Part.argument r h) = refl
begins Part.sigma_domain = refl
begins Part.sigma_body = omega arith
begins Part.pair_domain = omega arith
begins Part.pair_body = refl
begins Part.pair_first = refl
begins Part.pair_second = refl
begins Part.fst_operand = omega arith
begins Part.snd_operand = omega arith
begins Part.local_value = omega arith
begins Part.local_body = refl

ends : {es : List Entry} {s s₁ : Site} {n n₁ : Core} {w w₁ : Want} {i : ℕ} → Part es s n w i s₁ n₁ w₁ → (j : ℕ) → i < j → start n i + nodes n₁ ≤ start n j
unfolding start
ends p zero l = absurd (omega arith)
ends Part.pi_domain (suc zero) l = omega arith
ends (Part.pi_domain {b = b}) (suc (suc j)) l = omega arith
ends Part.pi_body (suc zero) l = absurd (omega arith)
ends (Part.pi_body {b = b}) (suc (suc j)) l = omega (arith, nodes_under b)
ends Part.lam_domain (suc zero) l = omega arith
ends Part.lam_domain (suc (suc j)) l = omega arith
ends Part.lam_body (suc zero) l = absurd (omega arith)
ends (Part.lam_body {m = b}) (suc (suc j)) l = omega (arith, nodes_under b)
ends Part.function (suc zero) l = omega arith
ends Part.function (suc (suc j)) l = omega arith
ends (Part.argument r h) (suc zero) l = absurd (omega arith)
ends (Part.argument r h) (suc (suc j)) l = omega arith
ends Part.sigma_domain (suc zero) l = omega arith
ends Part.sigma_domain (suc (suc j)) l = omega arith
ends Part.sigma_body (suc zero) l = absurd (omega arith)
ends (Part.sigma_body {b = b}) (suc (suc j)) l = omega (arith, nodes_under b)
ends Part.pair_domain (suc zero) l = omega arith
ends Part.pair_domain (suc (suc zero)) l = omega arith
ends Part.pair_domain (suc (suc (suc zero))) l = omega arith
ends Part.pair_domain (suc (suc (suc (suc j)))) l = omega arith
ends Part.pair_body (suc zero) l = absurd (omega arith)
ends Part.pair_body (suc (suc zero)) l = omega arith
ends Part.pair_body (suc (suc (suc zero))) l = omega arith
ends (Part.pair_body {b = b}) (suc (suc (suc (suc j)))) l = omega (arith, nodes_under b)
ends Part.pair_first (suc zero) l = absurd (omega arith)
ends Part.pair_first (suc (suc zero)) l = absurd (omega arith)
ends Part.pair_first (suc (suc (suc zero))) l = omega arith
ends (Part.pair_first {b = b}) (suc (suc (suc (suc j)))) l = omega (arith, nodes_under b)
ends Part.pair_second (suc zero) l = absurd (omega arith)
ends Part.pair_second (suc (suc zero)) l = absurd (omega arith)
ends Part.pair_second (suc (suc (suc zero))) l = absurd (omega arith)
ends (Part.pair_second {b = b}) (suc (suc (suc (suc j)))) l = omega (arith, nodes_under b)
ends Part.fst_operand (suc j) l = omega arith
ends Part.snd_operand (suc j) l = omega arith
ends Part.local_value (suc zero) l = omega arith
ends Part.local_value (suc (suc j)) l = omega arith
ends Part.local_body (suc zero) l = absurd (omega arith)
ends (Part.local_body {m = m} {n = n}) (suc (suc j)) l = omega (arith, nodes_put m n)

pub parts_stand_apart : PartsStandApart
parts_stand_apart es s s₁ s₂ n n₁ n₂ w w₁ w₂ i j p q =
    let k = part_within p in
    (k.0, k.1, λ l. omega (arith, begins p, begins q, ends p j l))

-- where a term's part of a number stands, which it is, and what is wanted of it, but of an argument
site_at : Site → Core → ℕ → Site
site_at s (Pi x a b) zero = behind 1 s
site_at s (Pi x a b) (suc i) = under x a (behind 1 s)
site_at s (Lam x a m) (suc i) = under x a s
site_at s (App k m n) (suc i) = behind (nodes m) s
site_at s (Sigma x a b) zero = behind 1 s
site_at s (Sigma x a b) (suc i) = under x a (behind 1 s)
site_at s (Pair x a b m n) (suc zero) = under x a s
site_at s (Pair x a b m n) (suc (suc zero)) = behind (nodes a + nodes b) s
site_at s (Pair x a b m n) (suc (suc (suc i))) = behind (nodes a + nodes b + nodes m) s
site_at s (Let x m n) (suc i) = behind (nodes m) s
site_at s t i = s

term_at : Core → ℕ → Core
term_at (Pi x a b) zero = a
term_at (Pi x a b) (suc i) = b
term_at (Lam x a m) zero = a
term_at (Lam x a m) (suc i) = m
term_at (App k m n) zero = m
term_at (App k m n) (suc i) = n
term_at (Sigma x a b) zero = a
term_at (Sigma x a b) (suc i) = b
term_at (Pair x a b m n) zero = a
term_at (Pair x a b m n) (suc zero) = b
term_at (Pair x a b m n) (suc (suc zero)) = m
term_at (Pair x a b m n) (suc (suc (suc i))) = n
term_at (Fst m) i = m
term_at (Snd m) i = m
term_at (Let x m n) zero = m
term_at (Let x m n) (suc i) = instantiate n m
term_at t i = t

want_at : Core → Want → ℕ → Want
want_at (Pi x a b) w i = AType
want_at (Lam x a m) w zero = AType
want_at (App k m n) w i = AFunction
want_at (Sigma x a b) w i = AType
want_at (Pair x a b m n) w zero = AType
want_at (Pair x a b m n) w (suc zero) = AType
want_at (Pair x a b m n) w (suc (suc zero)) = Stated a
want_at (Pair x a b m n) w (suc (suc (suc i))) = Stated (instantiate b m)
want_at (Fst m) w i = APair
want_at (Snd m) w i = APair
want_at (Let x m n) w (suc i) = w
want_at t w i = Nothing

-- an argument states the domain of its function's type
HasWant : List Entry → Site → Core → Want → ℕ → Want → Type 0
HasWant es s (App k m n) w (suc i) w₁ = (x : Binder) × (a : Core) × (b : Core) × (t : Core) × RuleTypeAt es s m t × HeadForm (core_bodies es) t (Pi x a b) × (w₁ ≡ Stated a)
HasWant es s n w i w₁ = w₁ ≡ want_at n w i

record IsPart (es : List Entry) (s : Site) (n : Core) (w : Want) (i : ℕ) (s₁ : Site) (n₁ : Core) (w₁ : Want) : Type 0 where
  site : s₁ ≡ site_at s n i
  term : n₁ ≡ term_at n i
  want : HasWant es s n w i w₁

is_part : {es : List Entry} {s s₁ : Site} {n n₁ : Core} {w w₁ : Want} {i : ℕ} → Part es s n w i s₁ n₁ w₁ → IsPart es s n w i s₁ n₁ w₁
unfolding site_at term_at want_at HasWant
is_part Part.pi_domain = record { site = refl; term = refl; want = refl }
is_part Part.pi_body = record { site = refl; term = refl; want = refl }
is_part Part.lam_domain = record { site = refl; term = refl; want = refl }
is_part Part.lam_body = record { site = refl; term = refl; want = refl }
is_part Part.function = record { site = refl; term = refl; want = refl }
is_part (Part.argument {x = x} {a = a} {b = b} {t = t} r h) = record { site = refl; term = refl; want = (x, a, b, t, r, h, refl) }
is_part Part.sigma_domain = record { site = refl; term = refl; want = refl }
is_part Part.sigma_body = record { site = refl; term = refl; want = refl }
is_part Part.pair_domain = record { site = refl; term = refl; want = refl }
is_part Part.pair_body = record { site = refl; term = refl; want = refl }
is_part Part.pair_first = record { site = refl; term = refl; want = refl }
is_part Part.pair_second = record { site = refl; term = refl; want = refl }
is_part Part.fst_operand = record { site = refl; term = refl; want = refl }
is_part Part.snd_operand = record { site = refl; term = refl; want = refl }
is_part Part.local_value = record { site = refl; term = refl; want = refl }
is_part Part.local_body = record { site = refl; term = refl; want = refl }

one_want : (es : List Entry) (s : Site) (n : Core) (w : Want) (i : ℕ) (w₁ w₂ : Want) → HasWant es s n w i w₁ → HasWant es s n w i w₂ → w₁ ≡ w₂
unfolding HasWant
one_want es s (App k m n) w (suc i) w₁ w₂ (x, a, b, t, r, h, e) (x', a', b', t', r', h', e') =
    e ∙ ap Stated (pi_parts (one_head (one_rule_type r r') h h')).0 ∙ sym e'
one_want es s n w i w₁ w₂ e f = e ∙ sym f

pub parts_are_numbered : PartsAreNumbered
parts_are_numbered es s s₁ s₂ n n₁ n₂ w w₁ w₂ i p q =
    let k = is_part p in
    let l = is_part q in
    (k.site ∙ sym l.site, k.term ∙ sym l.term, one_want es s n w i w₁ w₂ k.want l.want)
