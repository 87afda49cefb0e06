-- What holds of each binder, each constant and each level of the entries, of the local types and of a term holds of those of its
-- rule type.
use Rattle.std.proofs.Common.{◌≡◌, ℕ, zero, suc, ◌+◌, ◌≤◌, ◌<◌, Bool, true, false, nat_eq, if◌then◌else◌, Option, Some, None, IfSome, option_map, option_and_then, List, [], ◌∷◌, slice_get, refl, ap, subst, arith}
use Rattle.std.specs.List.{AllByRecursion}
use Rattle.lego_term.specs.declared.binder.Binder.{Binder}
use Rattle.lego_term.specs.declared.level.Level.{Level}
use Rattle.lego_term.specs.Levels.{fixed_level, variable_level}
use Rattle.lego_term.specs.declared.binder.Mark.TheVariants.{Plain}
use Rattle.lego_term.specs.Trees.{Core, Lam, Fst, Let, instantiate}
use Rattle.lego_term.specs.Sequences.{HeadForm}
use Rattle.lego_laws.specs.Entries.{Entry, entry_of, core_bodies}
use Rattle.lego_laws.specs.Principal.{core_types}
use Rattle.lego_laws.specs.RuleTypes.{RuleType, nodes}
use Rattle.lego_laws.proofs.lemmas.principal.Nodes.{nodes_are_counted}
use Rattle.lego_laws.proofs.lemmas.reduction.HeadSteps.{mapped_from}
use Rattle.lego_inference.specs.Binders.{BinderKind, EachPart}
use Rattle.lego_inference.specs.Entries.{HoldsInEntries}
use Rattle.lego_inference.proofs.PartLemmas.{parts_lifted, parts-instantiate, parts_head}

-- what holds of each entry holds of that of a number
pub entry_holds : (Q : Entry → Type 0) (es : List Entry) (k : ℕ) (e : Entry) → AllByRecursion Q es → entry_of es k ≡ Some e → Q e
entry_holds Q [] k e h is = cc
entry_holds Q (y ∷ es) k e h is = by_test (λ at. entry_holds Q es k e h.1 at) (nat_eq y.number k) is
  where
    by_test : (entry_of es k ≡ Some e → Q e) → (c : Bool) → (if c then Some y else entry_of es k) ≡ Some e → Q e
    by_test more true at = let same : y ≡ e = cc at in subst Q same h.0
    by_test more false at = more at

-- what holds in the entries holds of the type of a constant
pub type_holds : (Q : Core → Type 0) (es : List Entry) → HoldsInEntries Q es → (k : ℕ) (a : Core) → core_types es k ≡ Some a → Q a
type_holds Q es h k a is =
    let e = mapped_from (λ (y : Entry). y.ty) (entry_of es k) a is in
    subst Q e.2 (entry_holds (λ y. Q y.ty × IfSome y.body Q) es k e.0 h e.1).0

body_from : (o : Option Entry) (m : Core) → option_and_then (λ (e : Entry). e.body) o ≡ Some m → (e : Entry) × (o ≡ Some e) × (e.body ≡ Some m)
body_from None m is = cc
body_from (Some e) m is = (e, refl, is)

-- and of its body
pub body_holds : (Q : Core → Type 0) (es : List Entry) → HoldsInEntries Q es → (k : ℕ) (m : Core) → core_bodies es k ≡ Some m → Q m
body_holds Q es h k m is =
    let e = body_from (entry_of es k) m is in
    subst (λ (o : Option Core). IfSome o Q) e.2 (entry_holds (λ y. Q y.ty × IfSome y.body Q) es k e.0 h e.1).1

type_at : (Q : Core → Type 0) (g : List Core) (i : ℕ) (a : Core) → AllByRecursion Q g → slice_get g i ≡ Some a → Q a
type_at Q [] i a h is = cc
type_at Q (t ∷ g) zero a h is = let same : t ≡ a = cc is in subst Q same h.0
type_at Q (t ∷ g) (suc i) a h is = type_at Q g i a h.1 is

count_lam : (x : Binder) (a m : Core) → nodes (Lam x a m) ≡ nodes a + nodes m
count_lam x a m = (nodes_are_counted x Plain 0 (variable_level 0) a a m m).5

count_let : (x : Binder) (m b : Core) → nodes (Let x m b) ≡ nodes m + nodes (instantiate b m)
count_let x m b = (nodes_are_counted x Plain 0 (variable_level 0) m m m b).11

-- the level variables of the nodes are those below a number
module _ (P : BinderKind → Binder → Type 0) (C : ℕ → Type 0) (L : Level → Type 0) (es : List Entry) (in_entries : HoldsInEntries (EachPart P C L) es) (of_prop : L (fixed_level 0)) (w : ℕ → ℕ) (top : ℕ) (fresh : (i : ℕ) → i < top → L (variable_level (w i))) where
  head_parts : {t h : Core} → HeadForm (core_bodies es) t h → EachPart P C L t → EachPart P C L h
  head_parts p each = parts_head P C L (core_bodies es) (body_holds (EachPart P C L) es in_entries) p each

  pub rule_type_parts : {g : List Core} {n : ℕ} {m a : Core} → n + nodes m ≤ top → AllByRecursion (EachPart P C L) g → EachPart P C L m → RuleType es w g n m a → EachPart P C L a
  rule_type_parts {g} le types h (RuleType.variable {i = i} {a = a} e) = parts_lifted P C L 0 (suc i) a (type_at (EachPart P C L) g i a types e)
  rule_type_parts le types h (RuleType.constant {k = k} {e = e} p) = type_holds (EachPart P C L) es in_entries k e.ty (ap (option_map (λ (y : Entry). y.ty)) p)
  rule_type_parts le types h RuleType.prop = of_prop
  rule_type_parts {n = n} le types h RuleType.universe = fresh n (omega arith)
  rule_type_parts le types h (RuleType.pi_prop r p) = tt
  rule_type_parts {n = n} le types h (RuleType.pi_type r p o) = fresh n (omega arith)
  rule_type_parts {n = n} le types h RuleType.sigma = fresh n (omega arith)
  rule_type_parts le types h (RuleType.lambda {x = x} {a = a} {m = m} r) = (h.0, h.1, rule_type_parts (omega (arith, count_lam x a m)) (h.1, types) h.2 r)
  rule_type_parts le types h (RuleType.application {b = b} {m = m} r p) =
      let f = head_parts p (rule_type_parts (omega arith) types h.0 r) in
      parts-instantiate P C L b m f.2 h.1
  rule_type_parts le types h RuleType.pair = (h.0, h.1, h.2)
  rule_type_parts le types h (RuleType.first r p) = (head_parts p (rule_type_parts (omega arith) types h r)).1
  rule_type_parts le types h (RuleType.second {b = b} {m = m} r p) =
      let f = head_parts p (rule_type_parts (omega arith) types h r) in
      parts-instantiate P C L b (Fst m) f.2 h
  rule_type_parts le types h (RuleType.local {x = x} {m = m} {b = b} r) =
      rule_type_parts (omega (arith, count_let x m b)) types (parts-instantiate P C L b m h.2 h.1) r
