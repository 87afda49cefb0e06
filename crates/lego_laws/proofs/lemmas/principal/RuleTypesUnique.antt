-- A rule type is unique, and its fresh variables may be renamed.
use Rattle.std.proofs.Common.{◌≡◌, ℕ, suc, Option, Some, List, refl, sym, ap, ◌∙◌, arith, subst}
use Rattle.lego_term.specs.declared.binder.Binder.{Binder}
use Rattle.lego_term.specs.Trees.{Core, Pi, Sigma, Fst, lift, instantiate}
use Rattle.lego_term.specs.Sequences.{head_step, after, Ends, HeadForm}
use Rattle.lego_laws.specs.Parallel.{CoreBodies}
use Rattle.lego_laws.specs.Entries.{Entry}
use Rattle.lego_laws.specs.RuleTypes.{RuleType}
use Rattle.lego_laws.specs.RuleTypeLaws.{HeadFormsAreUnique, RuleTypesAreUnique}
use Rattle.lego_laws.proofs.lemmas.reduction.After.{at_most}

some_is : {X : Type 0} {t u : X} → Some t ≡ Some u → t ≡ u
some_is e = cc

pub ends_once : {T : Type 0} (f : T → Option T) (t u w : T) (i j : ℕ) → Ends f t i u → Ends f t j w → u ≡ w
ends_once f t u w i j p q =
    let le = at_most f i j t u p.reaches p.last (w, q.reaches) in
    let ge = at_most f j i t w q.reaches q.last (u, p.reaches) in
    let same : i ≡ j = omega arith in
    some_is (sym p.reaches ∙ ap (λ n. after f n t) same ∙ q.reaches)

pub head_forms_are_unique : HeadFormsAreUnique
head_forms_are_unique b t u w p q = ends_once (head_step b) t u w p.0 q.0 p.1 q.1

pub one_head : {b : CoreBodies} {t t' u w : Core} → t ≡ t' → HeadForm b t u → HeadForm b t' w → u ≡ w
one_head {b} {t} {t'} {u} {w} e p q = head_forms_are_unique b t' u w (subst (λ z. HeadForm b z u) e p) q

pub pi_parts : {x y : Binder} {a a' b b' : Core} → Pi x a b ≡ Pi y a' b' → (a ≡ a') × (b ≡ b')
pi_parts e = (cc, cc)

sigma_parts : {x y : Binder} {a a' b b' : Core} → Sigma x a b ≡ Sigma y a' b' → (a ≡ a') × (b ≡ b')
sigma_parts e = (cc, cc)

same_entry : {o : Option Entry} {e e' : Entry} → o ≡ Some e → o ≡ Some e' → e.ty ≡ e'.ty
same_entry p q = ap (λ (e : Entry). e.ty) (some_is (sym p ∙ q))

pub one_rule_type : {es : List Entry} {w : ℕ → ℕ} {g : List Core} {n : ℕ} {m a : Core} → RuleType es w g n m a → {a' : Core} → RuleType es w g n m a' → a ≡ a'
one_rule_type (RuleType.variable {i = i} p) (RuleType.variable q) = ap (lift 0 (suc i)) (some_is (sym p ∙ q))
one_rule_type (RuleType.constant p) (RuleType.constant q) = same_entry p q
one_rule_type RuleType.prop RuleType.prop = refl
one_rule_type RuleType.universe RuleType.universe = refl
one_rule_type (RuleType.pi_prop p h) (RuleType.pi_prop q i) = refl
one_rule_type (RuleType.pi_prop p h) (RuleType.pi_type q i out) = absurd (out (sym (one_head (one_rule_type p q) h i)))
one_rule_type (RuleType.pi_type p h out) (RuleType.pi_prop q i) = absurd (out (one_head (one_rule_type p q) h i))
one_rule_type (RuleType.pi_type p h out) (RuleType.pi_type q i out') = refl
one_rule_type RuleType.sigma RuleType.sigma = refl
one_rule_type (RuleType.lambda {x = x} {a = a} p) (RuleType.lambda q) = ap (Pi x a) (one_rule_type p q)
one_rule_type (RuleType.application {m = m} p h) (RuleType.application q i) = ap (λ z. instantiate z m) (pi_parts (one_head (one_rule_type p q) h i)).1
one_rule_type RuleType.pair RuleType.pair = refl
one_rule_type (RuleType.local p) (RuleType.local q) = one_rule_type p q
one_rule_type (RuleType.first p h) (RuleType.first q i) = (sigma_parts (one_head (one_rule_type p q) h i)).0
one_rule_type (RuleType.second {m = m} p h) (RuleType.second q i) = ap (λ z. instantiate z (Fst m)) (sigma_parts (one_head (one_rule_type p q) h i)).1

pub rule_types_are_unique : RuleTypesAreUnique
rule_types_are_unique es w g n m a a' p q = one_rule_type p q
