-- Rule types of a term under different numbers of its nodes differ in levels alone.
use Rattle.std.proofs.Common.{◌≡◌, ℕ, zero, suc, Option, Some, option_map, List, refl, sym, ap, ◌∙◌, subst}
use Rattle.lego_term.specs.declared.binder.Binder.{Binder}
use Rattle.lego_term.specs.declared.binder.Mark.{Mark}
use Rattle.lego_term.specs.Trees.{Tree, Core, Bodies, Prop, Pi, Sigma, Fst, map_tree, lift, instantiate}
use Rattle.lego_term.specs.Sequences.{head_step, after, HeadForm}
use Rattle.lego_laws.specs.Parallel.{CoreBodies}
use Rattle.lego_laws.specs.Entries.{Entry, core_bodies}
use Rattle.lego_laws.specs.RuleTypes.{RuleType}
use Rattle.lego_laws.specs.Places.{AFunction, APair, Fulfils}
use Rattle.lego_laws.proofs.lemmas.reduction.Mapping.{map-instantiate, mapped_bodies, head_step-map}
use Rattle.lego_laws.proofs.lemmas.reduction.After.{next, after_one}
use Rattle.lego_laws.proofs.lemmas.principal.RuleTypesUnique.{ends_once}

abbrev PlainTree : Type 0
PlainTree = Tree Binder Mark (Unit {0})

-- the term without its levels
abbrev plain : Core → PlainTree
plain t = map_tree (λ x. x) (λ k. k) (λ l. tt) t

abbrev plain_bodies : CoreBodies → Bodies Binder Mark (Unit {0})
plain_bodies b = mapped_bodies (λ x. x) (λ k. k) (λ l. tt) b

after_plain : (b : CoreBodies) (n : ℕ) (t u : Core) → after (head_step b) n t ≡ Some u → after (head_step (plain_bodies b)) n (plain t) ≡ Some (plain u)
after_plain b zero t u e = ap (option_map plain) e
after_plain b (suc n) t u e =
    let k = next (head_step b) n (head_step b t) u e in
    after_one (head_step (plain_bodies b)) n (plain t) (plain k.0) (plain u)
    (head_step-map (λ x. x) (λ k. k) (λ l. tt) b t ∙ ap (option_map plain) k.1) (after_plain b n k.0 u k.2)

head_plain : (b : CoreBodies) (t u : Core) → HeadForm b t u → HeadForm (plain_bodies b) (plain t) (plain u)
head_plain b t u p =
    (p.0, record { reaches = after_plain b p.0 t u p.1.reaches; last = head_step-map (λ x. x) (λ k. k) (λ l. tt) b u ∙ ap (option_map plain) p.1.last })

-- terms that differ in levels alone have head forms that do
one_plain_head : {b : CoreBodies} {t t' u u' : Core} → plain t ≡ plain t' → HeadForm b t u → HeadForm b t' u' → plain u ≡ plain u'
one_plain_head {b} {t} {t'} {u} {u'} e p q =
    let i = subst (λ z. HeadForm (plain_bodies b) z (plain u)) e (head_plain b t u p) in
    let j = head_plain b t' u' q in
    ends_once (head_step (plain_bodies b)) (plain t') (plain u) (plain u') i.0 j.0 i.1 j.1

is_prop : (h : Core) → plain h ≡ Prop → h ≡ Prop
is_prop Prop e = refl
is_prop _ e = cc

is_function : (h : Core) (x : Binder) (a b : PlainTree) → plain h ≡ Pi x a b → Fulfils AFunction h
is_function (Pi y c d) x a b e = Fulfils.a_function
is_function _ x a b e = cc

is_pair : (h : Core) (x : Binder) (a b : PlainTree) → plain h ≡ Sigma x a b → Fulfils APair h
is_pair (Sigma y c d) x a b e = Fulfils.a_pair
is_pair _ x a b e = cc

first_part : {x y : Binder} {a a' b b' : PlainTree} → Sigma x a b ≡ Sigma y a' b' → a ≡ a'
first_part e = cc

second_part : {x y : Binder} {a a' b b' : PlainTree} → Sigma x a b ≡ Sigma y a' b' → b ≡ b'
second_part e = cc

body_part : {x y : Binder} {a a' b b' : PlainTree} → Pi x a b ≡ Pi y a' b' → b ≡ b'
body_part e = cc

some_is : {X : Type 0} {t u : X} → Some t ≡ Some u → t ≡ u
some_is e = cc

put_in : (b b' m : Core) → plain b ≡ plain b' → plain (instantiate b m) ≡ plain (instantiate b' m)
put_in b b' m e =
    map-instantiate (λ x. x) (λ k. k) (λ l. tt) b m ∙ ap (λ z. instantiate z (plain m)) e ∙ sym (map-instantiate (λ x. x) (λ k. k) (λ l. tt) b' m)

same_entry : {o : Option Entry} {e e' : Entry} → o ≡ Some e → o ≡ Some e' → e.ty ≡ e'.ty
same_entry p q = ap (λ (e : Entry). e.ty) (some_is (sym p ∙ q))

agree : {es : List Entry} {w w' : ℕ → ℕ} {g : List Core} {n n' : ℕ} {m a a' : Core} → RuleType es w g n m a → RuleType es w' g n' m a' → plain a ≡ plain a'
agree (RuleType.variable {i = i} p) (RuleType.variable q) = ap (λ z. plain (lift 0 (suc i) z)) (some_is (sym p ∙ q))
agree (RuleType.constant p) (RuleType.constant q) = ap plain (same_entry p q)
agree RuleType.prop RuleType.prop = refl
agree RuleType.universe RuleType.universe = refl
agree (RuleType.pi_prop p h) (RuleType.pi_prop q i) = refl
agree (RuleType.pi_prop p h) (RuleType.pi_type {h = s} q i out) = absurd (out (is_prop s (sym (one_plain_head (agree p q) h i))))
agree (RuleType.pi_type {h = s} p h out) (RuleType.pi_prop q i) = absurd (out (is_prop s (one_plain_head (agree p q) h i)))
agree (RuleType.pi_type p h out) (RuleType.pi_type q i out') = refl
agree RuleType.sigma RuleType.sigma = refl
agree (RuleType.lambda {x = x} {a = a} p) (RuleType.lambda q) = ap (Pi x (plain a)) (agree p q)
agree (RuleType.application {b = b} {m = m} p h) (RuleType.application {b = b'} q i) = put_in b b' m (body_part (one_plain_head (agree p q) h i))
agree RuleType.pair RuleType.pair = refl
agree (RuleType.local p) (RuleType.local q) = agree p q
agree (RuleType.first p h) (RuleType.first q i) = first_part (one_plain_head (agree p q) h i)
agree (RuleType.second {b = b} {m = m} p h) (RuleType.second {b = b'} q i) = put_in b b' (Fst m) (second_part (one_plain_head (agree p q) h i))

-- where one rule type of a term comes to a product or a Sigma type, all do
pub all_functions : {es : List Entry} {w w' : ℕ → ℕ} {g : List Core} {n n' : ℕ} {m a a' h h' : Core} → RuleType es w g n m a → HeadForm (core_bodies es) a h → RuleType es w' g n' m a' → HeadForm (core_bodies es) a' h' → Fulfils AFunction h' → Fulfils AFunction h
all_functions {h = h} p i q j (Fulfils.a_function {x = x} {a = a} {b = b}) = is_function h x (plain a) (plain b) (one_plain_head (agree p q) i j)

pub all_pairs : {es : List Entry} {w w' : ℕ → ℕ} {g : List Core} {n n' : ℕ} {m a a' h h' : Core} → RuleType es w g n m a → HeadForm (core_bodies es) a h → RuleType es w' g n' m a' → HeadForm (core_bodies es) a' h' → Fulfils APair h' → Fulfils APair h
all_pairs {h = h} p i q j (Fulfils.a_pair {x = x} {a = a} {b = b}) = is_pair h x (plain a) (plain b) (one_plain_head (agree p q) i j)
