-- When the parts of a term have their shape.
use Rattle.std.proofs.Common.{◌≡◌, ℕ, zero, suc, ◌<◌, ◌≤◌, Option, Some, None, List, refl, subst, sym, ⊎_elim, arith}
use Rattle.std.proofs.lemmas.Bool.{cases_lt}
use Rattle.lego_term.specs.declared.level.Level.{Level}
use Rattle.lego_term.specs.Trees.{Core, Pi, Lam, App, Sigma, Pair, Fst, Snd, Let}
use Rattle.lego_term.specs.Sequences.{HeadForm}
use Rattle.lego_laws.specs.Entries.{Entry, core_bodies}
use Rattle.lego_laws.specs.Places.{Want, Nothing, AType, Stated, Site, RuleTypeAt, Part, WantsHead, Fulfils, IsFulfilled, BelowAtZero, IsShaped, AreShaped, ArePartsShaped}
use Rattle.lego_laws.specs.Ranges.{sort_term}
use Rattle.lego_laws.proofs.lemmas.principal.ShapedParts.{parts_give_shapes}
use Rattle.lego_laws.proofs.lemmas.principal.Nodes.{parts_are_numbered}
use Rattle.lego_laws.proofs.lemmas.principal.RuleTypesUnique.{one_rule_type}

no_stated : {w : Want} (a : Core) → WantsHead w → w ≡ Stated a → ⊥
no_stated a WantsHead.a_type e = cc
no_stated a WantsHead.a_function e = cc
no_stated a WantsHead.a_pair e = cc

no_head : {a : Core} → WantsHead (Stated a) → ⊥
no_head h = elim h [ ]

nothing_wanted : WantsHead Nothing → ⊥
nothing_wanted h = elim h [ ]

-- a term with shaped parts is shaped, where nothing is wanted of it
pub shaped_nothing : {es : List Entry} {s : Site} {n : Core} → ArePartsShaped es s n Nothing → IsShaped es s n Nothing
shaped_nothing {es} {s} {n} parts = parts_give_shapes es s n Nothing parts (λ h. absurd (nothing_wanted h)) (λ stated have e r. absurd (cc))

-- where its head form is as wanted
pub shaped_head : {es : List Entry} {s : Site} {n got h : Core} {w : Want} → ArePartsShaped es s n Nothing → RuleTypeAt es s n got → HeadForm (core_bodies es) got h → WantsHead w → Fulfils w h → IsShaped es s n w
shaped_head {es} {s} {n} {got} {h} {w} parts r head kind is =
    parts_give_shapes es s n w parts (λ k got' r'. (h, subst (λ z. HeadForm (core_bodies es) z h) (one_rule_type r r') head, is))
    (λ stated have e q. absurd (no_stated stated kind e))

-- where its rule type is below the stated type with every level put to 0
pub shaped_stated : {es : List Entry} {s : Site} {n have stated : Core} → ArePartsShaped es s n Nothing → RuleTypeAt es s n have → BelowAtZero es have stated → IsShaped es s n (Stated stated)
shaped_stated {es} {s} {n} {have} {stated} parts r below =
    parts_give_shapes es s n (Stated stated) parts (λ h. absurd (no_head h))
    (λ other have' e q. let same : stated ≡ other = cc in subst (λ z. BelowAtZero es z other) (one_rule_type r q) (subst (λ z. BelowAtZero es have z) same below))

pub sort_fulfils : (sort : Option Level) → Fulfils AType (sort_term sort)
sort_fulfils None = Fulfils.a_prop
sort_fulfils (Some l) = Fulfils.a_universe

-- the parts are shaped one after another
pub none_before : {es : List Entry} {s : Site} {n : Core} {w : Want} → AreShaped es s n w 0
none_before = record { parts = λ p l. absurd (omega arith) }

pub next_shaped : {es : List Entry} {s s' : Site} {n n' : Core} {w w' : Want} (i : ℕ) → AreShaped es s n w i → Part es s n w i s' n' w' → IsShaped es s' n' w' → AreShaped es s n w (suc i)
next_shaped {es} {s} {s'} {n} {n'} {w} {w'} i before p shaped = record { parts = λ q l. by_place q l }
  where
    here : {s'' : Site} {n'' : Core} {w'' : Want} → Part es s n w i s'' n'' w'' → IsShaped es s'' n'' w''
    here {s''} {n''} {w''} q =
        let e = parts_are_numbered es s s' s'' n n' n'' w w' w'' i p q in
        subst (λ z. IsShaped es z n'' w'') e.0 (subst (λ z. IsShaped es s' z w'') e.1 (subst (λ z. IsShaped es s' n' z) e.2 shaped))

    by_place : {s'' : Site} {n'' : Core} {w'' : Want} {j : ℕ} → Part es s n w j s'' n'' w'' → j < suc i → IsShaped es s'' n'' w''
    by_place {s''} {n''} {w''} {j} q l =
        ⊎_elim (λ (m : j < i). before.parts q m) (λ (m : i ≤ j). let same : j ≡ i = omega arith in here (subst (λ z. Part es s n w z s'' n'' w'') same q)) (cases_lt j i)

-- how many parts are checked of a term
abbrev count : Core → ℕ
count (Pi x a b) = 2
count (Lam x a b) = 2
count (App k m n) = 2
count (Sigma x a b) = 2
count (Pair x a b m n) = 4
count (Fst m) = 1
count (Snd m) = 1
count (Let x m n) = 2
count t = 0

number_below : {es : List Entry} {s s' : Site} {n n' : Core} {w w' : Want} {i : ℕ} → Part es s n w i s' n' w' → i < count n
number_below Part.pi_domain = omega arith
number_below Part.pi_body = omega arith
number_below Part.lam_domain = omega arith
number_below Part.lam_body = omega arith
number_below Part.function = omega arith
number_below (Part.argument r h) = omega arith
number_below Part.sigma_domain = omega arith
number_below Part.sigma_body = omega arith
number_below Part.pair_domain = omega arith
number_below Part.pair_body = omega arith
number_below Part.pair_first = omega arith
number_below Part.pair_second = omega arith
number_below Part.fst_operand = omega arith
number_below Part.snd_operand = omega arith
number_below Part.local_value = omega arith
number_below Part.local_body = omega arith

-- all parts are shaped where those are that are counted
pub all_shaped : {es : List Entry} {s : Site} {n : Core} {w : Want} → AreShaped es s n w (count n) → ArePartsShaped es s n w
all_shaped h = record { parts = λ p l. h.parts p (number_below p) }
