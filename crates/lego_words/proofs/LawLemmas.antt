-- The written form says one thing.
use Rattle.std.proofs.Common.{◌≡◌, ℕ, zero, suc, ◌≤◌, ◌<◌, nat_lt, List, [], ◌∷◌, ◌++◌, length, take, drop, Bool, true, false, Option, Some, None, refl, sym, ap, ◌∙◌, subst, arith, append_assoc}
use Rattle.std.proofs.lemmas.List.{take-append-drop}
use Rattle.std.proofs.lemmas.Bool.Decides.{nat_tests}
use Rattle.lego_words.specs.Words.{IsSteps, WrittenBehind, End, Steps, Joined, Stop, BeginsBehind, IsUsage}
use Rattle.lego_words.specs.Laws.{OneMeaning, OneUsage}
use Rattle.lego_words.specs.declared.options.Options.{Options}
use Rattle.lego_words.proofs.FormLemmas.{at_stop, at_steps, at_joined, one_number, HasValue, HasJoined}

by_value : {stop : Bool} {text : List ℕ} {rest : List (List ℕ)} {n : ℕ} {one other : Options} → IsSteps text n
    → HasValue None stop (text ∷ rest) other → (WrittenBehind (Some n) stop rest other → one ≡ other) → one ≡ other
by_value {text = text} {rest = rest} {n = n} t v same =
    let texts : text ≡ v.text = cc (v.is) in
    let behind : v.rest ≡ rest = cc (v.is) in
    let number : v.n ≡ n = one_number v.writes (subst (λ x. IsSteps x n) texts t) in
    same (rw (← behind, ← number) v.behind)

by_joined : {stop : Bool} {text : List ℕ} {rest : List (List ℕ)} {n : ℕ} {one other : Options} → IsSteps text n
    → HasJoined None stop text rest other → (WrittenBehind (Some n) stop rest other → one ≡ other) → one ≡ other
by_joined {n = n} t v same = let number : v.n ≡ n = one_number v.writes t in same (rw (← number) v.behind)

same_options : {s : Option ℕ} {b : Bool} {words : List (List ℕ)} {one other : Options} → WrittenBehind s b words one → WrittenBehind s b words other → one ≡ other
same_options End End = refl
same_options (Steps e t h) h' = by_value t (at_steps e h') (λ i. same_options h i)
same_options (Joined e t h) h' = by_joined t (at_joined e h') (λ i. same_options h i)
same_options (Stop e h) h' = same_options h (at_stop e h').1

pub one_meaning : OneMeaning
one_meaning words one other = same_options

-- a front of words that begin a list begins it too
fewer : {s : Option ℕ} {b : Bool} (front back : List (List ℕ)) → BeginsBehind s b (front ++ back) → BeginsBehind s b front
fewer front back g = (back ++ g.0, g.1, rw append_assoc at g.2)

shorter : (words : List (List ℕ)) (i j : ℕ) → i ≤ j → take i (take j words) ≡ take i words
shorter words zero j l = refl
shorter words (suc i) zero l = absurd (omega arith)
shorter [] (suc i) (suc j) l = refl
shorter (w ∷ words) (suc i) (suc j) l = ap (λ (ws : List (List ℕ)). w ∷ ws) (shorter words i j (omega arith))

-- the word at the lesser index stands among those before the greater
not_below : (words : List (List ℕ)) (i j : ℕ) → IsUsage words i → IsUsage words j → i < j → ⊥
not_below words i j u v l =
    let within : i < length words = omega (arith, v.within) in
    let all : take (suc i) words ++ drop (suc i) (take j words) ≡ take j words =
    ap (λ ws. ws ++ drop (suc i) (take j words)) (sym (shorter words (suc i) j (omega arith))) ∙ take-append-drop (suc i) (take j words) in
    u.with_it within (fewer (take (suc i) words) (drop (suc i) (take j words)) (rw all v.before))

pub one_usage : OneUsage
one_usage words i j u v = by_tests (nat_lt i j) refl (nat_lt j i) refl
  where
    by_tests : (p : Bool) → nat_lt i j ≡ p → (q : Bool) → nat_lt j i ≡ q → i ≡ j
    by_tests true e q d = absurd (not_below words i j u v (grind (arith, nat_tests)))
    by_tests false e true d = absurd (not_below words j i v u (grind (arith, nat_tests)))
    by_tests false e false d = grind (arith, nat_tests)
