-- What the corresponding pair gives, from what its parts are.
use Rattle.std.proofs.Common.{◌≡◌, ℕ, suc, ◌+◌, ◌-◌, ◌≤◌, ◌<◌, List, [], ◌++◌, length, Option, Some, None, Result, Ok, Err, inl, inr, ⊎_elim, refl, sym, ap, ◌∙◌, subst, arith}
use Rattle.std.specs.Prelude.{IfSome, IfNone, IfOk, IfErr}
use Rattle.std.proofs.lemmas.Bool.{cases_lt}
use Rattle.lego_term.specs.declared.binder.Binder.{Binder}
use Rattle.lego_term.specs.Trees.{Core, lift, loose}
use Rattle.lego_term.specs.BodyMap.{BodyMap, bodies_in, AreClosed}
use Rattle.lego_term.specs.Sequences.{normal_step, after, NormalForm}
use Rattle.lego_laws.specs.Parallel.{CoreBodies}
use Rattle.lego_laws.specs.Counting.{HasSteps}
use Rattle.lego_laws.proofs.lemmas.reduction.After.{at_most}
use Rattle.lego_laws.proofs.lemmas.comparison.Counted.{costly}
use Rattle.lego_reduce.specs.declared.fault.ReduceFault.{ReduceFault}
use Rattle.lego_reduce.specs.declared.fault.ReduceFault.TheVariants as reduce
use Rattle.lego_reduce.specs.Reduction.{Reduces}
use Rattle.lego_match.specs.Holes.{FreeHoles, IsApplied}
use Rattle.lego_match.specs.Pairs.{Corresponds, here, turn}
use Rattle.lego_match.specs.Agreement.{Agree, AgreeIn}
use Rattle.lego_match.specs.Answers.{Solves, of_left, of_right, IsCandidate, IsRefusedBy}
use Rattle.lego_match.specs.private.Walks.{EndsHere, HasLowVariables, StopsUnder, StopsBy, TooMany, IsNormal}
use Rattle.lego_match.specs.declared.walk.Position.{Position}
use Rattle.lego_match.specs.declared.stop.Stop.{Stop}
use Rattle.lego_match.specs.declared.stop.Stop.TheVariants.{Apart}
use Rattle.lego_match.specs.declared.stop.Stop.TheVariants as stop
use Rattle.lego_match.specs.private.Faults.{of_reduction}
use Rattle.lego_match.specs.private.Verdicts.{IsSolution, IsUnsolved, IsVerdict, IsAnswer, IsNormalAnswer}
use Rattle.lego_match.specs.declared.answer.Candidate.{Candidate}
use Rattle.lego_match.specs.declared.holes.Hole.{Hole}
use Rattle.lego_match.specs.declared.fault.MatchFault.{MatchFault}
use Rattle.lego_match.specs.declared.fault.MatchFault.TheVariants.{Clash, Occurs, Scope, HigherOrder, Budget, TooLarge, Memory}
use Rattle.lego_match.proofs.HoleLemmas.{one_applied, applied_hole_is}
use Rattle.lego_match.proofs.LoweringLemmas.{lift-bound}
use Rattle.lego_match.proofs.NormalLemmas.{pair_of_terms, agree_of_terms}
use Rattle.lego_match.proofs.ScopeLemmas.{pair_scoped}

-- a lowered term stands under the hypotheses alone
lowered_scoped : (locals hypotheses : ℕ) (body other : Core) → hypotheses ≤ locals → loose other ≤ locals → lift 0 (locals - hypotheses) body ≡ other → loose body ≤ hypotheses
lowered_scoped locals hypotheses body other le bound e =
    let l = lift-bound 0 (locals - hypotheses) body in
    let s = ap (λ (z : Core). loose z) e in
    omega arith

-- the pair has a hole to be solved
pub solution_verdict : (free : FreeHoles) (locals : ℕ) (p q other : Core) (xs : List Binder) (hole : Hole) (result : Result (Option Candidate) MatchFault)
    → Solves free locals p q hole.number hole.hypotheses other → hole.hypotheses ≤ locals → loose other ≤ locals → IsSolution hole other locals xs result → IsVerdict free locals p q xs result
solution_verdict free locals p q other xs hole (Ok (Some c)) s le bound w =
    rw w.0 (record { hypotheses = hole.hypotheses; other = other; solves = s; absent = w.1; lowered = w.2; scoped = lowered_scoped locals hole.hypotheses c.body other le bound w.2 })
solution_verdict free locals p q other xs hole (Ok None) s le bound w = absurd w
solution_verdict free locals p q other xs hole (Err (Occurs k)) s le bound w = rw w.0 (record { hypotheses = hole.hypotheses; other = other; solves = s; inside = w.1 })
solution_verdict free locals p q other xs hole (Err (Scope k i ys)) s le bound w =
    (w.1, rw w.0 (record { hypotheses = hole.hypotheses; other = other; solves = s; absent = w.2; first = w.3; is_local = w.4 }))
solution_verdict free locals p q other xs hole (Err (HigherOrder l r ys)) s le bound w = absurd w
solution_verdict free locals p q other xs hole (Err (Clash l r ys)) s le bound w = absurd w
solution_verdict free locals p q other xs hole (Err Budget) s le bound w = absurd w
solution_verdict free locals p q other xs hole (Err (TooLarge i j)) s le bound w = absurd w
solution_verdict free locals p q other xs hole (Err Memory) s le bound w = tt

-- and no such hole
pub unsolved_verdict : (free : FreeHoles) (locals : ℕ) (p q : Core) (xs : List Binder) (fault : MatchFault) → EndsHere free p q → ((k n : ℕ) → IsApplied free locals p k n → ⊥) → ((k n : ℕ) → IsApplied free locals q k n → ⊥)
    → IsUnsolved free p q xs fault → IsVerdict free locals p q xs (Err fault)
unsolved_verdict free locals p q xs (HigherOrder l r ys) ends np nq w = (w.0, w.1, w.2, record { head = w.3; left = np; right = nq })
unsolved_verdict free locals p q xs (Clash l r ys) ends np nq w = (w.0, w.1, w.2, record { left = w.3; right = w.4; forms = ends w.3 w.4 })
unsolved_verdict free locals p q xs (Occurs k) ends np nq w = absurd w
unsolved_verdict free locals p q xs (Scope k i ys) ends np nq w = absurd w
unsolved_verdict free locals p q xs Budget ends np nq w = absurd w
unsolved_verdict free locals p q xs (TooLarge i j) ends np nq w = absurd w
unsolved_verdict free locals p q xs Memory ends np nq w = absurd w

-- the answer for two terms is what their corresponding pair gives
pub pair_answer : (b : CoreBodies) (free : FreeHoles) (locals limit : ℕ) (t u p q : Core) (xs : List Binder) (result : Result (Option Candidate) MatchFault) → Corresponds b free t u xs p q → IsVerdict free (locals + length xs) p q xs result
    → IsAnswer b free locals t u limit result
pair_answer b free locals limit t u p q xs (Ok (Some c)) pair w = record { deeper = xs; left = p; right = q; pair = pair; solved = w }
pair_answer b free locals limit t u p q xs (Ok None) pair w = absurd w
pair_answer b free locals limit t u p q xs (Err (Occurs k)) pair w = (xs, (p, q, pair, w))
pair_answer b free locals limit t u p q xs (Err (Scope k i ys)) pair w = rw w.0 (p, q, pair, w.1)
pair_answer b free locals limit t u p q xs (Err (HigherOrder l r ys)) pair w = rw (w.0, w.1, w.2) (pair, w.3)
pair_answer b free locals limit t u p q xs (Err (Clash l r ys)) pair w = rw (w.0, w.1, w.2) (pair, w.3)
pair_answer b free locals limit t u p q xs (Err Budget) pair w = absurd w
pair_answer b free locals limit t u p q xs (Err (TooLarge i j)) pair w = absurd w
pair_answer b free locals limit t u p q xs (Err Memory) pair w = tt

module _ (free : FreeHoles) (locals depth : ℕ) (xs : List Binder) (p q : Core) (left right : Option Hole) (result : Result (Option Candidate) MatchFault) where
  abbrev Applied : Core → Option Hole → Type 0
  Applied t o = IfSome o (λ (h : Hole). IsApplied free locals t h.number h.hypotheses)

  abbrev Few : Option Hole → Type 0
  Few o = IfSome o (λ (h : Hole). h.hypotheses ≤ locals)

  abbrev NotApplied : Core → Option Hole → Type 0
  NotApplied t o = IfNone o ((k n : ℕ) → IsApplied free locals t k n → ⊥)

  at_locals : locals ≡ depth + length xs → IsVerdict free locals p q xs result → IsVerdict free (depth + length xs) p q xs result
  at_locals e w = subst (λ z. IsVerdict free z p q xs result) e w

  -- both parts are holes applied to their own hypotheses
  pub right_greater : (l r : Hole) → left ≡ Some l → right ≡ Some r → Applied p left → Applied q right → Few right → l.number < r.number → loose p ≤ depth + length xs → IsSolution r p locals xs result
      → locals ≡ depth + length xs → IsVerdict free (depth + length xs) p q xs result
  right_greater l r el er al ar few lt bound w is =
      let a = subst (Applied p) el al in
      let c = subst (Applied q) er ar in
      at_locals is (solution_verdict free locals p q p xs r result (of_right c (λ k n y. (let s = applied_hole_is free locals p l.number l.hypotheses k n a y in omega arith))) (subst Few er few) (omega arith) w)

  pub left_greater : (l r : Hole) → left ≡ Some l → right ≡ Some r → Applied p left → Applied q right → Few left → r.number ≤ l.number → (Agree p q → ⊥) → loose q ≤ depth + length xs → IsSolution l q locals xs result
      → locals ≡ depth + length xs → IsVerdict free (depth + length xs) p q xs result
  left_greater l r el er al ar few le apart bound w is =
      let a = subst (Applied p) el al in
      let c = subst (Applied q) er ar in
      at_locals is (solution_verdict free locals p q q xs l result (of_left a (λ k n y. less a c k n y)) (subst Few el few) (omega arith) w)
    where
      differ : Applied p (Some l) → Applied q (Some r) → r.number ≡ l.number → ⊥
      differ a c e = apart (one_applied free locals p q l.number l.hypotheses r.hypotheses a (subst (λ z. IsApplied free locals q z r.hypotheses) e c))

      less : Applied p (Some l) → Applied q (Some r) → (k n : ℕ) → IsApplied free locals q k n → k < l.number
      less a c k n y =
          let s = applied_hole_is free locals q r.number r.hypotheses k n c y in
          ⊎_elim (λ (lt : r.number < l.number). omega arith) (λ (ge : l.number ≤ r.number). absurd (differ a c (omega arith))) (cases_lt r.number l.number)

  -- one of them is
  pub left_alone : (l : Hole) → left ≡ Some l → right ≡ None → Applied p left → NotApplied q right → Few left → loose q ≤ depth + length xs → IsSolution l q locals xs result
      → locals ≡ depth + length xs → IsVerdict free (depth + length xs) p q xs result
  left_alone l el er al nr few bound w is =
      let none = subst (NotApplied q) er nr in
      at_locals is (solution_verdict free locals p q q xs l result (of_left (subst (Applied p) el al) (λ k n y. absurd (none k n y))) (subst Few el few) (omega arith) w)

  pub right_alone : (r : Hole) → left ≡ None → right ≡ Some r → NotApplied p left → Applied q right → Few right → loose p ≤ depth + length xs → IsSolution r p locals xs result
      → locals ≡ depth + length xs → IsVerdict free (depth + length xs) p q xs result
  right_alone r el er nl ar few bound w is =
      let none = subst (NotApplied p) el nl in
      at_locals is (solution_verdict free locals p q p xs r result (of_right (subst (Applied q) er ar) (λ k n y. absurd (none k n y))) (subst Few er few) (omega arith) w)

  -- neither is
  pub neither : (fault : MatchFault) → left ≡ None → right ≡ None → NotApplied p left → NotApplied q right → EndsHere free p q → IsUnsolved free p q xs fault
      → locals ≡ depth + length xs → IsVerdict free (depth + length xs) p q xs (Err fault)
  neither fault el er nl nr ends w is =
      subst (λ z. IsVerdict free z p q xs (Err fault)) is (unsolved_verdict free locals p q xs fault ends (subst (NotApplied p) el nl) (subst (NotApplied q) er nr) w)

-- what a stopped walk from two terms, under no binders before, says of the pair
pub record Ready (bodies : BodyMap) (free : FreeHoles) (depth : ℕ) (t u p q : Core) (xs : List Binder) : Type 0 where
  pub pair : Corresponds (bodies_in bodies) free t u xs p q
  pub locals : depth + length xs ≤ 67537
  pub left_scoped : loose p ≤ depth + length xs
  pub right_scoped : loose q ≤ depth + length xs
  pub left_low : HasLowVariables p
  pub right_low : HasLowVariables q
  pub apart : Agree p q → ⊥
  pub ends : EndsHere free p q

corresponds_apart : (b : CoreBodies) (free : FreeHoles) {t u p q : Core} {xs : List Binder} → Corresponds b free t u xs p q → Agree p q → ⊥
corresponds_apart b free (here m n d) = d
corresponds_apart b free (turn i m n fh fk sh sk lx rx before c) = corresponds_apart b free c

pub ready : (bodies : BodyMap) → AreClosed bodies → (free : FreeHoles) (depth : ℕ) (t u p q : Core) (old new : List Binder) → old ≡ [] → depth ≤ 65536 → loose t ≤ depth → loose u ≤ depth
    → StopsUnder free (λ xs. Corresponds (bodies_in bodies) free t u xs p q) 2001 p q old new → Ready bodies free depth t u p q new
ready bodies closed free depth t u p q old new none le tl ul w =
    let same : w.deeper ≡ new = sym (w.added ∙ ap (λ z. z ++ w.deeper) none) in
    let sc = pair_scoped bodies closed free w.pair in
    let sl = sc.left in
    let sr = sc.right in
    let short = w.short in
    subst (Ready bodies free depth t u p q) same (record {
      pair = w.pair;
      locals = omega arith;
      left_scoped = omega arith;
      right_scoped = omega arith;
      left_low = w.left_low;
      right_low = w.right_low;
      apart = corresponds_apart (bodies_in bodies) free w.pair;
      ends = w.ends;
    })

pub ready_at : (bodies : BodyMap) → AreClosed bodies → (free : FreeHoles) (depth : ℕ) (t u p q : Core) (at : Position) (old new : List Binder) (why : Stop) → old ≡ [] → depth ≤ 65536 → loose t ≤ depth → loose u ≤ depth → why ≡ Apart p q
    → StopsBy free (Corresponds (bodies_in bodies) free t u) (HasSteps (bodies_in bodies) t) (HasSteps (bodies_in bodies) u) at old new why → at.room ≡ 2001 → Ready bodies free depth t u p q new
ready_at bodies closed free depth t u p q at old new why none le tl ul e w room =
    ready bodies closed free depth t u p q old new none le tl ul
    (subst (λ z. StopsUnder free (λ xs. Corresponds (bodies_in bodies) free t u xs p q) z p q old new) room
    (subst (λ z. StopsBy free (Corresponds (bodies_in bodies) free t u) (HasSteps (bodies_in bodies) t) (HasSteps (bodies_in bodies) u) at old new z) e w))

-- and where it made too many steps
pub too_many_at : (b : CoreBodies) (free : FreeHoles) (t u : Core) (at : Position) (old new : List Binder) (why : Stop) → why ≡ stop.Budget → StopsBy free (Corresponds b free t u) (HasSteps b t) (HasSteps b u) at old new why
    → TooMany (HasSteps b t) (HasSteps b u) at.limit
too_many_at b free t u at old new why e w = subst (λ z. StopsBy free (Corresponds b free t u) (HasSteps b t) (HasSteps b u) at old new z) e w

-- the answer for two normal forms is one for the terms that have them
pub normal_answer : (b : CoreBodies) (free : FreeHoles) (locals limit : ℕ) (t u e f : Core) (result : Result (Option Candidate) MatchFault) → NormalForm b t e → NormalForm b u f → IsNormalAnswer b free locals e f result
    → IsAnswer b free locals t u limit result
normal_answer b free locals limit t u e f (Ok (Some c)) x y w = record { deeper = w.deeper; left = w.left; right = w.right; pair = pair_of_terms b free w.pair t u x y; solved = w.solved }
normal_answer b free locals limit t u e f (Ok None) x y w = agree_of_terms b t u e f x y w
normal_answer b free locals limit t u e f (Err (Occurs k)) x y w = (w.0, (w.1.0, w.1.1, pair_of_terms b free w.1.2 t u x y, w.1.3))
normal_answer b free locals limit t u e f (Err (Scope k i ys)) x y w = (w.0, w.1, pair_of_terms b free w.2 t u x y, w.3)
normal_answer b free locals limit t u e f (Err (HigherOrder l r ys)) x y w = (pair_of_terms b free w.0 t u x y, w.1)
normal_answer b free locals limit t u e f (Err (Clash l r ys)) x y w = (pair_of_terms b free w.0 t u x y, w.1)
normal_answer b free locals limit t u e f (Err Budget) x y w = absurd w
normal_answer b free locals limit t u e f (Err (TooLarge i j)) x y w = absurd w
normal_answer b free locals limit t u e f (Err Memory) x y w = tt

-- a pair gives an answer in which no limit counts
pub pair_normal_answer : (b : CoreBodies) (free : FreeHoles) (locals : ℕ) (t u p q : Core) (xs : List Binder) (result : Result (Option Candidate) MatchFault) → Corresponds b free t u xs p q → IsVerdict free (locals + length xs) p q xs result
    → IsNormalAnswer b free locals t u result
pair_normal_answer b free locals t u p q xs (Ok found) pair w = pair_answer b free locals 0 t u p q xs (Ok found) pair w
pair_normal_answer b free locals t u p q xs (Err (Occurs k)) pair w = pair_answer b free locals 0 t u p q xs (Err (Occurs k)) pair w
pair_normal_answer b free locals t u p q xs (Err (Scope k i ys)) pair w = pair_answer b free locals 0 t u p q xs (Err (Scope k i ys)) pair w
pair_normal_answer b free locals t u p q xs (Err (HigherOrder l r ys)) pair w = pair_answer b free locals 0 t u p q xs (Err (HigherOrder l r ys)) pair w
pair_normal_answer b free locals t u p q xs (Err (Clash l r ys)) pair w = pair_answer b free locals 0 t u p q xs (Err (Clash l r ys)) pair w
pair_normal_answer b free locals t u p q xs (Err Budget) pair w = absurd w
pair_normal_answer b free locals t u p q xs (Err (TooLarge i j)) pair w = absurd w
pair_normal_answer b free locals t u p q xs (Err Memory) pair w = tt

-- a normal form has no step to count
pub no_budget : (b : CoreBodies) (t u : Core) → IsNormal b t → IsNormal b u → TooMany (HasSteps b t) (HasSteps b u) 0 → ⊥
no_budget b t u e f w =
    let l = at_most (normal_step b) 0 w.left t t refl e w.left_has in
    let r = at_most (normal_step b) 0 w.right u u refl f w.right_has in
    let o = w.over in
    omega arith

-- the refusals of the whole normal forms
pub left_refused : (b : CoreBodies) (free : FreeHoles) (locals limit : ℕ) (t u : Core) (fault : ReduceFault) → Reduces (normal_step b) t limit (Err fault) → IsAnswer b free locals t u limit (Err (of_reduction fault))
left_refused b free locals limit t u reduce.Budget r = costly b t u (suc limit) 0 limit r (u, refl) (omega arith)
left_refused b free locals limit t u (reduce.TooLarge i j) r = inl r
left_refused b free locals limit t u reduce.Memory r = tt

pub right_refused : (b : CoreBodies) (free : FreeHoles) (locals limit steps : ℕ) (t u e : Core) (fault : ReduceFault) → after (normal_step b) steps t ≡ Some e → steps ≤ limit → Reduces (normal_step b) u (limit - steps) (Err fault)
    → IsAnswer b free locals t u limit (Err (of_reduction fault))
right_refused b free locals limit steps t u e reduce.Budget x le r = costly b t u steps (suc (limit - steps)) limit (e, x) r (omega arith)
right_refused b free locals limit steps t u e (reduce.TooLarge i j) x le r = let l = r.2 in inr (r.0, r.1, omega arith, r.3, r.4)
right_refused b free locals limit steps t u e reduce.Memory x le r = tt

pub over_budget : (b : CoreBodies) (free : FreeHoles) (locals limit : ℕ) (t u : Core) → TooMany (HasSteps b t) (HasSteps b u) limit → IsAnswer b free locals t u limit (Err Budget)
over_budget b free locals limit t u w = costly b t u w.left w.right limit w.left_has w.right_has w.over

-- an answer, clause by clause, where the free holes are given by a map
module _ (b : CoreBodies) (free free' : FreeHoles) (same : (k : ℕ) → free k ≡ free' k) (locals limit : ℕ) (t u : Core) where
  one : free ≡ free'
  one = λ i. λ k. same k i

  pub answer_found : (result : Result (Option Candidate) MatchFault) → IsAnswer b free locals t u limit result → IfOk result (λ answer. IfSome answer (λ (c : Candidate). IsCandidate b free' locals t u c.hole c.body))
  answer_found (Ok (Some c)) w = subst (λ z. IsCandidate b z locals t u c.hole c.body) one w
  answer_found (Ok None) w = tt
  answer_found (Err fault) w = tt

  pub answer_agreed : (result : Result (Option Candidate) MatchFault) → IsAnswer b free locals t u limit result → IfOk result (λ answer. IfNone answer (AgreeIn b t u))
  answer_agreed (Ok (Some c)) w = tt
  answer_agreed (Ok None) w = w
  answer_agreed (Err fault) w = tt

  pub answer_refused : (result : Result (Option Candidate) MatchFault) → IsAnswer b free locals t u limit result → IfErr result (λ fault. IsRefusedBy b free' locals t u limit fault)
  answer_refused (Ok found) w = tt
  answer_refused (Err fault) w = subst (λ z. IsRefusedBy b z locals t u limit fault) one w
