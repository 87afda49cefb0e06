-- Lists of constraints, and what is said of their parts.
use Rattle.std.proofs.Common.{◌≡◌, ℕ, ◌+◌, ◌-◌, ◌<◌, ◌≤◌, List, [], ◌∷◌, ◌++◌, length, take, drop, sym, ap, ◌∙◌, inl, inr, ⊎_elim, arith, subst}
use Rattle.std.proofs.lemmas.List.{append_assoc, take-append-drop, take-take, length-take-le}
use Rattle.std.proofs.lemmas.List.Elements.{Contains-append_left}
use Rattle.lego_term.specs.Levels.{Assignment, SatisfiesAll}
use Rattle.lego_level.specs.declared.constraint.Constraint.{Constraint}
use Rattle.lego_level.specs.declared.solver.InsertFault.{InsertFault}
use Rattle.lego_level.specs.declared.solver.InsertFault.TheVariants as insert
use Rattle.lego_level.specs.Graphs.{pairs_of, IsKnown, CanBeSatisfiedWithin}
use Rattle.lego_level.specs.private.Faults.{IsInsertFault}
use Rattle.lego_level.specs.Refusals.{graph_fault, IsGraphFault}
use Rattle.lego_level.proofs.LeastLemmas.{meets, satisfies}

pub satisfies_front : (v : Assignment) (xs ys : List Constraint) → SatisfiesAll v (pairs_of (xs ++ ys)) → SatisfiesAll v (pairs_of xs)
satisfies_front v xs ys all = satisfies v xs (λ c h. meets v (xs ++ ys) all c (Contains-append_left xs ys c h))

pub within_front : (xs ys : List Constraint) → CanBeSatisfiedWithin (xs ++ ys) → CanBeSatisfiedWithin xs
within_front xs ys w = (w.0, satisfies_front w.0 xs ys w.1, w.2)

pub within_take : (n : ℕ) (xs : List Constraint) → CanBeSatisfiedWithin xs → CanBeSatisfiedWithin (take n xs)
within_take n xs w = within_front (take n xs) (drop n xs) (subst CanBeSatisfiedWithin (sym (take-append-drop n xs)) w)

pub fault_more : (xs ys : List Constraint) (f : InsertFault) → IsInsertFault xs f → IsGraphFault (xs ++ ys) (graph_fault f)
fault_more xs ys (insert.Cycle cycle) k = (
  record {
    from = k.0.from;
    walk = k.0.walk;
    known = λ c h. ⊎_elim {C = IsKnown (xs ++ ys) c} (λ y. inl (Contains-append_left xs ys c y)) (λ y. inr y) (k.0.known c h);
  },
  λ s. k.1 (s.0, satisfies_front s.0 xs ys s.1),
)
fault_more xs ys insert.Memory k = tt

-- the parts of a list of held and new constraints, at a turn
pub taken_more : (solver now more : List Constraint) (i : ℕ) (c : Constraint) → solver ≡ now ++ take i more → take (i + 1) more ≡ take i more ++ c ∷ [] → solver ++ c ∷ [] ≡ now ++ take (i + 1) more
taken_more solver now more i c is took = ap (λ z. z ++ c ∷ []) is ∙ (append_assoc now (take i more) (c ∷ []) ∙ ap (λ z. now ++ z) (sym took))

pub all_of : (now more : List Constraint) (j : ℕ) → now ++ more ≡ (now ++ take j more) ++ drop j more
all_of now more j = ap (λ z. now ++ z) (sym (take-append-drop j more)) ∙ sym (append_assoc now (take j more) (drop j more))

pub pop_first : {X : Type 0} (held : ℕ) (now old new : List X) → old ≡ take (length old) now → new ≡ take (length old - 1) old → held < length old → held ≤ length now
    → (new ≡ take (length new) now) × (held ≤ length new) × (length new < length old)
pop_first held now old new first is more within =
    let l : length new ≡ length old - 1 = ap length is ∙ length-take-le (length old - 1) old (omega arith) in
    let e : new ≡ take (length old - 1) now = is ∙ (ap (take (length old - 1)) first ∙ take-take (length old - 1) (length old) now (omega arith)) in
    (e ∙ ap (λ n. take n now) (sym l), omega (arith, l, more), omega (arith, l, more))
