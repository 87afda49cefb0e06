-- A walk through two terms, put together from their head forms and the walk through these.
use Rattle.std.proofs.Common.{◌≡◌, ℕ, suc, ◌+◌, ◌-◌, ◌≤◌, true, false, Some, Result, Ok, Err, List, [], refl, sym, ap, ◌∙◌, arith}
use Rattle.std.proofs.lemmas.List.{append-nil}
use Rattle.lego_term.specs.declared.binder.Binder.{Binder}
use Rattle.lego_term.specs.Trees.{Core, EqualButLevels}
use Rattle.lego_term.specs.Sequences.{head_step, normal_step, after, Ends}
use Rattle.lego_laws.specs.Parallel.{CoreBodies}
use Rattle.lego_laws.specs.HeadForms.{IsHeadForm}
use Rattle.lego_laws.proofs.lemmas.reduction.After.{after_add}
use Rattle.lego_laws.proofs.lemmas.comparison.Counted.{head_after, head_counted, parts_steps_are_counted}
use Rattle.lego_reduce.specs.declared.fault.ReduceFault.{ReduceFault}
use Rattle.lego_reduce.specs.declared.fault.ReduceFault.TheVariants as reduce
use Rattle.lego_reduce.specs.Reduction.{Reduces}
use Rattle.lego_match.specs.Holes.{FreeHoles}
use Rattle.lego_match.specs.Agreement.{but_for_levels, in_normal_forms}
use Rattle.lego_match.specs.Pairs.{Corresponds, here, turn}
use Rattle.lego_match.specs.private.Codes.{agree_at_root}
use Rattle.lego_match.specs.private.Faults.{stop_of}
use Rattle.lego_match.specs.private.Walks.{HasLowVariables, GoesOn, EndsHere, Walks, PartsWalk, Settles, Decides, Heads}
use Rattle.lego_match.specs.declared.stop.Stop.{Stop}
use Rattle.lego_match.specs.declared.stop.Stop.TheVariants.{Apart, Budget, Whole, Memory}
use Rattle.lego_match.specs.declared.walk.Position.{Position}
use Rattle.lego_match.proofs.AgreementLemmas.{shapes_agree}
use Rattle.lego_match.proofs.FormLemmas.{Ended, ended, before_heads}
use Rattle.lego_match.proofs.AgreeingLemmas.{no_local, forms_agree, heads_agree}
use Rattle.lego_match.proofs.HoleLemmas.{same_free_head}

module _ (b : CoreBodies) where
  -- whether two normal forms agree settles whether head forms do
  pub decided_settles : (h k p q : Core) (at : Position) (i j steps : ℕ) → Ends (normal_step b) h i p → Ends (normal_step b) k j q → i + j ≡ steps → steps ≤ at.limit → HasLowVariables p → HasLowVariables q
      → (result : Result ℕ Stop) → Decides p q steps result → Settles b h k at result
  decided_settles h k p q at i j steps x y sum le lp lq (Ok made) d =
      let e = d.1 in
      record {
        agreed = in_normal_forms (i, x) (j, y) d.0;
        kept = refl;
        left = i;
        right = j;
        left_has = (p, x.reaches);
        right_has = (q, y.reaches);
        sum = sum ∙ sym e;
        within = omega arith;
      }
  decided_settles h k p q at i j steps x y sum le lp lq (Err (Apart l r)) d =
      rw (d.1, d.2) (record { left = (i, x); right = (j, y); apart = d.0; left_low = lp; right_low = lq })
  decided_settles h k p q at i j steps x y sum le lp lq (Err Memory) d = tt
  decided_settles h k p q at i j steps x y sum le lp lq (Err Budget) d = absurd d
  decided_settles h k p q at i j steps x y sum le lp lq (Err Whole) d = absurd d

  pub left_end_fails : (h k : Core) (at : Position) (fault : ReduceFault) → at.are_normal ≡ false → Reduces (normal_step b) h at.limit (Err fault) → Settles b h k at (Err (stop_of fault))
  left_end_fails h k at reduce.Budget n r = record { left = suc at.limit; right = 0; left_has = r; right_has = (k, refl); over = omega arith }
  left_end_fails h k at (reduce.TooLarge i j) n r = λ t. cc
  left_end_fails h k at reduce.Memory n r = tt

  pub right_end_fails : (h k p : Core) (at : Position) (i : ℕ) (fault : ReduceFault) → at.are_normal ≡ false → after (normal_step b) i h ≡ Some p → i ≤ at.limit → Reduces (normal_step b) k (at.limit - i) (Err fault)
      → Settles b h k at (Err (stop_of fault))
  right_end_fails h k p at i reduce.Budget n x le r = record { left = i; right = suc (at.limit - i); left_has = (p, x); right_has = r; over = omega arith }
  right_end_fails h k p at i (reduce.TooLarge m j) n x le r = λ t. cc
  right_end_fails h k p at i reduce.Memory n x le r = tt

  module _ (free : FreeHoles) where
    ends_here : (h k p q : Core) → IsHeadForm b h → Ended b h p → Ended b k q → (GoesOn free h k → ⊥) → EndsHere free p q
    ends_here h k p q s l r why fp fq f e e' =
        why (
          sym (same_free_head free p h l.head) ∙ fp,
          sym (same_free_head free q k r.head) ∙ fq,
          shapes_agree h k f (sym l.shape ∙ e) (sym r.shape ∙ e') (λ y. no_local b h s (sym l.shape ∙ (e ∙ ap Some y))),
        )

    pub settled : (h k : Core) (at : Position) (old : List Binder) (result : Result ℕ Stop) → IsHeadForm b h → IsHeadForm b k → (GoesOn free h k → ⊥) → Settles b h k at result → Walks b free h k at old old result
    settled h k at old (Ok steps) s s' why w =
        record { agreed = w.agreed; kept = refl; left = w.left; right = w.right; left_has = w.left_has; right_has = w.right_has; sum = w.sum; within = w.within }
    settled h k at old (Err (Apart p q)) s s' why w =
        record {
          deeper = [];
          added = sym (append-nil old);
          short = omega arith;
          pair = here w.left w.right w.apart;
          ends = ends_here h k p q s (ended b h p s w.left) (ended b k q s' w.right) why;
          left_low = w.left_low;
          right_low = w.right_low;
        }
    settled h k at old (Err Budget) s s' why w = w
    settled h k at old (Err Whole) s s' why w = w
    settled h k at old (Err Memory) s s' why w = tt

    pub through_parts : (h k : Core) (at : Position) (old new : List Binder) (result : Result ℕ Stop) → IsHeadForm b h → IsHeadForm b k → agree_at_root h k ≡ true → PartsWalk b free h k 0 at old new result → Walks b free h k at old new result
    through_parts h k at old new (Ok steps) s s' e w =
        record {
          agreed = forms_agree b h k s s' e w.agreed;
          kept = w.kept;
          left = w.left;
          right = w.right;
          left_has = parts_steps_are_counted b h w.left s w.left_has;
          right_has = parts_steps_are_counted b k w.right s' w.right_has;
          sum = w.sum;
          within = w.within;
        }
    through_parts h k at old new (Err (Apart p q)) s s' e w = w
    through_parts h k at old new (Err Budget) s s' e w =
        record { left = w.left; right = w.right; left_has = parts_steps_are_counted b h w.left s w.left_has; right_has = parts_steps_are_counted b k w.right s' w.right_has; over = w.over }
    through_parts h k at old new (Err Whole) s s' e w = w
    through_parts h k at old new (Err Memory) s s' e w = tt

    pub equal_passes : (t u : Core) (at : Position) (old : List Binder) → EqualButLevels t u → Walks b free t u at old old (Ok 0)
    equal_passes t u at old e =
        record { agreed = but_for_levels e; kept = refl; left = 0; right = 0; left_has = (t, refl); right_has = (u, refl); sum = refl; within = omega arith }

    -- the corresponding pair of two terms is that of any on their head sequences
    pub pair_before : (i j : ℕ) (t u h k p q : Core) (xs : List Binder) → after (head_step b) i t ≡ Some h → after (head_step b) j u ≡ Some k → Corresponds b free h k xs p q → Corresponds b free t u xs p q
    pair_before i j t u h k p q _ x y (here m n d) = here (before_heads b i t h p x m) (before_heads b j u k q y n) d
    pair_before i j t u h k p q _ x y (turn {h = h'} {k = k'} o m n f g s s' l r a c) =
        turn o (i + m.0, record { reaches = after_add (head_step b) i m.0 t h h' x m.1.reaches; last = m.1.last })
        (j + n.0, record { reaches = after_add (head_step b) j n.0 u k k' y n.1.reaches; last = n.1.last }) f g s s' l r a c

    pub inner_passes : (t u h k : Core) (i j inner : ℕ) (at : Position) (old new : List Binder) → after (head_step b) i t ≡ Some h → after (head_step b) j u ≡ Some k → i + j ≤ at.limit
        → IsHeadForm b h → IsHeadForm b k → Walks b free h k (record at { limit = at.limit - (i + j) }) old new (Ok inner) → Walks b free t u at old new (Ok (i + j + inner))
    inner_passes t u h k i j inner at old new x y le s s' w =
        let sum = w.sum in
        let within = w.within in
        record {
          agreed = heads_agree b i j t u h k x y s s' w.agreed;
          kept = w.kept;
          left = i + w.left;
          right = j + w.right;
          left_has = head_counted b i w.left t h x w.left_has;
          right_has = head_counted b j w.right u k y w.right_has;
          sum = omega arith;
          within = omega arith;
        }

    pub inner_stops : (t u h k : Core) (i j : ℕ) (at : Position) (old new : List Binder) (why : Stop) → after (head_step b) i t ≡ Some h → after (head_step b) j u ≡ Some k → i + j ≤ at.limit
        → Walks b free h k (record at { limit = at.limit - (i + j) }) old new (Err why) → Walks b free t u at old new (Err why)
    inner_stops t u h k i j at old new (Apart p q) x y le w =
        record { deeper = w.deeper; added = w.added; short = w.short; pair = pair_before i j t u h k p q w.deeper x y w.pair; ends = w.ends; left_low = w.left_low; right_low = w.right_low }
    inner_stops t u h k i j at old new Budget x y le w =
        let over = w.over in
        record {
          left = i + w.left;
          right = j + w.right;
          left_has = head_counted b i w.left t h x w.left_has;
          right_has = head_counted b j w.right u k y w.right_has;
          over = omega arith;
        }
    inner_stops t u h k i j at old new Whole x y le w = w
    inner_stops t u h k i j at old new Memory x y le w = tt

    -- a head form was not reached
    pub left_stops : (t u : Core) (at : Position) (old : List Binder) (why : Stop) → at.are_normal ≡ false → Heads b t at.limit (Err why) → Walks b free t u at old old (Err why)
    left_stops t u at old why n h = rw h.1 (by_fault h.0 h.2)
      where
        by_fault : (fault : ReduceFault) → Reduces (head_step b) t at.limit (Err fault) → Walks b free t u at old old (Err (stop_of fault))
        by_fault reduce.Budget r = record { left = suc at.limit; right = 0; left_has = (r.0, head_after b (suc at.limit) t r.0 r.1); right_has = (u, refl); over = omega arith }
        by_fault (reduce.TooLarge i j) r = λ z. cc
        by_fault reduce.Memory r = tt

    pub right_stops : (t u h : Core) (i : ℕ) (at : Position) (old : List Binder) (why : Stop) → at.are_normal ≡ false → after (head_step b) i t ≡ Some h → i ≤ at.limit → Heads b u (at.limit - i) (Err why)
        → Walks b free t u at old old (Err why)
    right_stops t u h i at old why n x le w = rw w.1 (by_fault w.0 w.2)
      where
        by_fault : (fault : ReduceFault) → Reduces (head_step b) u (at.limit - i) (Err fault) → Walks b free t u at old old (Err (stop_of fault))
        by_fault reduce.Budget r =
            record { left = i; right = suc (at.limit - i); left_has = (h, head_after b i t h x); right_has = (r.0, head_after b (suc (at.limit - i)) u r.0 r.1); over = omega arith }
        by_fault (reduce.TooLarge k j) r = λ z. cc
        by_fault reduce.Memory r = tt
