-- A walk through two terms, put together from its pieces.
use Rattle.std.proofs.Common.{◌≡◌, ℕ, suc, ◌+◌, ◌-◌, ◌≤◌, List, [], ◌++◌, Err, refl, sym, subst, arith}
use Rattle.std.proofs.lemmas.List.Elements.{All-nil}
use Rattle.lego_base.specs.declared.place.Place.{Place}
use Rattle.lego_term.specs.Trees.{Core, Equal}
use Rattle.lego_term.specs.Parts.{parts_of}
use Rattle.lego_term.specs.Sequences.{head_step, Ends}
use Rattle.lego_laws.specs.Parallel.{CoreBodies}
use Rattle.lego_laws.specs.Counting.{Walked, unvisited, on_the_way, through_parts, PartsWalked}
use Rattle.lego_laws.specs.Facing.{Order}
use Rattle.lego_laws.specs.Comparison.{Compared, m_equal, m_heads, FormsCompared}
use Rattle.lego_level.specs.declared.constraint.Constraint.{Constraint}
use Rattle.lego_reduce.specs.declared.fault.ReduceFault.{ReduceFault}
use Rattle.lego_reduce.specs.declared.fault.ReduceFault.TheVariants as reduce
use Rattle.lego_reduce.specs.Reduction.{Reduces}
use Rattle.lego_compare.specs.declared.stop.Stop.{Stop}
use Rattle.lego_compare.specs.declared.stop.Stop.TheVariants as stop
use Rattle.lego_compare.specs.declared.stop.Side.TheVariants.{Left, Right}
use Rattle.lego_compare.specs.private.Codes.{stop_on}
use Rattle.lego_compare.specs.Paths.{Leads, l_steps, l_heads, FormLeads, Large, tree, path}
use Rattle.lego_compare.specs.private.Walks.{Differ, d_heads, FormsDiffer, Passed, StopsBy, Heads}

module _ (b : CoreBodies) (o : Order) (t u : Core) (differ : Equal t u → ⊥) where
  abbrev Stops : (limit room crossed : ℕ) → Stop → Type 0
  Stops limit room crossed why = StopsBy (Differ b o t u) (Walked b t u) (Leads b t) (Leads b u) limit room crossed why

  -- the path has too many parts
  pub no_room : (room : ℕ) → room ≡ 0 → Large (Leads b t) room 1048577 2001
  no_room room e = path (subst (λ z. Leads b t z t) (sym e) (l_steps 0 refl))

  -- the head sequence of the left side stopped the walk
  left_fault : (limit room crossed : ℕ) (fault : ReduceFault) → Reduces (head_step b) t limit (Err fault) → Stops limit room crossed (stop_on Left fault)
  left_fault limit room crossed reduce.Budget h = record { left = suc limit; right = 0; walked = on_the_way (suc limit) 0 differ h.1 refl; over = omega arith }
  left_fault limit room crossed (reduce.TooLarge nodes levels) h = tree (l_steps h.0 h.3) h.4
  left_fault limit room crossed reduce.Memory h = tt

  pub left_stops : (limit room crossed : ℕ) (why : Stop) → Heads b Left t limit (Err why) → Stops limit room crossed why
  left_stops limit room crossed why h = subst (λ z. Stops limit room crossed z) (sym h.1) (left_fault limit room crossed h.0 h.2)

  -- the head sequence of the right side stopped it, behind the left one
  right_fault : (limit room crossed i : ℕ) (t' : Core) (fault : ReduceFault) → Ends (head_step b) t i t' → i ≤ limit → Reduces (head_step b) u (limit - i) (Err fault) → Stops limit room crossed (stop_on Right fault)
  right_fault limit room crossed i t' reduce.Budget e le h = record { left = i; right = suc (limit - i); walked = on_the_way i (suc (limit - i)) differ e.reaches h.1; over = omega arith }
  right_fault limit room crossed i t' (reduce.TooLarge nodes levels) e le h = tree (l_steps h.0 h.3) h.4
  right_fault limit room crossed i t' reduce.Memory e le h = tt

  pub right_stops : (limit room crossed i : ℕ) (t' : Core) (why : Stop) → Ends (head_step b) t i t' → i ≤ limit → Heads b Right u (limit - i) (Err why) → Stops limit room crossed why
  right_stops limit room crossed i t' why e le h = subst (λ z. Stops limit room crossed z) (sym h.1) (right_fault limit room crossed i t' h.0 e le h.2)

  module _ (i j : ℕ) (t' u' : Core) (left : Ends (head_step b) t i t') (right : Ends (head_step b) u j u') where
    large_left : {room nodes levels : ℕ} → Large (FormLeads b t') room nodes levels → Large (Leads b t) room nodes levels
    large_left (tree d o) = tree (l_heads (i, left) d) o
    large_left (path d) = path (l_heads (i, left) d)

    large_right : {room nodes levels : ℕ} → Large (FormLeads b u') room nodes levels → Large (Leads b u) room nodes levels
    large_right (tree d o) = tree (l_heads (j, right) d) o
    large_right (path d) = path (l_heads (j, right) d)

    -- the walk through the head forms stopped
    pub inner_stops : (limit room crossed : ℕ) (why : Stop) → i + j ≤ limit → StopsBy (FormsDiffer b o t' u') (PartsWalked b (parts_of t') (parts_of u')) (FormLeads b t') (FormLeads b u') (limit - (i + j)) room crossed why → Stops limit room crossed why
    inner_stops limit room crossed (stop.Differ h k deeper) le s = record { within = s.within; sum = s.sum; path = d_heads (i, left) (j, right) s.path }
    inner_stops limit room crossed stop.Budget le s =
        let lt = s.over in
        record { left = i + s.left; right = j + s.right; walked = through_parts differ left right s.walked; over = omega arith }
    inner_stops limit room crossed (stop.TooLarge Left nodes levels) le s = large_left s
    inner_stops limit room crossed (stop.TooLarge Right nodes levels) le s = large_right s
    inner_stops limit room crossed stop.Memory le s = tt

    -- it came to its end
    pub inner_passes : (limit steps : ℕ) (place : Place) (old new : List Constraint) → i + j ≤ limit → Passed (PartsWalked b (parts_of t') (parts_of u')) (FormsCompared b o t' u') (limit - (i + j)) place t' u' b old new steps → Passed (Walked b t u) (Compared b o t u) limit place t u b old new (i + j + steps)
    inner_passes limit steps place old new le s =
        let sum = s.sum in
        let w = s.within in
        record {
          more = s.more;
          added = s.added;
          compared = m_heads differ (i, left) (j, right) s.compared;
          left = i + s.left;
          right = j + s.right;
          walked = through_parts differ left right s.walked;
          sum = omega arith;
          within = omega arith;
          placed = s.placed;
        }

-- equal terms
module _ (b : CoreBodies) (o : Order) (t u : Core) where
  pub equal_passes : (limit : ℕ) (place : Place) (old : List Constraint) → old ≡ old ++ [] → Equal t u → Passed (Walked b t u) (Compared b o t u) limit place t u b old old 0
  equal_passes limit place old nil e =
      record {
        more = [];
        added = nil;
        compared = m_equal e;
        left = 0;
        right = 0;
        walked = unvisited;
        sum = refl;
        within = omega arith;
        placed = All-nil _;
      }
