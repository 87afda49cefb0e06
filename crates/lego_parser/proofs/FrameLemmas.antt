-- The level of a stack.
use Rattle.std.proofs.Common.{◌≡◌, ℕ, suc, ◌≤◌, List, [], ◌∷◌, length, Bool, true, false, if◌then◌else◌, arith, map, refl, ap, ◌∙◌}
use Rattle.std.specs.Prelude.{reverse}
use Rattle.std.proofs.lemmas.List.{length-reverse, length-map}
use Rattle.lego_grammar.specs.Written.{Written}
use Rattle.lego_grammar.specs.private.Machine.{Frame, nests, height, sums, pending, wrapped, summed, closed}

one_more : (b : Bool) (m n : ℕ) → m ≤ n → (if b then suc m else m) ≤ suc n
one_more true m n h = omega (arith, h)
one_more false m n h = omega (arith, h)

pub height-length : (fs : List Frame) → height fs ≤ length fs
height-length [] = omega arith
height-length (f ∷ fs) = one_more (nests f) (height fs) (length fs) (height-length fs)

pub height-awaited : {X : Type 0} (g : X → Frame) (xs : List X) → height (reverse (map g xs)) ≤ length xs
height-awaited g xs =
    let h = height-length (reverse (map g xs)) in
    let e : length (reverse (map g xs)) ≡ length xs = length-reverse (map g xs) ∙ length-map xs g in
    omega (arith, h, e)

-- what a spine and a term end of the frames, by the frame on top
module _ (b : Bool) (f : Frame) (fs gs : List Frame) (top : fs ≡ f ∷ gs) where
  pub summed_more : (v : Written) → sums f ≡ true → summed b v fs ≡ summed b (wrapped b f v) gs
  summed_more v h = ap (summed b v) top ∙ rw h refl

  pub closed_more : (v : Written) → pending f ≡ true → closed b v fs ≡ closed b (wrapped b f v) gs
  closed_more v h = ap (closed b v) top ∙ rw h refl
