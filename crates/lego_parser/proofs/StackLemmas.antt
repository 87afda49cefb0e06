-- What ends of a stack's frames, by whether the frame on top is taken.
use Rattle.std.proofs.Common.{◌≡◌, suc, ◌<◌, List, [], ◌∷◌, length, Bool, true, false, Some, None, arith, refl, sym, ap, ◌∙◌}
use Rattle.lego_grammar.specs.Written.{Written}
use Rattle.lego_grammar.specs.private.Machine.{Frame, sums, pending, wrapped, summed, closed}
use Rattle.lego_parser.specs.private.Frames.{frame_of}
use Rattle.lego_parser.specs.private.Stack.{Stops, Takes, Ends}
use Rattle.lego_parser.specs.declared.modes.Frame.{Frame as Taken}
use Rattle.lego_parser.proofs.FrameLemmas.{summed_more, closed_more}

summed_end : (b : Bool) (v : Written) (fs : List Frame) → Stops sums fs → summed b v fs ≡ (v, fs)
summed_end b v [] h = refl
summed_end b v (f ∷ fs) h = rw h refl

closed_end : (b : Bool) (v : Written) (fs : List Frame) → Stops pending fs → closed b v fs ≡ (v, fs)
closed_end b v [] h = refl
closed_end b v (f ∷ fs) h = rw h refl

pub summed_stop : (b : Bool) (v : Written) (fs gs : List Frame) → fs ≡ gs → Stops sums gs → summed b v fs ≡ (v, gs)
summed_stop b v fs gs same h = ap (summed b v) same ∙ summed_end b v gs h

pub closed_stop : (b : Bool) (v : Written) (fs gs : List Frame) → fs ≡ gs → Stops pending gs → closed b v fs ≡ (v, gs)
closed_stop b v fs gs same h = ap (closed b v) same ∙ closed_end b v gs h

-- a frame is taken, and the value that it makes goes on
pub summed_on : (b : Bool) (f : Frame) (fs gs : List Frame) (v w : Written)
    → fs ≡ f ∷ gs → sums f ≡ true → w ≡ wrapped b f v → summed b v fs ≡ summed b w gs
summed_on b f fs gs v w top h e = summed_more b f fs gs top v h ∙ ap (λ u. summed b u gs) (sym e)

pub closed_on : (b : Bool) (f : Frame) (fs gs : List Frame) (v w : Written)
    → fs ≡ f ∷ gs → pending f ≡ true → w ≡ wrapped b f v → closed b v fs ≡ closed b w gs
closed_on b f fs gs v w top h e = closed_more b f fs gs top v h ∙ ap (λ u. closed b u gs) (sym e)

pub shorter : (f : Frame) (fs gs : List Frame) → fs ≡ f ∷ gs → length gs < length fs
shorter f fs gs top = let e : length fs ≡ suc (length gs) = ap length top in omega (arith, e)

-- the same, said of what is taken
module _ (b : Bool) (fs gs : List Frame) (v w : Written) where
  pub summed_ends : (f : Taken) → Takes sums fs (Some f) gs → w ≡ wrapped b (frame_of f) v → Ends (summed b) true v fs w gs
  summed_ends f t e = (summed_on b (frame_of f) fs gs v w t.0 t.1 e, shorter (frame_of f) fs gs t.0)

  pub summed_left : Takes sums fs None gs → w ≡ v → Ends (summed b) false v fs w gs
  summed_left t e = summed_stop b v fs gs t.0 t.1 ∙ ap (λ (u : Written). (u, gs)) (sym e)

  pub closed_ends : (f : Taken) → Takes pending fs (Some f) gs → w ≡ wrapped b (frame_of f) v → Ends (closed b) true v fs w gs
  closed_ends f t e = (closed_on b (frame_of f) fs gs v w t.0 t.1 e, shorter (frame_of f) fs gs t.0)

  pub closed_left : Takes pending fs None gs → w ≡ v → Ends (closed b) false v fs w gs
  closed_left t e = closed_stop b v fs gs t.0 t.1 ∙ ap (λ (u : Written). (u, gs)) (sym e)
