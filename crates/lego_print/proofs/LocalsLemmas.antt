-- The local variables of a printer, by its frames.
use Rattle.std.proofs.Common.{◌≡◌, ℕ, ◌-◌, ◌<◌, ◌≤◌, Bool, true, false, ◌||◌, if◌then◌else◌, nat_eq, List, [], ◌∷◌, ◌++◌, map, reverse, length, drop, get_or, Option, Some, None, option_map, unwrap_or, IsSome, ◌↔◌, refl, sym, ap, ◌∙◌, arith, append-nil}
use Rattle.std.specs.Prelude.{slice_get, option_and_then, option_to_list}
use Rattle.std.specs.Option.{option_eq}
use Rattle.std.specs.List.{list_any}
use Rattle.std.proofs.lemmas.Bool.Decides.{nat_tests}
use Rattle.std.proofs.lemmas.List.{map-append, reverse-append, length-map, length-reverse, get_or-reverse}
use Rattle.std.proofs.lemmas.List.Elements.{filter_map-append}
use Rattle.std.proofs.lemmas.List.Folds.{list_any-append}
use Rattle.std.proofs.lemmas.Option.{slice_get-map, slice_get-get_or, slice_get_past, get_or_from_slice_get}
use Rattle.lego_base.specs.Names.{same_text}
use Rattle.lego_base.proofs.NamesLemmas.{list_any-map, map-push}
use Rattle.lego_print.specs.declared.locals.Frame.{Frame}
use Rattle.lego_print.specs.Names.{is_printed_as}
use Rattle.lego_print.specs.private.Counted.{IsAmong}
use Rattle.lego_print.specs.private.Numbered.{Numbered, numbered_frame, locals_of, printed, frame_texts}

abbrev Frames : Type 0
Frames = List (Option Frame)

abbrev Locals : Type 0
Locals = List (Option Numbered)

module _ {X Y : Type 0} (h : X → Y) where
  map-reverse : (xs : List X) → map h (reverse xs) ≡ reverse (map h xs)
  map-reverse [] = refl
  map-reverse (x ∷ xs) =
      ap (map h) (reverse-append (x ∷ []) xs) ∙ map-append h (reverse xs) (x ∷ [])
      ∙ ap (λ ys. ys ++ h x ∷ []) (map-reverse xs) ∙ sym (reverse-append (h x ∷ []) (map h xs))

or_swap : (a b : Bool) → (a || (b || false)) ≡ (b || a)
or_swap true true = refl
or_swap true false = refl
or_swap false true = refl
or_swap false false = refl

list_any-reverse : {X : Type 0} (p : X → Bool) (xs : List X) → list_any p (reverse xs) ≡ list_any p xs
list_any-reverse p [] = refl
list_any-reverse p (x ∷ xs) =
    ap (list_any p) (reverse-append (x ∷ []) xs) ∙ list_any-append p (reverse xs) (x ∷ [])
    ∙ ap (λ b. b || (p x || false)) (list_any-reverse p xs) ∙ or_swap (list_any p xs) (p x)

any_frame : (text : List ℕ) (frames : Frames) → list_any (is_printed_as text) (map (option_map (λ (n : Numbered). n.text)) (map (option_map numbered_frame) frames)) ≡ list_any (same_text text) (frame_texts frames)
any_frame text [] = refl
any_frame text (None ∷ frames) = any_frame text frames
any_frame text (Some f ∷ frames) = ap (λ b. same_text text f.text.items || b) (any_frame text frames)

-- a text is the printed name of a local variable exactly where it is the text of a frame
pub any_printed : (text : List ℕ) (frames : Frames) → list_any (is_printed_as text) (printed (locals_of frames)) ≡ list_any (same_text text) (frame_texts frames)
any_printed text frames =
    ap (list_any (is_printed_as text)) (map-reverse (option_map (λ (n : Numbered). n.text)) (map (option_map numbered_frame) frames))
    ∙ list_any-reverse (is_printed_as text) (map (option_map (λ (n : Numbered). n.text)) (map (option_map numbered_frame) frames))
    ∙ any_frame text frames

-- one more frame
pub locals-push : (frames : Frames) (f : Option Frame) → locals_of (frames ++ f ∷ []) ≡ option_map numbered_frame f ∷ locals_of frames
locals-push frames f = ap reverse (map-append (option_map numbered_frame) frames (f ∷ [])) ∙ reverse-append (map (option_map numbered_frame) frames) (option_map numbered_frame f ∷ [])

pub texts-none : (frames : Frames) → frame_texts (frames ++ None ∷ []) ≡ frame_texts frames
texts-none frames = filter_map-append (option_map (λ (f : Frame). f.text.items)) frames (None ∷ []) ∙ append-nil (frame_texts frames)

pub texts-some : (frames : Frames) (f : Frame) → frame_texts (frames ++ Some f ∷ []) ≡ frame_texts frames ++ f.text.items ∷ []
texts-some frames f = filter_map-append (option_map (λ (f : Frame). f.text.items)) frames (Some f ∷ [])

module _ {K : Type 0} (v : K → List ℕ) where
  -- a text that no local variable has goes last among the keys
  pub keys-push : (keys new : List K) (k : K) (frames : Frames) (f : Frame) → map v keys ≡ frame_texts frames → v k ≡ f.text.items
      → list_any (is_printed_as f.text.items) (printed (locals_of frames)) ≡ false
      → new ≡ (if list_any (λ x. same_text (v k) (v x)) keys then keys else keys ++ k ∷ [])
      → map v new ≡ frame_texts (frames ++ Some f ∷ [])
  keys-push keys new k frames f same is absent grown =
      let none : list_any (λ x. same_text (v k) (v x)) keys ≡ false =
      sym (list_any-map v (same_text (v k)) keys) ∙ ap (list_any (same_text (v k))) same ∙ ap (λ t. list_any (same_text t) (frame_texts frames)) is
      ∙ sym (any_printed f.text.items frames) ∙ absent in
      let all : new ≡ keys ++ k ∷ [] = grown ∙ ap (λ b. if b then keys else keys ++ k ∷ []) none in
      ap (map v) all ∙ map-push v (same_text []) keys k ∙ ap (λ ts. ts ++ v k ∷ []) same ∙ ap (λ t. frame_texts frames ++ t ∷ []) is ∙ sym (texts-some frames f)

  last_dropped : (xs ys : List (List ℕ)) (x y : List ℕ) → xs ++ x ∷ [] ≡ ys ++ y ∷ [] → xs ≡ ys
  last_dropped xs ys x y e =
      let backward : reverse xs ≡ reverse ys =
      ap (drop 1) (sym (reverse-append xs (x ∷ [])) ∙ ap reverse e ∙ reverse-append ys (y ∷ [])) in
      sym (twice xs) ∙ ap reverse backward ∙ twice ys
    where
      twice : (zs : List (List ℕ)) → reverse (reverse zs) ≡ zs
      twice [] = refl
      twice (z ∷ zs) = ap reverse (reverse-append (z ∷ []) zs) ∙ reverse-append (reverse zs) (z ∷ []) ∙ ap (λ t. z ∷ t) (twice zs)

  -- the last key is that of the last frame with a text
  pub keys-pop : (old new : List K) (r : Option K) (frames rest : Frames) (f : Frame) → map v old ≡ frame_texts frames → frames ≡ rest ++ Some f ∷ []
      → old ≡ new ++ option_to_list r → (IsSome r ↔ (0 < length old)) → map v new ≡ frame_texts rest
  keys-pop old new (Some k) frames rest f same is popped some =
      last_dropped (map v new) (frame_texts rest) (v k) f.text.items
      (sym (map-push v (same_text []) new k) ∙ ap (map v) (sym popped) ∙ same ∙ ap frame_texts is ∙ texts-some rest f)
  keys-pop [] new None frames rest f same is popped some = absurd (no_end (frame_texts rest) (same ∙ ap frame_texts is ∙ texts-some rest f))
    where
      no_end : (xs : List (List ℕ)) → [] ≡ xs ++ f.text.items ∷ [] → ⊥
      no_end [] e = cc
      no_end (x ∷ xs) e = cc
  keys-pop (k ∷ old) new None frames rest f same is popped some = absurd (no_some (some.1 (omega arith)))
    where
      no_some : IsSome {T = K} None → ⊥
      no_some e = cc

-- the local variable of an index
pub local_at : (frames : Frames) (i : ℕ) (f : Option Frame) → i < length frames → slice_get frames (length frames - 1 - i) ≡ Some f
    → slice_get (printed (locals_of frames)) i ≡ Some (option_map (λ (f : Frame). f.text.items) f)
local_at frames i f l at =
    let numbered = map (option_map numbered_frame) frames in
    let same : length numbered ≡ length frames = length-map frames (option_map numbered_frame) in
    let there : slice_get numbered (length frames - 1 - i) ≡ Some (option_map numbered_frame f) = slice_get-map (option_map numbered_frame) frames (length frames - 1 - i) ∙ ap (option_map (option_map numbered_frame)) at in
    let item : get_or (reverse numbered) i None ≡ option_map numbered_frame f =
    get_or-reverse numbered i None (omega arith) ∙ ap (λ n. get_or numbered (n - 1 - i) None) same ∙ get_or_from_slice_get numbered (length frames - 1 - i) (option_map numbered_frame f) None there in
    slice_get-map (option_map (λ (n : Numbered). n.text)) (reverse numbered) i
    ∙ ap (option_map (option_map (λ (n : Numbered). n.text))) (slice_get-get_or (reverse numbered) i None (omega (arith, length-reverse numbered)) ∙ ap (λ o. Some o) item)
    ∙ ap (λ o. Some o) (text_of f)
  where
    text_of : (f : Option Frame) → option_map (λ (n : Numbered). n.text) (option_map numbered_frame f) ≡ option_map (λ (f : Frame). f.text.items) f
    text_of None = refl
    text_of (Some f) = refl

pub no_local : (frames : Frames) (i : ℕ) → length frames ≤ i → slice_get (printed (locals_of frames)) i ≡ None
no_local frames i l =
    slice_get_past (printed (locals_of frames)) i
    (omega (arith, length-map (locals_of frames) (option_map (λ (n : Numbered). n.text)), length-reverse (map (option_map numbered_frame) frames), length-map frames (option_map numbered_frame)))

pub text_at : (xs : List (Option (List ℕ))) (i : ℕ) (o : Option (Option (List ℕ))) → slice_get xs i ≡ o → unwrap_or (option_and_then (λ text. text) (slice_get xs i)) [] ≡ unwrap_or (option_and_then (λ text. text) o) []
text_at xs i o h = ap (λ (o : Option (Option (List ℕ))). unwrap_or (option_and_then (λ text. text) o) []) h

-- a frame is among the local variables
pub frame_among : (frames : Frames) (p : ℕ) (f : Frame) → p < length frames → slice_get frames p ≡ Some (Some f) → IsAmong (locals_of frames) (numbered_frame f)
frame_among frames p f l at =
    let numbered = map (option_map numbered_frame) frames in
    let i = length frames - 1 - p in
    let same : length numbered ≡ length frames = length-map frames (option_map numbered_frame) in
    let there : slice_get numbered p ≡ Some (Some (numbered_frame f)) = slice_get-map (option_map numbered_frame) frames p ∙ ap (option_map (option_map numbered_frame)) at in
    let item : get_or (reverse numbered) i None ≡ Some (numbered_frame f) =
    get_or-reverse numbered i None (omega arith) ∙ ap (λ n. get_or numbered n None) (omega (arith, same)) ∙ get_or_from_slice_get numbered p (Some (numbered_frame f)) None there in
    (i, slice_get-get_or (reverse numbered) i None (omega (arith, length-reverse numbered)) ∙ ap (λ o. Some o) item)

same_number : (m n : ℕ) → nat_eq m n ≡ true → m ≡ n
same_number m n h = grind (arith, nat_tests)

-- names that are equal
pub same_wish : (a b : Option ℕ) → true ≡ option_eq nat_eq a b → a ≡ b
same_wish None None h = refl
same_wish None (Some n) h = absurd (cc)
same_wish (Some m) None h = absurd (cc)
same_wish (Some m) (Some n) h = ap (λ (k : ℕ). Some k) (same_number m n (sym h))
