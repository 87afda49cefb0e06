-- The places of written `Type`s, and their level variables.
use Rattle.std.proofs.Common.{◌≡◌, ℕ, suc, ◌+◌, ◌<◌, Bool, true, false, ◌||◌, nat_eq, if◌then◌else◌, List, [], ◌∷◌, ◌++◌, length, map, take, get_or, position, Option, Some, None, option_map, IsSome, Result, Ok, Err, OnOk, refl, sym, ap, ◌∙◌, subst, arith}
use Rattle.std.specs.List.{AllByRecursion, list_any}
use Rattle.std.proofs.lemmas.List.{append_assoc, append-nil, map-append, take_more}
use Rattle.std.proofs.lemmas.List.Folds.{list_any-append}
use Rattle.std.proofs.lemmas.Bool.Decides.{nat_tests}
use Rattle.lego_base.specs.declared.place.Place.{Place}
use Rattle.lego_term.specs.declared.binder.Mark.{Mark}
use Rattle.lego_grammar.specs.declared.surface.Part.{Part}
use Rattle.lego_grammar.specs.declared.surface.Surface.{Surface}
use Rattle.lego_grammar.specs.Written.{Written}
use Rattle.lego_grammar.specs.Surface.{written, applied, projected}
use Rattle.lego_context.specs.Contexts.{Contents}
use Rattle.lego_context.specs.Changes.{with_universe}
use Rattle.lego_reading.specs.Universes.{type_places, is_place, with_place, with_places, variables_for, with_universes}
use Rattle.lego_reading.specs.private.Binders.{written_argument}
use Rattle.lego_reading.proofs.EntryLemmas.{position-cons}

pub places-append : (held xs ys : List Place) → with_places held (xs ++ ys) ≡ with_places (with_places held xs) ys
places-append held [] ys = refl
places-append held (x ∷ xs) ys = places-append (with_place held x) xs ys

pub universes-push : (c : Contents) (ps : List Place) (p : Place) → with_universes c (ps ++ p ∷ []) ≡ with_universe (with_universes c ps) p
universes-push c [] p = refl
universes-push c (x ∷ ps) p = universes-push (with_universe c x) ps p

pub applied-push : (f : Written) (xs : List (Mark × Written)) (x : Mark × Written) → applied f (xs ++ x ∷ []) ≡ Written.Apply x.0 (applied f xs) x.1
applied-push f [] x = refl
applied-push f (y ∷ xs) x = applied-push (Written.Apply y.0 f y.1) xs x

pub projected-push : (m : Written) (parts : List Part) (part : Part) → projected m (parts ++ part ∷ []) ≡ Written.Project part (projected m parts)
projected-push m [] part = refl
projected-push m (p ∷ parts) part = projected-push (Written.Project p m) parts part

pub projected-places : (m : Written) (parts : List Part) → type_places (projected m parts) ≡ type_places m
projected-places m [] = refl
projected-places m (part ∷ parts) = projected-places (Written.Project part m) parts

-- the places in arguments
abbrev pub argument_places : List (Mark × Surface) → List Place
argument_places [] = []
argument_places (x ∷ xs) = type_places (written x.1) ++ argument_places xs

pub applied-places : (f : Written) (xs : List (Mark × Surface)) → type_places (applied f (map written_argument xs)) ≡ type_places f ++ argument_places xs
applied-places f [] = sym (append-nil (type_places f))
applied-places f (x ∷ xs) = applied-places (Written.Apply x.0 f (written x.1)) xs ∙ append_assoc (type_places f) (type_places (written x.1)) (argument_places xs)

argument_places-append : (xs ys : List (Mark × Surface)) → argument_places (xs ++ ys) ≡ argument_places xs ++ argument_places ys
argument_places-append [] ys = refl
argument_places-append (x ∷ xs) ys =
    ap (λ ps. type_places (written x.1) ++ ps) (argument_places-append xs ys) ∙ sym (append_assoc (type_places (written x.1)) (argument_places xs) (argument_places ys))

argument_places-more : (xs : List (Mark × Surface)) (i : ℕ) (d : Mark × Surface) → i < length xs
    → argument_places (take (i + 1) xs) ≡ argument_places (take i xs) ++ type_places (written (get_or xs i d).1)
argument_places-more xs i d l =
    ap argument_places (take_more xs i d l) ∙ argument_places-append (take i xs) (get_or xs i d ∷ [])
    ∙ ap (λ ps. argument_places (take i xs) ++ ps) (append-nil (type_places (written (get_or xs i d).1)))

pub ok_then : {T X P Q : Type 0} (r : Result T X) → (P → Q) → OnOk r P → OnOk r Q
ok_then (Ok x) f p = f p
ok_then (Err e) f p = tt

-- the places of one part behind those of another
pub then_places : (start mid new xs ys zs : List Place) → zs ≡ xs ++ ys → mid ≡ with_places start xs → new ≡ with_places mid ys → new ≡ with_places start zs
then_places start mid new xs ys zs e m n =
    n ∙ ap (λ held. with_places held ys) m ∙ sym (places-append start xs ys) ∙ ap (with_places start) (sym e)

pub argument_gathered : (start mid new : List Place) (xs : List (Mark × Surface)) (i : ℕ) (x : Mark × Surface) → i < length xs → x ≡ get_or xs i x
    → mid ≡ with_places start (argument_places (take i xs)) → new ≡ with_places mid (type_places (written x.1)) → new ≡ with_places start (argument_places (take (i + 1) xs))
argument_gathered start mid new xs i x l is m n =
    then_places start mid new (argument_places (take i xs)) (type_places (written x.1)) (argument_places (take (i + 1) xs))
    (argument_places-more xs i x l ∙ ap (λ (y : Mark × Surface). argument_places (take i xs) ++ type_places (written y.1)) (sym is)) m n

-- one argument more
pub arguments-push : (f : Written) (xs : List (Mark × Surface)) (i : ℕ) (d : Mark × Surface) → i < length xs
    → applied f (map written_argument (take (i + 1) xs))
    ≡ Written.Apply (get_or xs i d).0 (applied f (map written_argument (take i xs))) (written (get_or xs i d).1)
arguments-push f xs i d l =
    ap (λ ys. applied f (map written_argument ys)) (take_more xs i d l) ∙ ap (applied f) (map-append written_argument (take i xs) (get_or xs i d ∷ []))
    ∙ applied-push f (map written_argument (take i xs)) (written_argument (get_or xs i d))

is_itself : (p : Place) → is_place p p ≡ true
is_itself p = rw (itself p.line, itself p.column) refl
  where
    itself : (n : ℕ) → nat_eq n n ≡ true
    itself n = grind (arith, nat_tests)

or_left : (a b : Bool) → a ≡ true → (a || b) ≡ true
or_left true b h = refl
or_left false b h = cc

or_right : (a b : Bool) → b ≡ true → (a || b) ≡ true
or_right true b h = refl
or_right false b h = h

module _ (q : Place → Bool) where
  any_kept : (held : List Place) (p : Place) → list_any q held ≡ true → list_any q (with_place held p) ≡ true
  any_kept held p h =
      elim (list_any (is_place p) held) as (λ b. list_any q (if b then held else held ++ p ∷ []) ≡ true) [
        | true ↦ h
        | false ↦ list_any-append q held (p ∷ []) ∙ or_left (list_any q held) (list_any q (p ∷ [])) h
      ]

  any_stays : (held ps : List Place) → list_any q held ≡ true → list_any q (with_places held ps) ≡ true
  any_stays held [] h = h
  any_stays held (p ∷ ps) h = any_stays (with_place held p) ps (any_kept held p h)

  position_found : (n : ℕ) (ps : List Place) → list_any q ps ≡ true → IsSome (option_map (λ i. n + i) (position q ps))
  position_found n ps h = found ps n h
    where
      mapped : (o : Option ℕ) (f : ℕ → ℕ) → IsSome o → IsSome (option_map f o)
      mapped (Some i) f h = h
      mapped None f h = h

      there : (ps : List Place) → list_any q ps ≡ true → IsSome (position q ps)
      there [] h = cc
      there (p ∷ ps) h =
          subst IsSome (sym (position-cons q p ps))
          (elim (q p) as (λ b. (b || list_any q ps) ≡ true → IsSome (if b then Some 0 else option_map suc (position q ps))) [
            | true ↦ λ e. refl
            | false ↦ λ e. mapped (position q ps) suc (there ps e)
          ] h)

      found : (ps : List Place) (n : ℕ) → list_any q ps ≡ true → IsSome (option_map (λ i. n + i) (position q ps))
      found ps n h = mapped (position q ps) (λ i. n + i) (there ps h)

taken : (held : List Place) (p : Place) → list_any (is_place p) (with_place held p) ≡ true
taken held p =
    elim (list_any (is_place p) held) as (λ b. list_any (is_place p) held ≡ b → list_any (is_place p) (if b then held else held ++ p ∷ []) ≡ true) [
      | true ↦ λ e. e
      | false ↦ λ e.
          list_any-append (is_place p) held (p ∷ [])
          ∙ or_right (list_any (is_place p) held) (list_any (is_place p) (p ∷ [])) (or_left (is_place p p) false (is_itself p))
    ] refl

pub all_held : (n : ℕ) (held ps : List Place) → AllByRecursion (λ p. IsSome (variables_for n (with_places held ps) p)) ps
all_held n held [] = tt
all_held n held (p ∷ ps) =
    (position_found (is_place p) n (with_places (with_place held p) ps) (any_stays (is_place p) (with_place held p) ps (taken held p)), all_held n (with_place held p) ps)

-- a place that is found is held, and one that is not is new
found_any : (q : Place → Bool) (ps : List Place) → list_any q ps ≡ false → position q ps ≡ None
found_any q [] h = refl
found_any q (p ∷ ps) h =
    position-cons q p ps
    ∙ elim (q p) as (λ b. (b || list_any q ps) ≡ false → (if b then Some 0 else option_map suc (position q ps)) ≡ None) [
      | true ↦ λ e. cc
      | false ↦ λ e. ap (option_map suc) (found_any q ps e)
    ] h

none_any : (q : Place → Bool) (ps : List Place) → position q ps ≡ None → list_any q ps ≡ false
none_any q [] h = refl
none_any q (p ∷ ps) h =
    elim (q p) as (λ b. (if b then Some 0 else option_map suc (position q ps)) ≡ None → (b || list_any q ps) ≡ false) [
      | true ↦ λ e. cc
      | false ↦ λ e. none_any q ps (unmapped (position q ps) e)
    ] (sym (position-cons q p ps) ∙ h)
  where
    unmapped : (o : Option ℕ) → option_map suc o ≡ None → o ≡ None
    unmapped None e = refl
    unmapped (Some j) e = cc

pub held_place : (held : List Place) (p : Place) (i : ℕ) → position (is_place p) held ≡ Some i → held ≡ with_place held p
held_place held p i e = by_test (list_any (is_place p) held) refl
  where
    by_test : (b : Bool) → list_any (is_place p) held ≡ b → held ≡ (if b then held else held ++ p ∷ [])
    by_test true is = refl
    by_test false is = let none = found_any (is_place p) held is in let wrong : ◌≡◌ {A = Option ℕ} (Some i) None = sym e ∙ none in cc

pub new_place : (held : List Place) (p : Place) → position (is_place p) held ≡ None → held ++ p ∷ [] ≡ with_place held p
new_place held p e = rw (none_any (is_place p) held e) refl
