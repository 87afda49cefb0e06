-- What a reading asks holds of the parts.
use Rattle.std.proofs.Common.{◌≡◌, ℕ, zero, suc, ◌+◌, ◌≤◌, ◌<◌, List, [], ◌∷◌, ◌++◌, length, map, get_or, Some, None, IsSome, sym, subst, arith}
use Rattle.std.specs.List.{AllByRecursion}
use Rattle.lego_base.specs.declared.place.Place.{Place}
use Rattle.lego_term.specs.declared.binder.Mark.{Mark}
use Rattle.lego_term.specs.Trees.{Core, loose}
use Rattle.lego_grammar.specs.declared.surface.Kind.{Kind}
use Rattle.lego_grammar.specs.declared.surface.Part.{Part}
use Rattle.lego_grammar.specs.Written.{Written}
use Rattle.lego_grammar.specs.Surface.{written, applied, projected}
use Rattle.lego_grammar.specs.declared.surface.Surface.{Surface}
use Rattle.lego_grammar.specs.Scopes.{LocalVariable, Scope}
use Rattle.lego_context.specs.Contexts.{Contents}
use Rattle.lego_reading.specs.Universes.{type_places, variables_for}
use Rattle.lego_reading.specs.private.Variables.{AreOver}
use Rattle.lego_reading.specs.private.Parts.{IsReady}
use Rattle.lego_reading.specs.private.Binders.{inner_scope, written_argument}

module _ {X : Type 0} (P : X → Type 0) where
  pub every_left : (xs ys : List X) → AllByRecursion P (xs ++ ys) → AllByRecursion P xs
  every_left [] ys h = tt
  every_left (x ∷ xs) ys h = (h.0, every_left xs ys h.1)

  pub every_right : (xs ys : List X) → AllByRecursion P (xs ++ ys) → AllByRecursion P ys
  every_right [] ys h = h
  every_right (x ∷ xs) ys h = every_right xs ys h.1

pub length-inner : (scope : Scope) (names : List ℕ) → length (inner_scope scope names) ≡ length names + length scope
length-inner scope [] = omega arith
length-inner scope (n ∷ names) = let e = length-inner (LocalVariable.Bound (Some n) ∷ scope) names in omega arith

over-inner : (scope : Scope) (names : List ℕ) → AreOver scope → AreOver (inner_scope scope names)
over-inner scope [] h = h
over-inner scope (n ∷ names) h = over-inner (LocalVariable.Bound (Some n) ∷ scope) names h

-- the place has a level variable
abbrev Held : Contents → List Place → Place → Type 0
Held c places p = IsSome (variables_for c.levels places p)

module _ {c : Contents} {places : List Place} where
  pub ready_in : {a b : Scope} {s : Written} → b ≡ a → IsReady c places a s → IsReady c places b s
  ready_in {s = s} e r = subst (λ z. IsReady c places z s) (sym e) r

  -- a domain under a front of the names, and the body under all
  pub ready_domain : {scope : Scope} {kind : Kind} {mark : Mark} {names : List ℕ} {s t : Written} (front : List ℕ)
      → length front ≤ length names → IsReady c places scope (Written.Bind kind mark names s t) → IsReady c places (inner_scope scope front) s
  ready_domain {scope} {names = names} {s = s} {t = t} front le r = record {
    few = let f = r.few in let l = length-inner scope front in omega arith;
    held = every_left (Held c places) (type_places s) (type_places t) r.held;
    room = r.room;
    over = over-inner scope front r.over;
  }

  pub ready_body : {scope : Scope} {kind : Kind} {mark : Mark} {names : List ℕ} {s t : Written}
      → IsReady c places scope (Written.Bind kind mark names s t) → IsReady c places (inner_scope scope names) t
  ready_body {scope} {names = names} {s = s} {t = t} r = record {
    few = let f = r.few in let l = length-inner scope names in omega arith;
    held = every_right (Held c places) (type_places s) (type_places t) r.held;
    room = r.room;
    over = over-inner scope names r.over;
  }

  pub ready_nameless : {scope : Scope} {kind : Kind} {mark : Mark} {s t : Written}
      → IsReady c places scope (Written.Bind kind mark [] s t) → IsReady c places (LocalVariable.Bound None ∷ scope) t
  ready_nameless {s = s} {t = t} r = record { few = let f = r.few in omega arith; held = every_right (Held c places) (type_places s) (type_places t) r.held; room = r.room; over = r.over }

  pub ready_value : {scope : Scope} {n : ℕ} {s t : Written} → IsReady c places scope (Written.Local n s t) → IsReady c places scope s
  ready_value {s = s} {t = t} r = record { few = let f = r.few in omega arith; held = every_left (Held c places) (type_places s) (type_places t) r.held; room = r.room; over = r.over }

  pub ready_local : {scope : Scope} {n : ℕ} {s t : Written} {m : Core}
      → loose m ≤ length scope → IsReady c places scope (Written.Local n s t) → IsReady c places (LocalVariable.Defined n m ∷ scope) t
  ready_local {s = s} {t = t} l r = record { few = let f = r.few in omega arith; held = every_right (Held c places) (type_places s) (type_places t) r.held; room = r.room; over = (l, r.over) }

  pub ready_function : {scope : Scope} {mark : Mark} {s t : Written} → IsReady c places scope (Written.Apply mark s t) → IsReady c places scope s
  ready_function {s = s} {t = t} r = record { few = let f = r.few in omega arith; held = every_left (Held c places) (type_places s) (type_places t) r.held; room = r.room; over = r.over }

  pub ready_argument : {scope : Scope} {mark : Mark} {s t : Written} → IsReady c places scope (Written.Apply mark s t) → IsReady c places scope t
  ready_argument {s = s} {t = t} r = record { few = let f = r.few in omega arith; held = every_right (Held c places) (type_places s) (type_places t) r.held; room = r.room; over = r.over }

  -- a function with its first arguments
  pub ready_applied : {scope : Scope} (f : Written) (xs : List (Mark × Written)) → IsReady c places scope (applied f xs) → IsReady c places scope f
  ready_applied f [] r = r
  ready_applied f (x ∷ xs) r = ready_function (ready_applied (Written.Apply x.0 f x.1) xs r)

  pub ready_item : {scope : Scope} (f : Written) (xs : List (Mark × Surface)) (i : ℕ) (x : Mark × Surface) → i < length xs → x ≡ get_or xs i x
      → IsReady c places scope (applied f (map written_argument xs)) → IsReady c places scope (written x.1)
  ready_item f [] i x l is r = absurd (omega (arith, l))
  ready_item {scope} f (y ∷ xs) zero x l is r =
      subst (λ (z : Mark × Surface). IsReady c places scope (written z.1)) (sym is)
      (ready_argument (ready_applied (Written.Apply y.0 f (written y.1)) (map written_argument xs) r))
  ready_item f (y ∷ xs) (suc i) x l is r = ready_item (Written.Apply y.0 f (written y.1)) xs i x (omega arith) is r

  pub ready_projected : {scope : Scope} (s : Written) (parts : List Part) → IsReady c places scope (projected s parts) → IsReady c places scope s
  ready_projected s [] r = r
  ready_projected {scope} s (part ∷ parts) r =
      let q = ready_projected (Written.Project part s) parts r in record { few = q.few; held = q.held; room = q.room; over = q.over }

  pub ready_type : {scope : Scope} {m n t : Written} → IsReady c places scope (Written.Pair m n t) → IsReady c places scope t
  ready_type {m = m} {n = n} {t = t} r = record {
    few = let f = r.few in omega arith;
    held = every_left (Held c places) (type_places t) (type_places m) (every_left (Held c places) (type_places t ++ type_places m) (type_places n) r.held);
    room = r.room;
    over = r.over;
  }

  pub ready_first : {scope : Scope} {m n t : Written} → IsReady c places scope (Written.Pair m n t) → IsReady c places scope m
  ready_first {m = m} {n = n} {t = t} r = record {
    few = let f = r.few in omega arith;
    held = every_right (Held c places) (type_places t) (type_places m) (every_left (Held c places) (type_places t ++ type_places m) (type_places n) r.held);
    room = r.room;
    over = r.over;
  }

  pub ready_second : {scope : Scope} {m n t : Written} → IsReady c places scope (Written.Pair m n t) → IsReady c places scope n
  ready_second {m = m} {n = n} {t = t} r = record {
    few = let f = r.few in omega arith;
    held = every_right (Held c places) (type_places t ++ type_places m) (type_places n) r.held;
    room = r.room;
    over = r.over;
  }
