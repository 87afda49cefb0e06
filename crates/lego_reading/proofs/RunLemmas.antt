-- Applications to several arguments, and runs of projections.
use Rattle.std.proofs.Common.{◌≡◌, ℕ, ◌+◌, ◌<◌, List, [], ◌∷◌, ◌++◌, length, map, take, drop, get_or, Result, refl, sym, ap, ◌∙◌, subst}
use Rattle.std.proofs.lemmas.List.{take-append-drop, take_more, map-append}
use Rattle.lego_term.specs.declared.binder.Mark.{Mark}
use Rattle.lego_term.specs.Trees.{Core, App}
use Rattle.lego_laws.specs.Entries.{Entry}
use Rattle.lego_grammar.specs.declared.surface.Part.{Part}
use Rattle.lego_grammar.specs.declared.surface.Surface.{Surface}
use Rattle.lego_grammar.specs.Written.{Written}
use Rattle.lego_grammar.specs.Surface.{written, applied, projected}
use Rattle.lego_grammar.specs.Scopes.{Scope, TypeVariables}
use Rattle.lego_grammar.specs.Reading.{project_core}
use Rattle.lego_reading.specs.declared.fault.ReadFault.{ReadFault}
use Rattle.lego_reading.specs.private.Parts.{IsReading, Stops, Outcome, IsMade}
use Rattle.lego_reading.specs.private.Binders.{written_argument}
use Rattle.lego_reading.proofs.PartLemmas.{project_is, operand_stops, apply_is, function_stops, argument_stops}
use Rattle.lego_reading.proofs.UniverseLemmas.{projected-push, arguments-push}

projected-append : (m : Written) (xs ys : List Part) → projected m (xs ++ ys) ≡ projected (projected m xs) ys
projected-append m [] ys = refl
projected-append m (x ∷ xs) ys = projected-append (Written.Project x m) xs ys

applied-append : (f : Written) (xs ys : List (Mark × Written)) → applied f (xs ++ ys) ≡ applied (applied f xs) ys
applied-append f [] ys = refl
applied-append f (x ∷ xs) ys = applied-append (Written.Apply x.0 f x.1) xs ys

module _ {es : List Entry} {types : TypeVariables} {scope : Scope} where
  under_parts : {limit : ℕ} {f : ReadFault} (m : Written) (parts : List Part) → Stops es types limit scope m f → Stops es types limit scope (projected m parts) f
  under_parts m [] h = h
  under_parts m (part ∷ parts) h = under_parts (Written.Project part m) parts (operand_stops h)

  under_arguments : {limit : ℕ} {f : ReadFault} (m : Written) (xs : List (Mark × Written)) → Stops es types limit scope m f → Stops es types limit scope (applied m xs) f
  under_arguments m [] h = h
  under_arguments m (x ∷ xs) h = under_arguments (Written.Apply x.0 m x.1) xs (function_stops h)

  -- what stops with the first projections, or arguments, stops with all
  pub parts_stop : {limit : ℕ} {f : ReadFault} (s : Written) (parts : List Part) (n : ℕ)
      → Stops es types limit scope (projected s (take n parts)) f → Stops es types limit scope (projected s parts) f
  parts_stop {limit} {f} s parts n h =
      subst (λ z. Stops es types limit scope z f) (sym (projected-append s (take n parts) (drop n parts)) ∙ ap (projected s) (take-append-drop n parts))
      (under_parts (projected s (take n parts)) (drop n parts) h)

  pub arguments_stop : {limit : ℕ} {f : ReadFault} (m : Written) (xs : List (Mark × Surface)) (n : ℕ)
      → Stops es types limit scope (applied m (map written_argument (take n xs))) f → Stops es types limit scope (applied m (map written_argument xs)) f
  arguments_stop {limit} {f} m xs n h =
      subst (λ z. Stops es types limit scope z f)
      (sym (applied-append m (map written_argument (take n xs)) (map written_argument (drop n xs)))
      ∙ ap (applied m) (sym (map-append written_argument (take n xs) (drop n xs)) ∙ ap (map written_argument) (take-append-drop n xs)))
      (under_arguments (applied m (map written_argument (take n xs))) (map written_argument (drop n xs)) h)

  -- one projection more
  pub part_more : (limit : ℕ) {m : Core} (s : Written) (parts : List Part) (i : ℕ) (d : Part) (result : Result Core ReadFault) → i < length parts
      → IsReading es types scope (projected s (take i parts)) m → IsMade (project_core (get_or parts i d) m) result
      → Outcome es types limit scope (projected s (take (i + 1) parts)) result
  part_more limit s parts i d result l r made =
      subst (λ z. Outcome es types limit scope z result)
      (sym (ap (projected s) (take_more parts i d l) ∙ projected-push s (take i parts) (get_or parts i d)))
      (project_is limit (get_or parts i d) result r made)

  -- one argument more
  pub argument_more : (limit : ℕ) {m a : Core} (f : Written) (xs : List (Mark × Surface)) (i : ℕ) (d : Mark × Surface) (result : Result Core ReadFault) → i < length xs
      → IsReading es types scope (applied f (map written_argument (take i xs))) m → IsReading es types scope (written (get_or xs i d).1) a
      → IsMade (App (get_or xs i d).0 m a) result → Outcome es types limit scope (applied f (map written_argument (take (i + 1) xs))) result
  argument_more limit f xs i d result l r a made =
      subst (λ z. Outcome es types limit scope z result) (sym (arguments-push f xs i d l)) (apply_is limit (get_or xs i d).0 result r a made)

  -- the same for an argument that was read from the list
  pub item_more : (limit : ℕ) {m a : Core} (f : Written) (xs : List (Mark × Surface)) (i : ℕ) (x : Mark × Surface) (result : Result Core ReadFault) → i < length xs
      → x ≡ get_or xs i x → IsReading es types scope (applied f (map written_argument (take i xs))) m → IsReading es types scope (written x.1) a
      → IsMade (App x.0 m a) result → Outcome es types limit scope (applied f (map written_argument (take (i + 1) xs))) result
  item_more limit {m} {a} f xs i x result l is r q made =
      argument_more limit f xs i x result l r (subst (λ (y : Mark × Surface). IsReading es types scope (written y.1) a) is q)
      (subst (λ (y : Mark × Surface). IsMade (App y.0 m a) result) is made)

  pub argument_halts : {limit : ℕ} {m : Core} {x : ReadFault} (f : Written) (xs : List (Mark × Surface)) (i : ℕ) (d : Mark × Surface) → i < length xs
      → IsReading es types scope (applied f (map written_argument (take i xs))) m → Stops es types limit scope (written (get_or xs i d).1) x
      → Stops es types limit scope (applied f (map written_argument xs)) x
  argument_halts {limit} {x = x} f xs i d l r h =
      arguments_stop f xs (i + 1) (subst (λ z. Stops es types limit scope z x) (sym (arguments-push f xs i d l)) (argument_stops r h))
