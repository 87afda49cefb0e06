-- Binders of several names.
use Rattle.std.proofs.Common.{◌≡◌, ℕ, zero, suc, ◌<◌, ◌==◌, true, List, [], ◌∷◌, ◌++◌, length, take, drop, get_or, Some, Result, ◌≢◌, refl, sym, ap, ◌∙◌, subst, arith}
use Rattle.std.proofs.lemmas.Bool.{eqb-true}
use Rattle.std.proofs.lemmas.List.{take-append-drop, append-nil, take_all, drop_all, length-drop}
use Rattle.lego_term.specs.declared.binder.Mark.{Mark}
use Rattle.lego_term.specs.Trees.{Core}
use Rattle.lego_laws.specs.Entries.{Entry}
use Rattle.lego_grammar.specs.declared.surface.Kind.{Kind}
use Rattle.lego_grammar.specs.Written.{Written}
use Rattle.lego_grammar.specs.Scopes.{LocalVariable, Scope, TypeVariables}
use Rattle.lego_grammar.specs.Reading.{binder, bind_core, under_first}
use Rattle.lego_reading.specs.declared.fault.ReadFault.{ReadFault}
use Rattle.lego_reading.specs.private.Parts.{IsReading, Stops, Outcome, IsMade}
use Rattle.lego_reading.specs.private.Binders.{inner_scope, AreDomains}
use Rattle.lego_reading.proofs.PartLemmas.{domain_stops, named_bind_is, named_bind_stops}

-- names that the code counts as none
pub no_names : (names : List ℕ) → true ≡ (length names == 0) → names ≡ []
no_names [] e = refl
no_names (n ∷ names) e = absurd (omega (arith, eqb-true (suc (length names)) 0 (sym e)))

pub inner-push : (scope : Scope) (names : List ℕ) (n : ℕ) → inner_scope scope (names ++ n ∷ []) ≡ LocalVariable.Bound (Some n) ∷ inner_scope scope names
inner-push scope [] n = refl
inner-push scope (m ∷ names) n = inner-push (LocalVariable.Bound (Some m) ∷ scope) names n

one_more : {X : Type 0} (k : ℕ) (xs : List X) → drop (suc k) xs ≡ drop 1 (drop k xs)
one_more zero xs = refl
one_more (suc k) [] = refl
one_more (suc k) (x ∷ xs) = one_more k xs

pub drop-inner : (scope : Scope) (names : List ℕ) → drop (length names) (inner_scope scope names) ≡ scope
drop-inner scope [] = refl
drop-inner scope (n ∷ names) =
    one_more (length names) (inner_scope (LocalVariable.Bound (Some n) ∷ scope) names)
    ∙ ap (λ z. drop 1 z) (drop-inner (LocalVariable.Bound (Some n) ∷ scope) names)

whole_binder : (kind : Kind) (mark : Mark) (s t : Written) (names : List ℕ) → names ≢ [] → under_first kind mark names s t ≡ Written.Bind kind mark names s t
whole_binder kind mark s t [] h = absurd (h refl)
whole_binder kind mark s t (n ∷ names) h = refl

-- the turns of a loop that closes a binder name by name from the innermost
abbrev pub Closes : List Entry → TypeVariables → Kind → Mark → Written → Written → Scope → List ℕ → ℕ → Core → Type 0
Closes es types kind mark s t outer names left made =
    IsReading es types (inner_scope outer (take left names)) (under_first kind mark (drop left names) s t) made

pub close_start : (es : List Entry) (types : TypeVariables) (kind : Kind) (mark : Mark) (s t : Written) (outer : Scope) (names : List ℕ) (left : ℕ) (body : Core)
    → left ≡ length names → IsReading es types (inner_scope outer names) t body → Closes es types kind mark s t outer names left body
close_start es types kind mark s t outer names left body is r =
    let all : take left names ≡ names = take_all left names (omega arith) in
    let none : drop left names ≡ [] = drop_all left names (omega arith) in
    subst (λ z. IsReading es types (inner_scope outer z) (under_first kind mark (drop left names) s t) body) (sym all)
    (subst (λ z. IsReading es types (inner_scope outer names) (under_first kind mark z s t) body) (sym none) r)

module _ {es : List Entry} {types : TypeVariables} {s : Written} where
  pub domains_push : {scope : Scope} {names : List ℕ} {cores : List Core} (n : ℕ) (a : Core)
      → AreDomains es types s scope names cores → IsReading es types (inner_scope scope names) s a
      → AreDomains es types s scope (names ++ n ∷ []) (cores ++ a ∷ [])
  domains_push n a AreDomains.none r = AreDomains.some r AreDomains.none
  domains_push n a (AreDomains.some q h) r = AreDomains.some q (domains_push n a h r)

  pub domains_length : {scope : Scope} {names : List ℕ} {cores : List Core} → AreDomains es types s scope names cores → length cores ≡ length names
  domains_length AreDomains.none = refl
  domains_length (AreDomains.some q h) = ap suc (domains_length h)

  domains_take : {scope : Scope} {names : List ℕ} {cores : List Core} (k : ℕ)
      → AreDomains es types s scope names cores → AreDomains es types s scope (take k names) (take k cores)
  domains_take zero h = AreDomains.none
  domains_take (suc k) AreDomains.none = AreDomains.none
  domains_take (suc k) (AreDomains.some q h) = AreDomains.some q (domains_take k h)

  module _ (limit : ℕ) (kind : Kind) (mark : Mark) (t : Written) where
    -- what stops under a front of the names stops the binder
    pub climb : {scope : Scope} {front : List ℕ} {cores : List Core} (rest : List ℕ) (f : ReadFault) → AreDomains es types s scope front cores
        → Stops es types limit (inner_scope scope front) (under_first kind mark rest s t) f
        → Stops es types limit scope (under_first kind mark (front ++ rest) s t) f
    climb rest f AreDomains.none stops = stops
    climb rest f (AreDomains.some q h) stops = named_bind_stops q (climb rest f h stops)

    -- the binder of one name around what stands under it
    pub close_one : {outer : Scope} {names : List ℕ} {cores : List Core} {made : Core} (at e : ℕ) (d : Core) (result : Result Core ReadFault) → at < length names
        → AreDomains es types s outer names cores
        → IsReading es types (inner_scope outer (take (suc at) names)) (under_first kind mark (drop (suc at) names) s t) made
        → IsMade (bind_core kind (binder (Some (get_or names at e)) mark) (get_or cores at d) made) result
        → Outcome es types limit (inner_scope outer (take at names)) (under_first kind mark (drop at names) s t) result
    close_one at e d result l AreDomains.none r m = absurd (omega (arith, l))
    close_one zero e d result l (AreDomains.some {names = names} q h) r m = named_bind_is limit kind mark names t result q r m
    close_one (suc at) e d result l (AreDomains.some q h) r m = close_one at e d result (omega arith) h r m

    pub climb_front : {scope : Scope} {names : List ℕ} {cores : List Core} (at : ℕ) (f : ReadFault) → names ≢ [] → AreDomains es types s scope names cores
        → Stops es types limit (inner_scope scope (take at names)) (under_first kind mark (drop at names) s t) f
        → Stops es types limit scope (Written.Bind kind mark names s t) f
    climb_front {scope} {names} at f some h stops =
        subst (λ z. Stops es types limit scope z f) (ap (λ ns. under_first kind mark ns s t) (take-append-drop at names) ∙ whole_binder kind mark s t names some)
        (climb (drop at names) f (domains_take at h) stops)

    -- a domain that stops stops the binder
    pub domain_halts : {scope : Scope} (names : List ℕ) {front : List ℕ} {cores : List Core} (i : ℕ) (f : ReadFault) → i < length names → front ≡ take i names
        → AreDomains es types s scope front cores → Stops es types limit (inner_scope scope front) s f
        → Stops es types limit scope (Written.Bind kind mark names s t) f
    domain_halts {scope} names {front} i f l is h stops =
        subst (λ z. Stops es types limit scope z f)
        (ap (λ ns. under_first kind mark ns s t) (ap (λ ns. ns ++ drop i names) is ∙ take-append-drop i names) ∙ whole_binder kind mark s t names some)
        (climb (drop i names) f h (rest (drop i names) (let e = length-drop i names in omega arith)))
      where
        some : names ≢ []
        some = λ none. (let e = ap (λ (ns : List ℕ). length ns) none in omega (arith, l, e))

        rest : (ns : List ℕ) → 0 < length ns → Stops es types limit (inner_scope scope front) (under_first kind mark ns s t) f
        rest [] z = absurd (omega (arith, z))
        rest (n ∷ ns) z = domain_stops stops

    -- a body that stops stops the binder
    pub body_halts : {scope : Scope} {names : List ℕ} {cores : List Core} (f : ReadFault) → names ≢ [] → AreDomains es types s scope names cores
        → Stops es types limit (inner_scope scope names) t f → Stops es types limit scope (Written.Bind kind mark names s t) f
    body_halts {scope} {names} f some h stops =
        subst (λ z. Stops es types limit scope z f) (ap (λ ns. under_first kind mark ns s t) (append-nil names) ∙ whole_binder kind mark s t names some)
        (climb [] f h stops)

    pub close_turn : {outer : Scope} {names : List ℕ} {cores : List Core} {made : Core} (left at e : ℕ) (d : Core) (result : Result Core ReadFault)
        → left ≡ suc at → at < length names → AreDomains es types s outer names cores
        → IsReading es types (inner_scope outer (take left names)) (under_first kind mark (drop left names) s t) made
        → IsMade (bind_core kind (binder (Some (get_or names at e)) mark) (get_or cores at d) made) result
        → Outcome es types limit (inner_scope outer (take at names)) (under_first kind mark (drop at names) s t) result
    close_turn {outer} {names} {cores} {made} left at e d result is l h r m =
        close_one at e d result l h
        (subst (λ n. IsReading es types (inner_scope outer (take n names)) (under_first kind mark (drop n names) s t) made) is r) m

    pub close_end : (outer : Scope) (names : List ℕ) (left : ℕ) (made : Core) → left ≡ 0 → names ≢ []
        → IsReading es types (inner_scope outer (take left names)) (under_first kind mark (drop left names) s t) made
        → IsReading es types outer (Written.Bind kind mark names s t) made
    close_end outer names left made is some r =
        let last : IsReading es types outer (under_first kind mark names s t) made =
        subst (λ n. IsReading es types (inner_scope outer (take n names)) (under_first kind mark (drop n names) s t) made) is r in
        subst (λ z. IsReading es types outer z made) (whole_binder kind mark s t names some) last
