-- The first state above the limit stands before the first token of nesting 501.
use Rattle.std.proofs.Common.{◌≡◌, ◌⊎◌, inl, inr, ℕ, zero, suc, ◌≤◌, ◌<◌, List, [], ◌∷◌, false, Option, Some, None, slice_get, map, take, length, refl, sym, ap, ◌∙◌, arith}
use Rattle.std.specs.Prelude.{All, slice_index_or}
use Rattle.std.proofs.lemmas.Bool.{cases_lt}
use Rattle.lego_grammar.specs.Grammar.{Names, Nested, Item, item}
use Rattle.lego_grammar.specs.private.Machine.{Frame, Mode, State, state, move, level}
use Rattle.lego_grammar.specs.private.Runs.{class, goes}
use Rattle.lego_parser.specs.private.Scanning.{Shallow}
use Rattle.lego_grammar.proofs.Transitions.{Fits, Move, Runs}
use Rattle.lego_grammar.proofs.Nesting.{Opens, Follows, at_level, is_below, follows}
use Rattle.lego_grammar.proofs.Moving.{move_to}
use Rattle.lego_grammar.proofs.Unique.{fits_zero}

pub the : {X : Type 0} {x y : X} → Some x ≡ Some y → x ≡ y
the {X} {x} e = ap get e
  where
    get : Option X → X
    get (Some z) = z
    get None = x

-- a state within the limit, or the first one above it
abbrev pub Entry : Mode → List Frame → Type 0
Entry m fs = (level (state m fs) ≤ 500) ⊎ ((level (state m fs) ≡ 501) × Opens m)

-- token i is the first of nesting 501
pub record DeepAt (ts : List Nested) (i : ℕ) : Type 0 where
  pub token : Nested
  pub there : slice_get ts i ≡ Some token
  pub deep : token.nesting ≡ 501
  pub first : (j : ℕ) (t : Nested) → j < i → slice_get ts j ≡ Some t → t.nesting < 501

at_index : (ts : List Nested) (k : ℕ) (d : Nested) → k < length ts → slice_get ts k ≡ Some (slice_index_or ts k d)
at_index [] k d h = absurd (omega (arith, h))
at_index (t ∷ ts) zero d h = refl
at_index (t ∷ ts) (suc k) d h = at_index ts k d (omega (arith, h))

module _ (names : Names) where
  moved : {m m' : Mode} {fs gs : List Frame} {t : Nested} {n : ℕ} → Fits names false t.lexeme n → Move false m fs t n m' gs
      → move false (class t.lexeme) t.place 0 (state m fs) ≡ Some (state m' gs)
  moved {m} {fs = fs} {t = t} {n = n} f x =
      let z : n ≡ 0 = fits_zero names t.lexeme f in ap (λ k. move false (class t.lexeme) t.place k (state m fs)) (sym z) ∙ move_to false x

  next_shallow : {m m' : Mode} {fs gs : List Frame} {t : Nested} {n : ℕ} (is : List Item) (k : ℕ) → Fits names false t.lexeme n → Move false m fs t n m' gs
      → Shallow m fs (item t ∷ is) (suc k) → Shallow m' gs is k
  next_shallow is k f x sh = λ j s h e. sh (suc j) s (omega (arith, h)) (ap (λ o. goes (take j is) o) (moved f x) ∙ e)

  enters : (m : Mode) (fs : List Frame) (d : ℕ) → d ≤ 500 → Follows d m fs → Entry m fs
  enters m fs d h (inl k) = inl (omega (arith, h, k))
  enters m fs d h (inr k) = pick (cases_lt d 500)
    where
      pick : (d < 500) ⊎ (500 ≤ d) → Entry m fs
      pick (inl q) = let e = k.0 in inl (omega (arith, q, e))
      pick (inr q) = let e = k.0 in inr (omega (arith, q, e, h), k.1)

  low_head : {t u : Nested} → t.nesting ≤ 500 → Some t ≡ Some u → u.nesting < 501
  low_head {t} h e = let q = ap (λ (z : Nested). z.nesting) (the e) in omega (arith, h, q)

  -- the first state above the limit
  pub deep_at : {m m' : Mode} {fs fs' : List Frame} {ts : List Nested} (i : ℕ) {s : State} → Runs names false m fs ts m' fs' → Entry m fs → i < length ts
      → goes (take i (map item ts)) (Some (state m fs)) ≡ Some s → 500 < level s → Shallow m fs (map item ts) i → DeepAt ts i
  deep_at i Runs.stay en l e h sh = absurd (omega (arith, l))
  deep_at zero (Runs.go f x r) (inl a) l e h sh = let q = ap (λ (z : State). level z) (the e) in absurd (omega (arith, a, q, h))
  deep_at zero (Runs.go {t = t} f x r) (inr a) l e h sh =
      record { token = t; there = refl; deep = at_level false a.1 x ∙ a.0; first = λ j u k g. absurd (omega (arith, k)) }
  deep_at {m} {fs = fs} (suc i) (Runs.go {m' = m1} {fs' = f1} {t = t} {ts = ts} f x r) en l e h sh =
      let low : level (state m fs) ≤ 500 = sh 0 (state m fs) (omega arith) refl in
      let below = is_below false x in
      let low_token : t.nesting ≤ 500 = omega (arith, low, below) in
      let rest = deep_at i r (enters m1 f1 t.nesting low_token (follows false x)) (omega (arith, l)) (sym (ap (λ o. goes (take i (map item ts)) o) (moved f x)) ∙ e) h (next_shallow (map item ts) i f x sh) in
      record { token = rest.token; there = rest.there; deep = rest.deep; first = first_of t low_token rest }
    where
      first_of : (t : Nested) {us : List Nested} → t.nesting ≤ 500 → DeepAt us i → (j : ℕ) (u : Nested) → j < suc i → slice_get (t ∷ us) j ≡ Some u → u.nesting < 501
      first_of t low rest zero u k g = low_head low g
      first_of t low rest (suc j) u k g = rest.first j u (omega (arith, k)) g

  -- where the states before the first n tokens are within the limit, so are these tokens
  pub low_at : {m m' : Mode} {fs fs' : List Frame} {ts : List Nested} (n j : ℕ) (t : Nested) → Runs names false m fs ts m' fs'
      → Shallow m fs (map item ts) n → j < n → slice_get ts j ≡ Some t → t.nesting < 501
  low_at n j t Runs.stay sh h e = cc
  low_at zero j t (Runs.go f x r) sh h e = absurd (omega (arith, h))
  low_at {m} {fs = fs} (suc n) zero t (Runs.go f x r) sh h e =
      let low : level (state m fs) ≤ 500 = sh 0 (state m fs) (omega arith) refl in let below = is_below false x in low_head (omega (arith, low, below)) e
  low_at (suc n) (suc j) t (Runs.go {ts = ts} f x r) sh h e = low_at n j t r (next_shallow (map item ts) n f x sh) (omega (arith, h)) e

  pub all_low : {m m' : Mode} {fs fs' : List Frame} {ts : List Nested} → Runs names false m fs ts m' fs' → Shallow m fs (map item ts) (length ts) → All (λ t. t.nesting ≤ 500) ts
  all_low {ts = ts} r sh k d h = let q = low_at (length ts) k (slice_index_or ts k d) r sh h (at_index ts k d h) in omega (arith, q)
