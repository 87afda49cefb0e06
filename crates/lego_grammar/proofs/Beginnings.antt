-- Some command begins with tokens exactly where the machine goes over them.
use Rattle.std.proofs.Common.{◌≡◌, ◌⊎◌, inl, inr, ℕ, suc, List, [], ◌∷◌, ◌++◌, Bool, false, Option, Some, None, slice_get, map, take, refl, sym, ap, ◌∙◌, subst, append_assoc}
use Rattle.std.proofs.lemmas.List.{append-nil}
use Rattle.lego_lexer.specs.Tokens.{Lexeme, Name, Number, OfWord, OfSymbol}
use Rattle.lego_grammar.specs.Written.{WrittenAct}
use Rattle.lego_grammar.specs.Grammar.{Names, Nested, Item, item}
use Rattle.lego_grammar.specs.Refusals.{GoesOn, IsUnexpected}
use Rattle.lego_grammar.specs.private.Machine.{Frame, Mode, Start, Between, State, state, move}
use Rattle.lego_grammar.specs.private.Runs.{class, goes, start_of}
use Rattle.lego_grammar.proofs.Transitions.{Fits, Runs, runs_on}
use Rattle.lego_grammar.proofs.Complete.{complete_command}
use Rattle.lego_grammar.proofs.Sound.{Holds}
use Rattle.lego_grammar.proofs.SoundSteps.{step}
use Rattle.lego_grammar.proofs.Finish.{finish}
use Rattle.lego_grammar.proofs.Moving.{move_to, move_from}
use Rattle.lego_grammar.proofs.Unique.{fits_zero}

-- the names have the text of a name
abbrev pub Has : Names → Lexeme → Type 0
Has names (Name text) = (i : ℕ) × (slice_get names i ≡ Some text)
Has names _ = Unit {0}

abbrev pub Known : Names → List Item → Type 0
Known names [] = Unit {0}
Known names (i ∷ is) = Has names i.lexeme × Known names is

has_more : (text : List ℕ) (names : Names) (x : Lexeme) → Has names x → Has (text ∷ names) x
has_more text names (Name t) h = (suc h.0, h.1)
has_more text names (Number n) h = tt
has_more text names (OfWord w) h = tt
has_more text names (OfSymbol s) h = tt

known_more : (text : List ℕ) (names : Names) (is : List Item) → Known names is → Known (text ∷ names) is
known_more text names [] h = tt
known_more text names (i ∷ is) h = (has_more text names i.lexeme h.0, known_more text names is h.1)

-- a text for each token
abbrev pub text_of : Lexeme → List ℕ
text_of (Name text) = text
text_of _ = []

abbrev pub texts : List Item → Names
texts [] = [] ∷ []
texts (i ∷ is) = text_of i.lexeme ∷ texts is

has_first : (x : Lexeme) (names : Names) → Has (text_of x ∷ names) x
has_first (Name t) names = (0, refl)
has_first (Number n) names = tt
has_first (OfWord w) names = tt
has_first (OfSymbol s) names = tt

pub known_texts : (is : List Item) → Known (texts is) is
known_texts [] = tt
known_texts (i ∷ is) = (has_first i.lexeme (texts is), known_more (text_of i.lexeme) (texts is) is (known_texts is))

pub some_text : (is : List Item) → (i : ℕ) × (text : List ℕ) × (slice_get (texts is) i ≡ Some text)
some_text [] = (0, [], refl)
some_text (i ∷ is) = (0, text_of i.lexeme, refl)

fits : (names : Names) (x : Lexeme) → Has names x → Fits names false x 0
fits names (Name text) h = (h.0, h.1, refl)
fits names (Number n) h = refl
fits names (OfWord w) h = refl
fits names (OfSymbol s) h = refl

none_some : {X : Type 0} {x : X} {A : Type 0} → ◌≡◌ {A = Option X} None (Some x) → A
none_some e = cc

pub goes_none : (is : List Item) → goes is None ≡ None
goes_none [] = refl
goes_none (i ∷ is) = refl

-- a run over the tokens, where the machine goes over them
pub record Ran (names : Names) (m : Mode) (fs : List Frame) (is : List Item) (st : State) : Type 0 where
  pub nested : List Nested
  pub same : map item nested ≡ is
  pub runs : Runs names false m fs nested st.mode st.frames

ran_first : (names : Names) (i : Item) (is : List Item) (m : Mode) (fs : List Frame) {st : State} → Has names i.lexeme
    → ((s : State) → goes is (Some s) ≡ Some st → Ran names s.mode s.frames is st)
    → (o : Option State) → move false (class i.lexeme) i.place 0 (state m fs) ≡ o → goes is o ≡ Some st → Ran names m fs (i ∷ is) st
ran_first names i is m fs h more None q e = none_some (sym (goes_none is) ∙ e)
ran_first names i is m fs h more (Some s) q e =
    let y = move_from false i.lexeme i.place 0 m fs q in
    let r = more s e in
    record {
      nested = record { nesting = y.0; place = i.place; lexeme = i.lexeme } ∷ r.nested;
      same = ap (λ l. i ∷ l) r.same;
      runs = Runs.go (fits names i.lexeme h) y.1 r.runs;
    }

pub ran : (names : Names) (is : List Item) (m : Mode) (fs : List Frame) {st : State} → Known names is → goes is (Some (state m fs)) ≡ Some st → Ran names m fs is st
ran names [] m fs {st} h e = record { nested = []; same = refl; runs = subst (λ (o : Option State). Runs names false m fs [] (mode_in o) (frames_in o)) e Runs.stay }
  where
    mode_in : Option State → Mode
    mode_in (Some s) = s.mode
    mode_in None = m

    frames_in : Option State → List Frame
    frames_in (Some s) = s.frames
    frames_in None = fs
ran names (i ∷ is) m fs h e =
    ran_first names i is m fs h.0 (λ s q. ran names is s.mode s.frames h.1 q) (move false (class i.lexeme) i.place 0 (state m fs)) refl e

-- what holds behind a run
pub holds : (names : Names) (b : Bool) {m m' : Mode} {fs fs' : List Frame} {ts : List Nested} (all : List Nested) → Holds names b m fs all → Runs names b m fs ts m' fs' → Holds names b m' fs' (all ++ ts)
holds names b {m} {fs = fs} all h Runs.stay = subst (λ l. Holds names b m fs l) (sym (append-nil all)) h
holds names b {m' = m'} {fs' = fs'} all h (Runs.go {t = t} {ts = ts} f x r) =
    subst (λ l. Holds names b m' fs' l) (append_assoc all (t ∷ []) ts) (holds names b (all ++ t ∷ []) (step names b all h f x) r)

pub map-both : (ts us : List Nested) → map item (ts ++ us) ≡ map item ts ++ map item us
map-both [] us = refl
map-both (t ∷ ts) us = ap (λ l. item t ∷ l) (map-both ts us)

-- some command begins with what the machine goes over from a start
pub goes_on : (is : List Item) (m : Mode) {st : State} → Holds (texts is) false m [] [] → goes is (Some (state m [])) ≡ Some st → GoesOn is
goes_on is m {st} h e =
    let r = ran (texts is) is m [] (known_texts is) e in
    let k = some_text is in
    let w = finish (texts is) false k.0 k.1 k.2 r.nested st.mode st.frames (holds (texts is) false [] h r.runs) in
    let y = holds (texts is) false [] h (runs_on r.runs w.runs) in
    (texts is, map item w.tokens, y.0, record { nested = r.nested ++ w.tokens; same = map-both r.nested w.tokens ∙ ap (λ l. l ++ map item w.tokens) r.same; reads = y.1 })

-- the machine goes over what a run goes over
pub gone : (names : Names) {m m' : Mode} {fs fs' : List Frame} {ts : List Nested} → Runs names false m fs ts m' fs' → goes (map item ts) (Some (state m fs)) ≡ Some (state m' fs')
gone names Runs.stay = refl
gone names {m} {fs = fs} (Runs.go {t = t} {ts = ts} {n = n} f x r) =
    let zero_number : n ≡ 0 = fits_zero names t.lexeme f in
    ap (λ o. goes (map item ts) o) (ap (λ k. move false (class t.lexeme) t.place k (state m fs)) (sym zero_number) ∙ move_to false x) ∙ gone names r

-- and so over a part in front
goes_front : (is js : List Item) (o : Option State) {st : State} → goes (is ++ js) o ≡ Some st → goes is o ≡ None → ⊥
goes_front is js None e h = none_some (sym (goes_none (is ++ js)) ∙ e)
goes_front [] js (Some s) e h = none_some (sym h)
goes_front (i ∷ is) js (Some s) e h = goes_front is js (move false (class i.lexeme) i.place 0 s) e h

-- a start of the machine at which no beginning is gone over
pub stops : (is : List Item) → goes is (Some (state Start [])) ≡ None → goes is (Some (state (Between []) [])) ≡ None → GoesOn is → ⊥
stops is h k g = go g.2.act (ap (λ l. goes l (Some (state (start_of g.2.act) []))) (sym g.3.same) ∙ gone g.0 (complete_command g.0 false g.3.reads))
  where
    go : (d : WrittenAct) {st : State} → goes (is ++ g.1) (Some (state (start_of d) [])) ≡ Some st → ⊥
    go (WrittenAct.Bindings bs) e = goes_front is g.1 (Some (state (Between []) [])) e k
    go _ e = goes_front is g.1 (Some (state Start [])) e h

pub decided : (is : List Item) → GoesOn is ⊎ (GoesOn is → ⊥)
decided is = first (goes is (Some (state Start []))) refl
  where
    second : (o : Option State) → goes is (Some (state (Between []) [])) ≡ o → goes is (Some (state Start [])) ≡ None → GoesOn is ⊎ (GoesOn is → ⊥)
    second (Some st) e h = inl (goes_on is (Between []) (record { items = []; kept = refl; reads = inr (refl, refl) }) e)
    second None e h = inr (stops is h e)

    first : (o : Option State) → goes is (Some (state Start [])) ≡ o → GoesOn is ⊎ (GoesOn is → ⊥)
    first (Some st) e = inl (goes_on is Start refl e)
    first None e = second (goes is (Some (state (Between []) []))) refl e

-- a context command may begin with nothing
pub no_bindings : (names : Names) (b : Bool) → Holds names b (Between []) [] []
no_bindings names b = record { items = []; kept = refl; reads = inr (refl, refl) }

-- The first token at which neither machine goes on is the first one without a reading.
pub unexpected_at : (tokens : List Item) (n : ℕ) (m : Mode) {st : State} → Holds (texts (take n tokens)) false m [] []
    → goes (take n tokens) (Some (state m [])) ≡ Some st
    → goes (take (suc n) tokens) (Some (state Start [])) ≡ None → goes (take (suc n) tokens) (Some (state (Between []) [])) ≡ None
    → IsUnexpected tokens n
unexpected_at tokens n m h e f g = record { before = goes_on (take n tokens) m h e; behind = stops (take (suc n) tokens) f g }
