-- What the parser answers, by two scans without trees, one from each start. A scan is what `goes` says: the state behind tokens,
-- from `Start` or `Between []` without frames, or none where a token has no move.
-- A scan that ended in `Done` behind all tokens: `refuse_read` where a state was too deep, else `read_shallow`.
-- Otherwise let n be the later of the two stops. Which scan prevails (`Prevailing`):
--   only the scan of contexts came to n: `context_alone`; only the other: `other_alone`;
--   both, by the mode of the scan of contexts: inside a binding `context_bound`, `Between []` `context_nothing`,
--   `Between (b :: bs)` `other_behind`, `Done` never, by `not_both`.
-- Then, of the scan that prevails: never too deep up to token n, `refuse_unread`; else `refuse_deep`.
use Rattle.std.proofs.Common.{◌≡◌, ◌⊎◌, inl, inr, ℕ, zero, suc, ◌≤◌, ◌<◌, List, [], ◌∷◌, ◌++◌, false, Some, slice_get, map, take, drop, length, refl, sym, ap, ◌∙◌, subst, append_assoc, arith, length-append}
use lib.ListN.{take-append-drop}
use Rattle.std.specs.Prelude.{All}
use Rattle.std.proofs.lemmas.Bool.{cases_lt}
use Rattle.std.proofs.lemmas.Option.{slice_get_within}
use Rattle.lego_grammar.specs.Written.{WrittenAct, WrittenCommand}
use Rattle.lego_grammar.specs.Grammar.{Names, Nested, Item, item, ReadsCommand, Parses}
use Rattle.lego_grammar.specs.Refusals.{IsUnexpected, Prevails, NestedSo, IsTooDeep}
use Rattle.lego_parser.specs.Parsing.{ParsesTo, IsNoCommand}
use Rattle.lego_parser.specs.declared.fault.ParseFault.TheVariants as Fault
use Rattle.lego_grammar.specs.private.Machine.{Frame, Mode, Done, State, state, level}
use Rattle.lego_grammar.specs.private.Runs.{goes, start_of}
use Rattle.lego_parser.specs.private.Scanning.{Begin, HasEnded, Prevailing, Shallow}
use Rattle.lego_grammar.proofs.Transitions.{Runs, runs_on}
use Rattle.lego_grammar.proofs.Complete.{kept_act, complete_command}
use Rattle.lego_grammar.proofs.Unique.{fits_zero, same_run, one_nesting}
use Rattle.lego_grammar.proofs.Refusals.{one_unexpected}
use Rattle.lego_grammar.proofs.Beginnings.{map-both}
use Rattle.lego_grammar.proofs.Ends.{no_longer}
use Rattle.lego_parser.proofs.Depths.{Entry, the, deep_at, low_at, all_low}
use Rattle.lego_parser.proofs.Scans.{Finished, finished, no_move}

-- A start is within the limit.
entry : {m : Mode} → Begin m → Entry m []
entry Begin.other = inl (omega arith)
entry Begin.context = inl (omega arith)

-- what a scan that ended in `Done` went over
pub none_behind : {names : Names} {m : Mode} {fs gs : List Frame} {ts : List Nested} {act d : WrittenAct} → Runs names false m fs ts (Done act) gs → m ≡ Done d → ts ≡ []
none_behind Runs.stay e = refl
none_behind {d = d} (Runs.go f x r) e = absurd (no_move d x e)

pub append_nil : (xs ys : List Nested) → ys ≡ [] → xs ++ ys ≡ xs
append_nil [] ys e = e
append_nil (x ∷ xs) ys e = ap (λ l. x ∷ l) (append_nil xs ys e)

-- READ, TOO DEEP. The code hands: its scan from a start (`other` or `context`) went over all tokens and ended in `Done`;
-- i is an index of a token, and before token i, for the first time, the scan's state was more than 500 levels deep.
pub read_too_deep : (tokens : List Item) {m : Mode} {d : WrittenAct} {fs : List Frame} (i : ℕ) {s : State} → Begin m → goes tokens (Some (state m [])) ≡ Some (state (Done d) fs)
    → i < length tokens → goes (take i tokens) (Some (state m [])) ≡ Some s → 500 < level s → Shallow m [] tokens i → IsTooDeep tokens i
read_too_deep tokens {m} {d} {fs} i {s} begin e l g h sh =
    let f = finished tokens begin e in
    let n : f.rest ≡ [] = none_behind f.behind refl in
    let reads : ReadsCommand f.names f.nested f.command = subst (λ l. ReadsCommand f.names l f.command) (append_nil f.nested f.rest n) f.reads in
    let same = f.same in
    let len : length tokens ≡ length (map item f.nested) = ap length (sym same) in
    let len' = length_map f.nested in
    let deep = deep_at f.names i f.first (entry begin) (omega (arith, l, len, len'))
    (subst (λ is. goes (take i is) (Some (state m [])) ≡ Some s) (sym same) g) h (subst (λ is. Shallow m [] is i) (sym same) sh) in
    record { nested = f.nested; so = NestedSo.read {names = f.names} same reads; token = deep.token; there = deep.there; deep = deep.deep; first = deep.first }
  where
    length_map : (xs : List Nested) → length (map item xs) ≡ length xs
    length_map [] = refl
    length_map (x ∷ xs) = ap suc (length_map xs)

-- READ. The code hands: the tokens are read as o, as the last pass with trees says; its scan from a start ended in `Done`,
-- and before no token the scan's state was more than 500 levels deep.
pub read_shallow : (names : Names) (tokens : List Item) (o : WrittenCommand) {m : Mode} {d : WrittenAct} {fs : List Frame} → Begin m → goes tokens (Some (state m [])) ≡ Some (state (Done d) fs)
    → Shallow m [] tokens (length tokens) → Parses names tokens o → ParsesTo names tokens o
read_shallow names tokens o {m} begin e sh p =
    let f = finished tokens begin e in
    let n : f.rest ≡ [] = none_behind f.behind refl in
    let reads : ReadsCommand f.names f.nested f.command = subst (λ l. ReadsCommand f.names l f.command) (append_nil f.nested f.rest n) f.reads in
    let one : f.nested ≡ p.nested = one_nesting f.names names reads p.reads (f.same ∙ sym p.same) in
    let len : length tokens ≡ length f.nested = ap length (sym f.same) ∙ length_map f.nested in
    let low = all_low f.names f.first (subst (λ k. Shallow m [] (map item f.nested) k) len (subst (λ is. Shallow m [] is (length tokens)) (sym f.same) sh)) in
    record { parses = p; shallow = subst (λ l. All (λ t. t.nesting ≤ 500) l) one low }
  where
    length_map : (xs : List Nested) → length (map item xs) ≡ length xs
    length_map [] = refl
    length_map (x ∷ xs) = ap suc (length_map xs)

-- READ, TOO DEEP, as the refusal: the code hands besides the token that it refuses.
pub refuse_read : (held : Names) (tokens : List Item) {m : Mode} {d : WrittenAct} {fs : List Frame} (i : ℕ) (t : Item) {s : State} → Begin m
    → goes tokens (Some (state m [])) ≡ Some (state (Done d) fs)
    → slice_get tokens i ≡ Some t → goes (take i tokens) (Some (state m [])) ≡ Some s → 500 < level s → Shallow m [] tokens i
    → IsNoCommand held tokens (Fault.TooDeep t.place)
refuse_read held tokens i t begin e l g h sh = (i, t, l, refl, read_too_deep tokens i begin e (slice_get_within tokens i t l) g h sh)

-- fronts of lists
take_front : (j n : ℕ) (ts xs : List Item) → j ≤ n → n ≤ length ts → take j (take n ts ++ xs) ≡ take j ts
take_front zero n ts xs h l = refl
take_front (suc j) zero ts xs h l = absurd (omega (arith, h))
take_front (suc j) (suc n) [] xs h l = absurd (omega (arith, l))
take_front (suc j) (suc n) (t ∷ ts) xs h l = ap (λ k. t ∷ k) (take_front j n ts xs (omega (arith, h)) (omega (arith, l)))

item_tail : {x y : Item} {xs ys : List Item} → ◌≡◌ {A = List Item} (x ∷ xs) (y ∷ ys) → xs ≡ ys
item_tail e = ap tail e
  where
    tail : List Item → List Item
    tail [] = []
    tail (z ∷ zs) = zs

count : (ns : List Nested) (n : ℕ) (ts : List Item) → map item ns ≡ take n ts → n ≤ length ts → length ns ≡ n
count [] zero ts e l = refl
count [] (suc n) [] e l = absurd (omega (arith, l))
count [] (suc n) (t ∷ ts) e l = cc
count (x ∷ ns) zero ts e l = cc
count (x ∷ ns) (suc n) [] e l = cc
count (x ∷ ns) (suc n) (t ∷ ts) e l = ap suc (count ns n ts (item_tail e) (omega (arith, l)))

get_front : (xs ys : List Nested) (n : ℕ) → n < length xs → slice_get (xs ++ ys) n ≡ slice_get xs n
get_front [] ys n h = absurd (omega (arith, h))
get_front (x ∷ xs) ys zero h = refl
get_front (x ∷ xs) ys (suc n) h = get_front xs ys n (omega (arith, h))

-- the tokens of a command that begins with the first n tokens, followed up to token n
same_fronts : (tokens : List Item) (n : ℕ) (nested rest : List Nested) → map item nested ≡ take n tokens → n ≤ length tokens → (j : ℕ) → j ≤ n
    → take j (map item (nested ++ rest)) ≡ take j tokens
same_fronts tokens n nested rest e l j h =
    ap (λ is. take j is) (map-both nested rest ∙ ap (λ is. is ++ map item rest) e) ∙ take_front j n tokens (map item rest) h l

as_shallow : (tokens : List Item) (n k : ℕ) (nested rest : List Nested) {m : Mode} → map item nested ≡ take n tokens → n ≤ length tokens → k ≤ suc n
    → Shallow m [] tokens k → Shallow m [] (map item (nested ++ rest)) k
as_shallow tokens n k nested rest {m} e l h sh =
    λ j s q g. sh j s q (ap (λ is. goes is (Some (state m []))) (sym (same_fronts tokens n nested rest e l j (omega (arith, h, q)))) ∙ g)

-- a command that hasn't ended goes on with a token
goes_with : {names : Names} {m : Mode} {fs gs : List Frame} {ts : List Nested} {act : WrittenAct} → Runs names false m fs ts (Done act) gs → ((d : WrittenAct) → m ≡ Done d → ⊥)
    → (t : Nested) × (us : List Nested) × (ts ≡ t ∷ us)
goes_with {act = act} Runs.stay h = absurd (h act refl)
goes_with (Runs.go {t = t} {ts = ts} f x r) h = (t, ts, refl)

-- UNREAD, TOO DEEP. The code hands: which scan prevails, by one of the lemmas of `Prevailing`; its state at the stop is not `Done`;
-- i is at most n, and before token i, for the first time, that scan's state was more than 500 levels deep. Token i may be token n.
pub unread_too_deep : (tokens : List Item) (n i : ℕ) (m : Mode) {st s : State} → Prevailing tokens n m st → ((d : WrittenAct) → st.mode ≡ Done d → ⊥) → n < length tokens → i ≤ n
    → goes (take i tokens) (Some (state m [])) ≡ Some s → 500 < level s → Shallow m [] tokens i → IsTooDeep tokens i
unread_too_deep tokens n i m {st} {s} p on l h g deep sh =
    let f = finished (take n tokens) p.begin p.there in
    let w = goes_with f.behind on in
    let next = w.0 in
    let more = w.1 in
    let reads : ReadsCommand f.names (f.nested ++ next ∷ more) f.command = subst (λ r. ReadsCommand f.names (f.nested ++ r) f.command) w.2 f.reads in
    let n_is : length f.nested ≡ n = count f.nested n tokens f.same (omega (arith, l)) in
    let at : (f.nested ++ next ∷ []) ++ more ≡ f.nested ++ next ∷ more = append_assoc f.nested (next ∷ []) more in
    let front_size = length-append f.nested (next ∷ []) in
    let all_size = length-append f.nested f.rest in
    let rest_size : length f.rest ≡ suc (length more) = ap length w.2 in
    let d = deep_at f.names i (runs_on f.first f.behind) (entry p.begin) (omega (arith, h, n_is, all_size, rest_size))
    (ap (λ is. goes is (Some (state m []))) (same_fronts tokens n f.nested f.rest f.same (omega (arith, l)) i h) ∙ g) deep
    (as_shallow tokens n i f.nested f.rest f.same (omega (arith, l)) (omega (arith, h)) sh) in
    let whole : f.nested ++ f.rest ≡ (f.nested ++ next ∷ []) ++ more = ap (λ r. f.nested ++ r) w.2 ∙ sym at in
    let seen = λ (j : ℕ) (q : j ≤ n). sym (get_front (f.nested ++ next ∷ []) more j (omega (arith, q, n_is, front_size))) ∙ ap (λ r. slice_get r j) (sym whole) in
    record {
      nested = f.nested ++ next ∷ [];
      so = NestedSo.unread {names = f.names} f.nested more next (subst (λ k. IsUnexpected tokens k) (sym n_is) p.unexpected) (f.same ∙ ap (λ k. take k tokens) (sym n_is))
          (subst (λ k. Prevails (take k tokens) f.command.act) (sym n_is) (p.prevails f.command.act f.start)) reads;
      token = d.token;
      there = seen i h ∙ d.there;
      deep = d.deep;
      first = λ j t k q. d.first j t k (sym (seen j (omega (arith, k, h))) ∙ q);
    }

-- the frames of a command that has ended
stays : {names : Names} {m m' : Mode} {fs gs : List Frame} {ts : List Nested} → Runs names false m fs ts m' gs → ts ≡ [] → fs ≡ gs
stays Runs.stay e = refl
stays (Runs.go f x r) e = cc

ended_level : {is : List Item} {m : Mode} {st : State} {d : WrittenAct} → Finished is m st → st.mode ≡ Done d → level st ≡ 0
ended_level {is} {m} {st} {d} f e =
    let command = subst (λ k. Runs f.names false k [] (f.nested ++ f.rest) (Done (kept_act false f.command.act)) []) f.start (complete_command f.names false f.reads) in
    let states = (same_run f.names f.names false (λ x n n' k l. fits_zero f.names x k ∙ sym (fits_zero f.names x l)) (runs_on f.first f.behind) command refl).1 in
    let frames : st.frames ≡ [] = stays f.behind (none_behind f.behind e) ∙ ap (λ (s : State). s.frames) states in
    (λ z. level (state (e z) (frames z)))

-- BEHIND THE END, TOO DEEP. The code hands: the scan that prevails had ended in `Done` where it stopped;
-- i is at most n, and before token i, for the first time, that scan's state was more than 500 levels deep.
pub behind_too_deep : (tokens : List Item) (n i : ℕ) (m : Mode) {st s : State} (d : WrittenAct) → Prevailing tokens n m st → st.mode ≡ Done d → n < length tokens → i ≤ n
    → goes (take i tokens) (Some (state m [])) ≡ Some s → 500 < level s → Shallow m [] tokens i → IsTooDeep tokens i
behind_too_deep tokens n i m {st} {s} d p e l h g deep sh =
    let f = finished (take n tokens) p.begin p.there in
    let whole : f.nested ++ f.rest ≡ f.nested = append_nil f.nested f.rest (none_behind f.behind e) in
    let reads : ReadsCommand f.names f.nested f.command = subst (λ ts. ReadsCommand f.names ts f.command) whole f.reads in
    let size : length f.nested ≡ n = count f.nested n tokens f.same (omega (arith, l)) in
    let sizes : length (f.nested ++ f.rest) ≡ n = ap (λ ts. length ts) whole ∙ size in
    let before : i < n = earlier (ended_level f e) (cases_lt i n) in
    let at = deep_at f.names i (runs_on f.first f.behind) (entry p.begin) (omega (arith, before, sizes))
    (ap (λ is. goes is (Some (state m []))) (same_fronts tokens n f.nested f.rest f.same (omega (arith, l)) i h) ∙ g) deep
    (as_shallow tokens n i f.nested f.rest f.same (omega (arith, l)) (omega (arith, h)) sh) in
    record {
      nested = f.nested ++ f.rest;
      so = subst (λ ts. NestedSo tokens ts) (sym whole)
          (NestedSo.behind {names = f.names} f.nested (subst (λ k. IsUnexpected tokens k) (sym size) p.unexpected) (f.same ∙ ap (λ k. take k tokens) (sym size)) reads);
      token = at.token;
      there = at.there;
      deep = at.deep;
      first = at.first;
    }
  where
    earlier : level st ≡ 0 → (i < n) ⊎ (n ≤ i) → i < n
    earlier low (inl q) = q
    earlier low (inr q) =
        let one : i ≡ n = omega (arith, h, q) in
        let same : s ≡ st = the (sym g ∙ (ap (λ k. goes (take k tokens) (Some (state m []))) one ∙ p.there)) in
        let levels : level s ≡ level st = ap (λ (x : State). level x) same in absurd (omega (arith, deep, low, levels))

-- where tokens stop, what else is nested is nested within a command that begins with the first n tokens
record Within (tokens : List Item) (n : ℕ) (m : Mode) (st : State) (i : ℕ) : Type 0 where
  names : Names
  nested : List Nested
  rest : List Nested
  token : Nested
  gs : List Frame
  act : WrittenAct
  size : length nested ≡ n
  same : map item nested ≡ take n tokens
  runs : Runs names false m [] (nested ++ rest) (Done act) gs
  below : i < suc n
  there : slice_get (nested ++ rest) i ≡ Some token
  deep : token.nesting ≡ 501

-- a whole command is nested as the scan that prevails found
whole_nested : {is : List Item} {m : Mode} {st : State} {c : WrittenCommand} (names : Names) (ns : List Nested) → ReadsCommand names ns c → (f : Finished is m st) → map item ns ≡ is
    → f.nested ++ f.rest ≡ ns
whole_nested names ns r f e = go f.rest refl
  where
    go : (us : List Nested) → f.rest ≡ us → f.nested ++ f.rest ≡ ns
    go [] q =
        let whole : f.nested ++ f.rest ≡ f.nested = append_nil f.nested f.rest q in
        whole ∙ one_nesting f.names names (subst (λ ts. ReadsCommand f.names ts f.command) whole f.reads) r (f.same ∙ sym e)
    go (t ∷ ts) q = absurd (no_longer names f.names ns f.nested t ts r (subst (λ us. ReadsCommand f.names (f.nested ++ us) f.command) q f.reads) (e ∙ sym f.same))

within : (tokens : List Item) (n i : ℕ) (m : Mode) {st : State} → Prevailing tokens n m st → IsTooDeep tokens i → Within tokens n m st i
within tokens n i m {st} p x = go x.nested x.so x.there
  where
    go : (ns : List Nested) → NestedSo tokens ns → slice_get ns i ≡ Some x.token → Within tokens n m st i
    go ns (NestedSo.read {names} {c = c} e r) g =
        absurd (p.unexpected.behind (names, drop (suc n) tokens, c, record { nested = ns; same = e ∙ sym (take-append-drop (suc n) tokens); reads = r }))
    go ns (NestedSo.behind {names} nested u e r) g =
        let size : length nested ≡ n = one_unexpected tokens (length nested) n u p.unexpected in
        let same : map item nested ≡ take n tokens = e ∙ ap (λ k. take k tokens) size in
        let f = finished (take n tokens) p.begin p.there in
        let plain : nested ++ [] ≡ nested = append_nil nested [] refl in
        let inside : i < length nested = slice_get_within nested i x.token g in
        record {
          names = f.names;
          nested = nested;
          rest = [];
          token = x.token;
          gs = f.frames;
          act = f.act;
          size = size;
          same = same;
          runs = subst (λ ts. Runs f.names false m [] ts (Done f.act) f.frames) (whole_nested names nested r f same ∙ sym plain) (runs_on f.first f.behind);
          below = omega (arith, inside, size);
          there = ap (λ ts. slice_get ts i) plain ∙ g;
          deep = x.deep;
        }
    go ns (NestedSo.unread {names} nested more next {c} u e v r) g =
        let size : length nested ≡ n = one_unexpected tokens (length nested) n u p.unexpected in
        let same : map item nested ≡ take n tokens = e ∙ ap (λ k. take k tokens) size in
        let parses : Parses names (take n tokens ++ map item (next ∷ more)) c =
        record { nested = nested ++ next ∷ more; same = map-both nested (next ∷ more) ∙ ap (λ l. l ++ map item (next ∷ more)) same; reads = r } in
        let start : start_of c.act ≡ m = p.only names (map item (next ∷ more)) c parses (subst (λ k. Prevails (take k tokens) c.act) size v) in
        let in_front : i < length (nested ++ next ∷ []) = slice_get_within (nested ++ next ∷ []) i x.token g in
        let front_size = length-append nested (next ∷ []) in
        record {
          names = names;
          nested = nested;
          rest = next ∷ more;
          token = x.token;
          gs = [];
          act = kept_act false c.act;
          size = size;
          same = same;
          runs = subst (λ k. Runs names false k [] (nested ++ next ∷ more) (Done (kept_act false c.act)) []) start (complete_command names false r);
          below = omega (arith, in_front, front_size, size);
          there = ap (λ l. slice_get l i) (sym (append_assoc nested (next ∷ []) more)) ∙ (get_front (nested ++ next ∷ []) more i in_front ∙ g);
          deep = x.deep;
        }

-- NOT TOO DEEP. The code hands: which scan prevails, and that this scan's state was at most 500 levels deep before each
-- token up to token n, at which it stopped.
pub unread_shallow : (tokens : List Item) (n i : ℕ) (m : Mode) {st : State} → Prevailing tokens n m st → n < length tokens → Shallow m [] tokens (suc n) → IsTooDeep tokens i → ⊥
unread_shallow tokens n i m p l sh x =
    let w = within tokens n i m p x in
    let low = low_at w.names (suc n) i w.token w.runs (as_shallow tokens n (suc n) w.nested w.rest w.same (omega (arith, l)) (omega arith) sh) w.below w.there in
    let deep = w.deep in omega (arith, low, deep)

-- The refusals, as `parse` gives them: the code hands besides the token that it refuses.
pub refuse_unread : (held : Names) (tokens : List Item) (n : ℕ) (m : Mode) (t : Item) {st : State} → Prevailing tokens n m st → slice_get tokens n ≡ Some t
    → Shallow m [] tokens (suc n) → IsNoCommand held tokens (Fault.Unexpected t.place)
refuse_unread held tokens n m t p g sh = (n, t, g, refl, p.unexpected, λ i x. unread_shallow tokens n i m p (slice_get_within tokens n t g) sh x)

pub refuse_deep : (held : Names) (tokens : List Item) (n i : ℕ) (m : Mode) (t : Item) {st s : State} → Prevailing tokens n m st
    → ((d : WrittenAct) → st.mode ≡ Done d → ⊥) ⊎ HasEnded st.mode → n < length tokens → i ≤ n
    → slice_get tokens i ≡ Some t → goes (take i tokens) (Some (state m [])) ≡ Some s → 500 < level s → Shallow m [] tokens i
    → IsNoCommand held tokens (Fault.TooDeep t.place)
refuse_deep held tokens n i m t p (inl on) l h g e deep sh = (i, t, g, refl, unread_too_deep tokens n i m p on l h e deep sh)
refuse_deep held tokens n i m t p (inr done) l h g e deep sh = (i, t, g, refl, behind_too_deep tokens n i m done.0 p done.1 l h e deep sh)
