-- Tokens have at most one first token without a reading, and at most one first token that is nested too deep.
use Rattle.std.proofs.Common.{◌≡◌, ◌⊎◌, inl, inr, ℕ, zero, suc, ◌≤◌, ◌<◌, List, [], ◌∷◌, ◌++◌, false, Option, Some, None, slice_get, map, take, drop, length, refl, sym, ap, ◌∙◌, subst, append_assoc, arith, length-append}
use lib.ListN.{take-append-drop}
use Rattle.std.proofs.lemmas.Option.{slice_get_within}
use Rattle.lego_grammar.specs.Written.{WrittenCommand}
use Rattle.lego_grammar.specs.Grammar.{Names, Nested, Item, item, ReadsCommand, Parses, IsContext}
use Rattle.lego_grammar.specs.Refusals.{GoesOn, IsUnexpected, Prevails, NestedSo, IsTooDeep}
use Rattle.lego_grammar.specs.private.Machine.{Done}
use Rattle.lego_grammar.specs.private.Runs.{start_of}
use Rattle.lego_grammar.proofs.Transitions.{Runs}
use Rattle.lego_grammar.proofs.Complete.{kept_act, complete_command}
use Rattle.lego_grammar.proofs.Unique.{fits_zero, same_run, split, same_start, one_nesting}
use Rattle.lego_grammar.proofs.Beginnings.{map-both}
use Rattle.lego_grammar.proofs.Ends.{no_longer}

front : {X : Type 0} (j k : ℕ) (xs : List X) → j ≤ k → (ys : List X) × (take k xs ≡ take j xs ++ ys)
front zero k xs h = (take k xs, refl)
front (suc j) zero xs h = absurd (omega (arith, h))
front (suc j) (suc k) [] h = ([], refl)
front (suc j) (suc k) (x ∷ xs) h = let y = front j k xs (omega (arith, h)) in (y.0, ap (λ l. x ∷ l) y.1)

-- what begins a command, has its front begin one
goes_less : (is js : List Item) → GoesOn (is ++ js) → GoesOn is
goes_less is js g = (g.0, js ++ g.1, g.2, record { nested = g.3.nested; same = g.3.same ∙ append_assoc is js g.1; reads = g.3.reads })

goes_to : (tokens : List Item) (j k : ℕ) → j ≤ k → GoesOn (take k tokens) → GoesOn (take j tokens)
goes_to tokens j k h g = let y = front j k tokens h in goes_less (take j tokens) y.0 (subst GoesOn y.1 g)

order : (n m : ℕ) → (n ≡ m) ⊎ ((n < m) ⊎ (m < n))
order zero zero = inl refl
order zero (suc m) = inr (inl (omega arith))
order (suc n) zero = inr (inr (omega arith))
order (suc n) (suc m) = next (order n m)
  where
    next : (n ≡ m) ⊎ ((n < m) ⊎ (m < n)) → (suc n ≡ suc m) ⊎ ((suc n < suc m) ⊎ (suc m < suc n))
    next (inl e) = inl (ap suc e)
    next (inr (inl h)) = inr (inl (omega (arith, h)))
    next (inr (inr h)) = inr (inr (omega (arith, h)))

pub one_unexpected : (tokens : List Item) (n m : ℕ) → IsUnexpected tokens n → IsUnexpected tokens m → n ≡ m
one_unexpected tokens n m x y = go (order n m)
  where
    go : (n ≡ m) ⊎ ((n < m) ⊎ (m < n)) → n ≡ m
    go (inl e) = e
    go (inr (inl h)) = absurd (x.behind (goes_to tokens (suc n) m (omega (arith, h)) y.before))
    go (inr (inr h)) = absurd (y.behind (goes_to tokens (suc m) n (omega (arith, h)) x.before))

-- tokens that are read begin a command at each front
read_goes : {names : Names} {nested : List Nested} {c : WrittenCommand} (tokens : List Item) (n : ℕ) → map item nested ≡ tokens → ReadsCommand names nested c → GoesOn (take n tokens)
read_goes {names} {nested} {c} tokens n e r = (names, drop n tokens, c, record { nested = nested; same = e ∙ sym (take-append-drop n tokens); reads = r })

slice_get_front : {X : Type 0} (xs ys : List X) (n : ℕ) → n < length xs → slice_get (xs ++ ys) n ≡ slice_get xs n
slice_get_front [] ys n h = absurd (omega (arith, h))
slice_get_front (x ∷ xs) ys zero h = refl
slice_get_front (x ∷ xs) ys (suc n) h = slice_get_front xs ys n (omega (arith, h))

some_is : {X : Type 0} {x y : X} → Some x ≡ Some y → x ≡ y
some_is {X} {x} e = ap get e
  where
    get : Option X → X
    get (Some z) = z
    get None = x

-- the fronts of two commands with one start, over the same tokens, are nested alike
same_front : (names names' : Names) (ts us : List Nested) {c c' : WrittenCommand} (xs ys : List Nested) → start_of c.act ≡ start_of c'.act
    → ReadsCommand names (xs ++ ts) c → ReadsCommand names' (ys ++ us) c' → map item xs ≡ map item ys → xs ≡ ys
same_front names names' ts us {c} {c'} xs ys start r q e =
    let x = split xs (complete_command names false r) in
    let y = split ys (subst (λ m. Runs names' false m [] (ys ++ us) (Done (kept_act false c'.act)) []) (sym start) (complete_command names' false q)) in
    (same_run names names' false (λ z n n' f g. fits_zero names z f ∙ sym (fits_zero names' z g)) x.2 y.2 e).0

-- which kind of command prevails
one_kind : (tokens : List Item) (names names' : Names) (more more' : List Item) (c c' : WrittenCommand) → Parses names (tokens ++ more) c → Parses names' (tokens ++ more') c'
    → Prevails tokens c.act → Prevails tokens c'.act → IsContext c.act → IsContext c'.act
one_kind tokens names names' more more' c c' p p' (Prevails.in_binding h e) (Prevails.in_binding h' e') k = h'
one_kind tokens names names' more more' c c' p p' (Prevails.in_binding h e) (Prevails.alone h' a') k = h'
one_kind tokens names names' more more' c c' p p' (Prevails.in_binding h e) (Prevails.other h' e') k = absurd (e' e)
one_kind tokens names names' more more' c c' p p' (Prevails.alone h a) (Prevails.in_binding h' e') k = h'
one_kind tokens names names' more more' c c' p p' (Prevails.alone h a) (Prevails.alone h' a') k = h'
one_kind tokens names names' more more' c c' p p' (Prevails.alone h a) (Prevails.other h' e') k = absurd (h' (a names' more' c' p'))
one_kind tokens names names' more more' c c' p p' (Prevails.other h e) q k = absurd (h k)

-- a token that both nestings have below an index is the same
record Agree (xs ys : List Nested) : Type 0 where
  same : (n : ℕ) (t u : Nested) → slice_get xs n ≡ Some t → slice_get ys n ≡ Some u → (suc n < length xs) ⊎ (suc n < length ys) → t ≡ u

equal_agree : (xs ys : List Nested) → xs ≡ ys → Agree xs ys
equal_agree xs ys e = record { same = λ n t u f g h. some_is (sym f ∙ (ap (λ l. slice_get l n) e ∙ g)) }

last_agree : (xs ys : List Nested) (t u : Nested) → xs ≡ ys → Agree (xs ++ t ∷ []) (ys ++ u ∷ [])
last_agree xs ys t u e = record { same = λ n a b f g h. go n a b f g (below n h) }
  where
    below : (n : ℕ) → (suc n < length (xs ++ t ∷ [])) ⊎ (suc n < length (ys ++ u ∷ [])) → n < length ys
    below n (inl h) = let k = length-append xs (t ∷ []) in let q = ap length e in omega (arith, h, k, q)
    below n (inr h) = let k = length-append ys (u ∷ []) in omega (arith, h, k)

    go : (n : ℕ) (a b : Nested) → slice_get (xs ++ t ∷ []) n ≡ Some a → slice_get (ys ++ u ∷ []) n ≡ Some b → n < length ys → a ≡ b
    go n a b f g h =
        let q = ap length e in let k : n < length xs = omega (arith, h, q) in
        some_is (sym f ∙ (slice_get_front xs (t ∷ []) n k ∙ (ap (λ l. slice_get l n) e ∙ (sym (slice_get_front ys (u ∷ []) n h) ∙ g))))

same_items : (tokens : List Item) (as1 bs1 : List Nested) → IsUnexpected tokens (length as1) → IsUnexpected tokens (length bs1)
    → map item as1 ≡ take (length as1) tokens → map item bs1 ≡ take (length bs1) tokens → map item as1 ≡ map item bs1
same_items tokens as1 bs1 x x' m m' = m ∙ (ap (λ k. take k tokens) (one_unexpected tokens (length as1) (length bs1) x x') ∙ sym m')

agree : (tokens : List Item) (xs ys : List Nested) → NestedSo tokens xs → NestedSo tokens ys → Agree xs ys
agree tokens xs ys (NestedSo.read {names} e r) (NestedSo.read {names = names'} e' r') = equal_agree xs ys (one_nesting names names' r r' (e ∙ sym e'))
agree tokens xs ys (NestedSo.read e r) (NestedSo.unread nested more next x m p q) = absurd (x.behind (read_goes tokens (suc (length nested)) e r))
agree tokens xs ys (NestedSo.unread nested more next x m p q) (NestedSo.read e r) = absurd (x.behind (read_goes tokens (suc (length nested)) e r))
agree tokens xs ys (NestedSo.read e r) (NestedSo.behind nested x m q) = absurd (x.behind (read_goes tokens (suc (length nested)) e r))
agree tokens xs ys (NestedSo.behind nested x m q) (NestedSo.read e r) = absurd (x.behind (read_goes tokens (suc (length nested)) e r))
agree tokens xs ys (NestedSo.behind {names} as1 x m q) (NestedSo.behind {names = names'} bs1 x' m' q') =
    equal_agree as1 bs1 (one_nesting names names' q q' (same_items tokens as1 bs1 x x' m m'))
agree tokens xs ys (NestedSo.behind {names} as1 x m q) (NestedSo.unread {names = names'} bs1 more next x' m' p q') =
    absurd (no_longer names names' as1 bs1 next more q q' (same_items tokens as1 bs1 x x' m m'))
agree tokens xs ys (NestedSo.unread {names} as1 more next x m p q) (NestedSo.behind {names = names'} bs1 x' m' q') =
    absurd (no_longer names' names bs1 as1 next more q' q (same_items tokens bs1 as1 x' x m' m))
agree tokens xs ys (NestedSo.unread {names} as1 more next {c} x m p q) (NestedSo.unread {names = names'} bs1 more' next' {c = c'} x' m' p' q') =
    let n : length as1 ≡ length bs1 = one_unexpected tokens (length as1) (length bs1) x x' in
    let items : map item as1 ≡ map item bs1 = m ∙ (ap (λ k. take k tokens) n ∙ sym m') in
    let par : Parses names (take (length as1) tokens ++ map item (next ∷ more)) c = record { nested = as1 ++ next ∷ more; same = map-both as1 (next ∷ more) ∙ ap (λ l. l ++ map item (next ∷ more)) m; reads = q } in
    let par' : Parses names' (take (length as1) tokens ++ map item (next' ∷ more')) c' = record { nested = bs1 ++ next' ∷ more'; same = map-both bs1 (next' ∷ more') ∙ ap (λ l. l ++ map item (next' ∷ more')) (m' ∙ ap (λ k. take k tokens) (sym n)); reads = q' } in
    let pre' : Prevails (take (length as1) tokens) c'.act = subst (λ k. Prevails (take k tokens) c'.act) (sym n) p' in
    let start = same_start c.act c'.act
    (one_kind (take (length as1) tokens) names names' (map item (next ∷ more)) (map item (next' ∷ more')) c c' par par' p pre')
    (one_kind (take (length as1) tokens) names' names (map item (next' ∷ more')) (map item (next ∷ more)) c' c par' par pre' p) in
    last_agree as1 bs1 next next' (same_front names names' (next ∷ more) (next' ∷ more') as1 bs1 start q q' items)

-- Tokens have at most one first token that is nested too deep.
pub one_too_deep : (tokens : List Item) (n m : ℕ) → IsTooDeep tokens n → IsTooDeep tokens m → n ≡ m
one_too_deep tokens n m x y = go (order n m)
  where
    clash : (d : ℕ) → d ≡ 501 → d < 501 → ⊥
    clash d e h = absurd (omega (arith, e, h))

    get : (zs : List Nested) (k j : ℕ) → k < j → j < length zs → (t : Nested) × (slice_get zs k ≡ Some t)
    get [] k j h l = absurd (omega (arith, l))
    get (z ∷ zs) zero j h l = (z, refl)
    get (z ∷ zs) (suc k) zero h l = absurd (omega (arith, h))
    get (z ∷ zs) (suc k) (suc j) h l = get zs k j (omega (arith, h)) (omega (arith, l))

    less : (a b : ℕ) (u : IsTooDeep tokens a) (v : IsTooDeep tokens b) → a < b → ⊥
    less a b u v h =
        let l = slice_get_within v.nested b v.token v.there in
        let t = get v.nested a b h l in
        let e : u.token ≡ t.0 = (agree tokens u.nested v.nested u.so v.so).same a u.token t.0 u.there t.1 (inr (omega (arith, h, l))) in
        clash u.token.nesting u.deep (subst (λ (k : ℕ). k < 501) (ap (λ (k : Nested). k.nesting) (sym e)) (v.first a t.0 h t.1))

    go : (n ≡ m) ⊎ ((n < m) ⊎ (m < n)) → n ≡ m
    go (inl e) = e
    go (inr (inl h)) = absurd (less n m x y h)
    go (inr (inr h)) = absurd (less m n y x h)
