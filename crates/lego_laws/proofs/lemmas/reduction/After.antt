-- Sequences of steps of any kind.
use Rattle.std.proofs.Common.{◌≡◌, ℕ, zero, suc, ◌+◌, ◌-◌, ◌≤◌, ◌<◌, Option, Some, None, option_and_then, ◌⊎◌, inl, inr, ⊎_elim, refl, ap, ◌∙◌, arith, subst}
use Rattle.lego_term.specs.Sequences.{after}

module _ {T : Type 0} (f : T → Option T) where
  -- the sequence has n steps, and perhaps more
  abbrev pub Has : T → ℕ → Type 0
  Has t n = (u : T) × (after f n t ≡ Some u)

  pub next : (n : ℕ) (o : Option T) (u : T) → option_and_then (after f n) o ≡ Some u → (x : T) × (o ≡ Some x) × (after f n x ≡ Some u)
  next n None u e = cc
  next n (Some x) u e = (x, refl, e)

  pub after_one : (n : ℕ) (t x u : T) → f t ≡ Some x → after f n x ≡ Some u → after f (suc n) t ≡ Some u
  after_one n t x u e h = ap (option_and_then (after f n)) e ∙ h

  pub after_add : (i j : ℕ) (t u v : T) → after f i t ≡ Some u → after f j u ≡ Some v → after f (i + j) t ≡ Some v
  after_add zero j t u v e h =
      let same : t ≡ u = cc e in
      let n : j ≡ zero + j = omega arith in
      subst (λ z. after f z t ≡ Some v) n (rw same h)
  after_add (suc i) j t u v e h =
      let k = next i (f t) u e in
      let n : suc (i + j) ≡ suc i + j = omega arith in
      subst (λ z. after f z t ≡ Some v) n (after_one (i + j) t k.0 v k.1 (after_add i j k.0 u v k.2 h))

  pub fewer : (n m : ℕ) (t : T) → m ≤ n → Has t n → Has t m
  fewer n zero t le h = (t, refl)
  fewer zero (suc m) t le h = absurd (omega arith)
  fewer (suc n) (suc m) t le h =
      let k = next n (f t) h.0 h.1 in
      let r = fewer n m k.0 (omega arith) (h.0, k.2) in
      (r.0, after_one m t k.0 r.0 k.1 r.1)

  -- the sequence ends after n steps, fewer than w
  pub record EndsBefore (t : T) (w : ℕ) : Type 0 where
    pub n : ℕ
    pub less : n < w
    pub end : T
    pub reaches : after f n t ≡ Some end
    pub last : f end ≡ None

  pub runs : (w : ℕ) (t : T) → Has t w ⊎ EndsBefore t w
  runs zero t = inl (t, refl)
  runs (suc w) t = by_next (λ x. runs w x) (f t) refl
    where
      more : (x : T) → f t ≡ Some x → EndsBefore x w → EndsBefore t (suc w)
      more x e r =
          let lt = r.less in
          record { n = suc r.n; less = omega arith; end = r.end; reaches = after_one r.n t x r.end e r.reaches; last = r.last }

      by_next : ((x : T) → Has x w ⊎ EndsBefore x w) → (o : Option T) → f t ≡ o → Has t (suc w) ⊎ EndsBefore t (suc w)
      by_next go None e = inr (record { n = zero; less = omega arith; end = t; reaches = refl; last = e })
      by_next go (Some x) e = ⊎_elim (λ (h : Has x w). inl (h.0, after_one w t x h.0 e h.1)) (λ r. inr (more x e r)) (go x)

  stuck : (t u : T) (n : ℕ) → f t ≡ None → after f (suc n) t ≡ Some u → ⊥
  stuck t u n e h = let k = next n (f t) u h in let z = k.1 in cc

  pub at_most : (k i : ℕ) (t u : T) → after f k t ≡ Some u → f u ≡ None → Has t i → i ≤ k
  at_most k zero t u e l h = omega arith
  at_most zero (suc i) t u e l h =
      let same : t ≡ u = cc e in
      absurd (stuck t h.0 i (ap f same ∙ l) h.1)
  at_most (suc k) (suc i) t u e l h =
      let p = next k (f t) u e in
      let q = next i (f t) h.0 h.1 in
      let p1 = p.1 in
      let q1 = q.1 in
      let same : q.0 ≡ p.0 = cc in
      let r = at_most k i p.0 u p.2 l (h.0, subst (λ z. after f i z ≡ Some h.0) same q.2) in
      omega arith

  -- a part's steps inside a larger term, while a property of the part is kept
  module _ (F : T → T) (P : T → Type 0) (inside : (t u : T) → P t → f t ≡ Some u → (f (F t) ≡ Some (F u)) × P u) where
    pub after_inside : (n : ℕ) (t u : T) → P t → after f n t ≡ Some u → (after f n (F t) ≡ Some (F u)) × P u
    after_inside zero t u p e =
        let same : t ≡ u = cc e in
        (ap (λ z. Some (F z)) same, subst P same p)
    after_inside (suc n) t u p e =
        let k = next n (f t) u e in
        let s = inside t k.0 p k.1 in
        let r = after_inside n k.0 u s.1 k.2 in
        (after_one n (F t) (F k.0) (F u) s.0 r.0, r.1)

    -- a part's steps, and then those of the rest
    pub then_rest : (i j : ℕ) (t : T) → P t → Has t i → ((u : T) → P u → f u ≡ None → Has (F u) j) → Has (F t) (i + j)
    then_rest i j t p h rest = ⊎_elim (λ (all : Has t (i + j)). (F all.0, (after_inside (i + j) t all.0 p all.1).0)) ended (runs (i + j) t)
      where
        ended : EndsBefore t (i + j) → Has (F t) (i + j)
        ended r =
            let s = after_inside r.n t r.end p r.reaches in
            let lt = r.less in
            let le = at_most r.n i t r.end r.reaches r.last h in
            let q = fewer j (i + j - r.n) (F r.end) (omega arith) (rest r.end s.1 r.last) in
            let sum : r.n + (i + j - r.n) ≡ i + j = omega arith in
            (q.0, subst (λ z. after f z (F t) ≡ Some q.0) sum (after_add r.n (i + j - r.n) (F t) (F r.end) q.0 s.0 q.1))
