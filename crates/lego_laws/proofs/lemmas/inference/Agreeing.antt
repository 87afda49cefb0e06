-- Terms, constraints and constants at assignments that agree.
use Rattle.std.proofs.Common.{◌≡◌, ℕ, zero, suc, ◌+◌, ◌≤◌, ◌<◌, max, Option, Some, None, option_map, List, [], ◌∷◌, ◌++◌, map, get_or, refl, sym, ap, ap₂, ◌∙◌, arith, subst, ⊎_elim}
use Rattle.std.proofs.lemmas.Bool.{cases_lt}
use mathlib.Core.Path.{fun_ext}
use Rattle.lego_term.specs.declared.level.Level.{Level}
use Rattle.lego_term.specs.Levels.{Assignment, node_value, level_value, LevelPair, SatisfiesAll}
use Rattle.lego_term.specs.Trees.{Core, Term, Var, Const, Prop, Univ, Pi, Lam, App, Sigma, Pair, Fst, Snd, at, Let}
use Rattle.lego_laws.specs.Parallel.{TermBodies, CoreBodies, bodies_at}
use Rattle.lego_laws.specs.Ranges.{node_bound, level_bound, levels_bound, pairs_bound, locals_bound, Agree, Bounded, Context}

pub narrower : {n m : ℕ} {v w : Assignment} → m ≤ n → Agree n v w → Agree m v w
narrower le h = record { same = λ u l. h.same u (omega arith) }

-- only the variables that it has count
node_agree : (v w : Assignment) (o : Option ℕ) → Agree (node_bound o) v w → node_value v o ≡ node_value w o
node_agree v w None h = refl
node_agree v w (Some u) h = h.same u (omega arith)

pub value_agree : (v w : Assignment) (l : Level) → Agree (level_bound l) v w → level_value v l ≡ level_value w l
value_agree v w l h = ap (λ x. x + l.plus) (node_agree v w l.base h)

pub at_agree : (v w : Assignment) (t : Core) → Agree (levels_bound t) v w → at v t ≡ at w t
at_agree v w (Var i) h = refl
at_agree v w (Const k) h = refl
at_agree v w Prop h = refl
at_agree v w (Univ l) h = ap Univ (value_agree v w l h)
at_agree v w (Pi x a r) h = ap₂ (Pi tt) (at_agree v w a (narrower (omega arith) h)) (at_agree v w r (narrower (omega arith) h))
at_agree v w (Lam x a m) h = ap₂ (Lam tt) (at_agree v w a (narrower (omega arith) h)) (at_agree v w m (narrower (omega arith) h))
at_agree v w (App k m n) h = ap₂ (App tt) (at_agree v w m (narrower (omega arith) h)) (at_agree v w n (narrower (omega arith) h))
at_agree v w (Sigma x a r) h = ap₂ (Sigma tt) (at_agree v w a (narrower (omega arith) h)) (at_agree v w r (narrower (omega arith) h))
at_agree v w (Let x a r) h = ap₂ (Let tt) (at_agree v w a (narrower (omega arith) h)) (at_agree v w r (narrower (omega arith) h))
at_agree v w (Pair x a r m n) h =
    let ea = at_agree v w a (narrower (omega arith) h) in
    let er = at_agree v w r (narrower (omega arith) h) in
    let em = at_agree v w m (narrower (omega arith) h) in
    let en = at_agree v w n (narrower (omega arith) h) in
    cc (ea, er, em, en)
at_agree v w (Fst m) h = ap Fst (at_agree v w m h)
at_agree v w (Snd m) h = ap Snd (at_agree v w m h)

pub satisfies_agree : (v w : Assignment) (k : List LevelPair) → Agree (pairs_bound k) v w → SatisfiesAll v k → SatisfiesAll w k
satisfies_agree v w [] h p = tt
satisfies_agree v w (k ∷ ks) h p =
    let le = p.0 in
    let e0 = value_agree v w k.low (narrower (omega arith) h) in
    let e1 = value_agree v w k.high (narrower (omega arith) h) in
    (omega arith, satisfies_agree v w ks (narrower (omega arith) h) p.1)

option_agree : (v w : Assignment) (o : Option Core) → ((t : Core) → o ≡ Some t → at v t ≡ at w t) → option_map (at v) o ≡ option_map (at w) o
option_agree v w None h = refl
option_agree v w (Some t) h = ap Some (h t refl)

pub bodies_agree : (v w : Assignment) (n : ℕ) (b : CoreBodies) → ((k : ℕ) (t : Core) → b k ≡ Some t → levels_bound t ≤ n) → Agree n v w → bodies_at v b ≡ bodies_at w b
bodies_agree v w n b h a = fun_ext (λ k. option_agree v w (b k) (λ t e. at_agree v w t (narrower (h k t e) a)))

pub locals_agree : (v w : Assignment) (g : List Core) → Agree (locals_bound g) v w → map (at v) g ≡ map (at w) g
locals_agree v w [] h = refl
locals_agree v w (a ∷ g) h = ap₂ (λ x y. x ∷ y) (at_agree v w a (narrower (omega arith) h)) (locals_agree v w g (narrower (omega arith) h))

pub moved : {t : ℕ} {c₁ c₂ b₁ b₂ : TermBodies} {g₁ g₂ : List Term} {m₁ m₂ q : Term} → c₁ ≡ c₂ → b₁ ≡ b₂ → g₁ ≡ g₂ → m₁ ≡ m₂ → Bounded t c₁ b₁ g₁ m₁ q → Bounded t c₂ b₂ g₂ m₂ q
moved {t} {c₁} {c₂} {b₁} {b₂} {g₁} {g₂} {m₁} {m₂} {q} ec eb eg em d =
    subst (λ c. Bounded t c b₂ g₂ m₂ q) ec (subst (λ b. Bounded t c₁ b g₂ m₂ q) eb (subst (λ g. Bounded t c₁ b₁ g m₂ q) eg (subst (λ m. Bounded t c₁ b₁ g₁ m q) em d)))

-- the same derivation at assignments that agree on the context and the term
pub bounded_agree : {n : ℕ} {c b : CoreBodies} {held : List LevelPair} {g : List Core} → Context n c b held g → (v w : Assignment) → Agree n v w → (t : ℕ) (m : Core) (q : Term) → levels_bound m ≤ n → Bounded t (bodies_at v c) (bodies_at v b) (map (at v) g) (at v m) q → Bounded t (bodies_at w c) (bodies_at w b) (map (at w) g) (at w m) q
bounded_agree {n} {c} {b} {held} {g} x v w a t m q l d =
    moved (bodies_agree v w n c x.types_within a) (bodies_agree v w n b x.bodies_within a) (locals_agree v w g (narrower x.locals_within a)) (at_agree v w m (narrower l a)) d

pub pairs_bound-append : (k l : List LevelPair) → pairs_bound (k ++ l) ≤ max (pairs_bound k) (pairs_bound l)
pairs_bound-append [] l = omega arith
pairs_bound-append (x ∷ k) l = omega (arith, pairs_bound-append k l)

-- the values below a number, and 0 for all others
abbrev pub cut : ℕ → Assignment → Assignment
cut zero v = []
cut (suc n) [] = []
cut (suc n) (x ∷ v) = x ∷ cut n v

none_held : (u : ℕ) → get_or {A = ℕ} [] u 0 ≡ 0
none_held zero = refl
none_held (suc u) = refl

cut_same : (n : ℕ) (v : Assignment) (u : ℕ) → suc u ≤ n → get_or v u 0 ≡ get_or (cut n v) u 0
cut_same zero v u l = absurd (omega arith)
cut_same (suc n) [] u l = refl
cut_same (suc n) (x ∷ v) zero l = refl
cut_same (suc n) (x ∷ v) (suc u) l = cut_same n v u (omega arith)

pub cut_agree : (n : ℕ) (v : Assignment) → Agree n v (cut n v)
cut_agree n v = record { same = cut_same n v }

pub cut_small : (n : ℕ) (v : Assignment) (u : ℕ) → n ≤ u → get_or (cut n v) u 0 ≡ 0
cut_small zero v u l = none_held u
cut_small (suc n) [] u l = none_held u
cut_small (suc n) (x ∷ v) zero l = absurd (omega arith)
cut_small (suc n) (x ∷ v) (suc u) l = cut_small n v u (omega arith)

-- the values below n, then j for the variable n, and 0 for all others
abbrev pub put_level : ℕ → ℕ → Assignment → Assignment
put_level zero j v = j ∷ []
put_level (suc n) j [] = 0 ∷ put_level n j []
put_level (suc n) j (x ∷ v) = x ∷ put_level n j v

put_same : (n j : ℕ) (v : Assignment) (u : ℕ) → suc u ≤ n → get_or v u 0 ≡ get_or (put_level n j v) u 0
put_same zero j v u l = absurd (omega arith)
put_same (suc n) j [] zero l = refl
put_same (suc n) j [] (suc u) l = sym (none_held u) ∙ put_same n j [] u (omega arith)
put_same (suc n) j (x ∷ v) zero l = refl
put_same (suc n) j (x ∷ v) (suc u) l = put_same n j v u (omega arith)

pub put_agree : (n j : ℕ) (v : Assignment) → Agree n v (put_level n j v)
put_agree n j v = record { same = put_same n j v }

pub agree_both : {n₀ n₁ : ℕ} {u v w : Assignment} → n₀ ≤ n₁ → Agree n₀ u v → Agree n₁ v w → Agree n₀ u w
agree_both le p q = record { same = λ i l. p.same i l ∙ q.same i (omega arith) }

pub put_here : (n j : ℕ) (v : Assignment) → get_or (put_level n j v) n 0 ≡ j
put_here zero j v = refl
put_here (suc n) j [] = put_here n j []
put_here (suc n) j (x ∷ v) = put_here n j v

put_after : (n j : ℕ) (v : Assignment) (u : ℕ) → suc n ≤ u → get_or (put_level n j v) u 0 ≡ 0
put_after zero j v zero l = absurd (omega arith)
put_after zero j v (suc u) l = none_held u
put_after (suc n) j [] zero l = absurd (omega arith)
put_after (suc n) j [] (suc u) l = put_after n j [] u (omega arith)
put_after (suc n) j (x ∷ v) zero l = absurd (omega arith)
put_after (suc n) j (x ∷ v) (suc u) l = put_after n j v u (omega arith)

pub put_small : (n j t : ℕ) (v : Assignment) → j ≤ t → (u : ℕ) → n ≤ u → get_or (put_level n j v) u 0 ≤ t
put_small n j t v le u lo =
    ⊎_elim (λ (l : n < u). let e = put_after n j v u l in omega arith) (λ (l : u ≤ n). let e : u ≡ n = omega arith in let k = put_here n j v in rw e (omega arith)) (cases_lt n u)
