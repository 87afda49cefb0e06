-- Entries whose level variables are renamed are the entries at another assignment.
use Rattle.std.proofs.Common.{◌≡◌, ℕ, zero, suc, ◌+◌, ◌≤◌, Option, Some, None, option_map, List, [], ◌∷◌, map, reverse, get_or, refl, sym, ap, ap₂, arith}
use Rattle.lego_term.specs.declared.level.Level.{Level}
use Rattle.lego_term.specs.Levels.{Assignment, node_value, level_value, LevelPair, SatisfiesAll}
use Rattle.lego_term.specs.Trees.{Core, Var, Const, Prop, Univ, Pi, Lam, App, Sigma, Pair, Fst, Snd, Let, at}
use Rattle.lego_laws.specs.Entries.{Entry, entry_at, kept}
use Rattle.lego_laws.specs.Ranges.{node_bound, level_bound, levels_bound, pairs_bound}
use Rattle.lego_laws.specs.Principal.{body_bound, entries_bound}
use Rattle.lego_laws.specs.RuleTypeLaws.{renamed_level, renamed}
use Rattle.lego_laws.specs.RenamedEntries.{renamed_pair, renamed_entry, RenamedEntriesAreEntries}
use Rattle.lego_laws.proofs.lemmas.inference.Satisfying.{satisfies_append, satisfies_front, satisfies_back}

-- the first values of a function
abbrev first_values : ℕ → (ℕ → ℕ) → Assignment
first_values zero f = []
first_values (suc n) f = f zero ∷ first_values n (λ u. f (suc u))

value_at : (n : ℕ) (f : ℕ → ℕ) (u : ℕ) → suc u ≤ n → get_or (first_values n f) u 0 ≡ f u
value_at zero f u le = absurd (omega arith)
value_at (suc n) f zero le = refl
value_at (suc n) f (suc u) le = value_at n (λ u. f (suc u)) u (omega arith)

module _ (f : ℕ → ℕ) (v w : Assignment) (n : ℕ) (h : (u : ℕ) → suc u ≤ n → get_or w u 0 ≡ get_or v (f u) 0) where
  node_renamed : (o : Option ℕ) → node_bound o ≤ n → node_value v (option_map f o) ≡ node_value w o
  node_renamed None le = refl
  node_renamed (Some u) le = sym (h u (omega arith))

  level_renamed : (l : Level) → level_bound l ≤ n → level_value v (renamed_level f l) ≡ level_value w l
  level_renamed l le = ap (λ x. x + l.plus) (node_renamed l.base le)

  at_renamed : (t : Core) → levels_bound t ≤ n → at v (renamed f t) ≡ at w t
  at_renamed (Var i) le = refl
  at_renamed (Const k) le = refl
  at_renamed Prop le = refl
  at_renamed (Univ l) le = ap Univ (level_renamed l le)
  at_renamed (Pi x a r) le = ap₂ (Pi tt) (at_renamed a (omega arith)) (at_renamed r (omega arith))
  at_renamed (Lam x a r) le = ap₂ (Lam tt) (at_renamed a (omega arith)) (at_renamed r (omega arith))
  at_renamed (App x a r) le = ap₂ (App tt) (at_renamed a (omega arith)) (at_renamed r (omega arith))
  at_renamed (Sigma x a r) le = ap₂ (Sigma tt) (at_renamed a (omega arith)) (at_renamed r (omega arith))
  at_renamed (Let x a r) le = ap₂ (Let tt) (at_renamed a (omega arith)) (at_renamed r (omega arith))
  at_renamed (Pair x a r y z) le =
      let ea = at_renamed a (omega arith) in
      let er = at_renamed r (omega arith) in
      let ey = at_renamed y (omega arith) in
      let ez = at_renamed z (omega arith) in
      cc (ea, er, ey, ez)
  at_renamed (Fst m) le = ap Fst (at_renamed m le)
  at_renamed (Snd m) le = ap Snd (at_renamed m le)

  body_renamed : (o : Option Core) → body_bound o ≤ n → option_map (at v) (option_map (renamed f) o) ≡ option_map (at w) o
  body_renamed None le = refl
  body_renamed (Some t) le = ap Some (at_renamed t le)

  one_entry : (e : Entry) → levels_bound e.ty ≤ n → body_bound e.body ≤ n → entry_at v (renamed_entry f e) ≡ entry_at w e
  one_entry e lt lb = let et = at_renamed e.ty lt in let eb = body_renamed e.body lb in cc (et, eb)

  all_entries : (es : List Entry) → entries_bound es ≤ n → map (entry_at v) (map (renamed_entry f) es) ≡ map (entry_at w) es
  all_entries [] le = refl
  all_entries (e ∷ es) le = ap₂ (λ x y. x ∷ y) (one_entry e (omega arith) (omega arith)) (all_entries es (omega arith))

  pairs_there : (k : List LevelPair) → pairs_bound k ≤ n → SatisfiesAll v (map (renamed_pair f) k) → SatisfiesAll w k
  pairs_there [] le p = tt
  pairs_there (c ∷ k) le p =
      let el = level_renamed c.low (omega arith) in
      let eh = level_renamed c.high (omega arith) in
      let q = p.0 in
      (omega arith, pairs_there k (omega arith) p.1)

  pairs_back : (k : List LevelPair) → pairs_bound k ≤ n → SatisfiesAll w k → SatisfiesAll v (map (renamed_pair f) k)
  pairs_back [] le p = tt
  pairs_back (c ∷ k) le p =
      let el = level_renamed c.low (omega arith) in
      let eh = level_renamed c.high (omega arith) in
      let q = p.0 in
      (omega arith, pairs_back k (omega arith) p.1)

  kept_there : (es : List Entry) → entries_bound es ≤ n → SatisfiesAll v (kept (map (renamed_entry f) es)) → SatisfiesAll w (kept es)
  kept_there [] le p = tt
  kept_there (e ∷ es) le p =
      satisfies_append w e.constraints (kept es) (pairs_there e.constraints (omega arith) (satisfies_front v (map (renamed_pair f) e.constraints) (kept (map (renamed_entry f) es)) p))
      (kept_there es (omega arith) (satisfies_back v (map (renamed_pair f) e.constraints) (kept (map (renamed_entry f) es)) p))

  kept_back : (es : List Entry) → entries_bound es ≤ n → SatisfiesAll w (kept es) → SatisfiesAll v (kept (map (renamed_entry f) es))
  kept_back [] le p = tt
  kept_back (e ∷ es) le p =
      satisfies_append v (map (renamed_pair f) e.constraints) (kept (map (renamed_entry f) es)) (pairs_back e.constraints (omega arith) (satisfies_front w e.constraints (kept es) p))
      (kept_back es (omega arith) (satisfies_back w e.constraints (kept es) p))

pub renamed_entries_are_entries : RenamedEntriesAreEntries
renamed_entries_are_entries f es v =
    let n = entries_bound es in
    let w = first_values n (λ u. get_or v (f u) 0) in
    let h = value_at n (λ u. get_or v (f u) 0) in
    (w, ap reverse (all_entries f v w n h es (omega arith)), (kept_there f v w n h es (omega arith), kept_back f v w n h es (omega arith)))
