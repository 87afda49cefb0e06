-- Terms whose constants have other numbers.
use Rattle.std.proofs.Common.{◌≡◌, ℕ, Bool, true, false, Option, Some, List, refl, ap}
use Rattle.std.specs.Prelude.{MatchBool}
use Rattle.lego_term.specs.Levels.{Assignment}
use Rattle.lego_term.specs.Trees.{Core, Var, Const, Prop, Univ, Pi, Lam, App, Sigma, Pair, Fst, Snd, Let, replace_constants}
use Rattle.lego_laws.specs.Entries.{Entry}
use Rattle.lego_grammar.specs.Grammar.{Names}
use Rattle.lego_grammar.specs.Scopes.{entry_named}
use Rattle.lego_grammar.specs.Denotes.{MarkedTerm}
use Rattle.lego_print.specs.Names.{Scope}
use Rattle.lego_print.specs.Texts.{bound, unbound, binder_name, is_arrow, is_unused}
use Rattle.lego_print.specs.ReadBack.{marked, IsBinderText, IsReadable}

abbrev pub renumber : (ℕ → ℕ) → MarkedTerm → MarkedTerm
renumber numbers m = replace_constants (λ k. Some (Const (numbers k))) m

abbrev pub renumbered : (ℕ → ℕ) → Assignment → Core → MarkedTerm
renumbered numbers v t = renumber numbers (marked v t)

pub same_numbers : (m : MarkedTerm) → renumber (λ k. k) m ≡ m
same_numbers (Var i) = refl
same_numbers (Const k) = refl
same_numbers Prop = refl
same_numbers (Univ l) = refl
same_numbers (Pi x a b) = rw (same_numbers a, same_numbers b) refl
same_numbers (Lam x a m) = rw (same_numbers a, same_numbers m) refl
same_numbers (App k m n) = rw (same_numbers m, same_numbers n) refl
same_numbers (Sigma x a b) = rw (same_numbers a, same_numbers b) refl
same_numbers (Pair x a b m n) = rw (same_numbers a, same_numbers b, same_numbers m, same_numbers n) refl
same_numbers (Fst m) = rw (same_numbers m) refl
same_numbers (Snd m) = rw (same_numbers m) refl
same_numbers (Let x m n) = rw (same_numbers m, same_numbers n) refl

match_any : {P Q R : Type 0} (u : Bool) → (P → R) → (Q → R) → MatchBool u P Q → R
match_any true f g h = f h
match_any false f g h = g h

match_both : {P Q R S : Type 0} (u : Bool) → (P → R) → (Q → S) → MatchBool u P Q → MatchBool u R S
match_both true f g h = f h
match_both false f g h = g h

-- an entry of this name, and its number
pub record IsFoundAs (es : List Entry) (n number : ℕ) : Type 0 where
  pub entry : Entry
  pub named : entry_named es n ≡ Some entry
  pub number_is : entry.number ≡ number

module _ (names : Names) (es : List Entry) (v : Assignment) where
  -- numbers that stay as they are at the constants of a readable term
  module _ (numbers others : ℕ → ℕ) (stays : (n : ℕ) (e : Entry) → entry_named es n ≡ Some e → others (numbers e.number) ≡ numbers e.number) where
    abbrev Stays : Core → Type 0
    Stays t = renumber others (renumbered numbers v t) ≡ renumbered numbers v t

    pub settled : (t : Core) (scope : Scope) → IsReadable names es (λ k. k) v scope t → Stays t
    settled (Var i) scope h = refl
    settled (Const k) scope h =
        let e : others (numbers k) ≡ numbers k = let s = stays h.text.number h.entry h.named in let is = h.number in cc in
        ap (λ (n : ℕ). Const n) e
    settled Prop scope h = refl
    settled (Univ l) scope h = refl
    settled (Pi x a b) scope h =
        let A = settled a scope h.0 in
        let B = match_any {R = Stays b} (is_arrow x b) (λ p. settled b (unbound scope) p) (λ q. settled b (bound scope x.name) q.1) h.1 in
        rw (A, B) refl
    settled (Lam x a m) scope h = let A = settled a scope h.0 in let M = settled m (bound scope x.name) h.2 in rw (A, M) refl
    settled (App mark m n) scope h = let M = settled m scope h.0 in let N = settled n scope h.1 in rw (M, N) refl
    settled (Sigma x a b) scope h =
        let A = settled a scope h.1 in
        let B = match_any {R = Stays b} (is_unused b) (λ p. settled b (unbound scope) p) (λ q. settled b (bound scope x.name) q.1) h.2 in
        rw (A, B) refl
    settled (Pair x a b m n) scope h =
        let A = settled a scope h.1 in
        let B = match_any {R = Stays b} (is_unused b) (λ p. settled b (unbound scope) p) (λ q. settled b (bound scope x.name) q.1) h.2 in
        let M = settled m scope h.3 in
        let N = settled n scope h.4 in
        rw (A, B, M, N) refl
    settled (Fst m) scope h = let M = settled m scope h in rw M refl
    settled (Snd m) scope h = let M = settled m scope h in rw M refl
    settled (Let x m n) scope h = let M = settled m scope h.1 in let N = settled n (bound scope x.name) h.3 in rw (M, N) refl

  -- a readable term is so over other entries of the same names
  module _ (others : List Entry) (numbers : ℕ → ℕ) (found : (n : ℕ) (e : Entry) → entry_named es n ≡ Some e → IsFoundAs others n (numbers e.number)) where
    abbrev Moved : Scope → Core → Type 0
    Moved scope t = IsReadable names others numbers v scope t

    abbrev MovedBound : Scope → Option ℕ → Core → Type 0
    MovedBound scope name b = IsBinderText names scope (binder_name scope name) × Moved (bound scope name) b

    pub moved : (t : Core) (scope : Scope) → IsReadable names es (λ k. k) v scope t → Moved scope t
    moved (Var i) scope h = h
    moved (Const k) scope h =
        let f = found h.text.number h.entry h.named in
        record { text = h.text; in_scope = h.in_scope; entry = f.entry; named = f.named; number = let a = f.number_is in let b = h.number in cc }
    moved Prop scope h = tt
    moved (Univ l) scope h = h
    moved (Pi x a b) scope h = (
      moved a scope h.0,
      match_both {R = Moved (unbound scope) b} {S = MovedBound scope x.name b} (is_arrow x b) (λ p. moved b (unbound scope) p) (λ q. (q.0, moved b (bound scope x.name) q.1)) h.1,
    )
    moved (Lam x a m) scope h = (moved a scope h.0, h.1, moved m (bound scope x.name) h.2)
    moved (App mark m n) scope h = (moved m scope h.0, moved n scope h.1)
    moved (Sigma x a b) scope h = (
      h.0,
      moved a scope h.1,
      match_both {R = Moved (unbound scope) b} {S = MovedBound scope x.name b} (is_unused b) (λ p. moved b (unbound scope) p) (λ q. (q.0, moved b (bound scope x.name) q.1)) h.2,
    )
    moved (Pair x a b m n) scope h = (
      h.0,
      moved a scope h.1,
      match_both {R = Moved (unbound scope) b} {S = MovedBound scope x.name b} (is_unused b) (λ p. moved b (unbound scope) p) (λ q. (q.0, moved b (bound scope x.name) q.1)) h.2,
      moved m scope h.3,
      moved n scope h.4,
    )
    moved (Fst m) scope h = moved m scope h
    moved (Snd m) scope h = moved m scope h
    moved (Let x m n) scope h = (h.0, moved m scope h.1, h.2, moved n (bound scope x.name) h.3)
