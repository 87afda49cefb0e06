-- Equal terms have equal digests, and terms that are equal but for levels have digests with equal lower halves.
use Rattle.std.proofs.Common.{◌≡◌, ℕ, ◌+◌, ◌*◌, ◌%◌, ◌^◌, refl, ap, sym, ◌∙◌}
use Rattle.std.proofs.lemmas.Nat.{mul-mod}
use Rattle.std.proofs.lemmas.Nat.Gcd.{dvd_of_mod-eq-zero}
use Rattle.std.proofs.Math.Nat.{add-mod, mul-mod_left, mod-mod_of_dvd}
use Rattle.lego_term.specs.Trees.{Core, Tree, Var, Const, Prop, Univ, Pi, Lam, App, Sigma, Pair, Fst, Snd, Let, map_tree, shape, Equal, EqualButLevels}
use Rattle.lego_term.specs.private.Digest.{plus, times, twisted, mixed, level_digest, lower_half, digest_by, digest}
use Rattle.lego_term.specs.declared.level.Level.{Level}

-- names, marks and levels that are replaced change a digest by what the levels count as
digest_by-map : {B B' M M' L L' : Type 0} (f : B → B') (g : M → M') (k : L → L') (h : L' → ℕ) (t : Tree B M L) → digest_by h (map_tree f g k t) ≡ digest_by (λ l. h (k l)) t
digest_by-map f g k h (Var n) i = mixed 1 n
digest_by-map f g k h (Const n) i = mixed 2 n
digest_by-map f g k h Prop i = mixed 3 0
digest_by-map f g k h (Univ l) i = mixed 4 (h (k l))
digest_by-map f g k h (Pi x a b) i = mixed (mixed 5 (digest_by-map f g k h a i)) (digest_by-map f g k h b i)
digest_by-map f g k h (Lam x a m) i = mixed (mixed 6 (digest_by-map f g k h a i)) (digest_by-map f g k h m i)
digest_by-map f g k h (App x m n) i = mixed (mixed 7 (digest_by-map f g k h m i)) (digest_by-map f g k h n i)
digest_by-map f g k h (Sigma x a b) i = mixed (mixed 8 (digest_by-map f g k h a i)) (digest_by-map f g k h b i)
digest_by-map f g k h (Pair x a b m n) i =
    mixed (mixed (mixed (mixed 9 (digest_by-map f g k h a i)) (digest_by-map f g k h b i)) (digest_by-map f g k h m i)) (digest_by-map f g k h n i)
digest_by-map f g k h (Fst m) i = mixed 10 (digest_by-map f g k h m i)
digest_by-map f g k h (Snd m) i = mixed 11 (digest_by-map f g k h m i)
digest_by-map f g k h (Let x m n) i = mixed (mixed 12 (digest_by-map f g k h m i)) (digest_by-map f g k h n i)

pub Equal-digest : (a b : Core) → Equal a b → digest a ≡ digest b
Equal-digest a b e =
    sym (digest_by-map _ _ _ level_digest a) ∙ (ap (digest_by level_digest) e ∙ digest_by-map _ _ _ level_digest b)

-- numbers with the same lower half
record Alike (m n : ℕ) : Type 0 where
  halves : lower_half m ≡ lower_half n

alike_itself : (n : ℕ) → Alike n n
alike_itself n = record { halves = refl }

low_within : (n : ℕ) → lower_half (n % 2 ^ 64) ≡ lower_half n
low_within n = mod-mod_of_dvd 4294967296 n (dvd_of_mod-eq-zero 4294967296 refl)

plus-low : (m n : ℕ) → lower_half (plus m n) ≡ lower_half (lower_half m + lower_half n)
plus-low m n = low_within (m + n) ∙ add-mod m n 4294967296

times-low : (m n : ℕ) → lower_half (times m n) ≡ lower_half (lower_half m * lower_half n)
times-low m n = low_within (m * n) ∙ mul-mod m n 4294967296

alike_plus : {m m' n n' : ℕ} → Alike m m' → Alike n n' → Alike (plus m n) (plus m' n')
alike_plus {m = m} {m' = m'} {n = n} {n' = n'} e f =
    record { halves = plus-low m n ∙ ((λ i. lower_half (e.halves i + f.halves i)) ∙ sym (plus-low m' n')) }

alike_times : {m m' n n' : ℕ} → Alike m m' → Alike n n' → Alike (times m n) (times m' n')
alike_times {m = m} {m' = m'} {n = n} {n' = n'} e f =
    record { halves = times-low m n ∙ ((λ i. lower_half (e.halves i * f.halves i)) ∙ sym (times-low m' n')) }

alike_twisted : {n n' : ℕ} → Alike n n' → Alike (twisted n) (twisted n')
alike_twisted e = alike_times e (alike_plus (alike_times e (alike_itself 2)) (alike_itself 1))

alike_mixed : {m m' n n' : ℕ} → Alike m m' → Alike n n' → Alike (mixed m n) (mixed m' n')
unfolding mixed
alike_mixed e f = alike_twisted (alike_plus (alike_times e (alike_itself 6364136223846793005)) f)

alike_level : (l : Level) → Alike (level_digest l) 0
unfolding level_digest
alike_level l = record { halves = low_within _ ∙ mul-mod_left _ 4294967296 }

-- digests by which each level has the same lower half
module _ {B M L : Type 0} (h h' : L → ℕ) (levels : (l : L) → Alike (h l) (h' l)) where
  alike_digests : (t : Tree B M L) → Alike (digest_by h t) (digest_by h' t)
  alike_digests (Var i) = alike_itself _
  alike_digests (Const k) = alike_itself _
  alike_digests Prop = alike_itself _
  alike_digests (Univ l) = alike_mixed (alike_itself 4) (levels l)
  alike_digests (Pi x a b) = alike_mixed (alike_mixed (alike_itself 5) (alike_digests a)) (alike_digests b)
  alike_digests (Lam x a m) = alike_mixed (alike_mixed (alike_itself 6) (alike_digests a)) (alike_digests m)
  alike_digests (App k m n) = alike_mixed (alike_mixed (alike_itself 7) (alike_digests m)) (alike_digests n)
  alike_digests (Sigma x a b) = alike_mixed (alike_mixed (alike_itself 8) (alike_digests a)) (alike_digests b)
  alike_digests (Pair x a b m n) =
      alike_mixed (alike_mixed (alike_mixed (alike_mixed (alike_itself 9) (alike_digests a)) (alike_digests b)) (alike_digests m)) (alike_digests n)
  alike_digests (Fst m) = alike_mixed (alike_itself 10) (alike_digests m)
  alike_digests (Snd m) = alike_mixed (alike_itself 11) (alike_digests m)
  alike_digests (Let x m n) = alike_mixed (alike_mixed (alike_itself 12) (alike_digests m)) (alike_digests n)

low_of_zero : (t : Core) → lower_half (digest t) ≡ lower_half (digest_by (λ l. 0) t)
low_of_zero t = (alike_digests level_digest (λ l. 0) alike_level t).halves

zero-shape : (t : Core) → digest_by (λ l. 0) (shape t) ≡ digest_by (λ l. 0) t
zero-shape t = digest_by-map _ _ _ (λ l. 0) t

pub EqualButLevels-digest : (a b : Core) → EqualButLevels a b → lower_half (digest a) ≡ lower_half (digest b)
EqualButLevels-digest a b e =
    let same = sym (zero-shape a) ∙ (ap (digest_by (λ l. 0)) e ∙ zero-shape b) in
    low_of_zero a ∙ (ap lower_half same ∙ sym (low_of_zero b))
