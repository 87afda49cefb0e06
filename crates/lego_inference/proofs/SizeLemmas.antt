-- A term within the limits equals none that passes one.
use Rattle.std.proofs.Common.{◌≡◌, ℕ, zero, suc, ◌+◌, ◌≤◌, ◌<◌, ◌⊎◌, max, Some, List, [], ◌∷◌, slice_get, refl, sym, ap, ◌∙◌, ⊎_elim, arith}
use Rattle.lego_term.specs.Trees.{Tree, Core, Var, Const, Prop, Univ, Pi, Lam, App, Sigma, Pair, Fst, Snd, Let, Equal, map_tree, size, depth}
use Rattle.lego_term.specs.declared.binder.Binder.{Binder}
use Rattle.lego_term.specs.declared.binder.Mark.{Mark}
use Rattle.lego_term.specs.declared.level.Level.{Level}
use Rattle.lego_term.specs.Made.{Fits}
use Rattle.lego_term.specs.Parts.{Branch, parts_of, plain_part, bound_part, Subtree, whole, part, IsTooLarge, subtree}

abbrev plain : Core → Tree (Unit {0}) (Unit {0}) Level
plain t = map_tree (λ x. tt) (λ k. tt) (λ l. l) t

size_plain : (t : Core) → size (plain t) ≡ size t
size_plain (Var i) = refl
size_plain (Const k) = refl
size_plain Prop = refl
size_plain (Univ l) = refl
size_plain (Pi x a b) = let i = size_plain a in let j = size_plain b in omega arith
size_plain (Lam x a b) = let i = size_plain a in let j = size_plain b in omega arith
size_plain (App k a b) = let i = size_plain a in let j = size_plain b in omega arith
size_plain (Sigma x a b) = let i = size_plain a in let j = size_plain b in omega arith
size_plain (Let x a b) = let i = size_plain a in let j = size_plain b in omega arith
size_plain (Pair x a b m n) = let i = size_plain a in let j = size_plain b in let k = size_plain m in let l = size_plain n in omega arith
size_plain (Fst m) = let i = size_plain m in omega arith
size_plain (Snd m) = let i = size_plain m in omega arith

depth_plain : (t : Core) → depth (plain t) ≡ depth t
depth_plain (Var i) = refl
depth_plain (Const k) = refl
depth_plain Prop = refl
depth_plain (Univ l) = refl
depth_plain (Pi x a b) = let i = depth_plain a in let j = depth_plain b in omega arith
depth_plain (Lam x a b) = let i = depth_plain a in let j = depth_plain b in omega arith
depth_plain (App k a b) = let i = depth_plain a in let j = depth_plain b in omega arith
depth_plain (Sigma x a b) = let i = depth_plain a in let j = depth_plain b in omega arith
depth_plain (Let x a b) = let i = depth_plain a in let j = depth_plain b in omega arith
depth_plain (Pair x a b m n) = let i = depth_plain a in let j = depth_plain b in let k = depth_plain m in let l = depth_plain n in omega arith
depth_plain (Fst m) = let i = depth_plain m in omega arith
depth_plain (Snd m) = let i = depth_plain m in omega arith

-- a part is not larger than the whole
record IsWithin (t : Core) (b : Branch) : Type 0 where
  nodes : size b.term ≤ size t
  levels : depth b.term ≤ depth t

is_within : {t : Core} {p b : Branch} → Some p ≡ Some b → size p.term ≤ size t → depth p.term ≤ depth t → IsWithin t b
is_within {t} {p} {b} e l m =
    let same : p ≡ b = cc in
    let i = ap (λ (z : Branch). size z.term) same in
    let j = ap (λ (z : Branch). depth z.term) same in
    record { nodes = omega arith; levels = omega arith }

part_within : (t : Core) (i : ℕ) (b : Branch) → slice_get (parts_of t) i ≡ Some b → IsWithin t b
part_within (Var n) i b e = absurd (cc)
part_within (Const n) i b e = absurd (cc)
part_within Prop i b e = absurd (cc)
part_within (Univ l) i b e = absurd (cc)
part_within (Pi x a r) zero b e = is_within e (omega arith) (omega arith)
part_within (Pi x a r) (suc zero) b e = is_within e (omega arith) (omega arith)
part_within (Pi x a r) (suc (suc i)) b e = absurd (cc)
part_within (Lam x a r) zero b e = is_within e (omega arith) (omega arith)
part_within (Lam x a r) (suc zero) b e = is_within e (omega arith) (omega arith)
part_within (Lam x a r) (suc (suc i)) b e = absurd (cc)
part_within (App k a r) zero b e = is_within e (omega arith) (omega arith)
part_within (App k a r) (suc zero) b e = is_within e (omega arith) (omega arith)
part_within (App k a r) (suc (suc i)) b e = absurd (cc)
part_within (Sigma x a r) zero b e = is_within e (omega arith) (omega arith)
part_within (Sigma x a r) (suc zero) b e = is_within e (omega arith) (omega arith)
part_within (Sigma x a r) (suc (suc i)) b e = absurd (cc)
part_within (Let x a r) zero b e = is_within e (omega arith) (omega arith)
part_within (Let x a r) (suc zero) b e = is_within e (omega arith) (omega arith)
part_within (Let x a r) (suc (suc i)) b e = absurd (cc)
part_within (Pair x a r m n) zero b e = is_within e (omega arith) (omega arith)
part_within (Pair x a r m n) (suc zero) b e = is_within e (omega arith) (omega arith)
part_within (Pair x a r m n) (suc (suc zero)) b e = is_within e (omega arith) (omega arith)
part_within (Pair x a r m n) (suc (suc (suc zero))) b e = is_within e (omega arith) (omega arith)
part_within (Pair x a r m n) (suc (suc (suc (suc i)))) b e = absurd (cc)
part_within (Fst m) zero b e = is_within e (omega arith) (omega arith)
part_within (Fst m) (suc i) b e = absurd (cc)
part_within (Snd m) zero b e = is_within e (omega arith) (omega arith)
part_within (Snd m) (suc i) b e = absurd (cc)

subtree_nodes : {v t : Core} → Subtree v t → size v ≤ size t
subtree_nodes whole = omega arith
subtree_nodes {v} {t} (part {b = b} i e s) = let k = part_within t i b e in let h = subtree_nodes s in omega (arith, k.nodes)

subtree_levels : {v t : Core} → Subtree v t → depth v ≤ depth t
subtree_levels whole = omega arith
subtree_levels {v} {t} (part {b = b} i e s) = let k = part_within t i b e in let h = subtree_levels s in omega (arith, k.levels)

pub too_large_differs : (have want : Core) (i j : ℕ) → Fits have → IsTooLarge want i j → Equal have want → ⊥
too_large_differs have want _ _ fits (subtree {v} s over) same =
    let nodes : size have ≡ size want = sym (size_plain have) ∙ ap size same ∙ size_plain want in
    let levels : depth have ≡ depth want = sym (depth_plain have) ∙ ap depth same ∙ depth_plain want in
    let k = subtree_nodes s in
    let l = subtree_levels s in
    let most = fits.0 in
    let deepest = fits.1 in
    ⊎_elim (λ (p : 1048576 < size v). absurd {A = ⊥} (omega arith)) (λ (p : 2000 < depth v). absurd {A = ⊥} (omega arith)) over
