-- Turning listed constants into variables is a replacement.
use Rattle.std.proofs.Common.{◌≡◌, ℕ, suc, ◌+◌, ◌≤◌, nat_lt, if◌then◌else◌, length, Option, Some, None, option_map, unwrap_or, List, refl, sym, ap, ap₂, ◌∙◌, arith}
use Rattle.std.proofs.lemmas.Bool.Decides.{nat_tests}
use mathlib.Core.Path.{fun_ext}
use Rattle.lego_term.specs.Trees.{Tree, Var, Const, Prop, Univ, Pi, Lam, App, Sigma, Pair, Fst, Snd, lift, loose, listed_variable, close_over, Let}
use Rattle.lego_laws.specs.Replacement.{raised, replace, listed_as_locals, ClosingIsReplacement}

inner_var : (ns : List ℕ) (i depth : ℕ) → suc i ≤ depth → (if nat_lt i depth then i else i + length ns) ≡ i
inner_var ns i depth le = grind (arith, nat_tests)

module _ {B M L : Type 0} (ns : List ℕ) where
  -- the variables for the listed constants, under so many binders
  abbrev listed_at : ℕ → ℕ → Tree B M L
  listed_at depth k = unwrap_or (option_map (λ i. Var (i + depth)) (listed_variable ns k)) (Const k)

  lifted : (depth k : ℕ) (o : Option ℕ) → lift {B = B} {M = M} {L = L} 0 1 (unwrap_or (option_map (λ i. Var (i + depth)) o) (Const k)) ≡ unwrap_or (option_map (λ i. Var (i + suc depth)) o) (Const k)
  lifted depth k None = refl
  lifted depth k (Some i) = ap Var (grind arith)

  raised_listed : (depth : ℕ) → raised (listed_at depth) ≡ listed_at (suc depth)
  raised_listed depth = fun_ext (λ k. lifted depth k (listed_variable ns k))

  pub closing : (depth : ℕ) (t : Tree B M L) → loose t ≤ depth → close_over ns depth t ≡ replace (listed_at depth) t
  closing depth (Var i) le = ap Var (inner_var ns i depth le)
  closing depth (Const k) le = refl
  closing depth Prop le = refl
  closing depth (Univ l) le = refl
  closing depth (Pi x a r) le =
      ap₂ (Pi x) (closing depth a (omega arith)) (closing (suc depth) r (omega arith) ∙ ap (λ s. replace s r) (sym (raised_listed depth)))
  closing depth (Lam x a r) le =
      ap₂ (Lam x) (closing depth a (omega arith)) (closing (suc depth) r (omega arith) ∙ ap (λ s. replace s r) (sym (raised_listed depth)))
  closing depth (App k m n) le = ap₂ (App k) (closing depth m (omega arith)) (closing depth n (omega arith))
  closing depth (Sigma x a r) le =
      ap₂ (Sigma x) (closing depth a (omega arith)) (closing (suc depth) r (omega arith) ∙ ap (λ s. replace s r) (sym (raised_listed depth)))
  closing depth (Pair x a r m n) le =
      let ea = closing depth a (omega arith) in
      let er = closing (suc depth) r (omega arith) ∙ ap (λ s. replace s r) (sym (raised_listed depth)) in
      let em = closing depth m (omega arith) in
      let en = closing depth n (omega arith) in
      cc (ea, er, em, en)
  closing depth (Fst m) le = ap Fst (closing depth m le)
  closing depth (Snd m) le = ap Snd (closing depth m le)
  closing depth (Let x m n) le =
      ap₂ (Let x) (closing depth m (omega arith)) (closing (suc depth) n (omega arith) ∙ ap (λ s. replace s n) (sym (raised_listed depth)))

  unlifted : (k : ℕ) (o : Option ℕ) → ◌≡◌ {A = Tree B M L} (unwrap_or (option_map (λ i. Var (i + 0)) o) (Const k)) (unwrap_or (option_map Var o) (Const k))
  unlifted k None = refl
  unlifted k (Some i) = ap Var (omega arith)

  pub closed_over : (t : Tree B M L) → loose t ≡ 0 → close_over ns 0 t ≡ replace (listed_as_locals ns) t
  closed_over t e =
      let same : listed_at 0 ≡ listed_as_locals ns = fun_ext (λ k. unlifted k (listed_variable ns k)) in
      closing 0 t (omega arith) ∙ ap (λ s. replace s t) same

pub closing_is_replacement : ClosingIsReplacement
closing_is_replacement ns m e = closed_over ns m e
