-- The constants and levels of terms.
use Rattle.std.proofs.Common.{◌≡◌, ℕ, ◌≤◌, Bool, IsTrue, IsSome, List, Some}
use Rattle.lego_term.specs.declared.level.Level.{Level}
use Rattle.lego_term.specs.Levels.{Assignment}
use Rattle.lego_term.specs.Trees.{Core, Term, Var, Const, Prop, Univ, Pi, Lam, App, Sigma, Pair, Fst, Snd, Let, at}
use Rattle.lego_laws.specs.Entries.{Entry, entry_of}
use Rattle.lego_laws.specs.Parallel.{TermBodies}
use Rattle.lego_laws.specs.Derivations.{Derives, d_prop, d_univ, d_var, d_const, d_pi_prop, d_pi, d_lam, d_app, d_sigma, d_pair, d_fst, d_snd, d_let, d_cum}
use Rattle.lego_laws.specs.Strengthening.{MentionsOnly}
use Rattle.lego_laws.proofs.lemmas.constants.KnownConstants.{m-body}
use Rattle.lego_inference.specs.Locals.{EachLeaf, NamesEntries}
use Rattle.lego_context.specs.Contexts.{HasSmallLevels}

module _ (C D : ℕ → Type 0) (L : Level → Type 0) (h : (k : ℕ) → C k → D k) where
  -- constants that are so
  pub leaves-weaker : (m : Core) → EachLeaf C L m → EachLeaf D L m
  leaves-weaker (Var i) s = tt
  leaves-weaker (Const k) s = h k s
  leaves-weaker Prop s = tt
  leaves-weaker (Univ l) s = s
  leaves-weaker (Pi x a r) s = (tt, leaves-weaker a s.1, leaves-weaker r s.2)
  leaves-weaker (Lam x a r) s = (tt, leaves-weaker a s.1, leaves-weaker r s.2)
  leaves-weaker (App x a r) s = (leaves-weaker a s.0, leaves-weaker r s.1)
  leaves-weaker (Sigma x a r) s = (tt, leaves-weaker a s.1, leaves-weaker r s.2)
  leaves-weaker (Pair x a r m n) s = (tt, leaves-weaker a s.1, leaves-weaker r s.2, leaves-weaker m s.3, leaves-weaker n s.4)
  leaves-weaker (Fst m) s = leaves-weaker m s
  leaves-weaker (Snd m) s = leaves-weaker m s
  leaves-weaker (Let x a r) s = (tt, leaves-weaker a s.1, leaves-weaker r s.2)

-- the levels of a term over entries are small
pub small_levels : (es : List Entry) (m : Core) → NamesEntries es m → HasSmallLevels m
small_levels es m s = leaves-weaker (λ k. IsSome (entry_of es k)) (λ k. Unit {0}) (λ l. l.plus ≤ 1000000) (λ k _. tt) m s

module _ (p : ℕ → Bool) where
  -- the constants of a typed term have types
  pub mentioned : {c b : TermBodies} {g : List Term} {m a : Term} → ((k : ℕ) (t : Term) → c k ≡ Some t → IsTrue (p k)) → Derives c b g m a → MentionsOnly p m
  mentioned h d_prop = tt
  mentioned h d_univ = tt
  mentioned h (d_var l) = tt
  mentioned h (d_const {k = k} {a = a} e) = h k a e
  mentioned h (d_pi_prop d e) = (mentioned h d, mentioned h e)
  mentioned h (d_pi d e) = (mentioned h d, mentioned h e)
  mentioned h (d_lam d e) = (mentioned h d, mentioned h e)
  mentioned h (d_app d e) = (mentioned h d, mentioned h e)
  mentioned h (d_sigma d e) = (mentioned h d, mentioned h e)
  mentioned h (d_pair d e m n) = (mentioned h d, mentioned h e, mentioned h m, mentioned h n)
  mentioned h (d_fst d) = mentioned h d
  mentioned h (d_snd d) = mentioned h d
  mentioned h (d_let {m = m} {n = n} d e) = (mentioned h d, m-body p n m (mentioned h e))
  mentioned h (d_cum d e l) = mentioned h d

  -- what a term's value mentions, the term mentions
  pub leaves : (v : Assignment) (m : Core) → MentionsOnly p (at v m) → HasSmallLevels m → EachLeaf (λ k. IsTrue (p k)) (λ l. l.plus ≤ 1000000) m
  leaves v (Var i) h s = tt
  leaves v (Const k) h s = h
  leaves v Prop h s = tt
  leaves v (Univ l) h s = s
  leaves v (Pi x a r) h s = (tt, leaves v a h.0 s.1, leaves v r h.1 s.2)
  leaves v (Lam x a r) h s = (tt, leaves v a h.0 s.1, leaves v r h.1 s.2)
  leaves v (App x a r) h s = (leaves v a h.0 s.0, leaves v r h.1 s.1)
  leaves v (Sigma x a r) h s = (tt, leaves v a h.0 s.1, leaves v r h.1 s.2)
  leaves v (Pair x a r m n) h s = (tt, leaves v a h.0 s.1, leaves v r h.1 s.2, leaves v m h.2 s.3, leaves v n h.3 s.4)
  leaves v (Fst m) h s = leaves v m h s
  leaves v (Snd m) h s = leaves v m h s
  leaves v (Let x a r) h s = (tt, leaves v a h.0 s.1, leaves v r h.1 s.2)
