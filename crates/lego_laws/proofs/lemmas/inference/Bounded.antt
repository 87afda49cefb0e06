-- Generation for derivations whose universes are at most a number.
use Rattle.std.proofs.Common.{ℕ, List, inl, inr}
use Rattle.lego_term.specs.Trees.{Term, Var, Const, Prop, Univ, Pi, Lam, App, Sigma, Pair, Fst, Snd, Let}
use Rattle.lego_laws.specs.Parallel.{TermBodies}
use Rattle.lego_term.specs.Below.{Below}
use Rattle.lego_laws.specs.Ranges.{Bounded, b_prop, b_univ, b_var, b_const, b_pi_prop, b_pi, b_lam, b_app, b_sigma, b_pair, b_fst, b_snd, b_let, b_cum, GeneratedUpTo}
use Rattle.lego_laws.proofs.lemmas.typing.Inversion.{at}

raised_up : (t : ℕ) (c b : TermBodies) (g : List Term) (m : Term) (q u : Term) → GeneratedUpTo t c b g m q → Below b q u → GeneratedUpTo t c b g m u
raised_up t c b g (Var i) _ _ (a, l, p) q = (a, l, Below.chain p q)
raised_up t c b g (Const k) _ _ (a, l, p) q = (a, l, Below.chain p q)
raised_up t c b g Prop _ _ p q = Below.chain p q
raised_up t c b g (Univ l) _ _ (le, p) q = (le, Below.chain p q)
raised_up t c b g (Pi tt a r) _ _ (j, d, inl (e, p)) q = (j, d, inl (e, Below.chain p q))
raised_up t c b g (Pi tt a r) _ _ (j, d, inr (le, e, p)) q = (j, d, inr (le, e, Below.chain p q))
raised_up t c b g (Lam tt a m) _ _ (j, r, d, e, p) q = (j, r, d, e, Below.chain p q)
raised_up t c b g (App tt m n) _ _ (a, r, d, e, p) q = (a, r, d, e, Below.chain p q)
raised_up t c b g (Sigma tt a r) _ _ (j, le, d, e, p) q = (j, le, d, e, Below.chain p q)
raised_up t c b g (Pair tt a r m n) _ _ (i, j, d, e, x, y, p) q = (i, j, d, e, x, y, Below.chain p q)
raised_up t c b g (Fst m) _ _ (a, r, d, p) q = (a, r, d, Below.chain p q)
raised_up t c b g (Snd m) _ _ (a, r, d, p) q = (a, r, d, Below.chain p q)
raised_up t c b g (Let tt m n) _ _ (a, r, d, e, p) q = (a, r, d, e, Below.chain p q)

pub generation_up : {t : ℕ} {c b : TermBodies} {g : List Term} {m q : Term} → Bounded t c b g m q → GeneratedUpTo t c b g m q
generation_up b_prop = at
generation_up (b_univ le) = (le, at)
generation_up (b_var {a = a} l) = (a, l, at)
generation_up (b_const {a = a} e) = (a, e, at)
generation_up (b_pi_prop {j = j} d e) = (j, d, inl (e, at))
generation_up (b_pi {j = j} le d e) = (j, d, inr (le, e, at))
generation_up (b_lam {r = r} {j = j} d e) = (j, r, d, e, at)
generation_up (b_app {a = a} {r = r} d e) = (a, r, d, e, at)
generation_up (b_sigma {j = j} le d e) = (j, le, d, e, at)
generation_up (b_pair {i = i} {j = j} d e x y) = (i, j, d, e, x, y, at)
generation_up (b_fst {a = a} {r = r} d) = (a, r, d, at)
generation_up (b_snd {a = a} {r = r} d) = (a, r, d, at)
generation_up (b_let {a = a} {q = q} d e) = (a, q, d, e, at)
generation_up {t} {c} {b} (b_cum {g = g} {m = m} d l) = raised_up t c b g m _ _ (generation_up d) l
