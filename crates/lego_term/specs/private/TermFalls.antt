-- Each part of a term has fewer nodes than the term.
use Rattle.std.specs.Prelude.{◌≤◌, max}
use Rattle.std.proofs.Common.{arith}
use Rattle.lego_term.specs.Trees.{size}
use Rattle.lego_term.specs.private.Form.{tree_of}
use Rattle.lego_term.specs.declared.term.Form.{Form}
use Rattle.lego_term.specs.declared.term.Form.TheVariants.{Var, Const, Prop, Univ, Pi, Lam, App, Sigma, Pair, Fst, Snd, Local}
use Rattle.lego_term.specs.declared.term.Term.TheDeep.{deep-Form}

pub deep_le-size : (f : Form) → max (max (deep-Form f) 0) 0 ≤ size (tree_of f)
deep_le-size (Var i) = omega arith
deep_le-size (Const k) = omega arith
deep_le-size Prop = omega arith
deep_le-size (Univ l) = omega arith
deep_le-size (Pi b x y) = omega arith
deep_le-size (Lam b x y) = omega arith
deep_le-size (App m x y) = omega arith
deep_le-size (Sigma b x y) = omega arith
deep_le-size (Pair b x y m n) = omega arith
deep_le-size (Fst m) = omega arith
deep_le-size (Snd m) = omega arith
deep_le-size (Local b x y) = omega arith
