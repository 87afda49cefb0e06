-- What the root of a term, with the parts below it, stands for.
use Rattle.lego_term.specs.Trees.{Core}
use Rattle.lego_term.specs.Trees as tree
use Rattle.lego_term.specs.declared.term.Node.{Node}
use Rattle.lego_term.specs.declared.term.Node.TheVariants.{Var, Const, Prop, Univ, Pi, Lam, App, Sigma, Pair, Fst, Snd, Local}

abbrev pub shown : Node → Core
shown (Var i) = tree.Var i
shown (Const k) = tree.Const k
shown Prop = tree.Prop
shown (Univ l) = tree.Univ l
shown (Pi x a b) = tree.Pi x a.now b.now
shown (Lam x a m) = tree.Lam x a.now m.now
shown (App k m n) = tree.App k m.now n.now
shown (Sigma x a b) = tree.Sigma x a.now b.now
shown (Pair x a b m n) = tree.Pair x a.now b.now m.now n.now
shown (Fst m) = tree.Fst m.now
shown (Snd m) = tree.Snd m.now
shown (Local x m n) = tree.Let x m.now n.now
