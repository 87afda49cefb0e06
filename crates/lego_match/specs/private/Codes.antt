-- What the small functions of a match answer.
use Rattle.std.specs.Prelude.{ℕ, ◌-◌, Bool, true, false, ◌&&◌, nat_eq}
use Rattle.lego_term.specs.Trees.{Core, Var, Const, Prop, Univ, Pi, Lam, App, Sigma, Pair, Fst, Snd, Let}
use Rattle.lego_term.specs.Numbered.{is_at_head}
use Rattle.lego_match.specs.declared.walk.Position.{Position}

-- whether two terms agree, node by node
abbrev pub agrees : Core → Core → Bool
agrees (Var i) (Var j) = nat_eq i j
agrees (Const k) (Const n) = nat_eq k n
agrees Prop Prop = true
agrees Prop (Univ l) = true
agrees (Univ l) Prop = true
agrees (Univ l) (Univ m) = true
agrees (Pi x a b) (Pi y c d) = agrees a c && agrees b d
agrees (Lam x a b) (Lam y c d) = agrees a c && agrees b d
agrees (App k a b) (App n c d) = agrees a c && agrees b d
agrees (Sigma x a b) (Sigma y c d) = agrees a c && agrees b d
agrees (Pair x a b m n) (Pair y c d p q) = agrees a c && agrees b d && agrees m p && agrees n q
agrees (Fst a) (Fst c) = agrees a c
agrees (Snd a) (Snd c) = agrees a c
agrees (Let x a b) (Let y c d) = agrees a c && agrees b d
agrees _ _ = false

-- whether two head forms agree but for their parts
abbrev pub agree_at_root : Core → Core → Bool
agree_at_root (Var i) (Var j) = nat_eq i j
agree_at_root (Const k) (Const n) = nat_eq k n
agree_at_root Prop Prop = true
agree_at_root Prop (Univ l) = true
agree_at_root (Univ l) Prop = true
agree_at_root (Univ l) (Univ m) = true
agree_at_root (Pi x a b) (Pi y c d) = true
agree_at_root (Lam x a b) (Lam y c d) = true
agree_at_root (App k a b) (App n c d) = true
agree_at_root (Sigma x a b) (Sigma y c d) = true
agree_at_root (Pair x a b m n) (Pair y c d p q) = true
agree_at_root (Fst a) (Fst c) = true
agree_at_root (Snd a) (Snd c) = true
agree_at_root _ _ = false

-- where a walk stands at the numbered part of the term
abbrev pub position_inside : Position → Core → ℕ → Position
position_inside at t i = record {
  room = at.room - 1;
  limit = at.limit;
  are_normal = at.are_normal;
  are_head_forms = is_at_head t i;
}
