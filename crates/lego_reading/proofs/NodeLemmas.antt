-- What holds of each binder, constant and level of terms holds of those of an annotation.
use Rattle.std.proofs.Common.{◌≡◌, ℕ, suc, ◌-◌, Bool, true, false, nat_lt, nat_eq, if◌then◌else◌, [], ◌∷◌, Some, List}
use Rattle.lego_term.specs.declared.binder.Binder.{Binder}
use Rattle.lego_term.specs.declared.level.Level.{Level}
use Rattle.lego_term.specs.Trees.{Core, Var, Const, Prop, Univ, Pi, Lam, App, Sigma, Pair, Fst, Snd, Let, lift, put, put_var}
use Rattle.lego_laws.specs.Entries.{Entry, core_bodies}
use Rattle.lego_grammar.specs.Scopes.{LocalVariable, Scope, put_values}
use Rattle.lego_grammar.specs.Reading.{Annotates}
use Rattle.lego_inference.specs.Binders.{BinderKind, EachPart}
use Rattle.lego_inference.proofs.PartLemmas.{parts_lifted, parts_head}

module _ (B : BinderKind → Binder → Type 0) (C : ℕ → Type 0) (L : Level → Type 0) where
  parts_of_variable : (depth i : ℕ) (y : Core) → EachPart B C L y → EachPart B C L (put_var depth y i)
  parts_of_variable depth i y h = by_place (nat_lt i depth) (nat_eq i depth)
    where
      by_place : (c d : Bool) → EachPart B C L (if c then Var i else if d then lift 0 depth y else Var (i - 1))
      by_place true d = tt
      by_place false true = parts_lifted B C L 0 depth y h
      by_place false false = tt

  parts_put : (depth : ℕ) (y t : Core) → EachPart B C L y → EachPart B C L t → EachPart B C L (put depth y t)
  parts_put depth y (Var i) g h = parts_of_variable depth i y g
  parts_put depth y (Const k) g h = h
  parts_put depth y Prop g h = tt
  parts_put depth y (Univ l) g h = h
  parts_put depth y (Pi x a r) g h = (h.0, parts_put depth y a g h.1, parts_put (suc depth) y r g h.2)
  parts_put depth y (Lam x a m) g h = (h.0, parts_put depth y a g h.1, parts_put (suc depth) y m g h.2)
  parts_put depth y (Sigma x a r) g h = (h.0, parts_put depth y a g h.1, parts_put (suc depth) y r g h.2)
  parts_put depth y (Let x a r) g h = (h.0, parts_put depth y a g h.1, parts_put (suc depth) y r g h.2)
  parts_put depth y (App k m n) g h = (parts_put depth y m g h.0, parts_put depth y n g h.1)
  parts_put depth y (Pair x a r m n) g h =
      (h.0, parts_put depth y a g h.1, parts_put (suc depth) y r g h.2, parts_put depth y m g h.3, parts_put depth y n g h.4)
  parts_put depth y (Fst m) g h = parts_put depth y m g h
  parts_put depth y (Snd m) g h = parts_put depth y m g h

  -- the values of local definitions are so
  abbrev pub EachValue : Scope → Type 0
  EachValue [] = Unit {0}
  EachValue (LocalVariable.Bound name ∷ scope) = EachValue scope
  EachValue (LocalVariable.Defined name value ∷ scope) = EachPart B C L value × EachValue scope

  parts_of_values : (scope : Scope) (depth : ℕ) (t : Core) → EachValue scope → EachPart B C L t → EachPart B C L (put_values scope depth t)
  parts_of_values [] depth t v h = h
  parts_of_values (LocalVariable.Bound name ∷ scope) depth t v h = parts_of_values scope (suc depth) t v h
  parts_of_values (LocalVariable.Defined name value ∷ scope) depth t v h =
      parts_of_values scope (suc depth) (lift depth 1 (put depth value t)) v.1 (parts_lifted B C L depth 1 (put depth value t) (parts_put depth value t v.0 h))

  pub parts_of_annotation : (es : List Entry) (scope : Scope) (c a : Core)
      → ((k : ℕ) (t : Core) → core_bodies es k ≡ Some t → EachPart B C L t)
      → EachValue scope → EachPart B C L c → Annotates es scope c a → EachPart B C L a
  parts_of_annotation es scope c a each v h (Annotates.core is) = h
  parts_of_annotation es scope c a each v h (Annotates.head_form is form) =
      parts_head B C L (core_bodies es) each form (parts_of_values scope 0 c v h)
