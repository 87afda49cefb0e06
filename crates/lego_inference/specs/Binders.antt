-- What holds of each binder, each constant and each level of a term; and the laws by which it holds of what a term comes to.
use Rattle.std.specs.Prelude.{ℕ, List, Bool, IsTrue}
use Rattle.std.specs.List.{AllByRecursion}
use Rattle.lego_term.specs.Trees.{Core, Var, Const, Prop, Univ, Pi, Lam, App, Sigma, Pair, Fst, Snd, Let, instantiate}
use Rattle.lego_term.specs.declared.binder.Binder.{Binder}
use Rattle.lego_term.specs.declared.level.Level.{Level}
use Rattle.lego_term.specs.Sequences.{HeadForm}
use Rattle.lego_laws.specs.Entries.{Entry, core_bodies}
use Rattle.lego_laws.specs.Places.{Site, RuleTypeAt}
use Rattle.lego_inference.specs.Entries.{HoldsInEntries}

-- what a binder belongs to: a product or a function, a Sigma type or a pair, or a local definition
pub data BinderKind : Type 0 where
  OfFunction OfPair OfLocal : BinderKind

-- each binder, each constant and each level of the tree is so
abbrev pub EachPart : (binder : BinderKind → Binder → Type 0) → (constant : ℕ → Type 0) → (level : Level → Type 0) → Core → Type 0
EachPart b c l (Var i) = Unit {0}
EachPart b c l (Const k) = c k
EachPart b c l Prop = Unit {0}
EachPart b c l (Univ u) = l u
EachPart b c l (Pi x a r) = b OfFunction x × EachPart b c l a × EachPart b c l r
EachPart b c l (Lam x a m) = b OfFunction x × EachPart b c l a × EachPart b c l m
EachPart b c l (App k m n) = EachPart b c l m × EachPart b c l n
EachPart b c l (Sigma x a r) = b OfPair x × EachPart b c l a × EachPart b c l r
EachPart b c l (Pair x a r m n) = b OfPair x × EachPart b c l a × EachPart b c l r × EachPart b c l m × EachPart b c l n
EachPart b c l (Fst m) = EachPart b c l m
EachPart b c l (Snd m) = EachPart b c l m
EachPart b c l (Let x m n) = b OfLocal x × EachPart b c l m × EachPart b c l n

-- each binder of the tree is so
abbrev pub EachBinder : (BinderKind → Binder → Type 0) → Core → Type 0
EachBinder b t = EachPart b (λ k. Unit {0}) (λ l. Unit {0}) t

-- each binder of the tree passes the test
abbrev pub BindersPass : (BinderKind → Binder → Bool) → Core → Type 0
BindersPass test t = EachBinder (λ kind x. IsTrue (test kind x)) t

-- where the binders of two terms pass a test, so do those of the one with the other put in
abbrev pub SubstitutionKeepsBinders : Type 0
SubstitutionKeepsBinders =
    (test : BinderKind → Binder → Bool) (m n : Core) → BindersPass test m → BindersPass test n → BindersPass test (instantiate m n)

-- where the binders of the entries and of a term pass a test, so do those of its head form
abbrev pub HeadFormsKeepBinders : Type 0
HeadFormsKeepBinders =
    (test : BinderKind → Binder → Bool) (es : List Entry) (t h : Core)
    → HoldsInEntries (BindersPass test) es → BindersPass test t → HeadForm (core_bodies es) t h → BindersPass test h

-- where the binders of the entries, of the local types and of a term pass a test, so do those of its rule type
abbrev pub RuleTypesKeepBinders : Type 0
RuleTypesKeepBinders =
    (test : BinderKind → Binder → Bool) (es : List Entry) (s : Site) (m a : Core)
    → HoldsInEntries (BindersPass test) es → AllByRecursion (BindersPass test) s.types → BindersPass test m → RuleTypeAt es s m a
    → BindersPass test a
