-- What holds of each binder and explicit level of a written term.
use Rattle.std.specs.Prelude.{ℕ, ◌≤◌, List, [], ◌∷◌, map, All, Some, None}
use Rattle.lego_term.specs.declared.binder.Binder.{Binder}
use Rattle.lego_term.specs.declared.binder.Mark.{Mark}
use Rattle.lego_term.specs.declared.binder.Mark.TheVariants.{Plain}
use Rattle.lego_grammar.specs.declared.surface.Kind.{Kind}
use Rattle.lego_grammar.specs.Reading.{binder}
use Rattle.lego_grammar.specs.Written.{Written, TypeAt, Bind, Local, Apply, Pair, Project}
use Rattle.lego_inference.specs.Binders.{BinderKind, OfFunction, OfPair, OfLocal}

abbrev pub kind_of : Kind → BinderKind
kind_of Kind.Lambda = OfFunction
kind_of Kind.Pi = OfFunction
kind_of Kind.Sigma = OfPair

-- the binders of a written binder: one of each name, or one without a name
abbrev pub written_binders : Mark → List ℕ → List Binder
written_binders mark [] = binder None mark ∷ []
written_binders mark (n ∷ names) = map (λ m. binder (Some m) mark) (n ∷ names)

-- each binder of a written term is so, and each explicit level; a local definition is plain
abbrev pub EachWritten : (BinderKind → Binder → Type 0) → (ℕ → Type 0) → Written → Type 0
EachWritten b l (TypeAt n) = l n
EachWritten b l (Bind kind mark names s t) = All (b (kind_of kind)) (written_binders mark names) × EachWritten b l s × EachWritten b l t
EachWritten b l (Local n s t) = b OfLocal (binder (Some n) Plain) × EachWritten b l s × EachWritten b l t
EachWritten b l (Apply mark s t) = EachWritten b l s × EachWritten b l t
EachWritten b l (Pair m n t) = EachWritten b l m × EachWritten b l n × EachWritten b l t
EachWritten b l (Project part s) = EachWritten b l s
EachWritten b l _ = Unit {0}

abbrev pub EachWrittenBinder : (BinderKind → Binder → Type 0) → Written → Type 0
EachWrittenBinder b s = EachWritten b (λ n. Unit {0}) s

-- each explicit level is at most 1,000,000
abbrev pub HasSmallLevels : Written → Type 0
HasSmallLevels s = EachWritten (λ kind x. Unit {0}) (λ n. n ≤ 1000000) s
