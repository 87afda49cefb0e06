-- Small statements that show what explicit reading and denotation say.
use Rattle.std.specs.Prelude.{◌≡◌, ℕ, List, [], ◌∷◌, codes, Some, None}
use Rattle.lego_base.specs.declared.place.Place.{Place}
use Rattle.lego_term.specs.Levels.{Assignment, variable_level}
use Rattle.lego_term.specs.declared.binder.Binder.{Binder}
use Rattle.lego_term.specs.declared.binder.Mark.TheVariants.{Plain}
use Rattle.lego_term.specs.Trees.{Core, Var, Const, Prop, Univ, Lam, Sigma, Pair, Let}
use Rattle.lego_laws.specs.Entries.{Entry}
use Rattle.lego_grammar.specs.declared.surface.Kind.{Kind}
use Rattle.lego_grammar.specs.Written.{Written}
use Rattle.lego_grammar.specs.Grammar.{Names}
use Rattle.lego_grammar.specs.Scopes.{TypeVariables}
use Rattle.lego_grammar.specs.Reading.{ReadsExplicitly}
use Rattle.lego_grammar.specs.Denotes.{Declaration, ReadsDeclarations, Denotes}
use Rattle.lego_grammar.specs.Developments.{IsDevelopmentText, Develops}

abbrev pub at : ℕ → Place
at column = record { line = 1; column = column }

-- A, a and p are the names 0, 1 and 2
abbrev pub few_names : Names
few_names = codes "A" ∷ codes "a" ∷ codes "p" ∷ []

abbrev pub of_type : ℕ → ℕ → Core → Entry
of_type number name ty =
    record { number = number; name = Some name; mark = Plain; ty = ty; body = None; hypotheses = 0; constraints = [] }

abbrev pub two_assumptions : List ℕ
two_assumptions = codes "Explicit;[A:Prop];[a:A];"

-- the numbers of entries are free
abbrev pub AssumptionsAreDenoted : Type 0
AssumptionsAreDenoted = Denotes few_names (at 1) two_assumptions [] (of_type 7 0 Prop ∷ of_type 3 1 (Const 7) ∷ [])

-- the text is a development, of which all holds that is promised of one
abbrev pub DevelopmentsHold : Type 0
DevelopmentsHold =
    IsDevelopmentText few_names (at 1) two_assumptions
    × Develops few_names (at 1) two_assumptions [] (of_type 7 0 Prop ∷ of_type 3 1 (Const 7) ∷ [])

-- the type of `a` is not `Prop`
abbrev pub OtherTypesAreNotDenoted : Type 0
OtherTypesAreNotDenoted = (v : Assignment) → Denotes few_names (at 1) two_assumptions v (of_type 7 0 Prop ∷ of_type 3 1 Prop ∷ []) → ⊥

-- `<x:A>A`, whatever the name x is
abbrev pub a_sigma_a : Binder → Core
a_sigma_a x = Sigma x (Const 0) (Const 0)

-- a definition of a pair, in which the `#` is read as a Sigma type; the name of its binder is free
abbrev pub PairIsDenoted : Type 0
PairIsDenoted =
    (x : ℕ)
    → Denotes few_names (at 1) (codes "Explicit;[A:Prop];[a:A];[p=(a,a:A#A):A#A];") []
    (of_type 0 0 Prop ∷ of_type 1 1 (Const 0)
    ∷ record {
      number = 2;
      name = Some 2;
      mark = Plain;
      ty = a_sigma_a (record { name = Some x; mark = Plain });
      body = Some (Pair (record { name = Some x; mark = Plain }) (Const 0) (Const 0) (Const 1) (Const 1));
      hypotheses = 0;
      constraints = [];
    } ∷ [])

-- a written level is the value of the entry's level
abbrev pub LevelsAreValues : Type 0
LevelsAreValues =
    Denotes few_names (at 1) (codes "Explicit;[A:Type(3)];") (0 ∷ 3 ∷ []) (of_type 0 0 (Univ (variable_level 1)) ∷ [])
    × (Denotes few_names (at 1) (codes "Explicit;[A:Type(3)];") (0 ∷ 4 ∷ []) (of_type 0 0 (Univ (variable_level 1)) ∷ []) → ⊥)

-- two declarations of one name are read as nothing
abbrev pub NamesAreNew : Type 0
NamesAreNew =
    (d : Declaration) (es : List Entry) → ReadsDeclarations [] (d ∷ d ∷ []) es → ⊥

-- in `[x,y:x]y` the second x is the first variable, and y the second
abbrev pub InnermostNamesCount : Type 0
InnermostNamesCount =
    (types : TypeVariables) (p q : Place)
    → ReadsExplicitly (of_type 0 0 Prop ∷ []) types [] (Written.Bind Kind.Lambda Plain (0 ∷ 1 ∷ []) (Written.Named p 0) (Written.Named q 1))
    (Lam (record { name = Some 0; mark = Plain }) (Const 0) (Lam (record { name = Some 1; mark = Plain }) (Var 0) (Var 0)))

-- copies of one written `Type` share its level variable
abbrev pub CopiesShareLevels : Type 0
CopiesShareLevels =
    (types : TypeVariables) (p : Place) → types p ≡ Some 5
    → ReadsExplicitly [] types [] (Written.Bind Kind.Lambda Plain (0 ∷ 1 ∷ []) (Written.AnyType p) Written.WrittenProp)
    (Lam (record { name = Some 0; mark = Plain }) (Univ (variable_level 5)) (Lam (record { name = Some 1; mark = Plain }) (Univ (variable_level 5)) Prop))

-- `[S=A#A](a,a:S)` is read as a local definition, in which the head form of S, with its value put for it, annotates the pair
abbrev pub LocalDefinitionsAreKept : Type 0
LocalDefinitionsAreKept =
    (types : TypeVariables) (p q r s t : Place)
    → ReadsExplicitly (of_type 0 0 Prop ∷ of_type 1 1 (Const 0) ∷ []) types []
    (Written.Local 2 (Written.Bind Kind.Sigma Plain [] (Written.Named p 0) (Written.Named q 0))
    (Written.Pair (Written.Named r 1) (Written.Named s 1) (Written.Named t 2)))
    (Let (record { name = Some 2; mark = Plain }) (a_sigma_a (record { name = None; mark = Plain }))
    (Pair (record { name = None; mark = Plain }) (Const 0) (Const 0) (Const 1) (Const 1)))
