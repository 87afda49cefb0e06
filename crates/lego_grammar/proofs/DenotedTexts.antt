-- What small texts denote.
use Rattle.std.proofs.Common.{◌≡◌, ℕ, zero, suc, true, nat_eq, List, [], ◌∷◌, ◌++◌, Option, Some, None, refl, sym, ap, ◌∙◌, arith}
use Rattle.std.specs.Prelude.{codes, slice_get, if◌then◌else◌}
use Rattle.std.proofs.lemmas.Bool.Decides.{nat_tests}
use Rattle.std.proofs.lemmas.List.Elements.{All-from_recursion}
use Rattle.lego_base.specs.Names.{AreDistinct}
use Rattle.lego_base.specs.Place.{behind}
use Rattle.lego_base.specs.declared.place.Place.{Place}
use Rattle.lego_term.specs.declared.binder.Mark.TheVariants.{Plain}
use Rattle.lego_term.specs.Levels.{fixed_level, variable_level}
use Rattle.lego_term.specs.Trees.{Core, Const, Prop, Univ, Sigma, Pair}
use Rattle.lego_term.specs.Below.{Below}
use Rattle.lego_laws.specs.Entries.{entries_at}
use Rattle.lego_laws.specs.Judgement.{Valid, Has}
use Rattle.lego_laws.specs.Expansion.{HoldsPurely, IsPure, IsPureList}
use Rattle.lego_lexer.specs.Bytes.{Gap, BeginsToken}
use Rattle.lego_lexer.specs.Commands.{Begins, CommandText, Ending, Cuts}
use Rattle.lego_grammar.specs.declared.surface.Kind.{Kind}
use Rattle.lego_grammar.specs.Written.{Written}
use Rattle.lego_grammar.specs.Scopes.{entry_named}
use Rattle.lego_grammar.specs.Reading.{Annotates, ReadsExplicitly}
use Rattle.lego_grammar.specs.Denotes.{AreWrittenAs, Declaration, AreDeclarations, Declares, ReadsDeclarations, declared_entry, Content, Denotes, MarkedTerm}
use Rattle.lego_grammar.specs.ReadingExamples.{at, few_names, of_type, two_assumptions, AssumptionsAreDenoted, DevelopmentsHold, OtherTypesAreNotDenoted, PairIsDenoted, LevelsAreValues, NamesAreNew, InnermostNamesCount, CopiesShareLevels, LocalDefinitionsAreKept}
use Rattle.lego_grammar.specs.Developments.{is_printable_declaration}
use Rattle.lego_grammar.proofs.Lexing.{is_plain, plain_unbroken}
use Rattle.lego_grammar.proofs.ExampleTexts.{explicit_written, prop_written, a_written, pair_written, type_written}
use Rattle.lego_grammar.proofs.ReadOnce.{one_content}

abbrev text_at : ℕ → List ℕ → CommandText
text_at column bytes = record { place = at column; bytes = bytes }

abbrev a_is_prop : Declaration
a_is_prop = record { name = 0; mark = Plain; ty = Written.WrittenProp; body = None }

abbrev a_is_in_a : Declaration
a_is_in_a = record { name = 1; mark = Plain; ty = Written.Named (at 22) 0; body = None }

abbrev a_hash_a : ℕ → ℕ → Written
a_hash_a p q = Written.Bind Kind.Sigma Plain [] (Written.Named (at p) 0) (Written.Named (at q) 0)

abbrev p_is_a_pair : Declaration
p_is_a_pair = record {
  name = 2;
  mark = Plain;
  ty = a_hash_a 38 40;
  body = Some (Written.Pair (Written.Named (at 29) 1) (Written.Named (at 31) 1) (a_hash_a 33 35));
}

-- the first command of a text that begins with it
cut_one : (body rest : List ℕ) {p : Place} {commands : List CommandText} {ending : Ending}
    → is_plain body ≡ true → BeginsToken (body ++ 59 ∷ rest) → Cuts (behind p (body ++ 59 ∷ [])) rest commands ending
    → Cuts p (body ++ 59 ∷ rest) (record { place = p; bytes = body ++ 59 ∷ [] } ∷ commands) ending
cut_one body rest plain begins r =
    Cuts.command {gap = []} {body = body} {rest = rest} {bytes = body ++ 59 ∷ rest}
    (Begins.command {gap = []} {body = body} {bytes = rest} Gap.none (plain_unbroken body plain) begins) r

two_declared : Declares few_names (at 1) two_assumptions (a_is_prop ∷ a_is_in_a ∷ [])
two_declared = record {
  first = _;
  commands = _;
  script = record {
    texts = text_at 1 (codes "Explicit;") ∷ text_at 10 (codes "[A:Prop];") ∷ text_at 19 (codes "[a:A];") ∷ [];
    cut =
        cut_one (codes "Explicit") (codes "[A:Prop];[a:A];") refl (record { no_blank = refl; no_comment = refl })
        (cut_one (codes "[A:Prop]") (codes "[a:A];") refl (record { no_blank = refl; no_comment = refl })
        (cut_one (codes "[a:A]") [] refl (record { no_blank = refl; no_comment = refl })
        (Cuts.whole (Begins.blank Gap.none))));
    written = AreWrittenAs.more explicit_written (AreWrittenAs.more prop_written (AreWrittenAs.more a_written AreWrittenAs.none));
  };
  is_explicit = refl;
  declarations = AreDeclarations.more refl (AreDeclarations.more refl AreDeclarations.none);
}

pub assumptions_are_denoted : AssumptionsAreDenoted
assumptions_are_denoted = record {
  declarations = a_is_prop ∷ a_is_in_a ∷ [];
  declares = two_declared;
  entries = of_type 0 0 Prop ∷ of_type 1 1 (Const 0) ∷ [];
  reads = ReadsDeclarations.more refl ReadsExplicitly.prop tt (ReadsDeclarations.more refl (ReadsExplicitly.entry refl refl) tt ReadsDeclarations.none);
  same = refl;
}

three_declared : Declares few_names (at 1) (codes "Explicit;[A:Prop];[a:A];[p=(a,a:A#A):A#A];") (a_is_prop ∷ a_is_in_a ∷ p_is_a_pair ∷ [])
three_declared = record {
  first = _;
  commands = _;
  script = record {
    texts = text_at 1 (codes "Explicit;") ∷ text_at 10 (codes "[A:Prop];") ∷ text_at 19 (codes "[a:A];") ∷ text_at 25 (codes "[p=(a,a:A#A):A#A];") ∷ [];
    cut =
        cut_one (codes "Explicit") (codes "[A:Prop];[a:A];[p=(a,a:A#A):A#A];") refl (record { no_blank = refl; no_comment = refl })
        (cut_one (codes "[A:Prop]") (codes "[a:A];[p=(a,a:A#A):A#A];") refl (record { no_blank = refl; no_comment = refl })
        (cut_one (codes "[a:A]") (codes "[p=(a,a:A#A):A#A];") refl (record { no_blank = refl; no_comment = refl })
        (cut_one (codes "[p=(a,a:A#A):A#A]") [] refl (record { no_blank = refl; no_comment = refl })
        (Cuts.whole (Begins.blank Gap.none)))));
    written = AreWrittenAs.more explicit_written (AreWrittenAs.more prop_written (AreWrittenAs.more a_written (AreWrittenAs.more pair_written AreWrittenAs.none)));
  };
  is_explicit = refl;
  declarations = AreDeclarations.more refl (AreDeclarations.more refl (AreDeclarations.more refl AreDeclarations.none));
}

pub innermost_names_count : InnermostNamesCount
innermost_names_count types p q =
    ReadsExplicitly.named (ReadsExplicitly.entry refl refl) (ReadsExplicitly.named (ReadsExplicitly.local refl) (ReadsExplicitly.local refl))

pub copies_share_levels : CopiesShareLevels
copies_share_levels types p e =
    ReadsExplicitly.named (ReadsExplicitly.any_type e) (ReadsExplicitly.named (ReadsExplicitly.any_type e) ReadsExplicitly.prop)

same_name : (n : ℕ) → nat_eq n n ≡ true
same_name n = grind (arith, nat_tests)

found : (d : Declaration) (ty : Core) (body : Option Core) → entry_named (declared_entry 0 d ty body ∷ []) d.name ≡ None → ⊥
found d ty body = rw (same_name d.name) (λ e. cc)

pub names_are_new : NamesAreNew
names_are_new d es (ReadsDeclarations.more {ty = ty} {body = body} new t b (ReadsDeclarations.more new' t' b' rest)) = found d ty body new'

abbrev sigma_aa : Core
sigma_aa = Sigma (record { name = None; mark = Plain }) (Const 0) (Const 0)

pub pair_is_denoted : PairIsDenoted
pair_is_denoted x = record {
  declarations = a_is_prop ∷ a_is_in_a ∷ p_is_a_pair ∷ [];
  declares = three_declared;
  entries =
      of_type 0 0 Prop ∷ of_type 1 1 (Const 0)
      ∷ declared_entry 2 p_is_a_pair sigma_aa (Some (Pair (record { name = None; mark = Plain }) (Const 0) (Const 0) (Const 1) (Const 1)))
      ∷ [];
  reads =
      ReadsDeclarations.more refl ReadsExplicitly.prop tt
      (ReadsDeclarations.more refl (ReadsExplicitly.entry refl refl) tt
      (ReadsDeclarations.more refl (ReadsExplicitly.nameless (ReadsExplicitly.entry refl refl) (ReadsExplicitly.entry refl refl))
      (ReadsExplicitly.pair (ReadsExplicitly.nameless (ReadsExplicitly.entry refl refl) (ReadsExplicitly.entry refl refl)) (Annotates.core refl)
      (ReadsExplicitly.entry refl refl) (ReadsExplicitly.entry refl refl))
      ReadsDeclarations.none));
  same = refl;
}

type_declared : Declares few_names (at 1) (codes "Explicit;[A:Type(3)];") (record { name = 0; mark = Plain; ty = Written.TypeAt 3; body = None } ∷ [])
type_declared = record {
  first = _;
  commands = _;
  script = record {
    texts = text_at 1 (codes "Explicit;") ∷ text_at 10 (codes "[A:Type(3)];") ∷ [];
    cut =
        cut_one (codes "Explicit") (codes "[A:Type(3)];") refl (record { no_blank = refl; no_comment = refl })
        (cut_one (codes "[A:Type(3)]") [] refl (record { no_blank = refl; no_comment = refl })
        (Cuts.whole (Begins.blank Gap.none)));
    written = AreWrittenAs.more explicit_written (AreWrittenAs.more type_written AreWrittenAs.none);
  };
  is_explicit = refl;
  declarations = AreDeclarations.more refl AreDeclarations.none;
}

type_is_denoted : Denotes few_names (at 1) (codes "Explicit;[A:Type(3)];") (0 ∷ 3 ∷ []) (of_type 0 0 (Univ (variable_level 1)) ∷ [])
type_is_denoted = record {
  declarations = record { name = 0; mark = Plain; ty = Written.TypeAt 3; body = None } ∷ [];
  declares = type_declared;
  entries = of_type 0 0 (Univ (fixed_level 3)) ∷ [];
  reads = ReadsDeclarations.more refl ReadsExplicitly.type_at tt ReadsDeclarations.none;
  same = refl;
}

-- a name's number is told by its first byte
abbrev first_byte : Option (List ℕ) → ℕ
first_byte (Some (b ∷ bytes)) = b
first_byte _ = 0

abbrev number_told : ℕ → ℕ
number_told b = if nat_eq b 65 then 0 else if nat_eq b 97 then 1 else 2

told : (i : ℕ) (text : List ℕ) → slice_get few_names i ≡ Some text → number_told (first_byte (Some text)) ≡ i
told zero text h = ap (λ o. number_told (first_byte o)) (sym h)
told (suc zero) text h = ap (λ o. number_told (first_byte o)) (sym h)
told (suc (suc zero)) text h = ap (λ o. number_told (first_byte o)) (sym h)
told (suc (suc (suc i))) text h = cc

distinct : AreDistinct few_names
distinct i j text p q = sym (told i text p) ∙ told j text q

-- the type of the last entry
abbrev last_type : List Content → MarkedTerm
last_type [] = Prop
last_type (c ∷ []) = c.ty
last_type (c ∷ cs) = last_type cs

abbrev level_of : MarkedTerm → ℕ
level_of (Univ l) = l
level_of _ = 0

pub other_types_are_not_denoted : OtherTypesAreNotDenoted
other_types_are_not_denoted v d =
    let e : ◌≡◌ {A = MarkedTerm} (Const 0) Prop = ap last_type (one_content few_names distinct assumptions_are_denoted d) in
    cc

pub levels_are_values : LevelsAreValues
levels_are_values = (type_is_denoted, λ d. let e : 3 ≡ 4 = ap (λ cs. level_of (last_type cs)) (one_content few_names distinct type_is_denoted d) in omega arith)

pub local_definitions_are_kept : LocalDefinitionsAreKept
local_definitions_are_kept types p q r s t =
    ReadsExplicitly.local_definition (ReadsExplicitly.nameless (ReadsExplicitly.entry refl refl) (ReadsExplicitly.entry refl refl))
    (ReadsExplicitly.pair (ReadsExplicitly.local refl) (Annotates.head_form refl (0, record { reaches = refl; last = refl }))
    (ReadsExplicitly.entry refl refl) (ReadsExplicitly.entry refl refl))

valid_a : Valid (record { number = 7; ty = Prop; body = None } ∷ []) []
valid_a = Valid.grow_constant (Has.ax Valid.empty) refl

-- by Luo's rules `Prop` is a type, and A is one over `A : Prop`
pure : HoldsPurely (entries_at [] (of_type 7 0 Prop ∷ of_type 3 1 (Const 7) ∷ []))
unfolding valid_a IsPure IsPureList
pure = (
  (
    0,
    record {
      assumed = (refl, tt);
      has = Has.cumulative (Has.constant valid_a refl) (Has.universe valid_a) Below.prop;
      pure = (tt, tt);
    },
  ),
  tt,
  ((0, record { assumed = tt; has = Has.ax Valid.empty; pure = tt }), tt, tt),
)

pub developments_hold : DevelopmentsHold
developments_hold = (
  record {
    declarations = a_is_prop ∷ a_is_in_a ∷ [];
    declares = two_declared;
    printable = All-from_recursion (λ d. is_printable_declaration d ≡ true) (a_is_prop ∷ a_is_in_a ∷ []) (refl, (refl, tt));
  },
  record { more = []; distinct = distinct; denotes = assumptions_are_denoted; pure = pure },
)
