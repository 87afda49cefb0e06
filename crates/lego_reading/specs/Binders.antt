-- Where the binders of a core come from.
use Rattle.std.specs.Prelude.{List, [], Bool, IsTrue}
use Rattle.lego_term.specs.declared.binder.Binder.{Binder}
use Rattle.lego_term.specs.Trees.{Core}
use Rattle.lego_laws.specs.Entries.{Entry}
use Rattle.lego_grammar.specs.Reading.{ReadsExplicitly}
use Rattle.lego_grammar.specs.Scopes.{TypeVariables}
use Rattle.lego_grammar.specs.Written.{Written as Term}
use Rattle.lego_inference.specs.Binders.{BinderKind, BindersPass}
use Rattle.lego_inference.specs.Entries.{HoldsInEntries}
use Rattle.lego_reading.specs.Written.{EachWrittenBinder}

-- A binder of a core is one of the written term, or one of an entry: where all of these pass a test, so do the binders of the core.
abbrev pub ReadCoresKeepBinders : Type 0
ReadCoresKeepBinders =
    (test : BinderKind → Binder → Bool) (es : List Entry) (types : TypeVariables) (s : Term) (core : Core)
    → HoldsInEntries (BindersPass test) es → EachWrittenBinder (λ kind x. IsTrue (test kind x)) s → ReadsExplicitly es types [] s core
    → BindersPass test core
