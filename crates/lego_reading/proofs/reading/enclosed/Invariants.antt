use Rattle.std.proofs.Common.{◌-◌, List, length}
use Rattle.lego_laws.specs.Entries.{Entry}
use Rattle.lego_grammar.specs.Written.{Written}
use Rattle.lego_grammar.specs.Scopes.{Scope, TypeVariables}
use Rattle.lego_reading.specs.private.Parts.{IsReading}
use Rattle.lego_reading.specs.private.Binders.{inner_scope, AreDomains}
use Rattle.lego_reading.proofs.BinderLemmas.{Closes}
use Rattle.lego_reading.proofs.reading.enclosed.Given as goal

abbrev pub invariant-loop-inside : goal.invariant-loop-inside
invariant-loop-inside l =
    (es : List Entry) (types : TypeVariables) (outer : Scope) (s t : Written) → AreDomains es types s outer l.head.names.now l.domains
    → IsReading es types (inner_scope outer l.head.names.now) t l.fn.body
    → Closes es types l.head.kind l.head.mark s t outer l.head.names.now (length l.head.names.now - l.inside) l.closed
