use Rattle.std.proofs.Common.{List, take}
use Rattle.lego_laws.specs.Entries.{Entry}
use Rattle.lego_grammar.specs.Surface.{projected}
use Rattle.lego_grammar.specs.Written.{Written}
use Rattle.lego_grammar.specs.Scopes.{Scope, TypeVariables}
use Rattle.lego_reading.specs.private.Parts.{IsReading}
use Rattle.lego_reading.proofs.reading.projections.Given as goal

abbrev pub invariant-loop-part : goal.invariant-loop-part
invariant-loop-part l =
    (es : List Entry) (types : TypeVariables) (scope : Scope) (s : Written) → IsReading es types scope s l.fn.of
    → IsReading es types scope (projected s (take l.part-index l.parts)) l.projected
