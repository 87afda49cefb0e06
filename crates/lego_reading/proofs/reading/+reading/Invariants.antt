use Rattle.std.proofs.Common.{◌≡◌, ◌+◌, ◌*◌, map, take}
use Rattle.lego_grammar.specs.Surface.{written, applied}
use Rattle.lego_inference.specs.Entries.{laws_entries}
use Rattle.lego_reading.specs.Universes.{variables_for}
use Rattle.lego_reading.specs.private.Parts.{IsReading}
use Rattle.lego_reading.specs.private.Binders.{AreDomains, inner_scope, written_argument}
use Rattle.lego_reading.specs.private.Sizes.{nodes}
use Rattle.lego_reading.proofs.SizeLemmas.{nodes_of_all}
use Rattle.lego_reading.proofs.reading.+reading.Given as goal

abbrev pub decreases-core_of : goal.decreases-core_of
decreases-core_of l = 3 * nodes l.s.now

abbrev pub decreases-nameless : goal.decreases-nameless
decreases-nameless l = 3 * (nodes l.head.now.domain.now + nodes l.body.now) + 1

abbrev pub decreases-named : goal.decreases-named
decreases-named l = 3 * (nodes l.head.now.domain.now + nodes l.body.now) + 2

abbrev pub decreases-domains : goal.decreases-domains
decreases-domains l = 3 * (nodes l.head.now.domain.now + nodes l.body.now) + 1

abbrev pub decreases-local_definition : goal.decreases-local_definition
decreases-local_definition l = 3 * (nodes l.value.now + nodes l.body.now) + 1

abbrev pub decreases-application : goal.decreases-application
decreases-application l = 3 * (nodes l.function.now + nodes_of_all l.arguments.now) + 1

abbrev pub decreases-pairing : goal.decreases-pairing
decreases-pairing l = 3 * (nodes l.first.now + nodes l.second.now + nodes l.ty.now) + 1

abbrev pub invariant-application-loop-mark : goal.invariant-application-loop-mark
invariant-application-loop-mark l =
    IsReading (laws_entries l.setting.context.now.entries) (variables_for l.setting.context.now.levels l.setting.places.now) l.fn.scope
    (applied (written l.fn.function) (map written_argument (take l.mark-index l.arguments))) l.applied
    × (l.scope ≡ l.fn.scope)

abbrev pub invariant-domains-loop-name : goal.invariant-domains-loop-name
invariant-domains-loop-name l =
    AreDomains (laws_entries l.setting.context.now.entries) (variables_for l.setting.context.now.levels l.setting.places.now)
    (written l.head.domain.now) l.fn.scope (take l.name-index l.head.names.now) l.domains.items
    × (l.scope ≡ inner_scope l.fn.scope (take l.name-index l.head.names.now))
