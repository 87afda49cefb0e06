use Rattle.std.proofs.Common.{◌≤◌, ◌∙◌, sym, ap, map, reverse, length}
use Rattle.std.proofs.lemmas.List.{take_all}
use Rattle.lego_grammar.specs.Scopes.{Scope}
use Rattle.lego_reading.specs.declared.scope.Variable.{Variable}
use Rattle.lego_reading.specs.Failures.{plain_binder}
use Rattle.lego_reading.specs.private.Variables.{variable_of}
use Rattle.lego_reading.proofs.ScopeLemmas.{reversed_twice, map-map}
use Rattle.lego_reading.proofs.scope.Scope.binders.Goals as goal

pub returns : goal.returns
returns c =
    let items = c.deref-variable-items.result.now in
    let all : length items ≤ c.loop-variable.variable-index = c.loop-variable-test.false in
    c.loop-variable.invariant
    ∙ ap (map (λ (x : Variable). plain_binder (variable_of x))) (take_all c.loop-variable.variable-index items all)
    ∙ ap (map (λ (x : Variable). plain_binder (variable_of x))) c.deref-variable-items.ensures.value
    ∙ sym (reversed_twice (λ (x : Variable). plain_binder (variable_of x)) c.self.inside.variables.items)
    ∙ ap reverse (sym (map-map variable_of plain_binder (reverse c.self.inside.variables.items)))
    ∙ ap (λ (z : Scope). reverse (map plain_binder z)) c.self.view_is
