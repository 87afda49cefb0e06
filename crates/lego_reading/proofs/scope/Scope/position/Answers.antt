use Rattle.std.proofs.Common.{◌≡◌, ◌+◌, ◌∙◌, suc, length, take, slice_get, Some, true, false, sym, ap, arith}
use Rattle.lego_grammar.specs.Scopes.{Scope, is_named, local_name, local_named}
use Rattle.lego_reading.specs.private.Variables.{variable_of}
use Rattle.lego_reading.proofs.ScopeLemmas.{compared, at_reversed, none_more, first_named}
use Rattle.lego_reading.proofs.scope.Scope.position.Goals as goal

pub returns-then-eq : goal.returns-then-eq
returns-then-eq c =
    let x = variable_of c.index.result.now in
    let xs = c.self.inside.variables.items in
    let count : c.len-count.result ≡ length xs = omega (arith, c.self.inside.variables.ok.0) in
    let at : slice_get c.args.self.now c.loop-inside.inside ≡ Some x =
    ap (λ (z : Scope). slice_get z c.loop-inside.inside) (sym c.self.view_is)
    ∙ at_reversed variable_of xs c.len-count.result c.loop-inside.inside c.index.result.now count c.loop-inside-test.true c.index.ensures in
    let is : is_named c.args.name (local_name x) ≡ true =
    ap (is_named c.args.name) (sym c.name.ensures) ∙ compared c.name.result c.args.name true (sym c.eq.ensures ∙ c.if-eq.true) in
    sym (first_named c.args.self.now c.args.name c.loop-inside.inside x at is c.loop-inside.invariant)

pub loop-inside-preserved : goal.loop-inside-preserved
loop-inside-preserved c =
    let x = variable_of c.index.result.now in
    let xs = c.self.inside.variables.items in
    let count : c.len-count.result ≡ length xs = omega (arith, c.self.inside.variables.ok.0) in
    let at : slice_get c.args.self.now c.loop-inside.inside ≡ Some x =
    ap (λ (z : Scope). slice_get z c.loop-inside.inside) (sym c.self.view_is)
    ∙ at_reversed variable_of xs c.len-count.result c.loop-inside.inside c.index.result.now count c.loop-inside-test.true c.index.ensures in
    let other : is_named c.args.name (local_name x) ≡ false =
    ap (is_named c.args.name) (sym c.name.ensures) ∙ compared c.name.result c.args.name false (sym c.eq.ensures ∙ c.if-eq.false) in
    let next : suc c.loop-inside.inside ≡ c.loop-inside.inside + 1 = omega arith in
    ap (λ i. local_named (take i c.args.self.now) c.args.name) (sym next)
    ∙ none_more c.args.self.now c.args.name c.loop-inside.inside x at other c.loop-inside.invariant
