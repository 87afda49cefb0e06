use Rattle.std.proofs.Common.{◌≡◌, ◌-◌, ◌≤◌, ◌∙◌, List, length, map, reverse, take, drop, ap, arith}
use Rattle.std.proofs.lemmas.List.{length-map, length-reverse}
use Rattle.lego_grammar.specs.Scopes.{Scope}
use Rattle.lego_reading.specs.declared.scope.Variable.{Variable}
use Rattle.lego_reading.specs.private.Variables.{variable_of}
use Rattle.lego_reading.proofs.ScopeLemmas.{left_behind}
use Rattle.lego_reading.proofs.scope.Scope.leave.Goals as goal

pub returns : goal.returns
returns c =
    let xs = c.self.inside.variables.items in
    let e = ap (λ (z : Scope). length z) c.self.view_is in
    let count : c.len.result ≡ length xs = omega (arith, c.self.inside.variables.ok.0) in
    let within : c.args.count ≤ length xs = omega (arith, length-map (reverse xs) variable_of, length-reverse xs) in
    ap (λ (zs : List Variable). map variable_of (reverse zs)) (c.truncate.ensures.items ∙ ap (λ n. take (n - c.args.count) xs) count)
    ∙ left_behind variable_of xs c.args.count within ∙ ap (λ (z : Scope). drop c.args.count z) c.self.view_is
