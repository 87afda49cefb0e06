use Rattle.std.proofs.Common.{◌≡◌, ◌∷◌, [], arith, length-append}
use Rattle.lego_lexer.proofs.CutterLemmas.{inside_opens, inside_closes, inside_ends, inside_passes}
use Rattle.lego_lexer.proofs.cutter.Cutter.step_inside.Goals as goal

pub returns-in-Opens-clause-stands : goal.returns-in-Opens-clause-stands
returns-in-Opens-clause-stands c = λ from bytes s. record {
  fed = omega (arith, s.fed, length-append bytes (c.args.byte ∷ []));
  outside = λ h. absurd (omega (arith, h));
  inside = λ h. inside_opens (s.inside c.requires.inside) c.requires.inside c.args.byte c.in-Opens.ensures;
}

pub returns-in-Closes-clause-stands : goal.returns-in-Closes-clause-stands
returns-in-Closes-clause-stands c = λ from bytes s. record {
  fed = omega (arith, s.fed, length-append bytes (c.args.byte ∷ []));
  outside = λ h. let one : c.args.self.now.depth ≡ 1 = omega (arith, h, c.requires.inside) in inside_ends (s.inside c.requires.inside) c.args.byte one c.in-Closes.ensures;
  inside = λ h. inside_closes (s.inside c.requires.inside) c.requires.inside c.args.byte h c.in-Closes.ensures;
}

pub returns-in-Neither-clause-stands : goal.returns-in-Neither-clause-stands
returns-in-Neither-clause-stands c = λ from bytes s. record {
  fed = omega (arith, s.fed, length-append bytes (c.args.byte ∷ []));
  outside = λ h. absurd (omega (arith, h, c.requires.inside));
  inside = λ h. inside_passes (s.inside c.requires.inside) c.requires.inside c.args.byte c.in-Neither.ensures;
}
