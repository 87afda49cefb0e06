use Rattle.std.proofs.Common.{◌∷◌, ◌++◌, [], sym, subst, arith, length-append}
use Rattle.lego_lexer.specs.Cutter.{EndsInside}
use Rattle.lego_lexer.proofs.CutterLemmas.{comment_opens}
use Rattle.lego_lexer.proofs.cutter.Cutter.open.Goals as goal

pub returns-clause-stands : goal.returns-clause-stands
returns-clause-stands c = λ from bytes s. record {
  fed = omega (arith, s.fed, length-append bytes (42 ∷ []));
  outside = λ h. absurd (omega (arith, h));
  inside = λ h. subst (λ start. EndsInside from 1 0 start c.args.self.now.comment (bytes ++ 42 ∷ [])) (sym c.start_before-self.ensures) (comment_opens (s.outside c.requires.outside) c.requires.half);
}
