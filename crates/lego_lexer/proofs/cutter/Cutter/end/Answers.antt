use Rattle.std.proofs.Common.{◌≡◌, arith}
use Rattle.lego_lexer.proofs.CutterLemmas.{open_cut, unended_cut, blank_cut}
use Rattle.lego_lexer.proofs.cutter.Cutter.end.Goals as goal

pub returns-then-self-gt0-clause-cut : goal.returns-then-self-gt0-clause-cut
returns-then-self-gt0-clause-cut c = λ from bytes s. open_cut (s.inside c.if-self-gt0.true) c.if-self-gt0.true

pub returns-in-Some-clause-cut : goal.returns-in-Some-clause-cut
returns-in-Some-clause-cut c = λ from bytes s.
    let outside : c.args.self.now.depth ≡ 0 = omega (arith, c.if-self-gt0.false) in unended_cut c.in-Some.start (s.outside outside).passed c.in-Some.is

pub returns-in-None-clause-cut : goal.returns-in-None-clause-cut
returns-in-None-clause-cut c = λ from bytes s.
    let outside : c.args.self.now.depth ≡ 0 = omega (arith, c.if-self-gt0.false) in blank_cut (s.outside outside).passed c.in-None.is
