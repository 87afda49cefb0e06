use Rattle.std.proofs.Common.{◌∷◌, ◌++◌, ◌≤◌, [], length, get_or, take, sym, subst, arith}
use Rattle.std.proofs.lemmas.List.{append-nil, take_all}
use Rattle.lego_lexer.specs.Cutter.{Stands, Ends, IsStep}
use Rattle.lego_lexer.proofs.SliceLemmas.{front_next}
use Rattle.lego_lexer.proofs.cutter.Cutter.scan.Goals as goal

pub loop-index-init : goal.loop-index-init
loop-index-init c = record {
  fed = omega arith;
  stands = λ from bytes s. subst (Stands c.args.self.now from) (sym (append-nil bytes)) s;
}

pub loop-index-preserved : goal.loop-index-preserved
loop-index-preserved c = record {
  fed = omega (arith, c.step.ensures.fed, c.loop-index.invariant.fed);
  stands = λ from bytes s.
      let before = bytes ++ take c.loop-index.index c.args.piece.now in
      let byte = get_or c.args.piece.now c.loop-index.index 0 in
      subst (Stands c.step.new.self from) (front_next bytes c.args.piece.now c.loop-index.index c.loop-index-test.true)
      (subst (IsStep c.step.new.self from (before ++ byte ∷ [])) c.in_default.is (c.step.ensures.stands from before (c.loop-index.invariant.stands from bytes s)));
}

pub returns-in-Some : goal.returns-in-Some
returns-in-Some c = λ from bytes s. record {
  some = omega arith;
  within = omega (arith, c.loop-index-test.true);
  ends =
      let before = bytes ++ take c.loop-index.index c.args.piece.now in
      let byte = get_or c.args.piece.now c.loop-index.index 0 in
      subst (λ xs. Ends c.step.new.self from xs c.in-Some.cut) (front_next bytes c.args.piece.now c.loop-index.index c.loop-index-test.true)
      (subst (IsStep c.step.new.self from (before ++ byte ∷ [])) c.in-Some.is (c.step.ensures.stands from before (c.loop-index.invariant.stands from bytes s)));
}

pub returns : goal.returns
returns c = λ from bytes s.
    let all : length c.args.piece.now ≤ c.loop-index.index = c.loop-index-test.false in
    subst (λ xs. Stands c.loop-index.self from (bytes ++ xs)) (take_all c.loop-index.index c.args.piece.now all) (c.loop-index.invariant.stands from bytes s)
