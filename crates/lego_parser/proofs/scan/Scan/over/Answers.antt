use Rattle.std.proofs.Common.{◌≡◌, ◌≤◌, ◌<◌, refl, ◌∙◌, subst, length, arith}
use Rattle.lego_parser.specs.private.Scanning.{mode_at}
use Rattle.lego_parser.proofs.ScanLemmas.{deep_none, goes_on, deeper, no_deeper, scanned}
use Rattle.lego_parser.proofs.scan.Scan.over.Goals as goal
use Rattle.lego_parser.proofs.scan.Scan.over.Goals.{then-level-gt-MAX_LEVEL, else-level-gt-MAX_LEVEL}

pub loop-index-init : goal.loop-index-init
loop-index-init c = record {
  there = λ bytes. cc (c.new-machine.ensures, c.mode-mode.ensures);
  depth = deep_none c.args.tokens.now c.args.start;
}

pub loop-index-preserved : goal.loop-index-preserved
loop-index-preserved c =
    let tokens = c.args.tokens.now in
    let m = mode_at c.args.start in
    let i = c.loop-index.index in
    let before = c.loop-index.invariant in
    let moves = rw c.in-Some.is at c.in_ok-next.ensures in
    let there = goes_on tokens m i _ _ _ c.loop-index-test.true before.there moves in
    elim c.if-level-gt-MAX_LEVEL.branch [
      | then-level-gt-MAX_LEVEL w ↦ record {
        there = rw w.mode-is there;
        depth = rw (w.deep-is, w.or-deep.ensures) (deeper tokens m i _ c.loop-index.deep there (subst (λ n. 500 < n) c.level.ensures w.if-level-gt-MAX_LEVEL.true) before.depth);
      }
      | else-level-gt-MAX_LEVEL w ↦ record {
        there = rw w.mode-is there;
        depth = rw w.deep-is (no_deeper tokens m i _ c.loop-index.deep there (subst (λ n. n ≤ 500) c.level.ensures w.if-level-gt-MAX_LEVEL.false) before.depth);
      }
    ]

pub returns-in_default : goal.returns-in_default
returns-in_default c =
    let tokens = c.args.tokens.now in
    let m = mode_at c.args.start in
    let i = c.loop-index.index in
    let before = c.loop-index.invariant in
    let stops = rw c.in_default.is at c.in_ok-next.ensures in
    let none = goes_on tokens m i _ _ _ c.loop-index-test.true before.there stops in
    scanned tokens m i i c.loop-index.deep c.stage-stage.result _ refl (omega (arith, c.loop-index-test.true)) before.there (λ _. none) c.stage-stage.ensures before.depth

pub returns : goal.returns
returns c =
    let at_end : length c.args.tokens.now ≡ c.loop-index.index = omega arith in
    scanned c.args.tokens.now (mode_at c.args.start) c.loop-index.index (length c.args.tokens.now) c.loop-index.deep c.stage-stage-2.result _ at_end (omega arith)
    c.loop-index.invariant.there (λ lt. absurd (omega (arith, lt))) c.stage-stage-2.ensures c.loop-index.invariant.depth
