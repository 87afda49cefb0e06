use Rattle.std.proofs.Common.{arith}
use Rattle.lego_parser.specs.private.Frames.{frame_of}
use Rattle.lego_parser.proofs.FrameLemmas.{height-awaited}
use Rattle.lego_parser.proofs.stack.Stack.push.Goals as goal

pub prove-unreachable-requires : goal.prove-unreachable-requires
prove-unreachable-requires c =
    let h = height-awaited frame_of c.args.self.now.frames.items in
    omega (arith, h, c.args.self.now.counted, c.len-held.ensures, c.in_ok-push.ensures.len, c.if-prove.true)
