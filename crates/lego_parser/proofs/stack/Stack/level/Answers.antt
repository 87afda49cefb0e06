use Rattle.std.proofs.Common.{arith}
use Rattle.lego_parser.specs.private.Frames.{frame_of}
use Rattle.lego_parser.proofs.FrameLemmas.{height-awaited}
use Rattle.lego_parser.proofs.stack.Stack.level.Goals as goal

pub overflow_add-result : goal.overflow_add-result
overflow_add-result c =
    let h = height-awaited frame_of c.args.self.now.frames.items in
    omega (arith, h, c.args.self.now.counted, c.args.self.now.frames.ok, c.args.self.now.frames.small)
