use Rattle.std.proofs.Common.{ap}
use Rattle.lego_parser.specs.private.Trees.{built_act}
use Rattle.lego_parser.specs.private.Frames.{mode_of}
use Rattle.lego_parser.proofs.modes.Mode.stage.Goals as goal

pub returns-in-Done : goal.returns-in-Done
returns-in-Done c = (built_act c.in-Done.field-0, ap mode_of c.in-Done.is)
