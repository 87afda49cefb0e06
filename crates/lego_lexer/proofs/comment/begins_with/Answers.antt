use Rattle.std.proofs.Common.{drop, sym, arith, length-drop}
use Rattle.lego_lexer.proofs.CommentLemmas.{short_begins_none}
use Rattle.lego_lexer.proofs.comment.begins_with.Goals as goal

pub returns-then-bytes-at-lt2 : goal.returns-then-bytes-at-lt2
returns-then-bytes-at-lt2 c =
    sym (short_begins_none c.args.first c.args.second (drop c.args.at c.args.bytes.now) (omega (arith, length-drop c.args.at c.args.bytes.now)))
