use Rattle.std.proofs.Common.{sym, ◌∙◌}
use Rattle.lego_lexer.proofs.SpellingLemmas.{next_one, this_one}
use Rattle.lego_lexer.proofs.spelling.look_up.Goals as goal

pub loop-written-preserved : goal.loop-written-preserved
loop-written-preserved c =
    λ text_of is. next_one text_of c.args.text.now c.args.table.now c.loop-written.written-index _ is c.loop-written-test.true (sym c.eq.ensures ∙ c.if-eq.false)
    (c.loop-written.invariant text_of is)

pub returns-then-eq : goal.returns-then-eq
returns-then-eq c =
    λ text_of is. sym (this_one text_of c.args.text.now c.args.table.now c.loop-written.written-index _ is c.loop-written-test.true (sym c.eq.ensures ∙ c.if-eq.true))
    ∙ c.loop-written.invariant text_of is
