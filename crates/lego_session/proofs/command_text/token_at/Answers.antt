use Rattle.std.proofs.Common.{◌≡◌, length, sym, ◌∙◌, subst, arith}
use Rattle.std.proofs.lemmas.Option.{slice_get-get_or}
use Rattle.lego_session.specs.private.Unread.{FirstStandElsewhere}
use Rattle.lego_session.proofs.UnreadLemmas.{same_place, elsewhere_more}
use Rattle.lego_session.proofs.command_text.token_at.Goals as goal

pub loop-i-init : goal.loop-i-init
loop-i-init c n t l there same = omega (arith, l)

pub loop-i-preserved : goal.loop-i-preserved
loop-i-preserved c =
    elsewhere_more c.args.tokens.now c.args.place c.loop-i.i _ c.loop-i.invariant (slice_get-get_or c.args.tokens.now c.loop-i.i _ c.loop-i-test.true)
    (sym c.eq.ensures ∙ c.if-eq.false)

pub returns-then-eq-clause-found : goal.returns-then-eq-clause-found
returns-then-eq-clause-found c = record {
  index = c.loop-i.i;
  there = slice_get-get_or c.args.tokens.now c.loop-i.i _ c.loop-i-test.true;
  place = same_place _ c.args.place (sym c.eq.ensures ∙ c.if-eq.true);
}

pub returns-clause-none : goal.returns-clause-none
returns-clause-none c =
    let all : c.loop-i.i ≡ length c.args.tokens.now = let l = c.loop-i.auto.i-end in let g = c.loop-i-test.false in grind (arith, g) in
    subst (FirstStandElsewhere c.args.tokens.now c.args.place) all c.loop-i.invariant
