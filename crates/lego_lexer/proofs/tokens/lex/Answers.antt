use Rattle.std.proofs.Common.{rules, ◌≡◌, [], ◌∷◌, ◌++◌, true, arith}
use Rattle.std.specs.Prelude.{is_ok}
use Rattle.lego_lexer.specs.Tokens.{Reads}
use Rattle.lego_lexer.specs.private.Scanned.{IsFirst}
use Rattle.lego_lexer.proofs.LexLemmas.{one_more, one_more_within, none_within}
use Rattle.lego_lexer.proofs.tokens.lex.Goals as goal

pub loop-tokens-init : goal.loop-tokens-init
loop-tokens-init c = record {
  reads = rw c.new-tokens.ensures.items Reads.none;
  small = rw c.new-tokens.ensures.items none_within;
  within = omega arith;
  room = (c.requires.line, c.requires.column);
}

pub loop-tokens-preserved : goal.loop-tokens-preserved
loop-tokens-preserved c =
    let first : IsFirst c.args.bytes.now c.loop-tokens.at c.in-Some.next = rw c.in-Some.is at c.in_ok-next.ensures in
    let ok : is_ok c.push.result ≡ true = search rules in
    let pushed : c.push.new.self.items ≡ c.loop-tokens.tokens.items ++ c.in-Some.next.token ∷ [] = rw ok at c.push.ensures.items in
    record {
      reads = rw pushed (one_more c.args.place c.args.bytes.now c.loop-tokens.tokens.items c.loop-tokens.at c.in-Some.next c.loop-tokens.invariant.reads first);
      small = rw pushed (one_more_within c.args.bytes.now c.loop-tokens.tokens.items c.in-Some.next.token c.loop-tokens.invariant.small first.small);
      within = first.within;
      room = first.room;
    }
