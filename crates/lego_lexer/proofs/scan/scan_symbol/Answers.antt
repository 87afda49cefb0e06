use Rattle.std.proofs.Common.{◌+◌, ◌<◌, length, sym, ◌∙◌, arith}
use Rattle.lego_lexer.proofs.ScanLemmas.{arrow_within, arrow_there, symbol_there, bad_byte_there}
use Rattle.lego_lexer.proofs.scan.scan_symbol.Goals as goal

pub returns-then-begins_with : goal.returns-then-begins_with
returns-then-begins_with c =
    let arrow = sym c.if-begins_with.true ∙ c.begins_with.ensures in
    let more : c.args.at + 1 < length c.args.bytes.now = arrow_within c.args.bytes.now c.args.at c.requires.within arrow in
    record {
      some = omega arith;
      within = omega arith;
      longest = arrow_there c.args.bytes.now c.args.at c.requires.within arrow;
      small = tt;
    }

pub returns-in-Some : goal.returns-in-Some
returns-in-Some c = record {
  some = omega arith;
  within = omega arith;
  longest = symbol_there c.args.bytes.now c.args.at c.requires.within c.in-Some.symbol c.requires.no_name c.requires.no_number (sym c.in-Some.ensures);
  small = tt;
}

pub returns-in-None : goal.returns-in-None
returns-in-None c =
    bad_byte_there c.args.bytes.now c.args.at c.requires.within c.args.place c.requires.begins c.requires.no_name c.requires.no_number
    (sym c.if-begins_with.false ∙ c.begins_with.ensures) (sym c.in-None.ensures)
