use Rattle.std.proofs.Common.{◌≡◌, ◌<◌, arith}
use Rattle.std.specs.Prelude.{slice_range}
use Rattle.lego_lexer.specs.Bytes.{is_digit}
use Rattle.lego_lexer.specs.Limits.{MAX_NUMERAL}
use Rattle.lego_lexer.specs.Tokens.{number_value}
use Rattle.lego_lexer.proofs.ScanLemmas.{number_some, number_there, big_level_there}
use Rattle.lego_lexer.proofs.scan.scan_number.Goals as goal

pub returns-then-value-gt-MAX_NUMERAL : goal.returns-then-value-gt-MAX_NUMERAL
returns-then-value-gt-MAX_NUMERAL c =
    let bytes = c.args.bytes.now in
    let to = c.run_end-to.result in
    let run = c.run_end-to.ensures.run is_digit (λ byte answer small says. says) in
    let big : MAX_NUMERAL < number_value (slice_range bytes c.args.at to) = omega arith in
    big_level_there bytes c.args.at to c.requires.within c.requires.first run c.args.place c.requires.begins big

pub returns : goal.returns
returns c =
    let bytes = c.args.bytes.now in
    let to = c.run_end-to.result in
    let run = c.run_end-to.ensures.run is_digit (λ byte answer small says. says) in
    let same : number_value (slice_range bytes c.args.at to) ≡ c.number_value-value.result = omega arith in
    record {
      some = number_some bytes c.args.at to c.requires.within c.requires.first run;
      within = run.within;
      longest = rw same at (number_there bytes c.args.at to c.requires.within c.requires.first run);
      small = omega arith;
    }
