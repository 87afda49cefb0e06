use Rattle.std.proofs.Common.{◌<◌, length, sym, arith}
use Rattle.std.specs.Prelude.{slice_range}
use Rattle.lego_base.specs.declared.limits.TheConstants.{MAX_NAME}
use Rattle.lego_lexer.specs.Bytes.{goes_on_in_name}
use Rattle.lego_lexer.specs.Tokens.{Name, OfWord}
use Rattle.lego_lexer.proofs.SliceLemmas.{slice_length}
use Rattle.lego_lexer.proofs.TokenLemmas.{word_token}
use Rattle.lego_lexer.proofs.ScanLemmas.{name_some, name_is, name_there, long_name_there}
use Rattle.lego_lexer.proofs.scan.scan_name.Goals as goal

pub returns-in-Some : goal.returns-in-Some
returns-in-Some c =
    let bytes = c.args.bytes.now in
    let to = c.run_end-to.result in
    let run = c.run_end-to.ensures.run goes_on_in_name (λ byte answer small says. says) in
    record {
      some = name_some bytes c.args.at to c.requires.within c.requires.first run;
      within = run.within;
      longest = name_there bytes c.args.at to c.requires.within c.requires.first run (OfWord c.in-Some.word) (word_token (slice_range bytes c.args.at to) c.in-Some.word (sym c.in-Some.ensures));
      small = tt;
    }

pub returns-then-text-gt-MAX_NAME : goal.returns-then-text-gt-MAX_NAME
returns-then-text-gt-MAX_NAME c =
    let bytes = c.args.bytes.now in
    let to = c.run_end-to.result in
    let run = c.run_end-to.ensures.run goes_on_in_name (λ byte answer small says. says) in
    let long : MAX_NAME < length (slice_range bytes c.args.at to) = omega (arith, slice_length bytes c.args.at to run.after run.within) in
    long_name_there bytes c.args.at to c.requires.within c.requires.first run c.args.place c.requires.begins (sym c.in_default.ensures) long

pub returns : goal.returns
returns c =
    let bytes = c.args.bytes.now in
    let to = c.run_end-to.result in
    let run = c.run_end-to.ensures.run goes_on_in_name (λ byte answer small says. says) in
    let name = Name (slice_range bytes c.args.at to) in
    record {
      some = name_some bytes c.args.at to c.requires.within c.requires.first run;
      within = run.within;
      longest = name_there bytes c.args.at to c.requires.within c.requires.first run name (name_is bytes c.args.at to c.requires.within c.requires.first run (sym c.in_default.ensures));
      small = omega (arith, slice_length bytes c.args.at to run.after run.within);
    }
