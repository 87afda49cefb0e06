-- The names that `lex` gives have ranges that can be numbered.
use Rattle.std.proofs.Common.{◌≡◌, ℕ, ◌-◌, List, length, get_or, map, drop, arith}
use Rattle.std.specs.Prelude.{slice_range}
use Rattle.std.proofs.lemmas.List.{length-take, length-drop}
use Rattle.lego_base.specs.declared.place.Place.{Place}
use Rattle.lego_lexer.specs.Tokens.{Tokens, AllWithinLimits, placed}
use Rattle.lego_lexer.specs.declared.token.Token.{Token}
use Rattle.lego_lexer.proofs.Ranges.{token_in_range, name_is_short}
use Rattle.lego_parser.specs.Numbering.{NamesHaveRanges}

pub names_have_ranges : (place : Place) (bytes : List ℕ) (tokens : List Token)
    → Tokens place bytes (map (placed bytes) tokens) → AllWithinLimits (map (placed bytes) tokens) → NamesHaveRanges bytes tokens
names_have_ranges place bytes tokens read small i d lt is =
    let t = get_or tokens i d in
    let range = token_in_range place bytes tokens read i d lt in
    let long : length (slice_range bytes t.from t.to) ≡ t.to - t.from =
    omega (arith, range.0, range.1, length-take (t.to - t.from) (drop t.from bytes), length-drop t.from bytes) in
    record {
      some = range.0;
      within = range.1;
      short = omega (arith, long, range.0, name_is_short bytes tokens small i d lt is);
    }
