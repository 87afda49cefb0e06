use Rattle.std.proofs.Common.{ap, arith}
use Rattle.std.specs.Prelude.{slice_range}
use Rattle.lego_base.proofs.PlaceLemmas.{behind_line, behind_column}
use Rattle.lego_base.specs.declared.place.Place.{Place}
use Rattle.lego_lexer.proofs.SliceLemmas.{slice_length}
use Rattle.lego_lexer.proofs.tokens.Cursor.advance.Goals as goal

pub returns-clause-room : goal.returns-clause-room
returns-clause-room c =
    let passed = slice_range c.args.bytes.now c.args.self.index c.args.to in
    let count = slice_length c.args.bytes.now c.args.self.index c.args.to c.requires.after c.requires.within in (
      omega (arith, ap (λ (p : Place). p.line) c.behind-place.ensures, behind_line c.args.self.place passed, count, c.requires.room.0),
      omega (arith, ap (λ (p : Place). p.column) c.behind-place.ensures, behind_column c.args.self.place passed, count, c.requires.room.1),
    )
