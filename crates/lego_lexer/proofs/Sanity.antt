-- Worked examples of the definitions.
use Rattle.std.proofs.Common.{ℕ, [], ◌∷◌, refl, arith}
use Rattle.std.specs.Prelude.{codes}
use Rattle.lego_base.specs.declared.place.Place.{Place}
use Rattle.lego_lexer.specs.Bytes.{Gap}
use Rattle.lego_lexer.specs.Tokens.{Name, Reads, Tokens, Refused, FaultAt, start}
use Rattle.lego_lexer.specs.Commands.{Unbroken, First, Begins, IsCut}
use Rattle.lego_lexer.specs.declared.token.LexFault.TheVariants.{BadByte, OpenComment}
use Rattle.lego_lexer.specs.declared.token.Cut.TheVariants as Cut
use Rattle.lego_lexer.proofs.TokenLemmas.{no_token_here}

abbrev at : ℕ → Place
at column = record { line = 1; column = column }

-- comments nest, and a reserved word in front of letters is none
comments_nest : Tokens (at 1) (codes "(* a (* b *) c *)Props") (record { lexeme = Name (codes "Props"); place = at 18; from = 17; to = 22 } ∷ [])
comments_nest = record {
  end = record { place = at 23; before = 22 };
  gap = [];
  reads =
      Reads.token {gap = codes "(* a (* b *) c *)"} {text = codes "Props"} (Gap.comment {c = codes "(* a (* b *) c *)"} (record { begins = refl; ends = refl }) Gap.none)
      (record { no_blank = refl; no_comment = refl }) (record { is_token = refl; no_longer = λ b more back e. absurd (cc) }) Reads.none;
  blank = Gap.none;
}

-- a `-` without `>` begins no token
half_arrow : Refused (at 1) (codes "- b") (BadByte (at 1) 45)
half_arrow = record {
  tokens = [];
  end = start (at 1);
  gap = [];
  rest = codes "- b";
  reads = Reads.none;
  within = λ i d h. absurd (omega arith);
  blank = Gap.none;
  cause = FaultAt.bad_byte (record { no_blank = refl; no_comment = refl }) (no_token_here 45 (codes " b") refl refl refl refl);
}

-- `(*)` is the front of a comment
open_comment : Refused (at 1) (codes " (*)") (OpenComment (at 2))
open_comment = record {
  tokens = [];
  end = start (at 1);
  gap = codes " ";
  rest = codes "(*)";
  reads = Reads.none;
  within = λ i d h. absurd (omega arith);
  blank = Gap.blank refl Gap.none;
  cause = FaultAt.open_comment (record { begins = refl; unended = refl });
}

-- a `;` in a comment ends no command, and the comment belongs to the command
commented : IsCut 0 (codes "(*;*)a(*;*);b") (Cut.Command 5 12)
commented = record {
  first = First.Command (codes "(*;*)") (codes "a(*;*)") (codes "b");
  begins =
      Begins.command {gap = codes "(*;*)"} {body = codes "a(*;*)"} {bytes = codes "b"} (Gap.comment {c = codes "(*;*)"} (record { begins = refl; ends = refl }) Gap.none)
      (Unbroken.byte (λ e. omega arith) refl (Unbroken.comment {c = codes "(*;*)"} (record { begins = refl; ends = refl }) Unbroken.none))
      (record { no_blank = refl; no_comment = refl });
  is = refl;
}

unended : IsCut 9 (codes "[B:A") (Cut.Unended 9)
unended = record {
  first = First.Unended [];
  begins =
      Begins.unended {gap = []} {body = codes "[B:A"} Gap.none
      (Unbroken.byte (λ e. omega arith) refl (Unbroken.byte (λ e. omega arith) refl (Unbroken.byte (λ e. omega arith) refl (Unbroken.byte (λ e. omega arith) refl Unbroken.none))))
      (record { no_blank = refl; no_comment = refl });
  is = refl;
}
