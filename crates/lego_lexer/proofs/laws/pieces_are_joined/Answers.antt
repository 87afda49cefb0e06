use Rattle.lego_lexer.proofs.JoinedPieces.{ends_stay, pieces_joined}
use Rattle.lego_lexer.proofs.laws.pieces_are_joined.Goals as goal

pub returns : goal.returns
returns c = record { stay = ends_stay; joined = pieces_joined }
