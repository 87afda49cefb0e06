-- A script in pieces.
use Rattle.std.specs.Prelude.{ℕ, ◌+◌, List, [], ◌∷◌, ◌++◌, length, take, drop}
use Rattle.lego_lexer.specs.Commands.{First, Begins, IsCut, cut_of}
use Rattle.lego_lexer.specs.Cutter.{IsFed, IsNoCommand}
use Rattle.lego_lexer.specs.declared.cutter.Cutter.{Cutter}
use Rattle.lego_lexer.specs.declared.cutter.Fed.TheVariants as Fed
use Rattle.lego_lexer.specs.declared.token.Cut as Code

-- the cuts that `feed` and then `end` answer, where these bytes, the first with this index, were fed behind the last command, and these pieces follow:
-- behind the `;` that ends a command, the rest of its piece is fed next
pub data Answers : ℕ → List ℕ → List (List ℕ) → List Code.Cut → Type 0 where
  more : {cutter : Cutter} {from : ℕ} {bytes piece : List ℕ} {pieces : List (List ℕ)} {cuts : List Code.Cut}
      → IsFed cutter from bytes piece Fed.More → Answers from (bytes ++ piece) pieces cuts → Answers from bytes (piece ∷ pieces) cuts
  ended : {cutter : Cutter} {from used : ℕ} {bytes piece : List ℕ} {pieces : List (List ℕ)} {cut : Code.Cut} {cuts : List Code.Cut}
      → IsFed cutter from bytes piece (Fed.Ended used cut) → Answers (from + length (bytes ++ take used piece)) [] (drop used piece ∷ pieces) cuts
      → Answers from bytes (piece ∷ pieces) (cut ∷ cuts)
  end : {from : ℕ} {bytes : List ℕ} {cut : Code.Cut} → IsCut from bytes cut → IsNoCommand cut → Answers from bytes [] (cut ∷ [])

-- the cuts of bytes, of which the first has this index: of each command in turn, and of what stands behind the last one
pub data AllCuts : ℕ → List ℕ → List Code.Cut → Type 0 where
  last : {from : ℕ} {bytes : List ℕ} {cut : Code.Cut} → IsCut from bytes cut → IsNoCommand cut → AllCuts from bytes (cut ∷ [])
  command : {from : ℕ} {gap body rest bytes : List ℕ} {cuts : List Code.Cut}
      → Begins bytes (First.Command gap body rest) → AllCuts (from + length (gap ++ body ++ 59 ∷ [])) rest cuts
      → AllCuts from bytes (cut_of from (First.Command gap body rest) ∷ cuts)
