-- The cuts of pieces are those of the joined bytes.
use Rattle.std.proofs.Common.{◌≡◌, ℕ, ◌+◌, List, ◌∷◌, ◌++◌, length, take, drop, sym, ap, ◌∙◌, subst, append_assoc}
use Rattle.std.specs.List.{concat}
use Rattle.std.proofs.lemmas.List.{append-nil, take-append-drop}
use Rattle.lego_lexer.specs.Commands.{First}
use Rattle.lego_lexer.specs.Cutter.{Ends}
use Rattle.lego_lexer.specs.Pieces.{Answers, AllCuts}
use Rattle.lego_lexer.specs.Laws.{EndsStay, PiecesAreJoined}
use Rattle.lego_lexer.specs.declared.cutter.Cutter.{Cutter}
use Rattle.lego_lexer.specs.declared.token.Cut as Code
use Rattle.lego_lexer.proofs.Fronts.{parts, command_goes_on}

pub ends_stay : EndsStay
ends_stay cutter from bytes more cut e = record { first = First.Command e.gap e.body more; begins = command_goes_on e.begins more; is = e.is }

-- a command that has ended, and the cuts of the bytes behind it
ended_cuts : {cutter : Cutter} {from : ℕ} {bytes : List ℕ} {cut : Code.Cut} {cuts : List Code.Cut} (rest : List ℕ) → Ends cutter from bytes cut
    → AllCuts (from + length bytes) rest cuts → AllCuts from (bytes ++ rest) (cut ∷ cuts)
ended_cuts {from = from} {bytes = bytes} {cuts = cuts} rest e others =
    subst (λ k. AllCuts from (bytes ++ rest) (k ∷ cuts)) (sym e.is)
    (AllCuts.command (command_goes_on e.begins rest) (subst (λ xs. AllCuts (from + length xs) rest cuts) (parts e.begins).is others))

used_joins : (bytes piece more : List ℕ) (used : ℕ) → (bytes ++ take used piece) ++ (drop used piece ++ more) ≡ bytes ++ (piece ++ more)
used_joins bytes piece more used =
    append_assoc bytes (take used piece) (drop used piece ++ more)
    ∙ ap (λ xs. bytes ++ xs) (sym (append_assoc (take used piece) (drop used piece) more) ∙ ap (λ xs. xs ++ more) (take-append-drop used piece))

answers_join : {from : ℕ} {bytes : List ℕ} {pieces : List (List ℕ)} {cuts : List Code.Cut} → Answers from bytes pieces cuts → AllCuts from (bytes ++ concat pieces) cuts
answers_join {from} {cuts = cuts} (Answers.more {bytes = bytes} {piece = piece} {pieces = pieces} f a) =
    subst (λ xs. AllCuts from xs cuts) (append_assoc bytes piece (concat pieces)) (answers_join a)
answers_join {from} (Answers.ended {used = used} {bytes = bytes} {piece = piece} {pieces = pieces} {cut = cut} {cuts = cuts} f a) =
    subst (λ xs. AllCuts from xs (cut ∷ cuts)) (used_joins bytes piece (concat pieces) used) (ended_cuts (drop used piece ++ concat pieces) f.ends (answers_join a))
answers_join {from} {cuts = cuts} (Answers.end {bytes = bytes} c n) = subst (λ xs. AllCuts from xs cuts) (sym (append-nil bytes)) (AllCuts.last c n)

pub pieces_joined : PiecesAreJoined
pieces_joined from pieces cuts a = answers_join a
