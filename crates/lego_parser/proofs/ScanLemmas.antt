-- The loop of a scan, over the tokens of the code.
use Rattle.std.proofs.Common.{◌≡◌, ℕ, suc, ◌+◌, ◌≤◌, ◌<◌, Bool, false, List, [], map, Option, Some, None, slice_get, get_or, take, length, refl, sym, ap, ◌∙◌, subst, add-one, arith}
use Rattle.std.specs.Option.{option_or}
use Rattle.std.proofs.lemmas.Option.{slice_get-get_or}
use Rattle.lego_lexer.specs.Tokens.{lexeme_of}
use Rattle.lego_lexer.specs.declared.token.Token.{Token}
use Rattle.lego_lexer.specs.declared.token.TokenKind.{TokenKind}
use Rattle.lego_lexer.specs.declared.token.TokenKind.TheVariants as Kind
use Rattle.lego_grammar.specs.Grammar.{item_of}
use Rattle.lego_grammar.specs.private.Machine.{Mode, State, state, move, level}
use Rattle.lego_grammar.specs.private.Runs.{class, goes}
use Rattle.lego_parser.specs.private.Scanning.{mode_at, IsStage, IsDepth, IsScan}
use Rattle.lego_parser.specs.declared.scan.Start.{Start}
use Rattle.lego_parser.specs.declared.scan.Stage.{Stage}
use Rattle.lego_parser.proofs.NumberingLemmas.{item_at, long_as}
use Rattle.lego_parser.proofs.Scanning.{goes_step, shallow_none, shallow_more}

-- the machine sees of a token what the code does
class_of : (bytes : List ℕ) (t : Token) → class (item_of bytes t).lexeme ≡ t.kind
class_of bytes t = by_kind t.kind
  where
    by_kind : (k : TokenKind) → class (lexeme_of bytes k t.from t.to) ≡ k
    by_kind Kind.Name = refl
    by_kind (Kind.Number n) = refl
    by_kind (Kind.Word w) = refl
    by_kind (Kind.Symbol s) = refl

-- the state behind the first i tokens, where each has a move
abbrev pub GoesTo : List Token → Mode → ℕ → Option State → Type 0
GoesTo tokens m i o = (bytes : List ℕ) → goes (take i (map (item_of bytes) tokens)) (Some (state m [])) ≡ o

-- the first token whose state is above the limit, of those up to token i
abbrev pub DeepTo : List Token → Mode → ℕ → Option ℕ → Type 0
DeepTo tokens m i deep = (bytes : List ℕ) → IsDepth (map (item_of bytes) tokens) m i deep

-- where a command begins is within the limit
pub deep_none : (tokens : List Token) (start : Start) → DeepTo tokens (mode_at start) 0 None
deep_none tokens start bytes =
    let items = map (item_of bytes) tokens in
    shallow_more (mode_at start) [] items 0 (shallow_none (mode_at start) [] items) refl (level_at start)
  where
    level_at : (start : Start) → level (state (mode_at start) []) ≤ 500
    level_at Start.Context = omega arith
    level_at Start.Other = omega arith

module _ (tokens : List Token) (m : Mode) (i : ℕ) where
  -- one token more
  pub goes_on : (t : Token) (st : State) (o : Option State) → i < length tokens → GoesTo tokens m i (Some st)
      → move false (get_or tokens i t).kind (get_or tokens i t).place 0 st ≡ o → GoesTo tokens m (i + 1) o
  goes_on t st o lt there gives bytes =
      let items = map (item_of bytes) tokens in
      let now = get_or tokens i t in
      let within : i < length items = omega (arith, lt, long_as bytes tokens) in
      let here : slice_get items i ≡ Some (item_of bytes now) = slice_get-get_or items i (item_of bytes now) within ∙ ap (λ x. Some x) (item_at bytes tokens i t lt (item_of bytes now)) in
      let kind = ap (λ (k : TokenKind). move false k now.place 0 st) (class_of bytes now) in
      rw add-one (goes_step items i (item_of bytes now) (Some (state m [])) here (there bytes) ∙ (kind ∙ gives))

  -- the next state is within the limit, or above it
  pub no_deeper : (st : State) (deep : Option ℕ) → GoesTo tokens m (i + 1) (Some st) → level st ≤ 500
      → DeepTo tokens m i deep → DeepTo tokens m (i + 1) deep
  no_deeper st None there l before bytes =
      rw add-one (shallow_more m [] (map (item_of bytes) tokens) (suc i) (before bytes) (rw add-one at (there bytes)) l)
  no_deeper st (Some k) there l before bytes = let d = before bytes in (omega (arith, d.0), d.1, d.2, d.3, d.4)

  pub deeper : (st : State) (deep : Option ℕ) → GoesTo tokens m (i + 1) (Some st) → 500 < level st
      → DeepTo tokens m i deep → DeepTo tokens m (i + 1) (option_or deep (Some (i + 1)))
  deeper st None there l before bytes = (omega arith, st, there bytes, l, rw add-one (before bytes))
  deeper st (Some k) there l before bytes = let d = before bytes in (omega (arith, d.0), d.1, d.2, d.3, d.4)

  -- the scan stops here
  pub scanned : (stop : ℕ) (deep : Option ℕ) (stage : Stage) (st : State) → stop ≡ i → i ≤ length tokens → GoesTo tokens m i (Some st)
      → (i < length tokens → GoesTo tokens m (i + 1) None) → IsStage stage st.mode → DeepTo tokens m i deep
      → (bytes : List ℕ) → IsScan (map (item_of bytes) tokens) m (record { stop = stop; deep = deep; stage = stage })
  scanned stop deep stage st e within there stops stands depth bytes =
      let long = long_as bytes tokens in
      let here : IsScan (map (item_of bytes) tokens) m (record { stop = i; deep = deep; stage = stage }) = record {
        state_there = st;
        within = omega (arith, long, within);
        there = there bytes;
        stops = λ lt. rw add-one at (stops (omega (arith, long, lt)) bytes);
        stage = stands;
        depth = depth bytes;
      } in
      subst (λ n. IsScan (map (item_of bytes) tokens) m (record { stop = n; deep = deep; stage = stage })) (sym e) here
