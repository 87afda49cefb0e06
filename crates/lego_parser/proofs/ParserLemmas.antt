-- What two scans say of tokens, for `parse`.
use Rattle.std.proofs.Common.{◌≡◌, ◌⊎◌, inl, inr, ℕ, suc, ◌≤◌, ◌<◌, List, [], ◌∷◌, ◌++◌, Option, Some, None, slice_get, get_or, map, take, length, true, refl, sym, ap, ◌∙◌, subst, arith}
use Rattle.std.specs.Prelude.{option_map}
use Rattle.std.proofs.lemmas.Option.{slice_get-get_or}
use Rattle.lego_lexer.specs.Tokens.{OfSymbol, lexeme_of}
use Rattle.lego_lexer.specs.declared.token.Token.{Token}
use Rattle.lego_lexer.specs.declared.token.TokenKind.{TokenKind}
use Rattle.lego_lexer.specs.declared.token.TokenKind.TheVariants as Kind
use Rattle.lego_lexer.specs.declared.token.Symbol.TheVariants.{Semicolon}
use Rattle.lego_grammar.specs.Written.{WrittenAct, WrittenCommand}
use Rattle.lego_grammar.specs.Grammar.{Names, Item, item_of, ReadsCommand, Parses}
use Rattle.std.specs.Prelude.{All}
use Rattle.lego_grammar.specs.Surface.{written_act, written_command}
use Rattle.lego_grammar.specs.declared.command.Act.{Act}
use Rattle.lego_base.specs.declared.place.Place.{Place}
use Rattle.lego_grammar.proofs.Proper.{proper_command}
use Rattle.lego_parser.specs.private.Trees.{built_act}
use Rattle.lego_parser.proofs.ShapeLemmas.{kept_act}
use Rattle.lego_grammar.specs.WrittenForm.{IsSmall, count_names, max_written_names, is_right, IsWrittenForm}
use Rattle.lego_grammar.specs.declared.command.Command.{Command}
use Rattle.lego_parser.specs.Parsing.{EndWithSemicolon, ParsesTo, IsNoCommand}
use Rattle.lego_parser.specs.Numbering.{LeavesNames}
use Rattle.lego_parser.specs.private.Interning.{IsNumberingFault, IsPlaced}
use Rattle.lego_grammar.specs.private.Machine.{Mode, Start, Between, Done, state}
use Rattle.lego_grammar.specs.private.Runs.{goes}
use Rattle.lego_parser.specs.private.Scanning.{mode_at, Shallow, Inside, HasEnded, IsStage, IsDepth, IsScan, Prevailing, Decides, IsWhole}
use Rattle.lego_parser.specs.declared.fault.ParseFault.{ParseFault}
use Rattle.lego_parser.specs.declared.fault.ParseFault.TheVariants as Fault
use Rattle.lego_parser.specs.declared.scan.Scan.{Scan}
use Rattle.lego_parser.specs.declared.scan.Stage.{Stage}
use Rattle.lego_parser.specs.declared.scan.Start.{Start as Begun}
use Rattle.lego_parser.proofs.NumberingLemmas.{item_at, long_as, too_many_in_all}
use Rattle.lego_parser.proofs.Scanning.{goes_all}
use Rattle.lego_parser.proofs.Scans.{begin_at, finished, none_on}
use Rattle.lego_parser.proofs.Prevailing.{context_alone, other_alone}
use Rattle.lego_parser.proofs.Balance.{context_bound}
use Rattle.lego_parser.proofs.Cases.{context_nothing, other_behind, ends_done}
use Rattle.lego_parser.proofs.Apart.{not_both}
use Rattle.lego_parser.proofs.Deciding.{none_behind, append_nil, refuse_read, read_shallow, refuse_unread, refuse_deep}

-- the token at an index, as an item
pub item_there : (bytes : List ℕ) (tokens : List Token) (i : ℕ) (d : Token) → i < length tokens
    → slice_get (map (item_of bytes) tokens) i ≡ Some (item_of bytes (get_or tokens i d))
item_there bytes tokens i d lt =
    slice_get-get_or (map (item_of bytes) tokens) i (item_of bytes d) (omega (arith, lt, long_as bytes tokens))
    ∙ ap (λ t. Some t) (item_at bytes tokens i d lt (item_of bytes d))

pub first_item : (bytes : List ℕ) (tokens : List Token) (t : Token) → Some t ≡ slice_get tokens 0 → slice_get (map (item_of bytes) tokens) 0 ≡ Some (item_of bytes t)
first_item bytes [] t e = cc
first_item bytes (u ∷ tokens) t e = ap (λ o. option_map (item_of bytes) o) (sym e)

-- any token
abbrev pub some_token : Token
some_token = record { kind = Kind.Name; place = record { line = 1; column = 1 }; from = 0; to = 0 }

less : (n : ℕ) → n < suc n
less n = omega arith

-- where both scans stopped in front of a token
module _ (items : List Item) (context other : Scan) (x : IsScan items (Between []) context) (y : IsScan items Start other)
    (lx : context.stop < length items) (ly : other.stop < length items) where
  pub context_further : other.stop < context.stop → Decides items context
  context_further h = record {
    mode = Between [];
    scanned = x;
    before = lx;
    prevailing = context_alone items context.stop x.there (x.stops lx) (none_on items (Some (state Start [])) (suc other.stop) context.stop (omega (arith, h)) (y.stops ly));
  }

  pub other_further : context.stop < other.stop → Decides items other
  other_further h = record {
    mode = Start;
    scanned = y;
    before = ly;
    prevailing = other_alone items other.stop y.there (y.stops ly) (none_on items (Some (state (Between []) [])) (suc context.stop) other.stop (omega (arith, h)) (x.stops lx));
  }

  module _ (e : context.stop ≡ other.stop) where
    pub other_is_behind : context.stage ≡ Stage.Behind → Decides items other
    other_is_behind h =
        let b : IsStage Stage.Behind x.state_there.mode = subst (λ s. IsStage s x.state_there.mode) h x.stage in
        record {
          mode = Start;
          scanned = y;
          before = ly;
          prevailing =
              other_behind items other.stop y.there (y.stops ly) (subst (λ k. goes (take k items) (Some (state (Between []) [])) ≡ Some x.state_there) e x.there)
              (subst (λ k. goes (take (suc k) items) (Some (state (Between []) [])) ≡ None) e (x.stops lx)) b.2;
        }

    other_there : goes (take context.stop items) (Some (state Start [])) ≡ Some y.state_there
    other_there = subst (λ k. goes (take k items) (Some (state Start [])) ≡ Some y.state_there) (sym e) y.there

    other_stops : goes (take (suc context.stop) items) (Some (state Start [])) ≡ None
    other_stops = subst (λ k. goes (take (suc k) items) (Some (state Start [])) ≡ None) (sym e) (y.stops ly)

    by_stage : (s : Stage) → (s ≡ Stage.Behind → ⊥) → IsStage s x.state_there.mode → Prevailing items context.stop (Between []) x.state_there
    by_stage Stage.Nothing n h = context_nothing items context.stop x.there (x.stops lx) other_stops h
    by_stage Stage.Inside n h = context_bound items context.stop x.there (x.stops lx) other_stops h
    by_stage Stage.Behind n h = absurd (n refl)
    by_stage Stage.Ended n h = absurd (not_both (take context.stop items) h.0 x.there h.1 other_there)

    pub context_is_inside : (context.stage ≡ Stage.Behind → ⊥) → Decides items context
    context_is_inside n = record { mode = Between []; scanned = x; before = lx; prevailing = by_stage context.stage n x.stage }

-- the refusal by the scan that says how tokens are nested
ended_or_not : (s : Stage) (m : Mode) → IsStage s m → ((act : WrittenAct) → m ≡ Done act → ⊥) ⊎ HasEnded m
ended_or_not Stage.Nothing m h = inl (λ act e. between act (sym h ∙ e))
  where
    between : (d : WrittenAct) → Between [] ≡ Done d → ⊥
    between d q = cc
ended_or_not Stage.Inside m h = inl (λ act e. inside act (subst Inside e h))
  where
    inside : (d : WrittenAct) → Inside (Done d) → ⊥
    inside d k = k
ended_or_not Stage.Behind m h = inl (λ act e. between act (sym h.2 ∙ e))
  where
    between : (d : WrittenAct) → Between (h.0 ∷ h.1) ≡ Done d → ⊥
    between d q = cc
ended_or_not Stage.Ended m h = inr h

module _ (bytes : List ℕ) (tokens : List Token) (scan : Scan) (d : Decides (map (item_of bytes) tokens) scan) where
  abbrev items : List Item
  items = map (item_of bytes) tokens

  at_depth : (o : Option ℕ) → scan.deep ≡ o → IsDepth items d.mode scan.stop o
  at_depth o e = subst (λ p. IsDepth items d.mode scan.stop p) e d.scanned.depth

  pub stop_in : scan.stop < length tokens
  stop_in = omega (arith, d.before, long_as bytes tokens)

  pub deep_in : (i : ℕ) → scan.deep ≡ Some i → i < length tokens
  deep_in i e = let at = at_depth (Some i) e in omega (arith, at.0, stop_in)

  module _ (held : Names) (t : Token) where
    stopped : slice_get items scan.stop ≡ Some (item_of bytes (get_or tokens scan.stop t))
    stopped = item_there bytes tokens scan.stop t stop_in

    pub unexpected_here : scan.deep ≡ None → IsNoCommand held items (Fault.Unexpected (get_or tokens scan.stop t).place)
    unexpected_here e = refuse_unread held items scan.stop d.mode (item_of bytes (get_or tokens scan.stop t)) d.prevailing stopped (at_depth None e)

    pub too_deep_here : (i : ℕ) → scan.deep ≡ Some i → IsNoCommand held items (Fault.TooDeep (get_or tokens i t).place)
    too_deep_here i e =
        let at = at_depth (Some i) e in
        refuse_deep held items scan.stop i d.mode (item_of bytes (get_or tokens i t)) d.prevailing (ended_or_not scan.stage d.scanned.state_there.mode d.scanned.stage)
        d.before at.0 (item_there bytes tokens i t (deep_in i e)) at.2 at.3 at.4

-- a scan that went over all tokens
module _ (bytes : List ℕ) (tokens : List Token) (start : Begun) (scan : Scan) (ends : EndWithSemicolon tokens)
    (x : IsScan (map (item_of bytes) tokens) (mode_at start) scan) (all : scan.stop ≡ length tokens) where
  abbrev whole_items : List Item
  whole_items = map (item_of bytes) tokens

  long : scan.stop ≡ length whole_items
  long = all ∙ sym (long_as bytes tokens)

  over : goes whole_items (Some (state (mode_at start) [])) ≡ Some x.state_there
  over = goes_all whole_items (Some (state (mode_at start) [])) ∙ subst (λ k. goes (take k whole_items) (Some (state (mode_at start) [])) ≡ Some x.state_there) long x.there

  last : whole_items ≡ map (item_of bytes) ends.0 ++ record { lexeme = OfSymbol Semicolon; place = ends.1.place } ∷ []
  last = ap (λ ts. map (item_of bytes) ts) ends.2 ∙ (map_append ends.0 ∙ ap (λ i. map (item_of bytes) ends.0 ++ i ∷ []) (last_item ends.1.kind ends.3))
    where
      map_append : (ts : List Token) → map (item_of bytes) (ts ++ ends.1 ∷ []) ≡ map (item_of bytes) ts ++ item_of bytes ends.1 ∷ []
      map_append [] = refl
      map_append (t ∷ ts) = ap (λ l. item_of bytes t ∷ l) (map_append ts)

      last_item : (k : TokenKind) → k ≡ Kind.Symbol Semicolon
          → ◌≡◌ {A = Item} (record { lexeme = lexeme_of bytes k ends.1.from ends.1.to; place = ends.1.place }) (record { lexeme = OfSymbol Semicolon; place = ends.1.place })
      last_item k e = ap (λ (j : TokenKind). record { lexeme = lexeme_of bytes j ends.1.from ends.1.to; place = ends.1.place }) e

  done : (act : WrittenAct) × (x.state_there.mode ≡ Done act)
  done = ends_done (map (item_of bytes) ends.0) ends.1.place (mode_at start) (subst (λ l. goes l (Some (state (mode_at start) [])) ≡ Some x.state_there) last over)

  ended : goes whole_items (Some (state (mode_at start) [])) ≡ Some (state (Done done.0) x.state_there.frames)
  ended = over ∙ ap (λ m. Some (state m x.state_there.frames)) done.1

  is_depth : (o : Option ℕ) → scan.deep ≡ o → IsDepth whole_items (mode_at start) scan.stop o
  is_depth o e = subst (λ p. IsDepth whole_items (mode_at start) scan.stop p) e x.depth

  low : (n : ℕ) → length whole_items ≤ n → Shallow (mode_at start) [] whole_items n → IsWhole whole_items (mode_at start)
  low n h sh = record { act = done.0; frames = x.state_there.frames; over = ended; shallow = λ j s l g. sh j s (omega (arith, h, l)) g }

  pub whole_shallow : scan.deep ≡ None → IsWhole whole_items (mode_at start)
  whole_shallow e = low (suc scan.stop) (omega (arith, long)) (is_depth None e)

  pub whole_late : (i : ℕ) → scan.deep ≡ Some i → length tokens ≤ i → IsWhole whole_items (mode_at start)
  whole_late i e h = let at = is_depth (Some i) e in low i (omega (arith, h, long_as bytes tokens)) at.4

  pub whole_deep : (held : Names) (i : ℕ) (t : Token) → scan.deep ≡ Some i → i < length tokens → IsNoCommand held whole_items (Fault.TooDeep (get_or tokens i t).place)
  whole_deep held i t e h =
      let at = is_depth (Some i) e in
      refuse_read held whole_items i (item_of bytes (get_or tokens i t)) (begin_at start) ended (item_there bytes tokens i t h) at.2 at.3 at.4

-- what the tokens are, where they are a command
module _ (items : List Item) (start : Begun) (w : IsWhole items (mode_at start)) where
  pub parsed : (names : Names) (o : WrittenCommand) → Parses names items o → ParsesTo names items o
  parsed names o p = read_shallow names items o (begin_at start) w.over w.shallow p

  some : (names : Names) × (o : WrittenCommand) × ParsesTo names items o
  some =
      let f = finished items (begin_at start) w.over in
      let n : f.rest ≡ [] = none_behind f.behind refl in
      let reads : ReadsCommand f.names f.nested f.command = subst (λ l. ReadsCommand f.names l f.command) (append_nil f.nested f.rest n) f.reads in
      (f.names, f.command, parsed f.names f.command (record { nested = f.nested; same = f.same; reads = reads }))

  pub too_many : (held new : Names) (fault : ParseFault) → IsNumberingFault fault held items new → IsNoCommand held items fault
  too_many held new (Fault.Unexpected p) h = absurd h.why
  too_many held new (Fault.TooDeep p) h = absurd h.why
  too_many held new Fault.NamesFull h = (some.0, some.1, some.2, too_many_in_all Fault.NamesFull held items new h h.why)
  too_many held new Fault.Memory h = tt

-- a refusal of a token at its place leaves the names
pub placed_leaves : (fault : ParseFault) (held : Names) (tokens : List Item) → IsPlaced fault → LeavesNames fault held tokens held
placed_leaves (Fault.Unexpected p) held tokens h = refl
placed_leaves (Fault.TooDeep p) held tokens h = refl
placed_leaves Fault.NamesFull held tokens h = absurd h
placed_leaves Fault.Memory held tokens h = absurd h

-- what the tokens are is built as it is written, and in the right shape
module _ (names : Names) (items : List Item) (place : Place) (act : Act) (p : Parses names items (record { place = place; act = built_act act })) where
  built_right : (built_act act ≡ written_act act) × (is_right act ≡ true)
  built_right = kept_act act (proper_command names p.reads)

  pub as_written : Parses names items (record { place = place; act = written_act act })
  as_written = subst (λ (a : WrittenAct). Parses names items (record { place = place; act = a })) built_right.0 p

  -- it is a written form, where its numerals are small and its names few
  pub written_form : (command : Command) → command ≡ record { place = place; act = act } → ParsesTo names items (written_command command)
      → All (λ t. IsSmall t.lexeme) items → count_names items ≤ max_written_names → IsWrittenForm command
  written_form command is q small few = record {
    names = names;
    tokens = q.parses.nested;
    reads = q.parses.reads;
    shallow = q.shallow;
    small = subst (λ l. All (λ (t : Item). IsSmall t.lexeme) l) (sym q.parses.same) small;
    few = subst (λ l. count_names l ≤ max_written_names) (sym q.parses.same) few;
    shaped = subst (λ (c : Command). is_right c.act ≡ true) (sym is) built_right.1;
  }
