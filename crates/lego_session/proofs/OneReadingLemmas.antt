-- A command's bytes are read in one way.
use Rattle.std.proofs.Common.{◌≡◌, ℕ, suc, ◌<◌, ◌≤◌, Bool, true, false, List, [], ◌∷◌, ◌++◌, map, length, take, drop, Some, refl, sym, ap, ◌∙◌, subst, arith}
use Rattle.std.specs.Prelude.{slice_get, All}
use Rattle.std.proofs.lemmas.Bool.{false≢true}
use Rattle.std.proofs.lemmas.List.{take-append-drop}
use Rattle.std.proofs.lemmas.List.Elements.{All-get_or}
use Rattle.std.proofs.lemmas.Option.{same_Some, slice_get_within, get_or_from_slice_get}
use Rattle.lego_base.specs.declared.place.Place.{Place}
use Rattle.lego_lexer.specs.Commands.{CommandText}
use Rattle.lego_lexer.specs.Tokens.{Placed, Refused}
use Rattle.lego_lexer.specs.declared.token.LexFault.{LexFault}
use Rattle.lego_lexer.proofs.UniqueTokens.{tokens_unique, faults_unique, faults_exclude_tokens}
use Rattle.lego_grammar.specs.Grammar.{Names, Nested, Item as Token, item, ReadsCommand, Parses}
use Rattle.lego_grammar.specs.Refusals.{GoesOn, IsUnexpected, IsTooDeep, NestedSo}
use Rattle.lego_grammar.specs.Written.{WrittenCommand}
use Rattle.lego_grammar.proofs.Refusals.{one_unexpected, one_too_deep}
use Rattle.lego_grammar.proofs.Unique.{one_reading, one_nesting}
use Rattle.lego_parser.specs.Numbering.{names_behind, AreTooMany, IsFront, max_names}
use Rattle.lego_session.specs.Answers.{grammar_tokens, HasTokens, IsNumbering, IsCommand, IsNumberedCommand, lex_place, lex_cause, token_text, IsUnread}
use Rattle.lego_session.specs.Reading.{is_built}
use Rattle.lego_session.specs.Laws.{CommandsAreReadInOneWay}
use Rattle.lego_session.specs.declared.refusal.Cause.{Cause}
use Rattle.lego_session.specs.declared.refusal.Cause.TheVariants.{Unexpected, TooDeep, LongCommand, NamesFull}
use Rattle.lego_session.proofs.OneStepLemmas.{one_split}

-- the same place and cause
record IsSame (p q : Place) (c d : Cause) : Type 0 where
  pub place : p ≡ q
  pub cause : c ≡ d

-- no nesting of the tokens is above 500
abbrev IsShallow : List Nested → Type 0
IsShallow nested = All (λ t. t.nesting ≤ 500) nested

module _ {names : Names} {tokens : List Token} {o : WrittenCommand} (p : Parses names tokens o) where
  -- what is read begins a command at each front
  goes_on : (n : ℕ) → GoesOn (take n tokens)
  goes_on n = (names, drop n tokens, o, record { nested = p.nested; same = p.same ∙ sym (take-append-drop n tokens); reads = p.reads })

  -- so no token of it is unexpected
  expected : {n : ℕ} → IsUnexpected tokens n → ⊥
  expected {n} x = x.behind (goes_on (suc n))

  nested_so : {nested : List Nested} → NestedSo tokens nested → nested ≡ p.nested
  nested_so (NestedSo.read {names = other} e r) = one_nesting other names r p.reads (e ∙ sym p.same)
  nested_so (NestedSo.unread nested more next x m q r) = absurd (expected x)
  nested_so (NestedSo.behind nested x m r) = absurd (expected x)

  -- and none is nested too deep
  not_too_deep : IsShallow p.nested → {n : ℕ} → IsTooDeep tokens n → ⊥
  not_too_deep shallow {n} d =
      let there : slice_get p.nested n ≡ Some d.token = ap (λ ts. slice_get ts n) (sym (nested_so d.so)) ∙ d.there in
      let few : d.token.nesting ≤ 500 =
      subst (λ (t : Nested). t.nesting ≤ 500) (get_or_from_slice_get p.nested n d.token d.token there)
      (All-get_or (λ t. t.nesting ≤ 500) p.nested n d.token (slice_get_within p.nested n d.token there) shallow) in
      omega (arith, few, d.deep)

-- why tokens that are a command are not run: they have too many names, or their form isn't built
data IsUnrun (held left : Names) (c : CommandText) (tokens : List Placed) : Place → Cause → Type 0 where
  full : AreTooMany held (grammar_tokens tokens) → length left ≡ max_names → IsFront left (names_behind held (grammar_tokens tokens))
      → IsUnrun held left c tokens c.place NamesFull
  unbuilt : {o : WrittenCommand} {t : Placed} → left ≡ names_behind held (grammar_tokens tokens) → Parses left (grammar_tokens tokens) o
      → is_built o.act ≡ false → slice_get tokens 0 ≡ Some t → IsUnrun held left c tokens t.place (Unexpected (token_text c t))

-- why tokens are not run
data IsUnparsed (held left : Names) (c : CommandText) (tokens : List Placed) : Place → Cause → Type 0 where
  unexpected : {t : Placed} (n : ℕ) → left ≡ held → IsUnexpected (grammar_tokens tokens) n → slice_get tokens n ≡ Some t
      → ((i : ℕ) → IsTooDeep (grammar_tokens tokens) i → ⊥) → IsUnparsed held left c tokens t.place (Unexpected (token_text c t))
  too_deep : {t : Placed} (n : ℕ) → left ≡ held → IsTooDeep (grammar_tokens tokens) n → slice_get tokens n ≡ Some t
      → IsUnparsed held left c tokens t.place TooDeep
  unrun : {names : Names} {o : WrittenCommand} {p : Place} {cause : Cause} (parsed : Parses names (grammar_tokens tokens) o)
      → IsShallow parsed.nested → IsUnrun held left c tokens p cause → IsUnparsed held left c tokens p cause

-- why bytes are not run
data IsUnlexed (held left : Names) (c : CommandText) : Place → Cause → Type 0 where
  long : left ≡ held → 65536 < length c.bytes → IsUnlexed held left c c.place (LongCommand (length c.bytes))
  lex : {fault : LexFault} → left ≡ held → length c.bytes ≤ 65536 → Refused c.place c.bytes fault
      → IsUnlexed held left c (lex_place fault c.place) (lex_cause fault)
  unparsed : {tokens : List Placed} {p : Place} {cause : Cause} → HasTokens c tokens → IsUnparsed held left c tokens p cause → IsUnlexed held left c p cause

by_parts : {held left : Names} {c : CommandText} {p : Place} {cause : Cause} → IsUnread held left c p cause → IsUnlexed held left c p cause
by_parts (IsUnread.long e h) = IsUnlexed.long e h
by_parts (IsUnread.lex e h r) = IsUnlexed.lex e h r
by_parts (IsUnread.unexpected n e h x at none) = IsUnlexed.unparsed h (IsUnparsed.unexpected n e x at none)
by_parts (IsUnread.too_deep n e h d at) = IsUnlexed.unparsed h (IsUnparsed.too_deep n e d at)
by_parts (IsUnread.names_full command many count front) =
    IsUnlexed.unparsed command.lexed (IsUnparsed.unrun command.parsed command.shallow (IsUnrun.full many count front))
by_parts (IsUnread.unbuilt command form at) =
    IsUnlexed.unparsed command.command.lexed
    (IsUnparsed.unrun command.command.parsed command.command.shallow (IsUnrun.unbuilt command.numbers command.command.parsed form at))

-- one numbering is left, and the refusal is one
record IsOneUnread (left other : Names) (p q : Place) (c d : Cause) : Type 0 where
  pub names : left ≡ other
  pub same : IsSame p q c d

same_token : (c : CommandText) {t u : Placed} → t ≡ u → IsSame t.place u.place (Unexpected (token_text c t)) (Unexpected (token_text c u))
same_token c e = record { place = ap (λ (t : Placed). t.place) e; cause = ap (λ t. Unexpected (token_text c t)) e }

-- a front of a list is one at its length
one_front : {front other whole : Names} → length front ≡ length other → IsFront front whole → IsFront other whole → front ≡ other
one_front {front} {other} l p q = (one_split front other p.0 q.0 l (sym p.1 ∙ q.1)).0

module _ {held left other : Names} {c : CommandText} (few : length left ≤ max_names) (few' : length other ≤ max_names) where
  module _ {tokens : List Placed} where
    one_unrun : {p q : Place} {x y : Cause} → IsUnrun held left c tokens p x → IsUnrun held other c tokens q y → IsOneUnread left other p q x y
    one_unrun (IsUnrun.full many count front) (IsUnrun.full many' count' front') =
        record { names = one_front (count ∙ sym count') front front'; same = record { place = refl; cause = refl } }
    one_unrun (IsUnrun.full many count front) (IsUnrun.unbuilt numbers parsed form at) = absurd (omega (arith, many, few', ap length numbers))
    one_unrun (IsUnrun.unbuilt numbers parsed form at) (IsUnrun.full many count front) = absurd (omega (arith, many, few, ap length numbers))
    one_unrun (IsUnrun.unbuilt numbers parsed form at) (IsUnrun.unbuilt numbers' parsed' form' at') =
        record { names = numbers ∙ sym numbers'; same = same_token c (same_Some _ _ (sym at ∙ at')) }

    one_unparsed : {p q : Place} {x y : Cause} → IsUnparsed held left c tokens p x → IsUnparsed held other c tokens q y → IsOneUnread left other p q x y
    one_unparsed (IsUnparsed.unexpected n e x at none) (IsUnparsed.unexpected m e' x' at' none') =
        let same : n ≡ m = one_unexpected (grammar_tokens tokens) n m x x' in
        record { names = e ∙ sym e'; same = same_token c (same_Some _ _ (sym at ∙ (ap (slice_get tokens) same ∙ at'))) }
    one_unparsed (IsUnparsed.unexpected n e x at none) (IsUnparsed.too_deep m e' d at') = absurd (none m d)
    one_unparsed (IsUnparsed.unexpected n e x at none) (IsUnparsed.unrun parsed shallow u) = absurd (expected parsed x)
    one_unparsed (IsUnparsed.too_deep n e d at) (IsUnparsed.unexpected m e' x at' none) = absurd (none n d)
    one_unparsed (IsUnparsed.too_deep n e d at) (IsUnparsed.too_deep m e' d' at') =
        let same : n ≡ m = one_too_deep (grammar_tokens tokens) n m d d' in
        record {
          names = e ∙ sym e';
          same = record { place = ap (λ (t : Placed). t.place) (same_Some _ _ (sym at ∙ (ap (slice_get tokens) same ∙ at'))); cause = refl };
        }
    one_unparsed (IsUnparsed.too_deep n e d at) (IsUnparsed.unrun parsed shallow u) = absurd (not_too_deep parsed shallow d)
    one_unparsed (IsUnparsed.unrun parsed shallow u) (IsUnparsed.unexpected n e x at none) = absurd (expected parsed x)
    one_unparsed (IsUnparsed.unrun parsed shallow u) (IsUnparsed.too_deep n e d at) = absurd (not_too_deep parsed shallow d)
    one_unparsed (IsUnparsed.unrun parsed shallow u) (IsUnparsed.unrun parsed' shallow' v) = one_unrun u v

  one_unlexed : {p q : Place} {x y : Cause} → IsUnlexed held left c p x → IsUnlexed held other c q y → IsOneUnread left other p q x y
  one_unlexed (IsUnlexed.long e h) (IsUnlexed.long e' h') = record { names = e ∙ sym e'; same = record { place = refl; cause = refl } }
  one_unlexed (IsUnlexed.long e h) (IsUnlexed.lex e' h' r) = absurd (omega (arith, h, h'))
  one_unlexed (IsUnlexed.long e h) (IsUnlexed.unparsed t u) = absurd (omega (arith, h, t.short))
  one_unlexed (IsUnlexed.lex e h r) (IsUnlexed.long e' h') = absurd (omega (arith, h, h'))
  one_unlexed (IsUnlexed.lex {fault = fault} e h r) (IsUnlexed.lex {fault = other} e' h' r') =
      let same : fault ≡ other = faults_unique c.place c.bytes fault other r r' in
      record { names = e ∙ sym e'; same = record { place = ap (λ f. lex_place f c.place) same; cause = ap lex_cause same } }
  one_unlexed (IsUnlexed.lex {fault = fault} e h r) (IsUnlexed.unparsed {tokens = tokens} t u) =
      absurd (faults_exclude_tokens c.place c.bytes tokens fault t.lexed t.within r)
  one_unlexed (IsUnlexed.unparsed t u) (IsUnlexed.long e h) = absurd (omega (arith, h, t.short))
  one_unlexed (IsUnlexed.unparsed {tokens = tokens} t u) (IsUnlexed.lex {fault = fault} e h r) =
      absurd (faults_exclude_tokens c.place c.bytes tokens fault t.lexed t.within r)
  one_unlexed {p} {x = x} (IsUnlexed.unparsed {tokens = tokens} t u) (IsUnlexed.unparsed {tokens = others} s v) =
      one_unparsed (subst (λ ts. IsUnparsed held left c ts p x) (tokens_unique c.place c.bytes tokens others t.lexed s.lexed) u) v

-- two readings of a command
module _ {held names other : Names} {c : CommandText} {o o' : WrittenCommand} (p : IsNumberedCommand held names c o) (q : IsNumberedCommand held other c o') where
  same_items : grammar_tokens p.command.tokens ≡ grammar_tokens q.command.tokens
  same_items = ap grammar_tokens (tokens_unique c.place c.bytes p.command.tokens q.command.tokens p.command.lexed.lexed q.command.lexed.lexed)

  one_numbering : names ≡ other
  one_numbering = p.numbers ∙ (ap (names_behind held) same_items ∙ sym q.numbers)

  one_command : IsNumbering names → o ≡ o'
  one_command n =
      let parsed : Parses names (grammar_tokens q.command.tokens) o' = subst (λ ns. Parses ns (grammar_tokens q.command.tokens) o') (sym one_numbering) q.command.parsed in
      (one_reading names n.distinct p.command.parsed.reads parsed.reads (p.command.parsed.same ∙ (same_items ∙ sym parsed.same))).1

-- a command that is run is not refused
module _ {held names : Names} {c : CommandText} {o : WrittenCommand} (n : IsNumbering names) (p : IsNumberedCommand held names c o) (built : is_built o.act ≡ true) where
  module _ {tokens : List Placed} (h : HasTokens c tokens) where
    the_tokens : p.command.tokens ≡ tokens
    the_tokens = tokens_unique c.place c.bytes p.command.tokens tokens p.command.lexed.lexed h.lexed

    numbers : names ≡ names_behind held (grammar_tokens tokens)
    numbers = p.numbers ∙ ap (λ ts. names_behind held (grammar_tokens ts)) the_tokens

    run_or_unrun : {left : Names} {at : Place} {x : Cause} → IsUnrun held left c tokens at x → ⊥
    run_or_unrun (IsUnrun.full many count front) = omega (arith, many, n.few, ap length numbers)
    run_or_unrun (IsUnrun.unbuilt {o = other} is parsed form at) =
        let over : Parses names (grammar_tokens tokens) other = subst (λ ns. Parses ns (grammar_tokens tokens) other) (is ∙ sym numbers) parsed in
        let same : o ≡ other = (one_reading names n.distinct p.command.parsed.reads over.reads (p.command.parsed.same ∙ (ap grammar_tokens the_tokens ∙ sym over.same))).1 in
        false≢true (sym form ∙ (ap (λ (o : WrittenCommand). is_built o.act) (sym same) ∙ built))

    run_or_unparsed : {left : Names} {at : Place} {x : Cause} → IsUnparsed held left c tokens at x → ⊥
    run_or_unparsed (IsUnparsed.unexpected m e x at none) =
        expected p.command.parsed (subst (λ ts. IsUnexpected (grammar_tokens ts) m) (sym the_tokens) x)
    run_or_unparsed (IsUnparsed.too_deep m e d at) =
        not_too_deep p.command.parsed p.command.shallow (subst (λ ts. IsTooDeep (grammar_tokens ts) m) (sym the_tokens) d)
    run_or_unparsed (IsUnparsed.unrun parsed shallow u) = run_or_unrun u

  run_or_unlexed : {left : Names} {at : Place} {x : Cause} → IsUnlexed held left c at x → ⊥
  run_or_unlexed (IsUnlexed.long e h) = omega (arith, h, p.command.lexed.short)
  run_or_unlexed (IsUnlexed.lex {fault = fault} e h r) =
      faults_exclude_tokens c.place c.bytes p.command.tokens fault p.command.lexed.lexed p.command.lexed.within r
  run_or_unlexed (IsUnlexed.unparsed t u) = run_or_unparsed t u

-- a command's bytes are read in one way
pub commands_are_read_in_one_way : CommandsAreReadInOneWay
commands_are_read_in_one_way held c = record {
  command = λ names other o o' n p q. (one_numbering p q, one_command p q n);
  refusal = λ left other p q x y few few' u u'.
      let one = one_unlexed few few' (by_parts u) (by_parts u') in
      (one.names, one.same.place, one.same.cause);
  not_both = λ names left o p x n command built u. run_or_unlexed n command built (by_parts u);
}
