-- The names of a command's tokens are held, and a numbering that grows keeps what is known of a session.
use Rattle.std.proofs.Common.{◌≡◌, ℕ, ◌+◌, ◌<◌, ◌≤◌, nat_lt, length, Bool, true, false, ◌&&◌, if◌then◌else◌, arith, append-nil, append_assoc, length-append, List, [], ◌∷◌, ◌++◌, map, Option, Some, None, IfSome, refl, sym, ap, ◌∙◌, subst}
use Rattle.std.specs.Prelude.{slice_get, All, IsTrue}
use Rattle.std.specs.List.{AllByRecursion}
use Rattle.std.proofs.lemmas.Bool.{ltb-true}
use Rattle.std.proofs.lemmas.Bool.Decides.{nat_tests}
use Rattle.std.proofs.lemmas.List.Elements.{All-nil, All-cons, All-push, All-weaker}
use Rattle.std.proofs.lemmas.Option.{slice_get_within}
use Rattle.lego_base.specs.declared.place.Place.{Place}
use Rattle.lego_base.specs.Names.{has_name}
use Rattle.lego_term.specs.declared.binder.Binder.{Binder}
use Rattle.lego_term.specs.declared.binder.Mark.{Mark}
use Rattle.lego_term.specs.declared.binder.Mark.TheVariants.{Plain}
use Rattle.lego_term.specs.Trees.{Core, Var, Const, Prop, Univ, Pi, Lam, App, Sigma, Pair, Fst, Snd, Let}
use Rattle.lego_lexer.specs.Commands.{CommandText}
use Rattle.lego_lexer.specs.Tokens.{Lexeme, Name, Number, OfWord, OfSymbol, Placed, token_of}
use Rattle.lego_grammar.specs.declared.surface.Kind.{Kind}
use Rattle.lego_grammar.specs.Reading.{binder}
use Rattle.lego_grammar.specs.Grammar.{Names, Nested, Item as Token, Parses, NameList, names_of, Form, Reads, ReadsBinding, ReadsBindings, ReadsAct, ReadsCommand, TermWord, NumberWord, NameWord, LoneWord}
use Rattle.lego_grammar.specs.Written.{Written, WrittenBinding, WrittenAct, NameAt, WrittenCommand}
use Rattle.lego_inference.specs.Binders.{BinderKind, OfFunction, OfPair, OfLocal, BindersPass}
use Rattle.lego_inference.specs.declared.entry.Entry.{Entry as Item}
use Rattle.lego_reading.specs.Written.{kind_of, written_binders, EachWrittenBinder}
use Rattle.lego_parser.specs.Numbering.{names_with, names_behind, IsFront, max_names}
use Rattle.lego_undo.specs.declared.state.State.{State}
use Rattle.lego_context.specs.Contexts.{Contents}
use Rattle.lego_session.specs.Answers.{grammar_tokens, IsNumberedCommand, IsUnread}
use Rattle.lego_session.specs.declared.refusal.Cause.{Cause}
use Rattle.lego_session.specs.Names.{AreTrueNames, is_held, is_held_where, is_known_binder, IsKnown, AreKnown, IsKnownSession, AreHeld, IsHeldBinder, AreKindHeld, AreBoundHeld}
use Rattle.lego_session.specs.Reading.{is_plain}
use Rattle.lego_session.specs.Sessions.{Session, context_of, empty_session, HoldsThroughout}
use Rattle.lego_session.specs.Step.{bindings_of}
use Rattle.lego_session.proofs.SessionLemmas.{All-front}
use Rattle.lego_session.proofs.TokenLemmas.{IsTrueName, AreTrueNames as AreTrueTokens, tokens_are_names}

held_number : (n m : ℕ) → n < m → nat_lt n m ≡ true
held_number n m l = grind (arith, nat_tests)

-- the number of a text is held
held_at : (names : Names) (n : ℕ) (text : List ℕ) → slice_get names n ≡ Some text → is_held names n ≡ true
held_at names n text h = held_number n (length names) (slice_get_within names n text h)

held_more : (old new : Names) (n : ℕ) → IsFront old new → is_held old n ≡ true → is_held new n ≡ true
held_more old new n g h =
    let below : n < length old = ltb-true n (length old) h in
    let longer : length new ≡ length old + length g.0 = ap length g.1 ∙ length-append old g.0 in
    held_number n (length new) (omega (arith, below, longer))

where_more : (old new : Names) (name : Option ℕ) → IsFront old new → is_held_where old name ≡ true → is_held_where new name ≡ true
where_more old new None g h = refl
where_more old new (Some n) g h = held_more old new n g h

and_more : (a b c : Bool) → (b ≡ true → c ≡ true) → (a && b) ≡ true → (a && c) ≡ true
and_more true b c f h = f h
and_more false b c f h = h

module _ (old new : Names) (g : IsFront old new) where
  binder_more : (kind : BinderKind) (x : Binder) → IsTrue (is_known_binder old kind x) → IsTrue (is_known_binder new kind x)
  binder_more kind x h = and_more (is_plain x.mark) (is_held_where old x.name) (is_held_where new x.name) (where_more old new x.name g) h

  binders_more : (t : Core) → BindersPass (is_known_binder old) t → BindersPass (is_known_binder new) t
  binders_more (Var i) h = tt
  binders_more (Const k) h = tt
  binders_more Prop h = tt
  binders_more (Univ l) h = tt
  binders_more (Pi x a b) h = (binder_more OfFunction x h.0, binders_more a h.1, binders_more b h.2)
  binders_more (Lam x a m) h = (binder_more OfFunction x h.0, binders_more a h.1, binders_more m h.2)
  binders_more (App mark m n) h = (binders_more m h.0, binders_more n h.1)
  binders_more (Sigma x a b) h = (binder_more OfPair x h.0, binders_more a h.1, binders_more b h.2)
  binders_more (Pair x a b m n) h = (binder_more OfPair x h.0, binders_more a h.1, binders_more b h.2, binders_more m h.3, binders_more n h.4)
  binders_more (Fst m) h = binders_more m h
  binders_more (Snd m) h = binders_more m h
  binders_more (Let x m n) h = (binder_more OfLocal x h.0, binders_more m h.1, binders_more n h.2)

  body_more : (o : Option Core) → IfSome o (BindersPass (is_known_binder old)) → IfSome o (BindersPass (is_known_binder new))
  body_more None h = tt
  body_more (Some m) h = binders_more m h

  entry_more : (e : Item) → IsKnown old e → IsKnown new e
  entry_more e h = record { name = where_more old new e.name g h.name; plain = h.plain; ty = binders_more e.ty h.ty; body = body_more e.body h.body }

  known_more : (c : Contents) → AreKnown old c → AreKnown new c
  known_more c known = All-weaker (IsKnown old) (IsKnown new) entry_more c.entries known

  history_more : (states : List State) → AllByRecursion (λ state. AreKnown old state.context) states → AllByRecursion (λ state. AreKnown new state.context) states
  history_more [] all = tt
  history_more (s ∷ states) all = (known_more s.context all.0, history_more states all.1)

-- entries stay known as the numbering grows
pub throughout_more : (old new : Names) (s : Session) → IsFront old new → HoldsThroughout (AreKnown old) s → HoldsThroughout (AreKnown new) s
throughout_more old new s g known = record { now = known_more old new g (context_of s) known.now; before = history_more old new g s.history known.before }

-- the names that a list of names reads
list_held : {names : Names} {d : ℕ} {ts : List Nested} {xs : List NameAt} → NameList names d ts xs → AreHeld names (names_of xs)
list_held {names} (NameList.one {n = n} {text = text} h) = (held_at names n text h, tt)
list_held {names} (NameList.more {n = n} {text = text} h rest) = (held_at names n text h, list_held rest)

module _ (names : Names) where
  -- each binder of these names has one that is held
  binders_held : (kind : BinderKind) (mark : Mark) (ns : List ℕ) → AreHeld names ns → All (IsHeldBinder names kind) (written_binders mark ns)
  binders_held kind mark [] h = All-cons (IsHeldBinder names kind) (binder None mark) [] refl (All-nil (IsHeldBinder names kind))
  binders_held kind mark (n ∷ ns) h = each (n ∷ ns) h
    where
      each : (ms : List ℕ) → AreHeld names ms → All (IsHeldBinder names kind) (map (λ m. binder (Some m) mark) ms)
      each [] h = All-nil (IsHeldBinder names kind)
      each (m ∷ ms) h = All-cons (IsHeldBinder names kind) (binder (Some m) mark) (map (λ m. binder (Some m) mark) ms) h.0 (each ms h.1)

  -- so has each binder of a term that is read
  term_held : {d : ℕ} {form : Form} {ts : List Nested} {s : Written} → Reads names d form ts s → EachWrittenBinder (IsHeldBinder names) s
  term_held (Reads.term_ending r) = term_held r
  term_held (Reads.term_sum r) = term_held r
  term_held (Reads.arrow p a b) = (binders_held (kind_of Kind.Pi) Plain [] tt, term_held a, term_held b)
  term_held (Reads.ending_binder r) = term_held r
  term_held (Reads.apply_binder f a) = (term_held f, term_held a)
  term_held (Reads.apply_bar_binder p f a) = (term_held f, term_held a)
  term_held (Reads.hash_ending p a b) = (binders_held (kind_of Kind.Sigma) Plain [] tt, term_held a, term_held b)
  term_held (Reads.sum_spine r) = term_held r
  term_held (Reads.hash_sum p a b) = (binders_held (kind_of Kind.Sigma) Plain [] tt, term_held a, term_held b)
  term_held (Reads.spine_post r) = term_held r
  term_held (Reads.apply f a) = (term_held f, term_held a)
  term_held (Reads.apply_bar p f a) = (term_held f, term_held a)
  term_held (Reads.post_atom r) = term_held r
  term_held (Reads.first p q m) = term_held m
  term_held (Reads.second p q m) = term_held m
  term_held (Reads.name p h) = tt
  term_held (Reads.prop p) = tt
  term_held (Reads.any_type p) = tt
  term_held (Reads.type_at p q r s) = tt
  term_held (Reads.goal p q) = tt
  term_held (Reads.parens p q r) = term_held r
  term_held (Reads.pair p q r s m n a) = (term_held m, term_held n, term_held a)
  term_held (Reads.bind p q r {kind = kind} {mark = mark} {xs = xs} may list a m) = (binders_held (kind_of kind) mark (names_of xs) (list_held list), term_held a, term_held m)
  term_held (Reads.local {n = n} p q r s {text = text} h m b) = (held_at names n text h, term_held m, term_held b)

  binding_held : {ts : List Nested} {b : WrittenBinding} → ReadsBinding names ts b → AreHeld names b.names × AreKindHeld names b.kind
  binding_held (ReadsBinding.assume p q r list type) = (list_held list, term_held type)
  binding_held (ReadsBinding.define p q r s {n = n} {text = text} h body) = ((held_at names n text h, tt), term_held body)
  binding_held (ReadsBinding.define_typed p q r s t {n = n} {text = text} h body type) = ((held_at names n text h, tt), (term_held body, term_held type))

  bindings_held : {ts : List Nested} {bs : List WrittenBinding} → ReadsBindings names ts bs → AreBoundHeld names bs
  bindings_held (ReadsBindings.one h) = (binding_held h, tt)
  bindings_held (ReadsBindings.more h rest) = (binding_held h, bindings_held rest)

-- the names that a command binds
act_held : {names : Names} {ts : List Nested} {act : WrittenAct} → ReadsAct names ts act → AreBoundHeld names (bindings_of act)
act_held {names} (ReadsAct.bindings h) = bindings_held names h
act_held (ReadsAct.show h) = tt
act_held (ReadsAct.with_term TermWord.refine h) = tt
act_held (ReadsAct.with_term TermWord.claim h) = tt
act_held (ReadsAct.with_term TermWord.equiv h) = tt
act_held (ReadsAct.with_term TermWord.hnf h) = tt
act_held (ReadsAct.with_term TermWord.normal h) = tt
act_held (ReadsAct.with_term TermWord.goal h) = tt
act_held (ReadsAct.named_goal h k) = tt
act_held (ReadsAct.intros h) = tt
act_held (ReadsAct.with_number NumberWord.next) = tt
act_held (ReadsAct.with_number NumberWord.undo) = tt
act_held (ReadsAct.with_name NameWord.forget h) = tt
act_held (ReadsAct.with_name NameWord.discharge h) = tt
act_held (ReadsAct.with_name NameWord.save h) = tt
act_held (ReadsAct.alone LoneWord.assumption) = tt
act_held (ReadsAct.alone LoneWord.save) = tt
act_held (ReadsAct.alone LoneWord.kill) = tt
act_held (ReadsAct.alone LoneWord.prf) = tt
act_held (ReadsAct.alone LoneWord.ctxt) = tt
act_held (ReadsAct.alone LoneWord.explicit) = tt
act_held (ReadsAct.alone LoneWord.implicit) = tt

command_held : {names : Names} {ts : List Nested} {o : WrittenCommand} → ReadsCommand names ts o → AreBoundHeld names (bindings_of o.act)
command_held (ReadsCommand.command {t = t} {ts = ts} p act) = act_held act

-- each name that a command binds is held
pub names_held : {names : Names} {tokens : List Token} {o : WrittenCommand} → Parses names tokens o → AreBoundHeld names (bindings_of o.act)
names_held parses = command_held parses.reads

-- the names behind tokens begin with those before them
with_front : (names : Names) (l : Lexeme) → IsFront names (names_with names l)
with_front names (Name text) = by_test (has_name names text)
  where
    by_test : (b : Bool) → IsFront names (if b then names else names ++ text ∷ [])
    by_test true = ([], sym (append-nil names))
    by_test false = (text ∷ [], refl)
with_front names (Number n) = ([], sym (append-nil names))
with_front names (OfWord w) = ([], sym (append-nil names))
with_front names (OfSymbol s) = ([], sym (append-nil names))

behind_front : (names : Names) (tokens : List Token) → IsFront names (names_behind names tokens)
behind_front names [] = ([], sym (append-nil names))
behind_front names (t ∷ tokens) =
    let one = with_front names t.lexeme in
    let rest = behind_front (names_with names t.lexeme) tokens in
    (one.0 ++ rest.0, rest.1 ∙ (ap (λ (ns : Names). ns ++ rest.0) one.1 ∙ append_assoc names one.0 rest.0))

-- of two fronts of one list the shorter one is a front of the other
front_of_longer : (a b whole : Names) → IsFront a whole → IsFront b whole → length a ≤ length b → IsFront a b
front_of_longer [] b whole p q l = (b, refl)
front_of_longer (x ∷ a) [] whole p q l = absurd (omega (arith, l))
front_of_longer (x ∷ a) (y ∷ b) [] p q l = let e = p.1 in absurd (cc)
front_of_longer (x ∷ a) (y ∷ b) (z ∷ whole) p q l =
    let same : y ≡ x = let e = p.1 in let f = q.1 in cc in
    let first : whole ≡ a ++ p.0 = let e = p.1 in cc in
    let other : whole ≡ b ++ q.0 = let f = q.1 in cc in
    let rest = front_of_longer a b whole (p.0, first) (q.0, other) (omega (arith, l)) in
    (rest.0, λ z. same z ∷ rest.1 z)

kept_front : {old new : Names} → new ≡ old → IsFront old new
kept_front {old = old} e = ([], e ∙ sym (append-nil old))

-- a refusal leaves the names held
unread_front : {held left : Names} {c : CommandText} {p : Place} {cause : Cause} → length held ≤ max_names → IsUnread held left c p cause → IsFront held left
unread_front few (IsUnread.long same l) = kept_front same
unread_front few (IsUnread.lex same l r) = kept_front same
unread_front few (IsUnread.unexpected n same h u at s) = kept_front same
unread_front few (IsUnread.too_deep n same h d at) = kept_front same
unread_front {held = held} {left = left} few (IsUnread.names_full command many full front) =
    front_of_longer held left (names_behind held (grammar_tokens command.tokens)) (behind_front held (grammar_tokens command.tokens)) front (omega (arith, few, full))
unread_front {held = held} few (IsUnread.unbuilt command built at) =
    subst (IsFront held) (sym command.numbers) (behind_front held (grammar_tokens command.command.tokens))

-- texts of names stay so
with_true : (names : Names) (l : Lexeme) → AreTrueNames names → IsTrueName l → AreTrueNames (names_with names l)
with_true names (Name text) all is = by_test (has_name names text)
  where
    by_test : (b : Bool) → AreTrueNames (if b then names else names ++ text ∷ [])
    by_test true = all
    by_test false = All-push (λ text. token_of text ≡ Some (Name text)) names text all is
with_true names (Number n) all is = all
with_true names (OfWord w) all is = all
with_true names (OfSymbol s) all is = all

behind_true : (names : Names) (tokens : List Placed) → AreTrueNames names → AreTrueTokens tokens → AreTrueNames (names_behind names (grammar_tokens tokens))
behind_true names [] all tokens_true = all
behind_true names (t ∷ tokens) all tokens_true = behind_true (names_with names t.lexeme) tokens (with_true names t.lexeme all tokens_true.0) tokens_true.1

abbrev IsNameText : List ℕ → Type 0
IsNameText text = token_of text ≡ Some (Name text)

front_true : (front whole : Names) → IsFront front whole → AreTrueNames whole → AreTrueNames front
front_true front whole g all = All-front IsNameText front g.0 (subst (λ (xs : Names). All IsNameText xs) g.1 all)

command_true : {held names : Names} {c : CommandText} {o : WrittenCommand} → IsNumberedCommand held names c o → AreTrueNames held → AreTrueNames names
command_true {held = held} command all =
    subst AreTrueNames (sym command.numbers) (behind_true held command.command.tokens all (tokens_are_names command.command.lexed.lexed))

-- a command that is one keeps what is known of a session
pub command_keeps : {held names : Names} {c : CommandText} {o : WrittenCommand} {s : Session} → IsNumberedCommand held names c o → IsKnownSession held s → IsKnownSession names s
command_keeps {held = held} {names = names} {s = s} command known = record {
  true_names = command_true command known.true_names;
  known = throughout_more held names s (subst (IsFront held) (sym command.numbers) (behind_front held (grammar_tokens command.command.tokens))) known.known;
}

unread_true : {held left : Names} {c : CommandText} {p : Place} {cause : Cause} → IsUnread held left c p cause → AreTrueNames held → AreTrueNames left
unread_true (IsUnread.long same l) all = subst AreTrueNames (sym same) all
unread_true (IsUnread.lex same l r) all = subst AreTrueNames (sym same) all
unread_true (IsUnread.unexpected n same h u at s) all = subst AreTrueNames (sym same) all
unread_true (IsUnread.too_deep n same h d at) all = subst AreTrueNames (sym same) all
unread_true {held = held} {left = left} (IsUnread.names_full command many full front) all =
    front_true left (names_behind held (grammar_tokens command.tokens)) front (behind_true held command.tokens all (tokens_are_names command.lexed.lexed))
unread_true (IsUnread.unbuilt command built at) all = command_true command all

-- so does a refusal of bytes that are none
pub unread_keeps : {held left : Names} {c : CommandText} {p : Place} {cause : Cause} {s : Session} → length held ≤ max_names → IsUnread held left c p cause
    → IsKnownSession held s → IsKnownSession left s
unread_keeps {held = held} {left = left} {s = s} few unread known =
    record { true_names = unread_true unread known.true_names; known = throughout_more held left s (unread_front few unread) known.known }

pub empty_known : IsKnownSession [] empty_session
empty_known = record { true_names = All-nil (λ text. token_of text ≡ Some (Name text)); known = record { now = All-nil (IsKnown []); before = tt } }
