-- The entries of a context whose names are held can be shown.
use Rattle.std.proofs.Common.{◌≡◌, ℕ, suc, ◌+◌, ◌<◌, ◌≤◌, nat_eq, Bool, true, false, ◌&&◌, get_or, List, [], ◌∷◌, ◌++◌, take, length, Option, Some, None, option_map, unwrap_or, IfSome, refl, sym, ap, ◌∙◌, subst, arith, append_assoc, length-append}
use Rattle.std.specs.Prelude.{All, IsSome, IsTrue, slice_get}
use Rattle.std.specs.List.{AllByRecursion}
use Rattle.std.proofs.lemmas.Bool.Decides.{nat_tests}
use Rattle.std.proofs.lemmas.List.Elements.{All-get_or, filter_map-append}
use Rattle.std.proofs.lemmas.Bool.{ltb-true, false≢true}
use Rattle.std.proofs.lemmas.Option.{slice_get_within, slice_get-get_or, get_or_from_slice_get}
use Rattle.lego_term.specs.Levels.{Assignment}
use Rattle.lego_term.specs.declared.binder.Binder.{Binder}
use Rattle.lego_term.specs.declared.binder.Mark.{Mark}
use Rattle.lego_term.specs.declared.binder.Mark.TheVariants.{Plain, Implicit}
use Rattle.lego_lexer.specs.Tokens.{Name, token_of}
use Rattle.lego_term.specs.Trees.{Core, Var, Const, Prop, Univ, Pi, Lam, App, Sigma, Pair, Fst, Snd, Let, loose}
use Rattle.lego_laws.specs.Entries.{Entry, entry_of}
use Rattle.lego_laws.specs.Strengthening.{MentionsOnly}
use Rattle.lego_grammar.specs.Grammar.{Names}
use Rattle.lego_grammar.specs.Scopes.{entry_named}
use Rattle.lego_level.specs.Graphs.{Differ}
use Rattle.lego_inference.specs.declared.entry.Entry.{Entry as Item}
use Rattle.lego_inference.specs.Binders.{BinderKind, OfFunction, OfPair, OfLocal, BindersPass}
use Rattle.lego_inference.specs.Calls.{IsTermOver}
use Rattle.lego_inference.specs.Entries.{laws_entry, laws_entries, numbers_of}
use Rattle.lego_inference.specs.Locals.{NamesEntries}
use Rattle.lego_context.specs.Contexts.{Contents, IsContext, IsOverFront, AreOverFronts}
use Rattle.lego_context.specs.Entries.{names_of, IsEntry, IsNoHole, HasNoHole}
use Rattle.lego_context.proofs.EntryLemmas.{laws-push}
use Rattle.lego_print.specs.Showable.{IsName, IsNamed, IsNamedAndPlain, AreBindersShowable, IsSmallEntry, has_entry, IsShowableTerm, IsShowableEntry, AreShowable}
use Rattle.lego_session.specs.Names.{AreTrueNames, is_held, is_held_where, is_known_binder, IsKnown, AreKnown}
use Rattle.lego_session.specs.Reading.{is_plain}
use Rattle.lego_session.proofs.NamedLemmas.{has_name}

-- a name that is held is one
is_name : (names : Names) (n : ℕ) → AreTrueNames names → is_held names n ≡ true → IsName names n
is_name names n true_names h =
    let below : n < length names = ltb-true n (length names) h in
    let there : slice_get names n ≡ Some (get_or names n []) = slice_get-get_or names n [] below in
    record { text = get_or names n []; held = there; is_name = All-get_or (λ text. token_of text ≡ Some (Name text)) names n [] below true_names }

name_where : (names : Names) → AreTrueNames names → (name : Option ℕ) → is_held_where names name ≡ true → IfSome name (IsName names)
name_where names true_names None h = tt
name_where names true_names (Some n) h = is_name names n true_names h

the_name : (names : Names) (n : ℕ) → AreTrueNames names → (name : Option ℕ) → name ≡ Some n → is_held_where names name ≡ true → IsName names n
the_name names n true_names name is h = is_name names n true_names (subst (λ (o : Option ℕ). is_held_where names o ≡ true) is h)

is_plain_mark : (mark : Mark) → is_plain mark ≡ true → mark ≡ Plain
is_plain_mark Plain h = refl
is_plain_mark Implicit h = cc

both : (a b : Bool) → (a && b) ≡ true → (a ≡ true) × (b ≡ true)
both true b h = (refl, h)
both false b h = absurd (false≢true h)

module _ (names : Names) (true_names : AreTrueNames names) where
  plain : (kind : BinderKind) (x : Binder) → IsTrue (is_known_binder names kind x) → IsNamedAndPlain names x
  plain kind x h =
      let parts = both (is_plain x.mark) (is_held_where names x.name) h in
      (name_where names true_names x.name parts.1, is_plain_mark x.mark parts.0)

  named : (kind : BinderKind) (x : Binder) → IsTrue (is_known_binder names kind x) → IsNamed names x
  named kind x h = (plain kind x h).0

  -- binders that are known can be shown
  binders : (t : Core) → BindersPass (is_known_binder names) t → AreBindersShowable names t
  binders (Var i) h = tt
  binders (Const k) h = tt
  binders Prop h = tt
  binders (Univ l) h = tt
  binders (Pi x a b) h = (named OfFunction x h.0, binders a h.1, binders b h.2)
  binders (Lam x a m) h = (named OfFunction x h.0, binders a h.1, binders m h.2)
  binders (App mark m n) h = (binders m h.0, binders n h.1)
  binders (Sigma x a b) h = (plain OfPair x h.0, binders a h.1, binders b h.2)
  binders (Pair x a b m n) h = (plain OfPair x h.0, binders a h.1, binders b h.2, binders m h.3, binders n h.4)
  binders (Fst m) h = binders m h
  binders (Snd m) h = binders m h
  binders (Let x m n) h = (plain OfLocal x h.0, binders m h.1, binders n h.2)

has_one : (o : Option Entry) → IsSome o → IsTrue (unwrap_or (option_map (λ (e : Entry). true) o) false)
has_one None h = absurd (false≢true h)
has_one (Some e) h = refl

-- the constants of a term are among the entries
mentions : (es : List Entry) (t : Core) → NamesEntries es t → MentionsOnly (has_entry es) t
mentions es (Var i) h = tt
mentions es (Const k) h = has_one (entry_of es k) h
mentions es Prop h = tt
mentions es (Univ l) h = tt
mentions es (Pi x a b) h = (mentions es a h.1, mentions es b h.2)
mentions es (Lam x a m) h = (mentions es a h.1, mentions es m h.2)
mentions es (App mark m n) h = (mentions es m h.0, mentions es n h.1)
mentions es (Sigma x a b) h = (mentions es a h.1, mentions es b h.2)
mentions es (Pair x a b m n) h = (mentions es a h.1, mentions es b h.2, mentions es m h.3, mentions es n h.4)
mentions es (Fst m) h = mentions es m h
mentions es (Snd m) h = mentions es m h
mentions es (Let x m n) h = (mentions es m h.1, mentions es n h.2)

-- a known term over entries can be shown behind them
term : (names : Names) → AreTrueNames names → (before : List Item) (levels : ℕ) (t : Core) → IsTermOver before [] levels t
    → BindersPass (is_known_binder names) t → IsShowableTerm names (laws_entries before) t
term names true_names before levels t over known = record {
  closed = let h : loose t ≤ 0 = over.variables in omega (arith, h);
  mentions = mentions (laws_entries before) t over.names;
  binders = binders names true_names t known;
}

body : (names : Names) → AreTrueNames names → (before : List Item) (levels : ℕ) (o : Option Core) → IfSome o (λ m. IsTermOver before [] levels m)
    → IfSome o (BindersPass (is_known_binder names)) → IfSome o (IsShowableTerm names (laws_entries before))
body names true_names before levels None over known = tt
body names true_names before levels (Some m) over known = term names true_names before levels m over known

body_plain : {P : Type 0} (o : Option Core) → P → IfSome o (λ m. P)
body_plain None p = tt
body_plain (Some m) p = p

-- what stands at a place of a list
at_place : {X : Type 0} (P : X → Type 0) (xs : List X) (k : ℕ) (x : X) → slice_get xs k ≡ Some x → All P xs → P x
at_place P xs k x h all = subst P (get_or_from_slice_get xs k x x h) (All-get_or P xs k x (slice_get_within xs k x h) all)

behind_front : {X : Type 0} (xs : List X) (x : X) (ys : List X) → slice_get (xs ++ x ∷ ys) (length xs) ≡ Some x
behind_front [] x ys = refl
behind_front (y ∷ xs) x ys = behind_front xs x ys

take_front : {X : Type 0} (xs ys : List X) → take (length xs) (xs ++ ys) ≡ xs
take_front [] ys = refl
take_front (x ∷ xs) ys = ap (λ zs. x ∷ zs) (take_front xs ys)

-- items that differ: those before one differ from it
apart_at : {X : Type 0} (x : X) (xs : List X) (y : X) (ys : List X) → AllByRecursion (λ z. x ≡ z → ⊥) (xs ++ y ∷ ys) → x ≡ y → ⊥
apart_at x [] y ys h = h.0
apart_at x (z ∷ xs) y ys h = apart_at x xs y ys h.1

differ_before : {X : Type 0} (xs : List X) (y : X) (ys : List X) → Differ (xs ++ y ∷ ys) → AllByRecursion (λ x. x ≡ y → ⊥) xs
differ_before [] y ys h = tt
differ_before (x ∷ xs) y ys h = (apart_at x xs y ys h.0, differ_before xs y ys h.1)

-- no entry has a name, or a number, that differs from all of them
no_such_name : (es : List Item) (n : ℕ) → AllByRecursion (λ x. x ≡ n → ⊥) (names_of es) → entry_named (laws_entries es) n ≡ None
no_such_name [] n h = refl
no_such_name (e ∷ es) n h = by_name e.name refl (no_such_name es n)
  where
    by_name : (o : Option ℕ) → e.name ≡ o → (AllByRecursion (λ x. x ≡ n → ⊥) (names_of es) → entry_named (laws_entries es) n ≡ None)
        → entry_named (laws_entries (e ∷ es)) n ≡ None
    by_name None is rest =
        let others : AllByRecursion (λ x. x ≡ n → ⊥) (names_of es) = rw is at h in
        rw is (rest others)
    by_name (Some k) is rest =
        let all : AllByRecursion (λ x. x ≡ n → ⊥) (k ∷ names_of es) = rw is at h in
        by_test all (nat_eq n k) refl
      where
        by_test : AllByRecursion (λ x. x ≡ n → ⊥) (k ∷ names_of es) → (b : Bool) → nat_eq n k ≡ b → entry_named (laws_entries (e ∷ es)) n ≡ None
        by_test all true t = absurd (all.0 (grind (arith, nat_tests)))
        by_test all false t = rw (is, t) (rest all.1)

no_such_number : (es : List Item) (n : ℕ) → AllByRecursion (λ x. x ≡ n → ⊥) (numbers_of es) → entry_of (laws_entries es) n ≡ None
no_such_number [] n h = refl
no_such_number (e ∷ es) n h = by_test (nat_eq e.number n) refl (no_such_number es n h.1)
  where
    by_test : (b : Bool) → nat_eq e.number n ≡ b → entry_of (laws_entries es) n ≡ None → entry_of (laws_entries (e ∷ es)) n ≡ None
    by_test true t rest = absurd (h.0 (grind (arith, nat_tests)))
    by_test false t rest = rw t rest

count_laws : (es : List Item) → length (laws_entries es) ≡ length es
count_laws [] = refl
count_laws (e ∷ es) = ap suc (count_laws es)

numbers_split : (es ds : List Item) → numbers_of (es ++ ds) ≡ numbers_of es ++ numbers_of ds
numbers_split [] ds = refl
numbers_split (e ∷ es) ds = ap (λ ns. e.number ∷ ns) (numbers_split es ds)

module _ (names : Names) (c : Contents) (v : Assignment) (context : IsContext c) (over : AreOverFronts c) (none : HasNoHole c.entries) (true_names : AreTrueNames names)
    (known : AreKnown names c)
    (small : All (λ e. IsSmallEntry v (laws_entry e)) c.entries) where
  module _ (before : List Item) (e : Item) (es : List Item) (whole : c.entries ≡ before ++ e ∷ es) where
    there : slice_get c.entries (length before) ≡ Some e
    there = ap (λ (xs : List Item). slice_get xs (length before)) whole ∙ behind_front before e es

    over_front : IsOverFront before c.levels e
    over_front =
        subst (λ (xs : List Item). IsOverFront xs c.levels e) (ap (take (length before)) whole ∙ take_front before (e ∷ es))
        (over (length before) e there)

    is_known : IsKnown names e
    is_known = at_place (IsKnown names) c.entries (length before) e there known

    is_named : (n : ℕ) × (e.name ≡ Some n)
    is_named = has_name e (at_place IsEntry c.entries (length before) e there context.kinds)
        (at_place (λ (x : Item). IsNoHole x.kind) c.entries (length before) e there none)

    names_here : (n : ℕ) → e.name ≡ Some n → names_of c.entries ≡ names_of before ++ n ∷ names_of es
    names_here n is =
        ap names_of whole ∙ filter_map-append (λ (x : Item). x.name) before (e ∷ es) ∙ ap (λ ns. names_of before ++ ns) (rw is refl)

    numbers_here : numbers_of c.entries ≡ numbers_of before ++ e.number ∷ numbers_of es
    numbers_here = ap numbers_of whole ∙ numbers_split before (e ∷ es)

    -- the entry can be shown behind those before it
    entry : IsShowableEntry v names (laws_entries before) (laws_entry e)
    entry = record {
      name = is_named.0;
      named = is_named.1;
      is_name = the_name names is_named.0 true_names e.name is_named.1 is_known.name;
      new_name = no_such_name before is_named.0 (differ_before (names_of before) is_named.0 (names_of es) (subst (λ (ns : List ℕ). Differ ns) (names_here is_named.0 is_named.1) context.names));
      new_number = no_such_number before e.number (differ_before (numbers_of before) e.number (numbers_of es) (subst (λ (ns : List ℕ). Differ ns) numbers_here context.numbers));
      few = let n : length c.entries ≡ length before + suc (length es) = ap length whole ∙ length-append before (e ∷ es) in omega (arith, n, context.few_entries, count_laws before);
      plain = body_plain e.body (is_plain_mark e.mark is_known.plain);
      ty = term names true_names before c.levels e.ty over_front.type is_known.ty;
      body = body names true_names before c.levels e.body over_front.body is_known.body;
      small = at_place (λ (x : Item). IsSmallEntry v (laws_entry x)) c.entries (length before) e there small;
    }

  from_there : (before es : List Item) → c.entries ≡ before ++ es → AreShowable v names (laws_entries before) (laws_entries es)
  from_there before [] whole = tt
  from_there before (e ∷ es) whole = (
    entry before e es whole,
    subst (λ (xs : List Entry). AreShowable v names xs (laws_entries es)) (laws-push before e)
        (from_there (before ++ e ∷ []) es (whole ∙ sym (append_assoc before (e ∷ []) es))),
  )

  -- all entries can be shown
  pub can_be_shown : AreShowable v names [] (laws_entries c.entries)
  can_be_shown = from_there [] c.entries refl
