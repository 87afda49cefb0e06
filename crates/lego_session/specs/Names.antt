-- What a session keeps of the names that its entries have.
use Rattle.std.specs.Prelude.{◌≡◌, ℕ, nat_lt, Bool, true, ◌&&◌, List, length, Option, Some, None, IsTrue, IfSome, All}
use Rattle.std.specs.List.{AllByRecursion}
use Rattle.lego_term.specs.declared.binder.Binder.{Binder}
use Rattle.lego_lexer.specs.Tokens.{Name, token_of}
use Rattle.lego_grammar.specs.Grammar.{Names}
use Rattle.lego_grammar.specs.Written.{WrittenKind, Assumed, Defined, WrittenBinding}
use Rattle.lego_inference.specs.Binders.{BinderKind, BindersPass}
use Rattle.lego_inference.specs.declared.entry.Entry.{Entry as Item}
use Rattle.lego_context.specs.Contexts.{Contents}
use Rattle.lego_reading.specs.Written.{EachWrittenBinder}
use Rattle.lego_session.specs.Reading.{is_plain}
use Rattle.lego_session.specs.Sessions.{Session, HoldsThroughout}

-- each text of the numbering is a name
abbrev pub AreTrueNames : Names → Type 0
AreTrueNames names = All (λ text. token_of text ≡ Some (Name text)) names

-- the numbering has a text of this number
abbrev pub is_held : Names → ℕ → Bool
is_held names n = nat_lt n (length names)

-- so it has of an entry's or a binder's name, where there is one
abbrev pub is_held_where : Names → Option ℕ → Bool
is_held_where names None = true
is_held_where names (Some n) = is_held names n

-- the binder is plain, and its name is held
abbrev pub is_known_binder : Names → BinderKind → Binder → Bool
is_known_binder names kind x = is_plain x.mark && is_held_where names x.name

-- the entry is plain, and the names that occur in it, as its own or as a binder's, are held
pub record IsKnown (names : Names) (e : Item) : Type 0 where
  pub name : is_held_where names e.name ≡ true
  pub plain : is_plain e.mark ≡ true
  pub ty : BindersPass (is_known_binder names) e.ty
  pub body : IfSome e.body (BindersPass (is_known_binder names))

abbrev pub AreKnown : Names → Contents → Type 0
AreKnown names c = All (IsKnown names) c.entries

-- the texts of the numbering are names, and the entries of the present state and of the history's states are known by it
pub record IsKnownSession (names : Names) (s : Session) : Type 0 where
  pub true_names : AreTrueNames names
  pub known : HoldsThroughout (AreKnown names) s

-- each of these names is held
abbrev pub AreHeld : Names → List ℕ → Type 0
AreHeld names ns = AllByRecursion (λ n. is_held names n ≡ true) ns

-- the name of the binder is held, where it has one
abbrev pub IsHeldBinder : Names → BinderKind → Binder → Type 0
IsHeldBinder names kind x = IsTrue (is_held_where names x.name)

-- the names of the binders in the written terms are held
abbrev pub AreKindHeld : Names → WrittenKind → Type 0
AreKindHeld names (Assumed mark t) = EachWrittenBinder (IsHeldBinder names) t
AreKindHeld names (Defined m None) = EachWrittenBinder (IsHeldBinder names) m
AreKindHeld names (Defined m (Some t)) = EachWrittenBinder (IsHeldBinder names) m × EachWrittenBinder (IsHeldBinder names) t

-- the names that bindings make, and those in their written terms, are held
abbrev pub AreBoundHeld : Names → List WrittenBinding → Type 0
AreBoundHeld names bs = AllByRecursion (λ b. AreHeld names b.names × AreKindHeld names b.kind) bs
