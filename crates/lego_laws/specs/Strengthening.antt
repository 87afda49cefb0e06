-- Constants that a judgement can do without.
use Rattle.std.specs.Prelude.{ℕ, Bool, List, [], ◌∷◌, IsTrue, IfSome}
use Rattle.std.specs.List.{AllByRecursion}
use Rattle.lego_term.specs.Trees.{Tree, Term, Var, Const, Prop, Univ, Pi, Lam, App, Sigma, Pair, Fst, Snd, Let}
use Rattle.lego_laws.specs.Entries.{Constant}
use Rattle.lego_laws.specs.Judgement.{Has}
use Rattle.lego_laws.specs.Valid.{AreValid}

-- the term mentions kept constants alone
abbrev pub MentionsOnly : {B M L : Type 0} → (ℕ → Bool) → Tree B M L → Type 0
MentionsOnly p (Var i) = Unit {0}
MentionsOnly p (Const k) = IsTrue (p k)
MentionsOnly p Prop = Unit {0}
MentionsOnly p (Univ l) = Unit {0}
MentionsOnly p (Pi x a r) = MentionsOnly p a × MentionsOnly p r
MentionsOnly p (Lam x a m) = MentionsOnly p a × MentionsOnly p m
MentionsOnly p (App k m n) = MentionsOnly p m × MentionsOnly p n
MentionsOnly p (Sigma x a r) = MentionsOnly p a × MentionsOnly p r
MentionsOnly p (Let x a r) = MentionsOnly p a × MentionsOnly p r
MentionsOnly p (Pair x a r m n) = MentionsOnly p a × MentionsOnly p r × MentionsOnly p m × MentionsOnly p n
MentionsOnly p (Fst m) = MentionsOnly p m
MentionsOnly p (Snd m) = MentionsOnly p m

-- the type and the body of the constant mention kept constants alone
abbrev pub EntryMentions : (ℕ → Bool) → Constant → Type 0
EntryMentions p e = MentionsOnly p e.ty × IfSome e.body (λ m. MentionsOnly p m)

-- the second list is the first without constants that are not kept
pub data Drops (p : ℕ → Bool) : List Constant → List Constant → Type 0 where
  nothing : Drops p [] []
  keeps : {e : Constant} {es es' : List Constant} → IsTrue (p e.number) → EntryMentions p e → Drops p es es' → Drops p (e ∷ es) (e ∷ es')
  drops : {e : Constant} {es es' : List Constant} → (IsTrue (p e.number) → ⊥) → Drops p es es' → Drops p (e ∷ es) es'

-- constants that nothing kept mentions can be dropped: the list stays valid
abbrev pub DroppedListsAreValid : Type 0
DroppedListsAreValid = (p : ℕ → Bool) (es es' : List Constant) → AreValid es → Drops p es es' → AreValid es'

-- a judgement that mentions kept constants alone stands over them
abbrev pub Strengthening : Type 0
Strengthening =
    (p : ℕ → Bool) (es es' : List Constant) → AreValid es → Drops p es es' → (g : List Term) (m a : Term)
    → AllByRecursion (λ t. MentionsOnly p t) g → MentionsOnly p m → MentionsOnly p a → Has es g m a → Has es' g m a
