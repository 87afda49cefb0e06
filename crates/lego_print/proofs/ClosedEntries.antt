-- The entries of a valid list are closed over those before them.
use Rattle.std.proofs.Common.{◌≡◌, ℕ, Bool, true, false, ◌||◌, nat_eq, if◌then◌else◌, List, [], ◌∷◌, ◌++◌, map, reverse, Option, Some, None, option_map, unwrap_or, refl, sym, ap, ◌∙◌, subst, append_assoc, arith}
use Rattle.std.specs.Prelude.{IfSome}
use Rattle.std.proofs.lemmas.List.{reverse-append}
use Rattle.lego_term.specs.Levels.{Assignment, level_value}
use Rattle.lego_term.specs.Trees.{Core, Term, Var, Const, Prop, Univ, Pi, Lam, App, Sigma, Pair, Fst, Snd, Let, at, loose}
use Rattle.lego_laws.specs.Entries.{Entry, Constant, entry_at, entries_at, entry_of, constant_of, bodies_of}
use Rattle.lego_laws.specs.Derivations.{types_of, Derives, d_prop, d_univ, d_var, d_const, d_pi_prop, d_pi, d_lam, d_app, d_sigma, d_pair, d_fst, d_snd, d_let, d_cum}
use Rattle.lego_laws.specs.Judgement.{Has}
use Rattle.lego_laws.specs.Strengthening.{MentionsOnly}
use Rattle.lego_laws.specs.Valid.{BodiesFit}
use Rattle.lego_laws.proofs.lemmas.constants.KnownConstants.{m-body}
use Rattle.lego_laws.proofs.lemmas.reduction.Valued.{loose-map}
use Rattle.lego_laws.proofs.lemmas.typing.Entries.{loose_within}
use Rattle.lego_laws.proofs.lemmas.typing.Rules.{ValidTypes, known, derived}
use Rattle.lego_print.specs.Showable.{has_entry, IsClosedOver, AreClosedInOrder, ValidEntriesAreClosed}

-- whether the list has a constant of the number
has : List Constant → ℕ → Bool
has es k = unwrap_or (option_map (λ (e : Constant). true) (constant_of es k)) false

has_typed : (es : List Constant) (k : ℕ) (a : Term) → types_of es k ≡ Some a → has es k ≡ true
unfolding has
has_typed es k a h = by_case (constant_of es k) h
  where
    by_case : (o : Option Constant) → option_map (λ (e : Constant). e.ty) o ≡ Some a → unwrap_or (option_map (λ (e : Constant). true) o) false ≡ true
    by_case None h = absurd (cc)
    by_case (Some e) h = refl

-- a term with a type mentions constants of the list alone
mentions : (es : List Constant) {g : List Term} {m a : Term} → Derives (types_of es) (bodies_of es) g m a → MentionsOnly (has es) m
mentions es d_prop = tt
mentions es d_univ = tt
mentions es (d_var l) = tt
mentions es (d_const {k = k} {a = a} e) = has_typed es k a e
mentions es (d_pi_prop d e) = (mentions es d, mentions es e)
mentions es (d_pi d e) = (mentions es d, mentions es e)
mentions es (d_lam d e) = (mentions es d, mentions es e)
mentions es (d_app d e) = (mentions es d, mentions es e)
mentions es (d_sigma d e) = (mentions es d, mentions es e)
mentions es (d_pair d e p q) = (mentions es d, mentions es e, mentions es p, mentions es q)
mentions es (d_fst d) = mentions es d
mentions es (d_snd d) = mentions es d
mentions es (d_let {m = m} {n = n} d e) = (mentions es d, m-body (has es) n m (mentions es e))
mentions es (d_cum d e l) = mentions es d

-- and so does it without values of levels
unvalued : (v : Assignment) (p q : ℕ → Bool) → ((k : ℕ) → p k ≡ q k) → (t : Core) → MentionsOnly p (at v t) → MentionsOnly q t
unvalued v p q s (Var i) h = tt
unvalued v p q s (Const k) h = sym (s k) ∙ h
unvalued v p q s Prop h = tt
unvalued v p q s (Univ l) h = tt
unvalued v p q s (Pi x a b) h = (unvalued v p q s a h.0, unvalued v p q s b h.1)
unvalued v p q s (Lam x a b) h = (unvalued v p q s a h.0, unvalued v p q s b h.1)
unvalued v p q s (App k m n) h = (unvalued v p q s m h.0, unvalued v p q s n h.1)
unvalued v p q s (Sigma x a b) h = (unvalued v p q s a h.0, unvalued v p q s b h.1)
unvalued v p q s (Pair x a b m n) h = (unvalued v p q s a h.0, unvalued v p q s b h.1, unvalued v p q s m h.2, unvalued v p q s n h.3)
unvalued v p q s (Fst m) h = unvalued v p q s m h
unvalued v p q s (Snd m) h = unvalued v p q s m h
unvalued v p q s (Let x m n) h = (unvalued v p q s m h.0, unvalued v p q s n h.1)

-- constants of two lists
has_both : (xs ys : List Constant) (k : ℕ) → has (xs ++ ys) k ≡ (has xs k || has ys k)
unfolding has
has_both [] ys k = refl
has_both (x ∷ xs) ys k = by_test (nat_eq x.number k) (has_both xs ys k)
  where
    by_test : (b : Bool) → unwrap_or (option_map (λ (e : Constant). true) (constant_of (xs ++ ys) k)) false ≡ (unwrap_or (option_map (λ (e : Constant). true) (constant_of xs k)) false || unwrap_or (option_map (λ (e : Constant). true) (constant_of ys k)) false)
        → unwrap_or (option_map (λ (e : Constant). true) (if b then Some x else constant_of (xs ++ ys) k)) false
        ≡ (unwrap_or (option_map (λ (e : Constant). true) (if b then Some x else constant_of xs k)) false || unwrap_or (option_map (λ (e : Constant). true) (constant_of ys k)) false)
    by_test true h = refl
    by_test false h = h

or_flip : (a b : Bool) → (a || b) ≡ (b || a)
or_flip true true = refl
or_flip true false = refl
or_flip false true = refl
or_flip false false = refl

-- the entries have the numbers that they have at an assignment
has_at : (v : Assignment) (es : List Entry) (k : ℕ) → has (entries_at v es) k ≡ has_entry es k
unfolding has
has_at v [] k = refl
has_at v (e ∷ es) k =
    let both = has_both (entries_at v es) (entry_at v e ∷ []) k in
    let split : entries_at v (e ∷ es) ≡ entries_at v es ++ entry_at v e ∷ [] = reverse-append (entry_at v e ∷ []) (map (entry_at v) es) in
    ap (λ (l : List Constant). has l k) split ∙ (both ∙ (ap (λ b. b || has (entry_at v e ∷ []) k) (has_at v es k) ∙ by_test (nat_eq e.number k)))
  where
    by_test : (b : Bool) → (has_entry es k || unwrap_or (option_map (λ (e : Constant). true) (if b then Some (entry_at v e) else None)) false)
        ≡ unwrap_or (option_map (λ (e : Entry). true) (if b then Some e else entry_of es k)) false
    by_test true = or_flip (has_entry es k) true
    by_test false = or_flip (has_entry es k) false

-- each constant is closed over those before it, the newest first
abbrev IsClosedAt : List Constant → Term → Type 0
IsClosedAt es t = (loose t ≡ 0) × MentionsOnly (has es) t

abbrev AreClosedAt : List Constant → Type 0
AreClosedAt [] = Unit {0}
AreClosedAt (x ∷ es) = (constant_of es x.number ≡ None) × IsClosedAt es x.ty × IfSome x.body (IsClosedAt es) × AreClosedAt es

closed_at : (es : List Constant) {m a : Term} → Derives (types_of es) (bodies_of es) [] m a → IsClosedAt es m
closed_at es d = let l = loose_within d in (omega arith, mentions es d)

all_closed : (es : List Constant) → ValidTypes es → BodiesFit es → AreClosedAt es
all_closed [] t b = tt
all_closed (x ∷ es) t b = (t.0, closed_at es t.1.1, of_body x.body b.0, all_closed es t.2 b.1)
  where
    of_body : (o : Option Term) → IfSome o (λ m. Has es [] m x.ty) → IfSome o (IsClosedAt es)
    of_body None h = tt
    of_body (Some m) h = closed_at es (derived h).0

closed_back : (xs ys : List Constant) → AreClosedAt (xs ++ ys) → AreClosedAt ys
closed_back [] ys h = h
closed_back (x ∷ xs) ys h = closed_back xs ys h.3

no_number : (es : List Entry) (k : ℕ) → has_entry es k ≡ false → entry_of es k ≡ None
no_number es k h = by_case (entry_of es k) h
  where
    by_case : (o : Option Entry) → unwrap_or (option_map (λ (e : Entry). true) o) false ≡ false → o ≡ None
    by_case None h = refl
    by_case (Some e) h = absurd (cc)

none : (cs : List Constant) (k : ℕ) → constant_of cs k ≡ None → has cs k ≡ false
unfolding has
none cs k h = ap (λ (o : Option Constant). unwrap_or (option_map (λ (e : Constant). true) o) false) h

module _ (v : Assignment) where
  of_term : (before : List Entry) (t : Core) → IsClosedAt (entries_at v before) (at v t) → IsClosedOver before t
  of_term before t h =
      let same : loose (at v t) ≡ loose t = loose-map (λ x. tt) (λ x. tt) (level_value v) t in
      (sym same ∙ h.0, unvalued v (has (entries_at v before)) (has_entry before) (has_at v before) t h.1)

  of_body : (before : List Entry) (o : Option Core) → IfSome (option_map (at v) o) (IsClosedAt (entries_at v before)) → IfSome o (IsClosedOver before)
  of_body before None h = tt
  of_body before (Some m) h = of_term before m h

  in_order : (es before all : List Entry) → all ≡ before ++ es → AreClosedAt (entries_at v all) → AreClosedInOrder before es
  in_order [] before all is h = tt
  in_order (e ∷ es) before all is h =
      let front : entries_at v all ≡ reverse (map (entry_at v) es) ++ (entry_at v e ∷ entries_at v before) = split e es before all is in
      let here = closed_back (reverse (map (entry_at v) es)) (entry_at v e ∷ entries_at v before) (subst AreClosedAt front h) in
      let new : has_entry before e.number ≡ false = sym (has_at v before e.number) ∙ none (entries_at v before) e.number here.0 in (
        no_number before e.number new,
        of_term before e.ty here.1,
        of_body before e.body here.2,
        in_order es (before ++ e ∷ []) all (is ∙ sym (append_assoc before (e ∷ []) es)) h,
      )
    where
      maps : (xs ys : List Entry) → map (entry_at v) (xs ++ ys) ≡ map (entry_at v) xs ++ map (entry_at v) ys
      maps [] ys = refl
      maps (x ∷ xs) ys = ap (λ (l : List Constant). entry_at v x ∷ l) (maps xs ys)

      split : (e : Entry) (es before all : List Entry) → all ≡ before ++ e ∷ es → entries_at v all ≡ reverse (map (entry_at v) es) ++ (entry_at v e ∷ entries_at v before)
      split e es before all is =
          ap (entries_at v) is ∙ (ap reverse (maps before (e ∷ es)) ∙ (reverse-append (map (entry_at v) before) (entry_at v e ∷ map (entry_at v) es)
          ∙ (ap (λ (l : List Constant). l ++ entries_at v before) (reverse-append (entry_at v e ∷ []) (map (entry_at v) es))
          ∙ append_assoc (reverse (map (entry_at v) es)) (entry_at v e ∷ []) (entries_at v before))))

pub valid_closed : ValidEntriesAreClosed
valid_closed v es valid = in_order v es [] es refl (all_closed (entries_at v es) (known valid.valid).types valid.bodies)
