-- A list of tokens has at most one reading, and each of its tokens one nesting.
use Rattle.std.proofs.Common.{◌≡◌, ◌⊎◌, inl, inr, ℕ, List, [], ◌∷◌, ◌++◌, Bool, true, false, Option, Some, None, map, refl, sym, ap, ◌∙◌, subst, append_assoc}
use Rattle.lego_base.specs.Names.{AreDistinct}
use Rattle.lego_base.specs.declared.place.Place.{Place}
use Rattle.lego_term.specs.declared.binder.Mark.TheVariants.{Plain, Implicit}
use Rattle.lego_lexer.specs.Tokens.{Lexeme, Name, Number, OfWord, OfSymbol}
use Rattle.lego_lexer.specs.declared.token.Symbol.TheVariants.{OpenSquare, CloseSquare, Colon, Semicolon, Equals}
use Rattle.lego_grammar.specs.declared.surface.Kind.TheVariants.{Lambda, Pi, Sigma}
use Rattle.lego_grammar.specs.Written.{Written, WrittenKind, Assumed, Defined, WrittenBinding, WrittenAct, WrittenCommand}
use Rattle.lego_grammar.specs.Grammar.{Names, Nested, Item, item, token, symbol, sign, ReadsBinding, ReadsBindings, ReadsAct, ReadsCommand, IsContext, TermWord, NumberWord, NameWord, LoneWord}
use Rattle.lego_grammar.specs.private.Machine.{Frame, Mode, Want, Between, Done, State, state, move}
use Rattle.lego_grammar.specs.private.Runs.{class, start_of}
use Rattle.lego_grammar.proofs.Transitions.{Closes, Operand, Move, Fits, Runs}
use Rattle.lego_grammar.proofs.Complete.{kept_act, kept_binding, kept_kind, numbered-true, complete_command}
use Rattle.lego_grammar.proofs.Moving.{move_to, nest, nest_is}

item_head : {x y : Item} {xs ys : List Item} → ◌≡◌ {A = List Item} (x ∷ xs) (y ∷ ys) → x ≡ y
item_head {x} e = ap (λ l. head l) e
  where
    head : List Item → Item
    head [] = x
    head (z ∷ zs) = z

item_tail : {x y : Item} {xs ys : List Item} → ◌≡◌ {A = List Item} (x ∷ xs) (y ∷ ys) → xs ≡ ys
item_tail e = ap (λ l. tail l) e
  where
    tail : List Item → List Item
    tail [] = []
    tail (z ∷ zs) = zs

the_state : {x y : State} → Some x ≡ Some y → x ≡ y
the_state {x} e = ap (λ o. get o) e
  where
    get : Option State → State
    get (Some z) = z
    get None = x

-- the number of a name that only the shape of is followed
pub fits_zero : (names : Names) (x : Lexeme) {n : ℕ} → Fits names false x n → n ≡ 0
fits_zero names (Name text) f = f.2
fits_zero names (Number i) f = f
fits_zero names (OfWord w) f = f
fits_zero names (OfSymbol s) f = f

module _ (names names' : Names) (b : Bool) (agree : (x : Lexeme) (n n' : ℕ) → Fits names b x n → Fits names' b x n' → n ≡ n') where
  -- two runs over the same tokens are one
  pub same_run : {m m1 m2 : Mode} {fs f1 f2 : List Frame} {ts us : List Nested}
      → Runs names b m fs ts m1 f1 → Runs names' b m fs us m2 f2 → map item ts ≡ map item us → (ts ≡ us) × (state m1 f1 ≡ state m2 f2)
  same_run Runs.stay Runs.stay e = (refl, refl)
  same_run Runs.stay (Runs.go f x r) e = cc
  same_run (Runs.go f x r) Runs.stay e = cc
  same_run {m} {m2 = m2} {fs = fs} {f2 = f2} (Runs.go {m' = m'} {fs' = fs'} {t = t} {ts = ts} {n = n} f x r) (Runs.go {m' = m''} {fs' = fs''} {t = u} {ts = us} {n = k} g y q) e =
      let i : item t ≡ item u = item_head e in
      let lexemes : t.lexeme ≡ u.lexeme = ap (λ (z : Item). z.lexeme) i in
      let places : t.place ≡ u.place = ap (λ (z : Item). z.place) i in
      let numbers : n ≡ k = agree u.lexeme n k (subst (λ z. Fits names b z n) lexemes f) g in
      let same : move b (class t.lexeme) t.place n (state m fs) ≡ move b (class u.lexeme) u.place k (state m fs) = (λ z. move b (class (lexemes z)) (places z) (numbers z) (state m fs)) in
      let states : state m' fs' ≡ state m'' fs'' = the_state (sym (move_to b x) ∙ (same ∙ move_to b y)) in
      let rest = same_run r (subst (λ s. Runs names' b s.mode s.frames us m2 f2) (sym states) q) (item_tail e) in
      let nestings : t.nesting ≡ u.nesting = nest_is b x ∙ (ap (nest b m fs) lexemes ∙ sym (nest_is b y)) in
      ((λ z. (record { nesting = nestings z; place = places z; lexeme = lexemes z }) ∷ rest.0 z), rest.1)

-- Where a `]` brings the machine, and that no operand is a `;`.
module _ (b : Bool) where
  square_closes : {f : Frame} {v : Written} {fs gs : List Frame} {t : Nested} {m : Mode} → Closes b f v fs t m gs → t.lexeme ≡ OfSymbol CloseSquare → (m ≡ Want) ⊎ ((bs : List WrittenBinding) × (m ≡ Between bs))
  square_closes (Closes.domain {k = Lambda}) e = inl refl
  square_closes (Closes.domain {k = Pi}) e = inl refl
  square_closes (Closes.domain {k = Sigma}) e = inl refl
  square_closes Closes.value e = inl refl
  square_closes Closes.assumption e = inr (_, refl)
  square_closes Closes.definition e = inr (_, refl)
  square_closes Closes.stated e = inr (_, refl)
  square_closes _ e = cc

  square_operand : {fs gs : List Frame} {n : ℕ} {t : Nested} {m : Mode} → Operand b fs t n m gs → t.lexeme ≡ OfSymbol CloseSquare → ⊥
  square_operand (Operand.binder Lambda) e = cc
  square_operand (Operand.binder Pi) e = cc
  square_operand (Operand.binder Sigma) e = cc
  square_operand _ e = cc

  pub behind_square : {m m' : Mode} {fs gs : List Frame} {n : ℕ} {t : Nested} → Move b m fs t n m' gs → t.lexeme ≡ OfSymbol CloseSquare → (m' ≡ Want) ⊎ ((bs : List WrittenBinding) × (m' ≡ Between bs))
  behind_square (Move.want o) e = absurd (square_operand o e)
  behind_square (Move.level_operand o) e = absurd (square_operand o e)
  behind_square (Move.apply a o) e = absurd (square_operand o e)
  behind_square (Move.show o) e = absurd (square_operand o e)
  behind_square (Move.goal_term a o) e = absurd (square_operand o e)
  behind_square (Move.close c x) e = square_closes x e
  behind_square (Move.goal_behind x) e = behind_square x e
  behind_square (Move.signed {mark = Plain} a) e = cc
  behind_square (Move.signed {mark = Implicit} a) e = cc
  behind_square _ e = cc

  operand_done : {fs gs : List Frame} {n : ℕ} {t : Nested} {m : Mode} {act : WrittenAct} → Operand b fs t n m gs → m ≡ Done act → ⊥
  operand_done Operand.name e = cc
  operand_done Operand.prop e = cc
  operand_done Operand.any_type e = cc
  operand_done Operand.goal e = cc
  operand_done Operand.parens e = cc
  operand_done (Operand.binder k) e = cc

  want_done : {fs gs : List Frame} {n : ℕ} {t : Nested} {m : Mode} {act : WrittenAct} → Move b Want fs t n m gs → m ≡ Done act → ⊥
  want_done (Move.want o) e = operand_done o e

  between_done : {bs : List WrittenBinding} {fs gs : List Frame} {n : ℕ} {t : Nested} {m : Mode} {act : WrittenAct} → Move b (Between bs) fs t n m gs → m ≡ Done act → (xs : List WrittenBinding) × (act ≡ WrittenAct.Bindings xs)
  between_done Move.binding e = cc
  between_done {act = act} (Move.context {x = x} {bs = bs}) e = (x ∷ bs, sym (ap (λ m. get m) e))
    where
      get : Mode → WrittenAct
      get (Done d) = d
      get _ = act

-- a run in two parts
pub split : {names : Names} {b : Bool} {m m' : Mode} {fs fs' : List Frame} (ts : List Nested) {us : List Nested}
    → Runs names b m fs (ts ++ us) m' fs' → (m1 : Mode) × (f1 : List Frame) × Runs names b m fs ts m1 f1 × Runs names b m1 f1 us m' fs'
split [] r = (_, _, Runs.stay, r)
split (t ∷ ts) (Runs.go f x r) = let y = split ts r in (y.0, y.1, Runs.go f x y.2, y.3)

-- the tokens of bindings end with a `]`
binding_ends : {names : Names} {ts : List Nested} {x : WrittenBinding} → ReadsBinding names ts x → (us : List Nested) × (t : Nested) × (ts ≡ us ++ t ∷ []) × (t.lexeme ≡ OfSymbol CloseSquare)
binding_ends (ReadsBinding.assume p q r {mark} {ns} {ts} nl ra) = (symbol 0 p OpenSquare ∷ ns ++ symbol 1 q (sign mark) ∷ ts, symbol 0 r CloseSquare, refl, refl)
binding_ends (ReadsBinding.define p q r s {text = text} {ts = ts} e rm) = (symbol 0 p OpenSquare ∷ token 1 q (Name text) ∷ symbol 1 r Equals ∷ ts, symbol 0 s CloseSquare, refl, refl)
binding_ends (ReadsBinding.define_typed p q r s t {text = text} {ts = ts} {us = us} e rm ra) = (symbol 0 p OpenSquare ∷ token 1 q (Name text) ∷ symbol 1 r Equals ∷ ts ++ symbol 1 s Colon ∷ us, symbol 0 t CloseSquare, refl, refl)

bindings_end : {names : Names} {ts : List Nested} {xs : List WrittenBinding} → ReadsBindings names ts xs → (us : List Nested) × (t : Nested) × (ts ≡ us ++ t ∷ []) × (t.lexeme ≡ OfSymbol CloseSquare)
bindings_end (ReadsBindings.one r) = binding_ends r
bindings_end (ReadsBindings.more {ts} r rs) = let y = bindings_end rs in (ts ++ y.0, y.1, ap (λ l. ts ++ l) y.2 ∙ sym (append_assoc ts y.0 (y.1 ∷ [])), y.3)

-- the last two of the same tokens
two_last : (us vs : List Nested) (t s : Nested) → map item us ≡ map item ((vs ++ t ∷ []) ++ s ∷ [])
    → (ws : List Nested) × (x : Nested) × (y : Nested) × (us ≡ (ws ++ x ∷ []) ++ y ∷ []) × (x.lexeme ≡ t.lexeme)
two_last [] [] t s e = cc
two_last (u ∷ []) [] t s e = let z = item_tail e in cc
two_last (u ∷ u' ∷ []) [] t s e = ([], u, u', refl, ap (λ (z : Item). z.lexeme) (item_head e))
two_last (u ∷ u' ∷ u'' ∷ us) [] t s e = let z = item_tail (item_tail e) in cc
two_last [] (v ∷ vs) t s e = cc
two_last (u ∷ us) (v ∷ vs) t s e = let y = two_last us vs t s (item_tail e) in (u ∷ y.0, y.1, y.2, ap (λ l. u ∷ l) y.3, y.4)

-- what ends with `]` and `;` is a context command
ends_context : {names : Names} {us : List Nested} {m : Mode} {act : WrittenAct} {gs : List Frame} (vs : List Nested) (t s : Nested)
    → t.lexeme ≡ OfSymbol CloseSquare → Runs names false m [] us (Done act) gs → map item us ≡ map item ((vs ++ t ∷ []) ++ s ∷ []) → (xs : List WrittenBinding) × (act ≡ WrittenAct.Bindings xs)
ends_context {names} {us} {m} {act} {gs} vs t s l r e =
    let y = two_last us vs t s e in
    let p = split (y.0 ++ y.1 ∷ []) (subst (λ k. Runs names false m [] k (Done act) gs) y.3 r) in
    let q = split y.0 p.2 in
    last q.3 (y.4 ∙ l) p.3
  where
    finish : {m1 : Mode} {f1 : List Frame} {z : Nested} → (m1 ≡ Want) ⊎ ((bs : List WrittenBinding) × (m1 ≡ Between bs)) → Runs names false m1 f1 (z ∷ []) (Done act) gs → (xs : List WrittenBinding) × (act ≡ WrittenAct.Bindings xs)
    finish {f1 = f1} (inl h) (Runs.go {t = z} {n = k} g c Runs.stay) = absurd (want_done false (subst (λ m. Move false m f1 z k (Done act) gs) h c) refl)
    finish {f1 = f1} (inr h) (Runs.go {t = z} {n = k} g c Runs.stay) = between_done false (subst (λ m. Move false m f1 z k (Done act) gs) h.1 c) refl

    last : {m0 m1 : Mode} {f0 f1 : List Frame} {x z : Nested} → Runs names false m0 f0 (x ∷ []) m1 f1 → x.lexeme ≡ OfSymbol CloseSquare → Runs names false m1 f1 (z ∷ []) (Done act) gs
        → (xs : List WrittenBinding) × (act ≡ WrittenAct.Bindings xs)
    last (Runs.go f a Runs.stay) h r = finish (behind_square false a h) r

-- The same tokens are not both a context command and another one.
exclusive : {names : Names} {us : List Nested} (act : WrittenAct) (vs : List Nested) (t s : Nested) → t.lexeme ≡ OfSymbol CloseSquare
    → Runs names false (start_of act) [] us (Done (kept_act false act)) [] → map item us ≡ map item ((vs ++ t ∷ []) ++ s ∷ []) → IsContext act
exclusive (WrittenAct.Bindings bs) vs t s l r e = tt
exclusive _ vs t s l r e = let y = ends_context vs t s l r e in let z = y.1 in cc

-- the tokens of a context command end with `]` and `;`
pub context_ends : {names : Names} {ts : List Nested} {act : WrittenAct} → ReadsAct names ts act → IsContext act → (us : List Nested) × (t : Nested) × (ts ≡ us ++ t ∷ []) × (t.lexeme ≡ OfSymbol CloseSquare)
context_ends (ReadsAct.bindings r) h = bindings_end r
context_ends (ReadsAct.show r) h = absurd h
context_ends (ReadsAct.with_term TermWord.refine r) h = absurd h
context_ends (ReadsAct.with_term TermWord.claim r) h = absurd h
context_ends (ReadsAct.with_term TermWord.equiv r) h = absurd h
context_ends (ReadsAct.with_term TermWord.hnf r) h = absurd h
context_ends (ReadsAct.with_term TermWord.normal r) h = absurd h
context_ends (ReadsAct.with_term TermWord.goal r) h = absurd h
context_ends (ReadsAct.named_goal e r) h = absurd h
context_ends (ReadsAct.intros r) h = absurd h
context_ends (ReadsAct.with_number NumberWord.next) h = absurd h
context_ends (ReadsAct.with_number NumberWord.undo) h = absurd h
context_ends (ReadsAct.with_name NameWord.forget e) h = absurd h
context_ends (ReadsAct.with_name NameWord.discharge e) h = absurd h
context_ends (ReadsAct.with_name NameWord.save e) h = absurd h
context_ends (ReadsAct.alone LoneWord.assumption) h = absurd h
context_ends (ReadsAct.alone LoneWord.save) h = absurd h
context_ends (ReadsAct.alone LoneWord.kill) h = absurd h
context_ends (ReadsAct.alone LoneWord.prf) h = absurd h
context_ends (ReadsAct.alone LoneWord.ctxt) h = absurd h
context_ends (ReadsAct.alone LoneWord.explicit) h = absurd h
context_ends (ReadsAct.alone LoneWord.implicit) h = absurd h

pub contexts_agree : {names names' : Names} {ts us : List Nested} {c c' : WrittenCommand} → ReadsCommand names ts c → ReadsCommand names' us c' → map item us ≡ map item ts → IsContext c.act → IsContext c'.act
contexts_agree {names' = names'} {c' = c'} (ReadsCommand.command p r) q e h =
    let y = context_ends r h in
    exclusive c'.act y.0 y.1 (symbol 0 p Semicolon) y.3 (complete_command names' false q) (e ∙ ap (λ l. map item (l ++ symbol 0 p Semicolon ∷ [])) y.2)

pub same_start : (d d' : WrittenAct) → (IsContext d → IsContext d') → (IsContext d' → IsContext d) → start_of d ≡ start_of d'
same_start (WrittenAct.Bindings bs) (WrittenAct.Bindings cs) f g = refl
same_start (WrittenAct.Bindings bs) _ f g = absurd (f tt)
same_start _ (WrittenAct.Bindings cs) f g = absurd (g tt)
same_start _ _ f g = refl

kept_all : (bs : List WrittenBinding) → map (kept_binding true) bs ≡ bs
kept_all [] = refl
kept_all (x ∷ bs) = λ z. kept_one x z ∷ kept_all bs z
  where
    kept_kind_true : (a : WrittenKind) → kept_kind true a ≡ a
    kept_kind_true (Assumed m t) = refl
    kept_kind_true (Defined m None) = refl
    kept_kind_true (Defined m (Some t)) = refl

    kept_one : (x : WrittenBinding) → kept_binding true x ≡ x
    kept_one x = λ z. record { place = x.place; places = x.places; names = numbered-true x.names z; kind = kept_kind_true x.kind z }

pub kept_whole : (d : WrittenAct) → kept_act true d ≡ d
kept_whole (WrittenAct.Bindings bs) = ap WrittenAct.Bindings (kept_all bs)
kept_whole (WrittenAct.Goal None s) = refl
kept_whole (WrittenAct.Goal (Some n) s) = refl
kept_whole (WrittenAct.Intros ps ns) = ap (WrittenAct.Intros ps) (numbered-true ns)
kept_whole (WrittenAct.Save None) = refl
kept_whole (WrittenAct.Save (Some n)) = refl
kept_whole _ = refl

-- a command stands where its first token does
abbrev first_place : Place → List Nested → Place
first_place p [] = p
first_place p (t ∷ ts) = t.place

at_first : {names : Names} {ts : List Nested} {c : WrittenCommand} → ReadsCommand names ts c → (p : Place) → c.place ≡ first_place p ts
at_first (ReadsCommand.command q r) p = refl

abbrev act_in : WrittenAct → Mode → WrittenAct
act_in d (Done act) = act
act_in d _ = d

-- the same number for the same text
agree : (names : Names) → AreDistinct names → (x : Lexeme) (n n' : ℕ) → Fits names true x n → Fits names true x n' → n ≡ n'
agree names d (Name text) n n' f g = f.2 ∙ (d f.0 g.0 text f.1 g.1 ∙ sym g.2)
agree names d (Number i) n n' f g = f ∙ sym g
agree names d (OfWord w) n n' f g = f ∙ sym g
agree names d (OfSymbol s) n n' f g = f ∙ sym g

-- A list of tokens has at most one reading, in which each token has one nesting.
pub one_reading : (names : Names) {ts us : List Nested} {c c' : WrittenCommand} → AreDistinct names → ReadsCommand names ts c → ReadsCommand names us c' → map item ts ≡ map item us
    → (ts ≡ us) × (c ≡ c')
one_reading names {ts} {us} {c} {c'} d r q e =
    let start = same_start c.act c'.act (contexts_agree r q (sym e)) (contexts_agree q r e) in
    let y = same_run names names true (agree names d) (complete_command names true r) (subst (λ m. Runs names true m [] us (Done (kept_act true c'.act)) []) (sym start) (complete_command names true q)) e in
    let same_act : c.act ≡ c'.act = sym (kept_whole c.act) ∙ (ap (λ (z : State). act_in c.act z.mode) y.1 ∙ kept_whole c'.act) in
    let places : c.place ≡ c'.place = at_first r c.place ∙ (ap (first_place c.place) y.0 ∙ sym (at_first q c.place)) in
    (y.0, λ z. record { place = places z; act = same_act z })

-- Each token of a command has one nesting.
pub one_nesting : (names names' : Names) {ts us : List Nested} {c c' : WrittenCommand} → ReadsCommand names ts c → ReadsCommand names' us c' → map item ts ≡ map item us → ts ≡ us
one_nesting names names' {ts} {us} {c} {c'} r q e =
    let start = same_start c.act c'.act (contexts_agree r q (sym e)) (contexts_agree q r e) in
    let y = same_run names names' false (λ x n n' f g. fits_zero names x f ∙ sym (fits_zero names' x g)) (complete_command names false r)
    (subst (λ m. Runs names' false m [] us (Done (kept_act false c'.act)) []) (sym start) (complete_command names' false q)) e in
    y.0
