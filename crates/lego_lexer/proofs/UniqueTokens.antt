-- The tokens of bytes, and their first fault, are unique.
use Rattle.std.proofs.Common.{◌≡◌, ℕ, zero, suc, List, [], ◌∷◌, ◌++◌, Option, Some, None, ◌⊎◌, inl, inr, refl, sym, ap, ◌∙◌, subst, arith, append_assoc}
use Rattle.std.proofs.lemmas.List.{append_cancel_left, append-nil}
use mathlib.Core.Bool.{true≢false}
use Rattle.lego_base.specs.Place.{behind}
use Rattle.lego_base.specs.declared.place.Place.{Place}
use Rattle.lego_lexer.specs.Bytes.{begins_comment, Gap, IsOpenComment, BeginsToken}
use Rattle.lego_lexer.specs.Tokens.{Lexeme, Name, Number, token_of, IsLongest, NoToken, Point, Placed, Reads, WithinLimits, AllWithinLimits, FaultAt, point_behind, placed_at}
use Rattle.lego_lexer.specs.Laws.{TokensAreUnique, FaultsAreUnique, FaultsExcludeTokens}
use Rattle.lego_lexer.specs.declared.token.LexFault.{LexFault}
use Rattle.lego_lexer.specs.declared.token.LexFault.TheVariants.{OpenComment, LongName, BigLevel}
use Rattle.lego_lexer.proofs.UniqueGaps.{Due, due_end, due_token, due_open, same_gap}

-- of two fronts of the same bytes, one is the front of the other
pub record Longer (xs ys a b : List ℕ) : Type 0 where
  pub more : List ℕ
  pub longer : ys ≡ xs ++ more
  pub rest : a ≡ more ++ b

fronts : (xs ys a b : List ℕ) → xs ++ a ≡ ys ++ b → Longer xs ys a b ⊎ Longer ys xs b a
fronts [] ys a b e = inl (record { more = ys; longer = refl; rest = e })
fronts (x ∷ xs) [] a b e = inr (record { more = x ∷ xs; longer = refl; rest = sym e })
fronts (x ∷ xs) (y ∷ ys) a b e =
    let first : x ≡ y = cc in
    let tails : xs ++ a ≡ ys ++ b = cc in
    elim (fronts xs ys a b tails) [
      | inl l ↦ inl (record { more = l.more; longer = rw first (ap (λ zs. y ∷ zs) l.longer); rest = l.rest })
      | inr l ↦ inr (record { more = l.more; longer = rw first (ap (λ zs. y ∷ zs) l.longer); rest = l.rest })
    ]

some_none : {X : Type 0} (x : X) → Some x ≡ None → ⊥
some_none x h = cc

some_equal : {X : Type 0} (x y : X) → Some x ≡ Some y → x ≡ y
some_equal x y h = cc

no_longer_one : (xs ys a b : List ℕ) (l k : Lexeme) → IsLongest xs a l → IsLongest ys b k → Longer xs ys a b → xs ≡ ys
no_longer_one xs ys a b l k p q h = by_more h.more h.longer h.rest
  where
    by_more : (more : List ℕ) → ys ≡ xs ++ more → a ≡ more ++ b → xs ≡ ys
    by_more [] e f = sym (e ∙ append-nil xs)
    by_more (c ∷ more) e f = absurd (some_none k (sym q.is_token ∙ (ap token_of e ∙ p.no_longer c more b f)))

pub same_text_longest : (xs ys a b : List ℕ) (l k : Lexeme) → IsLongest xs a l → IsLongest ys b k → xs ++ a ≡ ys ++ b → (xs ≡ ys) × (a ≡ b) × (l ≡ k)
same_text_longest xs ys a b l k p q e =
    let same : xs ≡ ys = elim (fronts xs ys a b e) [ inl h ↦ no_longer_one xs ys a b l k p q h | inr h ↦ sym (no_longer_one ys xs b a k l q p h) ] in
    (same, append_cancel_left ys a b (ap (λ zs. zs ++ a) (sym same) ∙ e), some_equal l k (sym p.is_token ∙ (ap token_of same ∙ q.is_token)))

begins_nothing : BeginsToken [] → ⊥
begins_nothing t = true≢false t.no_blank

-- a token is never a gap
no_gap : {g r : List ℕ} → Gap g → Gap r → (t : List ℕ) → BeginsToken t → r ≡ g ++ t → ⊥
no_gap {g} {r} p q t b e =
    let s = same_gap q p [] t due_end (due_token t b) (append-nil r ∙ e) in
    begins_nothing (subst BeginsToken (sym s.1) b)

points_same : (a b : Point) (g h : List ℕ) → a ≡ b → g ≡ h → point_behind a g ≡ point_behind b h
points_same a b g h e f = rw (e, f) refl

placed_same : (a b : Point) (t u : List ℕ) (l k : Lexeme) (ts us : List Placed) → a ≡ b → t ≡ u → l ≡ k → ts ≡ us → placed_at a t l ∷ ts ≡ placed_at b u k ∷ us
placed_same a b t u l k ts us e f g h = rw (e, f, g, h) refl

tokens_same : {a b e f : Point} {xs ys r s : List ℕ} {ts us : List Placed} → Reads a xs ts e r → Reads b ys us f s → Gap r → Gap s → a ≡ b → xs ≡ ys → ts ≡ us
tokens_same Reads.none Reads.none p q h k = refl
tokens_same Reads.none (Reads.token {gap = g} {text = t} {bytes = y} gap begins longest more) p q h k = absurd (no_gap gap p (t ++ y) begins (k ∙ append_assoc g t y))
tokens_same (Reads.token {gap = g} {text = t} {bytes = x} gap begins longest more) Reads.none p q h k = absurd (no_gap gap q (t ++ x) begins (sym k ∙ append_assoc g t x))
tokens_same (Reads.token {at = a} {gap = g} {text = t} {bytes = x} {lexeme = l} {tokens = ts} gap begins longest more) (Reads.token {at = b} {gap = i} {text = u} {bytes = y} {lexeme = m} {tokens = us} gap' begins' longest' more') p q h k =
    let gaps = same_gap gap gap' (t ++ x) (u ++ y) (due_token (t ++ x) begins) (due_token (u ++ y) begins') (sym (append_assoc g t x) ∙ (k ∙ append_assoc i u y)) in
    let texts = same_text_longest t u x y l m longest longest' gaps.1 in
    let here : point_behind a g ≡ point_behind b i = points_same a b g i h gaps.0 in
    let rest : ts ≡ us = tokens_same more more' p q (points_same (point_behind a g) (point_behind b i) t u here texts.0) texts.1 in
    placed_same (point_behind a g) (point_behind b i) t u l m ts us here texts.0 texts.2 rest

pub tokens_unique : TokensAreUnique
tokens_unique place bytes one other p q = tokens_same p.reads q.reads p.blank q.blank refl refl

-- how bytes end behind their last token: with a gap, or with a fault behind one
data Ends (place : Place) : List ℕ → Option LexFault → Type 0 where
  blank : {gap : List ℕ} → Gap gap → Ends place gap None
  fault : {gap rest : List ℕ} {f : LexFault} → Gap gap → FaultAt (behind place gap) rest f → Ends place (gap ++ rest) (Some f)

due_fault : {p : Place} {xs : List ℕ} {f : LexFault} → FaultAt p xs f → Due xs
due_fault (FaultAt.bad_byte {b = b} {bytes = bytes} t n) = due_token (b ∷ bytes) t
due_fault (FaultAt.open_comment {bytes = bytes} o) = due_open bytes o
due_fault (FaultAt.long_name {text = t} {bytes = x} b l h) = due_token (t ++ x) b
due_fault (FaultAt.big_level {text = t} {bytes = x} b l h) = due_token (t ++ x) b

no_fault_at_end : {p : Place} {xs : List ℕ} {f : LexFault} → FaultAt p xs f → xs ≡ [] → ⊥
no_fault_at_end (FaultAt.bad_byte t n) e = cc
no_fault_at_end (FaultAt.open_comment o) e = true≢false (sym o.begins ∙ ap begins_comment e)
no_fault_at_end (FaultAt.long_name b l h) e = begins_nothing (subst BeginsToken e b)
no_fault_at_end (FaultAt.big_level b l h) e = begins_nothing (subst BeginsToken e b)

open_no_token : (xs ys : List ℕ) → IsOpenComment xs → BeginsToken ys → xs ≡ ys → ⊥
open_no_token xs ys o t e = true≢false (sym o.begins ∙ (ap begins_comment e ∙ t.no_comment))

none_no_token : (xs t x : List ℕ) (l : Lexeme) → NoToken xs → IsLongest t x l → xs ≡ t ++ x → ⊥
none_no_token xs t x l n p e = some_none l (sym p.is_token ∙ n t x e)

name_no_number : (t : List ℕ) (n : ℕ) → Name t ≡ Number n → ⊥
name_no_number t n e = cc

fault_no_token : {p : Place} {xs : List ℕ} {f : LexFault} (t x : List ℕ) (l : Lexeme) → FaultAt p xs f → BeginsToken (t ++ x) → IsLongest t x l → WithinLimits l → xs ≡ t ++ x → ⊥
fault_no_token t x l (FaultAt.bad_byte {b = b} {bytes = bytes} s n) begins longest small e = none_no_token (b ∷ bytes) t x l n longest e
fault_no_token t x l (FaultAt.open_comment {bytes = bytes} o) begins longest small e = open_no_token bytes (t ++ x) o begins e
fault_no_token t x l (FaultAt.long_name {text = u} {bytes = y} b p h) begins longest small e =
    let same = same_text_longest u t y x (Name u) l p longest e in
    let short : WithinLimits (Name u) = subst WithinLimits (sym same.2) small in
    omega arith
fault_no_token t x l (FaultAt.big_level {text = u} {bytes = y} {n = n} b p h) begins longest small e =
    let same = same_text_longest u t y x (Number n) l p longest e in
    let short : WithinLimits (Number n) = subst WithinLimits (sym same.2) small in
    omega arith

fault_same : {p q : Place} {xs ys : List ℕ} {f g : LexFault} → FaultAt p xs f → FaultAt q ys g → p ≡ q → xs ≡ ys → f ≡ g
fault_same {p} {q} (FaultAt.bad_byte {b = b} {bytes = x} t n) (FaultAt.bad_byte {b = c} {bytes = y} u m) h e = let first : b ≡ c = cc in rw (h, first) refl
fault_same (FaultAt.bad_byte {b = b} {bytes = x} t n) (FaultAt.open_comment {bytes = y} o) h e = absurd (open_no_token y (b ∷ x) o t (sym e))
fault_same (FaultAt.bad_byte {b = b} {bytes = x} t n) (FaultAt.long_name {text = u} {bytes = y} c l k) h e = absurd (none_no_token (b ∷ x) u y (Name u) n l e)
fault_same (FaultAt.bad_byte {b = b} {bytes = x} t n) (FaultAt.big_level {text = u} {bytes = y} {n = v} c l k) h e = absurd (none_no_token (b ∷ x) u y (Number v) n l e)
fault_same (FaultAt.open_comment {bytes = x} o) (FaultAt.bad_byte {b = c} {bytes = y} u m) h e = absurd (open_no_token x (c ∷ y) o u e)
fault_same (FaultAt.open_comment o) (FaultAt.open_comment k) h e = ap OpenComment h
fault_same (FaultAt.open_comment {bytes = x} o) (FaultAt.long_name {text = u} {bytes = y} c l k) h e = absurd (open_no_token x (u ++ y) o c e)
fault_same (FaultAt.open_comment {bytes = x} o) (FaultAt.big_level {text = u} {bytes = y} c l k) h e = absurd (open_no_token x (u ++ y) o c e)
fault_same (FaultAt.long_name {text = t} {bytes = x} b l k) (FaultAt.bad_byte {b = c} {bytes = y} u m) h e = absurd (none_no_token (c ∷ y) t x (Name t) m l (sym e))
fault_same (FaultAt.long_name {text = t} {bytes = x} b l k) (FaultAt.open_comment {bytes = y} o) h e = absurd (open_no_token y (t ++ x) o b (sym e))
fault_same (FaultAt.long_name b l k) (FaultAt.long_name c m j) h e = ap LongName h
fault_same (FaultAt.long_name {text = t} {bytes = x} b l k) (FaultAt.big_level {text = u} {bytes = y} {n = v} c m j) h e =
    absurd (name_no_number t v (same_text_longest t u x y (Name t) (Number v) l m e).2)
fault_same (FaultAt.big_level {text = t} {bytes = x} {n = v} b l k) (FaultAt.bad_byte {b = c} {bytes = y} u m) h e = absurd (none_no_token (c ∷ y) t x (Number v) m l (sym e))
fault_same (FaultAt.big_level {text = t} {bytes = x} b l k) (FaultAt.open_comment {bytes = y} o) h e = absurd (open_no_token y (t ++ x) o b (sym e))
fault_same (FaultAt.big_level {text = t} {bytes = x} {n = v} b l k) (FaultAt.long_name {text = u} {bytes = y} c m j) h e =
    absurd (name_no_number u v (sym (same_text_longest t u x y (Number v) (Name u) l m e).2))
fault_same (FaultAt.big_level b l k) (FaultAt.big_level c m j) h e = ap BigLevel h

ends_same : {p q : Place} {r s : List ℕ} {o i : Option LexFault} → Ends p r o → Ends q s i → p ≡ q → r ≡ s → o ≡ i
ends_same (Ends.blank g) (Ends.blank k) h e = refl
ends_same (Ends.blank {gap = r} g) (Ends.fault {gap = x} {rest = t} k f) h e =
    absurd (no_fault_at_end f (sym (same_gap g k [] t due_end (due_fault f) (append-nil r ∙ e)).1))
ends_same (Ends.fault {gap = x} {rest = t} k f) (Ends.blank {gap = r} g) h e =
    absurd (no_fault_at_end f (sym (same_gap g k [] t due_end (due_fault f) (append-nil r ∙ sym e)).1))
ends_same (Ends.fault {gap = x} {rest = t} g f) (Ends.fault {gap = y} {rest = u} k j) h e =
    let gaps = same_gap g k t u (due_fault f) (due_fault j) e in
    ap (λ v. Some v) (fault_same f j (behind_same _ _ x y h gaps.0) gaps.1)
  where
    behind_same : (p q : Place) (x y : List ℕ) → p ≡ q → x ≡ y → behind p x ≡ behind q y
    behind_same p q x y a b = rw (a, b) refl

ends_no_token : {p : Place} {r g : List ℕ} {o : Option LexFault} (t x : List ℕ) (l : Lexeme) → Ends p r o → Gap g → BeginsToken (t ++ x) → IsLongest t x l → WithinLimits l
    → r ≡ g ++ (t ++ x) → ⊥
ends_no_token t x l (Ends.blank k) gap begins longest small e = no_gap gap k (t ++ x) begins e
ends_no_token t x l (Ends.fault {gap = y} {rest = u} k f) gap begins longest small e =
    fault_no_token t x l f begins longest small (same_gap k gap u (t ++ x) (due_fault f) (due_token (t ++ x) begins) e).1

first_within : (t : Placed) (ts : List Placed) → AllWithinLimits (t ∷ ts) → WithinLimits t.lexeme
first_within t ts all = all zero t (omega arith)

rest_within : (t : Placed) (ts : List Placed) → AllWithinLimits (t ∷ ts) → AllWithinLimits ts
rest_within t ts all i d h = all (suc i) d (omega arith)

outcome_same : {a b e f : Point} {xs ys r s : List ℕ} {ts us : List Placed} {o i : Option LexFault}
    → Reads a xs ts e r → AllWithinLimits ts → Ends e.place r o → Reads b ys us f s → AllWithinLimits us → Ends f.place s i → a ≡ b → xs ≡ ys → o ≡ i
outcome_same Reads.none w p Reads.none v q h k = ends_same p q (ap (λ x. x.place) h) k
outcome_same Reads.none w p (Reads.token {at = b} {gap = g} {text = t} {bytes = y} {lexeme = l} {tokens = us} gap begins longest more) v q h k =
    absurd (ends_no_token t y l p gap begins longest (first_within (placed_at (point_behind b g) t l) us v) (k ∙ append_assoc g t y))
outcome_same (Reads.token {at = a} {gap = g} {text = t} {bytes = x} {lexeme = l} {tokens = ts} gap begins longest more) w p Reads.none v q h k =
    absurd (ends_no_token t x l q gap begins longest (first_within (placed_at (point_behind a g) t l) ts w) (sym k ∙ append_assoc g t x))
outcome_same (Reads.token {at = a} {gap = g} {text = t} {bytes = x} {lexeme = l} {tokens = ts} gap begins longest more) w p (Reads.token {at = b} {gap = j} {text = u} {bytes = y} {lexeme = m} {tokens = us} gap' begins' longest' more') v q h k =
    let gaps = same_gap gap gap' (t ++ x) (u ++ y) (due_token (t ++ x) begins) (due_token (u ++ y) begins') (sym (append_assoc g t x) ∙ (k ∙ append_assoc j u y)) in
    let texts = same_text_longest t u x y l m longest longest' gaps.1 in
    let here : point_behind a g ≡ point_behind b j = points_same a b g j h gaps.0 in
    outcome_same more (rest_within (placed_at (point_behind a g) t l) ts w) p more' (rest_within (placed_at (point_behind b j) u m) us v) q (points_same (point_behind a g) (point_behind b j) t u here texts.0) texts.1

pub faults_unique : FaultsAreUnique
faults_unique place bytes one other p q =
    some_equal one other (outcome_same p.reads p.within (Ends.fault p.blank p.cause) q.reads q.within (Ends.fault q.blank q.cause) refl refl)

pub faults_exclude_tokens : FaultsExcludeTokens
faults_exclude_tokens place bytes tokens f t all p =
    some_none f (sym (outcome_same t.reads all (Ends.blank t.blank) p.reads p.within (Ends.fault p.blank p.cause) refl refl))
