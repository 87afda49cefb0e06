-- The cuts of bytes are unique.
use Rattle.std.proofs.Common.{◌≡◌, ◌≢◌, ℕ, true, false, ◌&&◌, nat_eq, List, [], ◌∷◌, ◌++◌, refl, sym, ap, ◌∙◌, subst, append_assoc}
use Rattle.std.proofs.lemmas.List.{append_cancel_right, append-nil}
use mathlib.Core.Bool.{true≢false}
use Rattle.lego_base.specs.Place.{behind}
use Rattle.lego_base.specs.declared.place.Place.{Place}
use Rattle.lego_lexer.specs.Bytes.{begins_comment, Gap, IsComment, IsOpenComment, BeginsToken}
use Rattle.lego_lexer.specs.Commands.{Unbroken, First, Begins, cut_of, Cuts, CommandText, Ending}
use Rattle.lego_lexer.specs.Laws.{CutsAreUnique, ScriptsAreUnique}
use Rattle.lego_lexer.proofs.TokenLemmas.{and_false, test_equal}
use Rattle.lego_lexer.proofs.CommandLemmas.{gap_then, gap_unbroken}
use Rattle.lego_lexer.proofs.UniqueGaps.{due_end, due_token, due_open, same_gap, same_comment, begins_before}

-- no unbroken byte or comment stands first, nor the `*` of a `(*`
pub record Halt (bytes : List ℕ) : Type 0 where
  pub no_byte : (b : ℕ) (rest : List ℕ) → b ≢ 59 → begins_comment bytes ≡ false → bytes ≡ b ∷ rest → ⊥
  pub no_comment : (c rest : List ℕ) → IsComment c → bytes ≡ c ++ rest → ⊥
  pub no_star : (b : ℕ) (rest : List ℕ) → bytes ≡ b ∷ rest → nat_eq b 42 ≡ false

halt_end : Halt []
halt_end = record { no_byte = λ b rest n f e. cc; no_comment = λ c rest h e. due_end.no_comment c rest h e; no_star = λ b rest e. absurd (cc) }

pub halt_semicolon : (bytes : List ℕ) → Halt (59 ∷ bytes)
halt_semicolon bytes = record {
  no_byte = λ b rest n f e. n (cc);
  no_comment = λ c rest h e. true≢false (sym (begins_before c rest h.begins) ∙ (ap begins_comment (sym e) ∙ semicolon_begins_none bytes));
  no_star = λ b rest e. let first : 59 ≡ b = cc in ap (λ x. nat_eq x 42) (sym first);
}
  where
    semicolon_begins_none : (xs : List ℕ) → begins_comment (59 ∷ xs) ≡ false
    semicolon_begins_none [] = refl
    semicolon_begins_none (x ∷ xs) = refl

open_first : (b : ℕ) (rest : List ℕ) → begins_comment (b ∷ rest) ≡ true → nat_eq b 42 ≡ false
open_first b [] h = absurd (true≢false (sym h))
open_first b (c ∷ rest) h =
    elim (nat_eq b 40) as (λ v. nat_eq b 40 ≡ v → nat_eq b 42 ≡ false) [
      | true ↦ λ e. let first : b ≡ 40 = test_equal b 40 e in ap (λ x. nat_eq x 42) first
      | false ↦ λ e. absurd (true≢false (sym h ∙ ap (λ v. v && nat_eq c 42) e))
    ] refl

halt_open : (bytes : List ℕ) → IsOpenComment bytes → Halt bytes
halt_open bytes o = record {
  no_byte = λ b rest n f e. true≢false (sym o.begins ∙ f);
  no_comment = λ c rest h e. (due_open bytes o).no_comment c rest h e;
  no_star = λ b rest e. open_first b rest (ap begins_comment (sym e) ∙ o.begins);
}

pub stable : (b : ℕ) (bytes s : List ℕ) → Halt s → begins_comment (b ∷ bytes) ≡ false → begins_comment (b ∷ (bytes ++ s)) ≡ false
stable b [] [] p h = refl
stable b [] (x ∷ s) p h = and_false (nat_eq b 40) (nat_eq x 42) (p.no_star x s refl)
stable b (c ∷ bytes) s p h = h

same_unbroken : {u v : List ℕ} → Unbroken u → Unbroken v → (r s : List ℕ) → Halt r → Halt s → u ++ r ≡ v ++ s → (u ≡ v) × (r ≡ s)
same_unbroken Unbroken.none Unbroken.none r s p q e = (refl, e)
same_unbroken Unbroken.none (Unbroken.byte {b = b} {bytes = bytes} n f k) r s p q e = absurd (p.no_byte b (bytes ++ s) n (ap begins_comment e ∙ stable b bytes s q f) e)
same_unbroken Unbroken.none (Unbroken.comment {c = c} {bytes = bytes} h k) r s p q e = absurd (p.no_comment c (bytes ++ s) h (e ∙ append_assoc c bytes s))
same_unbroken (Unbroken.byte {b = b} {bytes = bytes} n f k) Unbroken.none r s p q e = absurd (q.no_byte b (bytes ++ r) n (ap begins_comment (sym e) ∙ stable b bytes r p f) (sym e))
same_unbroken (Unbroken.comment {c = c} {bytes = bytes} h k) Unbroken.none r s p q e = absurd (q.no_comment c (bytes ++ r) h (sym e ∙ append_assoc c bytes r))
same_unbroken (Unbroken.byte {b = b} {bytes = bytes} n f k) (Unbroken.byte {b = a} {bytes = more} m g j) r s p q e =
    let first : b ≡ a = cc in
    let tails : bytes ++ r ≡ more ++ s = cc in
    let t = same_unbroken k j r s p q tails in
    (rw (first, t.0) refl, t.1)
same_unbroken (Unbroken.byte {b = b} {bytes = bytes} n f k) (Unbroken.comment {c = c} {bytes = more} h j) r s p q e =
    absurd (true≢false (sym (begins_before c (more ++ s) h.begins) ∙ (ap begins_comment (sym (e ∙ append_assoc c more s)) ∙ stable b bytes r p f)))
same_unbroken (Unbroken.comment {c = c} {bytes = bytes} h k) (Unbroken.byte {b = b} {bytes = more} n f j) r s p q e =
    absurd (true≢false (sym (begins_before c (bytes ++ r) h.begins) ∙ (ap begins_comment (sym (append_assoc c bytes r) ∙ e) ∙ stable b more s q f)))
same_unbroken (Unbroken.comment {c = c} {bytes = bytes} h k) (Unbroken.comment {c = d} {bytes = more} g j) r s p q e =
    let first = same_comment c d (bytes ++ r) (more ++ s) h g (sym (append_assoc c bytes r) ∙ (e ∙ append_assoc d more s)) in
    let t = same_unbroken k j r s p q first.1 in
    (rw (first.0, t.0) refl, t.1)

-- the unbroken front, and the rest
record Fronts (xs front rest : List ℕ) : Type 0 where
  pub unbroken : Unbroken front
  pub halt : Halt rest
  pub joins : xs ≡ front ++ rest

blank_fronts : {gap : List ℕ} → Gap gap → Fronts gap gap []
blank_fronts {gap} g = record { unbroken = gap_unbroken g; halt = halt_end; joins = sym (append-nil gap) }

unended_fronts : {gap : List ℕ} (body : List ℕ) → Gap gap → Unbroken body → Fronts (gap ++ body) (gap ++ body) []
unended_fronts {gap} body g u = record { unbroken = gap_then body g u; halt = halt_end; joins = sym (append-nil (gap ++ body)) }

open_fronts : {body : List ℕ} (comment : List ℕ) → Unbroken body → IsOpenComment comment → Fronts (body ++ comment) body comment
open_fronts comment u o = record { unbroken = u; halt = halt_open comment o; joins = refl }

command_fronts : {gap : List ℕ} (body bytes : List ℕ) → Gap gap → Unbroken body → Fronts (gap ++ body ++ 59 ∷ bytes) (gap ++ body) (59 ∷ bytes)
command_fronts body bytes g u = record { unbroken = gap_then body g u; halt = halt_semicolon bytes; joins = refl }

same_fronts : (xs ys u v r s : List ℕ) → Fronts xs u r → Fronts ys v s → xs ≡ ys → (u ≡ v) × (r ≡ s)
same_fronts xs ys u v r s p q e = same_unbroken p.unbroken q.unbroken r s p.halt q.halt (sym p.joins ∙ (e ∙ q.joins))

begins_nothing : BeginsToken [] → ⊥
begins_nothing t = true≢false t.no_blank

open_not_end : (xs : List ℕ) → IsOpenComment xs → [] ≡ xs → ⊥
open_not_end xs o e = true≢false (sym o.begins ∙ ap begins_comment (sym e))

open_no_semicolon : (xs bytes : List ℕ) → IsOpenComment xs → 59 ∷ bytes ≡ xs → ⊥
open_no_semicolon xs [] o e = true≢false (sym o.begins ∙ ap begins_comment (sym e))
open_no_semicolon xs (c ∷ bytes) o e = true≢false (sym o.begins ∙ ap begins_comment (sym e))

end_no_semicolon : (bytes : List ℕ) → [] ≡ 59 ∷ bytes → ⊥
end_no_semicolon bytes e = cc

blank_no_token : {g h : List ℕ} (body : List ℕ) → Gap g → Gap h → BeginsToken body → g ≡ h ++ body → ⊥
blank_no_token {g} {h} body p q b e = begins_nothing (subst BeginsToken (sym (same_gap p q [] body due_end (due_token body b) (append-nil g ∙ e)).1) b)

pub same_first : {xs ys : List ℕ} {f g : First} → Begins xs f → Begins ys g → xs ≡ ys → f ≡ g
same_first (Begins.blank g) (Begins.blank h) e = refl
same_first (Begins.blank g) (Begins.unended {body = v} h u b) e = absurd (blank_no_token v g h b e)
same_first (Begins.blank g) (Begins.open_comment {comment = c} u o) e = absurd (open_not_end c o (same_fronts _ _ _ _ _ _ (blank_fronts g) (open_fronts c u o) e).1)
same_first (Begins.blank g) (Begins.command {body = v} {bytes = more} h u b) e = absurd (end_no_semicolon more (same_fronts _ _ _ _ _ _ (blank_fronts g) (command_fronts v more h u) e).1)
same_first (Begins.unended {body = v} h u b) (Begins.blank g) e = absurd (blank_no_token v g h b (sym e))
same_first (Begins.unended {gap = g} {body = v} p u b) (Begins.unended {gap = h} {body = w} q k c) e =
    ap First.Unended (same_gap p q v w (due_token v b) (due_token w c) e).0
same_first (Begins.unended {body = v} p u b) (Begins.open_comment {comment = c} k o) e = absurd (open_not_end c o (same_fronts _ _ _ _ _ _ (unended_fronts v p u) (open_fronts c k o) e).1)
same_first (Begins.unended {body = v} p u b) (Begins.command {body = w} {bytes = more} q k c) e = absurd (end_no_semicolon more (same_fronts _ _ _ _ _ _ (unended_fronts v p u) (command_fronts w more q k) e).1)
same_first (Begins.open_comment {comment = c} u o) (Begins.blank g) e = absurd (open_not_end c o (sym (same_fronts _ _ _ _ _ _ (open_fronts c u o) (blank_fronts g) e).1))
same_first (Begins.open_comment {comment = c} u o) (Begins.unended {body = v} q k b) e = absurd (open_not_end c o (sym (same_fronts _ _ _ _ _ _ (open_fronts c u o) (unended_fronts v q k) e).1))
same_first (Begins.open_comment {comment = c} u o) (Begins.open_comment {comment = d} k i) e = ap First.OpenComment (same_fronts _ _ _ _ _ _ (open_fronts c u o) (open_fronts d k i) e).0
same_first (Begins.open_comment {comment = c} u o) (Begins.command {body = w} {bytes = more} q k b) e =
    absurd (open_no_semicolon c more o (sym (same_fronts _ _ _ _ _ _ (open_fronts c u o) (command_fronts w more q k) e).1))
same_first (Begins.command {body = v} {bytes = bytes} p u b) (Begins.blank g) e = absurd (end_no_semicolon bytes (sym (same_fronts _ _ _ _ _ _ (command_fronts v bytes p u) (blank_fronts g) e).1))
same_first (Begins.command {body = v} {bytes = bytes} p u b) (Begins.unended {body = w} q k c) e =
    absurd (end_no_semicolon bytes (sym (same_fronts _ _ _ _ _ _ (command_fronts v bytes p u) (unended_fronts w q k) e).1))
same_first (Begins.command {body = v} {bytes = bytes} p u b) (Begins.open_comment {comment = d} k o) e =
    absurd (open_no_semicolon d bytes o (same_fronts _ _ _ _ _ _ (command_fronts v bytes p u) (open_fronts d k o) e).1)
same_first (Begins.command {gap = g} {body = v} {bytes = bytes} p u b) (Begins.command {gap = h} {body = w} {bytes = more} q k c) e =
    let rests : bytes ≡ more = tails bytes more (same_fronts _ _ _ _ _ _ (command_fronts v bytes p u) (command_fronts w more q k) e).1 in
    let gaps = same_gap p q (v ++ 59 ∷ bytes) (w ++ 59 ∷ more) (due_token (v ++ 59 ∷ bytes) b) (due_token (w ++ 59 ∷ more) c)
    (sym (append_assoc g v (59 ∷ bytes)) ∙ (e ∙ append_assoc h w (59 ∷ more))) in
    let bodies : v ≡ w = append_cancel_right v w (59 ∷ bytes) (gaps.1 ∙ ap (λ xs. w ++ 59 ∷ xs) (sym rests)) in
    commands_same g h v w bytes more gaps.0 bodies rests
  where
    tails : (xs ys : List ℕ) → 59 ∷ xs ≡ 59 ∷ ys → xs ≡ ys
    tails xs ys e = cc

    commands_same : (g h v w xs ys : List ℕ) → g ≡ h → v ≡ w → xs ≡ ys → First.Command g v xs ≡ First.Command h w ys
    commands_same g h v w xs ys e f i = rw (e, f, i) refl

pub cuts_unique : CutsAreUnique
cuts_unique from bytes one other p q = p.is ∙ (ap (cut_of from) (same_first p.begins q.begins refl) ∙ sym q.is)

-- what a script begins with
abbrev first_of : {p : Place} {xs : List ℕ} {cs : List CommandText} {e : Ending} → Cuts p xs cs e → First
first_of (Cuts.whole b) = First.Blank
first_of (Cuts.unended {gap = g} b) = First.Unended g
first_of (Cuts.open_comment {front = f} b) = First.OpenComment f
first_of (Cuts.command {gap = g} {body = v} {rest = r} b more) = First.Command g v r

begins_of : {p : Place} {xs : List ℕ} {cs : List CommandText} {e : Ending} (c : Cuts p xs cs e) → Begins xs (first_of c)
begins_of (Cuts.whole b) = b
begins_of (Cuts.unended b) = b
begins_of (Cuts.open_comment b) = b
begins_of (Cuts.command b more) = b

behind_same : (p q : Place) (x y : List ℕ) → p ≡ q → x ≡ y → behind p x ≡ behind q y
behind_same p q x y e f = rw (e, f) refl

abbrev the_command : Place → List ℕ → CommandText
the_command p bytes = record { place = p; bytes = bytes }

command_same : (p q : Place) (v w : List ℕ) (cs ds : List CommandText) → p ≡ q → v ≡ w → cs ≡ ds → the_command p v ∷ cs ≡ the_command q w ∷ ds
command_same p q v w cs ds e f g = rw (e, f, g) refl

unended_part : (g h : List ℕ) → First.Unended g ≡ First.Unended h → g ≡ h
unended_part g h e = cc

open_part : (g h : List ℕ) → First.OpenComment g ≡ First.OpenComment h → g ≡ h
open_part g h e = cc

command_part : (g h v w x y : List ℕ) → First.Command g v x ≡ First.Command h w y → (g ≡ h) × (v ≡ w) × (x ≡ y)
command_part g h v w x y e = (cc, cc, cc)

scripts_same : {p q : Place} {xs ys : List ℕ} {cs ds : List CommandText} {e f : Ending} → Cuts p xs cs e → Cuts q ys ds f → p ≡ q → xs ≡ ys → (cs ≡ ds) × (e ≡ f)
scripts_same (Cuts.whole a) (Cuts.whole b) h k = (refl, refl)
scripts_same {p} {q} (Cuts.unended {gap = g} a) (Cuts.unended {gap = i} b) h k =
    (refl, ap Ending.Unended (behind_same p q g i h (unended_part g i (same_first a b k))))
scripts_same {p} {q} (Cuts.open_comment {front = b} a) (Cuts.open_comment {front = c} d) h k =
    (refl, ap Ending.OpenComment (behind_same p q b c h (open_part b c (same_first a d k))))
scripts_same {p} {q} (Cuts.command {gap = g} {body = v} {rest = x} {commands = cs} a more) (Cuts.command {gap = i} {body = w} {rest = y} {commands = ds} b others) h k =
    let parts = command_part g i v w x y (same_first a b k) in
    let texts : v ++ 59 ∷ [] ≡ w ++ 59 ∷ [] = ap (λ zs. zs ++ 59 ∷ []) parts.1 in
    let fronts : g ++ v ++ 59 ∷ [] ≡ i ++ w ++ 59 ∷ [] = ap (λ zs. zs ++ v ++ 59 ∷ []) parts.0 ∙ ap (λ zs. i ++ zs ++ 59 ∷ []) parts.1 in
    let tails = scripts_same more others (behind_same p q (g ++ v ++ 59 ∷ []) (i ++ w ++ 59 ∷ []) h fronts) parts.2 in
    (command_same (behind p g) (behind q i) (v ++ 59 ∷ []) (w ++ 59 ∷ []) cs ds (behind_same p q g i h parts.0) texts tails.0, tails.1)
scripts_same a b h k =
    let parts : first_of a ≡ first_of b = same_first (begins_of a) (begins_of b) k in
    absurd (cc)

pub scripts_unique : ScriptsAreUnique
scripts_unique place bytes one other end last p q = scripts_same p q refl refl
