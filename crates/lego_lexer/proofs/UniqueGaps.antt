-- A gap ends where a token, an open comment or the end of the bytes stands.
use Rattle.std.proofs.Common.{◌≡◌, ◌≢◌, ℕ, zero, suc, true, false, ◌&&◌, nat_eq, List, [], ◌∷◌, ◌++◌, get_or, drop, Some, None, refl, sym, ap, ◌∙◌, arith, append_assoc}
use Rattle.std.proofs.lemmas.List.{append_cancel_right}
use Rattle.std.proofs.lemmas.Bool.Decides.{nat_tests}
use mathlib.Core.Bool.{true≢false}
use Rattle.lego_lexer.specs.Bytes.{is_blank, begins_comment, behind_comments, delimiter, Gap, IsComment, IsOpenComment, BeginsToken}
use Rattle.lego_lexer.specs.declared.comment.Delimiter.TheVariants.{Opens, Closes, Neither}

-- what ends the comments, ends them before more bytes too
pub ends_before : (depth : ℕ) (bytes rest more : List ℕ) → behind_comments depth bytes ≡ Some rest → behind_comments depth (bytes ++ more) ≡ Some (rest ++ more)
ends_before zero bytes rest more h = let same : bytes ≡ rest = cc in ap (λ xs. Some (xs ++ more)) same
ends_before (suc depth) [] rest more h = absurd (cc)
ends_before (suc depth) (b ∷ []) rest more h = absurd (cc)
ends_before (suc depth) (b ∷ c ∷ bytes) rest more h =
    elim (delimiter b c) as (λ d. delimiter b c ≡ d → behind_comments (suc depth) (b ∷ c ∷ (bytes ++ more)) ≡ Some (rest ++ more)) [
      | Opens ↦ λ e. rw (e, behind_comments) (ends_before (suc (suc depth)) bytes rest more (rw (e, behind_comments) at h))
      | Closes ↦ λ e. rw (e, behind_comments) (ends_before depth bytes rest more (rw (e, behind_comments) at h))
      | Neither ↦ λ e. rw (e, behind_comments) (ends_before (suc depth) (c ∷ bytes) rest more (rw (e, behind_comments) at h))
    ] refl

pub begins_before : (c more : List ℕ) → begins_comment c ≡ true → begins_comment (c ++ more) ≡ true
begins_before [] more h = absurd (true≢false (sym h))
begins_before (a ∷ []) more h = absurd (true≢false (sym h))
begins_before (a ∷ b ∷ c) more h = h

pub drop_before : (c more : List ℕ) → begins_comment c ≡ true → drop 2 (c ++ more) ≡ drop 2 c ++ more
drop_before [] more h = absurd (true≢false (sym h))
drop_before (a ∷ []) more h = absurd (true≢false (sym h))
drop_before (a ∷ b ∷ c) more h = refl

pub comment_through : (c more : List ℕ) → IsComment c → behind_comments 1 (drop 2 (c ++ more)) ≡ Some more
comment_through c more h = ap (behind_comments 1) (drop_before c more h.begins) ∙ ends_before 1 (drop 2 c) [] more h.ends

some_equal : {X : Type 0} (x y : X) → Some x ≡ Some y → x ≡ y
some_equal x y h = cc

some_none : {X : Type 0} (x : X) → Some x ≡ None → ⊥
some_none x h = cc

-- equal bytes begin with one comment at most
pub same_comment : (c d r s : List ℕ) → IsComment c → IsComment d → c ++ r ≡ d ++ s → (c ≡ d) × (r ≡ s)
same_comment c d r s h k e =
    let rest : r ≡ s = some_equal r s (sym (comment_through c r h) ∙ (ap (λ xs. behind_comments 1 (drop 2 xs)) e ∙ comment_through d s k)) in
    (append_cancel_right c d r (e ∙ ap (λ xs. d ++ xs) (sym rest)), rest)

-- neither a blank nor a whole comment stands first
pub record Due (bytes : List ℕ) : Type 0 where
  pub no_blank : (b : ℕ) (rest : List ℕ) → is_blank b ≡ true → bytes ≡ b ∷ rest → ⊥
  pub no_comment : (c rest : List ℕ) → IsComment c → bytes ≡ c ++ rest → ⊥

nil_no_comment : (c rest : List ℕ) → IsComment c → [] ≡ c ++ rest → ⊥
nil_no_comment [] rest h e = true≢false (sym h.begins)
nil_no_comment (a ∷ c) rest h e = cc

pub due_end : Due []
due_end = record { no_blank = λ b rest h e. cc; no_comment = nil_no_comment }

pub due_token : (bytes : List ℕ) → BeginsToken bytes → Due bytes
due_token bytes t = record {
  no_blank = λ b rest h e. true≢false (sym h ∙ (ap (λ xs. is_blank (get_or xs 0 0x20)) (sym e) ∙ t.no_blank));
  no_comment = λ c rest h e. true≢false (sym (ap begins_comment e ∙ begins_before c rest h.begins) ∙ t.no_comment);
}

pub blank_not_open : (b : ℕ) (rest : List ℕ) → is_blank b ≡ true → begins_comment (b ∷ rest) ≡ true → ⊥
blank_not_open b [] h k = true≢false (sym k)
blank_not_open b (c ∷ rest) h k =
    let other : b ≢ 40 = λ e. true≢false (sym h ∙ ap is_blank e) in
    let test : nat_eq b 40 ≡ false = grind (arith, nat_tests) in
    true≢false (sym k ∙ ap (λ v. v && nat_eq c 42) test)

pub due_open : (bytes : List ℕ) → IsOpenComment bytes → Due bytes
due_open bytes o = record {
  no_blank = λ b rest h e. blank_not_open b rest h (ap begins_comment (sym e) ∙ o.begins);
  no_comment = λ c rest h e. some_none rest (sym (comment_through c rest h) ∙ (ap (λ xs. behind_comments 1 (drop 2 xs)) (sym e) ∙ o.unended));
}

-- equal bytes have one gap
pub same_gap : {g h : List ℕ} → Gap g → Gap h → (r s : List ℕ) → Due r → Due s → g ++ r ≡ h ++ s → (g ≡ h) × (r ≡ s)
same_gap Gap.none Gap.none r s p q e = (refl, e)
same_gap Gap.none (Gap.blank {b = b} {bytes = bytes} h k) r s p q e = absurd (p.no_blank b (bytes ++ s) h e)
same_gap Gap.none (Gap.comment {c = c} {bytes = bytes} h k) r s p q e = absurd (p.no_comment c (bytes ++ s) h (e ∙ append_assoc c bytes s))
same_gap (Gap.blank {b = b} {bytes = bytes} h g) Gap.none r s p q e = absurd (q.no_blank b (bytes ++ r) h (sym e))
same_gap (Gap.comment {c = c} {bytes = bytes} h g) Gap.none r s p q e = absurd (q.no_comment c (bytes ++ r) h (sym e ∙ append_assoc c bytes r))
same_gap (Gap.blank {b = b} {bytes = bytes} h g) (Gap.blank {b = a} {bytes = more} k f) r s p q e =
    let first : b ≡ a = cc in
    let tails : bytes ++ r ≡ more ++ s = cc in
    let t = same_gap g f r s p q tails in
    (rw (first, t.0) refl, t.1)
same_gap (Gap.blank {b = b} {bytes = bytes} h g) (Gap.comment {c = c} {bytes = more} k f) r s p q e =
    absurd (blank_not_open b (bytes ++ r) h (ap begins_comment (e ∙ append_assoc c more s) ∙ begins_before c (more ++ s) k.begins))
same_gap (Gap.comment {c = c} {bytes = bytes} h g) (Gap.blank {b = b} {bytes = more} k f) r s p q e =
    absurd (blank_not_open b (more ++ s) k (ap begins_comment (sym e ∙ append_assoc c bytes r) ∙ begins_before c (bytes ++ r) h.begins))
same_gap (Gap.comment {c = c} {bytes = bytes} h g) (Gap.comment {c = d} {bytes = more} k f) r s p q e =
    let first = same_comment c d (bytes ++ r) (more ++ s) h k (sym (append_assoc c bytes r) ∙ (e ∙ append_assoc d more s)) in
    let t = same_gap g f r s p q first.1 in
    (rw (first.0, t.0) refl, t.1)
