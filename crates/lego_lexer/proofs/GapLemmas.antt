-- Gaps in ranges of bytes.
use Rattle.std.proofs.Common.{◌≡◌, ℕ, ◌+◌, ◌<◌, ◌≤◌, true, false, List, length, get_or, drop, Some, sym, ap, ◌∙◌, subst, arith, drop-cons}
use Rattle.std.specs.Prelude.{slice_range}
use Rattle.lego_lexer.specs.Bytes.{is_blank, begins_comment, behind_comments, Gap, BeginsToken}
use Rattle.lego_lexer.proofs.SliceLemmas.{slice_none, slice_all, slice_cons, slice_join}
use Rattle.lego_lexer.proofs.CommentLemmas.{comment_there}

module _ (bytes : List ℕ) where
  pub gap_past_blank : (at u : ℕ) → at < u → at < length bytes → true ≡ is_blank (get_or bytes at 0) → Gap (slice_range bytes (at + 1) u) → Gap (slice_range bytes at u)
  gap_past_blank at u h within blank g = subst Gap (sym (slice_cons bytes at u h within)) (Gap.blank (sym blank) g)

  pub gap_past_comment : (at end u : ℕ) → at < length bytes → at + 2 < end → end ≤ u → true ≡ begins_comment (drop at bytes)
      → behind_comments 1 (drop (at + 2) bytes) ≡ Some (drop end bytes) → Gap (slice_range bytes end u) → Gap (slice_range bytes at u)
  gap_past_comment at end u within h m begins e g =
      let before : at ≤ end = omega arith in
      subst Gap (sym (slice_join bytes at end u before m)) (Gap.comment (comment_there bytes at within (sym begins) end h e) g)

  -- what a walk has come over, where it ends
  module _ (from at : ℕ) (walk : (u : ℕ) → at ≤ u → u ≤ length bytes → Gap (slice_range bytes at u) → Gap (slice_range bytes from u)) where
    pub gap_so_far : at ≤ length bytes → Gap (slice_range bytes from at)
    gap_so_far h = walk at (omega arith) h (subst Gap (sym (slice_none bytes at)) Gap.none)

    pub gap_to_end : at ≡ length bytes → Gap (drop from bytes)
    gap_to_end e =
        let here : at ≤ length bytes = omega arith in
        subst Gap (slice_all bytes from) (subst (λ u. Gap (slice_range bytes from u)) e (gap_so_far here))

pub token_there : (bytes : List ℕ) (at : ℕ) → at < length bytes → false ≡ is_blank (get_or bytes at 0) → false ≡ begins_comment (drop at bytes) → BeginsToken (drop at bytes)
token_there bytes at h blank comment =
    let first : get_or (drop at bytes) 0 0x20 ≡ get_or bytes at 0 = ap (λ xs. get_or xs 0 0x20) (drop-cons bytes at 0 h) in
    record { no_blank = ap is_blank first ∙ sym blank; no_comment = sym comment }
