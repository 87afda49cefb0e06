-- Steps over comments, and whole comments of bytes.
use Rattle.std.proofs.Common.{◌≡◌, ℕ, ◌+◌, ◌-◌, ◌<◌, ◌≤◌, zero, suc, true, false, ◌&&◌, nat_eq, List, [], ◌∷◌, ◌++◌, length, get_or, drop, Some, None, refl, sym, ap, ◌∙◌, subst, arith, add-one, drop-cons}
use Rattle.std.specs.Prelude.{slice_range}
use Rattle.std.proofs.lemmas.List.{append_cancel_right, drop-drop}
use Rattle.std.proofs.lemmas.List.Folds.{drop_split}
use Rattle.lego_lexer.proofs.SliceLemmas.{slice_cons}
use Rattle.lego_lexer.specs.Bytes.{behind_comments, begins_with, begins_comment, delimiter, IsComment, IsOpenComment}
use Rattle.lego_lexer.specs.declared.comment.Delimiter.TheVariants.{Opens, Closes, Neither}

pub two_bytes : (bytes : List ℕ) (at : ℕ) → at + 1 < length bytes → drop at bytes ≡ get_or bytes at 0 ∷ get_or bytes (at + 1) 0 ∷ drop (at + 2) bytes
two_bytes bytes at h =
    let first : at < length bytes = omega arith in
    let second : suc at < length bytes = omega arith in
    let one : at + 1 ≡ suc at = omega arith in
    let two : at + 2 ≡ suc (suc at) = omega arith in
    rw (one, two) (drop-cons bytes at 0 first ∙ ap (λ xs. get_or bytes at 0 ∷ xs) (drop-cons bytes (suc at) 0 second))

pub too_short : (depth : ℕ) (bytes : List ℕ) → 0 < depth → length bytes ≤ 1 → behind_comments depth bytes ≡ None
too_short zero bytes h k = absurd (omega arith)
too_short (suc depth) [] h k = refl
too_short (suc depth) (b ∷ []) h k = refl
too_short (suc depth) (b ∷ c ∷ bytes) h k = absurd (omega arith)

pub opened : (depth b c : ℕ) (bytes : List ℕ) → 0 < depth → Opens ≡ delimiter b c → behind_comments (depth + 1) bytes ≡ behind_comments depth (b ∷ c ∷ bytes)
opened zero b c bytes h e = absurd (omega arith)
opened (suc depth) b c bytes h e = rw (add-one, ← e, behind_comments) refl

closes : (depth b c : ℕ) (bytes : List ℕ) → Closes ≡ delimiter b c → behind_comments depth bytes ≡ behind_comments (suc depth) (b ∷ c ∷ bytes)
closes depth b c bytes e = rw (← e, behind_comments) refl

pub closed : (depth b c : ℕ) (bytes : List ℕ) → 0 < depth → Closes ≡ delimiter b c → behind_comments (depth - 1) bytes ≡ behind_comments depth (b ∷ c ∷ bytes)
closed zero b c bytes h e = absurd (omega arith)
closed (suc depth) b c bytes h e = let less : suc depth - 1 ≡ depth = omega arith in rw less (closes depth b c bytes e)

pub passed : (depth b c : ℕ) (bytes : List ℕ) → 0 < depth → Neither ≡ delimiter b c → behind_comments depth (c ∷ bytes) ≡ behind_comments depth (b ∷ c ∷ bytes)
passed zero b c bytes h e = absurd (omega arith)
passed (suc depth) b c bytes h e = rw (← e, behind_comments) refl

-- the same, of bytes from an index on
module _ (bytes : List ℕ) (depth at : ℕ) (within : at + 1 < length bytes) (some : 0 < depth) where
  pub opened_at : Opens ≡ delimiter (get_or bytes at 0) (get_or bytes (at + 1) 0)
      → behind_comments (depth + 1) (drop (at + 2) bytes) ≡ behind_comments depth (drop at bytes)
  opened_at e = opened depth _ _ (drop (at + 2) bytes) some e ∙ ap (behind_comments depth) (sym (two_bytes bytes at within))

  pub closed_at : Closes ≡ delimiter (get_or bytes at 0) (get_or bytes (at + 1) 0)
      → behind_comments (depth - 1) (drop (at + 2) bytes) ≡ behind_comments depth (drop at bytes)
  closed_at e = closed depth _ _ (drop (at + 2) bytes) some e ∙ ap (behind_comments depth) (sym (two_bytes bytes at within))

  pub passed_at : Neither ≡ delimiter (get_or bytes at 0) (get_or bytes (at + 1) 0)
      → behind_comments depth (drop (at + 1) bytes) ≡ behind_comments depth (drop at bytes)
  passed_at e =
      let two : at + 2 ≡ suc (at + 1) = omega arith in
      let tail : drop (at + 1) bytes ≡ get_or bytes (at + 1) 0 ∷ drop (at + 2) bytes = rw two (drop-cons bytes (at + 1) 0 within) in
      ap (behind_comments depth) tail ∙ (passed depth _ _ (drop (at + 2) bytes) some e ∙ ap (behind_comments depth) (sym (two_bytes bytes at within)))

pub short_begins_none : (first second : ℕ) (bytes : List ℕ) → length bytes ≤ 1 → begins_with first second bytes ≡ false
short_begins_none first second [] h = refl
short_begins_none first second (b ∷ []) h = refl
short_begins_none first second (b ∷ c ∷ bytes) h = absurd (omega arith)

pub begins_at : (first second at : ℕ) (bytes : List ℕ) → at + 1 < length bytes
    → begins_with first second (drop at bytes) ≡ nat_eq (get_or bytes at 0) first && nat_eq (get_or bytes (at + 1) 0) second
begins_at first second at bytes h = ap (begins_with first second) (two_bytes bytes at h)

-- the front of bytes that ends the open comments, and the bytes behind it
pub record Split (depth : ℕ) (bytes rest : List ℕ) : Type 0 where
  pub front : List ℕ
  pub joins : bytes ≡ front ++ rest
  pub ends : behind_comments depth front ≡ Some []

ended_by : (depth b : ℕ) (c : ℕ) (bytes rest : List ℕ) → Neither ≡ delimiter b c → Split (suc depth) (c ∷ bytes) rest → Split (suc depth) (b ∷ c ∷ bytes) rest
ended_by depth b c bytes rest e s = starts s.front s.joins s.ends
  where
    starts : (front : List ℕ) → c ∷ bytes ≡ front ++ rest → behind_comments (suc depth) front ≡ Some [] → Split (suc depth) (b ∷ c ∷ bytes) rest
    starts [] j h = absurd (cc)
    starts (x ∷ front) j h =
        let same : x ≡ c = cc in
        record { front = b ∷ x ∷ front; joins = ap (λ xs. b ∷ xs) j; ends = sym (passed (suc depth) b x front (omega arith) (rw same e)) ∙ h }

pub split : (depth : ℕ) (bytes rest : List ℕ) → behind_comments depth bytes ≡ Some rest → Split depth bytes rest
split zero bytes rest h = record { front = []; joins = cc; ends = refl }
split (suc depth) [] rest h = absurd (cc)
split (suc depth) (b ∷ []) rest h = absurd (cc)
split (suc depth) (b ∷ c ∷ bytes) rest h =
    elim (delimiter b c) as (λ d. d ≡ delimiter b c → Split (suc depth) (b ∷ c ∷ bytes) rest) [
      | Opens ↦ λ e.
          let s = split (suc (suc depth)) bytes rest (rw add-one at (opened (suc depth) b c bytes (omega arith) e) ∙ h) in
          record { front = b ∷ c ∷ s.front; joins = ap (λ xs. b ∷ c ∷ xs) s.joins; ends = sym (rw add-one at (opened (suc depth) b c s.front (omega arith) e)) ∙ s.ends }
      | Closes ↦ λ e.
          let s = split depth bytes rest (closes depth b c bytes e ∙ h) in
          record { front = b ∷ c ∷ s.front; joins = ap (λ xs. b ∷ c ∷ xs) s.joins; ends = sym (closes depth b c s.front e) ∙ s.ends }
      | Neither ↦ λ e. ended_by depth b c bytes rest e (split (suc depth) (c ∷ bytes) rest (passed (suc depth) b c bytes (omega arith) e ∙ h))
    ] refl

pub begins_two : (first second at : ℕ) (bytes : List ℕ) → at < length bytes → begins_with first second (drop at bytes) ≡ true → at + 1 < length bytes
begins_two first second zero [] h b = absurd (omega arith)
begins_two first second zero (x ∷ []) h b = absurd (cc)
begins_two first second zero (x ∷ y ∷ bytes) h b = omega arith
begins_two first second (suc at) [] h b = absurd (omega arith)
begins_two first second (suc at) (x ∷ bytes) h b = let k : at + 1 < length bytes = begins_two first second at bytes (omega arith) b in omega arith

-- a comment at an index, up to its end
module _ (bytes : List ℕ) (at : ℕ) (within : at < length bytes) (begins : begins_comment (drop at bytes) ≡ true) where
  two_there : at + 1 < length bytes
  two_there = begins_two 40 42 at bytes within begins

  inside_is : drop 2 (drop at bytes) ≡ drop (at + 2) bytes
  inside_is = drop-drop 2 at bytes

  pub comment_there : (end : ℕ) → at + 2 < end → behind_comments 1 (drop (at + 2) bytes) ≡ Some (drop end bytes) → IsComment (slice_range bytes at end)
  comment_there end h e =
      let s = split 1 (drop (at + 2) bytes) (drop end bytes) e in
      let le : at + 2 ≤ end = omega arith in
      let same : s.front ≡ slice_range bytes (at + 2) end = append_cancel_right s.front (slice_range bytes (at + 2) end) (drop end bytes) (sym s.joins ∙ drop_split bytes (at + 2) end le) in
      let lt : at < end = omega arith in
      let lt2 : at + 1 < end = omega arith in
      let two : at + 1 + 1 ≡ at + 2 = omega arith in
      let text : slice_range bytes at end ≡ get_or bytes at 0 ∷ get_or bytes (at + 1) 0 ∷ slice_range bytes (at + 2) end =
      slice_cons bytes at end lt within ∙ ap (λ xs. get_or bytes at 0 ∷ xs) (slice_cons bytes (at + 1) end lt2 two_there ∙ ap (λ i. get_or bytes (at + 1) 0 ∷ slice_range bytes i end) two) in
      subst IsComment (sym text) (record {
        begins = ap begins_comment (sym (two_bytes bytes at two_there)) ∙ begins;
        ends = ap (behind_comments 1) (sym same) ∙ s.ends;
      })

  pub open_there : behind_comments 1 (drop (at + 2) bytes) ≡ None → IsOpenComment (drop at bytes)
  open_there e = record { begins = begins; unended = ap (behind_comments 1) inside_is ∙ e }
