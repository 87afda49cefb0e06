-- Where a command has begun, more bytes change it only by a first byte that they bring.
use Rattle.std.proofs.Common.{◌≡◌, ℕ, ◌+◌, ◌<◌, ◌≤◌, List, [], ◌∷◌, ◌++◌, length, take, drop, Option, Some, refl, sym, ap, ◌∙◌, subst, arith, length-append, length-drop}
use Rattle.std.proofs.Math.Seq.{take-append_seam, drop-append_seam}
use Rattle.std.proofs.lemmas.List.{take-append-le, drop-append-le, take-append-drop}
use Rattle.lego_lexer.specs.Bytes.{Gap, BeginsToken}
use Rattle.lego_lexer.specs.Cutter.{HasStarted}

-- a front of a first token is one, if it has a byte
front_begins : (body more : List ℕ) → 0 < length body → BeginsToken (body ++ more) → BeginsToken body
front_begins [] more h b = absurd (omega (arith, h))
front_begins (x ∷ []) more h b = record { no_blank = b.no_blank; no_comment = refl }
front_begins (x ∷ y ∷ body) more h b = record { no_blank = b.no_blank; no_comment = b.no_comment }

pub record StartsAt (from : ℕ) (bytes : List ℕ) (start : ℕ) : Type 0 where
  pub gap : List ℕ
  pub body : List ℕ
  pub is : bytes ≡ gap ++ body
  pub starts : from + length gap ≡ start
  pub blank : Gap gap
  pub begins : BeginsToken body

starts_so : {from start : ℕ} {bytes : List ℕ} {s : Option ℕ} → HasStarted from bytes s → s ≡ Some start → StartsAt from bytes start
starts_so (HasStarted.blank g) e = absurd (cc)
starts_so (HasStarted.open_comment g o) e = absurd (cc)
starts_so (HasStarted.token {gap = gap} {body = body} g b) e = record { gap = gap; body = body; is = refl; starts = cc; blank = g; begins = b }

pub starts_at : {from start : ℕ} {bytes : List ℕ} → HasStarted from bytes (Some start) → StartsAt from bytes start
starts_at h = starts_so h refl

-- a command that has begun began before the end of the bytes
pub start_within : {from start : ℕ} {bytes : List ℕ} → HasStarted from bytes (Some start) → (from ≤ start) × (start < from + length bytes)
start_within {bytes = bytes} h =
    let s = starts_at h in
    let some : 0 < length s.body = nonempty s.body s.begins in
    (omega (arith, s.starts), omega (arith, s.starts, ap length s.is, length-append s.gap s.body, some))
  where
    nonempty : (xs : List ℕ) → BeginsToken xs → 0 < length xs
    nonempty [] b = absurd (cc)
    nonempty (x ∷ xs) b = omega arith

-- a first byte that more bytes didn't bring was the first one before
pub start_stays : {from start : ℕ} (bytes more : List ℕ) → HasStarted from (bytes ++ more) (Some start) → start < from + length bytes → HasStarted from bytes (Some start)
start_stays {from} {start} bytes more h inside =
    let s = starts_at h in
    let n = length s.gap in
    let within : n ≤ length bytes = omega (arith, s.starts, inside) in
    let rest : 0 < length (drop n bytes) = omega (arith, s.starts, inside, length-drop n bytes) in
    let front : take n bytes ≡ s.gap = sym (take-append-le n bytes more within) ∙ (ap (take n) s.is ∙ take-append_seam s.gap s.body) in
    let body : s.body ≡ drop n bytes ++ more = sym (drop-append_seam s.gap s.body) ∙ (ap (drop n) (sym s.is) ∙ drop-append-le n bytes more within) in
    let whole : s.gap ++ drop n bytes ≡ bytes = ap (λ xs. xs ++ drop n bytes) (sym front) ∙ take-append-drop n bytes in
    subst (λ i. HasStarted from bytes (Some i)) s.starts
    (subst (λ xs. HasStarted from xs (Some (from + n))) whole (HasStarted.token s.blank (front_begins (drop n bytes) more rest (subst BeginsToken body s.begins))))
