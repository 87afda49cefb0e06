-- What bytes a cutter stands behind, byte by byte.
use Rattle.std.proofs.Common.{◌≡◌, ◌≢◌, ℕ, ◌+◌, ◌-◌, ◌<◌, zero, suc, true, false, Bool, ◌&&◌, nat_eq, nat_lt, List, [], ◌∷◌, ◌++◌, length, drop, Option, Some, None, refl, sym, ap, ◌∙◌, subst, arith, append_assoc, length-append}
use Rattle.std.specs.Prelude.{unwrap_or}
use Rattle.std.specs.Option.{is_some}
use Rattle.std.proofs.lemmas.List.{append-nil}
use Rattle.std.proofs.lemmas.Bool.Decides.{nat_tests}
use mathlib.Core.Bool.{true≢false}
use Rattle.lego_lexer.specs.Bytes.{is_blank, begins_comment, behind_comments, delimiter, Gap, BeginsToken, IsComment, IsOpenComment}
use Rattle.lego_lexer.specs.Commands.{Unbroken, First, Begins, IsCut}
use Rattle.lego_lexer.specs.private.StartBefore.{start_before}
use Rattle.lego_lexer.specs.Cutter.{Apart, IsFront, Passed, BeforeHalf, EndsHalf, EndsOutside, EndsInside, Stands, HasStarted}
use Rattle.lego_lexer.specs.declared.cutter.Cutter.{Cutter}
use Rattle.lego_lexer.specs.declared.token.Cut.TheVariants as Cut
use Rattle.lego_lexer.specs.declared.comment.Delimiter.TheVariants.{Opens, Closes, Neither}
use Rattle.lego_lexer.proofs.CommentLemmas.{opened, closed, passed, too_short}
use Rattle.lego_lexer.proofs.UniqueGaps.{begins_before, drop_before}
use Rattle.lego_lexer.proofs.CommandLemmas.{gap_then, gap_unbroken}

pub gap_join : {gap more : List ℕ} → Gap gap → Gap more → Gap (gap ++ more)
gap_join Gap.none h = h
gap_join (Gap.blank b g) h = Gap.blank b (gap_join g h)
gap_join {more = more} (Gap.comment {c = c} {bytes = bytes} k g) h = subst Gap (sym (append_assoc c bytes more)) (Gap.comment k (gap_join g h))

-- bytes that a comment begins have no `*` first
comment_apart : (last : ℕ) (c more : List ℕ) → begins_comment c ≡ true → Apart last (c ++ more)
comment_apart last [] more h = λ e. absurd (true≢false (sym h))
comment_apart last (a ∷ []) more h = λ e. absurd (true≢false (sym h))
comment_apart last (a ∷ b ∷ c) more h = λ e. first (nat_eq a 40) refl
  where
    first : (v : Bool) → nat_eq a 40 ≡ v → nat_eq a 42 ≡ false
    first true e = grind (arith, nat_tests, e)
    first false e = absurd (true≢false (sym h ∙ ap (λ v. v && nat_eq b 42) e))

other_apart : (last b : ℕ) (more : List ℕ) → (last ≡ 40 → b ≡ 42 → ⊥) → Apart last (b ∷ more)
other_apart last b more h = λ e. test (nat_eq b 42) refl e
  where
    test : (v : Bool) → nat_eq b 42 ≡ v → last ≡ 40 → nat_eq b 42 ≡ false
    test false e half = e
    test true e half = let same : b ≡ 42 = grind (arith, nat_tests, e) in absurd (h half same)

-- a byte that a `*` follows only where it is no `(` begins no comment
begins_none : (b : ℕ) (more : List ℕ) → Apart b more → begins_comment (b ∷ more) ≡ false
begins_none b [] h = refl
begins_none b (c ∷ more) h = test (nat_eq b 40) refl
  where
    test : (v : Bool) → nat_eq b 40 ≡ v → (nat_eq b 40 && nat_eq c 42) ≡ false
    test false e = ap (λ v. v && nat_eq c 42) e
    test true e = let same : b ≡ 40 = grind (arith, nat_tests, e) in ap (λ v. v && nat_eq c 42) e ∙ h same

-- behind a front of a command
module _ {last : ℕ} {body : List ℕ} (f : IsFront last body) where
  pub front_some : 0 < length body
  front_some = nonempty body (subst BeginsToken (append-nil body) (f.begins [] (λ e. refl)))
    where
      nonempty : (xs : List ℕ) → BeginsToken xs → 0 < length xs
      nonempty [] b = absurd (true≢false b.no_blank)
      nonempty (x ∷ xs) b = omega arith

  pub front_byte : (b : ℕ) → b ≢ 59 → (last ≡ 40 → b ≡ 42 → ⊥) → IsFront b (body ++ b ∷ [])
  front_byte b other apart = record {
    unbroken = λ more h u. subst Unbroken (sym (append_assoc body (b ∷ []) more)) (f.unbroken (b ∷ more) (other_apart last b more apart) (Unbroken.byte other (begins_none b more h) u));
    begins = λ more h. subst BeginsToken (sym (append_assoc body (b ∷ []) more)) (f.begins (b ∷ more) (other_apart last b more apart));
  }

  pub front_comment : (c : List ℕ) → IsComment c → IsFront 0 (body ++ c)
  front_comment c k = record {
    unbroken = λ more h u. subst Unbroken (sym (append_assoc body c more)) (f.unbroken (c ++ more) (comment_apart last c more k.begins) (Unbroken.comment k u));
    begins = λ more h. subst BeginsToken (sym (append_assoc body c more)) (f.begins (c ++ more) (comment_apart last c more k.begins));
  }

  -- a front before any byte is one before a `(`
  pub front_weaker : IsFront 40 body
  front_weaker = record { unbroken = λ more h u. f.unbroken more (λ e. h refl) u; begins = λ more h. f.begins more (λ e. h refl) }

  pub front_whole : Unbroken body
  front_whole = subst Unbroken (append-nil body) (f.unbroken [] (λ e. refl) Unbroken.none)

  pub front_begins : BeginsToken body
  front_begins = subst BeginsToken (append-nil body) (f.begins [] (λ e. refl))

-- a first byte that is no blank
pub first_front : (b : ℕ) → b ≢ 59 → is_blank b ≡ false → IsFront b (b ∷ [])
first_front b other blank = record {
  unbroken = λ more h u. Unbroken.byte other (begins_none b more h) u;
  begins = λ more h. record { no_blank = blank; no_comment = begins_none b more h };
}

pub passed_weaker : {from last : ℕ} {start : Option ℕ} {bytes : List ℕ} → Passed from last start bytes → Passed from 40 start bytes
passed_weaker (Passed.gap g) = Passed.gap g
passed_weaker (Passed.command g f) = Passed.command g (front_weaker f)

shift : {from last : ℕ} {start : Option ℕ} (gap body more : List ℕ) → Passed from last start (gap ++ (body ++ more)) → Passed from last start ((gap ++ body) ++ more)
shift {from} {last} {start} gap body more p = subst (Passed from last start) (sym (append_assoc gap body more)) p

pub passed_comment : {from last : ℕ} {start : Option ℕ} {bytes : List ℕ} (c : List ℕ) → IsComment c → Passed from last start bytes → Passed from 0 start (bytes ++ c)
passed_comment c k (Passed.gap {gap = gap} g) = Passed.gap (gap_join g (subst Gap (append-nil c) (Gap.comment k Gap.none)))
passed_comment c k (Passed.command {gap = gap} {body = body} g f) = shift gap body c (Passed.command g (front_comment f c k))

-- a byte in a comment
module _ {from depth last : ℕ} {start : Option ℕ} {comment : ℕ} {bytes : List ℕ} (e : EndsInside from depth last start comment bytes) (b : ℕ) where
  module _ (d l : ℕ) (goes : (more : List ℕ) → behind_comments depth (last ∷ b ∷ more) ≡ behind_comments d (l ∷ more)) where
    pub inside_byte : EndsInside from d l start comment (bytes ++ b ∷ [])
    inside_byte = record {
      front = e.front;
      text = e.text ++ b ∷ [];
      is = ap (λ xs. xs ++ b ∷ []) e.is ∙ append_assoc e.front e.text (b ∷ []);
      there = e.there;
      before = e.before;
      begins = begins_before e.text (b ∷ []) e.begins;
      inside = λ more.
          ap (λ xs. behind_comments 1 (xs ++ more)) (drop_before e.text (b ∷ []) e.begins)
          ∙ (ap (behind_comments 1) (append_assoc (drop 2 e.text) (b ∷ []) more) ∙ (e.inside (b ∷ more) ∙ goes more));
    }

  pub comment_ends : depth ≡ 1 → Closes ≡ delimiter last b → IsComment (e.text ++ b ∷ [])
  comment_ends one closes = record {
    begins = begins_before e.text (b ∷ []) e.begins;
    ends = ap (behind_comments 1) (drop_before e.text (b ∷ []) e.begins) ∙ (e.inside (b ∷ []) ∙ (ap (λ n. behind_comments n (last ∷ b ∷ [])) one ∙ sym (closed 1 last b [] (omega arith) closes)));
  }

  pub inside_ends : depth ≡ 1 → Closes ≡ delimiter last b → EndsOutside from 0 start comment (bytes ++ b ∷ [])
  inside_ends one closes =
      let joined : bytes ++ b ∷ [] ≡ e.front ++ (e.text ++ b ∷ []) = ap (λ xs. xs ++ b ∷ []) e.is ∙ append_assoc e.front e.text (b ∷ []) in
      record { passed = subst (Passed from 0 start) (sym joined) (passed_comment (e.text ++ b ∷ []) (comment_ends one closes) e.before); half = λ h. absurd (omega (arith, h)) }

-- a byte that is part of no delimiter with the next
zero_first : (depth : ℕ) (more : List ℕ) → 0 < depth → behind_comments depth more ≡ behind_comments depth (0 ∷ more)
zero_first zero more h = absurd (omega arith)
zero_first (suc depth) [] h = refl
zero_first (suc depth) (c ∷ more) h = refl

module _ {from depth last : ℕ} {start : Option ℕ} {comment : ℕ} {bytes : List ℕ} (e : EndsInside from depth last start comment bytes) (some : 0 < depth) (b : ℕ) where
  pub inside_opens : Opens ≡ delimiter last b → EndsInside from (depth + 1) 0 start comment (bytes ++ b ∷ [])
  inside_opens d = inside_byte e b (depth + 1) 0 (λ more. sym (opened depth last b more some d) ∙ zero_first (depth + 1) more (omega arith))

  pub inside_closes : 0 < depth - 1 → Closes ≡ delimiter last b → EndsInside from (depth - 1) 0 start comment (bytes ++ b ∷ [])
  inside_closes deep d = inside_byte e b (depth - 1) 0 (λ more. sym (closed depth last b more some d) ∙ zero_first (depth - 1) more deep)

  pub inside_passes : Neither ≡ delimiter last b → EndsInside from depth b start comment (bytes ++ b ∷ [])
  inside_passes d = inside_byte e b depth b (λ more. sym (passed depth last b more some d))

before_itself : (n : ℕ) → start_before (Some n) n ≡ None
before_itself n = let test : nat_lt n n ≡ false = grind (arith, nat_tests) in rw test refl

before_later : (start comment : ℕ) → start < comment → start_before (Some start) comment ≡ Some start
before_later start comment h = let test : nat_lt start comment ≡ true = grind (arith, nat_tests) in rw test refl

before_half : {from comment : ℕ} {start : Option ℕ} {front : List ℕ} → BeforeHalf from start comment front → Passed from 40 (start_before start comment) front
before_half {from} {comment} {front = front} (BeforeHalf.earlier {start = start} h p) = subst (λ s. Passed from 40 s front) (sym (before_later start comment h)) p
before_half {from} {comment} {front = front} (BeforeHalf.here g) = subst (λ s. Passed from 40 s front) (sym (before_itself comment)) (Passed.gap g)

-- the `*` of a `(*`
pub comment_opens : {from last : ℕ} {start : Option ℕ} {comment : ℕ} {bytes : List ℕ} → EndsOutside from last start comment bytes → last ≡ 40
    → EndsInside from 1 0 (start_before start comment) comment (bytes ++ 42 ∷ [])
comment_opens o h =
    let half = o.half h in
    record {
      front = half.front;
      text = 40 ∷ 42 ∷ [];
      is = ap (λ xs. xs ++ 42 ∷ []) half.is ∙ append_assoc half.front (40 ∷ []) (42 ∷ []);
      there = half.there;
      before = before_half half.before;
      begins = refl;
      inside = λ more. zero_first 1 more (omega arith);
    }

-- a byte outside comments, which ends no command
pub blank_passes : {from last : ℕ} {comment : ℕ} {bytes : List ℕ} (b c : ℕ) → EndsOutside from last None comment bytes → is_blank b ≡ true
    → EndsOutside from b None c (bytes ++ b ∷ [])
blank_passes b c o h = record { passed = go o.passed refl; half = λ e. absurd (true≢false (sym h ∙ ap is_blank e)) }
  where
    go : {from last : ℕ} {start : Option ℕ} {bytes : List ℕ} → Passed from last start bytes → start ≡ None → Passed from b None (bytes ++ b ∷ [])
    go (Passed.gap g) e = Passed.gap (gap_join g (Gap.blank h Gap.none))
    go (Passed.command g f) e = absurd (cc)

-- the first byte of a command
pub first_passes : {from last : ℕ} {comment : ℕ} {bytes : List ℕ} (b index : ℕ) → EndsOutside from last None comment bytes → is_blank b ≡ false → b ≢ 59 → index ≡ from + length bytes
    → EndsOutside from b (Some index) index (bytes ++ b ∷ [])
first_passes {from} {bytes = bytes} b index o h other there = record { passed = go o.passed refl there; half = half }
  where
    gap_of : {from last : ℕ} {start : Option ℕ} {bytes : List ℕ} → Passed from last start bytes → start ≡ None → Gap bytes
    gap_of (Passed.gap g) e = g
    gap_of (Passed.command g f) e = absurd (cc)

    go : {from last : ℕ} {start : Option ℕ} {bytes : List ℕ} → Passed from last start bytes → start ≡ None → index ≡ from + length bytes → Passed from b (Some index) (bytes ++ b ∷ [])
    go {from} {bytes = bytes} p e same = subst (λ i. Passed from b (Some i) (bytes ++ b ∷ [])) (sym same) (Passed.command (gap_of p e) (first_front b other h))

    half : b ≡ 40 → EndsHalf from (Some index) index (bytes ++ b ∷ [])
    half e = record {
      front = bytes;
      is = ap (λ x. bytes ++ x ∷ []) e;
      there = there;
      before = BeforeHalf.here (gap_of o.passed refl);
    }

started_inside : {from last start : ℕ} {s : Option ℕ} {bytes : List ℕ} → Passed from last s bytes → s ≡ Some start → start < from + length bytes
started_inside (Passed.gap g) e = absurd (cc)
started_inside {from} {start = start} (Passed.command {gap = gap} {body = body} g f) e =
    let same : from + length gap ≡ start = cc in omega (arith, same, front_some f, length-append gap body)

-- a further byte of a command
pub later_passes : {from last start : ℕ} {comment : ℕ} {bytes : List ℕ} (b index : ℕ) → EndsOutside from last (Some start) comment bytes → b ≢ 59 → (last ≡ 40 → b ≡ 42 → ⊥) → index ≡ from + length bytes
    → EndsOutside from b (Some start) index (bytes ++ b ∷ [])
later_passes {from} {start = start} {bytes = bytes} b index o other apart there = record { passed = go o.passed refl apart; half = half }
  where
    go : {from last : ℕ} {s : Option ℕ} {bytes : List ℕ} → Passed from last s bytes → s ≡ Some start → (last ≡ 40 → b ≡ 42 → ⊥) → Passed from b (Some start) (bytes ++ b ∷ [])
    go (Passed.gap g) e apart = absurd (cc)
    go {from} (Passed.command {gap = gap} {body = body} g f) e apart =
        let same : from + length gap ≡ start = cc in
        subst (λ i. Passed from b (Some i) ((gap ++ body) ++ b ∷ [])) same (shift gap body (b ∷ []) (Passed.command g (front_byte f b other apart)))

    half : b ≡ 40 → EndsHalf from (Some start) index (bytes ++ b ∷ [])
    half e =
        let inside : start < from + length bytes = started_inside o.passed refl in
        let before : start < index = omega (arith, inside, there) in
        record {
          front = bytes;
          is = ap (λ x. bytes ++ x ∷ []) e;
          there = there;
          before = BeforeHalf.earlier before (passed_weaker o.passed);
        }

-- a byte that is no blank before a command
pub token_passes : {from last : ℕ} {start : Option ℕ} {comment : ℕ} {bytes : List ℕ} (b index : ℕ) → EndsOutside from last start comment bytes → b ≢ 59 → (start ≡ None → is_blank b ≡ false)
    → (last ≡ 40 → b ≡ 42 → ⊥) → index ≡ from + length bytes → EndsOutside from b (Some (unwrap_or start index)) index (bytes ++ b ∷ [])
token_passes {start = None} b index o other blank apart there = first_passes b index o (blank refl) other there
token_passes {start = Some start} b index o other blank apart there = later_passes b index o other apart there

-- the `;` that ends a command
semicolon_begins : (more : List ℕ) → BeginsToken (59 ∷ more)
semicolon_begins [] = record { no_blank = refl; no_comment = refl }
semicolon_begins (b ∷ more) = record { no_blank = refl; no_comment = refl }

pub record EndsHere (from start : ℕ) (bytes : List ℕ) : Type 0 where
  pub gap : List ℕ
  pub body : List ℕ
  pub begins : Begins (bytes ++ 59 ∷ []) (First.Command gap body [])
  pub starts : start ≡ from + length gap
  pub ends : from + length bytes + 1 ≡ from + length gap + length body + 1

pub alone_ends : {from last : ℕ} {comment : ℕ} {bytes : List ℕ} (index : ℕ) → EndsOutside from last None comment bytes → index ≡ from + length bytes → EndsHere from index bytes
alone_ends {from} index o there = go o.passed refl there
  where
    go : {from last : ℕ} {s : Option ℕ} {bytes : List ℕ} → Passed from last s bytes → s ≡ None → index ≡ from + length bytes → EndsHere from index bytes
    go (Passed.gap {gap = gap} g) e there = record { gap = gap; body = []; begins = subst (λ xs. Begins (xs ++ 59 ∷ []) (First.Command gap [] [])) (append-nil gap) (Begins.command g Unbroken.none (semicolon_begins [])); starts = there; ends = omega arith }
    go (Passed.command g f) e there = absurd (cc)

pub later_ends : {from last start : ℕ} {comment : ℕ} {bytes : List ℕ} → EndsOutside from last (Some start) comment bytes → EndsHere from start bytes
later_ends {start = start} o = go o.passed refl
  where
    go : {from last : ℕ} {s : Option ℕ} {bytes : List ℕ} → Passed from last s bytes → s ≡ Some start → EndsHere from start bytes
    go (Passed.gap g) e = absurd (cc)
    go {from} (Passed.command {gap = gap} {body = body} g f) e =
        let same : from + length gap ≡ start = cc in
        record {
          gap = gap;
          body = body;
          begins = Begins.command g (front_whole f) (f.begins (59 ∷ []) (λ h. refl));
          starts = sym same;
          ends = omega (arith, length-append gap body);
        }

pub token_ends : {from last : ℕ} {start : Option ℕ} {comment : ℕ} {bytes : List ℕ} (index : ℕ) → EndsOutside from last start comment bytes → index ≡ from + length bytes
    → EndsHere from (unwrap_or start index) bytes
token_ends {start = None} index o there = alone_ends index o there
token_ends {start = Some start} index o there = later_ends o

-- behind a command stands a gap
pub fresh : (from last comment : ℕ) → (last ≡ 40 → ⊥) → EndsOutside from last None comment []
fresh from last comment h = record { passed = Passed.gap Gap.none; half = λ e. absurd (h e) }

pub passed_unbroken : {from last : ℕ} {s : Option ℕ} {bytes : List ℕ} → Passed from last s bytes → Unbroken bytes
passed_unbroken (Passed.gap g) = gap_unbroken g
passed_unbroken (Passed.command {gap = gap} {body = body} g f) = gap_then body g (front_whole f)

pub inside_open : {from depth last : ℕ} {start : Option ℕ} {comment : ℕ} {bytes : List ℕ} (e : EndsInside from depth last start comment bytes) → 0 < depth → IsOpenComment e.text
inside_open {depth = depth} {last = last} e h = record {
  begins = e.begins;
  unended = ap (behind_comments 1) (sym (append-nil (drop 2 e.text))) ∙ (e.inside [] ∙ too_short depth (last ∷ []) h (omega arith));
}

-- what stands behind the last command
pub blank_cut : {from last : ℕ} {start : Option ℕ} {bytes : List ℕ} → Passed from last start bytes → start ≡ None → IsCut from bytes Cut.Blank
blank_cut (Passed.gap g) e = record { first = First.Blank; begins = Begins.blank g; is = refl }
blank_cut (Passed.command g f) e = absurd (cc)

pub unended_cut : {from last : ℕ} {s : Option ℕ} {bytes : List ℕ} (start : ℕ) → Passed from last s bytes → s ≡ Some start → IsCut from bytes (Cut.Unended start)
unended_cut start (Passed.gap g) e = absurd (cc)
unended_cut {from} start (Passed.command {gap = gap} {body = body} g f) e =
    let same : from + length gap ≡ start = cc in
    record { first = First.Unended gap; begins = Begins.unended g (front_whole f) (front_begins f); is = ap Cut.Unended (sym same) }

pub open_cut : {from depth last : ℕ} {start : Option ℕ} {comment : ℕ} {bytes : List ℕ} → EndsInside from depth last start comment bytes → 0 < depth → IsCut from bytes (Cut.OpenComment comment)
open_cut e h = record {
  first = First.OpenComment e.front;
  begins = subst (λ xs. Begins xs (First.OpenComment e.front)) (sym e.is) (Begins.open_comment (passed_unbroken e.before) (inside_open e h));
  is = ap Cut.OpenComment e.there;
}

-- where the command behind the last one begins
outside_started : {from last : ℕ} {start : Option ℕ} {bytes : List ℕ} → Passed from last start bytes → HasStarted from bytes start
outside_started (Passed.gap g) = HasStarted.blank g
outside_started (Passed.command g f) = HasStarted.token g (front_begins f)

inside_started : {from : ℕ} {start : Option ℕ} {front : List ℕ} (text : List ℕ) → Passed from 40 start front → IsOpenComment text → HasStarted from (front ++ text) start
inside_started text (Passed.gap g) o = HasStarted.open_comment g o
inside_started {from} text (Passed.command {gap = gap} {body = body} g f) o =
    subst (λ xs. HasStarted from xs (Some (from + length gap))) (sym (append_assoc gap body text)) (HasStarted.token g (f.begins text (subst (Apart 40) (append-nil text) (comment_apart 40 text [] o.begins))))

pub stands_started : {cutter : Cutter} {from : ℕ} {bytes : List ℕ} → Stands cutter from bytes → HasStarted from bytes cutter.start
stands_started {cutter} {from} {bytes} s = by_depth cutter.depth refl
  where
    by_depth : (n : ℕ) → cutter.depth ≡ n → HasStarted from bytes cutter.start
    by_depth zero e = outside_started (s.outside e).passed
    by_depth (suc n) e =
        let some : 0 < cutter.depth = omega (arith, e) in
        let i = s.inside some in
        subst (λ xs. HasStarted from xs cutter.start) (sym i.is) (inside_started i.text i.before (inside_open i some))

-- the code's tests
pub none_there : {X : Type 0} (o : Option X) → is_some o ≡ false → o ≡ None
none_there None h = refl
none_there (Some x) h = absurd (true≢false h)

pub not_none : {X : Type 0} (o : Option X) → o ≡ None → is_some o ≡ true → ⊥
not_none None e h = true≢false (sym h)
not_none (Some x) e h = cc
