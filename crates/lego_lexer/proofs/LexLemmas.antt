-- Tokens that are read one behind the other.
use Rattle.std.proofs.Common.{◌≡◌, ℕ, ◌+◌, ◌<◌, ◌≤◌, zero, suc, Option, Some, None, Result, Ok, Err, List, [], ◌∷◌, ◌++◌, length, drop, map, refl, sym, ap, ◌∙◌, subst, arith, append_assoc}
use Rattle.std.specs.Prelude.{slice_range, MatchResult}
use Rattle.std.proofs.lemmas.List.{map-append}
use Rattle.std.proofs.lemmas.List.Elements.{All-append}
use Rattle.std.proofs.lemmas.List.Folds.{drop_split}
use Rattle.lego_base.specs.Place.{behind}
use Rattle.lego_base.specs.declared.place.Place.{Place}
use Rattle.lego_lexer.specs.Bytes.{Gap, BeginsToken}
use Rattle.lego_lexer.specs.Tokens.{Lexeme, Point, Placed, Reads, Refused, FaultAt, WithinLimits, AllWithinLimits, placed, placed_at, point_behind, start}
use Rattle.lego_lexer.specs.private.Scanned.{IsToken, IsTokenAt, IsFirst, IsNext, IsFault, point}
use Rattle.lego_lexer.specs.declared.token.Token.{Token}
use Rattle.lego_lexer.specs.declared.token.LexFault.{LexFault}
use Rattle.lego_lexer.specs.declared.tokens.Cursor.{Cursor}
use Rattle.lego_lexer.specs.declared.tokens.Next.{Next}
use Rattle.lego_lexer.proofs.SliceLemmas.{slice_length}

pub reads_join : {a b c : Point} {xs ys zs : List ℕ} {ts us : List Placed} → Reads a xs ts b ys → Reads b ys us c zs → Reads a xs (ts ++ us) c zs
reads_join Reads.none q = q
reads_join (Reads.token g b l r) q = Reads.token g b l (reads_join r q)

abbrev the_placed : Lexeme → Place → ℕ → ℕ → Placed
the_placed lexeme p a c = record { lexeme = lexeme; place = p; from = a; to = c }

placed_equal : (lexeme : Lexeme) (p q : Place) (a b c d : ℕ) → p ≡ q → a ≡ b → c ≡ d
    → the_placed lexeme p a c ≡ the_placed lexeme q b d
placed_equal lexeme p q a b c d e f g = rw (e, f, g) refl

abbrev the_point : Place → ℕ → Point
the_point p a = record { place = p; before = a }

point_equal : (p q : Place) (a b : ℕ) → p ≡ q → a ≡ b → the_point p a ≡ the_point q b
point_equal p q a b e f = rw (e, f) refl

pub first_is_read : (bytes : List ℕ) (from at : Cursor) (next : Next) → from.index ≤ at.index → at.index ≤ length bytes
    → Gap (slice_range bytes from.index at.index) → BeginsToken (drop at.index bytes)
    → at.place ≡ behind from.place (slice_range bytes from.index at.index) → IsToken bytes at next → IsFirst bytes from next
first_is_read bytes from at next after within gap begins place t =
    let text = slice_range bytes at.index next.behind.index in
    let blanks = slice_range bytes from.index at.index in
    let rest = drop next.behind.index bytes in
    let on : at.index ≤ next.behind.index = omega (arith, t.after) in
    let tail : drop at.index bytes ≡ text ++ rest = drop_split bytes at.index next.behind.index on in
    let all : blanks ++ text ++ rest ≡ drop from.index bytes =
    append_assoc blanks text rest ∙ (ap (λ xs. blanks ++ xs) (sym tail) ∙ sym (drop_split bytes from.index at.index after)) in
    let here : from.index + length blanks ≡ at.index = slice_length bytes from.index at.index after within in
    let ahead : at.index + length text ≡ next.behind.index = slice_length bytes at.index next.behind.index on t.within in
    let first : from.index + length blanks ≡ next.token.from = here ∙ sym t.from in
    let last : from.index + length blanks + length text ≡ next.behind.index = ap (λ n. n + length text) here ∙ ahead in
    let token : placed_at (point_behind (point from) blanks) text (placed bytes next.token).lexeme ≡ placed bytes next.token =
    placed_equal (placed bytes next.token).lexeme _ _ _ _ _ _ (sym place ∙ sym t.place) first (last ∙ sym t.to) in
    let end : point_behind (point_behind (point from) blanks) text ≡ point next.behind =
    point_equal _ _ _ _ (ap (λ p. behind p text) (sym place) ∙ sym t.behind_place) last in
    let read : Reads (point from) (blanks ++ text ++ rest) (placed_at (point_behind (point from) blanks) text (placed bytes next.token).lexeme ∷ []) (point_behind (point_behind (point from) blanks) text) rest =
    Reads.token gap (subst BeginsToken tail begins) t.longest Reads.none in
    record {
      reads = subst (λ xs. Reads (point from) xs (placed bytes next.token ∷ []) (point next.behind) rest) all
          (subst (λ x. Reads (point from) (blanks ++ text ++ rest) (x ∷ []) (point next.behind) rest) token
          (subst (λ e. Reads (point from) (blanks ++ text ++ rest) (placed_at (point_behind (point from) blanks) text (placed bytes next.token).lexeme ∷ []) e rest) end read));
      small = t.small;
      after = omega (arith, t.after);
      within = t.within;
      room = t.room;
    }

-- a fault behind a gap, by the place of the cursor there
pub fault_there : (bytes : List ℕ) (from : Cursor) (at : ℕ) (place : Place) (fault : LexFault) → from.index ≤ at
    → Gap (slice_range bytes from.index at) → place ≡ behind from.place (slice_range bytes from.index at)
    → FaultAt place (drop at bytes) fault → IsFault bytes from fault
fault_there bytes from at place fault after gap e f = record {
  gap = slice_range bytes from.index at;
  rest = drop at bytes;
  joins = drop_split bytes from.index at after;
  blank = gap;
  cause = subst (λ p. FaultAt p (drop at bytes) fault) e f;
}

pub refused_there : (place : Place) (bytes : List ℕ) (tokens : List Placed) (at : Cursor) (fault : LexFault)
    → Reads (start place) bytes tokens (point at) (drop at.index bytes) → AllWithinLimits tokens → IsFault bytes at fault → Refused place bytes fault
refused_there place bytes tokens at fault reads small f = record {
  tokens = tokens;
  end = point at;
  gap = f.gap;
  rest = f.rest;
  reads = subst (Reads (start place) bytes tokens (point at)) f.joins reads;
  within = small;
  blank = f.blank;
  cause = f.cause;
}

-- the answer at a cursor behind a gap, for the cursor before it
pub next_answer : (bytes : List ℕ) (from at : Cursor) (i : ℕ) (r : Result (Option Next) LexFault) → at.index ≡ i → from.index ≤ i → i < length bytes
    → Gap (slice_range bytes from.index i) → BeginsToken (drop i bytes) → at.place ≡ behind from.place (slice_range bytes from.index i)
    → MatchResult r (IsTokenAt bytes at) (FaultAt at.place (drop at.index bytes)) → MatchResult r (IsNext bytes from) (IsFault bytes from)
next_answer bytes from at i (Ok None) e after within gap begins place t = absurd t
next_answer bytes from at i (Ok (Some next)) e after within gap begins place t =
    first_is_read bytes from at next (omega arith) (omega arith) (subst (λ k. Gap (slice_range bytes from.index k)) (sym e) gap)
    (subst (λ k. BeginsToken (drop k bytes)) (sym e) begins) (place ∙ ap (λ k. behind from.place (slice_range bytes from.index k)) (sym e)) t
next_answer bytes from at i (Err fault) e after within gap begins place t =
    fault_there bytes from i at.place fault after gap place (subst (λ k. FaultAt at.place (drop k bytes) fault) e t)

-- the tokens so far, and one more
pub one_more : (place : Place) (bytes : List ℕ) (tokens : List Token) (at : Cursor) (next : Next)
    → Reads (start place) bytes (map (placed bytes) tokens) (point at) (drop at.index bytes) → IsFirst bytes at next
    → Reads (start place) bytes (map (placed bytes) (tokens ++ next.token ∷ [])) (point next.behind) (drop next.behind.index bytes)
one_more place bytes tokens at next reads first =
    subst (λ ts. Reads (start place) bytes ts (point next.behind) (drop next.behind.index bytes)) (sym (map-append (placed bytes) tokens (next.token ∷ []))) (reads_join reads first.reads)

pub one_more_within : (bytes : List ℕ) (tokens : List Token) (t : Token) → AllWithinLimits (map (placed bytes) tokens) → WithinLimits (placed bytes t).lexeme
    → AllWithinLimits (map (placed bytes) (tokens ++ t ∷ []))
one_more_within bytes tokens t all small =
    subst AllWithinLimits (sym (map-append (placed bytes) tokens (t ∷ [])))
    (All-append (λ x. WithinLimits x.lexeme) (map (placed bytes) tokens) (placed bytes t ∷ []) all (one_within (placed bytes t) small))
  where
    one_within : (x : Placed) → WithinLimits x.lexeme → AllWithinLimits (x ∷ [])
    one_within x h zero d k = h
    one_within x h (suc i) d k = absurd (omega arith)

pub none_within : AllWithinLimits []
none_within k d h = absurd (omega arith)
