-- What is read where a token ends a spine, a sum or a whole term.
use Rattle.std.proofs.Common.{◌≡◌, ℕ, suc, List, [], ◌∷◌, ◌++◌, Bool, refl, sym, ap, ◌∙◌, subst, append_assoc}
use Rattle.lego_base.specs.declared.place.Place.{Place}
use Rattle.lego_term.specs.declared.binder.Mark.TheVariants.{Plain, Implicit}
use Rattle.lego_lexer.specs.Tokens.{Name}
use Rattle.lego_lexer.specs.declared.token.Symbol.TheVariants.{OpenSquare, Equals, Hash, Arrow, Bar}
use Rattle.lego_grammar.specs.declared.surface.Kind.TheVariants.{Pi, Sigma}
use Rattle.lego_grammar.specs.Written.{Written, Apply}
use Rattle.lego_grammar.specs.Grammar.{Names, Nested, token, symbol, Term, Ending, Sum, Spine, Post, Binder, Reads, names_of, opening, sign}
use Rattle.lego_grammar.specs.private.Machine.{Frame, ApplyTo, HashFrom, ArrowFrom, keep, height, settled, summed, closed}
use Rattle.lego_grammar.proofs.Complete.{kept-apply, kept-bind, kept-local, height-settled}
use Rattle.lego_grammar.proofs.Sound.{glue, push, NoApply, NoSum, Awaits}

module _ (names : Names) (b : Bool) where
  -- what the tokens of the last operand are read as
  pub data Got (d : ℕ) (ts : List Nested) (s : Written) : Type 0 where
    post : Reads names d Post ts s → Got d ts s
    binder : Reads names d Binder ts s → Got d ts s
    sum : Reads names d Sum ts s → Got d ts s
    ending : Reads names d Ending ts s → Got d ts s
    term : Reads names d Term ts s → Got d ts s

  pub as_term : {d : ℕ} {ts : List Nested} {s : Written} → Got d ts s → Reads names d Term ts s
  as_term (Got.post r) = Reads.term_sum (Reads.sum_spine (Reads.spine_post r))
  as_term (Got.binder r) = Reads.term_ending (Reads.ending_binder r)
  as_term (Got.sum r) = Reads.term_sum r
  as_term (Got.ending r) = Reads.term_ending r
  as_term (Got.term r) = r

  -- what may stand above the frames
  abbrev pub Suits : {d : ℕ} {ts : List Nested} {s : Written} → List Frame → Got d ts s → Type 0
  Suits (ApplyTo _ _ ∷ _) (Got.post r) = Unit {0}
  Suits (ApplyTo _ _ ∷ _) (Got.binder r) = Unit {0}
  Suits (ApplyTo _ _ ∷ _) _ = ⊥
  Suits (HashFrom _ ∷ _) (Got.term r) = ⊥
  Suits _ _ = Unit {0}

  pub suits_sum : {d : ℕ} {ts : List Nested} {s : Written} (fs : List Frame) (r : Reads names d Sum ts s) → NoApply fs → Suits fs (Got.sum r)
  suits_sum (ApplyTo _ _ ∷ _) r n = n
  suits_sum _ r n = tt

  pub suits_ending : {d : ℕ} {ts : List Nested} {s : Written} (fs : List Frame) (r : Reads names d Ending ts s) → NoApply fs → Suits fs (Got.ending r)
  suits_ending (ApplyTo _ _ ∷ _) r n = n
  suits_ending _ r n = tt

  pub suits_binder : {d : ℕ} {ts : List Nested} {s : Written} (fs : List Frame) (r : Reads names d Binder ts s) → Suits fs (Got.binder r)
  suits_binder (ApplyTo _ _ ∷ _) r = tt
  suits_binder _ r = tt

  pub suits_term : {d : ℕ} {ts : List Nested} {s : Written} (fs : List Frame) (r : Reads names d Term ts s) → NoSum fs → Suits fs (Got.term r)
  suits_term (ApplyTo _ _ ∷ _) r n = n
  suits_term (HashFrom _ ∷ _) r n = n
  suits_term _ r n = tt

  -- all tokens, where a whole term stands above a frame that awaits a closing token
  pub record Ended (all : List Nested) (v : Written) (f : Frame) (gs : List Frame) : Type 0 where
    pub before : List Nested
    pub tokens : List Nested
    pub tree : Written
    pub whole : before ++ tokens ≡ all
    pub awaits : Awaits names b before (f ∷ gs)
    pub reads : Reads names (height (f ∷ gs)) Term tokens tree
    pub is : v ≡ keep b tree

  pub same_tokens : {all all' : List Nested} {v : Written} {f : Frame} {gs : List Frame} → all ≡ all' → Ended all v f gs → Ended all' v f gs
  same_tokens e x = record { before = x.before; tokens = x.tokens; tree = x.tree; whole = x.whole ∙ e; awaits = x.awaits; reads = x.reads; is = x.is }

  pub ended : {ws ts : List Nested} {s v : Written} {f g : Frame} {fs gs : List Frame}
      → Awaits names b ws (f ∷ fs) → Got (height (f ∷ fs)) ts s → ◌≡◌ {A = Written × List Frame} (keep b s, f ∷ fs) (v, g ∷ gs) → Ended (ws ++ ts) v g gs
  ended {ws} {ts} {s} a r e = record {
    before = ws;
    tokens = ts;
    tree = s;
    whole = refl;
    awaits = subst (λ l. Awaits names b ws l) (ap (λ (x : Written × List Frame). x.1) e) a;
    reads = subst (λ l. Reads names (height l) Term ts s) (ap (λ (x : Written × List Frame). x.1) e) (as_term r);
    is = sym (ap (λ (x : Written × List Frame). x.0) e);
  }

  pub close : {ws ts : List Nested} {s v : Written} {f : Frame} {fs gs : List Frame}
      → Awaits names b ws fs → (r : Got (height fs) ts s) → Suits fs r → closed b (keep b s) fs ≡ (v, f ∷ gs) → Ended (ws ++ ts) v f gs
  close {ts = ts} {s = s} (Awaits.apply {ws} {ts = us} {fs} {f} a n q) (Got.post r) h e =
      same_tokens (sym (append_assoc ws us ts)) (close a (Got.sum (Reads.sum_spine (Reads.apply q r))) (suits_sum fs _ n) (sym (ap (λ w. closed b w fs) (kept-apply b Plain f s)) ∙ e))
  close {ts = ts} {s = s} (Awaits.apply {ws} {ts = us} {fs} {f} a n q) (Got.binder r) h e =
      same_tokens (sym (append_assoc ws us ts)) (close a (Got.ending (Reads.apply_binder q r)) (suits_ending fs _ n) (sym (ap (λ w. closed b w fs) (kept-apply b Plain f s)) ∙ e))
  close (Awaits.apply a n q) _ h e = absurd h
  close {ts = ts} {s = s} (Awaits.apply_bar {ws} {ts = us} {fs} {f} p a n q) (Got.post r) h e =
      same_tokens (glue ws us _ ts) (close a (Got.sum (Reads.sum_spine (Reads.apply_bar p q r))) (suits_sum fs _ n) (sym (ap (λ w. closed b w fs) (kept-apply b Implicit f s)) ∙ e))
  close {ts = ts} {s = s} (Awaits.apply_bar {ws} {ts = us} {fs} {f} p a n q) (Got.binder r) h e =
      same_tokens (glue ws us _ ts) (close a (Got.ending (Reads.apply_bar_binder p q r)) (suits_ending fs _ n) (sym (ap (λ w. closed b w fs) (kept-apply b Implicit f s)) ∙ e))
  close (Awaits.apply_bar p a n q) _ h e = absurd h
  close {ts = ts} {s = s} (Awaits.hash {ws} {ts = us} {fs} {a = f} p a n q) (Got.post r) h e =
      same_tokens (glue ws us _ ts) (close a (Got.sum (Reads.hash_sum p q (Reads.sum_spine (Reads.spine_post r)))) (suits_sum fs _ n) (sym (ap (λ w. closed b w fs) (kept-bind b Sigma Plain [] f s)) ∙ e))
  close {ts = ts} {s = s} (Awaits.hash {ws} {ts = us} {fs} {a = f} p a n q) (Got.sum r) h e =
      same_tokens (glue ws us _ ts) (close a (Got.sum (Reads.hash_sum p q r)) (suits_sum fs _ n) (sym (ap (λ w. closed b w fs) (kept-bind b Sigma Plain [] f s)) ∙ e))
  close {ts = ts} {s = s} (Awaits.hash {ws} {ts = us} {fs} {a = f} p a n q) (Got.binder r) h e =
      same_tokens (glue ws us _ ts) (close a (Got.ending (Reads.hash_ending p q (Reads.ending_binder r))) (suits_ending fs _ n) (sym (ap (λ w. closed b w fs) (kept-bind b Sigma Plain [] f s)) ∙ e))
  close {ts = ts} {s = s} (Awaits.hash {ws} {ts = us} {fs} {a = f} p a n q) (Got.ending r) h e =
      same_tokens (glue ws us _ ts) (close a (Got.ending (Reads.hash_ending p q r)) (suits_ending fs _ n) (sym (ap (λ w. closed b w fs) (kept-bind b Sigma Plain [] f s)) ∙ e))
  close (Awaits.hash p a n q) (Got.term r) h e = absurd h
  close {ts = ts} {s = s} (Awaits.arrow {ws} {ts = us} {fs} {a = f} p a n q) r h e =
      same_tokens (glue ws us _ ts) (close a (Got.term (Reads.arrow p q (as_term r))) (suits_term fs _ n) (sym (ap (λ w. closed b w fs) (kept-bind b Pi Plain [] f s)) ∙ e))
  close {ts = ts} {s = s} (Awaits.body {ws} {ns} {ts = us} {fs} {k} {m} {xs} {a = c} p q r a mb nl rc) x h e =
      same_tokens (glue ws (symbol (height fs) p (opening k) ∷ ns ++ symbol (suc (height fs)) q (sign m) ∷ us) _ ts)
      (close a (Got.binder (Reads.bind p q r mb nl rc (as_term x))) (suits_binder fs _) (sym (ap (λ w. closed b w fs) (kept-bind b k m (names_of xs) c s)) ∙ e))
  close {ts = ts} {s = s} (Awaits.locally {ws} {ts = us} {fs} n {text} {m} p q r t a i rm) x h e =
      same_tokens (glue ws (symbol (height fs) p OpenSquare ∷ token (suc (height fs)) q (Name text) ∷ symbol (suc (height fs)) r Equals ∷ us) _ ts)
      (close a (Got.binder (Reads.local p q r t i rm (as_term x))) (suits_binder fs _) (sym (ap (λ w. closed b w fs) (kept-local b n m s)) ∙ e))
  close a r h e = ended a r e

  -- an argument goes to its function
  pub record Settled (all : List Nested) (v : Written) (fs : List Frame) : Type 0 where
    pub before : List Nested
    pub tokens : List Nested
    pub tree : Written
    pub whole : before ++ tokens ≡ all
    pub awaits : Awaits names b before fs
    pub free : NoApply fs
    pub reads : Reads names (height fs) Spine tokens tree
    pub is : v ≡ keep b tree

  pub settle : {ws ts : List Nested} {s : Written} {fs : List Frame}
      → Awaits names b ws fs → Reads names (height fs) Post ts s → Settled (ws ++ ts) (settled b (keep b s) fs).0 (settled b (keep b s) fs).1
  settle {ts = ts} {s = s} (Awaits.apply {ws} {ts = us} {fs} {f} a n q) r =
      record { before = ws; tokens = us ++ ts; tree = Apply Plain f s; whole = sym (append_assoc ws us ts); awaits = a; free = n; reads = Reads.apply q r; is = kept-apply b Plain f s }
  settle {ts = ts} {s = s} (Awaits.apply_bar {ws} {ts = us} {fs} {f} p a n q) r =
      record { before = ws; tokens = us ++ symbol (height fs) p Bar ∷ ts; tree = Apply Implicit f s; whole = glue ws us _ ts; awaits = a; free = n; reads = Reads.apply_bar p q r; is = kept-apply b Implicit f s }
  settle {ws} {ts} {s} a r = record { before = ws; tokens = ts; tree = s; whole = refl; awaits = a; free = tt; reads = Reads.spine_post r; is = refl }

  -- a spine ends its sums
  pub record Summed (all : List Nested) (v : Written) (fs : List Frame) : Type 0 where
    pub before : List Nested
    pub tokens : List Nested
    pub tree : Written
    pub whole : before ++ tokens ≡ all
    pub awaits : Awaits names b before fs
    pub free : NoSum fs
    pub reads : Reads names (height fs) Sum tokens tree
    pub is : v ≡ keep b tree

  pub same_summed : {all all' : List Nested} {v v' : Written} {fs fs' : List Frame} → all ≡ all' → ◌≡◌ {A = Written × List Frame} (v, fs) (v', fs') → Summed all v fs → Summed all' v' fs'
  same_summed {all' = all'} {v} {fs = fs} e d x =
      subst (λ y. Summed all' y.0 y.1) d (record { before = x.before; tokens = x.tokens; tree = x.tree; whole = x.whole ∙ e; awaits = x.awaits; free = x.free; reads = x.reads; is = x.is })

  pub sum_tail : {ws ts : List Nested} {s : Written} {fs : List Frame}
      → Awaits names b ws fs → NoApply fs → Reads names (height fs) Sum ts s → Summed (ws ++ ts) (summed b (keep b s) fs).0 (summed b (keep b s) fs).1
  sum_tail (Awaits.apply a n q) h r = absurd h
  sum_tail (Awaits.apply_bar p a n q) h r = absurd h
  sum_tail {ts = ts} {s = s} (Awaits.hash {ws} {ts = us} {fs} {a = f} p a n q) h r =
      same_summed (glue ws us _ ts) (ap (λ w. summed b w fs) (sym (kept-bind b Sigma Plain [] f s))) (sum_tail a n (Reads.hash_sum p q r))
  sum_tail {ws} {ts} {s} a h r = record { before = ws; tokens = ts; tree = s; whole = refl; awaits = a; free = tt; reads = r; is = refl }

  pub sum_of : {ws ts : List Nested} {s : Written} {fs : List Frame}
      → Awaits names b ws fs → Reads names (height fs) Post ts s → Summed (ws ++ ts) (summed b (keep b s) fs).0 (summed b (keep b s) fs).1
  sum_of {ts = ts} {s = s} (Awaits.apply {ws} {ts = us} {fs} {f} a n q) r =
      same_summed (sym (append_assoc ws us ts)) (ap (λ w. summed b w fs) (sym (kept-apply b Plain f s))) (sum_tail a n (Reads.sum_spine (Reads.apply q r)))
  sum_of {ts = ts} {s = s} (Awaits.apply_bar {ws} {ts = us} {fs} {f} p a n q) r =
      same_summed (glue ws us _ ts) (ap (λ w. summed b w fs) (sym (kept-apply b Implicit f s))) (sum_tail a n (Reads.sum_spine (Reads.apply_bar p q r)))
  sum_of {ts = ts} {s = s} (Awaits.hash {ws} {ts = us} {fs} {a = f} p a n q) r =
      same_summed (glue ws us _ ts) (ap (λ w. summed b w fs) (sym (kept-bind b Sigma Plain [] f s))) (sum_tail a n (Reads.hash_sum p q (Reads.sum_spine (Reads.spine_post r))))
  sum_of {ws} {ts} {s} a r = record { before = ws; tokens = ts; tree = s; whole = refl; awaits = a; free = tt; reads = Reads.sum_spine (Reads.spine_post r); is = refl }

  -- a function that awaits an argument
  pub argument : {ws ts : List Nested} {s v : Written} {fs : List Frame} → Awaits names b ws fs → Reads names (height fs) Post ts s → v ≡ keep b s
      → Awaits names b (ws ++ ts) (ApplyTo Plain (settled b v fs).0 ∷ (settled b v fs).1)
  argument {ws} {ts} {s} {v} {fs} a r e =
      let x = settle a r in
      subst (λ w. Awaits names b (ws ++ ts) (ApplyTo Plain (settled b w fs).0 ∷ (settled b w fs).1)) (sym e)
      (subst (λ w. Awaits names b (ws ++ ts) (ApplyTo Plain w ∷ (settled b (keep b s) fs).1)) (sym x.is)
      (subst (λ l. Awaits names b l (ApplyTo Plain (keep b x.tree) ∷ (settled b (keep b s) fs).1)) x.whole (Awaits.apply x.awaits x.free x.reads)))

  pub bar_argument : {ws ts : List Nested} {s v : Written} {fs : List Frame} (p : Place) → Awaits names b ws fs → Reads names (height fs) Post ts s → v ≡ keep b s
      → Awaits names b ((ws ++ ts) ++ symbol (height fs) p Bar ∷ []) (ApplyTo Implicit (settled b v fs).0 ∷ (settled b v fs).1)
  bar_argument {ws} {ts} {s} {v} {fs} p a r e =
      let x = settle a r in
      subst (λ w. Awaits names b ((ws ++ ts) ++ symbol (height fs) p Bar ∷ []) (ApplyTo Implicit (settled b w fs).0 ∷ (settled b w fs).1)) (sym e)
      (subst (λ w. Awaits names b ((ws ++ ts) ++ symbol (height fs) p Bar ∷ []) (ApplyTo Implicit w ∷ (settled b (keep b s) fs).1)) (sym x.is)
      (subst (λ d. Awaits names b ((ws ++ ts) ++ symbol d p Bar ∷ []) (ApplyTo Implicit (keep b x.tree) ∷ (settled b (keep b s) fs).1)) (height-settled b (keep b s) fs)
      (subst (λ l. Awaits names b l (ApplyTo Implicit (keep b x.tree) ∷ (settled b (keep b s) fs).1)) (sym (push x.before x.tokens _ (sym x.whole)))
      (Awaits.apply_bar p x.awaits x.free x.reads))))

  pub hash_side : {ws ts : List Nested} {s v : Written} {fs : List Frame} (p : Place) → Awaits names b ws fs → Reads names (height fs) Post ts s → v ≡ keep b s
      → Awaits names b ((ws ++ ts) ++ symbol (height fs) p Hash ∷ []) (HashFrom (settled b v fs).0 ∷ (settled b v fs).1)
  hash_side {ws} {ts} {s} {v} {fs} p a r e =
      let x = settle a r in
      subst (λ w. Awaits names b ((ws ++ ts) ++ symbol (height fs) p Hash ∷ []) (HashFrom (settled b w fs).0 ∷ (settled b w fs).1)) (sym e)
      (subst (λ w. Awaits names b ((ws ++ ts) ++ symbol (height fs) p Hash ∷ []) (HashFrom w ∷ (settled b (keep b s) fs).1)) (sym x.is)
      (subst (λ d. Awaits names b ((ws ++ ts) ++ symbol d p Hash ∷ []) (HashFrom (keep b x.tree) ∷ (settled b (keep b s) fs).1)) (height-settled b (keep b s) fs)
      (subst (λ l. Awaits names b l (HashFrom (keep b x.tree) ∷ (settled b (keep b s) fs).1)) (sym (push x.before x.tokens _ (sym x.whole)))
      (Awaits.hash p x.awaits x.free x.reads))))

  pub arrow_side : {ws ts : List Nested} {s v : Written} {fs : List Frame} (p : Place) → Awaits names b ws fs → Reads names (height fs) Post ts s → v ≡ keep b s
      → Awaits names b ((ws ++ ts) ++ symbol (height (summed b v fs).1) p Arrow ∷ []) (ArrowFrom (summed b v fs).0 ∷ (summed b v fs).1)
  arrow_side {ws} {ts} {s} {v} {fs} p a r e =
      let x = sum_of a r in
      subst (λ w. Awaits names b ((ws ++ ts) ++ symbol (height (summed b w fs).1) p Arrow ∷ []) (ArrowFrom (summed b w fs).0 ∷ (summed b w fs).1)) (sym e)
      (subst (λ w. Awaits names b ((ws ++ ts) ++ symbol (height (summed b (keep b s) fs).1) p Arrow ∷ []) (ArrowFrom w ∷ (summed b (keep b s) fs).1)) (sym x.is)
      (subst (λ l. Awaits names b l (ArrowFrom (keep b x.tree) ∷ (summed b (keep b s) fs).1)) (sym (push x.before x.tokens _ (sym x.whole)))
      (Awaits.arrow p x.awaits x.free x.reads)))
