-- Each move keeps what the frames hold.
use Rattle.std.proofs.Common.{◌≡◌, ◌⊎◌, inl, inr, ℕ, suc, List, [], ◌∷◌, ◌++◌, Bool, Some, None, slice_get, map, refl, sym, ap, ◌∙◌, subst, append_assoc}
use Rattle.lego_base.specs.declared.place.Place.{Place}
use Rattle.lego_term.specs.declared.binder.Mark.{Mark}
use Rattle.lego_term.specs.declared.binder.Mark.TheVariants.{Plain, Implicit}
use Rattle.lego_lexer.specs.Tokens.{Name, Number}
use Rattle.lego_lexer.specs.declared.token.Word.{Word}
use Rattle.lego_lexer.specs.declared.token.Symbol.TheVariants.{OpenSquare, OpenParen, Colon, Semicolon, Comma, Equals, Dot, Hash, Arrow, Bar}
use Rattle.lego_grammar.specs.declared.surface.Kind.TheVariants.{Lambda, Pi, Sigma}
use Rattle.lego_grammar.specs.declared.surface.Part.TheVariants.{First, Second}
use Rattle.lego_grammar.specs.Written.{Written, Named, WrittenProp, AnyType, TypeAt, GoalAt, Pair, Project, NameAt, Assumed, Defined, WrittenBinding, WrittenAct}
use Rattle.lego_grammar.specs.Grammar as G
use Rattle.lego_grammar.specs.Grammar.{Names, Nested, token, symbol, word, NameList, Form, Term, Ending, Sum, Spine, Post, Atom, Binder, Reads, ReadsBinding, ReadsBindings, ReadsNames, ReadsAct, ReadsCommand, places_of, names_of, opening, closing, sign, MayBind}
use Rattle.lego_grammar.specs.private.Machine.{Site, InTerm, InContext, Use, ToShow, ToGoal, act_for, Frame, ApplyTo, HashFrom, ArrowFrom, BodyOf, BodyWith, Parens, SecondOf, TypeOf, DomainOf, ValueOf, StatedFor, Whole, Mode, Behind, BehindName, WantEnd, Done, keep, number, height, settled, summed, closed}
use Rattle.lego_grammar.proofs.Transitions.{Operand, Closes, Move, Fits, TermWord, WaitingWord, binding_at, kind_of}
use Rattle.lego_grammar.proofs.Complete.{kept-named, kept-prop, kept-project, kept-pair, numbered, kept_binding, kept_act, height-settled}
use Rattle.lego_grammar.proofs.Sound.{glue, push, Begins, SomeBindings, Awaits, Opened, NamesTo, Holds}
use Rattle.lego_grammar.proofs.SoundEnds.{Got, Suits, close, argument, bar_argument, hash_side, arrow_side}

module _ (names : Names) (b : Bool) where
  operand_step : {all : List Nested} {fs gs : List Frame} {n : ℕ} {t : Nested} {m : Mode} → Operand b fs t n m gs → Awaits names b all fs → Fits names b t.lexeme n → Holds names b m gs (all ++ t ∷ [])
  operand_step {all} (Operand.name {p = p}) a f =
      (all, _, Named p f.0, refl, a, Reads.post_atom (Reads.name p f.1), ap (λ n. keep b (Named p n)) f.2 ∙ kept-named b p f.0, tt)
  operand_step {all} (Operand.prop {p = p}) a f = (all, _, WrittenProp, refl, a, Reads.post_atom (Reads.prop p), kept-prop b, tt)
  operand_step {all} (Operand.any_type {p = p}) a f = (all, _, AnyType p, refl, a, Reads.post_atom (Reads.any_type p), refl, (p, refl, refl))
  operand_step {all} Operand.goal a f = (all, refl, a)
  operand_step (Operand.parens {p = p}) a f = Awaits.parens p a
  operand_step {all} (Operand.binder {p = p} k) a f = (all, p, [], a, inl (refl, refl, refl), refl)

  longer : {ts : List Nested} (us : List Nested) → ((t : Nested) × (vs : List Nested) × (ts ≡ t ∷ vs)) → (t : Nested) × (vs : List Nested) × (ts ++ us ≡ t ∷ vs)
  longer us x = (x.0, x.1 ++ us, ap (λ l. l ++ us) x.2)

  -- a term has a first token
  first_token : {d : ℕ} {form : Form} {ts : List Nested} {s : Written} → Reads names d form ts s → (t : Nested) × (us : List Nested) × (ts ≡ t ∷ us)
  first_token (Reads.term_ending r) = first_token r
  first_token (Reads.term_sum r) = first_token r
  first_token (Reads.arrow {d} p {us = us} r q) = longer (symbol d p Arrow ∷ us) (first_token r)
  first_token (Reads.ending_binder r) = first_token r
  first_token (Reads.apply_binder {us = us} r q) = longer us (first_token r)
  first_token (Reads.apply_bar_binder {d} p {us = us} r q) = longer (symbol d p Bar ∷ us) (first_token r)
  first_token (Reads.hash_ending {d} p {us = us} r q) = longer (symbol d p Hash ∷ us) (first_token r)
  first_token (Reads.sum_spine r) = first_token r
  first_token (Reads.hash_sum {d} p {us = us} r q) = longer (symbol d p Hash ∷ us) (first_token r)
  first_token (Reads.spine_post r) = first_token r
  first_token (Reads.apply {us = us} r q) = longer us (first_token r)
  first_token (Reads.apply_bar {d} p {us = us} r q) = longer (symbol d p Bar ∷ us) (first_token r)
  first_token (Reads.post_atom r) = first_token r
  first_token (Reads.first {d} p q r) = longer (symbol d p Dot ∷ token d q (Number 1) ∷ []) (first_token r)
  first_token (Reads.second {d} p q r) = longer (symbol d p Dot ∷ token d q (Number 2) ∷ []) (first_token r)
  first_token (Reads.name p e) = (_, _, refl)
  first_token (Reads.prop p) = (_, _, refl)
  first_token (Reads.any_type p) = (_, _, refl)
  first_token (Reads.type_at p q r s) = (_, _, refl)
  first_token (Reads.goal p q) = (_, _, refl)
  first_token (Reads.parens p q r) = (_, _, refl)
  first_token (Reads.pair p q r s rm rn ra) = (_, _, refl)
  first_token (Reads.bind p q r mb nl ra rm) = (_, _, refl)
  first_token (Reads.local p q r s e rm rb) = (_, _, refl)

  binding_token : {ts : List Nested} {x : WrittenBinding} → ReadsBinding names ts x → (t : Nested) × (us : List Nested) × (ts ≡ t ∷ us)
  binding_token (ReadsBinding.assume p q r nl ra) = (_, _, refl)
  binding_token (ReadsBinding.define p q r s e rm) = (_, _, refl)
  binding_token (ReadsBinding.define_typed p q r s t e rm ra) = (_, _, refl)

  bindings_token : {ts : List Nested} {xs : List WrittenBinding} → ReadsBindings names ts xs → (t : Nested) × (us : List Nested) × (ts ≡ t ∷ us)
  bindings_token (ReadsBindings.one r) = binding_token r
  bindings_token (ReadsBindings.more {us = us} r rs) = let x = binding_token r in (x.0, _, ap (λ l. l ++ us) x.2)

  -- a command, behind what it asks for
  commanded : {ts us : List Nested} {t : Nested} {act : WrittenAct} (p : Place) → ts ≡ t ∷ us → ReadsAct names ts act
      → ReadsCommand names (ts ++ symbol 0 p Semicolon ∷ []) (record { place = t.place; act = act })
  commanded {us = us} {t} {act} p e r =
      subst (λ l. ReadsCommand names (l ++ symbol 0 p Semicolon ∷ []) (record { place = t.place; act = act })) (sym e)
      (ReadsCommand.command p (subst (λ l. ReadsAct names l act) e r))

  whole_act : {u : Use} {ws ts : List Nested} {s : Written} → Begins names b u ws → Reads names 0 Term ts s
      → (t : Nested) × (us : List Nested) × (act : WrittenAct) × (ws ++ ts ≡ t ∷ us) × ReadsAct names (ws ++ ts) act × (act_for u (keep b s) ≡ kept_act b act)
  whole_act {s = s} Begins.show r = let x = first_token r in (x.0, x.1, WrittenAct.Show s, x.2, ReadsAct.show r, refl)
  whole_act {s = s} Begins.goal r = (_, _, WrittenAct.Goal None s, refl, ReadsAct.with_term G.TermWord.goal r, refl)
  whole_act {s = s} (Begins.named n e) r = (_, _, WrittenAct.Goal (Some n) s, refl, ReadsAct.named_goal e r, refl)
  whole_act {s = s} (Begins.worded TermWord.refine) r = (_, _, WrittenAct.Refine s, refl, ReadsAct.with_term G.TermWord.refine r, refl)
  whole_act {s = s} (Begins.worded TermWord.claim) r = (_, _, WrittenAct.Claim s, refl, ReadsAct.with_term G.TermWord.claim r, refl)
  whole_act {s = s} (Begins.worded TermWord.equiv) r = (_, _, WrittenAct.Equiv s, refl, ReadsAct.with_term G.TermWord.equiv r, refl)
  whole_act {s = s} (Begins.worded TermWord.hnf) r = (_, _, WrittenAct.Hnf s, refl, ReadsAct.with_term G.TermWord.hnf r, refl)
  whole_act {s = s} (Begins.worded TermWord.normal) r = (_, _, WrittenAct.Normal s, refl, ReadsAct.with_term G.TermWord.normal r, refl)

  more_readings : {ts us : List Nested} {xs : List WrittenBinding} {x : WrittenBinding} → ReadsBindings names ts xs → ReadsBinding names us x → ReadsBindings names (ts ++ us) (xs ++ x ∷ [])
  more_readings (ReadsBindings.one r) q = ReadsBindings.more r (ReadsBindings.one q)
  more_readings {us = us} {x = x} (ReadsBindings.more {ts} {us = vs} {b = y} {bs = ys} r rs) q =
      subst (λ l. ReadsBindings names l (y ∷ (ys ++ x ∷ []))) (sym (append_assoc ts vs us)) (ReadsBindings.more r (more_readings rs q))

  map-last : {X Y : Type 0} (f : X → Y) (xs : List X) (x : X) → map f (xs ++ x ∷ []) ≡ map f xs ++ f x ∷ []
  map-last f [] x = refl
  map-last f (y ∷ xs) x = ap (λ l. f y ∷ l) (map-last f xs x)

  more_bindings : {ts us : List Nested} {bs : List WrittenBinding} {x : WrittenBinding} → SomeBindings names b ts bs → ReadsBinding names us x → SomeBindings names b (ts ++ us) (bs ++ kept_binding b x ∷ [])
  more_bindings {ts} {us} {bs} {x} h q = record {
    items = h.items ++ x ∷ [];
    kept = ap (λ l. l ++ kept_binding b x ∷ []) h.kept ∙ sym (map-last (kept_binding b) h.items x);
    reads = inl (go h.items h.reads);
  }
    where
      go : (xs : List WrittenBinding) → ReadsBindings names ts xs ⊎ ((ts ≡ []) × (xs ≡ [])) → ReadsBindings names (ts ++ us) (xs ++ x ∷ [])
      go xs (inl r) = more_readings r q
      go xs (inr e) =
          subst (λ l. ReadsBindings names (l ++ us) (xs ++ x ∷ [])) (sym e.0) (subst (λ l. ReadsBindings names us (l ++ x ∷ [])) (sym e.1) (ReadsBindings.one q))

  more_names : {d : ℕ} {ts : List Nested} {xs : List NameAt} (p q : Place) (n : ℕ) {text : List ℕ} → NameList names d ts xs → slice_get names n ≡ Some text
      → NameList names d (ts ++ symbol d q Comma ∷ token d p (Name text) ∷ []) (xs ++ record { place = p; name = n } ∷ [])
  more_names p q n (NameList.one e) f = NameList.more e (NameList.one f)
  more_names p q n (NameList.more e r) f = NameList.more e (more_names p q n r f)

  more_intros : {ts : List Nested} {xs : List NameAt} (p : Place) (n : ℕ) {text : List ℕ} → ReadsNames names ts xs → slice_get names n ≡ Some text
      → ReadsNames names (ts ++ token 0 p (Name text) ∷ []) (xs ++ record { place = p; name = n } ∷ [])
  more_intros p n ReadsNames.none f = ReadsNames.more f ReadsNames.none
  more_intros p n (ReadsNames.more e r) f = ReadsNames.more e (more_intros p n r f)

  -- the tokens of a form that a token ends
  opened : {all : List Nested} (ws us ts : List Nested) (t : Nested) → (ws ++ us) ++ ts ≡ all → all ++ t ∷ [] ≡ ws ++ ((us ++ ts) ++ t ∷ [])
  opened ws us ts t e = push ws (us ++ ts) t (sym e ∙ append_assoc ws us ts)

  went_on : {all : List Nested} (ws us : List Nested) (c : Nested) (ts : List Nested) (t : Nested) → (ws ++ (us ++ c ∷ [])) ++ ts ≡ all → all ++ t ∷ [] ≡ ws ++ ((us ++ c ∷ ts) ++ t ∷ [])
  went_on ws us c ts t e = push ws (us ++ c ∷ ts) t (sym e ∙ sym (glue ws us c ts))

  suits_post : {d : ℕ} {ts : List Nested} {s : Written} (fs : List Frame) (r : Reads names d Post ts s) → Suits names b fs (Got.post r)
  suits_post (ApplyTo _ _ ∷ _) r = tt
  suits_post (HashFrom _ ∷ _) r = tt
  suits_post _ r = tt

  both : (P : List Nested → Written → Type 0) {l l' : List Nested} {v v' : Written} → l' ≡ l → v' ≡ v → P l v → P l' v'
  both P {l} {v' = v'} e i x = subst (λ k. P k v') (sym e) (subst (λ w. P l w) (sym i) x)

  closes_step : {all before ts : List Nested} {s w : Written} {f : Frame} {gs hs : List Frame} {t : Nested} {m : Mode}
      → Closes b f w gs t m hs → Awaits names b before (f ∷ gs) → Reads names (height (f ∷ gs)) Term ts s → w ≡ keep b s → before ++ ts ≡ all → Holds names b m hs (all ++ t ∷ [])
  closes_step {ts = ts} {s = s} (Closes.parens {p = p}) (Awaits.parens {ws} {fs} q a) r i e =
      (ws, _, s, opened ws (symbol (height fs) q OpenParen ∷ []) ts _ e, a, Reads.post_atom (Reads.parens q p r), i, tt)
  closes_step {ts = ts} {s = s} (Closes.comma {p = p}) (Awaits.parens {ws} {fs} q a) r i e =
      both (λ l v. Awaits names b l (SecondOf v ∷ fs)) (opened ws (symbol (height fs) q OpenParen ∷ []) ts _ e) i
      (Awaits.second q p a r)
  closes_step {ts = ts} {s = s} (Closes.colon {p = p}) (Awaits.second {ws} {ts = us} {fs} {m} q q' a rm) r i e =
      both (λ l v. Awaits names b l (TypeOf (keep b m) v ∷ fs)) (went_on ws (symbol (height fs) q OpenParen ∷ us) _ ts _ e) i
      (Awaits.typed q q' p a rm r)
  closes_step {ts = ts} {s = s} (Closes.pair {p = p}) (Awaits.typed {ws} {ts = us} {us = vs} {fs} {m} {n} q q' q'' a rm rn) r i e = (
    ws,
    _,
    Pair m n s,
    went_on ws ((symbol (height fs) q OpenParen ∷ us) ++ symbol (suc (height fs)) q' Comma ∷ vs) _ ts _ e,
    a,
    Reads.post_atom (Reads.pair q q' q'' p rm rn r),
    ap (λ v. keep b (Pair (keep b m) (keep b n) v)) i ∙ kept-pair b m n s,
    tt,
  )
  closes_step {ts = ts} {s = s} (Closes.domain {p = p}) (Awaits.domain {ws} {ns} {fs} {k} {m} {xs} q q' a mb nl) r i e =
      both (λ l v. Awaits names b l (BodyOf k m (numbered b (names_of xs)) v ∷ fs)) (went_on ws (symbol (height fs) q (opening k) ∷ ns) _ ts _ e) i
      (Awaits.body q q' p a mb nl r)
  closes_step {ts = ts} {s = s} (Closes.value {p = p}) (Awaits.value {ws} {fs} n {text} q q' q'' a f) r i e =
      both (λ l v. Awaits names b l (BodyWith (number b n) v ∷ fs)) (opened ws (symbol (height fs) q OpenSquare ∷ token (suc (height fs)) q' (Name text) ∷ symbol (suc (height fs)) q'' Equals ∷ []) ts _ e) i
      (Awaits.locally n q q' q'' p a f r)
  closes_step {ts = ts} {s = s} (Closes.assumption {m = m} {p = p}) (Awaits.assumed {ws} {ns} {bs} {xs = xs} q q' sb nl) r i e =
      both (λ l v. SomeBindings names b l (bs ++ binding_at q (places_of xs) (numbered b (names_of xs)) (Assumed m v) ∷ [])) (went_on ws (symbol 0 q OpenSquare ∷ ns) _ ts _ e) i
      (more_bindings sb (ReadsBinding.assume q q' p nl r))
  closes_step {ts = ts} {s = s} (Closes.definition {p = p}) (Awaits.defined {ws} {bs} n {text} q q' q'' sb f) r i e =
      both (λ l v. SomeBindings names b l (bs ++ binding_at q (q' ∷ []) (number b n ∷ []) (Defined v None) ∷ [])) (opened ws (symbol 0 q OpenSquare ∷ token 1 q' (Name text) ∷ symbol 1 q'' Equals ∷ []) ts _ e) i
      (more_bindings sb (ReadsBinding.define q q' q'' p f r))
  closes_step {ts = ts} {s = s} (Closes.typed {p = p}) (Awaits.defined {ws} {bs} n {text} q q' q'' sb f) r i e =
      both (λ l v. Awaits names b l (StatedFor q bs q' (number b n) v ∷ [])) (opened ws (symbol 0 q OpenSquare ∷ token 1 q' (Name text) ∷ symbol 1 q'' Equals ∷ []) ts _ e) i
      (Awaits.stated n q q' q'' p sb f r)
  closes_step {ts = ts} {s = s} (Closes.stated {p = p}) (Awaits.stated {ws} {ts = us} {bs} n {text} {m} q q' q'' q3 sb f rm) r i e =
      both (λ l v. SomeBindings names b l (bs ++ binding_at q (q' ∷ []) (number b n ∷ []) (Defined (keep b m) (Some v)) ∷ [])) (went_on ws (symbol 0 q OpenSquare ∷ token 1 q' (Name text) ∷ symbol 1 q'' Equals ∷ us) _ ts _ e) i
      (more_bindings sb (ReadsBinding.define_typed q q' q'' q3 p f rm r))
  closes_step {ts = ts} {s = s} (Closes.whole {u = u} {p = p}) (Awaits.whole {ws = ws} g) r i e =
      let x = whole_act g r in
      (record { place = x.0.place; act = x.2 }, subst (λ l. ReadsCommand names (l ++ symbol 0 p Semicolon ∷ []) (record { place = x.0.place; act = x.2 })) e (commanded p x.3 x.4), ap (λ v. act_for u v) i ∙ x.5)

  -- names that were bound together
  one_more_place : {ps : List Place} (xs : List NameAt) (p : Place) (n : ℕ) → ps ≡ places_of xs → ps ++ p ∷ [] ≡ places_of (xs ++ record { place = p; name = n } ∷ [])
  one_more_place xs p n e = ap (λ l. l ++ p ∷ []) e ∙ sym (map-last (λ (x : NameAt). x.place) xs (record { place = p; name = n }))

  one_more_number : {ns : List ℕ} (xs : List NameAt) {m : ℕ} (p : Place) (n : ℕ) → ns ≡ numbered b (names_of xs) → m ≡ number b n
      → ns ++ m ∷ [] ≡ numbered b (names_of (xs ++ record { place = p; name = n } ∷ []))
  one_more_number {ns} xs {m} p n e f =
      ap (λ k. ns ++ k ∷ []) f ∙ (ap (λ l. l ++ number b n ∷ []) e
      ∙ (sym (map-last (number b) (names_of xs) n) ∙ ap (numbered b) (sym (map-last (λ (x : NameAt). x.name) xs (record { place = p; name = n })))))

  name_step : {all : List Nested} (ws cs : List Nested) (q : Place) (fs : List Frame) (site : Site) {ps : List Place} {ns : List ℕ} (p : Place) {n : ℕ} {text : List ℕ}
      → Opened names b site fs ws q → NamesTo names b (suc (height fs)) cs ps ns → all ≡ ws ++ (symbol (height fs) q (opening (kind_of site)) ∷ cs)
      → (i : ℕ) → slice_get names i ≡ Some text → n ≡ number b i
      → Holds names b (BehindName site (ps ++ p ∷ []) (ns ++ n ∷ [])) fs (all ++ token (suc (height fs)) p (Name text) ∷ [])
  name_step {all} ws cs q fs site p {n} {text} o (inl x) e i g f = (
    ws,
    q,
    token (suc (height fs)) p (Name text) ∷ [],
    record { place = p; name = i } ∷ [],
    o,
    NameList.one g,
    ap (λ l. l ++ p ∷ []) x.1,
    ap (λ l. l ++ n ∷ []) x.2 ∙ ap (λ k. k ∷ []) f,
    push ws (symbol (height fs) q (opening (kind_of site)) ∷ cs) _ e ∙ ap (λ c. ws ++ (symbol (height fs) q (opening (kind_of site)) ∷ (c ++ token (suc (height fs)) p (Name text) ∷ []))) x.0,
  )
  name_step {all} ws cs q fs site p {n} {text} o (inr x) e i g f =
      let d = suc (height fs) in let t = token d p (Name text) in let c = symbol d x.2 Comma in (
        ws,
        q,
        x.0 ++ c ∷ t ∷ [],
        x.1 ++ record { place = p; name = i } ∷ [],
        o,
        more_names p x.2 i x.3 g,
        one_more_place x.1 p i x.5,
        one_more_number x.1 p i x.6 f,
        push ws (symbol (height fs) q (opening (kind_of site)) ∷ cs) t e
            ∙ ap (λ l. ws ++ (symbol (height fs) q (opening (kind_of site)) ∷ l)) (ap (λ l. l ++ t ∷ []) x.4 ∙ append_assoc x.0 (c ∷ []) (t ∷ [])),
      )

  sign_step : {all : List Nested} (ws ts : List Nested) (xs : List NameAt) (q : Place) (fs : List Frame) (site : Site) {ps : List Place} {ns : List ℕ} {mark : Mark} (p : Place)
      → Opened names b site fs ws q → NameList names (suc (height fs)) ts xs → ps ≡ places_of xs → ns ≡ numbered b (names_of xs)
      → all ≡ ws ++ (symbol (height fs) q (opening (kind_of site)) ∷ ts) → MayBind (kind_of site) mark
      → Awaits names b (all ++ symbol (suc (height fs)) p (sign mark) ∷ []) (DomainOf site mark ps ns ∷ fs)
  sign_step {all} ws ts xs q fs (InTerm k) {ps} {ns} {mark = mark} p o nl ep en e mb =
      subst (λ l. Awaits names b l (DomainOf (InTerm k) mark ps ns ∷ fs)) (sym (push ws _ _ e))
      (subst (λ l. Awaits names b (ws ++ ((symbol (height fs) q (opening k) ∷ ts) ++ symbol (suc (height fs)) p (sign mark) ∷ [])) (DomainOf (InTerm k) mark l ns ∷ fs)) (sym ep)
      (subst (λ l. Awaits names b (ws ++ ((symbol (height fs) q (opening k) ∷ ts) ++ symbol (suc (height fs)) p (sign mark) ∷ [])) (DomainOf (InTerm k) mark (places_of xs) l ∷ fs)) (sym en)
      (Awaits.domain q p o mb nl)))
  sign_step {all} ws ts xs q [] (InContext r bs) {ps} {ns} {mark = mark} p o nl ep en e mb =
      subst (λ l. Awaits names b l (DomainOf (InContext r bs) mark ps ns ∷ [])) (sym (push ws _ _ e))
      (subst (λ l. Awaits names b (ws ++ ((symbol 0 q OpenSquare ∷ ts) ++ symbol 1 p (sign mark) ∷ [])) (DomainOf (InContext r bs) mark l ns ∷ [])) (sym ep)
      (subst (λ l. Awaits names b (ws ++ ((symbol 0 q OpenSquare ∷ ts) ++ symbol 1 p (sign mark) ∷ [])) (DomainOf (InContext r bs) mark (places_of xs) l ∷ [])) (sym en)
      (subst (λ z. Awaits names b (ws ++ ((symbol 0 q OpenSquare ∷ ts) ++ symbol 1 p (sign mark) ∷ [])) (DomainOf (InContext z bs) mark (places_of xs) (numbered b (names_of xs)) ∷ [])) o.1
      (Awaits.assumed q p o.0 nl))))
  sign_step ws ts xs q (f ∷ fs) (InContext r bs) p o nl ep en e mb = absurd o

  cons_head : {X : Type 0} {x y : X} {xs ys : List X} → ◌≡◌ {A = List X} (x ∷ xs) (y ∷ ys) → x ≡ y
  cons_head {X} {x} e = ap (λ l. head l) e
    where
      head : List X → X
      head [] = x
      head (z ∷ zs) = z

  equals_step : {all : List Nested} (ws : List Nested) {ts : List Nested} {xs : List NameAt} (q : Place) (fs : List Frame) (site : Site) {z : Place} {i : ℕ} (p : Place)
      → Opened names b site fs ws q → NameList names (suc (height fs)) ts xs → z ∷ [] ≡ places_of xs → i ∷ [] ≡ numbered b (names_of xs)
      → all ≡ ws ++ (symbol (height fs) q (opening (kind_of site)) ∷ ts) → kind_of site ≡ Lambda
      → Awaits names b (all ++ symbol (suc (height fs)) p Equals ∷ []) (ValueOf site z i ∷ fs)
  equals_step {all} ws q fs (InTerm Lambda) {z} {i} p o (NameList.one {p = r} {n = n} {text = text} g) ep en e l =
      subst (λ a. Awaits names b a (ValueOf (InTerm Lambda) z i ∷ fs)) (sym (push ws _ _ e))
      (subst (λ y. Awaits names b (ws ++ (symbol (height fs) q OpenSquare ∷ token (suc (height fs)) r (Name text) ∷ symbol (suc (height fs)) p Equals ∷ [])) (ValueOf (InTerm Lambda) y i ∷ fs)) (sym (cons_head ep))
      (subst (λ k. Awaits names b (ws ++ (symbol (height fs) q OpenSquare ∷ token (suc (height fs)) r (Name text) ∷ symbol (suc (height fs)) p Equals ∷ [])) (ValueOf (InTerm Lambda) r k ∷ fs)) (sym (cons_head en))
      (Awaits.value n q r p o g)))
  equals_step ws q fs (InTerm Pi) p o nl ep en e l = cc
  equals_step ws q fs (InTerm Sigma) p o nl ep en e l = cc
  equals_step {all} ws q [] (InContext y bs) {z} {i} p o (NameList.one {p = r} {n = n} {text = text} g) ep en e l =
      subst (λ a. Awaits names b a (ValueOf (InContext y bs) z i ∷ [])) (sym (push ws _ _ e))
      (subst (λ u. Awaits names b (ws ++ (symbol 0 q OpenSquare ∷ token 1 r (Name text) ∷ symbol 1 p Equals ∷ [])) (ValueOf (InContext y bs) u i ∷ [])) (sym (cons_head ep))
      (subst (λ k. Awaits names b (ws ++ (symbol 0 q OpenSquare ∷ token 1 r (Name text) ∷ symbol 1 p Equals ∷ [])) (ValueOf (InContext y bs) r k ∷ [])) (sym (cons_head en))
      (subst (λ u. Awaits names b (ws ++ (symbol 0 q OpenSquare ∷ token 1 r (Name text) ∷ symbol 1 p Equals ∷ [])) (ValueOf (InContext u bs) r (number b n) ∷ [])) o.1
      (Awaits.defined n q r p o.0 g))))
  equals_step ws q (f ∷ fs) (InContext y bs) p o nl ep en e l = absurd o
  equals_step ws q fs (InTerm Lambda) p o (NameList.more g (NameList.one g')) ep en e l = cc
  equals_step ws q fs (InTerm Lambda) p o (NameList.more g (NameList.more g' r)) ep en e l = cc
  equals_step ws q [] (InContext y bs) p o (NameList.more g (NameList.one g')) ep en e l = cc
  equals_step ws q [] (InContext y bs) p o (NameList.more g (NameList.more g' r)) ep en e l = cc

  -- the tokens of an action that a name or a numeral ends
  act_step : {all : List Nested} {t : Nested} {act kept : WrittenAct} (w : Nested) → all ≡ w ∷ [] → ReadsAct names (w ∷ t ∷ []) act → kept ≡ kept_act b act → Holds names b (WantEnd kept) [] (all ++ t ∷ [])
  act_step {t = t} {act} w e r k = (w, t ∷ [], act, ap (λ l. l ++ t ∷ []) e, r, k)

  waiting_step : {all : List Nested} (p : Place) {w : Word} {m : Mode} → all ≡ [] → WaitingWord w m → Holds names b m [] (all ++ word 0 p w ∷ [])
  waiting_step p e WaitingWord.goal = (p, ap (λ l. l ++ word 0 p Word.Goal ∷ []) e)
  waiting_step p e WaitingWord.intros = (p, [], [], ReadsNames.none, refl, refl, ap (λ l. l ++ word 0 p Word.Intros ∷ []) e)
  waiting_step p e WaitingWord.next = (p, ap (λ l. l ++ word 0 p Word.Next ∷ []) e)
  waiting_step p e WaitingWord.undo = (p, ap (λ l. l ++ word 0 p Word.Undo ∷ []) e)
  waiting_step p e WaitingWord.forget = (p, ap (λ l. l ++ word 0 p Word.Forget ∷ []) e)
  waiting_step p e WaitingWord.discharge = (p, ap (λ l. l ++ word 0 p Word.Discharge ∷ []) e)
  waiting_step p e WaitingWord.save = (p, ap (λ l. l ++ word 0 p Word.Save ∷ []) e)
  waiting_step p e WaitingWord.assumption = (_, [], WrittenAct.Assumption, ap (λ l. l ++ word 0 p Word.Assumption ∷ []) e, ReadsAct.alone G.LoneWord.assumption, refl)
  waiting_step p e WaitingWord.kill = (_, [], WrittenAct.KillRef, ap (λ l. l ++ word 0 p Word.KillRef ∷ []) e, ReadsAct.alone G.LoneWord.kill, refl)
  waiting_step p e WaitingWord.prf = (_, [], WrittenAct.Prf, ap (λ l. l ++ word 0 p Word.Prf ∷ []) e, ReadsAct.alone G.LoneWord.prf, refl)
  waiting_step p e WaitingWord.ctxt = (_, [], WrittenAct.Ctxt, ap (λ l. l ++ word 0 p Word.Ctxt ∷ []) e, ReadsAct.alone G.LoneWord.ctxt, refl)
  waiting_step p e WaitingWord.explicit = (_, [], WrittenAct.Explicit, ap (λ l. l ++ word 0 p Word.Explicit ∷ []) e, ReadsAct.alone G.LoneWord.explicit, refl)
  waiting_step p e WaitingWord.implicit = (_, [], WrittenAct.Implicit, ap (λ l. l ++ word 0 p Word.Implicit ∷ []) e, ReadsAct.alone G.LoneWord.implicit, refl)

  behind_step : {all ws ts : List Nested} {s v w : Written} {f : Frame} {fs gs hs : List Frame} {t : Nested} {m : Mode}
      → closed b v fs ≡ (w, f ∷ gs) → Closes b f w gs t m hs → all ≡ ws ++ ts → Awaits names b ws fs → Reads names (height fs) Post ts s → v ≡ keep b s
      → Holds names b m hs (all ++ t ∷ [])
  behind_step {all} {fs = fs} e x q a r i =
      let d = close names b a (Got.post r) (suits_post fs r) (ap (λ u. closed b u fs) (sym i) ∙ e) in
      closes_step x d.awaits d.reads d.is (d.whole ∙ sym q)

  paren_operand : {all : List Nested} (ws : List Nested) (p q : Place) {v : Written} {fs gs : List Frame} {n : ℕ} {t : Nested} {m : Mode}
      → Operand b (Parens ∷ ApplyTo Plain (settled b v fs).0 ∷ (settled b v fs).1) t n m gs
      → all ≡ ws ++ (word (height fs) p Word.AnyType ∷ symbol (height fs) q OpenParen ∷ []) → Awaits names b ws fs → v ≡ keep b (AnyType p) → Fits names b t.lexeme n
      → Holds names b m gs (all ++ t ∷ [])
  paren_operand {all} ws p q {v} {fs} o e a i f =
      let w = word (height fs) p Word.AnyType in
      let y = argument names b a (Reads.post_atom (Reads.any_type p)) i in
      let z = subst (λ d. Awaits names b ((ws ++ w ∷ []) ++ symbol d q OpenParen ∷ []) (Parens ∷ ApplyTo Plain (settled b v fs).0 ∷ (settled b v fs).1)) (height-settled b v fs) (Awaits.parens q y) in
      operand_step o (subst (λ l. Awaits names b l (Parens ∷ ApplyTo Plain (settled b v fs).0 ∷ (settled b v fs).1)) (append_assoc ws (w ∷ []) (symbol (height fs) q OpenParen ∷ []) ∙ sym e) z) f

  step_behind : {all : List Nested} {l : Bool} {v : Written} {fs gs : List Frame} {n : ℕ} {t : Nested} {m : Mode}
      → Holds names b (Behind l v) fs all → Fits names b t.lexeme n → Move b (Behind l v) fs t n m gs → Holds names b m gs (all ++ t ∷ [])
  step_behind h f (Move.apply {v = v} {fs = fs} _ o) =
      operand_step o (subst (λ k. Awaits names b k (ApplyTo Plain (settled b v fs).0 ∷ (settled b v fs).1)) (sym h.3) (argument names b h.4 h.5 h.6)) f
  step_behind h f (Move.open_level {fs = fs} {p = p}) =
      (h.0, h.7.0, p, push h.0 h.1 _ h.3 ∙ ap (λ k. h.0 ++ (k ++ symbol (height fs) p OpenParen ∷ [])) h.7.1, h.4, h.6 ∙ ap (keep b) h.7.2)
  step_behind h f (Move.bar {v = v} {fs = fs} {p = p}) =
      subst (λ k. Awaits names b (k ++ symbol (height fs) p Bar ∷ []) (ApplyTo Implicit (settled b v fs).0 ∷ (settled b v fs).1)) (sym h.3) (bar_argument names b p h.4 h.5 h.6)
  step_behind h f (Move.dot {p = p}) = (h.0, h.1, h.2, p, push h.0 h.1 _ h.3, h.4, h.5, h.6)
  step_behind h f (Move.hash {v = v} {fs = fs} {p = p}) =
      subst (λ k. Awaits names b (k ++ symbol (height fs) p Hash ∷ []) (HashFrom (settled b v fs).0 ∷ (settled b v fs).1)) (sym h.3) (hash_side names b p h.4 h.5 h.6)
  step_behind h f (Move.arrow {v = v} {fs = fs} {p = p}) =
      subst (λ k. Awaits names b (k ++ symbol (height (summed b v fs).1) p Arrow ∷ []) (ArrowFrom (summed b v fs).0 ∷ (summed b v fs).1)) (sym h.3) (arrow_side names b p h.4 h.5 h.6)
  step_behind h f (Move.close e x) = behind_step e x h.3 h.4 h.5 h.6

  intros_step : {all ts : List Nested} {ps : List Place} {i : ℕ} {ns : List ℕ} {xs : List NameAt} (p q : Place)
      → ReadsNames names ts xs → ps ≡ places_of xs → i ∷ ns ≡ numbered b (names_of xs) → all ≡ word 0 q Word.Intros ∷ ts
      → Holds names b (Done (WrittenAct.Intros ps (i ∷ ns))) [] (all ++ symbol 0 p Semicolon ∷ [])
  intros_step p q ReadsNames.none l k e = cc
  intros_step {ps = ps} {i} {ns} p q (ReadsNames.more {p = r} {n = n} {ns = ys} g rest) l k e =
      let xs : List NameAt = record { place = r; name = n } ∷ ys in (
        record { place = q; act = WrittenAct.Intros (places_of xs) (names_of xs) },
        commanded p e (subst (λ u. ReadsAct names u (WrittenAct.Intros (places_of xs) (names_of xs))) (sym e) (ReadsAct.intros (ReadsNames.more g rest))),
        ap (λ u. WrittenAct.Intros u (i ∷ ns)) l ∙ ap (λ u. WrittenAct.Intros (places_of xs) u) k,
      )

  pub step : (all : List Nested) {m m' : Mode} {fs gs : List Frame} {n : ℕ} {t : Nested}
      → Holds names b m fs all → Fits names b t.lexeme n → Move b m fs t n m' gs → Holds names b m' gs (all ++ t ∷ [])
  step all {m = Behind l v} h f x = step_behind h f x
  step all h f (Move.want o) = operand_step o h f
  step all h f (Move.level_operand o) = paren_operand h.0 h.1 h.2 o h.3 h.4 h.5 f
  step all h f (Move.level_number {p = p}) = (h.0, h.1, h.2, p, push h.0 _ _ h.3, h.4)
  step all h f (Move.level_close {p = p} {i = i}) = (h.0, _, TypeAt i, push h.0 _ _ h.4, h.5, Reads.post_atom (Reads.type_at h.1 h.2 h.3 p), refl, tt)
  step all h f (Move.first {fs = fs} {p = p}) =
      (h.0, _, Project First h.2, push h.0 _ _ h.4 ∙ ap (λ k. h.0 ++ k) (append_assoc h.1 _ _), h.5, Reads.first h.3 p h.6, ap (λ w. keep b (Project First w)) h.7 ∙ kept-project b First h.2, tt)
  step all h f (Move.second {fs = fs} {p = p}) =
      (h.0, _, Project Second h.2, push h.0 _ _ h.4 ∙ ap (λ k. h.0 ++ k) (append_assoc h.1 _ _), h.5, Reads.second h.3 p h.6, ap (λ w. keep b (Project Second w)) h.7 ∙ kept-project b Second h.2, tt)
  step all h f (Move.goal_number {q = q} {p = p} {i = i}) = (h.0, _, GoalAt q i, push h.0 _ _ h.1, h.2, Reads.post_atom (Reads.goal q p), refl, tt)
  step all h f (Move.bound_name {site = site} {fs = fs} {p = p}) = name_step h.0 h.2 h.1 fs site p h.3 h.4 h.5 f.0 f.1 f.2
  step all h f (Move.comma {p = p}) = (h.0, h.1, _, h.4, inr (h.2, h.3, p, h.5, refl, h.6, h.7), push h.0 _ _ h.8)
  step all h f (Move.signed {site = site} {fs = fs} {p = p} mb) = sign_step h.0 h.2 h.3 h.1 fs site p h.4 h.5 h.6 h.7 h.8 mb
  step all h f (Move.equals {site = site} {fs = fs} {p = p} k) = equals_step h.0 h.1 fs site p h.4 h.5 h.6 h.7 h.8 k
  step all h f (Move.binding {fs = []} {p = p}) = (all, p, [], (h, refl), inl (refl, refl, refl), refl)
  step all h f (Move.binding {fs = g ∷ fs}) = absurd h
  step all h f (Move.context {fs = []} {x = x} {bs = bs} {p = p}) = go h.items h.kept h.reads
    where
      go : (ys : List WrittenBinding) → x ∷ bs ≡ map (kept_binding b) ys → ReadsBindings names all ys ⊎ ((all ≡ []) × (ys ≡ [])) → Holds names b (Done (WrittenAct.Bindings (x ∷ bs))) [] (all ++ symbol 0 p Semicolon ∷ [])
      go ys k (inl r) = let y = bindings_token r in (_, commanded p y.2 (ReadsAct.bindings r), ap WrittenAct.Bindings k)
      go ys k (inr e) = let z = k ∙ ap (map (kept_binding b)) e.1 in cc
  step all h f (Move.context {fs = g ∷ fs}) = absurd h
  step all h f (Move.show {fs = []} o) = operand_step o (subst (λ k. Awaits names b k (Whole ToShow ∷ [])) (sym h) (Awaits.whole Begins.show)) f
  step all h f (Move.show {fs = g ∷ fs} o) = absurd h
  step all h f (Move.term_word {fs = []} {p = p} {w} {u} x) = subst (λ k. Awaits names b (k ++ word 0 p w ∷ []) (Whole u ∷ [])) (sym h) (Awaits.whole (Begins.worded x))
  step all h f (Move.term_word {fs = g ∷ fs} x) = absurd h
  step all h f (Move.waiting_word {fs = []} {p = p} x) = waiting_step p h x
  step all h f (Move.waiting_word {fs = g ∷ fs} x) = absurd h
  step all h f (Move.goal_name {fs = []} {p = p} {text = text}) = (h.0, f.0, text, f.1, f.2, ap (λ k. k ++ token 0 p (Name text) ∷ []) h.1)
  step all h f (Move.goal_name {fs = g ∷ fs}) = absurd h
  step all h f (Move.goal_term {fs = []} x o) = operand_step o (subst (λ k. Awaits names b k (Whole (ToGoal None) ∷ [])) (sym h.1) (Awaits.whole Begins.goal)) f
  step all h f (Move.goal_term {fs = g ∷ fs} x o) = absurd h
  step all h f (Move.goal_named {fs = []} {q = q} {p = p} {i = j}) =
      subst (λ k. Awaits names b (k ++ symbol 0 p Colon ∷ []) (Whole (ToGoal (Some j)) ∷ [])) (sym h.5) (subst (λ i. Awaits names b (word 0 h.0 Word.Goal ∷ token 0 q (Name h.2) ∷ symbol 0 p Colon ∷ []) (Whole (ToGoal (Some i)) ∷ [])) (sym h.4) (Awaits.whole (Begins.named h.1 h.3)))
  step all h f (Move.goal_named {fs = g ∷ fs}) = absurd h
  step all h f (Move.goal_behind {fs = []} {q = q} {i = i} x) =
      step_behind (
        word 0 h.0 Word.Goal ∷ [],
        token 0 q (Name h.2) ∷ [],
        Named q h.1,
        h.5,
        Awaits.whole Begins.goal,
        Reads.post_atom (Reads.name q h.3),
        ap (λ k. keep b (Named q k)) h.4 ∙ kept-named b q h.1,
        tt,
      ) f x
  step all h f (Move.goal_behind {fs = g ∷ fs} x) = absurd h
  step all h f (Move.intros_name {fs = []} {p = p} {text = text}) = (
    h.0,
    h.1 ++ token 0 p (Name text) ∷ [],
    h.2 ++ record { place = p; name = f.0 } ∷ [],
    more_intros p f.0 h.3 f.1,
    one_more_place h.2 p f.0 h.4,
    one_more_number h.2 p f.0 h.5 f.2,
    ap (λ k. k ++ token 0 p (Name text) ∷ []) h.6,
  )
  step all h f (Move.intros_name {fs = g ∷ fs}) = absurd h
  step all h f (Move.intros_end {fs = []} {p = p}) = intros_step p h.0 h.3 h.4 h.5 h.6
  step all h f (Move.intros_end {fs = g ∷ fs}) = absurd h
  step all h f (Move.next {fs = []}) = act_step _ h.1 (ReadsAct.with_number G.NumberWord.next) refl
  step all h f (Move.next {fs = g ∷ fs}) = absurd h
  step all h f (Move.undo {fs = []}) = act_step _ h.1 (ReadsAct.with_number G.NumberWord.undo) refl
  step all h f (Move.undo {fs = g ∷ fs}) = absurd h
  step all h f (Move.forget {fs = []} {p = p}) = act_step _ h.1 (ReadsAct.with_name G.NameWord.forget f.1) (ap (λ k. WrittenAct.Forget (record { place = p; name = k })) f.2)
  step all h f (Move.forget {fs = g ∷ fs}) = absurd h
  step all h f (Move.discharge {fs = []} {p = p}) = act_step _ h.1 (ReadsAct.with_name G.NameWord.discharge f.1) (ap (λ k. WrittenAct.Discharge (record { place = p; name = k })) f.2)
  step all h f (Move.discharge {fs = g ∷ fs}) = absurd h
  step all h f (Move.save_name {fs = []}) = act_step _ h.1 (ReadsAct.with_name G.NameWord.save f.1) (ap (λ k. WrittenAct.Save (Some k)) f.2)
  step all h f (Move.save_name {fs = g ∷ fs}) = absurd h
  step all h f (Move.save {fs = []} {p = p}) = (_, commanded p h.1 (subst (λ k. ReadsAct names k (WrittenAct.Save None)) (sym h.1) (ReadsAct.alone G.LoneWord.save)), refl)
  step all h f (Move.save {fs = g ∷ fs}) = absurd h
  step all h f (Move.end {fs = []} {p = p}) = (_, commanded p h.3 (subst (λ k. ReadsAct names k h.2) (sym h.3) h.4), h.5)
  step all h f (Move.end {fs = g ∷ fs}) = absurd h
