-- What the grammar reads, the machine goes over.
use Rattle.std.proofs.Common.{◌≡◌, ℕ, suc, List, [], ◌∷◌, ◌++◌, Bool, true, false, Some, None, map, refl, sym, ap, ◌∙◌, subst, append_assoc}
use Rattle.std.proofs.lemmas.List.{append-nil}
use Rattle.std.specs.Prelude.{option_map}
use Rattle.lego_base.specs.declared.place.Place.{Place}
use Rattle.lego_term.specs.declared.binder.Mark.{Mark}
use Rattle.lego_term.specs.declared.binder.Mark.TheVariants.{Plain, Implicit}
use Rattle.lego_lexer.specs.Tokens.{Name, Number}
use Rattle.lego_lexer.specs.declared.token.Word.TheVariants as Word
use Rattle.lego_lexer.specs.declared.token.Symbol.TheVariants.{OpenParen, CloseParen, Semicolon, Hash, Arrow, Bar}
use Rattle.lego_grammar.specs.declared.surface.Kind.{Kind}
use Rattle.lego_grammar.specs.declared.surface.Kind.TheVariants.{Lambda, Pi, Sigma}
use Rattle.lego_grammar.specs.declared.surface.Part.{Part}
use Rattle.lego_grammar.specs.declared.surface.Part.TheVariants.{First, Second}
use Rattle.lego_grammar.specs.Written.{Written, Named, WrittenProp, Bind, Local, Apply, Pair, Project, NameAt, WrittenKind, Assumed, Defined, WrittenBinding, WrittenAct, WrittenCommand}
use Rattle.lego_grammar.specs.Grammar as G
use Rattle.lego_grammar.specs.Grammar.{Names, Nested, token, symbol, word, NameList, Form, Term, Ending, Sum, Spine, Post, Atom, Binder, Reads, ReadsBinding, ReadsBindings, ReadsNames, ReadsAct, ReadsCommand, places_of, names_of}
use Rattle.lego_grammar.specs.private.Machine.{Site, InTerm, InContext, Use, ToShow, ToRefine, ToClaim, ToEquiv, ToHead, ToNormal, ToGoal, act_for, Frame, ApplyTo, HashFrom, ArrowFrom, BodyOf, BodyWith, Parens, SecondOf, TypeOf, DomainOf, ValueOf, StatedFor, Whole, Mode, Start, Want, WantLevel, Behind, WantPart, WantName, BehindName, Between, BehindGoal, BehindGoalName, WantIntros, Done, keep, number, height, settled, summed, closed}
use Rattle.lego_grammar.specs.private.Runs.{start_of}
use Rattle.lego_grammar.proofs.Transitions.{Operand, Closes, Move, Fits, TermWord, WaitingWord, Runs, runs_on, run_one}

-- what is kept of a tree and of its parts
pub kept-named : (b : Bool) (p : Place) (n : ℕ) → keep b (Named p (number b n)) ≡ keep b (Named p n)
kept-named true p n = refl
kept-named false p n = refl

pub kept-prop : (b : Bool) → WrittenProp ≡ keep b WrittenProp
kept-prop true = refl
kept-prop false = refl

pub kept-apply : (b : Bool) (m : Mark) (f a : Written) → keep b (Apply m (keep b f) (keep b a)) ≡ keep b (Apply m f a)
kept-apply true m f a = refl
kept-apply false m f a = refl

pub kept-project : (b : Bool) (part : Part) (m : Written) → keep b (Project part (keep b m)) ≡ keep b (Project part m)
kept-project true part m = refl
kept-project false part m = refl

pub kept-pair : (b : Bool) (m n a : Written) → keep b (Pair (keep b m) (keep b n) (keep b a)) ≡ keep b (Pair m n a)
kept-pair true m n a = refl
kept-pair false m n a = refl

abbrev pub numbered : Bool → List ℕ → List ℕ
numbered b ns = map (number b) ns

pub numbered-true : (ns : List ℕ) → numbered true ns ≡ ns
numbered-true [] = refl
numbered-true (n ∷ ns) = ap (λ xs. n ∷ xs) (numbered-true ns)

pub kept-bind : (b : Bool) (k : Kind) (m : Mark) (ns : List ℕ) (a c : Written) → keep b (Bind k m (numbered b ns) (keep b a) (keep b c)) ≡ keep b (Bind k m ns a c)
kept-bind true k m ns a c = ap (λ xs. Bind k m xs a c) (numbered-true ns)
kept-bind false k m ns a c = refl

pub kept-local : (b : Bool) (n : ℕ) (a c : Written) → keep b (Local (number b n) (keep b a) (keep b c)) ≡ keep b (Local n a c)
kept-local true n a c = refl
kept-local false n a c = refl

abbrev pub kept_kind : Bool → WrittenKind → WrittenKind
kept_kind b (Assumed m a) = Assumed m (keep b a)
kept_kind b (Defined m a) = Defined (keep b m) (option_map (keep b) a)

abbrev pub kept_binding : Bool → WrittenBinding → WrittenBinding
kept_binding b x = record { place = x.place; places = x.places; names = numbered b x.names; kind = kept_kind b x.kind }

abbrev pub kept_at : Bool → NameAt → NameAt
kept_at b x = record { place = x.place; name = number b x.name }

abbrev pub kept_act : Bool → WrittenAct → WrittenAct
kept_act b (WrittenAct.Bindings bs) = WrittenAct.Bindings (map (kept_binding b) bs)
kept_act b (WrittenAct.Goal name s) = WrittenAct.Goal (option_map (number b) name) (keep b s)
kept_act b (WrittenAct.Intros ps ns) = WrittenAct.Intros ps (numbered b ns)
kept_act b (WrittenAct.Refine s) = WrittenAct.Refine (keep b s)
kept_act b (WrittenAct.Claim s) = WrittenAct.Claim (keep b s)
kept_act b (WrittenAct.Equiv s) = WrittenAct.Equiv (keep b s)
kept_act b (WrittenAct.Hnf s) = WrittenAct.Hnf (keep b s)
kept_act b (WrittenAct.Normal s) = WrittenAct.Normal (keep b s)
kept_act b (WrittenAct.Show s) = WrittenAct.Show (keep b s)
kept_act b (WrittenAct.Save name) = WrittenAct.Save (option_map (number b) name)
kept_act b (WrittenAct.Forget x) = WrittenAct.Forget (kept_at b x)
kept_act b (WrittenAct.Discharge x) = WrittenAct.Discharge (kept_at b x)
kept_act b act = act

-- the same number, by matching
pub data Same (n : ℕ) : ℕ → Type 0 where
  same : Same n n

pub height-settled : (b : Bool) (v : Written) (fs : List Frame) → height (settled b v fs).1 ≡ height fs
height-settled b v [] = refl
height-settled b v (ApplyTo m f ∷ fs) = refl
height-settled b v (f ∷ fs) = refl

module _ (names : Names) (b : Bool) where
  -- The frames above which a form may stand.
  abbrev pub Ready : Form → List Frame → Type 0
  Ready Term fs = ((v : Written) → settled b v fs ≡ (v, fs)) × ((v : Written) → summed b v fs ≡ (v, fs))
  Ready Ending fs = (v : Written) → settled b v fs ≡ (v, fs)
  Ready Sum fs = (v : Written) → settled b v fs ≡ (v, fs)
  Ready Spine fs = (v : Written) → settled b v fs ≡ (v, fs)
  Ready Post fs = Unit {0}
  Ready Atom fs = Unit {0}
  Ready Binder fs = Unit {0}

  -- The machine goes from an operand's place over the tokens, and what it then holds is as good as the tree over the frames.
  abbrev pub Reached : Form → List Frame → List Nested → Written → Type 0
  Reached Atom fs ts s = (l : Bool) × Runs names b Want fs ts (Behind l (keep b s)) fs
  Reached Post fs ts s = (l : Bool) × Runs names b Want fs ts (Behind l (keep b s)) fs
  Reached Spine fs ts s =
      (l : Bool) × (v : Written) × (gs : List Frame) × Runs names b Want fs ts (Behind l v) gs
      × (settled b v gs ≡ settled b (keep b s) fs) × (summed b v gs ≡ summed b (keep b s) fs) × (closed b v gs ≡ closed b (keep b s) fs)
  Reached Sum fs ts s =
      (l : Bool) × (v : Written) × (gs : List Frame) × Runs names b Want fs ts (Behind l v) gs
      × (closed b v gs ≡ closed b (keep b s) fs) × (summed b v gs ≡ summed b (keep b s) fs)
  Reached _ fs ts s =
      (l : Bool) × (v : Written) × (gs : List Frame) × Runs names b Want fs ts (Behind l v) gs × (closed b v gs ≡ closed b (keep b s) fs)

  named : {fs : List Frame} (site : Site) {ts : List Nested} {xs : List NameAt} → NameList names (suc (height fs)) ts xs → (ps : List Place) (ns : List ℕ)
      → Runs names b (WantName site ps ns) fs ts (BehindName site (ps ++ places_of xs) (ns ++ numbered b (names_of xs))) fs
  named site (NameList.one {n = n} e) ps ns = run_one (n, e, refl) Move.bound_name
  named {fs} site (NameList.more {p = p} {n = n} {ts = us} {ns = xs} e rest) ps ns =
      let r = named {fs = fs} site rest (ps ++ p ∷ []) (ns ++ number b n ∷ []) in
      Runs.go (n, e, refl) Move.bound_name (Runs.go refl Move.comma
      (subst (λ ls. Runs names b (WantName site (ps ++ p ∷ []) (ns ++ number b n ∷ [])) fs us (BehindName site ls (ns ++ number b n ∷ numbered b (names_of xs))) fs)
      (append_assoc ps (p ∷ []) (places_of xs))
      (subst (λ ls. Runs names b (WantName site (ps ++ p ∷ []) (ns ++ number b n ∷ [])) fs us (BehindName site ((ps ++ p ∷ []) ++ places_of xs) ls) fs)
      (append_assoc ns (number b n ∷ []) (numbered b (names_of xs))) r)))

  arrow_on : {l : Bool} {v a : Written} {fs gs hs : List Frame} {us : List Nested} {m : Mode} (p : Place)
      → summed b v gs ≡ (a, fs) → Runs names b Want (ArrowFrom a ∷ fs) us m hs → Runs names b (Behind l v) gs (symbol (height fs) p Arrow ∷ us) m hs
  arrow_on {l} {v} {gs = gs} {hs = hs} {us = us} {m = m} p e r =
      subst (λ x. Runs names b Want (ArrowFrom x.0 ∷ x.1) us m hs → Runs names b (Behind l v) gs (symbol (height x.1) p Arrow ∷ us) m hs) e
      (λ q. Runs.go {n = 0} refl Move.arrow q) r

  hash_on : {l : Bool} {v a : Written} {fs gs hs : List Frame} {us : List Nested} {m : Mode} (p : Place)
      → settled b v gs ≡ (a, fs) → Runs names b Want (HashFrom a ∷ fs) us m hs → Runs names b (Behind l v) gs (symbol (height fs) p Hash ∷ us) m hs
  hash_on {l} {v} {gs = gs} {hs = hs} {us = us} {m = m} p e r =
      subst (λ x. Runs names b Want (HashFrom x.0 ∷ x.1) us m hs → Runs names b (Behind l v) gs (symbol (height x.1) p Hash ∷ us) m hs) e
      (λ q. subst (λ d. Runs names b (Behind l v) gs (symbol d p Hash ∷ us) m hs) (sym (height-settled b v gs)) (Runs.go {n = 0} refl Move.hash q)) r

  bar_on : {l : Bool} {v a : Written} {fs gs hs : List Frame} {us : List Nested} {m : Mode} (p : Place)
      → settled b v gs ≡ (a, fs) → Runs names b Want (ApplyTo Implicit a ∷ fs) us m hs → Runs names b (Behind l v) gs (symbol (height fs) p Bar ∷ us) m hs
  bar_on {l} {v} {gs = gs} {hs = hs} {us = us} {m = m} p e r =
      subst (λ x. Runs names b Want (ApplyTo Implicit x.0 ∷ x.1) us m hs → Runs names b (Behind l v) gs (symbol (height x.1) p Bar ∷ us) m hs) e
      (λ q. subst (λ d. Runs names b (Behind l v) gs (symbol d p Bar ∷ us) m hs) (sym (height-settled b v gs)) (Runs.go {n = 0} refl Move.bar q)) r

  -- an operand behind another one is an argument
  enter : {l l' : Bool} {v a w : Written} {fs gs hs : List Frame} {us : List Nested}
      → settled b v gs ≡ (a, fs) → Runs names b Want (ApplyTo Plain a ∷ fs) us (Behind l' w) hs → Runs names b (Behind l v) gs us (Behind l' w) hs
  enter {l} {l'} {v} {w = w} {gs = gs} {hs = hs} {us = us} e r =
      first_token l (subst (λ x. Runs names b Want (ApplyTo Plain x.0 ∷ x.1) us (Behind l' w) hs) (sym e) r)
    where
      -- behind `Type (`
      behind_paren : {ts : List Nested} → Runs names b Want (Parens ∷ ApplyTo Plain (settled b v gs).0 ∷ (settled b v gs).1) ts (Behind l' w) hs
          → Runs names b (WantLevel v) gs ts (Behind l' w) hs
      behind_paren (Runs.go f (Move.want o) r) = Runs.go f (Move.level_operand o) r

      first_operand : {n : ℕ} {t : Nested} {m : Mode} {ks : List Frame} {ts : List Nested} → Operand b (ApplyTo Plain (settled b v gs).0 ∷ (settled b v gs).1) t n m ks
          → Fits names b t.lexeme n → Runs names b m ks ts (Behind l' w) hs → Runs names b (Behind true v) gs (t ∷ ts) (Behind l' w) hs
      first_operand Operand.name f r = Runs.go f (Move.apply tt Operand.name) r
      first_operand Operand.prop f r = Runs.go f (Move.apply tt Operand.prop) r
      first_operand Operand.any_type f r = Runs.go f (Move.apply tt Operand.any_type) r
      first_operand Operand.goal f r = Runs.go f (Move.apply tt Operand.goal) r
      first_operand (Operand.binder Lambda) f r = Runs.go f (Move.apply tt (Operand.binder Lambda)) r
      first_operand (Operand.binder Pi) f r = Runs.go f (Move.apply tt (Operand.binder Pi)) r
      first_operand (Operand.binder Sigma) f r = Runs.go f (Move.apply tt (Operand.binder Sigma)) r
      first_operand {ts = ts} (Operand.parens {p = p}) f r =
          subst (λ d. Runs names b (Behind true v) gs (symbol d p OpenParen ∷ ts) (Behind l' w) hs) (sym (height-settled b v gs))
          (Runs.go {n = 0} refl Move.open_level (behind_paren r))

      first_token : (l : Bool) {ts : List Nested} → Runs names b Want (ApplyTo Plain (settled b v gs).0 ∷ (settled b v gs).1) ts (Behind l' w) hs
          → Runs names b (Behind l v) gs ts (Behind l' w) hs
      first_token false (Runs.go f (Move.want o) r) = Runs.go f (Move.apply tt o) r
      first_token true (Runs.go f (Move.want o) r) = first_operand o f r

  complete : (fs : List Frame) {d : ℕ} {form : Form} {ts : List Nested} {s : Written} → Reads names d form ts s → Same (height fs) d → Ready form fs → Reached form fs ts s
  complete fs (Reads.term_ending r) same h = complete fs r same h.0
  complete fs (Reads.term_sum r) same h = let x = complete fs r same h.0 in (x.0, x.1, x.2, x.3, x.4)
  complete fs (Reads.arrow p {a = a} {b = c} ra rb) same h =
      let x = complete fs ra same h.0 in let y = complete (ArrowFrom (keep b a) ∷ fs) rb same (λ v. refl, λ v. refl) in
      (y.0, y.1, y.2, runs_on x.3 (arrow_on p (x.5 ∙ h.1 (keep b a)) y.3), y.4 ∙ ap (λ w. closed b w fs) (kept-bind b Pi Plain [] a c))
  complete fs (Reads.ending_binder r) same h = complete fs r same tt
  complete fs (Reads.apply_binder {f = f} {a = a} rf ra) same h =
      let x = complete fs rf same h in let y = complete (ApplyTo Plain (keep b f) ∷ fs) ra same tt in
      (y.0, y.1, y.2, runs_on x.3 (enter (x.4 ∙ h (keep b f)) y.3), y.4 ∙ ap (λ w. closed b w fs) (kept-apply b Plain f a))
  complete fs (Reads.apply_bar_binder p {f = f} {a = a} rf ra) same h =
      let x = complete fs rf same h in let y = complete (ApplyTo Implicit (keep b f) ∷ fs) ra same tt in
      (y.0, y.1, y.2, runs_on x.3 (bar_on p (x.4 ∙ h (keep b f)) y.3), y.4 ∙ ap (λ w. closed b w fs) (kept-apply b Implicit f a))
  complete fs (Reads.hash_ending p {a = a} {b = c} ra rb) same h =
      let x = complete fs ra same h in let y = complete (HashFrom (keep b a) ∷ fs) rb same (λ v. refl) in
      (y.0, y.1, y.2, runs_on x.3 (hash_on p (x.4 ∙ h (keep b a)) y.3), y.4 ∙ ap (λ w. closed b w fs) (kept-bind b Sigma Plain [] a c))
  complete fs (Reads.sum_spine r) same h = let x = complete fs r same h in (x.0, x.1, x.2, x.3, x.6, x.5)
  complete fs (Reads.hash_sum p {a = a} {b = c} ra rb) same h =
      let x = complete fs ra same h in let y = complete (HashFrom (keep b a) ∷ fs) rb same (λ v. refl) in (
        y.0,
        y.1,
        y.2,
        runs_on x.3 (hash_on p (x.4 ∙ h (keep b a)) y.3),
        y.4 ∙ ap (λ w. closed b w fs) (kept-bind b Sigma Plain [] a c),
        y.5 ∙ ap (λ w. summed b w fs) (kept-bind b Sigma Plain [] a c),
      )
  complete fs (Reads.spine_post {s = s} r) same h = let x = complete fs r same tt in (x.0, keep b s, fs, x.1, refl, refl, refl)
  complete fs (Reads.apply {f = f} {a = a} rf ra) same h =
      let x = complete fs rf same h in let y = complete (ApplyTo Plain (keep b f) ∷ fs) ra same tt in (
        y.0,
        keep b a,
        ApplyTo Plain (keep b f) ∷ fs,
        runs_on x.3 (enter (x.4 ∙ h (keep b f)) y.1),
        ap (λ w. (w, fs)) (kept-apply b Plain f a) ∙ sym (h (keep b (Apply Plain f a))),
        ap (λ w. summed b w fs) (kept-apply b Plain f a),
        ap (λ w. closed b w fs) (kept-apply b Plain f a),
      )
  complete fs (Reads.apply_bar p {f = f} {a = a} rf ra) same h =
      let x = complete fs rf same h in let y = complete (ApplyTo Implicit (keep b f) ∷ fs) ra same tt in (
        y.0,
        keep b a,
        ApplyTo Implicit (keep b f) ∷ fs,
        runs_on x.3 (bar_on p (x.4 ∙ h (keep b f)) y.1),
        ap (λ w. (w, fs)) (kept-apply b Implicit f a) ∙ sym (h (keep b (Apply Implicit f a))),
        ap (λ w. summed b w fs) (kept-apply b Implicit f a),
        ap (λ w. closed b w fs) (kept-apply b Implicit f a),
      )
  complete fs (Reads.post_atom r) same h = complete fs r same tt
  complete fs (Reads.first p q {m = m} r) same h =
      let x = complete fs r same tt in
      (false, runs_on x.1 (Runs.go refl Move.dot (subst (λ w. Runs names b (WantPart (keep b m)) fs (token (height fs) q (Number 1) ∷ []) (Behind false w) fs) (kept-project b First m) (run_one refl Move.first))))
  complete fs (Reads.second p q {m = m} r) same h =
      let x = complete fs r same tt in
      (false, runs_on x.1 (Runs.go refl Move.dot (subst (λ w. Runs names b (WantPart (keep b m)) fs (token (height fs) q (Number 2) ∷ []) (Behind false w) fs) (kept-project b Second m) (run_one refl Move.second))))
  complete fs (Reads.name p {n} {text} e) same h =
      (false, subst (λ w. Runs names b Want fs (token (height fs) p (Name text) ∷ []) (Behind false w) fs) (kept-named b p n) (run_one (n, e, refl) (Move.want Operand.name)))
  complete fs (Reads.prop p) same h = (false, subst (λ w. Runs names b Want fs (word (height fs) p Word.Prop ∷ []) (Behind false w) fs) (kept-prop b) (run_one refl (Move.want Operand.prop)))
  complete fs (Reads.any_type p) same h = (true, run_one refl (Move.want Operand.any_type))
  complete fs (Reads.type_at p q r s) same h =
      (false, Runs.go refl (Move.want Operand.any_type) (Runs.go refl Move.open_level (Runs.go refl Move.level_number (run_one refl Move.level_close))))
  complete fs (Reads.goal p q) same h = (false, Runs.go refl (Move.want Operand.goal) (run_one refl Move.goal_number))
  complete fs (Reads.parens p q r) same h =
      let x = complete (Parens ∷ fs) r same (λ v. refl, λ v. refl) in
      (false, Runs.go refl (Move.want Operand.parens) (runs_on x.3 (run_one refl (Move.close x.4 Closes.parens))))
  complete fs (Reads.pair p q r s {ts} {us} {vs} {m} {n} {a} rm rn ra) same h =
      let x = complete (Parens ∷ fs) rm same (λ v. refl, λ v. refl) in
      let y = complete (SecondOf (keep b m) ∷ fs) rn same (λ v. refl, λ v. refl) in
      let z = complete (TypeOf (keep b m) (keep b n) ∷ fs) ra same (λ v. refl, λ v. refl) in (
        false,
        Runs.go refl (Move.want Operand.parens)
            (runs_on (runs_on (runs_on x.3 (Runs.go refl (Move.close x.4 Closes.comma) y.3)) (Runs.go refl (Move.close y.4 Closes.colon) z.3))
            (subst (λ w. Runs names b (Behind z.0 z.1) z.2 (symbol (height fs) s CloseParen ∷ []) (Behind false w) fs) (kept-pair b m n a)
            (run_one refl (Move.close z.4 Closes.pair)))),
      )
  complete fs (Reads.bind p q r {kind} {mark} {xs = xs} {a = a} {m = m} mb nl ra rm) same h =
      let x = complete (DomainOf (InTerm kind) mark (places_of xs) (numbered b (names_of xs)) ∷ fs) ra same (λ v. refl, λ v. refl) in
      let y = complete (BodyOf kind mark (numbered b (names_of xs)) (keep b a) ∷ fs) rm same (λ v. refl, λ v. refl) in (
        y.0,
        y.1,
        y.2,
        Runs.go refl (Move.want (Operand.binder kind))
            (runs_on (runs_on (named (InTerm kind) nl [] []) (Runs.go refl (Move.signed mb) x.3)) (Runs.go refl (Move.close x.4 Closes.domain) y.3)),
        y.4 ∙ ap (λ w. closed b w fs) (kept-bind b kind mark (names_of xs) a m),
      )
  complete fs (Reads.local {n = n} p q r s {m = m} {b = c} e rm rb) same h =
      let x = complete (ValueOf (InTerm Lambda) q (number b n) ∷ fs) rm same (λ v. refl, λ v. refl) in
      let y = complete (BodyWith (number b n) (keep b m) ∷ fs) rb same (λ v. refl, λ v. refl) in (
        y.0,
        y.1,
        y.2,
        Runs.go refl (Move.want (Operand.binder Lambda)) (Runs.go (n, e, refl) Move.bound_name
            (Runs.go refl (Move.equals refl) (runs_on x.3 (Runs.go refl (Move.close x.4 Closes.value) y.3)))),
        y.4 ∙ ap (λ w. closed b w fs) (kept-local b n m c),
      )

  -- a whole term, behind the words of its command
  whole_term : (u : Use) {ts : List Nested} {s : Written} (p : Place) → Reads names 0 Term ts s
      → Runs names b Want (Whole u ∷ []) (ts ++ symbol 0 p Semicolon ∷ []) (Done (act_for u (keep b s))) []
  whole_term u p r = let x = complete (Whole u ∷ []) r same (λ v. refl, λ v. refl) in runs_on x.3 (run_one refl (Move.close x.4 Closes.whole))

  -- a binding, and a run of them
  complete_binding : {ts : List Nested} {x : WrittenBinding} → ReadsBinding names ts x → (bs : List WrittenBinding)
      → Runs names b (Between bs) [] ts (Between (bs ++ kept_binding b x ∷ [])) []
  complete_binding (ReadsBinding.assume p q r {mark} {xs = xs} nl ra) bs =
      let x = complete (DomainOf (InContext p bs) mark (places_of xs) (numbered b (names_of xs)) ∷ []) ra same (λ v. refl, λ v. refl) in
      Runs.go refl Move.binding (runs_on (runs_on (named {fs = []} (InContext p bs) nl [] []) (Runs.go refl (Move.signed (may_bind mark)) x.3))
      (run_one refl (Move.close x.4 Closes.assumption)))
    where
      may_bind : (m : Mark) → G.MayBind Lambda m
      may_bind Plain = tt
      may_bind Implicit = tt
  complete_binding (ReadsBinding.define p q r s {n = n} e rm) bs =
      let x = complete (ValueOf (InContext p bs) q (number b n) ∷ []) rm same (λ v. refl, λ v. refl) in
      Runs.go refl Move.binding (Runs.go (n, e, refl) Move.bound_name (Runs.go refl (Move.equals refl) (runs_on x.3 (run_one refl (Move.close x.4 Closes.definition)))))
  complete_binding (ReadsBinding.define_typed p q r s t {n = n} {m = m} e rm ra) bs =
      let x = complete (ValueOf (InContext p bs) q (number b n) ∷ []) rm same (λ v. refl, λ v. refl) in
      let y = complete (StatedFor p bs q (number b n) (keep b m) ∷ []) ra same (λ v. refl, λ v. refl) in
      Runs.go refl Move.binding (Runs.go (n, e, refl) Move.bound_name (Runs.go refl (Move.equals refl)
      (runs_on (runs_on x.3 (Runs.go refl (Move.close x.4 Closes.typed) y.3)) (run_one refl (Move.close y.4 Closes.stated)))))

  complete_bindings : {ts : List Nested} {xs : List WrittenBinding} → ReadsBindings names ts xs → (bs : List WrittenBinding)
      → Runs names b (Between bs) [] ts (Between (bs ++ map (kept_binding b) xs)) []
  complete_bindings (ReadsBindings.one r) bs = complete_binding r bs
  complete_bindings (ReadsBindings.more {us = us} {b = x} {bs = xs} r rs) bs =
      runs_on (complete_binding r bs) (subst (λ ys. Runs names b (Between (bs ++ kept_binding b x ∷ [])) [] us (Between ys) [])
      (append_assoc bs (kept_binding b x ∷ []) (map (kept_binding b) xs)) (complete_bindings rs (bs ++ kept_binding b x ∷ [])))

  complete_intros : {ts : List Nested} {xs : List NameAt} → ReadsNames names ts xs → (ps : List Place) (ns : List ℕ)
      → Runs names b (WantIntros ps ns) [] ts (WantIntros (ps ++ places_of xs) (ns ++ numbered b (names_of xs))) []
  complete_intros ReadsNames.none ps ns =
      subst (λ ls. Runs names b (WantIntros ps ns) [] [] (WantIntros ls (ns ++ [])) []) (sym (append-nil ps))
      (subst (λ ls. Runs names b (WantIntros ps ns) [] [] (WantIntros ps ls) []) (sym (append-nil ns)) Runs.stay)
  complete_intros (ReadsNames.more {p = p} {n = n} {ts = us} {ns = xs} e rest) ps ns =
      let r = complete_intros rest (ps ++ p ∷ []) (ns ++ number b n ∷ []) in
      Runs.go (n, e, refl) Move.intros_name
      (subst (λ ls. Runs names b (WantIntros (ps ++ p ∷ []) (ns ++ number b n ∷ [])) [] us (WantIntros ls (ns ++ number b n ∷ numbered b (names_of xs))) [])
      (append_assoc ps (p ∷ []) (places_of xs))
      (subst (λ ls. Runs names b (WantIntros (ps ++ p ∷ []) (ns ++ number b n ∷ [])) [] us (WantIntros ((ps ++ p ∷ []) ++ places_of xs) ls) [])
      (append_assoc ns (number b n ∷ []) (numbered b (names_of xs))) r))

  -- a term that begins a command, and one behind `Goal`
  show_from : {ts : List Nested} {act : WrittenAct} {gs : List Frame} → Runs names b Want (Whole ToShow ∷ []) ts (Done act) gs → Runs names b Start [] ts (Done act) gs
  show_from (Runs.go f (Move.want o) r) = Runs.go f (Move.show o) r

  goal_from : {ts : List Nested} {act : WrittenAct} {gs : List Frame} → Runs names b Want (Whole (ToGoal None) ∷ []) ts (Done act) gs → Runs names b BehindGoal [] ts (Done act) gs
  goal_from {act = act} {gs = gs} (Runs.go f (Move.want o) r) = first_operand o f r
    where
      behind_name : {p : Place} {n : ℕ} {ts : List Nested} → Runs names b (Behind false (keep b (Named p n))) (Whole (ToGoal None) ∷ []) ts (Done act) gs
          → Runs names b (BehindGoalName p n) [] ts (Done act) gs
      behind_name (Runs.go f x r) = Runs.go f (Move.goal_behind x) r

      first_operand : {n : ℕ} {t : Nested} {m : Mode} {ks : List Frame} {ts : List Nested} → Operand b (Whole (ToGoal None) ∷ []) t n m ks
          → Fits names b t.lexeme n → Runs names b m ks ts (Done act) gs → Runs names b BehindGoal [] (t ∷ ts) (Done act) gs
      first_operand Operand.name f r = Runs.go f Move.goal_name (behind_name r)
      first_operand Operand.prop f r = Runs.go f (Move.goal_term (λ e. cc) Operand.prop) r
      first_operand Operand.any_type f r = Runs.go f (Move.goal_term (λ e. cc) Operand.any_type) r
      first_operand Operand.goal f r = Runs.go f (Move.goal_term (λ e. cc) Operand.goal) r
      first_operand (Operand.binder k) f r = Runs.go f (Move.goal_term (λ e. cc) (Operand.binder k)) r
      first_operand Operand.parens f r = Runs.go f (Move.goal_term (λ e. cc) Operand.parens) r

  complete_act : {ts : List Nested} {act : WrittenAct} (p : Place) → ReadsAct names ts act → Runs names b (start_of act) [] (ts ++ symbol 0 p Semicolon ∷ []) (Done (kept_act b act)) []
  complete_act p (ReadsAct.bindings (ReadsBindings.one r)) = runs_on (complete_binding r []) (run_one refl Move.context)
  complete_act p (ReadsAct.bindings (ReadsBindings.more r rs)) = runs_on (complete_bindings (ReadsBindings.more r rs) []) (run_one refl Move.context)
  complete_act p (ReadsAct.show r) = show_from (whole_term ToShow p r)
  complete_act p (ReadsAct.with_term G.TermWord.refine r) = Runs.go refl (Move.term_word TermWord.refine) (whole_term ToRefine p r)
  complete_act p (ReadsAct.with_term G.TermWord.claim r) = Runs.go refl (Move.term_word TermWord.claim) (whole_term ToClaim p r)
  complete_act p (ReadsAct.with_term G.TermWord.equiv r) = Runs.go refl (Move.term_word TermWord.equiv) (whole_term ToEquiv p r)
  complete_act p (ReadsAct.with_term G.TermWord.hnf r) = Runs.go refl (Move.term_word TermWord.hnf) (whole_term ToHead p r)
  complete_act p (ReadsAct.with_term G.TermWord.normal r) = Runs.go refl (Move.term_word TermWord.normal) (whole_term ToNormal p r)
  complete_act p (ReadsAct.with_term G.TermWord.goal r) = Runs.go refl (Move.waiting_word WaitingWord.goal) (goal_from (whole_term (ToGoal None) p r))
  complete_act p (ReadsAct.named_goal {n = n} e r) =
      Runs.go refl (Move.waiting_word WaitingWord.goal) (Runs.go (n, e, refl) Move.goal_name (Runs.go refl Move.goal_named (whole_term (ToGoal (Some (number b n))) p r)))
  complete_act p (ReadsAct.intros (ReadsNames.more {p = q} {n = n} {ts = us} {ns = xs} e rest)) =
      Runs.go refl (Move.waiting_word WaitingWord.intros) (Runs.go (n, e, refl) Move.intros_name
      (runs_on (complete_intros rest (q ∷ []) (number b n ∷ [])) (run_one refl Move.intros_end)))
  complete_act p (ReadsAct.with_number G.NumberWord.next) = Runs.go refl (Move.waiting_word WaitingWord.next) (Runs.go refl Move.next (run_one refl Move.end))
  complete_act p (ReadsAct.with_number G.NumberWord.undo) = Runs.go refl (Move.waiting_word WaitingWord.undo) (Runs.go refl Move.undo (run_one refl Move.end))
  complete_act p (ReadsAct.with_name {n = n} G.NameWord.forget e) = Runs.go refl (Move.waiting_word WaitingWord.forget) (Runs.go (n, e, refl) Move.forget (run_one refl Move.end))
  complete_act p (ReadsAct.with_name {n = n} G.NameWord.discharge e) = Runs.go refl (Move.waiting_word WaitingWord.discharge) (Runs.go (n, e, refl) Move.discharge (run_one refl Move.end))
  complete_act p (ReadsAct.with_name {n = n} G.NameWord.save e) = Runs.go refl (Move.waiting_word WaitingWord.save) (Runs.go (n, e, refl) Move.save_name (run_one refl Move.end))
  complete_act p (ReadsAct.alone G.LoneWord.assumption) = Runs.go refl (Move.waiting_word WaitingWord.assumption) (run_one refl Move.end)
  complete_act p (ReadsAct.alone G.LoneWord.save) = Runs.go refl (Move.waiting_word WaitingWord.save) (run_one refl Move.save)
  complete_act p (ReadsAct.alone G.LoneWord.kill) = Runs.go refl (Move.waiting_word WaitingWord.kill) (run_one refl Move.end)
  complete_act p (ReadsAct.alone G.LoneWord.prf) = Runs.go refl (Move.waiting_word WaitingWord.prf) (run_one refl Move.end)
  complete_act p (ReadsAct.alone G.LoneWord.ctxt) = Runs.go refl (Move.waiting_word WaitingWord.ctxt) (run_one refl Move.end)
  complete_act p (ReadsAct.alone G.LoneWord.explicit) = Runs.go refl (Move.waiting_word WaitingWord.explicit) (run_one refl Move.end)
  complete_act p (ReadsAct.alone G.LoneWord.implicit) = Runs.go refl (Move.waiting_word WaitingWord.implicit) (run_one refl Move.end)

  pub complete_command : {ts : List Nested} {c : WrittenCommand} → ReadsCommand names ts c → Runs names b (start_of c.act) [] ts (Done (kept_act b c.act)) []
  complete_command (ReadsCommand.command p r) = complete_act p r
