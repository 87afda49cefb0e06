-- The written terms of a command that stands for tokens within the limits can be read.
use Rattle.std.proofs.Common.{◌≡◌, ℕ, suc, ◌+◌, ◌*◌, ◌-◌, ◌≤◌, Bool, true, false, if◌then◌else◌, List, [], ◌∷◌, ◌++◌, length, map, arith}
use Rattle.std.specs.Prelude.{All}
use Rattle.std.specs.List.{AllByRecursion}
use Rattle.std.proofs.lemmas.List.Elements.{All-nil, All-cons, recursion_from_All}
use Rattle.lego_lexer.specs.declared.token.Word.{Word}
use Rattle.lego_lexer.specs.declared.token.Symbol.TheVariants.{CloseSquare, CloseParen, Colon, Semicolon, Comma, Dot, Hash, Arrow, Bar}
use Rattle.lego_lexer.specs.Tokens.{Number}
use Rattle.lego_term.specs.declared.binder.Mark.TheVariants.{Plain}
use Rattle.lego_term.specs.declared.binder.Binder.{Binder}
use Rattle.lego_grammar.specs.Written.{Written, NameAt, WrittenBinding, WrittenAct, WrittenCommand}
use Rattle.lego_grammar.specs.Grammar.{Names, Nested, token, symbol, sign, closing, item, Form, Reads, NameList, names_of, ReadsBinding, ReadsBindings, TermWord, NumberWord, NameWord, LoneWord, ReadsAct, ReadsCommand}
use Rattle.lego_grammar.specs.WrittenForm.{is_name, count_names, IsSmall}
use Rattle.lego_reading.specs.Calls.{locals_within, CanBeRead}
use Rattle.lego_reading.specs.Written.{written_binders, HasSmallLevels}
use Rattle.lego_reading.specs.Readable.{CanKindBeRead, CanActBeRead, ParsedTermsCanBeRead}
use Rattle.lego_reading.proofs.ReadyLemmas.{every_left, every_right}

-- the token has at most 500 levels around it, and is no numeral above 1,000,000
abbrev IsFine : Nested → Type 0
IsFine t = (t.nesting ≤ 500) × IsSmall t.lexeme

abbrev AreFine : List Nested → Type 0
AreFine ts = AllByRecursion IsFine ts

abbrev names_in : List Nested → ℕ
names_in ts = count_names (map item ts)

counted : (b : Bool) (n m k : ℕ) → n ≡ m + k → (if b then suc n else n) ≡ (if b then suc m else m) + k
counted true n m k e = omega arith
counted false n m k e = e

names-append : (ts us : List Nested) → names_in (ts ++ us) ≡ names_in ts + names_in us
names-append [] us = omega arith
names-append (t ∷ ts) us = counted (is_name t.lexeme) (names_in (ts ++ us)) (names_in ts) (names_in us) (names-append ts us)

-- how many binders may stand at one nesting, by the form
abbrev slack : Form → ℕ
slack Form.Term = 2
slack Form.Ending = 1
slack Form.Sum = 1
slack Form.Binder = 1
slack _ = 0

any : (xs : List Binder) → All (λ (x : Binder). Unit {0}) xs
any xs = λ k d l. tt

readable_word : {w : Word} {act : Written → WrittenAct} {s : Written} → TermWord w act → CanBeRead s → CanActBeRead (act s)
readable_word TermWord.refine c = c
readable_word TermWord.claim c = c
readable_word TermWord.equiv c = c
readable_word TermWord.hnf c = c
readable_word TermWord.normal c = c
readable_word TermWord.goal c = c

number_word : {w : Word} {act : ℕ → WrittenAct} (n : ℕ) → NumberWord w act → CanActBeRead (act n)
number_word n NumberWord.next = tt
number_word n NumberWord.undo = tt

name_word : {w : Word} {act : NameAt → WrittenAct} (x : NameAt) → NameWord w act → CanActBeRead (act x)
name_word x NameWord.forget = tt
name_word x NameWord.discharge = tt
name_word x NameWord.save = tt

lone_word : {w : Word} {act : WrittenAct} → LoneWord w act → CanActBeRead act
lone_word LoneWord.assumption = tt
lone_word LoneWord.save = tt
lone_word LoneWord.kill = tt
lone_word LoneWord.prf = tt
lone_word LoneWord.ctxt = tt
lone_word LoneWord.explicit = tt
lone_word LoneWord.implicit = tt

module _ {names : Names} where
  listed : {d : ℕ} {ts : List Nested} {xs : List NameAt} → NameList names d ts xs → length (names_of xs) ≤ names_in ts
  listed (NameList.one e) = omega arith
  listed (NameList.more e l) = let h = listed l in omega arith

  -- some token of a reading stands at its nesting
  nested : {d : ℕ} {f : Form} {ts : List Nested} {s : Written} → Reads names d f ts s → AreFine ts → d ≤ 500
  nested {d} (Reads.term_ending r) h = nested r h
  nested {d} (Reads.term_sum r) h = nested r h
  nested {d} (Reads.arrow p {ts = ts} r q) h = nested r (every_left IsFine ts _ h)
  nested {d} (Reads.ending_binder r) h = nested r h
  nested {d} (Reads.apply_binder {ts = ts} r q) h = nested r (every_left IsFine ts _ h)
  nested {d} (Reads.apply_bar_binder p {ts = ts} r q) h = nested r (every_left IsFine ts _ h)
  nested {d} (Reads.hash_ending p {ts = ts} r q) h = nested r (every_left IsFine ts _ h)
  nested {d} (Reads.sum_spine r) h = nested r h
  nested {d} (Reads.hash_sum p {ts = ts} r q) h = nested r (every_left IsFine ts _ h)
  nested {d} (Reads.spine_post r) h = nested r h
  nested {d} (Reads.apply {ts = ts} r q) h = nested r (every_left IsFine ts _ h)
  nested {d} (Reads.apply_bar p {ts = ts} r q) h = nested r (every_left IsFine ts _ h)
  nested {d} (Reads.post_atom r) h = nested r h
  nested {d} (Reads.first p q {ts = ts} r) h = nested r (every_left IsFine ts _ h)
  nested {d} (Reads.second p q {ts = ts} r) h = nested r (every_left IsFine ts _ h)
  nested {d} (Reads.name p e) h = h.0.0
  nested {d} (Reads.prop p) h = h.0.0
  nested {d} (Reads.any_type p) h = h.0.0
  nested {d} (Reads.type_at p q r s) h = h.0.0
  nested {d} (Reads.goal p q) h = h.0.0
  nested {d} (Reads.parens p q r) h = h.0.0
  nested {d} (Reads.pair p q r s m n a) h = h.0.0
  nested {d} (Reads.bind p q r may l a m) h = h.0.0
  nested {d} (Reads.local p q r s e m b) h = h.0.0

  -- the local variables are bound by names, or by binders of which two at most stand at one nesting
  bounded : {d : ℕ} {f : Form} {ts : List Nested} {s : Written} → Reads names d f ts s → AreFine ts
      → locals_within s ≤ names_in ts + (slack f + 2 * (500 - d))
  bounded {d} (Reads.term_ending r) h = let a = bounded r h in omega arith
  bounded {d} (Reads.term_sum r) h = let a = bounded r h in omega arith
  bounded {d} (Reads.arrow p {ts = ts} {us = us} r q) h =
      let rest = every_right IsFine ts _ h in
      let a = bounded r (every_left IsFine ts _ h) in let b = bounded q rest.1 in let l = nested q rest.1 in
      let n = names-append ts (symbol d p Arrow ∷ us) in omega arith
  bounded {d} (Reads.ending_binder r) h = bounded r h
  bounded {d} (Reads.apply_binder {ts = ts} {us = us} r q) h =
      let a = bounded r (every_left IsFine ts _ h) in let b = bounded q (every_right IsFine ts _ h) in let n = names-append ts us in omega arith
  bounded {d} (Reads.apply_bar_binder p {ts = ts} {us = us} r q) h =
      let rest = every_right IsFine ts _ h in
      let a = bounded r (every_left IsFine ts _ h) in let b = bounded q rest.1 in let n = names-append ts (symbol d p Bar ∷ us) in omega arith
  bounded {d} (Reads.hash_ending p {ts = ts} {us = us} r q) h =
      let rest = every_right IsFine ts _ h in
      let a = bounded r (every_left IsFine ts _ h) in let b = bounded q rest.1 in let l = nested q rest.1 in
      let n = names-append ts (symbol d p Hash ∷ us) in omega arith
  bounded {d} (Reads.sum_spine r) h = let a = bounded r h in omega arith
  bounded {d} (Reads.hash_sum p {ts = ts} {us = us} r q) h =
      let rest = every_right IsFine ts _ h in
      let a = bounded r (every_left IsFine ts _ h) in let b = bounded q rest.1 in let l = nested q rest.1 in
      let n = names-append ts (symbol d p Hash ∷ us) in omega arith
  bounded {d} (Reads.spine_post r) h = bounded r h
  bounded {d} (Reads.apply {ts = ts} {us = us} r q) h =
      let a = bounded r (every_left IsFine ts _ h) in let b = bounded q (every_right IsFine ts _ h) in let n = names-append ts us in omega arith
  bounded {d} (Reads.apply_bar p {ts = ts} {us = us} r q) h =
      let rest = every_right IsFine ts _ h in
      let a = bounded r (every_left IsFine ts _ h) in let b = bounded q rest.1 in let n = names-append ts (symbol d p Bar ∷ us) in omega arith
  bounded {d} (Reads.post_atom r) h = bounded r h
  bounded {d} (Reads.first p q {ts = ts} r) h =
      let a = bounded r (every_left IsFine ts _ h) in let n = names-append ts (symbol d p Dot ∷ token d q (Number 1) ∷ []) in omega arith
  bounded {d} (Reads.second p q {ts = ts} r) h =
      let a = bounded r (every_left IsFine ts _ h) in let n = names-append ts (symbol d p Dot ∷ token d q (Number 2) ∷ []) in omega arith
  bounded {d} (Reads.name p e) h = omega arith
  bounded {d} (Reads.prop p) h = omega arith
  bounded {d} (Reads.any_type p) h = omega arith
  bounded {d} (Reads.type_at p q r s) h = omega arith
  bounded {d} (Reads.goal p q) h = omega arith
  bounded {d} (Reads.parens p q {ts = ts} r) h =
      let end = symbol d q CloseParen ∷ [] in
      let inner = every_left IsFine ts end h.1 in
      let a = bounded r inner in let l = nested r inner in let n = names-append ts end in omega arith
  bounded {d} (Reads.pair p q r s {ts = ts} {us = us} {vs = vs} m n a) h =
      let second = symbol (suc d) q Comma ∷ us in let third = symbol (suc d) r Colon ∷ vs in let end = symbol d s CloseParen ∷ [] in
      let three = every_left IsFine ((ts ++ second) ++ third) end h.1 in let two = every_left IsFine (ts ++ second) third three in
      let inner = every_left IsFine ts second two in
      let i = bounded m inner in let j = bounded n (every_right IsFine ts second two).1 in
      let k = bounded a (every_right IsFine (ts ++ second) third three).1 in let l = nested m inner in
      let c = names-append ((ts ++ second) ++ third) end in let e = names-append (ts ++ second) third in let g = names-append ts second in
      omega arith
  bounded {d} (Reads.bind p q r {kind = kind} {mark = mark} {ns = ns} {ts = ts} {us = us} may l a m) h =
      let domain = symbol (suc d) q (sign mark) ∷ ts in let body = symbol d r (closing kind) ∷ us in
      let front = every_left IsFine (ns ++ domain) body h.1 in let last = every_right IsFine (ns ++ domain) body h.1 in
      let i = bounded a (every_right IsFine ns domain front).1 in let j = bounded m last.1 in let k = listed l in
      let deep = nested m last.1 in let c = names-append (ns ++ domain) body in let e = names-append ns domain in
      omega arith
  bounded {d} (Reads.local p q r s {ts = ts} {us = us} named m b) h =
      let body = symbol d s CloseSquare ∷ us in let last = every_right IsFine ts body h.1.1.1 in
      let i = bounded m (every_left IsFine ts body h.1.1.1) in let j = bounded b last.1 in let deep = nested b last.1 in
      let e = names-append ts body in
      omega arith

  small : {d : ℕ} {f : Form} {ts : List Nested} {s : Written} → Reads names d f ts s → AreFine ts → HasSmallLevels s
  small {d} (Reads.term_ending r) h = small r h
  small {d} (Reads.term_sum r) h = small r h
  small {d} (Reads.arrow p {ts = ts} r q) h = (any (written_binders Plain []), small r (every_left IsFine ts _ h), small q (every_right IsFine ts _ h).1)
  small {d} (Reads.ending_binder r) h = small r h
  small {d} (Reads.apply_binder {ts = ts} r q) h = (small r (every_left IsFine ts _ h), small q (every_right IsFine ts _ h))
  small {d} (Reads.apply_bar_binder p {ts = ts} r q) h = (small r (every_left IsFine ts _ h), small q (every_right IsFine ts _ h).1)
  small {d} (Reads.hash_ending p {ts = ts} r q) h = (any (written_binders Plain []), small r (every_left IsFine ts _ h), small q (every_right IsFine ts _ h).1)
  small {d} (Reads.sum_spine r) h = small r h
  small {d} (Reads.hash_sum p {ts = ts} r q) h = (any (written_binders Plain []), small r (every_left IsFine ts _ h), small q (every_right IsFine ts _ h).1)
  small {d} (Reads.spine_post r) h = small r h
  small {d} (Reads.apply {ts = ts} r q) h = (small r (every_left IsFine ts _ h), small q (every_right IsFine ts _ h))
  small {d} (Reads.apply_bar p {ts = ts} r q) h = (small r (every_left IsFine ts _ h), small q (every_right IsFine ts _ h).1)
  small {d} (Reads.post_atom r) h = small r h
  small {d} (Reads.first p q {ts = ts} r) h = small r (every_left IsFine ts _ h)
  small {d} (Reads.second p q {ts = ts} r) h = small r (every_left IsFine ts _ h)
  small {d} (Reads.name p e) h = tt
  small {d} (Reads.prop p) h = tt
  small {d} (Reads.any_type p) h = tt
  small {d} (Reads.type_at p q r s) h = h.1.1.0.1
  small {d} (Reads.goal p q) h = tt
  small {d} (Reads.parens p q {ts = ts} r) h = small r (every_left IsFine ts (symbol d q CloseParen ∷ []) h.1)
  small {d} (Reads.pair p q r s {ts = ts} {us = us} {vs = vs} m n a) h =
      let second = symbol (suc d) q Comma ∷ us in let third = symbol (suc d) r Colon ∷ vs in let end = symbol d s CloseParen ∷ [] in
      let three = every_left IsFine ((ts ++ second) ++ third) end h.1 in let two = every_left IsFine (ts ++ second) third three in
      (small m (every_left IsFine ts second two), small n (every_right IsFine ts second two).1, small a (every_right IsFine (ts ++ second) third three).1)
  small {d} (Reads.bind p q r {kind = kind} {mark = mark} {ns = ns} {ts = ts} {us = us} {xs = xs} may l a m) h =
      let domain = symbol (suc d) q (sign mark) ∷ ts in let body = symbol d r (closing kind) ∷ us in
      let front = every_left IsFine (ns ++ domain) body h.1 in
      (any (written_binders mark (names_of xs)), small a (every_right IsFine ns domain front).1, small m (every_right IsFine (ns ++ domain) body h.1).1)
  small {d} (Reads.local p q r s {ts = ts} {us = us} named m b) h =
      let body = symbol d s CloseSquare ∷ us in
      (tt, small m (every_left IsFine ts body h.1.1.1), small b (every_right IsFine ts body h.1.1.1).1)

  readable : {d : ℕ} {ts : List Nested} {s : Written} → Reads names d Form.Term ts s → AreFine ts → names_in ts ≤ 32768 → CanBeRead s
  readable r h n = record { few = (let a = bounded r h in omega arith); small = small r h }

  readable_binding : {ts : List Nested} {b : WrittenBinding} → ReadsBinding names ts b → AreFine ts → names_in ts ≤ 32768 → CanKindBeRead b.kind
  readable_binding (ReadsBinding.assume p q r {mark = mark} {ns = ns} {ts = ts} l a) h n =
      let domain = symbol 1 q (sign mark) ∷ ts in let end = symbol 0 r CloseSquare ∷ [] in
      let front = every_left IsFine (ns ++ domain) end h.1 in
      let c = names-append (ns ++ domain) end in let e = names-append ns domain in
      readable a (every_right IsFine ns domain front).1 (omega arith)
  readable_binding (ReadsBinding.define p q r s {ts = ts} named m) h n =
      let end = symbol 0 s CloseSquare ∷ [] in let e = names-append ts end in readable m (every_left IsFine ts end h.1.1.1) (omega arith)
  readable_binding (ReadsBinding.define_typed p q r s t {ts = ts} {us = us} named m a) h n =
      let stated = symbol 1 s Colon ∷ us in let end = symbol 0 t CloseSquare ∷ [] in
      let front = every_left IsFine (ts ++ stated) end h.1.1.1 in
      let c = names-append (ts ++ stated) end in let e = names-append ts stated in
      (readable m (every_left IsFine ts stated front) (omega arith), readable a (every_right IsFine ts stated front).1 (omega arith))

  readable_bindings : {ts : List Nested} {bs : List WrittenBinding} → ReadsBindings names ts bs → AreFine ts → names_in ts ≤ 32768
      → All (λ b. CanKindBeRead b.kind) bs
  readable_bindings (ReadsBindings.one {b = b} r) h n =
      All-cons (λ x. CanKindBeRead x.kind) b [] (readable_binding r h n) (All-nil (λ (x : WrittenBinding). CanKindBeRead x.kind))
  readable_bindings (ReadsBindings.more {ts = ts} {us = us} {b = b} {bs = bs} r rs) h n =
      let e = names-append ts us in
      All-cons (λ x. CanKindBeRead x.kind) b bs (readable_binding r (every_left IsFine ts us h) (omega arith))
      (readable_bindings rs (every_right IsFine ts us h) (omega arith))

  readable_act : {ts : List Nested} {act : WrittenAct} → ReadsAct names ts act → AreFine ts → names_in ts ≤ 32768 → CanActBeRead act
  readable_act (ReadsAct.bindings rs) h n = readable_bindings rs h n
  readable_act (ReadsAct.show r) h n = readable r h n
  readable_act (ReadsAct.with_term w r) h n = readable_word w (readable r h.1 n)
  readable_act (ReadsAct.named_goal named r) h n = readable r h.1.1.1 (omega arith)
  readable_act (ReadsAct.intros ns) h n = tt
  readable_act (ReadsAct.with_number {n = k} w) h n = number_word k w
  readable_act (ReadsAct.with_name {q = q} {n = k} w named) h n = name_word (record { place = q; name = k }) w
  readable_act (ReadsAct.alone w) h n = lone_word w

  readable_command : {ts : List Nested} {c : WrittenCommand} → ReadsCommand names ts c → AreFine ts → names_in ts ≤ 32768 → CanActBeRead c.act
  readable_command (ReadsCommand.command {t = t} {ts = ts} p r) h n =
      let end = symbol 0 p Semicolon ∷ [] in
      let e = names-append (t ∷ ts) end in readable_act r (every_left IsFine (t ∷ ts) end h) (omega arith)

fine : (ts : List Nested) → AllByRecursion (λ t. t.nesting ≤ 500) ts → AllByRecursion (λ t. IsSmall t.lexeme) (map item ts) → AreFine ts
fine [] d s = tt
fine (t ∷ ts) d s = ((d.0, s.0), fine ts d.1 s.1)

pub parsed_terms : ParsedTermsCanBeRead
parsed_terms command form =
    readable_command form.reads
    (fine form.tokens (recursion_from_All _ form.tokens form.shallow) (recursion_from_All _ (map item form.tokens) form.small)) form.few
