-- Each form of a term is read where its parts are, in the rank that is wanted.
use Rattle.std.proofs.Common.{◌≡◌, ℕ, zero, suc, ◌<◌, ◌≤◌, ◌^◌, Bool, true, false, nat_lt, if◌then◌else◌, List, [], ◌∷◌, ◌++◌, Option, Some, None, option_map, refl, ap, arith}
use Rattle.std.specs.Prelude.{decimal, codes}
use Rattle.std.proofs.lemmas.Bool.Decides.{nat_tests}
use Rattle.lego_term.specs.Trees.{Univ, Pi, App, Sigma, Fst, Snd, Let}
use Rattle.lego_term.specs.declared.binder.Mark.{Mark}
use Rattle.lego_term.specs.declared.binder.Mark.TheVariants.{Plain, Implicit}
use Rattle.lego_laws.specs.Entries.{Entry}
use Rattle.lego_lexer.specs.Tokens.{Lexeme, Name, Number, OfWord, OfSymbol, word_text, words, symbol_text, symbols, written_as, has_name_form, has_number_form, number_value, or_else, token_of}
use Rattle.lego_lexer.specs.declared.token.Word.{Word}
use Rattle.lego_lexer.specs.declared.token.Symbol.{Symbol}
use Rattle.lego_lexer.specs.declared.token.Symbol.TheVariants.{OpenSquare, CloseSquare, Equals, Hash, Arrow, Bar}
use Rattle.lego_grammar.specs.Grammar.{Names, Nested, Form, Term, Sum, Spine, Post, Atom, Reads as Parse, opening, closing, sign, MayBind, NameList}
use Rattle.lego_grammar.specs.Written.{Written, Bind, Local, Apply}
use Rattle.lego_grammar.specs.declared.surface.Kind.{Kind}
use Rattle.lego_grammar.specs.declared.surface.Kind.TheVariants as Kinds
use Rattle.lego_grammar.specs.declared.surface.Part.TheVariants as Parts
use Rattle.lego_grammar.specs.Scopes.{LocalVariable, Scope as Reading}
use Rattle.lego_grammar.specs.Reading.{ReadsExplicitly, bind_core, binder}
use Rattle.lego_grammar.specs.Denotes.{MarkedTerm}
use Rattle.lego_grammar.specs.Developments.{is_printable}
use Rattle.lego_print.specs.ReadBack.{IsHeldText}
use Rattle.lego_print.specs.Texts.{ranked}
use Rattle.lego_print.proofs.ReadTokens.{IsNoStar, no_star_of, MayStand, IsNameText, name_text_is, number_stands, decimal_text}
use Rattle.lego_print.proofs.ReadParts.{CanRead, both_true, bind_marked, bind-marked, as_form, two_parts, binder_parts, parens_read, projected, level_read}

-- the form of each rank
abbrev pub form_of : ℕ → Form
form_of zero = Term
form_of (suc zero) = Sum
form_of (suc (suc zero)) = Spine
form_of (suc (suc (suc n))) = Post

module _ (names : Names) (d : ℕ) (ns : List Nested) (w : Written) where
  pub post_to : (wanted : ℕ) → Parse names d Post ns w → Parse names d (form_of wanted) ns w
  post_to zero p = Parse.term_sum (Parse.sum_spine (Parse.spine_post p))
  post_to (suc zero) p = Parse.sum_spine (Parse.spine_post p)
  post_to (suc (suc zero)) p = Parse.spine_post p
  post_to (suc (suc (suc n))) p = p

  pub atom_to : (wanted : ℕ) → Parse names d Atom ns w → Parse names d (form_of wanted) ns w
  atom_to wanted p = post_to wanted (Parse.post_atom p)

  pub promote : (wanted rank : ℕ) → wanted ≤ rank → Parse names d (form_of rank) ns w → Parse names d (form_of wanted) ns w
  promote zero zero l p = p
  promote zero (suc zero) l p = Parse.term_sum p
  promote zero (suc (suc zero)) l p = Parse.term_sum (Parse.sum_spine p)
  promote (suc zero) zero l p = absurd (omega arith)
  promote (suc zero) (suc zero) l p = p
  promote (suc zero) (suc (suc zero)) l p = Parse.sum_spine p
  promote (suc (suc zero)) zero l p = absurd (omega arith)
  promote (suc (suc zero)) (suc zero) l p = absurd (omega arith)
  promote (suc (suc zero)) (suc (suc zero)) l p = p
  promote (suc (suc (suc n))) zero l p = absurd (omega arith)
  promote (suc (suc (suc n))) (suc zero) l p = absurd (omega arith)
  promote (suc (suc (suc n))) (suc (suc zero)) l p = absurd (omega arith)
  promote wanted (suc (suc (suc m))) l p = post_to wanted p

-- the text can be read where this rank is wanted, also behind a `(`
pub record Both (names : Names) (es : List Entry) (locals : Reading) (wanted : ℕ) (text : List ℕ) (c : MarkedTerm) : Type 0 where
  pub read : CanRead names es locals (form_of wanted) text c
  pub star : IsNoStar text

module _ (names : Names) (es : List Entry) where
  -- an atom, wherever it is wanted
  pub both_atom : {locals : Reading} {text : List ℕ} {c : MarkedTerm} (wanted : ℕ) → CanRead names es locals Atom text c → IsNoStar text → Both names es locals wanted text c
  both_atom wanted r star = record { read = as_form names es (λ d ns w p. atom_to names d ns w wanted p) r; star = star }

  -- a text of a rank, in parentheses where a higher one is wanted
  pub both_ranked : {locals : Reading} {text : List ℕ} {c : MarkedTerm} (rank wanted : ℕ) → CanRead names es locals (form_of rank) text c → IsNoStar text
      → Both names es locals wanted (ranked rank wanted text) c
  both_ranked {locals} {text} {c} rank wanted r star =
      elim (nat_lt rank wanted) as (λ b. nat_lt rank wanted ≡ b → Both names es locals wanted (if b then codes "(" ++ text ++ codes ")" else text) c) [
        | true ↦ λ e. both_atom wanted (parens_read names es text c star (as_form names es (λ d ns w p. promote names d ns w 0 rank (omega arith) p) r)) (no_star_of 40 (text ++ 41 ∷ []) refl)
        | false ↦ λ e. record {
          read = as_form names es (λ d ns w p. promote names d ns w wanted rank (let l : wanted ≤ rank = grind (arith, nat_tests) in l) p) r;
          star = star;
        }
      ] refl

  unfoldable pub as_term : {locals : Reading} {text : List ℕ} {c : MarkedTerm} → CanRead names es locals Form.Binder text c → CanRead names es locals Term text c
  as_term r = as_form names es (λ d ns w p. Parse.term_ending (Parse.ending_binder p)) r

  -- an arrow and a `#`
  pub arrow_read : {locals : Reading} (a b : List ℕ) (x y : MarkedTerm) → CanRead names es locals Sum a x → CanRead names es (LocalVariable.Bound None ∷ locals) Term b y
      → CanRead names es locals Term ((a ++ 45 ∷ 62 ∷ []) ++ b) (Pi Plain x y)
  arrow_read a b x y ra rb =
      two_parts names es Term Sum Term Arrow a b x y (Pi Plain x y) suc (λ rest. tt) ra rb (Pi (binder None Plain) ra.core rb.core)
      (bind-marked Kinds.Pi (binder None Plain) ra.core rb.core x y ra.is rb.is)
      (λ d p ts us w u pa pb da db pr qr. record { written = Bind Kinds.Pi Plain [] w u; parsed = Parse.arrow p pa pb; read = ReadsExplicitly.nameless da db; printable = both_true (is_printable w) (is_printable u) pr qr })

  unfoldable pub hash_read : {locals : Reading} (a b : List ℕ) (x y : MarkedTerm) (ra : CanRead names es locals Spine a x) (rb : CanRead names es (LocalVariable.Bound None ∷ locals) Sum b y)
      → CanRead names es locals Sum ((a ++ 35 ∷ []) ++ b) (Sigma Plain x y)
  hash_read a b x y ra rb =
      two_parts names es Sum Spine Sum Hash a b x y (Sigma Plain x y) suc (λ rest. tt) ra rb (Sigma (binder None Plain) ra.core rb.core)
      (bind-marked Kinds.Sigma (binder None Plain) ra.core rb.core x y ra.is rb.is)
      (λ d p ts us w u pa pb da db pr qr. record { written = Bind Kinds.Sigma Plain [] w u; parsed = Parse.hash_sum p pa pb; read = ReadsExplicitly.nameless da db; printable = both_true (is_printable w) (is_printable u) pr qr })

  -- an application to an implicit argument
  pub bar_read : {locals : Reading} (f a : List ℕ) (x y : MarkedTerm) → CanRead names es locals Spine f x → CanRead names es locals Post a y
      → CanRead names es locals Spine ((f ++ 124 ∷ []) ++ a) (App Implicit x y)
  bar_read f a x y rf ra =
      two_parts names es Spine Spine Post Bar f a x y (App Implicit x y) (λ d. d) (λ rest. tt) rf ra (App Implicit rf.core ra.core)
      (let p = rf.is in let q = ra.is in rw (p, q) refl)
      (λ d p ts us w u pa pb da db pr qr. record { written = Apply Implicit w u; parsed = Parse.apply_bar p pa pb; read = ReadsExplicitly.apply da db; printable = both_true (is_printable w) (is_printable u) pr qr })

  pub may_open : (kind : Kind) (rest : List ℕ) → MayStand (opening kind) rest
  may_open Kinds.Lambda rest = tt
  may_open Kinds.Pi rest = tt
  may_open Kinds.Sigma rest = tt

  pub may_close : (kind : Kind) (rest : List ℕ) → MayStand (closing kind) rest
  may_close Kinds.Lambda rest = tt
  may_close Kinds.Pi rest = tt
  may_close Kinds.Sigma rest = tt

  pub may_sign : (mark : Mark) (rest : List ℕ) → MayStand (sign mark) rest
  may_sign Plain rest = tt
  may_sign Implicit rest = tt

  -- a binder with a domain
  unfoldable pub bind_read : {locals : Reading} (kind : Kind) (mark : Mark) → MayBind kind mark → (name a b : List ℕ) (h : IsHeldText names name) → IsNameText name → (x y : MarkedTerm)
      → CanRead names es locals Term a x → CanRead names es (LocalVariable.Bound (Some h.number) ∷ locals) Term b y
      → CanRead names es locals Term (((((symbol_text (opening kind) ++ name) ++ symbol_text (sign mark)) ++ a) ++ symbol_text (closing kind)) ++ b) (bind_marked kind mark x y)
  bind_read kind mark may name a b h n x y ra rb =
      as_term (binder_parts names es (opening kind) (sign mark) (closing kind) name a b h n x y (bind_marked kind mark x y)
      (λ rest. may_open kind (name ++ rest)) (may_sign mark) (may_close kind) ra rb (bind_core kind (binder (Some h.number) mark) ra.core rb.core)
      (bind-marked kind (binder (Some h.number) mark) ra.core rb.core x y ra.is rb.is)
      (λ d p q r e ts us w u pa pb da db pr qr. record {
        written = Bind kind mark (h.number ∷ []) w u;
        parsed = Parse.bind p r e may (NameList.one h.held) pa pb;
        read = ReadsExplicitly.named da db;
        printable = both_true (is_printable w) (is_printable u) pr qr;
      }))

  -- a local definition
  pub local_read : {locals : Reading} (name a b : List ℕ) (h : IsHeldText names name) → IsNameText name → (x y : MarkedTerm)
      → (ra : CanRead names es locals Term a x) → CanRead names es (LocalVariable.Defined h.number ra.core ∷ locals) Term b y
      → CanRead names es locals Term ((((((91 ∷ []) ++ name) ++ 61 ∷ []) ++ a) ++ 93 ∷ []) ++ b) (Let Plain x y)
  local_read name a b h n x y ra rb =
      as_term (binder_parts names es OpenSquare Equals CloseSquare name a b h n x y (Let Plain x y) (λ rest. tt) (λ rest. tt) (λ rest. tt) ra rb
      (Let (binder (Some h.number) Plain) ra.core rb.core) (let p = ra.is in let q = rb.is in rw (p, q) refl)
      (λ d p q r e ts us w u pa pb da db pr qr. record {
        written = Local h.number w u;
        parsed = Parse.local p q r e h.held pa pb;
        read = ReadsExplicitly.local_definition da db;
        printable = both_true (is_printable w) (is_printable u) pr qr;
      }))

  -- projections
  pub first_read : {locals : Reading} (a : List ℕ) (x : MarkedTerm) → CanRead names es locals Post a x → CanRead names es locals Post (a ++ 46 ∷ 49 ∷ []) (Fst x)
  first_read a x r =
      projected names es 1 Parts.First a x (Fst x) (λ rest stops. number_stands (49 ∷ []) rest 1 (record { first = 49; rest = []; is = refl; begins = refl; digits = refl; token = refl }) stops)
      (λ d p q ts w h. Parse.first p q h) (λ m e. ap (λ (z : MarkedTerm). Fst z) e) r

  pub second_read : {locals : Reading} (a : List ℕ) (x : MarkedTerm) → CanRead names es locals Post a x → CanRead names es locals Post (a ++ 46 ∷ 50 ∷ []) (Snd x)
  second_read a x r =
      projected names es 2 Parts.Second a x (Snd x) (λ rest stops. number_stands (50 ∷ []) rest 2 (record { first = 50; rest = []; is = refl; begins = refl; digits = refl; token = refl }) stops)
      (λ d p q ts w h. Parse.second p q h) (λ m e. ap (λ (z : MarkedTerm). Snd z) e) r

  -- a universe
  pub univ_read : {locals : Reading} (n : ℕ) → n < 2 ^ 64 → CanRead names es locals Atom (codes "Type(" ++ decimal n ++ codes ")") (Univ n)
  univ_read n l = level_read names es (decimal n) n (decimal_text n l)

-- the parts that make a token, as they are tried in order
abbrev first_of_forms : Option Word → Option Symbol → Bool → Bool → List ℕ → ℕ → Option Lexeme
first_of_forms w s name number text value =
    or_else (option_map OfWord w) (or_else (option_map OfSymbol s)
    (or_else (if name then Some (Name text) else None) (if number then Some (Number value) else None)))

is_name_form : (text other : List ℕ) (value : ℕ) (w : Option Word) (s : Option Symbol) (name number : Bool)
    → first_of_forms w s name number text value ≡ Some (Name other) → name ≡ true
is_name_form text other value (Some w) s name number h = absurd (cc)
is_name_form text other value None (Some s) name number h = absurd (cc)
is_name_form text other value None None true number h = refl
is_name_form text other value None None false true h = absurd (cc)
is_name_form text other value None None false false h = absurd (cc)

-- a name has the form of one
pub name_form : (text : List ℕ) → token_of text ≡ Some (Name text) → has_name_form text ≡ true
name_form text h =
    is_name_form text text (number_value text) (written_as word_text words text) (written_as symbol_text symbols text) (has_name_form text) (has_number_form text) h

pub name_is : (text : List ℕ) → token_of text ≡ Some (Name text) → IsNameText text
name_is text h = name_text_is text (name_form text h)
