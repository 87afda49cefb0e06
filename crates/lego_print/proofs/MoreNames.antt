-- A numbering with further texts: the old numbers stay, and the texts differ.
use Rattle.std.proofs.Common.{◌≡◌, ℕ, zero, suc, Bool, true, false, ◌||◌, List, [], ◌∷◌, ◌++◌, length, Some, refl, sym, ap, ◌∙◌, subst, append_assoc, append-nil}
use Rattle.std.specs.Prelude.{slice_get}
use Rattle.std.specs.List.{AllByRecursion}
use Rattle.std.proofs.lemmas.Cmp.{nat_list_eq_equiv}
use Rattle.std.proofs.lemmas.Option.{same_Some}
use Rattle.lego_base.specs.Names.{same_text, has_name, AreDistinct}
use Rattle.lego_base.proofs.NamesLemmas.{true_is_false}
use Rattle.lego_grammar.specs.Grammar.{Names}
use Rattle.lego_print.proofs.Texts.{same_text_equal}

-- the names hold the text
pub record IsHeld (names : Names) (text : List ℕ) : Type 0 where
  pub number : ℕ
  pub held : slice_get names number ≡ Some text

abbrev pub AreHeld : Names → List (List ℕ) → Type 0
AreHeld names texts = AllByRecursion (IsHeld names) texts

pub get_front : (xs ys : Names) (n : ℕ) (text : List ℕ) → slice_get xs n ≡ Some text → slice_get (xs ++ ys) n ≡ Some text
get_front [] ys n text h = absurd (cc)
get_front (x ∷ xs) ys zero text h = h
get_front (x ∷ xs) ys (suc n) text h = get_front xs ys n text h

get_last : (xs : Names) (text : List ℕ) → slice_get (xs ++ text ∷ []) (length xs) ≡ Some text
get_last [] text = refl
get_last (x ∷ xs) text = get_last xs text

-- the text that stands at a number of a list with one more text
data Stands (xs : Names) (text : List ℕ) (n : ℕ) (found : List ℕ) : Type 0 where
  before : slice_get xs n ≡ Some found → Stands xs text n found
  last : n ≡ length xs → text ≡ found → Stands xs text n found

stands : (xs : Names) (text : List ℕ) (n : ℕ) (found : List ℕ) → slice_get (xs ++ text ∷ []) n ≡ Some found → Stands xs text n found
stands [] text zero found h = Stands.last refl (same_Some text found h)
stands [] text (suc n) found h = absurd (cc)
stands (x ∷ xs) text zero found h = Stands.before h
stands (x ∷ xs) text (suc n) found h = by_rest (stands xs text n found h)
  where
    by_rest : Stands xs text n found → Stands (x ∷ xs) text (suc n) found
    by_rest (Stands.before p) = Stands.before p
    by_rest (Stands.last p q) = Stands.last (ap suc p) q

or_right : (a : Bool) → (a || true) ≡ true
or_right true = refl
or_right false = refl

here_named : (xs : Names) (text : List ℕ) (n : ℕ) → slice_get xs n ≡ Some text → has_name xs text ≡ true
here_named [] text n h = absurd (cc)
here_named (x ∷ xs) text zero h =
    ap (λ (t : List ℕ). same_text text t || has_name xs text) (same_Some x text h) ∙ ap (λ b. b || has_name xs text) (nat_list_eq_equiv.refl text)
here_named (x ∷ xs) text (suc n) h = ap (λ b. same_text text x || b) (here_named xs text n h) ∙ or_right (same_text text x)

named_here : (xs : Names) (text : List ℕ) → has_name xs text ≡ true → IsHeld xs text
named_here [] text h = absurd (cc)
named_here (x ∷ xs) text h = by_first (same_text text x) refl (λ others. named_here xs text others)
  where
    by_first : (b : Bool) → same_text text x ≡ b → (has_name xs text ≡ true → IsHeld xs text) → IsHeld (x ∷ xs) text
    by_first true e among = record { number = 0; held = ap (λ (t : List ℕ). Some t) (sym (same_text_equal text x e)) }
    by_first false e among =
        let rest = among (sym (ap (λ b. b || has_name xs text) e) ∙ h) in
        record { number = suc rest.number; held = rest.held }

distinct_more : (xs : Names) (text : List ℕ) → AreDistinct xs → has_name xs text ≡ false → AreDistinct (xs ++ text ∷ [])
distinct_more xs text d new i j found hi hj = by_both (stands xs text i found hi) (stands xs text j found hj)
  where
    absent : (n : ℕ) → slice_get xs n ≡ Some found → text ≡ found → ⊥
    absent n h e = true_is_false (has_name xs text) (here_named xs text n (h ∙ ap (λ (t : List ℕ). Some t) (sym e))) new

    by_both : Stands xs text i found → Stands xs text j found → i ≡ j
    by_both (Stands.before p) (Stands.before q) = d i j found p q
    by_both (Stands.before p) (Stands.last q e) = absurd (absent i p e)
    by_both (Stands.last p e) (Stands.before q) = absurd (absent j q e)
    by_both (Stands.last p e) (Stands.last q f) = p ∙ sym q

-- further names by which the texts are held
pub record AreAdded (given : Names) (texts : List (List ℕ)) : Type 0 where
  pub more : Names
  pub distinct : AreDistinct (given ++ more)
  pub held : AreHeld (given ++ more) texts

pub added : (given : Names) (texts : List (List ℕ)) → AreDistinct given → AreAdded given texts
added given [] d = record { more = []; distinct = subst AreDistinct (sym (append-nil given)) d; held = tt }
added given (t ∷ ts) d = by_test (has_name given t) refl (λ names distinct. added names ts distinct)
  where
    by_test : (b : Bool) → has_name given t ≡ b → ((names : Names) → AreDistinct names → AreAdded names ts) → AreAdded given (t ∷ ts)
    by_test true e others =
        let rest = others given d in
        let h = named_here given t e in
        record { more = rest.more; distinct = rest.distinct; held = (record { number = h.number; held = get_front given rest.more h.number t h.held }, rest.held) }
    by_test false e others =
        let rest = others (given ++ t ∷ []) (distinct_more given t d e) in
        let same : (given ++ t ∷ []) ++ rest.more ≡ given ++ t ∷ rest.more = append_assoc given (t ∷ []) rest.more in
        let here : IsHeld ((given ++ t ∷ []) ++ rest.more) t = record { number = length given; held = get_front (given ++ t ∷ []) rest.more (length given) t (get_last given t) } in
        record {
          more = t ∷ rest.more;
          distinct = subst AreDistinct same rest.distinct;
          held = (subst (λ (ns : Names). IsHeld ns t) same here, subst (λ (ns : Names). AreHeld ns ts) same rest.held);
        }

-- both parts of texts are held
pub held_front : (names : Names) (xs ys : List (List ℕ)) → AreHeld names (xs ++ ys) → AreHeld names xs
held_front names [] ys h = tt
held_front names (x ∷ xs) ys h = (h.0, held_front names xs ys h.1)

pub held_back : (names : Names) (xs ys : List (List ℕ)) → AreHeld names (xs ++ ys) → AreHeld names ys
held_back names [] ys h = h
held_back names (x ∷ xs) ys h = held_back names xs ys h.1
