-- Where a walk ends: at two universes, and behind the last part of two head forms.
use Rattle.std.proofs.Common.{◌≡◌, ℕ, Option, Some, None, Ok, drop, slice_get, option_map, List, [], ◌∷◌, ◌++◌, refl, sym, subst, arith}
use Rattle.std.specs.Prelude.{All}
use Rattle.std.proofs.lemmas.List.{append-nil}
use Rattle.std.proofs.lemmas.List.Elements.{All-nil, All-cons}
use Rattle.lego_base.specs.declared.place.Place.{Place}
use Rattle.lego_level.specs.declared.constraint.Constraint.{Constraint}
use Rattle.lego_level.specs.Graphs.{pairs_of}
use Rattle.lego_term.specs.declared.level.Level.{Level}
use Rattle.lego_term.specs.Trees.{Core, Var, Const, Prop, Univ, Pi, Lam, App, Sigma, Pair, Fst, Snd}
use Rattle.lego_term.specs.Parts.{Branch, parts_of, shape_of}
use Rattle.lego_laws.specs.Parallel.{CoreBodies}
use Rattle.lego_laws.specs.Counting.{stopped}
use Rattle.lego_laws.specs.Comparison.{FormsCompared, f_univ, asked}
use Rattle.lego_compare.specs.declared.relation.Relation.{Relation}
use Rattle.lego_compare.specs.declared.relation.Relation.TheVariants.{Below, Same}
use Rattle.lego_compare.specs.declared.roots.Roots.TheVariants.{Universes}
use Rattle.lego_compare.specs.private.Codes.{order_of, roots_of, alike_if_equal, asked_at, term_of}
use Rattle.lego_compare.specs.private.Walks.{c_none, FormsWalk, PartsWalk}
use Rattle.lego_compare.proofs.PartLemmas.{drop_none}
use Rattle.lego_compare.proofs.AlikeLemmas.{past_end, same_count}

no_universes : (i j : ℕ) (l m : Level) → alike_if_equal i j ≡ Universes l m → ⊥
no_universes i j l m e = grind arith

universe_roots : (r : Relation) (h k : Core) (l m : Level) → roots_of r h k ≡ Universes l m → (h ≡ Univ l) × (k ≡ Univ m)
universe_roots r (Var i) (Var j) l m e = absurd (no_universes i j l m e)
universe_roots r (Const i) (Const j) l m e = absurd (no_universes i j l m e)
universe_roots Below Prop (Univ n) l m e = absurd (cc)
universe_roots Same Prop (Univ n) l m e = absurd (cc)
universe_roots r (Univ n) (Univ o) l m e = (cc, cc)
universe_roots r Prop Prop l m e = absurd (cc)
universe_roots r (Pi x a c) (Pi y a' c') l m e = absurd (cc)
universe_roots r (Lam x a c) (Lam y a' c') l m e = absurd (cc)
universe_roots r (App x a c) (App y a' c') l m e = absurd (cc)
universe_roots r (Sigma x a c) (Sigma y a' c') l m e = absurd (cc)
universe_roots r (Pair x a c n o) (Pair y a' c' n' o') l m e = absurd (cc)
universe_roots r (Fst n) (Fst o) l m e = absurd (cc)
universe_roots r (Snd n) (Snd o) l m e = absurd (cc)
universe_roots r _ _ l m e = absurd (cc)

pairs_asked : (r : Relation) (l m : Level) (place : Place) → pairs_of (asked_at r l m place) ≡ asked (order_of r) l m
pairs_asked Below l m place = refl
pairs_asked Same l m place = refl

abbrev between : Level → Level → Place → Constraint
between l m place = record { low = l; high = m; place = Some place }

one_of_one : (P : Constraint → Type 0) (c : Constraint) → P c → All P (c ∷ [])
one_of_one P c x = All-cons P c [] x (All-nil P)

both_of_two : (P : Constraint → Type 0) (c d : Constraint) → P c → P d → All P (c ∷ d ∷ [])
both_of_two P c d x y = All-cons P c (d ∷ []) x (one_of_one P d y)

asked_placed : (r : Relation) (l m : Level) (place : Place) → All (λ c. c.place ≡ Some place) (asked_at r l m place)
asked_placed Below l m place = one_of_one (λ c. c.place ≡ Some place) (between l m place) refl
asked_placed Same l m place = both_of_two (λ c. c.place ≡ Some place) (between l m place) (between m l place) refl refl

-- two universes ask their constraints
pub universes_pass : (b : CoreBodies) (r : Relation) (h k : Core) (l m : Level) (limit room before : ℕ) (place : Place) (old new : List Constraint)
    → roots_of r h k ≡ Universes l m → new ≡ old ++ asked_at r l m place → FormsWalk b r h k limit room before place old new (Ok 0)
universes_pass b r h k l m limit room before place old new e added =
    let u = universe_roots r h k l m e in
    rw (u.0, u.1) (record {
      more = asked_at r l m place;
      added = added;
      compared = subst (FormsCompared b (order_of r) (Univ l) (Univ m)) (sym (pairs_asked r l m place)) f_univ;
      left = 0;
      right = 0;
      walked = stopped;
      sum = refl;
      within = omega arith;
      placed = asked_placed r l m place;
    })

no_part : (t : Core) (i : ℕ) → None ≡ option_map term_of (slice_get (parts_of t) i) → drop i (parts_of t) ≡ []
no_part t i e = by_item (slice_get (parts_of t) i) refl e
  where
    by_item : (o : Option Branch) → slice_get (parts_of t) i ≡ o → None ≡ option_map term_of o → drop i (parts_of t) ≡ []
    by_item None z e = drop_none (parts_of t) i z
    by_item (Some p) z e = cc

none_left : (b : CoreBodies) (r : Relation) (h k : Core) (i limit room before : ℕ) (place : Place) (old : List Constraint)
    → drop i (parts_of h) ≡ [] → drop i (parts_of k) ≡ [] → PartsWalk b r h k i limit room before place old old (Ok 0)
none_left b r h k i limit room before place old x y =
    rw (x, y) (record {
      more = [];
      added = sym (append-nil old);
      compared = c_none;
      left = 0;
      right = 0;
      walked = stopped;
      sum = refl;
      within = omega arith;
      placed = All-nil _;
    })

-- behind the last part of the left head form, and of the right one
pub left_ends : (b : CoreBodies) (r : Relation) (h k : Core) (i limit room before : ℕ) (place : Place) (old : List Constraint)
    → shape_of h ≡ shape_of k → None ≡ option_map term_of (slice_get (parts_of h) i) → PartsWalk b r h k i limit room before place old old (Ok 0)
left_ends b r h k i limit room before place old form e =
    let x = no_part h i e in
    none_left b r h k i limit room before place old x (past_end (parts_of h) (parts_of k) i (same_count h k form) x)

pub right_ends : (b : CoreBodies) (r : Relation) (h k : Core) (i limit room before : ℕ) (place : Place) (old : List Constraint)
    → shape_of h ≡ shape_of k → None ≡ option_map term_of (slice_get (parts_of k) i) → PartsWalk b r h k i limit room before place old old (Ok 0)
right_ends b r h k i limit room before place old form e =
    let y = no_part k i e in
    none_left b r h k i limit room before place old (past_end (parts_of k) (parts_of h) i (sym (same_count h k form)) y) y
