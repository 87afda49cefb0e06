-- Parts of two terms that face one another: what a comparison comes to.
use Rattle.std.specs.Prelude.{◌≡◌, ℕ, suc, Some, None, Option, slice_get}
use Rattle.lego_term.specs.declared.level.Level.{Level}
use Rattle.lego_term.specs.Trees.{Core, Var, Const, Prop, Univ, Bodies}
use Rattle.lego_term.specs.declared.binder.Binder.{Binder}
use Rattle.lego_term.specs.declared.binder.Mark.{Mark}
use Rattle.lego_term.specs.Parts.{Shape, APi, ASigma, shape_of, Branch, parts_of}
use Rattle.lego_term.specs.Sequences.{HeadForm}

-- how the two sides of a path are compared
pub data Order : Type 0 where
  Cumulativity Conversion : Order

-- bodies of products and the parts of Sigma types are compared as the whole is, all other parts by conversion
abbrev pub order_at : Order → Shape → ℕ → Order
order_at Conversion s i = Conversion
order_at Cumulativity ASigma i = Cumulativity
order_at Cumulativity APi (suc i) = Cumulativity
order_at Cumulativity _ i = Conversion

-- the binders crossed, with those above the part
abbrev pub crossed : ℕ → Branch → ℕ
crossed n b = above n b.under
  where
    above : ℕ → Option Binder → ℕ
    above n None = n
    above n (Some x) = suc n

-- one path of parts reaches the two head forms from both sides, under so many more binders; a head form is taken at each turn
pub data Faces (bodies : Bodies Binder Mark Level) (a b : Core) : Order → ℕ → Core → Core → Type 0 where
  root : {h k : Core} → HeadForm bodies a h → HeadForm bodies b k → Faces bodies a b Cumulativity 0 h k
  turn : {o : Order} {n : ℕ} {c d h k : Core} {s : Shape} {p q : Branch} (i : ℕ)
      → Faces bodies a b o n c d → shape_of c ≡ Some s → shape_of d ≡ Some s
      → slice_get (parts_of c) i ≡ Some p → slice_get (parts_of d) i ≡ Some q
      → HeadForm bodies p.term h → HeadForm bodies q.term k → Faces bodies a b (order_at o s i) (crossed n p) h k

-- low <= high is asked of two universes that face one another
pub data Asks : Order → Level → Level → Level → Level → Type 0 where
  up : {o : Order} {l m : Level} → Asks o l m l m
  down : {l m : Level} → Asks Conversion l m m l

-- where the whole is compared so, the order of the two sides at the end of a path that has this order
abbrev pub order_under : Order → Order → Order
order_under Cumulativity on_path = on_path
order_under Conversion on_path = Conversion

-- two universes that one path of parts reaches from both sides ask that low is at most high
pub record IsAsked (o : Order) (bodies : Bodies Binder Mark Level) (a b : Core) (low high : Level) : Type 0 where
  pub on_path : Order
  pub deeper : ℕ
  pub left : Level
  pub right : Level
  pub faces : Faces bodies a b on_path deeper (Univ left) (Univ right)
  pub asks : Asks (order_under o on_path) left right low high

-- two head forms have one root, or both are universes
pub data SameRoot : Core → Core → Type 0 where
  variable : {i : ℕ} → SameRoot (Var i) (Var i)
  constant : {k : ℕ} → SameRoot (Const k) (Const k)
  prop : SameRoot Prop Prop
  universes : {l m : Level} → SameRoot (Univ l) (Univ m)
  parts : {h k : Core} {s : Shape} → shape_of h ≡ Some s → shape_of k ≡ Some s → SameRoot h k
