-- Terms without local definitions: what steps lead to, and what pure derivations are about.
use Rattle.std.proofs.Common.{◌≡◌, ℕ, zero, suc, ◌-◌, Bool, true, false, nat_lt, nat_eq, if◌then◌else◌, Some, List, [], ◌∷◌, slice_get, inl, inr, subst}
use Rattle.std.specs.List.{AllByRecursion}
use Rattle.lego_term.specs.Trees.{Term, Var, Const, Prop, Univ, Pi, Lam, App, Sigma, Pair, Fst, Snd, Let, lift, put, put_var, instantiate}
use Rattle.lego_term.specs.Steps.{Contracts, Step}
use Rattle.lego_laws.specs.Parallel.{TermBodies, Star}
use Rattle.lego_laws.specs.Entries.{Constant, constant_of}
use Rattle.lego_laws.specs.Judgement.{Valid, Has}
use Rattle.lego_laws.specs.Expansion.{IsPureList, IsPure, HasNoLocal, PureTermsHaveNoLocal, BodiesHaveNoLocal, StepsBringNoLocal, ReducesWithoutLocals, ConversionNeedsNoLocal}
use Rattle.lego_laws.proofs.lemmas.reduction.CommonReducts.{confluence}
use Rattle.lego_laws.proofs.lemmas.reduction.Below.{below_inverts}
use Rattle.lego_laws.proofs.lemmas.typing.Entries.{found}

lifted : (from by : ℕ) (t : Term) → HasNoLocal t → HasNoLocal (lift from by t)
lifted from by (Var i) h = tt
lifted from by (Const k) h = tt
lifted from by Prop h = tt
lifted from by (Univ l) h = tt
lifted from by (Pi x a r) h = (lifted from by a h.0, lifted (suc from) by r h.1)
lifted from by (Lam x a m) h = (lifted from by a h.0, lifted (suc from) by m h.1)
lifted from by (Sigma x a r) h = (lifted from by a h.0, lifted (suc from) by r h.1)
lifted from by (App k m n) h = (lifted from by m h.0, lifted from by n h.1)
lifted from by (Pair x a r m n) h = (lifted from by a h.0, lifted (suc from) by r h.1, lifted from by m h.2, lifted from by n h.3)
lifted from by (Fst m) h = lifted from by m h
lifted from by (Snd m) h = lifted from by m h
lifted from by (Let x m n) h = elim h [ ]

put_at : (depth i : ℕ) (y : Term) → HasNoLocal y → HasNoLocal (put_var depth y i)
put_at depth i y h = by_place (nat_lt i depth) (nat_eq i depth)
  where
    by_place : (c d : Bool) → HasNoLocal (if c then Var i else if d then lift 0 depth y else Var (i - 1))
    by_place true d = tt
    by_place false true = lifted 0 depth y h
    by_place false false = tt

put_in : (depth : ℕ) (y t : Term) → HasNoLocal y → HasNoLocal t → HasNoLocal (put depth y t)
put_in depth y (Var i) g h = put_at depth i y g
put_in depth y (Const k) g h = tt
put_in depth y Prop g h = tt
put_in depth y (Univ l) g h = tt
put_in depth y (Pi x a r) g h = (put_in depth y a g h.0, put_in (suc depth) y r g h.1)
put_in depth y (Lam x a m) g h = (put_in depth y a g h.0, put_in (suc depth) y m g h.1)
put_in depth y (Sigma x a r) g h = (put_in depth y a g h.0, put_in (suc depth) y r g h.1)
put_in depth y (App k m n) g h = (put_in depth y m g h.0, put_in depth y n g h.1)
put_in depth y (Pair x a r m n) g h = (put_in depth y a g h.0, put_in (suc depth) y r g h.1, put_in depth y m g h.2, put_in depth y n g h.3)
put_in depth y (Fst m) g h = put_in depth y m g h
put_in depth y (Snd m) g h = put_in depth y m g h
put_in depth y (Let x m n) g h = elim h [ ]

instantiated : (m n : Term) → HasNoLocal m → HasNoLocal n → HasNoLocal (instantiate m n)
unfolding instantiate
instantiated m n h k = put_in 0 n m k h

module _ (b : TermBodies) (bodies : BodiesHaveNoLocal b) where
  contracted : {t u : Term} → Contracts b t u → HasNoLocal t → HasNoLocal u
  contracted (Contracts.beta {m = m} {n = n}) h = instantiated m n h.0.1 h.1
  contracted Contracts.first h = h.2
  contracted Contracts.second h = h.3
  contracted Contracts.local h = elim h [ ]
  contracted (Contracts.unfolds {k = k} {m = m} e) h = bodies k m e

  stepped : {t u : Term} → Step b t u → HasNoLocal t → HasNoLocal u
  stepped (Step.here c) h = contracted c h
  stepped (Step.pi_domain s) h = (stepped s h.0, h.1)
  stepped (Step.pi_body s) h = (h.0, stepped s h.1)
  stepped (Step.lam_domain s) h = (stepped s h.0, h.1)
  stepped (Step.lam_body s) h = (h.0, stepped s h.1)
  stepped (Step.function s) h = (stepped s h.0, h.1)
  stepped (Step.argument s) h = (h.0, stepped s h.1)
  stepped (Step.sigma_domain s) h = (stepped s h.0, h.1)
  stepped (Step.sigma_body s) h = (h.0, stepped s h.1)
  stepped (Step.pair_domain s) h = (stepped s h.0, h.1, h.2, h.3)
  stepped (Step.pair_body s) h = (h.0, stepped s h.1, h.2, h.3)
  stepped (Step.pair_first s) h = (h.0, h.1, stepped s h.2, h.3)
  stepped (Step.pair_second s) h = (h.0, h.1, h.2, stepped s h.3)
  stepped (Step.fst_operand s) h = stepped s h
  stepped (Step.snd_operand s) h = stepped s h
  stepped (Step.local_value s) h = elim h [ ]
  stepped (Step.local_body s) h = elim h [ ]

pub steps_bring_no_local : StepsBringNoLocal
steps_bring_no_local b bodies m n s h = stepped b bodies s h

-- a run of steps from a term without local definitions is one between such terms
without_locals : (b : TermBodies) → BodiesHaveNoLocal b → {m n : Term} → Star (Step b) m n → HasNoLocal m → ReducesWithoutLocals b m n
without_locals b bodies Star.stop h = ReducesWithoutLocals.stays h
without_locals b bodies (Star.go s r) h = ReducesWithoutLocals.steps h s (without_locals b bodies r (stepped b bodies s h))

pub conversion_needs_no_local : ConversionNeedsNoLocal
conversion_needs_no_local b closed bodies m n hm hn = (
  λ c. (let r = confluence.1 b closed m n c in (r.meet, without_locals b bodies r.left hm, without_locals b bodies r.right hn)),
  λ l. (let r = (below_inverts b closed m n).0 l in (r.low, r.high, without_locals b bodies r.left hm, without_locals b bodies r.right hn, r.by_form)),
)

-- the lists of a pure derivation, and what it derives
record Lists (es : List Constant) (g : List Term) : Type 0 where
  locals : AllByRecursion (λ t. HasNoLocal t) g
  types : (k : ℕ) (e : Constant) → constant_of es k ≡ Some e → HasNoLocal e.ty

record Whole (es : List Constant) (g : List Term) (m a : Term) : Type 0 where
  term : HasNoLocal m
  type : HasNoLocal a
  lists : Lists es g

local_type : (g : List Term) (i : ℕ) (a : Term) → AllByRecursion (λ t. HasNoLocal t) g → slice_get g i ≡ Some a → HasNoLocal a
local_type [] i a h e = cc
local_type (t ∷ g) zero a h e = let is : t ≡ a = cc e in subst (λ z. HasNoLocal z) is h.0
local_type (t ∷ g) (suc i) a h e = local_type g i a h.1 e

without_first : {es : List Constant} {g : List Term} {a : Term} → Lists es (a ∷ g) → Lists es g
without_first l = record { locals = l.locals.1; types = l.types }

newest : (e : Constant) (es : List Constant) → HasNoLocal e.ty → ((k : ℕ) (x : Constant) → constant_of es k ≡ Some x → HasNoLocal x.ty) → (k : ℕ) (x : Constant) → constant_of (e ∷ es) k ≡ Some x → HasNoLocal x.ty
newest e es h old k x p =
    elim (found (nat_eq e.number k) e x (constant_of es k) p) [ inl same ↦ subst (λ (z : Constant). HasNoLocal z.ty) same h | inr q ↦ old k x q ]

mutual
  unfolding IsPure IsPureList

  of_list : {es : List Constant} {g : List Term} (v : Valid es g) → IsPureList v → Lists es g
  of_list Valid.empty p = record { locals = tt; types = λ k e f. cc }
  of_list (Valid.grow_constant {es = es} {e = e} d new) p = let h = whole d p in record { locals = tt; types = newest e es h.term h.lists.types }
  of_list (Valid.grow_variable d) p = let h = whole d p in record { locals = (h.term, h.lists.locals); types = h.lists.types }

  whole : {es : List Constant} {g : List Term} {m a : Term} (d : Has es g m a) → IsPure d → Whole es g m a
  whole (Has.ax v) p = record { term = tt; type = tt; lists = of_list v p }
  whole (Has.universe v) p = record { term = tt; type = tt; lists = of_list v p }
  whole (Has.variable {g = g} {i = i} {a = a} v f) p = let l = of_list v p in record { term = tt; type = lifted 0 (suc i) a (local_type g i a l.locals f); lists = l }
  whole (Has.constant {k = k} {e = e} v f) p = let l = of_list v p in record { term = tt; type = l.types k e f; lists = l }
  whole (Has.pi_prop d) p = let h = whole d p in record { term = (h.lists.locals.0, h.term); type = tt; lists = without_first h.lists }
  whole (Has.pi_type d e) p = let h = whole d p.0 in record { term = (h.term, (whole e p.1).term); type = tt; lists = h.lists }
  whole (Has.lambda d) p = let h = whole d p in record { term = (h.lists.locals.0, h.term); type = (h.lists.locals.0, h.type); lists = without_first h.lists }
  whole (Has.application {b = b} {n = n} d e) p =
      let h = whole d p.0 in
      let k = whole e p.1 in
      record { term = (h.term, k.term); type = instantiated b n h.type.1 k.term; lists = h.lists }
  whole (Has.sigma d e) p = let h = whole d p.0 in record { term = (h.term, (whole e p.1).term); type = tt; lists = h.lists }
  whole (Has.pair d e f) p =
      let h = whole d p.0 in
      let k = whole e p.1 in
      let l = whole f p.2 in
      record { term = (h.type, l.term, h.term, k.term); type = (h.type, l.term); lists = h.lists }
  whole (Has.first d) p = let h = whole d p in record { term = h.term; type = h.type.0; lists = h.lists }
  whole (Has.second {b = b} {m = m} d) p = let h = whole d p in record { term = h.term; type = instantiated b (Fst m) h.type.1 h.term; lists = h.lists }
  whole (Has.local d e) p = elim p [ ]
  whole (Has.cumulative d e l) p = let h = whole d p.0 in record { term = h.term; type = (whole e p.1).term; lists = h.lists }

pub pure_terms_have_no_local : PureTermsHaveNoLocal
pure_terms_have_no_local es g m a d p = let h = whole d p in (h.term, h.type, h.lists.locals, h.lists.types)
