-- A search that stops at a part stops at the whole; and what a term's rule type is, or that it has none, by those of its parts.
use Rattle.std.proofs.Common.{◌≡◌, ℕ, List, ◌∷◌, Option, Some, None, Result, Ok, Err, sym, subst, ⊎_elim}
use Rattle.lego_term.specs.declared.binder.Binder.{Binder}
use Rattle.lego_term.specs.declared.binder.Mark.{Mark}
use Rattle.lego_term.specs.Levels.{variable_level}
use Rattle.lego_term.specs.Trees.{Core, Prop, Univ, Pi, Lam, App, Fst, Snd, Let, instantiate}
use Rattle.lego_term.specs.Sequences.{HeadForm}
use Rattle.lego_laws.specs.Entries.{Entry, core_bodies}
use Rattle.lego_laws.specs.RuleTypes.{RuleType, nodes}
use Rattle.lego_laws.specs.Places.{AFunction, APair, Fulfils, Site, behind, under, RuleTypeAt}
use Rattle.lego_inference.specs.declared.fault.TypeFault.{TypeFault}
use Rattle.lego_inference.specs.declared.fault.TypeFault.TheVariants.{Memory}
use Rattle.lego_inference.specs.declared.locals.Local.{Local}
use Rattle.lego_inference.specs.Locals.{site_of}
use Rattle.lego_inference.specs.private.Judging.{MakingFails, IsMade}
use Rattle.lego_inference.specs.private.Wanting.{LacksHead, IsHeadOf}
use Rattle.lego_rule_types.specs.declared.head.Former.{Former}
use Rattle.lego_rule_types.specs.Used.{IsUsed, IsHeadUsed}
use Rattle.lego_rule_types.specs.Failures.{Stops}
use Rattle.lego_rule_types.specs.Calls.{HasNoRuleType}
use Rattle.lego_rule_types.proofs.AgreeLemmas.{all_functions, all_pairs}
use Rattle.lego_rule_types.specs.private.Finding.{Finds, HeadStops, HasHead, FindsHead, FindsFormer, HasNoFormer, IsIn, product_tree, sigma_tree, IsSortOfProduct}

-- the same site, by other names for its locals and its number
pub at_site : (P : Site → Type 0) {l l' : List Local} {n n' : ℕ} → l ≡ l' → n ≡ n' → P (site_of l n) → P (site_of l' n')
at_site P {l} {l'} {n} {n'} e f h = subst (λ z. P (site_of l' z)) f (subst (λ z. P (site_of z n)) e h)

-- the used parts of the first are used parts of the second
abbrev pub Uses : Site → Core → Site → Core → Type 0
Uses p b s m = (s' : Site) (n : Core) → IsUsed p b s' n → IsUsed s m s' n

head_used_in : {p s s' : Site} {b m n : Core} → Uses p b s m → IsHeadUsed p b s' n → IsHeadUsed s m s' n
head_used_in f (IsHeadUsed.product_body u) = IsHeadUsed.product_body (f _ _ u)
head_used_in f (IsHeadUsed.applied u) = IsHeadUsed.applied (f _ _ u)
head_used_in f (IsHeadUsed.first_of u) = IsHeadUsed.first_of (f _ _ u)
head_used_in f (IsHeadUsed.second_of u) = IsHeadUsed.second_of (f _ _ u)

module _ (es : List Entry) (limit : ℕ) where
  pub stops_in : {p s : Site} {b m : Core} {fault : TypeFault} → Uses p b s m → Stops es limit p b fault → Stops es limit s m fault
  stops_in f (Stops.budget u r k) = Stops.budget (head_used_in f u) r k
  stops_in f (Stops.rule u r l) = Stops.rule (f _ _ u) r l
  stops_in f (Stops.passed i u r le at l) = Stops.passed i (head_used_in f u) r le at l
  stops_in f Stops.memory = Stops.memory

  pub head_stops_in : {p s : Site} {b m : Core} {fault : TypeFault} → Uses p b s m → IsHeadUsed s m p b → HeadStops es limit p b fault → Stops es limit s m fault
  head_stops_in f u (HeadStops.part k) = stops_in f k
  head_stops_in f u (HeadStops.budget r k) = Stops.budget u r k
  head_stops_in f u (HeadStops.passed i r le at l) = Stops.passed i u r le at l

  making_stops : {s : Site} {m a : Core} {fault : TypeFault} → RuleTypeAt es s m a → MakingFails a fault → Stops es limit s m fault
  making_stops r (MakingFails.too_large l) = Stops.rule IsUsed.whole r l
  making_stops r MakingFails.memory = Stops.memory

  lacking_stops : (s : Site) (m a : Core) (fault : TypeFault) → RuleTypeAt es s m a → LacksHead es limit s.binders a fault → HeadStops es limit s m fault
  lacking_stops s m a _ r (LacksHead.budget k) = HeadStops.budget r k
  lacking_stops s m a _ r (LacksHead.too_large i le at l) = HeadStops.passed i r le at l
  lacking_stops s m a _ r LacksHead.memory = HeadStops.part Stops.memory

  pub memory_stops : {s : Site} {m : Core} (fault : TypeFault) → fault ≡ Memory → Stops es limit s m fault
  memory_stops {s} {m} fault e = subst (Stops es limit s m) (sym e) Stops.memory

  -- the rule type is this one, and is made
  pub made_some : (s : Site) (m a ty : Core) → RuleTypeAt es s m a → IsMade a (Ok ty) → Finds es limit s m (Ok (Some ty))
  made_some s m a ty r h = subst (RuleTypeAt es s m) (sym h) r

  pub made_err : (s : Site) (m a : Core) (fault : TypeFault) → RuleTypeAt es s m a → IsMade a (Err fault) → Finds es limit s m (Err fault)
  made_err s m a fault r h = making_stops r h

  pub rule_some : (s : Site) (m a ty : Core) → RuleTypeAt es s m a → ty ≡ a → Finds es limit s m (Ok (Some ty))
  rule_some s m a ty r e = subst (RuleTypeAt es s m) (sym e) r

  -- the head form of a rule type, or that it is not found
  pub head_err : (s : Site) (m a : Core) (fault : TypeFault) → RuleTypeAt es s m a → IsHeadOf es limit s.binders a (Err fault) → FindsHead es limit s m (Err fault)
  head_err s m a fault r p = lacking_stops s m a fault r p

  -- the parts of which a rule type is read
  pub uses_product : (s : Site) (x : Binder) (a b : Core) → Uses (under x a (behind 1 s)) b s (Pi x a b)
  uses_product s x a b s' n u = IsUsed.product_body u

  pub uses_function : (s : Site) (x : Binder) (a b : Core) → Uses (under x a s) b s (Lam x a b)
  uses_function s x a b s' n u = IsUsed.function_body u

  pub uses_applied : (s : Site) (k : Mark) (f m : Core) → Uses s f s (App k f m)
  uses_applied s k f m s' n u = IsUsed.applied u

  pub uses_first : (s : Site) (m : Core) → Uses s m s (Fst m)
  uses_first s m s' n u = IsUsed.first_of u

  pub uses_second : (s : Site) (m : Core) → Uses s m s (Snd m)
  uses_second s m s' n u = IsUsed.second_of u

  pub uses_local : (s : Site) (x : Binder) (m b : Core) → Uses (behind (nodes m) s) (instantiate b m) s (Let x m b)
  uses_local s x m b s' n u = IsUsed.local_body u

  -- a product by the head form of its body's rule type
  pub product_found : (s : Site) (x : Binder) (a b h ty : Core) → HasHead es (under x a (behind 1 s)) b h → IsSortOfProduct h s.first ty → RuleTypeAt es s (Pi x a b) ty
  product_found s x a b h ty has is =
      ⊎_elim (λ (p : (h ≡ Prop) × (ty ≡ Prop)). subst (RuleTypeAt es s (Pi x a b)) (sym p.1) (RuleType.pi_prop has.rule (subst (HeadForm (core_bodies es) has.ty) p.0 has.head)))
      (λ (p : (h ≡ Prop → ⊥) × (ty ≡ Univ (variable_level s.first))). subst (RuleTypeAt es s (Pi x a b)) (sym p.1) (RuleType.pi_type has.rule has.head p.0)) is

  pub product_none : (s : Site) (x : Binder) (a b : Core) → HasNoRuleType es (a ∷ s.types) b → HasNoRuleType es s.types (Pi x a b)
  product_none s x a b none w n ty (RuleType.pi_prop r p) = none w _ _ r
  product_none s x a b none w n ty (RuleType.pi_type r p o) = none w _ _ r

  pub function_none : (s : Site) (x : Binder) (a b : Core) → HasNoRuleType es (a ∷ s.types) b → HasNoRuleType es s.types (Lam x a b)
  function_none s x a b none w n ty (RuleType.lambda r) = none w _ _ r

  pub first_none : (s : Site) (m : Core) → HasNoFormer APair es s.types m → HasNoRuleType es s.types (Fst m)
  first_none s m none w n ty (RuleType.first r p) = none w _ _ _ r p Fulfils.a_pair

  pub second_none : (s : Site) (m : Core) → HasNoFormer APair es s.types m → HasNoRuleType es s.types (Snd m)
  second_none s m none w n ty (RuleType.second r p) = none w _ _ _ r p Fulfils.a_pair

  pub local_none : (s : Site) (x : Binder) (m b : Core) → HasNoRuleType es s.types (instantiate b m) → HasNoRuleType es s.types (Let x m b)
  local_none s x m b none w n ty (RuleType.local r) = none w _ _ r

  pub unfit_applied : (s : Site) (k : Mark) (f m h : Core) → HasHead es s f h → (Fulfils AFunction h → ⊥) → HasNoRuleType es s.types (App k f m)
  unfit_applied s k f m h has unfit w n ty (RuleType.application r p) = unfit (all_functions has.rule has.head r p Fulfils.a_function)

  -- what is found in the head form of a pair's rule type
  pub former_found : (s : Site) (m h : Core) (r : Result (Option Former) TypeFault) → HasHead es s m h → IsIn sigma_tree APair h r → FindsFormer sigma_tree APair es limit s m r
  former_found s m h (Ok (Some found)) has e = subst (HasHead es s m) e has
  former_found s m h (Ok None) has unfit = λ w n a h' r p fit. unfit (all_pairs has.rule has.head r p fit)
  former_found s m h (Err fault) has e = HeadStops.part (memory_stops fault e)

  -- a local definition by its body with the value put in
  pub local_found : (s : Site) (x : Binder) (m b : Core) (r : Result (Option Core) TypeFault) → Finds es limit (behind (nodes m) s) (instantiate b m) r → Finds es limit s (Let x m b) r
  local_found s x m b (Ok (Some a)) h = RuleType.local h
  local_found s x m b (Ok None) h = local_none s x m b h
  local_found s x m b (Err fault) h = stops_in (uses_local s x m b) h

  -- what a call found, by what its option is
  pub some_found : (s : Site) (m : Core) (o : Option Core) (a : Core) → o ≡ Some a → Finds es limit s m (Ok o) → RuleTypeAt es s m a
  some_found s m o a e h = subst (λ (z : Option Core). Finds es limit s m (Ok z)) e h

  pub none_found : (s : Site) (m : Core) (o : Option Core) → o ≡ None → Finds es limit s m (Ok o) → HasNoRuleType es s.types m
  none_found s m o e h = subst (λ (z : Option Core). Finds es limit s m (Ok z)) e h

  pub some_head : (s : Site) (m : Core) (o : Option Core) (h : Core) → o ≡ Some h → FindsHead es limit s m (Ok o) → HasHead es s m h
  some_head s m o h e f = subst (λ (z : Option Core). FindsHead es limit s m (Ok z)) e f

  pub none_head : (s : Site) (m : Core) (o : Option Core) → o ≡ None → FindsHead es limit s m (Ok o) → HasNoRuleType es s.types m
  none_head s m o e f = subst (λ (z : Option Core). FindsHead es limit s m (Ok z)) e f

  pub some_pair : (s : Site) (m : Core) (o : Option Former) (f : Former) → o ≡ Some f → FindsFormer sigma_tree APair es limit s m (Ok o) → HasHead es s m (sigma_tree f)
  some_pair s m o f e h = subst (λ (z : Option Former). FindsFormer sigma_tree APair es limit s m (Ok z)) e h

  pub no_pair : (s : Site) (m : Core) (o : Option Former) → o ≡ None → FindsFormer sigma_tree APair es limit s m (Ok o) → HasNoFormer APair es s.types m
  no_pair s m o e h = subst (λ (z : Option Former). FindsFormer sigma_tree APair es limit s m (Ok z)) e h

-- what is in a head form
pub some_in : (h : Core) (o : Option Former) (f : Former) → o ≡ Some f → IsIn product_tree AFunction h (Ok o) → h ≡ product_tree f
some_in h o f e i = subst (λ (z : Option Former). IsIn product_tree AFunction h (Ok z)) e i

pub none_in : (h : Core) (o : Option Former) → o ≡ None → IsIn product_tree AFunction h (Ok o) → Fulfils AFunction h → ⊥
none_in h o e i = subst (λ (z : Option Former). IsIn product_tree AFunction h (Ok z)) e i
