-- Constraints of leaves.
use Rattle.std.proofs.Common.{◌≡◌, ℕ, zero, suc, ◌+◌, ◌≤◌, Some, option_map, List, [], ◌∷◌, map, get_or, refl, sym, ap, ◌∙◌, arith}
use Rattle.lego_term.specs.declared.level.Level.{Level}
use Rattle.lego_term.specs.Levels.{Assignment, level_value, fixed_level, variable_level, LevelPair}
use Rattle.lego_term.specs.Trees.{Core, Term, Var, Const, Prop, Univ, lift, at}
use Rattle.lego_term.specs.Below.{Below}
use Rattle.lego_laws.specs.Parallel.{CoreBodies, bodies_at}
use Rattle.lego_laws.specs.Cumulativity.{ByForm}
use Rattle.lego_laws.specs.Derivations.{HasLocal, d_prop, d_univ, d_cum, d_var, d_const}
use Rattle.lego_laws.specs.Ranges.{levels_bound, level_bound, locals_bound, Context, Solution, FitsBetween, raised_level}
use Rattle.lego_laws.proofs.lemmas.reduction.Below.{under-below}
use Rattle.lego_laws.proofs.lemmas.reduction.Mapping.{map-lift}
use Rattle.lego_laws.proofs.lemmas.inference.Bounded.{generation_up}
use Rattle.lego_laws.proofs.lemmas.inference.LevelsWithin.{levels-lift}
use Rattle.lego_laws.proofs.lemmas.inference.Agreeing.{narrower, at_agree, value_agree, cut, cut_agree, cut_small, put_level, put_agree, put_here, put_small}
use Rattle.lego_laws.proofs.lemmas.inference.Solving.{below_with}

pub at-lift : (v : Assignment) (from by : ℕ) (t : Core) → at v (lift from by t) ≡ lift from by (at v t)
at-lift v = map-lift (λ x. tt) (λ x. tt) (level_value v)

-- nothing new
nothing_new : {n : ℕ} {v : Assignment} {b : CoreBodies} {a : Core} {q : Term} {t : ℕ} → levels_bound a ≤ n → Below (bodies_at v b) (at v a) q → Solution n v b [] a q t
nothing_new {n} {v} {b} {a} {q} {t} le p =
    record {
      w = cut n v;
      agree = cut_agree n v;
      satisfies = tt;
      below = below_with refl (at_agree v (cut n v) a (narrower le (cut_agree n v))) refl p;
      small = λ u lo. let e = cut_small n v u lo in omega arith;
    }

-- the type of a variable of a list of core types, lifted to where the list ends
pub data HasCoreLocal : List Core → ℕ → Core → Type 0 where
  first : {g : List Core} {a : Core} → HasCoreLocal (a ∷ g) zero (lift 0 1 a)
  later : {g : List Core} {a t : Core} {i : ℕ} → HasCoreLocal g i t → HasCoreLocal (a ∷ g) (suc i) (lift 0 1 t)

pub local_at_values : (v : Assignment) {g : List Core} {i : ℕ} {a : Core} → HasCoreLocal g i a → HasLocal (map (at v) g) i (at v a)
local_at_values v (first {a = a}) = rw (at-lift v 0 1 a) HasLocal.here
local_at_values v (later {t = t} l) = rw (at-lift v 0 1 t) (HasLocal.there (local_at_values v l))

pub one_local : {g : List Term} {i : ℕ} {a a' : Term} → HasLocal g i a → HasLocal g i a' → a ≡ a'
one_local HasLocal.here HasLocal.here = refl
one_local (HasLocal.there l) (HasLocal.there k) = ap (lift 0 1) (one_local l k)

local_levels : {g : List Core} {i : ℕ} {a : Core} → HasCoreLocal g i a → levels_bound a ≤ locals_bound g
local_levels (first {a = a}) = omega (arith, levels-lift 0 1 a)
local_levels (later {t = t} l) = let h = local_levels l in omega (arith, levels-lift 0 1 t)

raised_value : (v : Assignment) (l : Level) → level_value v (raised_level l) ≡ suc (level_value v l)
raised_value v l = omega arith

some_same : {t u : Term} → Some t ≡ Some u → t ≡ u
some_same e = cc

module _ (n : ℕ) (c b : CoreBodies) (held : List LevelPair) (g : List Core) (x : Context n c b held g) where
  pub prop_fits : FitsBetween n n c b held g Prop (Univ (fixed_level 0)) []
  prop_fits =
      record { grows = omega arith; type_within = omega arith; pairs_within = omega arith; sound = λ v h k. d_prop; principal = λ v h t p d. nothing_new (omega arith) (generation_up d) }

  pub var_fits : {i : ℕ} {a : Core} → HasCoreLocal g i a → FitsBetween n n c b held g (Var i) a []
  var_fits l =
      let w = x.locals_within in
      let e = local_levels l in
      record { grows = omega arith; type_within = omega arith; pairs_within = omega arith; sound = λ v h k. d_var (local_at_values v l); principal = λ v h t p d. let z = generation_up d in nothing_new (omega arith) (below_with refl (one_local z.1 (local_at_values v l)) refl z.2) }

  pub const_fits : {k : ℕ} {a : Core} → c k ≡ Some a → FitsBetween n n c b held g (Const k) a []
  const_fits {k} {a} e =
      record { grows = omega arith; type_within = x.types_within k a e; pairs_within = omega arith; sound = λ v h s. d_const (ap (option_map (at v)) e); principal = λ v h t p d. let z = generation_up d in nothing_new (x.types_within k a e) (below_with refl (some_same (sym z.1 ∙ ap (option_map (at v)) e)) refl z.2) }

  pub univ_fits : (l : Level) → level_bound l ≤ n → FitsBetween n (suc n) c b held g (Univ l) (Univ (variable_level n)) (record { low = raised_level l; high = variable_level n } ∷ [])
  univ_fits l le =
      record {
        grows = omega arith;
        type_within = omega arith;
        pairs_within = omega arith;
        sound = λ v h k. let o = k.0 in d_cum d_univ d_univ (under-below (ByForm.universes (omega (arith, raised_value v l, o))));
        principal = λ v h t p d. let z = generation_up d in univ_case v t p z.0 z.1;
      }
    where
      univ_case : (v : Assignment) (t : ℕ) (p : Term) → suc (level_value v l) ≤ t → Below (bodies_at v b) (Univ (suc (level_value v l))) p → Solution n v b (record { low = raised_level l; high = variable_level n } ∷ []) (Univ (variable_level n)) p t
      univ_case v t p lt q =
          let j = suc (level_value v l) in
          let w = put_level n j v in
          let e = put_agree n j v in
          let here = put_here n j v in
          let r = raised_value w l in
          let s = value_agree v w l (narrower le e) in
          let is : j ≡ get_or w n 0 + 0 = omega arith in
          record { w = w; agree = e; satisfies = (omega arith, tt); below = below_with refl (ap Univ is) refl q; small = put_small n j t v lt }
