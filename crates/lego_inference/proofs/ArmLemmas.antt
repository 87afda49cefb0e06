-- What the functions of the rules with several premises answer.
use Rattle.std.proofs.Common.{◌≡◌, ℕ, suc, ◌+◌, ◌≤◌, ◌<◌, List, [], ◌∷◌, ◌++◌, Option, Some, None, Result, Ok, Err, refl, sym, ap, ◌∙◌, subst, arith}
use Rattle.lego_term.specs.declared.binder.Binder.{Binder}
use Rattle.lego_term.specs.declared.binder.Mark.{Mark}
use Rattle.lego_term.specs.declared.level.Level.{Level}
use Rattle.lego_term.specs.Levels.{variable_level}
use Rattle.lego_term.specs.Trees.{Core, Pi, Lam, App, Sigma, Pair, Fst, Snd, Let, instantiate}
use Rattle.lego_term.specs.Made.{Fits}
use Rattle.lego_term.specs.Sequences.{HeadForm}
use Rattle.lego_laws.specs.Entries.{Entry, core_bodies}
use Rattle.lego_laws.specs.Parallel.{AreClosed}
use Rattle.lego_laws.specs.RuleTypes.{nodes}
use Rattle.lego_laws.specs.Places.{Want, Nothing, AType, AFunction, Stated, Site, behind, under, Part, WantsHead, Fulfils, AreShaped}
use Rattle.lego_laws.specs.Ranges.{levels_bound}
use Rattle.lego_level.specs.declared.constraint.Constraint.{Constraint}
use Rattle.lego_inference.specs.declared.entry.At.{At}
use Rattle.lego_inference.specs.declared.fault.TypeFault.{TypeFault}
use Rattle.lego_inference.specs.declared.gathered.Gathered.{Gathered}
use Rattle.lego_inference.specs.declared.head.Former.{Former}
use Rattle.lego_inference.specs.declared.rules.Formed.{Formed}
use Rattle.lego_inference.specs.private.Judging.{IsReady, Inferred, Fails, FailsAt, Adds, Infers, IsTypeBy, FindsSort, HasStated, ChecksAt, IsFormed, Forms, FindsHead, Compares, PairFails, IsMade, MakingFails, product_of}
use Rattle.lego_inference.proofs.FailLemmas.{fails_part, fails_at_part, fails_put, at_head, at_pair, at_stated}
use Rattle.lego_inference.proofs.FormerRules.{lambda_inferred, type_shaped, count_lam}
use Rattle.lego_inference.proofs.OtherRules.{application_inferred, local_inferred, count_app, count_pair, count_let, stated_shaped}
use Rattle.lego_inference.proofs.PairRule.{pair_inferred}
use Rattle.lego_inference.proofs.JudgeLemmas.{adds_then, made_infers}
use Rattle.lego_inference.proofs.ShapeLemmas.{none_before, next_shaped, shaped_head, shaped_nothing}

module _ (es : List Entry) (asked : At) (s : Site) where
  -- lambda
  module _ (x : Binder) (a m : Core) (old mid : Gathered) (sort : Option Level) (domain : FindsSort es asked s a old mid (Ok sort)) where
    lambda_before : AreShaped es s (Lam x a m) Nothing 1
    lambda_before = next_shaped 0 none_before Part.lam_domain (type_shaped domain.2)

    pub lambda_body_fails : (fault : TypeFault) → Fails es asked.limit (under x a s) m fault → Fails es asked.limit s (Lam x a m) fault
    lambda_body_fails fault f = fails_part Part.lam_body lambda_before f

    pub lambda_infers : (tm : Core) (new : Gathered) (r : Result Core TypeFault) → IsReady es s (Lam x a m) → Infers es asked (under x a s) m mid new (Ok tm) → IsMade (Pi x a tm) r → Infers es asked s (Lam x a m) old new r
    lambda_infers tm new r ready body made =
        made_infers es asked s (Lam x a m) (Pi x a tm) (domain.0 ++ body.0) old new r (adds_then domain.1 body.1 (omega (arith, count_lam x a m)))
        (lambda_inferred es asked.place s x a m tm domain.0 body.0 sort ready.over.levels_within domain.2 body.2) made

  -- a product or a Sigma type
  module _ (x : Binder) (a b : Core) where
    pub domain_fails : (fault : TypeFault) → FailsAt es asked.limit (behind 1 s) a AType fault → Fails es asked.limit s (Pi x a b) fault × Fails es asked.limit s (Sigma x a b) fault
    domain_fails fault f = (fails_at_part Part.pi_domain none_before f, fails_at_part Part.sigma_domain none_before f)

    module _ (taken mid : Gathered) (sa : Option Level) (domain : FindsSort es asked (behind 1 s) a taken mid (Ok sa)) where
      pub body_fails : (fault : TypeFault) → FailsAt es asked.limit (under x a (behind 1 s)) b AType fault → Fails es asked.limit s (Pi x a b) fault × Fails es asked.limit s (Sigma x a b) fault
      body_fails fault f = (
        fails_at_part Part.pi_body (next_shaped 0 none_before Part.pi_domain (type_shaped domain.2)) f,
        fails_at_part Part.sigma_body (next_shaped 0 none_before Part.sigma_domain (type_shaped domain.2)) f,
      )

      pub forms : (old new : Gathered) (own : Level) (sb : Option Level) → own ≡ variable_level s.first → taken.constraints.items ≡ old.constraints.items → taken.levels ≡ old.levels + 1
          → FindsSort es asked (under x a (behind 1 s)) b mid new (Ok sb) → Forms es asked s x a b old new (Ok (record { own = own; domain = sa; body = sb }))
      forms old new own sb is same next body =
          let both = adds_then domain.1 body.1 refl in (
            domain.0 ++ body.0,
            record { constraints = both.constraints ∙ ap (λ z. z ++ (domain.0 ++ body.0)) same; levels = (let l = both.levels in omega arith) },
            record { own = is; of_domain = domain.0; of_body = body.0; split = refl; domain = domain.2; body = body.2 },
          )

  -- app
  module _ (k : Mark) (m n : Core) (old mid : Gathered) (tf : Core) (function : Infers es asked s m old mid (Ok tf)) where
    pub function_unfit : (fault : TypeFault) → AreClosed (core_bodies es) → FindsHead product_of es asked s.binders m AFunction tf (Err fault) → Fails es asked.limit s (App k m n) fault
    function_unfit fault closed h = fails_at_part Part.function none_before (at_head closed WantsHead.a_function function.2 h)

    module _ (f : Former) (head : FindsHead product_of es asked s.binders m AFunction tf (Ok f)) where
      pub argument_fails : (fault : TypeFault) → FailsAt es asked.limit (behind (nodes m) s) n (Stated f.domain) fault → Fails es asked.limit s (App k m n) fault
      argument_fails fault at =
          fails_at_part (Part.argument function.2.rule head) (next_shaped 0 none_before Part.function (shaped_head function.2.parts function.2.rule head WantsHead.a_function Fulfils.a_function)) at

      pub application_infers : (new : Gathered) (r : Result Core TypeFault) → IsReady es s (App k m n) → ChecksAt es asked (behind (nodes m) s) n f.domain mid new (Ok tt) → IsMade (instantiate f.body n) r → Infers es asked s (App k m n) old new r
      application_infers new r ready argument made =
          made_infers es asked s (App k m n) (instantiate f.body n) (function.0 ++ argument.0) old new r (adds_then function.1 argument.1 (omega (arith, count_app k m n)))
          (application_inferred es asked.place s k m n tf f function.0 argument.0 ready.over.levels_within function.2 head argument.2) made

  -- local definitions
  module _ (x : Binder) (m n : Core) (old mid : Gathered) (tm : Core) (value : Infers es asked s m old mid (Ok tm)) where
    pub put_fails : (fault : TypeFault) → MakingFails (instantiate n m) fault → Fails es asked.limit s (Let x m n) fault
    put_fails fault h = fails_put Part.local_body (next_shaped 0 none_before Part.local_value (shaped_nothing value.2.parts)) h

    pub local_body_fails : (fault : TypeFault) → Fails es asked.limit (behind (nodes m) s) (instantiate n m) fault → Fails es asked.limit s (Let x m n) fault
    local_body_fails fault f = fails_part Part.local_body (next_shaped 0 none_before Part.local_value (shaped_nothing value.2.parts)) f

    pub local_infers : (new : Gathered) (tn : Core) → IsReady es s (Let x m n) → Infers es asked (behind (nodes m) s) (instantiate n m) mid new (Ok tn) → Infers es asked s (Let x m n) old new (Ok tn)
    local_infers new tn ready body = (
      value.0 ++ body.0,
      adds_then value.1 body.1 (omega (arith, count_let x m n)),
      local_inferred es asked.place s x m n tm tn value.0 body.0 ready.over.levels_within value.2 body.2,
    )

    pub local_finish : (new : Gathered) (r : Result Core TypeFault) → IsReady es s (Let x m n) → Infers es asked (behind (nodes m) s) (instantiate n m) mid new r → Infers es asked s (Let x m n) old new r
    local_finish new (Ok tn) ready body = local_infers new tn ready body
    local_finish new (Err fault) ready f = local_body_fails fault f

  -- pair
  module _ (x : Binder) (a b m n : Core) (old one : Gathered) (sa : Option Level) (domain : FindsSort es asked s a old one (Ok sa)) where
    pair_one : AreShaped es s (Pair x a b m n) Nothing 1
    pair_one = next_shaped 0 none_before Part.pair_domain (type_shaped domain.2)

    pub pair_body_fails : (fault : TypeFault) → FailsAt es asked.limit (under x a s) b AType fault → Fails es asked.limit s (Pair x a b m n) fault
    pair_body_fails fault f = fails_at_part Part.pair_body pair_one f

    module _ (two : Gathered) (sb : Option Level) (body : FindsSort es asked (under x a s) b one two (Ok sb)) where
      pair_two : AreShaped es s (Pair x a b m n) Nothing 2
      pair_two = next_shaped 1 pair_one Part.pair_body (type_shaped body.2)

      pub pair_first_fails : (fault : TypeFault) → FailsAt es asked.limit (behind (nodes a + nodes b) s) m (Stated a) fault → Fails es asked.limit s (Pair x a b m n) fault
      pair_first_fails fault f = fails_at_part Part.pair_first pair_two f

      module _ (three : Gathered) (first : ChecksAt es asked (behind (nodes a + nodes b) s) m a two three (Ok tt)) where
        pair_three : AreShaped es s (Pair x a b m n) Nothing 3
        pair_three = next_shaped 2 pair_two Part.pair_first (stated_shaped first.2)

        pub pair_second_fails : (fault : TypeFault) → Fails es asked.limit (behind (nodes a + nodes b + nodes m) s) n fault → Fails es asked.limit s (Pair x a b m n) fault
        pair_second_fails fault f = fails_part Part.pair_second pair_three f

        module _ (four : Gathered) (tn : Core) (second : Infers es asked (behind (nodes a + nodes b + nodes m) s) n three four (Ok tn)) where
          pub pair_stated_fails : (fault : TypeFault) → Fits tn → MakingFails (instantiate b m) fault → Fails es asked.limit s (Pair x a b m n) fault
          pair_stated_fails fault fits h = fails_at_part Part.pair_second pair_three (at_stated second.2 fits h)

          pub pair_compare_fails : (fault : TypeFault) → AreClosed (core_bodies es) → PairFails es asked.limit s.binders n tn (instantiate b m) fault → Fails es asked.limit s (Pair x a b m n) fault
          pair_compare_fails fault closed h = fails_at_part Part.pair_second pair_three (at_pair closed second.2 h)

          pub pair_infers : (new : Gathered) (r : Result Core TypeFault) → IsReady es s (Pair x a b m n) → Compares es asked s.binders n tn (instantiate b m) four new (Ok tt) → IsMade (Sigma x a b) r → Infers es asked s (Pair x a b m n) old new r
          pair_infers new r ready (more, added, decided) made =
              let adds : Adds old new (nodes (Pair x a b m n)) ((((domain.0 ++ body.0) ++ first.0) ++ second.0) ++ more) =
              adds_then (adds_then (adds_then (adds_then domain.1 body.1 refl) first.1 refl) second.1 refl) added (omega (arith, count_pair x a b m n)) in
              made_infers es asked s (Pair x a b m n) (Sigma x a b) ((((domain.0 ++ body.0) ++ first.0) ++ second.0) ++ more) old new r adds
              (pair_inferred es asked.place s x a b m n domain.0 body.0 first.0 second.0 more sa sb tn ready.over.levels_within domain.2 body.2 first.2 second.2 decided) made
