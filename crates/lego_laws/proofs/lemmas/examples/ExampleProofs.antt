-- Small statements that show what the definitions say.
use Rattle.std.proofs.Common.{◌≡◌, ℕ, [], ◌∷◌, None, Some, refl, inl, inr, arith, ◌⊎◌}
use Rattle.lego_term.specs.Levels.{fixed_level, variable_level}
use Rattle.lego_term.specs.Trees.{Core, Prop, Univ, Pi, instantiate}
use Rattle.lego_term.specs.Steps.{Contracts, Step, Converts}
use Rattle.lego_term.specs.Below.{Below}
use Rattle.lego_term.specs.Sequences.{head_step, HeadForm}
use Rattle.lego_laws.specs.Parallel.{AreClosed}
use Rattle.lego_laws.specs.Entries.{bodies_of}
use Rattle.lego_laws.specs.Facing.{Faces}
use Rattle.lego_laws.specs.Judgement.{Valid, Has}
use Rattle.lego_laws.specs.Valid.{AlwaysValid}
use Rattle.lego_laws.specs.RuleTypes.{RuleType}
use Rattle.lego_laws.specs.Fitting.{Fits, FitsWanted, FitsWritten, top, top_valid}
use Rattle.lego_laws.specs.Examples.{a_prop, IdentityIsTyped, PropositionsHaveProducts, UniversesAreNoPropositions, NoSortIsInItself, DomainsMustConvert, RedexContracts, FourHeadSteps, RuleTypeOfIdentity, LevelsDontCountAtZero, one_more, at_most_five, UniverseFitsExactly, above_zero, WrittenTypeCounts, OlderVariablesStayFree, ConstantsDontCount, BindersAreCrossed}
use Rattle.lego_laws.proofs.lemmas.reduction.Below.{universes_invert, universe_prop, pi_inverts, sorts_invert}
use Rattle.lego_laws.proofs.lemmas.typing.TypingLaws.{generation_law}
use Rattle.lego_laws.proofs.lemmas.inference.InferenceLaws.{fits_prop, fits_universe, fits_written}
use Rattle.lego_laws.proofs.lemmas.principal.EntriesAt.{entries_are_a_context}
use Rattle.lego_laws.proofs.lemmas.principal.PrincipalLaws.{principal_types, principal_definitions}

valid_a : Valid a_prop []
valid_a = Valid.grow_constant (Has.ax Valid.empty) refl

pub identity_is_typed : IdentityIsTyped
identity_is_typed =
    Has.lambda (Has.variable (Valid.grow_variable (Has.cumulative (Has.constant valid_a refl) (Has.universe valid_a) Below.prop)) refl)

pub propositions_have_products : PropositionsHaveProducts
propositions_have_products = Has.pi_prop (Has.variable (Valid.grow_variable (Has.ax Valid.empty)) refl)

nothing_unfolds : AreClosed (bodies_of [])
nothing_unfolds k t e = cc

no_prop : (j : ℕ) → Below (bodies_of []) (Univ j) Prop → ⊥
no_prop = universe_prop (bodies_of []) nothing_unfolds

pub universes_are_no_propositions : UniversesAreNoPropositions
universes_are_no_propositions a d = by_rule (generation_law [] [] (Pi tt a (Univ 0)) Prop d).1
  where
    by_rule : (Has [] (a ∷ []) (Univ 0) Prop × Below (bodies_of []) Prop Prop) ⊎ ((j : ℕ) × Has [] [] a (Univ j) × Has [] (a ∷ []) (Univ 0) (Univ j) × Below (bodies_of []) (Univ j) Prop) → ⊥
    by_rule (inl (f, p)) = no_prop 1 (generation_law [] (a ∷ []) (Univ 0) Prop f)
    by_rule (inr (j, e, f, p)) = no_prop j p

pub no_sort_is_in_itself : NoSortIsInItself
no_sort_is_in_itself =
    (λ d. no_prop 0 (generation_law [] [] Prop Prop d), λ d. let le = universes_invert (bodies_of []) nothing_unfolds 1 0 (generation_law [] [] (Univ 0) (Univ 0) d) in omega arith)

none_closed : AreClosed {B = Unit {0}} {M = Unit {0}} {L = ℕ} (λ k. None)
none_closed k t e = cc

pub domains_must_convert : DomainsMustConvert
domains_must_convert =
    (Below.universe, λ p. let c = pi_inverts (λ k. None) none_closed (Univ 0) Prop (Univ 1) Prop p in let e = (sorts_invert (λ k. None) none_closed 0 1).3 c.0 in omega arith)

pub redex_contracts : RedexContracts
unfolding instantiate
redex_contracts = (λ b. Step.here Contracts.beta, refl)

pub four_head_steps : FourHeadSteps
four_head_steps = record { reaches = refl; last = refl }

pub rule_type_of_identity : RuleTypeOfIdentity
rule_type_of_identity = RuleType.lambda (RuleType.variable refl)

pub levels_dont_count_at_zero : LevelsDontCountAtZero
levels_dont_count_at_zero = Below.converts Converts.same

always : AlwaysValid []
always v h = record { valid = Valid.empty; bodies = tt }

pub universe_fits_exactly : UniverseFitsExactly
universe_fits_exactly = (fitting, not_sound, not_principal)
  where
    fitting : Fits [] [] (Univ (variable_level 0)) (Univ (variable_level 1)) (one_more ∷ [])
    fitting =
        let x = entries_are_a_context [] 1 always (λ k t e. cc) (λ k t e. cc) (omega arith) in
        principal_types [] 1 2 always (omega arith) [] (Univ (variable_level 0)) (Univ (variable_level 1)) (one_more ∷ []) x (omega arith) (fits_universe 1 _ _ [] [] x (variable_level 0) (omega arith))

    not_sound : Fits [] [] (Univ (variable_level 0)) (Univ (variable_level 1)) [] → ⊥
    not_sound f =
        let le = universes_invert (bodies_of []) nothing_unfolds 1 0 (generation_law [] [] (Univ 0) (Univ 0) (f.sound [] tt tt)) in
        omega arith

    not_principal : Fits [] [] (Univ (variable_level 0)) (Univ (variable_level 1)) (one_more ∷ at_most_five ∷ []) → ⊥
    not_principal f =
        let p = f.principal (7 ∷ []) tt (Has.universe Valid.empty) in
        let same_value = p.1.same 0 refl in
        let first = p.1.satisfies.0 in
        let second = p.1.satisfies.1.0 in
        omega arith

pub written_type_counts : WrittenTypeCounts
unfolding top top_valid
written_type_counts = (fitting, not_wanted)
  where
    fitting : FitsWritten 0 1 [] [] Prop (Univ (fixed_level 0)) (above_zero ∷ [])
    fitting =
        let x = entries_are_a_context [] 0 always (λ k t e. cc) (λ k t e. cc) (omega arith) in
        let fm = fits_prop 0 _ _ [] [] x in
        let fa = fits_universe 0 _ _ [] [] x (fixed_level 0) (omega arith) in
        principal_definitions [] 0 1 always (omega arith) [] Prop (Univ (fixed_level 0)) (above_zero ∷ []) x (omega arith) (omega arith)
        (fits_written 0 0 1 _ _ [] [] x Prop (Univ (fixed_level 0)) (Univ (fixed_level 0)) (Univ (variable_level 0)) [] (above_zero ∷ []) [] (omega arith) fm fa (Some (variable_level 0)) (0, record { reaches = refl; last = refl }) (omega arith) (λ v. (λ s. Below.converts Converts.same, λ p. tt)))

    not_wanted : FitsWanted 0 1 [] [] Prop (Univ (fixed_level 0)) (above_zero ∷ []) → ⊥
    not_wanted f =
        let p = f.principal [] tt (Has.ax Valid.empty) in
        let small = p.1.bounded 0 (λ h. cc) in
        let high = p.1.satisfies.0 in
        omega arith

pub older_variables_stay_free : OlderVariablesStayFree
older_variables_stay_free n' f =
    let p = f.extends (0 ∷ 7 ∷ []) tt (Has.ax Valid.empty) in
    let same_value = p.1.same 1 (omega arith) in
    let small = p.1.satisfies.0 in
    omega arith

pub constants_dont_count : ConstantsDontCount
unfolding top top_valid
constants_dont_count = (Has.ax (Valid.grow_constant (Has.universe Valid.empty) refl), refl)

is_head : (t : Core) → head_step (λ k. None) t ≡ None → HeadForm (λ k. None) t t
is_head t e = (0, record { reaches = refl; last = e })

pub binders_are_crossed : BindersAreCrossed
binders_are_crossed = (
  Faces.turn 0 (Faces.root (is_head _ refl) (is_head _ refl)) refl refl refl refl (is_head _ refl) (is_head _ refl),
  Faces.turn 1 (Faces.root (is_head _ refl) (is_head _ refl)) refl refl refl refl (is_head _ refl) (is_head _ refl),
)
