-- Values put for variables.
use Rattle.std.specs.Prelude.{◌≡◌, ℕ, suc, ◌≤◌, nat_eq, if◌then◌else◌, length, take, Result, Ok, Err}
use Rattle.lego_term.specs.Trees.{Core, Var, Const, map_leaves, lift, loose}
use Rattle.lego_term.specs.Parts.{IsTooLarge}
use Rattle.lego_term.specs.declared.fault.TermFault.{TermFault}
use Rattle.lego_term.specs.declared.fault.TermFault.TheVariants.{TooLarge, Memory}
use Rattle.lego_grammar.specs.Scopes.{Scope, put_values}

-- the variable, or its value past the binders crossed and the variable itself
abbrev pub value_or_var : Core → ℕ → ℕ → Core
value_or_var value n i = if nat_eq i n then lift 0 (suc n) value else Var i

-- puts the value for the variable `depth`; all other variables keep their numbers
abbrev pub put_kept : ℕ → Core → Core → Core
put_kept depth value = map_leaves suc (value_or_var value) (λ n k. Const k) depth

-- the term with the values put, over as many variables; or the value of some variable made a term too large
abbrev pub PutsValues : Scope → Core → Result Core TermFault → Type 0
PutsValues scope t (Ok made) = (made ≡ put_values scope 0 t) × (loose made ≤ length scope)
PutsValues scope t (Err (TooLarge i j)) = (n : ℕ) × IsTooLarge (put_values (take n scope) 0 t) i j
PutsValues scope t (Err Memory) = Unit {0}
