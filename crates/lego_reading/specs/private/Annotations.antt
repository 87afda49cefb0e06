-- What the functions answer that find the annotation of a pair.
use Rattle.std.specs.Prelude.{◌≡◌, ℕ, ◌≤◌, List, length, false, Result, Ok, Err}
use Rattle.lego_term.specs.Trees.{Core, Sigma, loose}
use Rattle.lego_term.specs.Sequences.{HeadForm}
use Rattle.lego_laws.specs.Entries.{Entry, core_bodies}
use Rattle.lego_grammar.specs.Scopes.{Scope}
use Rattle.lego_grammar.specs.Reading.{Annotates, is_sigma}
use Rattle.lego_grammar.specs.Scopes.{put_values}
use Rattle.lego_reading.specs.declared.annotation.SigmaType.{SigmaType}
use Rattle.lego_reading.specs.declared.fault.ReadFault.{ReadFault}
use Rattle.lego_reading.specs.declared.fault.ReadFault.TheVariants.{NotSigma, Memory}
use Rattle.lego_reading.specs.Failures.{seen_in, HasNoHeadForm}

abbrev pub sigma_tree : SigmaType → Core
sigma_tree made = Sigma made.binder made.first made.second

-- the type is no Sigma type, and its head form is none or is not found
pub data IsNotAnnotated (es : List Entry) (limit : ℕ) (scope : Scope) (c : Core) : ReadFault → Type 0 where
  not_sigma : {a : Core} → Annotates es scope c a → is_sigma a ≡ false → IsNotAnnotated es limit scope c (NotSigma (seen_in scope c))
  no_head_form : {fault : ReadFault} → is_sigma c ≡ false → HasNoHeadForm es limit scope c fault → IsNotAnnotated es limit scope c fault
  memory : IsNotAnnotated es limit scope c Memory

abbrev pub IsAnnotated : List Entry → ℕ → Scope → Core → Result SigmaType ReadFault → Type 0
IsAnnotated es limit scope c (Ok made) = Annotates es scope c (sigma_tree made) × (loose (sigma_tree made) ≤ length scope)
IsAnnotated es limit scope c (Err fault) = IsNotAnnotated es limit scope c fault

-- the head form of the term; or there is none, where it is the type with the values put
abbrev pub EndsAt : List Entry → ℕ → Scope → Core → Core → Result Core ReadFault → Type 0
EndsAt es limit scope c t (Ok end) = HeadForm (core_bodies es) t end × (loose end ≤ loose t)
EndsAt es limit scope c t (Err fault) = t ≡ put_values scope 0 c → is_sigma c ≡ false → IsNotAnnotated es limit scope c fault
