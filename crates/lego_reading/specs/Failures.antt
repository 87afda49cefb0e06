-- Why a written term is not read.
use Rattle.std.specs.Prelude.{◌≡◌, ℕ, ◌≤◌, List, take, reverse, map, false, Some}
use Rattle.lego_term.specs.declared.binder.Binder.{Binder}
use Rattle.lego_term.specs.declared.binder.Mark.TheVariants.{Plain}
use Rattle.lego_term.specs.declared.seen.Seen.{Seen}
use Rattle.lego_term.specs.Parts.{IsTooLarge}
use Rattle.lego_term.specs.Sequences.{head_step, after, MoreThan}
use Rattle.lego_term.specs.Trees.{Core, size, depth}
use Rattle.lego_laws.specs.Entries.{Entry, core_bodies}
use Rattle.lego_grammar.specs.Written.{Written}
use Rattle.lego_grammar.specs.Scopes.{LocalVariable, Scope, TypeVariables, local_name, put_values}
use Rattle.lego_grammar.specs.Reading.{binder, is_sigma}
use Rattle.lego_grammar.specs.ReadingOrder.{ReadsWithin, Reaches, ReadingRefusal, IsRefused}
use Rattle.lego_reading.specs.declared.fault.ReadFault.{ReadFault}
use Rattle.lego_reading.specs.declared.fault.ReadFault.TheVariants as fault

-- a local variable as a binder
abbrev pub plain_binder : LocalVariable → Binder
plain_binder x = binder (local_name x) Plain

-- a core with what is in scope as the binders around it, the outermost first
abbrev pub seen_in : Scope → Core → Seen
seen_in scope c = record { under = reverse (map plain_binder scope); term = c }

abbrev pub fault_of : ReadingRefusal → ReadFault
fault_of (ReadingRefusal.UnknownName p n) = fault.UnknownName p n
fault_of (ReadingRefusal.UnknownGoal p n) = fault.UnknownGoal p n
fault_of (ReadingRefusal.NotSigma scope c) = fault.NotSigma (seen_in scope c)
fault_of (ReadingRefusal.TooLarge c) = fault.TooLarge (size c) (depth c)

-- The head form of the core of a pair's written type, with the values of local definitions put for their variables, is not found:
-- it takes more steps than the limit; a value that is put makes a term too large; or a term that the head sequence reaches within
-- the limit is too large.
pub data HasNoHeadForm (es : List Entry) (limit : ℕ) (scope : Scope) (c : Core) : ReadFault → Type 0 where
  budget : MoreThan (head_step (core_bodies es)) (put_values scope 0 c) limit → HasNoHeadForm es limit scope c (fault.Budget (seen_in scope (put_values scope 0 c)))
  values_too_large : {i j : ℕ} (n : ℕ) → IsTooLarge (put_values (take n scope) 0 c) i j → HasNoHeadForm es limit scope c (fault.TooLarge i j)
  head_too_large : {i j : ℕ} {u : Core} (n : ℕ) → n ≤ limit → after (head_step (core_bodies es)) n (put_values scope 0 c) ≡ Some u
      → IsTooLarge u i j → HasNoHeadForm es limit scope c (fault.TooLarge i j)

-- A written term is not read: it is refused; or reading comes to a pair whose written type is read as no Sigma type, and has no
-- head form.
pub data Fails (es : List Entry) (types : TypeVariables) (limit : ℕ) (scope : Scope) (s : Written) : ReadFault → Type 0 where
  refused : {refusal : ReadingRefusal} → IsRefused es types scope s refusal → Fails es types limit scope s (fault_of refusal)
  no_head_form : {inner : Scope} {m n t : Written} {c : Core} {given : ReadFault}
      → Reaches es types scope s inner (Written.Pair m n t) → ReadsWithin es types inner t c → is_sigma c ≡ false
      → HasNoHeadForm es limit inner c given → Fails es types limit scope s given
