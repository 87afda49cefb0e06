-- Refusals of commands from the refusals that are made.
use Rattle.std.proofs.Common.{◌≡◌, ℕ, List, [], refl, sym, ap₂, ◌∙◌, subst, ◌⊎◌, inl, inr, Result, Ok, Err, IfOk, IfErr}
use Rattle.lego_base.specs.declared.place.Place.{Place}
use Rattle.lego_grammar.specs.Grammar.{Names}
use Rattle.lego_grammar.specs.Written.{WrittenCommand}
use Rattle.lego_inference.specs.declared.entry.Entry.{Entry as Item}
use Rattle.lego_session.specs.Refusals.{refusal_text}
use Rattle.lego_session.specs.Sessions.{Session}
use Rattle.lego_session.specs.Step.{IsRefused, IsRefusal}
use Rattle.lego_session.specs.private.Refusals.{IsRefusalOf, IsRefusedSo}
use Rattle.lego_session.specs.declared.refusal.Cause.{Cause}
use Rattle.lego_session.specs.declared.refusal.Cause.TheVariants.{Memory}

module _ (names : Names) (es : List Item) (So : Place → Cause → Type 0) (fp p : Place) (fc c : Cause) (text : List ℕ) where
  -- the refusal that is made for such a place and cause; want of memory is free
  pub refused_so : (fc ≡ Memory) ⊎ So fp fc → IsRefusalOf names es fp fc p c text → IsRefusedSo names es So p c text
  refused_so cause (inl m) = inl m
  refused_so (inl m) (inr r) = absurd (r.0 m)
  refused_so (inr h) (inr r) =
      inr (
        subst (λ x. So p x) (sym r.2) (subst (λ q. So q fc) (sym r.1) h),
        λ m. r.0 (sym r.2 ∙ m),
        r.3 ∙ ap₂ (λ q x. refusal_text names es q x) (sym r.1) (sym r.2),
      )

-- so of a command that is refused where these entries are in scope
pub refusal : (names : Names) (limit : ℕ) (old : Session) (o : WrittenCommand) (es : List Item) (p : Place) (c : Cause) (text : List ℕ)
    → IsRefusedSo names es (λ q x. IsRefused limit old o.place o.act es q x) p c text → IsRefusal names limit old o p c text
refusal names limit old o es p c text (inl m) = inl m
refusal names limit old o es p c text (inr r) = inr (es, r.0, r.1, r.2)

-- a refusal for another reason of the same place and cause
pub refused_else : (names : Names) (es : List Item) (So Then : Place → Cause → Type 0) (p : Place) (c : Cause) (text : List ℕ)
    → ((q : Place) (x : Cause) → So q x → Then q x) → IsRefusedSo names es So p c text → IsRefusedSo names es Then p c text
refused_else names es So Then p c text h (inl m) = inl m
refused_else names es So Then p c text h (inr r) = inr (h p c r.0, r.1, r.2)
