-- Terms that are over a context.
use Rattle.std.proofs.Common.{◌≡◌, ℕ, zero, suc, ◌+◌, ◌≤◌, List, [], ◌∷◌, ◌++◌, Some, take, length, slice_get, inl, refl, sym, ap, ◌∙◌, subst, arith}
use Rattle.std.proofs.lemmas.List.Elements.{All-take, All-push}
use Rattle.lego_term.specs.Trees.{Core, Prop}
use Rattle.lego_laws.specs.Judgement.{Has}
use Rattle.lego_inference.specs.declared.entry.Entry.{Entry as Item}
use Rattle.lego_context.specs.Calls.{CanTakeType, CanBeInferred, CanBeChecked}
use Rattle.lego_context.specs.Contexts.{Contents, IsContext}
use Rattle.lego_context.specs.Entries.{HasNoHole, IsNoHole}
use Rattle.lego_context.specs.Forgetting.{CanBeForgotten}
use Rattle.lego_context.proofs.ContextLemmas.{no_locals}

-- entries without a hole can stand alone
pub can_be_forgotten : (c : Contents) (at : ℕ) → at ≤ length c.entries → HasNoHole c.entries → CanBeForgotten c at
can_be_forgotten c at within none = record { within = within; alone = inl (All-take (λ (e : Item). IsNoHole e.kind) at c.entries none) }

next_taken : (es : List Item) (k : ℕ) (e : Item) → slice_get es k ≡ Some e → take (suc k) es ≡ take k es ++ e ∷ []
next_taken [] k e h = cc
next_taken (x ∷ es) zero e h = let same : x ≡ e = cc in rw same refl
next_taken (x ∷ es) (suc k) e h = ap (λ (xs : List Item). x ∷ xs) (next_taken es k e h)

-- one entry more that is no hole
pub none_more : (es : List Item) (k : ℕ) (e : Item) → slice_get es k ≡ Some e → IsNoHole e.kind → HasNoHole (take k es) → HasNoHole (take (k + 1) es)
none_more es k e there here before =
    let next : suc k ≡ k + 1 = omega arith in
    subst HasNoHole (sym (next_taken es k e there) ∙ ap (λ n. take n es) next) (All-push (λ (x : Item). IsNoHole x.kind) (take k es) e before here)

pub can_be_inferred : (c : Contents) (m : Core) → IsContext c → CanTakeType c m → CanBeInferred c [] m
can_be_inferred c m x over = record { in_order = no_locals c x; term = over.term }

pub can_be_checked : (c : Contents) (m : Core) → IsContext c → CanTakeType c m → CanBeChecked c [] m Prop
can_be_checked c m x over = record {
  inferred = can_be_inferred c m x over;
  wanted = record { names = tt; variables = omega arith; levels_within = omega arith };
  is_type = λ v h. (0, Has.ax ((no_locals c x).types v h));
}
