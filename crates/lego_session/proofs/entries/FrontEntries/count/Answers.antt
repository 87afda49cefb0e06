use Rattle.std.proofs.Common.{◌≡◌, ℕ, List, length, take, subst}
use Rattle.lego_inference.specs.declared.entry.Entry.{Entry as Item}
use Rattle.lego_context.specs.Entries.{names_of}
use Rattle.lego_session.proofs.NamedLemmas.{names_before}
use Rattle.lego_session.proofs.entries.FrontEntries.count.Goals as goal

pub returns : goal.returns
returns c =
    subst (λ (f : List Item × ℕ). c.self.inside.before ≡ length (names_of (take f.1 f.0))) c.self.view_is
    (names_before c.self.inside.before c.self.inside.context.now.entries c.self.invariant.0 c.len-entries.ensures.context.kinds c.self.invariant.1)
