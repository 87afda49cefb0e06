use Rattle.std.proofs.Common.{◌≡◌, ℕ, false, nat_eq, nat_lt, List, take, sym, subst}
use Rattle.std.specs.List.{list_any}
use Rattle.lego_inference.specs.declared.entry.Entry.{Entry as Item}
use Rattle.lego_context.specs.Entries.{names_of}
use Rattle.lego_session.proofs.NamedLemmas.{named_within, named_nowhere}
use Rattle.lego_session.proofs.entries.FrontEntries.has_name.Goals as goal

pub returns-in-Some : goal.returns-in-Some
returns-in-Some c =
    subst (λ (f : List Item × ℕ). nat_lt c.in-Some.at c.self.inside.before ≡ list_any (nat_eq c.args.name) (names_of (take f.1 f.0))) c.self.view_is
    (named_within c.args.name c.self.inside.before c.in-Some.at c.self.inside.context.now.entries (sym c.in-Some.ensures))

pub returns-in-None : goal.returns-in-None
returns-in-None c =
    subst (λ (f : List Item × ℕ). false ≡ list_any (nat_eq c.args.name) (names_of (take f.1 f.0))) c.self.view_is
    (named_nowhere c.args.name c.self.inside.before c.self.inside.context.now.entries (sym c.in-None.ensures))
