use Rattle.std.proofs.Common.{sym, subst}
use Rattle.lego_term.specs.Trees.{Fst, Snd}
use Rattle.lego_grammar.specs.declared.surface.Part.{Part}
use Rattle.lego_grammar.specs.Reading.{project_core}
use Rattle.lego_reading.specs.private.Parts.{IsMade}
use Rattle.lego_reading.proofs.reading.projection.Goals as goal

pub returns-in-First : goal.returns-in-First
returns-in-First c =
    subst (λ (part : Part). IsMade (project_core part c.args.of.now) c.made.result) (sym c.in-First.is) (c.made.ensures (Fst c.args.of.now) c.fst.ensures)

pub returns-in-Second : goal.returns-in-Second
returns-in-Second c =
    subst (λ (part : Part). IsMade (project_core part c.args.of.now) c.made-in-Second.result) (sym c.in-Second.is)
    (c.made-in-Second.ensures (Snd c.args.of.now) c.snd.ensures)
