-- What a printed development promises.
use Rattle.std.specs.Prelude.{ℕ, List}
use Rattle.lego_term.specs.Levels.{Assignment}
use Rattle.lego_grammar.specs.Grammar.{Names}
use Rattle.lego_grammar.specs.Developments.{Develops}
use Rattle.lego_level.specs.Graphs.{IsLeast}
use Rattle.lego_inference.specs.Entries.{laws_entries}
use Rattle.lego_context.specs.Contexts.{Contents}
use Rattle.lego_context.specs.Entries.{constraints_of}
use Rattle.lego_session.specs.Texts.{first_place}

-- At levels that are least for the constraints of the context, the text denotes its entries, with a new name for each; and each
-- assumption's type is a type, and each definition has its type, by Luo's rules alone.
pub record Headline (names : Names) (c : Contents) (text : List ℕ) : Type 0 where
  pub levels : Assignment
  pub least : IsLeast (constraints_of c.entries) levels
  pub develops : Develops names first_place text levels (laws_entries c.entries)
