-- The effect of `Ctxt`.
use Rattle.std.specs.Prelude.{◌≡◌, ℕ, List, []}
use Rattle.lego_term.specs.Levels.{Assignment}
use Rattle.lego_grammar.specs.Grammar.{Names}
use Rattle.lego_context.specs.Contexts.{Contents}
use Rattle.lego_context.specs.Settling.{IsSettled}
use Rattle.lego_session.specs.Texts.{AreEntryLines}

-- the answer is the line of each entry, at the least levels
pub record ShowsContext (names : Names) (c : Contents) (text : List ℕ) : Type 0 where
  pub values : Assignment
  pub settled : IsSettled c [] c.levels values
  pub lines : AreEntryLines names values c.entries 0 text
