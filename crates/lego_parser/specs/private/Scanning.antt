-- Scans: the machine over tokens, of which it follows only the shape, from one of two starts.
use Rattle.std.specs.Prelude.{◌≡◌, ℕ, suc, ◌≤◌, ◌<◌, List, [], ◌∷◌, ◌++◌, Option, Some, None, take, length}
use Rattle.lego_grammar.specs.Written.{WrittenBinding, WrittenAct, WrittenCommand}
use Rattle.lego_grammar.specs.Grammar.{Names, Item, Parses}
use Rattle.lego_grammar.specs.Refusals.{IsUnexpected, Prevails}
use Rattle.lego_grammar.specs.private.Runs.{goes, start_of}
use Rattle.lego_grammar.specs.private.Machine as M
use Rattle.lego_grammar.specs.private.Machine.{Mode, Between, Done, Frame, State, state, move, level}
use Rattle.lego_parser.specs.declared.scan.Start.{Start}
use Rattle.lego_parser.specs.declared.scan.Stage.{Stage}
use Rattle.lego_parser.specs.declared.scan.Scan.{Scan}

-- the mode in which a scan of each start begins
abbrev pub mode_at : Start → Mode
mode_at Start.Context = Between []
mode_at Start.Other = M.Start

-- the states before the first n tokens are at most 500 levels deep
abbrev pub Shallow : Mode → List Frame → List Item → ℕ → Type 0
Shallow m fs is n = (j : ℕ) (s : State) → j < n → goes (take j is) (Some (state m fs)) ≡ Some s → level s ≤ 500

-- the mode behind a whole command
abbrev pub HasEnded : Mode → Type 0
HasEnded m = (act : WrittenAct) × (m ≡ Done act)

-- the modes of a context command that stand inside a binding
abbrev pub Inside : Mode → Type 0
Inside (Between _) = ⊥
Inside (Done _) = ⊥
Inside _ = Unit {0}

-- where a context command stands
abbrev pub IsStage : Stage → Mode → Type 0
IsStage Stage.Nothing m = m ≡ Between []
IsStage Stage.Inside m = Inside m
IsStage Stage.Behind m = (b : WrittenBinding) × (bs : List WrittenBinding) × (m ≡ Between (b ∷ bs))
IsStage Stage.Ended m = HasEnded m

-- the first token whose state is more than 500 levels deep, of those up to token `stop`, or that there is none
abbrev pub IsDepth : List Item → Mode → ℕ → Option ℕ → Type 0
IsDepth items m stop None = Shallow m [] items (suc stop)
IsDepth items m stop (Some i) = (i ≤ stop) × (s : State) × (goes (take i items) (Some (state m [])) ≡ Some s) × (500 < level s) × Shallow m [] items i

-- the scan went over the first `stop` tokens, and stopped in front of the next one, if there is one
pub record IsScan (items : List Item) (m : Mode) (scan : Scan) : Type 0 where
  pub state_there : State
  pub within : scan.stop ≤ length items
  pub there : goes (take scan.stop items) (Some (state m [])) ≡ Some state_there
  pub stops : scan.stop < length items → goes (take (suc scan.stop) items) (Some (state m [])) ≡ None
  pub stage : IsStage scan.stage state_there.mode
  pub depth : IsDepth items m scan.stop scan.deep

-- the two starts
pub data Begin : Mode → Type 0 where
  other : Begin M.Start
  context : Begin (Between [])

-- The scan from m prevails: it went over the first n tokens to st, and token n is the first one without a reading.
pub record Prevailing (tokens : List Item) (n : ℕ) (m : Mode) (st : State) : Type 0 where
  pub begin : Begin m
  pub there : goes (take n tokens) (Some (state m [])) ≡ Some st
  pub unexpected : IsUnexpected tokens n
  pub prevails : (act : WrittenAct) → start_of act ≡ m → Prevails (take n tokens) act
  pub only : (names : Names) (more : List Item) (c : WrittenCommand) → Parses names (take n tokens ++ more) c → Prevails (take n tokens) c.act → start_of c.act ≡ m

-- the scan says how tokens are nested that are no command
pub record Decides (items : List Item) (scan : Scan) : Type 0 where
  pub mode : Mode
  pub scanned : IsScan items mode scan
  pub before : scan.stop < length items
  pub prevailing : Prevailing items scan.stop mode scanned.state_there

-- the tokens are a command of this start, and no state is more than 500 levels deep
pub record IsWhole (items : List Item) (m : Mode) : Type 0 where
  pub act : WrittenAct
  pub frames : List Frame
  pub over : goes items (Some (state m [])) ≡ Some (state (Done act) frames)
  pub shallow : Shallow m [] items (length items)
