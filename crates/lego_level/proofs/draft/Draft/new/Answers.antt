use Rattle.std.proofs.Common.{◌≡◌, ℕ, None, nat_eq, refl, rules}
use Rattle.std.specs.HashMap.{get}
use Rattle.lego_level.proofs.DraftLemmas.{found_none}
use Rattle.lego_level.proofs.draft.Draft.new.Goals as goal

pub returns : goal.returns
returns c = found_none _ refl (let none : (u : ℕ) → get nat_eq c.new.result u ≡ None = search rules in none)
