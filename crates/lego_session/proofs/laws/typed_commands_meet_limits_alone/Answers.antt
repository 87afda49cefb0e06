use Rattle.lego_session.proofs.CompletenessLemmas.{typed_commands_meet_limits_alone}
use Rattle.lego_session.proofs.laws.typed_commands_meet_limits_alone.Goals as goal

pub returns : goal.returns
returns c = typed_commands_meet_limits_alone
