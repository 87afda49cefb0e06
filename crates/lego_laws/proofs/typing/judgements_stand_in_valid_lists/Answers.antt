use Rattle.lego_laws.proofs.typing.judgements_stand_in_valid_lists.Goals as goal
use Rattle.lego_laws.proofs.lemmas.typing.TypingLaws.{judgements_stand_in_valid_lists}

pub returns : goal.returns
returns c = judgements_stand_in_valid_lists
