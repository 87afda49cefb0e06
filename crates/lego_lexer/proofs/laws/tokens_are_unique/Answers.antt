use Rattle.lego_lexer.proofs.UniqueTokens.{tokens_unique, faults_unique, faults_exclude_tokens}
use Rattle.lego_lexer.proofs.laws.tokens_are_unique.Goals as goal

pub returns-clause-tokens : goal.returns-clause-tokens
returns-clause-tokens c = tokens_unique

pub returns-clause-faults : goal.returns-clause-faults
returns-clause-faults c = faults_unique

pub returns-clause-either : goal.returns-clause-either
returns-clause-either c = faults_exclude_tokens
