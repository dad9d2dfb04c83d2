use Rattle.push_laws.proofs.Blamed.{faults_by_rows, only_news, numbers_are_apart}
use Rattle.push_laws.proofs.peer_laws.faults_are_of_the_table.Goals as goal

pub returns-clause-rows : goal.returns-clause-rows
returns-clause-rows c = faults_by_rows

pub returns-clause-only : goal.returns-clause-only
returns-clause-only c = only_news

pub returns-clause-apart : goal.returns-clause-apart
returns-clause-apart c = numbers_are_apart
