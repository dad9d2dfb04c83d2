use Rattle.accepting_laws.proofs.Together.{all-in_time_succeed}
use Rattle.accepting_laws.proofs.all_in_time_succeed.Goals as goal

pub returns : goal.returns
returns c = all-in_time_succeed
