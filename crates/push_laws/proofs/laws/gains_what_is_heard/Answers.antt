use Rattle.push_laws.proofs.Gaining.{gains-what_is_heard}
use Rattle.push_laws.proofs.laws.gains_what_is_heard.Goals as goal

pub returns : goal.returns
returns c = gains-what_is_heard
