use Rattle.channel_laws.proofs.Fitted.{given-is_fit}
use Rattle.channel_laws.proofs.laws.given_is_fit.Goals as goal

pub returns : goal.returns
returns c = given-is_fit
