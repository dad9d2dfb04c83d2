use Rattle.obex_session.proofs.PutPacketLaws.{spells}
use Rattle.obex_session.proofs.laws.put_is_spelled.Goals as goal

pub returns : goal.returns
returns c = spells
