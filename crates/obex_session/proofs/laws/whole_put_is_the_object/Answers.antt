use Rattle.obex_session.proofs.ObjectLaws.{spells_the_object}
use Rattle.obex_session.proofs.laws.whole_put_is_the_object.Goals as goal

pub returns : goal.returns
returns c = spells_the_object
