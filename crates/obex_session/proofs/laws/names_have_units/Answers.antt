use Rattle.obex_session.proofs.UnitLaws.{names-have_units}
use Rattle.obex_session.proofs.laws.names_have_units.Goals as goal

pub returns : goal.returns
returns c = names-have_units
