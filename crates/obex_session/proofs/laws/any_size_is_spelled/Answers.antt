use Rattle.obex_session.proofs.AnySizeLaws.{leaves_only_the_bound}
use Rattle.obex_session.proofs.ObjectLaws.{spells_any_size}
use Rattle.obex_session.proofs.laws.any_size_is_spelled.Goals as goal

pub returns-clause-spelled : goal.returns-clause-spelled
returns-clause-spelled c = spells_any_size

pub returns-clause-bounded : goal.returns-clause-bounded
returns-clause-bounded c = leaves_only_the_bound
