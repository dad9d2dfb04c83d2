use Rattle.obex_session.proofs.NameLaws.{one_letter}
use Rattle.session_tests.proofs.push_client_tests.begins.Goals as goal

pub begin-requires : goal.begin-requires
begin-requires c = one_letter
