use Rattle.obex_session.proofs.NameLaws.{one_letter}
use Rattle.session_tests.proofs.obex_session_tests.put_on.Goals as goal

pub put_next-requires-clause-few : goal.put_next-requires-clause-few
put_next-requires-clause-few c = one_letter
