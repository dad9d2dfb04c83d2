use Rattle.obex_session.proofs.TryingLaws.{inbox-is_called_in_runs, inbox-is_called_anew}
use Rattle.obex_session.proofs.laws.inbox_is_called_up_to_faults.Goals as goal

pub returns-clause-always : goal.returns-clause-always
returns-clause-always c = inbox-is_called_in_runs

pub returns-clause-anew : goal.returns-clause-anew
returns-clause-anew c = inbox-is_called_anew
