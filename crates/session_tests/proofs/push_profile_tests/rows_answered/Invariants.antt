use Rattle.std.proofs.Common.{◌≡◌}
use Rattle.std.specs.Prelude.{is_some}
use Rattle.push_client.specs.push_model.specs.Sessions.{is_pending}
use Rattle.session_tests.proofs.push_profile_tests.rows_answered.Given as goal

abbrev pub invariant-loop-i : goal.invariant-loop-i
invariant-loop-i l = is_some l.inbox.contents.pending ≡ is_pending l.server.listener.service.sessions
