use Rattle.std.proofs.Common.{◌≡◌}
use Rattle.std.specs.Prelude.{is_some}
use Rattle.obex_session.specs.Rules.{is_under_way, progress_in}
use Rattle.session_tests.proofs.obex_session_tests.responses_until_done.Given as goal

abbrev pub invariant-loop-round : goal.invariant-loop-round
invariant-loop-round l = is_some l.inbox.contents.pending ≡ is_under_way (progress_in l.server.course)
