use Rattle.std.proofs.Common.{◌≡◌}
use Rattle.std.specs.Prelude.{is_some}
use Rattle.obex_session.specs.Rules.{is_under_way, progress_in}
use Rattle.session_tests.proofs.obex_session_tests.rows_answered.Given as goal

abbrev pub invariant-loop-i : goal.invariant-loop-i
invariant-loop-i l = is_some l.inbox.contents.pending ≡ is_under_way (progress_in l.session.course)
