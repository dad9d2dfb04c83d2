use Rattle.std.proofs.Common.{◌≡◌, drop}
use Rattle.obex_headers.specs.Reader.{plain_headers}
use Rattle.obex_headers.specs.Runs.{bodies, ahead_of_name}
use Rattle.obex_headers.proofs.runs.has_body_ahead.Given as goal

abbrev pub invariant-loop-header : goal.invariant-loop-header
invariant-loop-header l = bodies (ahead_of_name (plain_headers (drop l.header-index l.headers))) ≡ bodies (ahead_of_name (plain_headers l.headers))
