use Rattle.std.proofs.Common.{◌≡◌, ◌++◌, drop}
use Rattle.obex_headers.specs.Reader.{plain_headers, octets_of_all}
use Rattle.obex_headers.specs.Runs.{bodies}
use Rattle.obex_headers.proofs.runs.bodies.Given as goal

abbrev pub invariant-loop-header : goal.invariant-loop-header
invariant-loop-header l = octets_of_all l.found.items ++ bodies (plain_headers (drop l.header-index l.headers)) ≡ bodies (plain_headers l.headers)
