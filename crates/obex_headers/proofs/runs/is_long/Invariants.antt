use Rattle.std.proofs.Common.{◌≡◌, drop}
use Rattle.std.specs.List.{list_any}
use Rattle.obex_headers.specs.Reader.{octets_of_all}
use Rattle.obex_headers.specs.Runs.{is_long}
use Rattle.obex_headers.proofs.runs.is_long.Given as goal

abbrev pub invariant-loop-name : goal.invariant-loop-name
invariant-loop-name l = list_any is_long (octets_of_all (drop l.name-index l.names)) ≡ list_any is_long (octets_of_all l.names)
