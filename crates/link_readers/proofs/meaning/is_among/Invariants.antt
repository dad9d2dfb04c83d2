use Rattle.std.proofs.Common.{◌≡◌, drop}
use Rattle.std.specs.List.{list_any}
use Rattle.link_talk.specs.Requests.{is_failure}
use Rattle.link_readers.proofs.meaning.is_among.Given as goal

abbrev pub invariant-loop-one : goal.invariant-loop-one
invariant-loop-one l = list_any (is_failure l.identifier l.own) (drop l.one-index l.failures) ≡ list_any (is_failure l.identifier l.own) l.failures
