use Rattle.std.proofs.Common.{◌≡◌, drop}
use Rattle.std.specs.List.{list_any}
use Rattle.link_talk.specs.Requests.{is_own_call}
use Rattle.link_readers.proofs.meaning.is_own_among.Given as goal

abbrev pub invariant-loop-one : goal.invariant-loop-one
invariant-loop-one l = list_any (is_own_call l.identifier l.own) (drop l.one-index l.calls) ≡ list_any (is_own_call l.identifier l.own) l.calls
