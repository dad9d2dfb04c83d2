use Rattle.std.proofs.Common.{◌≡◌, take, reverse}
use Rattle.std.specs.Prelude.{filter}
use Rattle.link_talk.specs.Requests.{last_run, went, is_call}
use Rattle.link_readers.proofs.Runs.{runs_at}
use Rattle.link_readers.proofs.meaning.Requests.answered_call.Given as goal

abbrev pub invariant-loop-one : goal.invariant-loop-one
invariant-loop-one l = record {
  found_is : l.found ≡ last_run (is_call l.identifier l.source) (filter (went l.flow) (reverse (take l.one-index l.self.calls.items)));
  runs_is : l.runs ≡ runs_at (is_call l.identifier l.source) (filter (went l.flow) (reverse (take l.one-index l.self.calls.items)));
}
