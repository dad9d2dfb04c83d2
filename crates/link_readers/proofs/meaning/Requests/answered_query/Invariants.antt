use Rattle.std.proofs.Common.{◌≡◌, take, reverse, map}
use Rattle.std.specs.Option.{option_map}
use Rattle.link_talk.specs.Requests.{last_run, has_identifier}
use Rattle.link_readers.specs.Lent.{plain_query}
use Rattle.link_readers.proofs.Runs.{runs_at}
use Rattle.link_readers.proofs.meaning.Requests.answered_query.Given as goal

abbrev pub invariant-loop-one : goal.invariant-loop-one
invariant-loop-one l = record {
  found_is : option_map (λ one. plain_query one.now) l.found ≡ last_run (has_identifier l.identifier) (reverse (map plain_query (take l.one-index l.self.queries.items)));
  runs_is : l.runs ≡ runs_at (has_identifier l.identifier) (reverse (map plain_query (take l.one-index l.self.queries.items)));
}
