use Rattle.std.proofs.Common.{◌≡◌, drop}
use Rattle.std.specs.List.{list_any}
use Rattle.link_talk.specs.Channels.{is_owner}
use Rattle.object_lines.specs.Passes.{kept_entries}
use Rattle.object_lines.proofs.passing.is_owned.Given as goal

abbrev pub invariant-loop-one : goal.invariant-loop-one
invariant-loop-one l = list_any (is_owner l.channel) (kept_entries (drop l.one-index l.kept)) ≡ list_any (is_owner l.channel) (kept_entries l.kept)
