use Rattle.std.proofs.Common.{sym, ap, ◌∙◌, append-nil, ◌++◌, map}
use Rattle.object_lines.proofs.OnePass.{told_on_it}
use Rattle.object_lines.proofs.passing.KeptChannel.take.Goals as goal

pub returns-in_ok-hear-clause-told : goal.returns-in_ok-hear-clause-told
returns-in_ok-hear-clause-told c = rw c.in-Some.is (told_on_it c.args.party.now c.args.self.now.entry.channel c.in-Some.taken _ _ _ c.if-taken-channel.true c.in_ok-hear.ensures.told)
