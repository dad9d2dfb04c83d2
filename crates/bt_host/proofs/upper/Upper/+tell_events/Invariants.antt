use Rattle.std.proofs.Common.{length}
use Rattle.bt_host.proofs.upper.Upper.+tell_events.Given as goal

abbrev pub decreases-tell_events : goal.decreases-tell_events
decreases-tell_events g l = length l.self.now.machine.channels.events
