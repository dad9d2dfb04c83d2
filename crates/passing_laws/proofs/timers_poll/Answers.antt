use Rattle.passing_laws.proofs.Polling.{timers-poll}
use Rattle.passing_laws.proofs.TimersFind.{timers-find}
use Rattle.passing_laws.proofs.timers_poll.Goals as goal

pub returns : goal.returns
returns c = record { poll = timers-poll; find = timers-find }
