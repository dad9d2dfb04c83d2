use Rattle.orderly_laws.proofs.Channels.{servers_hold_what_moved}
use Rattle.orderly_laws.proofs.servers_hold_what_moved.Goals as goal

pub returns : goal.returns
returns c = servers_hold_what_moved
