use Rattle.push_laws.proofs.Opening.{opens-the_server_channel}
use Rattle.push_laws.proofs.client_laws.opens_the_server_channel.Goals as goal

pub returns : goal.returns
returns c = opens-the_server_channel
