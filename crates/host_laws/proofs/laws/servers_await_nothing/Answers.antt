use Rattle.host_laws.proofs.Unasking.{servers_await_nothing}
use Rattle.host_laws.proofs.laws.servers_await_nothing.Goals as goal

pub returns : goal.returns
returns c = servers_await_nothing
