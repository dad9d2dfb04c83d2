use Rattle.request_laws.proofs.Runs.{servers_serve_in_order}
use Rattle.request_laws.proofs.servers_serve_in_order.Goals as goal

pub returns : goal.returns
returns c = servers_serve_in_order
