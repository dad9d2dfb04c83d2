use Rattle.request_laws.proofs.Paired.{paired_servers_serve}
use Rattle.request_laws.proofs.paired_servers_serve.Goals as goal

pub returns : goal.returns
returns c = paired_servers_serve
