use Rattle.std.proofs.Common.{◌∙◌, []}
use Rattle.bt_host.proofs.played_server.ServerHostHost.out.Goals as goal

pub returns-clause-octets : goal.returns-clause-octets
returns-clause-octets g c = λ port sound. c.out.ensures ∙ (sound.2.is_seen []).octets

pub returns-clause-sent : goal.returns-clause-sent
returns-clause-sent g c = λ port sound. (sound.2.is_seen []).sends.out
