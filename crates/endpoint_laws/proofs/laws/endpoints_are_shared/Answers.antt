use Rattle.endpoint_laws.proofs.Outgoing.{given-are_on_channels}
use Rattle.endpoint_laws.proofs.Shared.{endpoints-are_shared}
use Rattle.endpoint_laws.proofs.laws.endpoints_are_shared.Goals as goal

pub returns : goal.returns
returns c = record { shared = endpoints-are_shared c.endpoints_are_given_once.ensures.once c.channels_belong.ensures c.each_end_runs.ensures; given = given-are_on_channels }
