-- On each link of a run one channel alone carries packets at host b.
use Rattle.host_laws.specs.OverLinks.{parts}
use Rattle.host_laws.proofs.OneOnLinks.{servers-carry_alone}
use Rattle.scenario_laws.specs.Alone.{RunsCarryAlone}
use Rattle.scenario_laws.proofs.Orderly.{parts-are_asked}

pub runs-carry_alone : RunsCarryAlone
runs-carry_alone scenario content capture ran asks came so nothing =
    servers-carry_alone scenario.settings.transport scenario.settings content asks came.talk ran.world.b.upper so nothing (parts-are_asked scenario content capture ran (parts came.talk) came.fall)
