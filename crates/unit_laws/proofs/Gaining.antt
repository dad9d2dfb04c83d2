-- A client comes to what its units say.
use Rattle.std.specs.List.{flat_map}
use Rattle.scenario_laws.specs.host_laws.specs.OverLinks.{talk_marks}
use Rattle.scenario_laws.specs.host_laws.proofs.Pushing.{clients_are_pushed}
use Rattle.unit_laws.specs.Gaining.{ClientsCome}

pub clients_come : ClientsCome
clients_come asks settings occasions now did have lives = clients_are_pushed settings (asks.clients settings) (flat_map talk_marks lives.came.talk) now.upper lives.so.lives
