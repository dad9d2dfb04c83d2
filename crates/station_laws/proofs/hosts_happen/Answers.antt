use Rattle.station_laws.proofs.Happening.{efforts_happen, orders_happen}
use Rattle.station_laws.proofs.hosts_happen.Goals as goal

pub returns-clause-efforts : goal.returns-clause-efforts
returns-clause-efforts g c U V = efforts_happen U V

pub returns-clause-orders : goal.returns-clause-orders
returns-clause-orders g c U V = orders_happen U V
