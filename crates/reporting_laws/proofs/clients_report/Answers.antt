use Rattle.reporting_laws.proofs.Reporting.{clients_report}
use Rattle.reporting_laws.proofs.clients_report.Goals as goal

pub returns : goal.returns
returns g c = clients_report
