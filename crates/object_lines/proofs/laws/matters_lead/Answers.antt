use Rattle.object_lines.proofs.Mattering.{matters-lead}
use Rattle.object_lines.proofs.laws.matters_lead.Goals as goal

pub returns : goal.returns
returns c = matters-lead
