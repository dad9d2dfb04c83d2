use Rattle.stream_laws.proofs.StreamsByLinks.{receives_by_links}
use Rattle.stream_laws.proofs.receives_by_links.Goals as goal

pub returns : goal.returns
returns c = receives_by_links
