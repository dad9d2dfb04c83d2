use Rattle.stream_laws.proofs.StreamsByLinks.{receives_store_by_links}
use Rattle.stream_laws.proofs.receives_store_by_links.Goals as goal

pub returns : goal.returns
returns c = receives_store_by_links
