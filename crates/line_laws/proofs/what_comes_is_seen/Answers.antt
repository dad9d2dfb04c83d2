use Rattle.line_laws.proofs.Coming.{heard_is_seen}
use Rattle.line_laws.proofs.what_comes_is_seen.Goals as goal

pub returns-clause-heard : goal.returns-clause-heard
returns-clause-heard g c U = heard_is_seen U
