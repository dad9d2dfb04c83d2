use Rattle.sdp_server.proofs.Answering.{answers_searches}
use Rattle.sdp_server.proofs.laws.searches_are_answered.Goals as goal

pub returns : goal.returns
returns c = answers_searches
