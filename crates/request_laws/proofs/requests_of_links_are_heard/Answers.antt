use Rattle.request_laws.proofs.Heard.{requests_of_links_are_heard}
use Rattle.request_laws.proofs.requests_of_links_are_heard.Goals as goal

pub returns : goal.returns
returns c = requests_of_links_are_heard
