use Rattle.tape_laws.proofs.Once.{servers_hear_news_alone}
use Rattle.tape_laws.proofs.servers_hear_news_alone.Goals as goal

pub returns : goal.returns
returns c = servers_hear_news_alone
