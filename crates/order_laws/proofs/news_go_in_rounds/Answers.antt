use Rattle.order_laws.proofs.Heard.{news_go_in_rounds}
use Rattle.order_laws.proofs.news_go_in_rounds.Goals as goal

pub returns : goal.returns
returns g c = news_go_in_rounds
