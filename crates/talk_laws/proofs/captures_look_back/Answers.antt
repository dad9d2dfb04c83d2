use Rattle.talk_laws.proofs.Captures.{captures-look_back, captures-grow}
use Rattle.talk_laws.proofs.captures_look_back.Goals as goal

pub returns : goal.returns
returns c = record { back = captures-look_back; grow = captures-grow }
