use Rattle.talk_laws.proofs.Accounts.{accounts-look_back, accounts-grow}
use Rattle.talk_laws.proofs.accounts_look_back.Goals as goal

pub returns : goal.returns
returns c = record { back = accounts-look_back; grow = accounts-grow }
