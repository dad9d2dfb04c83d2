use Rattle.link_talk.proofs.Growing.{mode-stands, spoken-grows, packets-grow}
use Rattle.link_talk.proofs.laws.modes_stand.Goals as goal

pub returns : goal.returns
returns c = record { mode = mode-stands; spoken = spoken-grows; packets = packets-grow }
