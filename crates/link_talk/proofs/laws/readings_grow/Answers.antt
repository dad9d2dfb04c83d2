use Rattle.link_talk.proofs.Growing.{reading-grows, stretch-grows, passages-grow}
use Rattle.link_talk.proofs.laws.readings_grow.Goals as goal

pub returns : goal.returns
returns c = record { reading = reading-grows; stretch = stretch-grows; passages = passages-grow }
