use Rattle.talk_laws.proofs.Spelling.{channel-objects_look_back, channel-objects_grow}
use Rattle.talk_laws.proofs.channel_objects_look_back.Goals as goal

pub returns : goal.returns
returns c = record { back = channel-objects_look_back; grow = channel-objects_grow }
