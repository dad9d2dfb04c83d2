use Rattle.talk_laws.proofs.LinkObjects.{link-objects_look_back, link-objects_grow, objects-fall_to_channels}
use Rattle.talk_laws.proofs.link_objects_look_back.Goals as goal

pub returns : goal.returns
returns c = record { back = link-objects_look_back; grow = link-objects_grow; channels = objects-fall_to_channels }
