use Rattle.own_channel_laws.proofs.Frames.{frames-are_held}
use Rattle.channel_laws.proofs.laws.frames_are_held.Goals as goal

pub returns : goal.returns
returns c = frames-are_held
