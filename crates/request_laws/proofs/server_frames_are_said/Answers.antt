use Rattle.request_laws.proofs.SpellableServers.{server_frames_are_said}
use Rattle.request_laws.proofs.server_frames_are_said.Goals as goal

pub returns : goal.returns
returns c = server_frames_are_said
