use Rattle.request_laws.proofs.SpellableClients.{client_frames_are_read}
use Rattle.request_laws.proofs.client_frames_are_read.Goals as goal

pub returns : goal.returns
returns c = client_frames_are_read
