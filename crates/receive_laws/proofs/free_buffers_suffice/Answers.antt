use Rattle.receive_laws.proofs.Reaching.{free_buffers_suffice}
use Rattle.receive_laws.proofs.free_buffers_suffice.Goals as goal

pub returns : goal.returns
returns c = free_buffers_suffice
