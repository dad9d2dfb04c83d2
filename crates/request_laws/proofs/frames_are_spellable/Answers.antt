use Rattle.request_laws.proofs.Spellable.{frames_are_spellable}
use Rattle.request_laws.proofs.frames_are_spellable.Goals as goal

pub returns : goal.returns
returns c = frames_are_spellable
